-- The types of the code's numbers.
use Rattle.frame.specs.declared.bounded.Bounded.{Bounded}

-- the identifier of a sequence
abbrev pub Identifier : Type 0
Identifier = Bounded 4294967295

-- a message number or a credit
abbrev pub Number : Type 0
Number = Bounded 9223372036854775807
