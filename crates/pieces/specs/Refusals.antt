-- The number by which a call says that what it got is no frame.
use Rattle.std.specs.Prelude.{ℕ}
use Rattle.pieces.specs.declared.fault.ReadFault.{ReadFault}

abbrev pub refusal_number : ReadFault → ℕ
refusal_number e = 6
