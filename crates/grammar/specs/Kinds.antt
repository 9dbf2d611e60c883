-- The kinds of piece: what one holds, how it is read, how it is spelt, and which values are in bounds.
use Rattle.std.specs.Prelude.{◌≡◌, ℕ, true, cond, List, ◌++◌, Some, None, decimal, Option}
use Rattle.std.specs.Str.{bytes_eq}
use Rattle.frame.specs.Ascending.{follows}
use Rattle.frame.specs.Bounds.{IsIdentifier, IsNumber}
use Rattle.frame.specs.Meanings.{IsLetter}
use Rattle.frame.specs.declared.range.Range.{Range}
use Rattle.pieces.specs.Attributes.{range_text, range_read}
use Rattle.pieces.specs.Hex.{hex_text, letter_read}
use Rattle.pieces.specs.Names.{fault_name}
use Rattle.pieces.specs.Strips.{then}
use Rattle.pieces.specs.Tags.{tag_text}
use Rattle.pieces.specs.Values.{urn, identifier_read, number_read, fault_code_read}
use Rattle.pieces.specs.declared.names.FaultCode.{FaultCode}
use Rattle.pieces.specs.declared.token.Tag.{Tag}

pub data Kind : Type 0 where
  -- this tag
  tag : Tag → Kind
  -- any identifier
  identifier : Kind
  -- this identifier once more
  again : ℕ → Kind
  -- a message number or a credit
  number : Kind
  -- a range that may stand behind these
  range_behind : List Range → Kind
  letter : Kind
  fault_code : Kind

abbrev pub Value : Kind → Type 0
Value (tag t) = Unit {0}
Value identifier = ℕ
Value (again n) = Unit {0}
Value number = ℕ
Value (range_behind rs) = Range
Value letter = List ℕ
Value fault_code = FaultCode

unfoldable pub reader : (κ : Kind) → List ℕ → Option (Value κ)
reader (tag t) p = cond (bytes_eq p (tag_text t)) (Some tt) None
reader identifier p = identifier_read p
reader (again n) p = cond (bytes_eq p (urn ++ decimal n)) (Some tt) None
reader number p = number_read p
reader (range_behind rs) p = then (range_read p) (λ x. cond (follows rs x) (Some x) None)
reader letter p = letter_read p
reader fault_code p = fault_code_read p

abbrev pub spell : (κ : Kind) → Value κ → List ℕ
spell (tag t) a = tag_text t
spell identifier n = urn ++ decimal n
spell (again n) a = urn ++ decimal n
spell number m = decimal m
spell (range_behind rs) x = range_text x
spell letter bs = hex_text bs
spell fault_code c = fault_name c

abbrev pub Good : (κ : Kind) → Value κ → Type 0
Good (tag t) a = Unit {0}
Good identifier n = IsIdentifier n
Good (again n) a = Unit {0}
Good number m = IsNumber m
Good (range_behind rs) x = follows rs x ≡ true
Good letter bs = IsLetter bs
Good fault_code c = Unit {0}
