-- What the text between two tags is read as: an identifier, a number, a fault's name.
use Rattle.std.specs.Prelude.{ℕ, cond, List, Some, None, codes, Option}
use Rattle.std.specs.Str.{bytes_eq}
use Rattle.frame.specs.Bounds.{identifier_of, number_of}
use Rattle.pieces.specs.Names.{fault_name}
use Rattle.pieces.specs.Numbers.{plain}
use Rattle.pieces.specs.Strips.{strip_of, then}
use Rattle.pieces.specs.declared.names.FaultCode.{FaultCode}
use Rattle.pieces.specs.declared.names.FaultCode.TheVariants.{UnknownSequence, SequenceTerminated, SequenceClosed, CreateSequenceRefused}

-- what stands before an identifier
abbrev pub urn : List ℕ
urn = codes "urn:path:"

abbrev pub identifier_read : List ℕ → Option ℕ
identifier_read p = then (strip_of urn p) (λ ds. then (plain ds) identifier_of)

abbrev pub number_read : List ℕ → Option ℕ
number_read p = then (plain p) number_of

abbrev pub fault_code_read : List ℕ → Option FaultCode
fault_code_read p =
    cond (bytes_eq p (fault_name UnknownSequence)) (Some UnknownSequence)
    (cond (bytes_eq p (fault_name SequenceTerminated)) (Some SequenceTerminated)
    (cond (bytes_eq p (fault_name SequenceClosed)) (Some SequenceClosed)
    (cond (bytes_eq p (fault_name CreateSequenceRefused)) (Some CreateSequenceRefused) None)))
