-- What a frame says, in numbers and lists: all that the text, the ends and the theorems speak of.
use Rattle.std.specs.Prelude.{◌≡◌, ℕ, ◌<◌, ◌≤◌, Bool, true, List, [], ◌∷◌, length, Some, None, Option}
use Rattle.std.specs.Option.{option_map}
use Rattle.letter.specs.Letters.{content}
use Rattle.frame.specs.Ascending.{ascending}
use Rattle.frame.specs.Bounds.{IsIdentifier, IsNumber}
use Rattle.frame.specs.Listed.{listed}
use Rattle.frame.specs.declared.fault.Fault.{Fault}
use Rattle.frame.specs.declared.fault.Fault.TheVariants as fault
use Rattle.frame.specs.declared.frame.Frame.{Frame}
use Rattle.frame.specs.declared.frame.Frame.TheVariants as frame
use Rattle.frame.specs.declared.range.Range.{Range}

-- a fault's name, with the identifier of the sequence that it is about
pub data FaultMeaning : Type 0 where
  unknown_sequence : ℕ → FaultMeaning
  sequence_terminated : ℕ → FaultMeaning
  sequence_closed : ℕ → FaultMeaning
  create_sequence_refused : FaultMeaning

-- the ten forms, each with what it holds: n is the sequence's identifier, rs the ranges, c the credit
pub data Meaning : Type 0 where
  create_sequence : Meaning
  create_sequence_response : (n : ℕ) → Meaning
  -- a message number and the bytes of a letter
  sequence : (n m : ℕ) (bs : List ℕ) → Meaning
  ack_requested : (n : ℕ) → Meaning
  sequence_acknowledgement : (n : ℕ) (rs : List Range) (final : Bool) (c : ℕ) → Meaning
  close_sequence : (n : ℕ) (last : Option ℕ) → Meaning
  close_sequence_response : (n : ℕ) (rs : List Range) (c : ℕ) → Meaning
  terminate_sequence : (n : ℕ) (last : Option ℕ) → Meaning
  terminate_sequence_response : (n : ℕ) (rs : List Range) (c : ℕ) → Meaning
  sequence_fault : FaultMeaning → Meaning

abbrev pub fault_meaning : Fault → FaultMeaning
fault_meaning (fault.UnknownSequence i) = unknown_sequence i.value
fault_meaning (fault.SequenceTerminated i) = sequence_terminated i.value
fault_meaning (fault.SequenceClosed i) = sequence_closed i.value
fault_meaning fault.CreateSequenceRefused = create_sequence_refused

abbrev pub meaning : Frame → Meaning
meaning frame.CreateSequence = create_sequence
meaning (frame.CreateSequenceResponse i) = create_sequence_response i.value
meaning (frame.Sequence i m l) = sequence i.value m.value (content l)
meaning (frame.AckRequested i) = ack_requested i.value
meaning (frame.SequenceAcknowledgement r final) =
    sequence_acknowledgement r.identifier.value (listed r.ranges) final r.credit.value
meaning (frame.CloseSequence i last) = close_sequence i.value (option_map (λ m. m.value) last)
meaning (frame.CloseSequenceResponse r) =
    close_sequence_response r.identifier.value (listed r.ranges) r.credit.value
meaning (frame.TerminateSequence i last) = terminate_sequence i.value (option_map (λ m. m.value) last)
meaning (frame.TerminateSequenceResponse r) =
    terminate_sequence_response r.identifier.value (listed r.ranges) r.credit.value
meaning (frame.SequenceFault f) = sequence_fault (fault_meaning f)

-- what is in bounds
abbrev pub IsLast : Option ℕ → Type 0
IsLast None = Unit {0}
IsLast (Some m) = IsNumber m

abbrev pub AllBytes : List ℕ → Type 0
AllBytes [] = Unit {0}
AllBytes (b ∷ bs) = (b < 256) × AllBytes bs

abbrev pub IsLetter : List ℕ → Type 0
IsLetter bs = (1 ≤ length bs) × (length bs ≤ 48) × AllBytes bs

abbrev pub IsReceipt : ℕ → List Range → ℕ → Type 0
IsReceipt n rs c = IsIdentifier n × (length rs ≤ 5) × (ascending 1 rs ≡ true) × IsNumber c

abbrev pub IsFault : FaultMeaning → Type 0
IsFault (unknown_sequence n) = IsIdentifier n
IsFault (sequence_terminated n) = IsIdentifier n
IsFault (sequence_closed n) = IsIdentifier n
IsFault create_sequence_refused = Unit {0}

unfoldable pub Proper : Meaning → Type 0
Proper create_sequence = Unit {0}
Proper (create_sequence_response n) = IsIdentifier n
Proper (sequence n m bs) = IsIdentifier n × IsNumber m × IsLetter bs
Proper (ack_requested n) = IsIdentifier n
Proper (sequence_acknowledgement n rs final c) = IsReceipt n rs c
Proper (close_sequence n last) = IsIdentifier n × IsLast last
Proper (close_sequence_response n rs c) = IsReceipt n rs c
Proper (terminate_sequence n last) = IsIdentifier n × IsLast last
Proper (terminate_sequence_response n rs c) = IsReceipt n rs c
Proper (sequence_fault f) = IsFault f

-- that a letter is made of bytes, which of all this the type of a frame does not tell by itself
abbrev pub LetterFits : Meaning → Type 0
LetterFits create_sequence = Unit {0}
LetterFits (create_sequence_response n) = Unit {0}
LetterFits (sequence n m bs) = AllBytes bs
LetterFits (ack_requested n) = Unit {0}
LetterFits (sequence_acknowledgement n rs final c) = Unit {0}
LetterFits (close_sequence n last) = Unit {0}
LetterFits (close_sequence_response n rs c) = Unit {0}
LetterFits (terminate_sequence n last) = Unit {0}
LetterFits (terminate_sequence_response n rs c) = Unit {0}
LetterFits (sequence_fault f) = Unit {0}
