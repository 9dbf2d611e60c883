-- The pieces of each frame.
use Rattle.std.proofs.Common.{ℕ, Bool, true, false, List, [], ◌∷◌, ◌++◌, map, Some, None, decimal, Option}
use Rattle.frame.specs.Meanings.{Meaning, create_sequence, create_sequence_response, sequence, ack_requested, sequence_acknowledgement, close_sequence, close_sequence_response, terminate_sequence, terminate_sequence_response, sequence_fault}
use Rattle.frame.specs.Meanings.{FaultMeaning, unknown_sequence, sequence_terminated, sequence_closed, create_sequence_refused}
use Rattle.frame.specs.declared.range.Range.{Range}
use Rattle.pieces.specs.Attributes.{range_text}
use Rattle.pieces.specs.Hex.{hex_text}
use Rattle.pieces.specs.Names.{fault_name}
use Rattle.pieces.specs.Tags.{tag_text}
use Rattle.pieces.specs.Values.{urn}
use Rattle.pieces.specs.declared.names.Element.{Element}
use Rattle.pieces.specs.declared.names.Element.TheVariants as element
use Rattle.pieces.specs.declared.names.FaultCode.{FaultCode}
use Rattle.pieces.specs.declared.names.FaultCode.TheVariants as code
use Rattle.pieces.specs.declared.token.Tag.TheVariants as tag

-- pieces, before the pieces ps
abbrev pub Words : Type 0
Words = List (List ℕ)

abbrev pub open_word : Element → List ℕ
open_word e = tag_text (tag.Open e)

abbrev pub close_word : Element → List ℕ
close_word e = tag_text (tag.Close e)

abbrev pub within_words : Element → List ℕ → Words → Words
within_words e w ps = open_word e ∷ (w ∷ (close_word e ∷ ps))

abbrev pub identifier_words : ℕ → Words → Words
identifier_words n ps = within_words element.Identifier (urn ++ decimal n) ps

abbrev pub naming_words : Element → ℕ → Words → Words
naming_words e n ps = open_word e ∷ identifier_words n (close_word e ∷ ps)

abbrev pub last_words : Option ℕ → Words → Words
last_words None ps = ps
last_words (Some m) ps = within_words element.LastMsgNumber (decimal m) ps

abbrev pub ending_words : Element → ℕ → Option ℕ → Words
ending_words e n last = open_word e ∷ identifier_words n (last_words last (close_word e ∷ []))

abbrev pub ranges_words : List Range → Words
ranges_words [] = tag_text (tag.Empty element.Nothing) ∷ []
ranges_words (x ∷ xs) = map range_text (x ∷ xs)

abbrev pub final_words : Bool → Words → Words
final_words true ps = tag_text (tag.Empty element.Final) ∷ ps
final_words false ps = ps

abbrev pub credit_words : ℕ → Words → Words
credit_words c ps = within_words element.Credit (decimal c) (close_word element.SequenceAcknowledgement ∷ ps)

-- a receipt up to its ranges and with them
abbrev pub head_words : ℕ → List Range → Words
head_words n rs = (open_word element.SequenceAcknowledgement ∷ identifier_words n []) ++ ranges_words rs

abbrev pub receipt_words : ℕ → List Range → Bool → ℕ → Words → Words
receipt_words n rs final c ps = head_words n rs ++ final_words final (credit_words c ps)

abbrev pub code_words : FaultCode → Words → Words
code_words c ps = open_word element.SequenceFault ∷ within_words element.FaultCode (fault_name c) ps

abbrev pub fault_words : FaultMeaning → Words → Words
fault_words (unknown_sequence n) ps = code_words code.UnknownSequence (naming_words element.Detail n ps)
fault_words (sequence_terminated n) ps = code_words code.SequenceTerminated (naming_words element.Detail n ps)
fault_words (sequence_closed n) ps = code_words code.SequenceClosed (naming_words element.Detail n ps)
fault_words create_sequence_refused ps = code_words code.CreateSequenceRefused ps

abbrev pub wording : Meaning → Words
wording create_sequence = tag_text (tag.Empty element.CreateSequence) ∷ []
wording (create_sequence_response n) = naming_words element.CreateSequenceResponse n []
wording (sequence n m bs) =
    open_word element.Sequence ∷ identifier_words n (within_words element.MessageNumber (decimal m)
    (close_word element.Sequence ∷ within_words element.Letter (hex_text bs) []))
wording (ack_requested n) = naming_words element.AckRequested n []
wording (sequence_acknowledgement n rs final c) = receipt_words n rs final c []
wording (close_sequence n last) = ending_words element.CloseSequence n last
wording (close_sequence_response n rs c) = receipt_words n rs true c (naming_words element.CloseSequenceResponse n [])
wording (terminate_sequence n last) = ending_words element.TerminateSequence n last
wording (terminate_sequence_response n rs c) =
    receipt_words n rs true c (naming_words element.TerminateSequenceResponse n [])
wording (sequence_fault f) = fault_words f (close_word element.SequenceFault ∷ [])
