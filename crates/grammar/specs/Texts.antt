-- The one text of each frame: this is the format, to be compared with it by eye.
use Rattle.std.specs.Prelude.{ℕ, Bool, true, false, List, [], ◌∷◌, ◌++◌, Some, None, decimal, Option}
use Rattle.frame.specs.Meanings.{Meaning, create_sequence, create_sequence_response, sequence, ack_requested, sequence_acknowledgement, close_sequence, close_sequence_response, terminate_sequence, terminate_sequence_response, sequence_fault}
use Rattle.frame.specs.Meanings.{FaultMeaning, unknown_sequence, sequence_terminated, sequence_closed, create_sequence_refused}
use Rattle.frame.specs.declared.range.Range.{Range}
use Rattle.pieces.specs.Attributes.{range_text}
use Rattle.pieces.specs.Hex.{hex_text}
use Rattle.pieces.specs.Names.{fault_name}
use Rattle.pieces.specs.Tags.{tag_text}
use Rattle.pieces.specs.Values.{urn}
use Rattle.pieces.specs.declared.names.Element.{Element}
use Rattle.pieces.specs.declared.names.Element.TheVariants as element
use Rattle.pieces.specs.declared.names.FaultCode.TheVariants as code
use Rattle.pieces.specs.declared.token.Tag.TheVariants as tag

-- `<Name>`, the inner text, `</Name>`
abbrev pub enclosed : Element → List ℕ → List ℕ
enclosed e inner = tag_text (tag.Open e) ++ (inner ++ tag_text (tag.Close e))

unfoldable pub identifier_text : ℕ → List ℕ
identifier_text n = enclosed element.Identifier (urn ++ decimal n)

unfoldable pub last_text : Option ℕ → List ℕ
last_text None = []
last_text (Some m) = enclosed element.LastMsgNumber (decimal m)

-- ranges one after another
unfoldable pub range_texts : List Range → List ℕ
range_texts [] = []
range_texts (x ∷ xs) = range_text x ++ range_texts xs

-- the ranges of a receipt, or that there are none
unfoldable pub ranges_text : List Range → List ℕ
ranges_text [] = tag_text (tag.Empty element.Nothing)
ranges_text (x ∷ xs) = range_texts (x ∷ xs)

unfoldable pub final_text : Bool → List ℕ
final_text true = tag_text (tag.Empty element.Final)
final_text false = []

unfoldable pub receipt_text : ℕ → List Range → Bool → ℕ → List ℕ
receipt_text n rs final c =
    enclosed element.SequenceAcknowledgement
    (identifier_text n ++ (ranges_text rs ++ (final_text final ++ enclosed element.Credit (decimal c))))

unfoldable pub detail_text : ℕ → List ℕ
detail_text n = enclosed element.Detail (identifier_text n)

unfoldable pub fault_text : FaultMeaning → List ℕ
fault_text (unknown_sequence n) = enclosed element.FaultCode (fault_name code.UnknownSequence) ++ detail_text n
fault_text (sequence_terminated n) = enclosed element.FaultCode (fault_name code.SequenceTerminated) ++ detail_text n
fault_text (sequence_closed n) = enclosed element.FaultCode (fault_name code.SequenceClosed) ++ detail_text n
fault_text create_sequence_refused = enclosed element.FaultCode (fault_name code.CreateSequenceRefused)

unfoldable pub text : Meaning → List ℕ
text create_sequence = tag_text (tag.Empty element.CreateSequence)
text (create_sequence_response n) = enclosed element.CreateSequenceResponse (identifier_text n)
text (sequence n m bs) =
    enclosed element.Sequence (identifier_text n ++ enclosed element.MessageNumber (decimal m)) ++
    enclosed element.Letter (hex_text bs)
text (ack_requested n) = enclosed element.AckRequested (identifier_text n)
text (sequence_acknowledgement n rs final c) = receipt_text n rs final c
text (close_sequence n last) = enclosed element.CloseSequence (identifier_text n ++ last_text last)
text (close_sequence_response n rs c) =
    receipt_text n rs true c ++ enclosed element.CloseSequenceResponse (identifier_text n)
text (terminate_sequence n last) = enclosed element.TerminateSequence (identifier_text n ++ last_text last)
text (terminate_sequence_response n rs c) =
    receipt_text n rs true c ++ enclosed element.TerminateSequenceResponse (identifier_text n)
text (sequence_fault f) = enclosed element.SequenceFault (fault_text f)
