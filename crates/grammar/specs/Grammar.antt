-- The tree of all frames. It is only a way to the theorem: what a frame's text is, `Texts` says.
use Rattle.std.specs.Prelude.{ℕ, zero, suc, Bool, true, false, List, [], ◌∷◌, ◌++◌, length, Some, None, Option, Result}
use Rattle.frame.specs.Meanings.{Meaning, create_sequence, create_sequence_response, sequence, ack_requested, sequence_acknowledgement, close_sequence, close_sequence_response, terminate_sequence, terminate_sequence_response, sequence_fault}
use Rattle.frame.specs.Meanings.{FaultMeaning, unknown_sequence, sequence_terminated, sequence_closed, create_sequence_refused}
use Rattle.frame.specs.declared.range.Range.{Range}
use Rattle.pieces.specs.declared.names.Element.{Element}
use Rattle.pieces.specs.declared.names.Element.TheVariants as element
use Rattle.pieces.specs.declared.names.FaultCode.{FaultCode}
use Rattle.pieces.specs.declared.names.FaultCode.TheVariants as code
use Rattle.pieces.specs.declared.token.Tag.{Tag}
use Rattle.pieces.specs.declared.token.Tag.TheVariants as tag
use Rattle.grammar.specs.Kinds.{Kind, Value, identifier, again, number, range_behind, letter, fault_code}
use Rattle.grammar.specs.Kinds as kind
use Rattle.grammar.specs.Trees.{Tree, stop, whole, reads, walk}

-- a part of a text, given what comes behind it
abbrev pub Part : Type 0 → Type 0
Part A = (A → Tree) → Tree

abbrev pub ends : Meaning → Tree
ends m = whole m stop

abbrev pub tagged : Tag → Tree → Tree → Tree
tagged t g h = reads (kind.tag t) (λ _. g) h

abbrev pub only : Tag → Tree → Tree
only t g = tagged t g stop

abbrev pub one : (κ : Kind) → Part (Value κ)
one κ k = reads κ k stop

abbrev pub within : {A : Type 0} → Element → Part A → Part A
within e part k = only (tag.Open e) (part (λ a. only (tag.Close e) (k a)))

abbrev pub identifier_part : Part ℕ
identifier_part = within element.Identifier (one identifier)

abbrev pub again_part : ℕ → Tree → Tree
again_part n g = within element.Identifier (one (again n)) (λ _. g)

abbrev pub number_part : Element → Part ℕ
number_part e = within e (one number)

-- up to i ranges more behind rs
abbrev pub more_ranges : ℕ → List Range → Part (List Range)
more_ranges zero rs k = k rs
more_ranges (suc i) rs k = reads (range_behind rs) (λ x. more_ranges i (rs ++ (x ∷ [])) k) (k rs)

abbrev pub ranges_part : Part (List Range)
ranges_part k =
    tagged (tag.Empty element.Nothing) (k []) (one (range_behind []) (λ x. more_ranges 4 (x ∷ []) k))

abbrev pub final_part : Part Bool
final_part k = tagged (tag.Empty element.Final) (k true) (k false)

-- behind a final receipt
abbrev pub response : Element → ℕ → Meaning → Tree
response e n m = again_part n (only (tag.Close e) (ends m))

abbrev pub after_final : ℕ → List Range → ℕ → Tree
after_final n rs c =
    tagged (tag.Open element.CloseSequenceResponse)
    (response element.CloseSequenceResponse n (close_sequence_response n rs c))
    (tagged (tag.Open element.TerminateSequenceResponse)
    (response element.TerminateSequenceResponse n (terminate_sequence_response n rs c)) stop)

abbrev pub after_receipt : ℕ → List Range → Bool → ℕ → Tree
after_receipt n rs true c = whole (sequence_acknowledgement n rs true c) (after_final n rs c)
after_receipt n rs false c = ends (sequence_acknowledgement n rs false c)

-- the credit, and the end of the receipt
abbrev pub credit_part : Part ℕ
credit_part k = number_part element.Credit (λ c. only (tag.Close element.SequenceAcknowledgement) (k c))

abbrev pub after_ranges : ℕ → List Range → Tree
after_ranges n rs = final_part (λ final. credit_part (after_receipt n rs final))

abbrev pub receipt_tree : Tree
receipt_tree = identifier_part (λ n. ranges_part (after_ranges n))

abbrev pub sequence_tree : Tree
sequence_tree =
    identifier_part (λ n. number_part element.MessageNumber (λ m. only (tag.Close element.Sequence)
    (within element.Letter (one letter) (λ bs. ends (sequence n m bs)))))

-- an identifier alone in its element
abbrev pub naming_tree : Element → (ℕ → Meaning) → Tree
naming_tree e make = identifier_part (λ n. only (tag.Close e) (ends (make n)))

abbrev pub last_part : Part (Option ℕ)
last_part k =
    tagged (tag.Open element.LastMsgNumber)
    (one number (λ m. only (tag.Close element.LastMsgNumber) (k (Some m)))) (k None)

abbrev pub ending_tree : Element → (ℕ → Option ℕ → Meaning) → Tree
ending_tree e make = identifier_part (λ n. last_part (λ last. only (tag.Close e) (ends (make n last))))

abbrev pub detail_part : FaultCode → Part FaultMeaning
detail_part code.UnknownSequence k = within element.Detail identifier_part (λ n. k (unknown_sequence n))
detail_part code.SequenceTerminated k = within element.Detail identifier_part (λ n. k (sequence_terminated n))
detail_part code.SequenceClosed k = within element.Detail identifier_part (λ n. k (sequence_closed n))
detail_part code.CreateSequenceRefused k = k create_sequence_refused

abbrev pub fault_part : Part FaultMeaning
fault_part k = within element.FaultCode (one fault_code) (λ c. detail_part c k)

abbrev pub fault_tree : Tree
fault_tree = fault_part (λ f. only (tag.Close element.SequenceFault) (ends (sequence_fault f)))

abbrev pub grammar : Tree
grammar =
    tagged (tag.Empty element.CreateSequence) (ends create_sequence)
    (tagged (tag.Open element.CreateSequenceResponse) (naming_tree element.CreateSequenceResponse create_sequence_response)
    (tagged (tag.Open element.Sequence) sequence_tree
    (tagged (tag.Open element.AckRequested) (naming_tree element.AckRequested ack_requested)
    (tagged (tag.Open element.SequenceAcknowledgement) receipt_tree
    (tagged (tag.Open element.CloseSequence) (ending_tree element.CloseSequence close_sequence)
    (tagged (tag.Open element.TerminateSequence) (ending_tree element.TerminateSequence terminate_sequence)
    (tagged (tag.Open element.SequenceFault) fault_tree stop)))))))

-- what these bytes read as: what the frame says, or the place of the refusal
abbrev pub reading : List ℕ → Result Meaning ℕ
reading bs = walk (length bs) grammar bs
