-- The pieces of each frame lead through the grammar to that frame.
use Rattle.std.proofs.Common.{◌≡◌, ℕ, zero, suc, ◌+◌, ◌≤◌, Bool, true, false, ltb, List, [], ◌∷◌, ◌++◌, map, length, Some, None, decimal, Option, sym, refl, ap, ◌∙◌, arith, length-append, lt-ltb}
use Rattle.std.proofs.lemmas.List.{append-nil, append_assoc}
use Rattle.std.proofs.lemmas.Bool.{and_parts, and_from}
use Rattle.frame.specs.Ascending.{ascending, follows, next_low, starts_at}
use Rattle.frame.specs.Bounds.{IsIdentifier, IsNumber}
use Rattle.frame.specs.Meanings.{Meaning, create_sequence, create_sequence_response, sequence, ack_requested, sequence_acknowledgement, close_sequence, close_sequence_response, terminate_sequence, terminate_sequence_response, sequence_fault}
use Rattle.frame.specs.Meanings.{FaultMeaning, unknown_sequence, sequence_terminated, sequence_closed, create_sequence_refused, IsFault, IsLast, IsReceipt, Proper}
use Rattle.frame.specs.declared.range.Range.{Range}
use Rattle.frame.proofs.Ascents.{next_push}
use Rattle.pieces.specs.Attributes.{range_text, range_read}
use Rattle.pieces.specs.Hex.{hex_text}
use Rattle.pieces.specs.Strips.{strip_of}
use Rattle.pieces.specs.Tags.{tag_text}
use Rattle.pieces.specs.declared.names.Element.{Element}
use Rattle.pieces.specs.declared.names.Element.TheVariants as element
use Rattle.pieces.specs.declared.names.FaultCode.{FaultCode}
use Rattle.pieces.specs.declared.names.FaultCode.TheVariants as code
use Rattle.pieces.specs.declared.token.Tag.{Tag}
use Rattle.pieces.specs.declared.token.Tag.TheVariants as tag
use Rattle.grammar.specs.Grammar.{tagged, only, one, within, ends, identifier_part, again_part, more_ranges, ranges_part, after_final, after_receipt, after_ranges, credit_part, naming_tree, last_part, ending_tree, detail_part, grammar}
use Rattle.grammar.specs.Kinds.{Kind, Value, reader, spell, Good, identifier, again, number, range_behind, letter, fault_code}
use Rattle.grammar.specs.Kinds as kind
use Rattle.grammar.specs.Trees.{Tree, stop, whole, reads}
use Rattle.grammar.proofs.KindLaws.{is_reader}
use Rattle.grammar.proofs.Walks.{pick, next, run}
use Rattle.grammar.proofs.Words.{Words, open_word, close_word, within_words, identifier_words, naming_words, last_words, ranges_words, final_words, credit_words, receipt_words, code_words, fault_words, wording}

-- one piece, first in its tree
run_read : (κ : Kind) (a : Value κ) (k : Value κ → Tree) (h : Tree) (ps : Words) → Good κ a
    → run (Some (reads κ k h)) (spell κ a ∷ ps) ≡ run (Some (k a)) ps
run_read κ a k h ps g = ap (λ o. run (pick o k (next h (spell κ a))) ps) (is_reader κ a g)

-- a piece of another kind
run_else : (κ : Kind) (k : Value κ → Tree) (h : Tree) (p : List ℕ) (ps : Words) → reader κ p ≡ None
    → run (Some (reads κ k h)) (p ∷ ps) ≡ run (Some h) (p ∷ ps)
run_else κ k h p ps e = ap (λ o. run (pick o k (next h p)) ps) e

run_tag : (t : Tag) (g h : Tree) (ps : Words) → run (Some (tagged t g h)) (tag_text t ∷ ps) ≡ run (Some g) ps
run_tag t g h ps = run_read (kind.tag t) tt (λ _. g) h ps tt

-- pieces that are told apart
no_ranges : (x : Range) → reader (kind.tag (tag.Empty element.Nothing)) (range_text x) ≡ None
unfolding reader tag_text range_text
no_ranges x = refl

no_range_final : (rs : List Range) → reader (range_behind rs) (tag_text (tag.Empty element.Final)) ≡ None
unfolding reader tag_text range_read strip_of
no_range_final rs = refl

no_range_credit : (rs : List Range) → reader (range_behind rs) (open_word element.Credit) ≡ None
unfolding reader tag_text range_read strip_of
no_range_credit rs = refl

no_final : reader (kind.tag (tag.Empty element.Final)) (open_word element.Credit) ≡ None
unfolding reader tag_text
no_final = refl

-- one piece in its element
run_within : (κ : Kind) (e : Element) (a : Value κ) (k : Value κ → Tree) (ps : Words) → Good κ a
    → run (Some (within e (one κ) k)) (within_words e (spell κ a) ps) ≡ run (Some (k a)) ps
run_within κ e a k ps g =
    run_tag (tag.Open e) (one κ (λ b. only (tag.Close e) (k b))) stop (spell κ a ∷ (close_word e ∷ ps)) ∙
    (run_read κ a (λ b. only (tag.Close e) (k b)) stop (close_word e ∷ ps) g ∙ run_tag (tag.Close e) (k a) stop ps)

run_identifier : (k : ℕ → Tree) (n : ℕ) (ps : Words) → IsIdentifier n
    → run (Some (identifier_part k)) (identifier_words n ps) ≡ run (Some (k n)) ps
run_identifier k n ps h = run_within identifier element.Identifier n k ps h

run_naming : (e : Element) (make : ℕ → Meaning) (n : ℕ) → IsIdentifier n
    → run (Some (naming_tree e make)) (identifier_words n (close_word e ∷ [])) ≡ Some (ends (make n))
run_naming e make n h =
    run_identifier (λ n. only (tag.Close e) (ends (make n))) n (close_word e ∷ []) h ∙ run_tag (tag.Close e) (ends (make n)) stop []

run_ending : (e : Element) (make : ℕ → Option ℕ → Meaning) (n : ℕ) (last : Option ℕ) → IsIdentifier n → IsLast last
    → reader (kind.tag (tag.Open element.LastMsgNumber)) (close_word e) ≡ None
    → run (Some (ending_tree e make)) (identifier_words n (last_words last (close_word e ∷ []))) ≡ Some (ends (make n last))
run_ending e make n None h i o =
    run_identifier (λ n. last_part (λ last. only (tag.Close e) (ends (make n last)))) n (close_word e ∷ []) h ∙
    (run_else (kind.tag (tag.Open element.LastMsgNumber)) _ (only (tag.Close e) (ends (make n None))) (close_word e) [] o ∙
    run_tag (tag.Close e) (ends (make n None)) stop [])
run_ending e make n (Some m) h i o =
    run_identifier (λ n. last_part (λ last. only (tag.Close e) (ends (make n last)))) n
    (within_words element.LastMsgNumber (decimal m) (close_word e ∷ [])) h ∙
    (run_tag (tag.Open element.LastMsgNumber) (one number (λ m. only (tag.Close element.LastMsgNumber) (only (tag.Close e) (ends (make n (Some m))))))
    (only (tag.Close e) (ends (make n None))) (decimal m ∷ (close_word element.LastMsgNumber ∷ (close_word e ∷ []))) ∙
    (run_read number m (λ m. only (tag.Close element.LastMsgNumber) (only (tag.Close e) (ends (make n (Some m))))) stop
    (close_word element.LastMsgNumber ∷ (close_word e ∷ [])) i ∙
    (run_tag (tag.Close element.LastMsgNumber) (only (tag.Close e) (ends (make n (Some m)))) stop (close_word e ∷ []) ∙
    run_tag (tag.Close e) (ends (make n (Some m))) stop [])))

run_credit : (k : ℕ → Tree) (c : ℕ) (ps : Words) → IsNumber c → run (Some (credit_part k)) (credit_words c ps) ≡ run (Some (k c)) ps
run_credit k c ps h =
    run_within number element.Credit c (λ c. only (tag.Close element.SequenceAcknowledgement) (k c))
    (close_word element.SequenceAcknowledgement ∷ ps) h ∙
    run_tag (tag.Close element.SequenceAcknowledgement) (k c) stop ps

-- ranges, and then a piece that is none
run_more : (k : List Range → Tree) (i : ℕ) (rs xs : List Range) (p : List ℕ) (ps : Words) → ((rs : List Range) → reader (range_behind rs) p ≡ None)
    → length xs ≤ i → length rs + length xs ≤ 5 → ascending (next_low 1 rs) xs ≡ true
    → run (Some (more_ranges i rs k)) (map range_text xs ++ (p ∷ ps)) ≡ run (Some (k (rs ++ xs))) (p ∷ ps)
run_more k zero rs [] p ps n l m a = ap (λ x. run (Some (k x)) (p ∷ ps)) (sym (append-nil rs))
run_more k (suc i) rs [] p ps n l m a =
    run_else (range_behind rs) (λ x. more_ranges i (rs ++ (x ∷ [])) k) (k rs) p ps (n rs) ∙
    ap (λ x. run (Some (k x)) (p ∷ ps)) (sym (append-nil rs))
run_more k zero rs (x ∷ xs) p ps n l m a = absurd (omega arith)
run_more k (suc i) rs (x ∷ xs) p ps n l m a =
    let d = and_parts (starts_at (next_low 1 rs) x) (ascending (x.upper + 2) xs) a in
    let g : follows rs x ≡ true = and_from (ltb (length rs) 5) (starts_at (next_low 1 rs) x) (lt-ltb _ _ (omega arith)) d.0 in
    run_read (range_behind rs) x (λ x. more_ranges i (rs ++ (x ∷ [])) k) (k rs) (map range_text xs ++ (p ∷ ps)) g ∙
    (run_more k i (rs ++ (x ∷ [])) xs p ps n (omega arith) (omega (arith, length-append rs (x ∷ [])))
    (ap (λ low. ascending low xs) (next_push 1 rs x) ∙ d.1) ∙
    ap (λ y. run (Some (k y)) (p ∷ ps)) (append_assoc rs (x ∷ []) xs))

run_ranges : (k : List Range → Tree) (rs : List Range) (p : List ℕ) (ps : Words) → ((rs : List Range) → reader (range_behind rs) p ≡ None)
    → length rs ≤ 5 → ascending 1 rs ≡ true → run (Some (ranges_part k)) (ranges_words rs ++ (p ∷ ps)) ≡ run (Some (k rs)) (p ∷ ps)
run_ranges k [] p ps n l a = run_tag (tag.Empty element.Nothing) (k []) (one (range_behind []) (λ x. more_ranges 4 (x ∷ []) k)) (p ∷ ps)
run_ranges k (x ∷ xs) p ps n l a =
    let d = and_parts (starts_at 1 x) (ascending (x.upper + 2) xs) a in
    run_else (kind.tag (tag.Empty element.Nothing)) _ (one (range_behind []) (λ x. more_ranges 4 (x ∷ []) k)) (range_text x) (map range_text xs ++ (p ∷ ps))
    (no_ranges x) ∙
    (run_read (range_behind []) x (λ x. more_ranges 4 (x ∷ []) k) stop (map range_text xs ++ (p ∷ ps)) d.0 ∙
    run_more k 4 (x ∷ []) xs p ps n (omega arith) (omega arith) d.1)

-- a receipt
run_behind : (n : ℕ) (rs : List Range) (final : Bool) (c : ℕ) (ps : Words) → IsReceipt n rs c
    → run (Some (ranges_part (after_ranges n))) (ranges_words rs ++ final_words final (credit_words c ps)) ≡
    run (Some (after_receipt n rs final c)) ps
run_behind n rs true c ps h =
    run_ranges (after_ranges n) rs (tag_text (tag.Empty element.Final)) (credit_words c ps) no_range_final h.1 h.2 ∙
    (run_tag (tag.Empty element.Final) (credit_part (after_receipt n rs true)) (credit_part (after_receipt n rs false)) (credit_words c ps) ∙
    run_credit (after_receipt n rs true) c ps h.3)
run_behind n rs false c ps h =
    run_ranges (after_ranges n) rs (open_word element.Credit) (decimal c ∷ (close_word element.Credit ∷ (close_word element.SequenceAcknowledgement ∷ ps)))
    no_range_credit h.1 h.2 ∙
    (run_else (kind.tag (tag.Empty element.Final)) (λ _. credit_part (after_receipt n rs true)) (credit_part (after_receipt n rs false)) (open_word element.Credit)
    (decimal c ∷ (close_word element.Credit ∷ (close_word element.SequenceAcknowledgement ∷ ps))) no_final ∙
    run_credit (after_receipt n rs false) c ps h.3)

run_receipt : (n : ℕ) (rs : List Range) (final : Bool) (c : ℕ) (ps : Words) → IsReceipt n rs c
    → run (Some grammar) (receipt_words n rs final c ps) ≡ run (Some (after_receipt n rs final c)) ps
unfolding reader tag_text
run_receipt n rs final c ps h =
    run_identifier (λ n. ranges_part (after_ranges n)) n
    (ranges_words rs ++ final_words final (credit_words c ps)) h.0 ∙
    run_behind n rs final c ps h

-- a response behind a final receipt
run_response : (e : Element) (n : ℕ) (m : Meaning) → run (Some (again_part n (only (tag.Close e) (ends m)))) (identifier_words n (close_word e ∷ [])) ≡ Some (ends m)
run_response e n m =
    run_within (again n) element.Identifier tt (λ _. only (tag.Close e) (ends m)) (close_word e ∷ []) tt ∙
    run_tag (tag.Close e) (ends m) stop []

-- a fault
run_about : (make : ℕ → FaultMeaning) (n : ℕ) → IsIdentifier n
    → run (Some (within element.Detail identifier_part (λ n. only (tag.Close element.SequenceFault) (ends (sequence_fault (make n))))))
    (naming_words element.Detail n (close_word element.SequenceFault ∷ [])) ≡ Some (ends (sequence_fault (make n)))
run_about make n h =
    let k = λ (n : ℕ). only (tag.Close element.SequenceFault) (ends (sequence_fault (make n))) in
    run_tag (tag.Open element.Detail) (identifier_part (λ n. only (tag.Close element.Detail) (k n))) stop
    (identifier_words n (close_word element.Detail ∷ (close_word element.SequenceFault ∷ []))) ∙
    (run_identifier (λ n. only (tag.Close element.Detail) (k n)) n (close_word element.Detail ∷ (close_word element.SequenceFault ∷ [])) h ∙
    (run_tag (tag.Close element.Detail) (k n) stop (close_word element.SequenceFault ∷ []) ∙
    run_tag (tag.Close element.SequenceFault) (ends (sequence_fault (make n))) stop []))

run_code : (c : FaultCode) (ps : Words)
    → run (Some grammar) (code_words c ps) ≡ run (Some (detail_part c (λ f. only (tag.Close element.SequenceFault) (ends (sequence_fault f))))) ps
unfolding reader tag_text
run_code c ps =
    run_within fault_code element.FaultCode c (λ c. detail_part c (λ f. only (tag.Close element.SequenceFault) (ends (sequence_fault f)))) ps tt

run_fault : (f : FaultMeaning) → IsFault f → run (Some grammar) (fault_words f (close_word element.SequenceFault ∷ [])) ≡ Some (ends (sequence_fault f))
run_fault (unknown_sequence n) h = run_code code.UnknownSequence (naming_words element.Detail n (close_word element.SequenceFault ∷ [])) ∙ run_about unknown_sequence n h
run_fault (sequence_terminated n) h = run_code code.SequenceTerminated (naming_words element.Detail n (close_word element.SequenceFault ∷ [])) ∙ run_about sequence_terminated n h
run_fault (sequence_closed n) h = run_code code.SequenceClosed (naming_words element.Detail n (close_word element.SequenceFault ∷ [])) ∙ run_about sequence_closed n h
run_fault create_sequence_refused h =
    run_code code.CreateSequenceRefused (close_word element.SequenceFault ∷ []) ∙
    run_tag (tag.Close element.SequenceFault) (ends (sequence_fault create_sequence_refused)) stop []

-- what may come behind a frame
abbrev pub beyond : Meaning → Tree
beyond create_sequence = stop
beyond (create_sequence_response n) = stop
beyond (sequence n m bs) = stop
beyond (ack_requested n) = stop
beyond (sequence_acknowledgement n rs true c) = after_final n rs c
beyond (sequence_acknowledgement n rs false c) = stop
beyond (close_sequence n last) = stop
beyond (close_sequence_response n rs c) = stop
beyond (terminate_sequence n last) = stop
beyond (terminate_sequence_response n rs c) = stop
beyond (sequence_fault f) = stop

pub leads : (m : Meaning) → Proper m → run (Some grammar) (wording m) ≡ Some (whole m (beyond m))
unfolding reader tag_text Proper
leads create_sequence h = refl
leads (create_sequence_response n) h = run_naming element.CreateSequenceResponse create_sequence_response n h
leads (sequence n m bs) h =
    let held : List ℕ → Tree = λ bs. ends (sequence n m bs) in
    let letters = within_words element.Letter (hex_text bs) [] in
    run_identifier _ n (within_words element.MessageNumber (decimal m) (close_word element.Sequence ∷ letters)) h.0 ∙
    (run_within number element.MessageNumber m _ (close_word element.Sequence ∷ letters) h.1 ∙
    (run_tag (tag.Close element.Sequence) (within element.Letter (one letter) held) stop letters ∙
    run_within letter element.Letter bs held [] h.2))
leads (ack_requested n) h = run_naming element.AckRequested ack_requested n h
leads (sequence_acknowledgement n rs true c) h = run_receipt n rs true c [] h
leads (sequence_acknowledgement n rs false c) h = run_receipt n rs false c [] h
leads (close_sequence n last) h = run_ending element.CloseSequence close_sequence n last h.0 h.1 refl
leads (close_sequence_response n rs c) h =
    run_receipt n rs true c (naming_words element.CloseSequenceResponse n []) h ∙
    run_response element.CloseSequenceResponse n (close_sequence_response n rs c)
leads (terminate_sequence n last) h = run_ending element.TerminateSequence terminate_sequence n last h.0 h.1 refl
leads (terminate_sequence_response n rs c) h =
    run_receipt n rs true c (naming_words element.TerminateSequenceResponse n []) h ∙
    run_response element.TerminateSequenceResponse n (terminate_sequence_response n rs c)
leads (sequence_fault f) h = run_fault f h
