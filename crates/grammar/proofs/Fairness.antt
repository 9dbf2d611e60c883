-- Every way through the grammar spells the pieces of the frame at its end, and no way is without an end.
use Rattle.std.proofs.Common.{◌≡◌, ℕ, zero, suc, ◌≤◌, true, false, List, [], ◌∷◌, ◌++◌, length, Some, None, decimal, Option, refl, ap, ◌∙◌, subst, inl, inr, arith, lit<, lit≤, length-append}
use Rattle.std.proofs.lemmas.List.{append_assoc, map_push}
use Rattle.frame.specs.Ascending.{ascending}
use Rattle.frame.specs.Bounds.{IsIdentifier, IsNumber}
use Rattle.frame.specs.Meanings.{Meaning, create_sequence, create_sequence_response, sequence, ack_requested, sequence_acknowledgement, close_sequence, close_sequence_response, terminate_sequence, terminate_sequence_response, sequence_fault}
use Rattle.frame.specs.Meanings.{FaultMeaning, unknown_sequence, sequence_terminated, sequence_closed, create_sequence_refused, IsFault, IsLast, IsReceipt, Proper}
use Rattle.frame.specs.declared.range.Range.{Range}
use Rattle.frame.proofs.Ascents.{ascending_push, follows_parts}
use Rattle.pieces.specs.Attributes.{range_text}
use Rattle.pieces.specs.Tags.{tag_text}
use Rattle.pieces.specs.declared.names.Element.{Element}
use Rattle.pieces.specs.declared.names.Element.TheVariants as element
use Rattle.pieces.specs.declared.names.FaultCode.{FaultCode}
use Rattle.pieces.specs.declared.names.FaultCode.TheVariants as code
use Rattle.pieces.specs.declared.token.Tag.{Tag}
use Rattle.pieces.specs.declared.token.Tag.TheVariants as tag
use Rattle.grammar.specs.Grammar.{tagged, only, one, within, ends, identifier_part, again_part, more_ranges, ranges_part, after_final, after_ranges, credit_part, naming_tree, ending_tree, detail_part, sequence_tree, fault_tree, grammar}
use Rattle.grammar.specs.Kinds.{Kind, Value, spell, Good, identifier, again, number, range_behind, letter, fault_code}
use Rattle.grammar.specs.Kinds as kind
use Rattle.grammar.specs.Trees.{Tree, stop, whole, reads}
use Rattle.grammar.proofs.Paths.{Alive, Fits}
use Rattle.grammar.proofs.Words.{Words, open_word, close_word, identifier_words, naming_words, ending_words, ranges_words, head_words, receipt_words, code_words, fault_words, wording}

-- behind the pieces ps: each frame that the tree reaches is spelt so
pub record Fit (ps : Words) (g : Tree) : Type 0 where
  pub fits : Fits wording ps g

-- and some frame is reached
pub record Fair (ps : Words) (g : Tree) : Type 0 where
  pub alive : Alive g
  pub fits : Fits wording ps g

fit : {ps : Words} {g : Tree} → Fair ps g → Fit ps g
fit f = record { fits = f.fits }

none : {ps : Words} → Fit ps stop
none = record { fits = tt }

fair_whole : (ps : Words) (m : Meaning) (g : Tree) → Proper m → wording m ≡ ps → Fit ps g → Fair ps (whole m g)
fair_whole ps m g p w h = record { alive = tt; fits = (p, w, h.fits) }

fair_ends : (ps : Words) (m : Meaning) → Proper m → wording m ≡ ps → Fair ps (ends m)
fair_ends ps m p w = fair_whole ps m stop p w none

module _ (κ : Kind) (k : Value κ → Tree) (h : Tree) (ps : Words) (f : (a : Value κ) → Good κ a → Fair (ps ++ (spell κ a ∷ [])) (k a)) where
  fair_reads : (a : Value κ) → Good κ a → Fit ps h → Fair ps (reads κ k h)
  fair_reads a g e = record { alive = inl (a, g, (f a g).alive); fits = (λ b i. ((f b i).alive, (f b i).fits), e.fits) }

  fair_else : Fair ps h → Fair ps (reads κ k h)
  fair_else e = record { alive = inr e.alive; fits = (λ b i. ((f b i).alive, (f b i).fits), e.fits) }

fair_tag : (t : Tag) (g h : Tree) (ps : Words) → Fair (ps ++ (tag_text t ∷ [])) g → Fit ps h → Fair ps (tagged t g h)
fair_tag t g h ps f e = fair_reads (kind.tag t) (λ _. g) h ps (λ _ _. f) tt tt e

fair_only : (t : Tag) (g : Tree) (ps : Words) → Fair (ps ++ (tag_text t ∷ [])) g → Fair ps (only t g)
fair_only t g ps f = fair_tag t g stop ps f none

-- one piece in its element
fair_within : (κ : Kind) (e : Element) (k : Value κ → Tree) (ps : Words) (a : Value κ) → Good κ a
    → ((a : Value κ) → Good κ a → Fair (((ps ++ (open_word e ∷ [])) ++ (spell κ a ∷ [])) ++ (close_word e ∷ [])) (k a))
    → Fair ps (within e (one κ) k)
fair_within κ e k ps a g f =
    fair_only (tag.Open e) _ ps (fair_reads κ _ stop _ (λ b h. fair_only (tag.Close e) (k b) _ (f b h)) a g none)

first_identifier : IsIdentifier 1
first_identifier = (lit≤ tt, lit≤ tt)

first_number : IsNumber 1
first_number = (lit≤ tt, lit≤ tt)

fair_identifier : (k : ℕ → Tree) (ps : Words)
    → ((n : ℕ) → IsIdentifier n → Fair (ps ++ identifier_words n []) (k n)) → Fair ps (identifier_part k)
fair_identifier k ps f =
    fair_within identifier element.Identifier k ps 1 first_identifier
    (λ n h. subst (λ qs. Fair qs (k n)) (simp append_assoc) (f n h))

fair_naming : (e : Element) (make : ℕ → Meaning) → ((n : ℕ) → IsIdentifier n → Proper (make n))
    → ((n : ℕ) → wording (make n) ≡ naming_words e n []) → Fair (open_word e ∷ []) (naming_tree e make)
fair_naming e make p w =
    fair_identifier _ (open_word e ∷ []) (λ n h. fair_only (tag.Close e) _ _ (fair_ends _ (make n) (p n h) (w n)))

fair_ending : (e : Element) (make : ℕ → Option ℕ → Meaning)
    → ((n : ℕ) (last : Option ℕ) → IsIdentifier n → IsLast last → Proper (make n last))
    → ((n : ℕ) (last : Option ℕ) → wording (make n last) ≡ ending_words e n last) → Fair (open_word e ∷ []) (ending_tree e make)
fair_ending e make p w =
    fair_identifier _ (open_word e ∷ []) (λ n h.
    fair_tag (tag.Open element.LastMsgNumber) _ _ _
    (fair_reads number _ stop _
    (λ m i. fair_only (tag.Close element.LastMsgNumber) _ _
    (fair_only (tag.Close e) _ _ (fair_ends _ (make n (Some m)) (p n (Some m) h i) (w n (Some m))))) 1 first_number none)
    (fit (fair_only (tag.Close e) _ _ (fair_ends _ (make n None) (p n None h tt) (w n None)))))

-- behind the ranges of a receipt
fair_response : (e : Element) (n : ℕ) (m : Meaning) (ps : Words) → Proper m → wording m ≡ ps ++ naming_words e n []
    → Fair (ps ++ (open_word e ∷ [])) (again_part n (only (tag.Close e) (ends m)))
fair_response e n m ps p w =
    fair_within (again n) element.Identifier _ _ tt tt (λ _ _. fair_only (tag.Close e) _ _ (fair_ends _ m p (w ∙ simp append_assoc)))

fit_final : (n : ℕ) (rs : List Range) (c : ℕ) → IsReceipt n rs c → Fit (receipt_words n rs true c []) (after_final n rs c)
unfolding Proper
fit_final n rs c h =
    let ps = receipt_words n rs true c [] in
    fit (fair_tag (tag.Open element.CloseSequenceResponse) _ _ ps
    (fair_response element.CloseSequenceResponse n (close_sequence_response n rs c) ps h (simp append_assoc))
    (fit (fair_tag (tag.Open element.TerminateSequenceResponse) _ stop ps
    (fair_response element.TerminateSequenceResponse n (terminate_sequence_response n rs c) ps h (simp append_assoc)) none)))

fair_credit : (k : ℕ → Tree) (ps : Words)
    → ((c : ℕ) → IsNumber c → Fair ((((ps ++ (open_word element.Credit ∷ [])) ++ (decimal c ∷ [])) ++ (close_word element.Credit ∷ [])) ++ (close_word element.SequenceAcknowledgement ∷ [])) (k c))
    → Fair ps (credit_part k)
fair_credit k ps f =
    fair_within number element.Credit _ ps 1 first_number (λ c h. fair_only (tag.Close element.SequenceAcknowledgement) (k c) _ (f c h))

fair_behind : (n : ℕ) (rs : List Range) → IsIdentifier n → length rs ≤ 5 → ascending 1 rs ≡ true
    → Fair (head_words n rs) (after_ranges n rs)
unfolding Proper
fair_behind n rs i l a =
    fair_tag (tag.Empty element.Final) _ _ (head_words n rs)
    (fair_credit _ _ (λ c h.
    fair_whole _ (sequence_acknowledgement n rs true c) _ (i, l, a, h) (simp append_assoc)
    (subst (λ ps. Fit ps (after_final n rs c)) (simp append_assoc) (fit_final n rs c (i, l, a, h)))))
    (fit (fair_credit _ (head_words n rs) (λ c h. fair_ends _ (sequence_acknowledgement n rs false c) (i, l, a, h) (simp append_assoc))))

-- the ranges
words_push : (r : Range) (rs : List Range) (x : Range) → ranges_words ((r ∷ rs) ++ (x ∷ [])) ≡ ranges_words (r ∷ rs) ++ (range_text x ∷ [])
words_push r rs x = map_push range_text (r ∷ rs) x

fair_more : (n : ℕ) → IsIdentifier n → (i : ℕ) (r : Range) (rs : List Range) → length (r ∷ rs) ≤ 5 → ascending 1 (r ∷ rs) ≡ true
    → Fair (head_words n (r ∷ rs)) (more_ranges i (r ∷ rs) (after_ranges n))
fair_more n h zero r rs l a = fair_behind n (r ∷ rs) h l a
fair_more n h (suc i) r rs l a =
    fair_else (range_behind (r ∷ rs)) _ _ (head_words n (r ∷ rs))
    (λ x g.
    let f = follows_parts (r ∷ rs) x g in
    subst (λ ps. Fair ps (more_ranges i ((r ∷ rs) ++ (x ∷ [])) (after_ranges n)))
    (ap (λ ws. (open_word element.SequenceAcknowledgement ∷ identifier_words n []) ++ ws) (words_push r rs x))
    (fair_more n h i r (rs ++ (x ∷ [])) (omega (arith, f.0, length-append rs (x ∷ []))) (ascending_push 1 (r ∷ rs) x a f.1)))
    (fair_behind n (r ∷ rs) h l a)

fair_ranges : (n : ℕ) → IsIdentifier n
    → Fair (open_word element.SequenceAcknowledgement ∷ identifier_words n []) (ranges_part (after_ranges n))
fair_ranges n h =
    fair_tag (tag.Empty element.Nothing) _ _ _ (fair_behind n [] h (lit≤ tt) refl)
    (fit (fair_reads (range_behind []) _ stop _
    (λ x g. fair_more n h 4 x [] (lit≤ tt) (ascending_push 1 [] x refl (follows_parts [] x g).1))
    (record { lower = 1; upper = 1 }) refl none))

-- a letter
fair_sequence : Fair (open_word element.Sequence ∷ []) sequence_tree
unfolding Proper
fair_sequence =
    fair_identifier _ (open_word element.Sequence ∷ []) (λ n h.
    fair_within number element.MessageNumber _ _ 1 first_number (λ m i.
    fair_only (tag.Close element.Sequence) _ _
    (fair_within letter element.Letter _ _ (0 ∷ []) (lit≤ tt, lit≤ tt, (lit< tt, tt)) (λ bs j.
    fair_ends _ (sequence n m bs) (h, i, j) refl))))

-- a fault
fair_about : (c : FaultCode) (make : ℕ → FaultMeaning) → ((n : ℕ) → IsIdentifier n → IsFault (make n))
    → ((n : ℕ) (ps : Words) → fault_words (make n) ps ≡ code_words c (naming_words element.Detail n ps))
    → Fair (code_words c []) (within element.Detail identifier_part (λ n. only (tag.Close element.SequenceFault) (ends (sequence_fault (make n)))))
unfolding Proper
fair_about c make p w =
    fair_only (tag.Open element.Detail) _ _ (fair_identifier _ _ (λ n h.
    fair_only (tag.Close element.Detail) _ _ (fair_only (tag.Close element.SequenceFault) _ _
    (fair_ends _ (sequence_fault (make n)) (p n h) (w n (close_word element.SequenceFault ∷ []))))))

fair_detail : (c : FaultCode)
    → Fair (code_words c []) (detail_part c (λ f. only (tag.Close element.SequenceFault) (ends (sequence_fault f))))
unfolding Proper
fair_detail code.UnknownSequence = fair_about code.UnknownSequence unknown_sequence (λ n h. h) (λ n ps. refl)
fair_detail code.SequenceTerminated = fair_about code.SequenceTerminated sequence_terminated (λ n h. h) (λ n ps. refl)
fair_detail code.SequenceClosed = fair_about code.SequenceClosed sequence_closed (λ n h. h) (λ n ps. refl)
fair_detail code.CreateSequenceRefused =
    fair_only (tag.Close element.SequenceFault) _ _ (fair_ends _ (sequence_fault create_sequence_refused) tt refl)

fair_fault : Fair (open_word element.SequenceFault ∷ []) fault_tree
fair_fault =
    fair_within fault_code element.FaultCode _ _ code.UnknownSequence tt (λ c h. fair_detail c)

pub fair : Fair [] grammar
unfolding Proper
fair =
    fair_tag (tag.Empty element.CreateSequence) _ _ [] (fair_ends _ create_sequence tt refl)
    (fit (fair_tag (tag.Open element.CreateSequenceResponse) _ _ []
    (fair_naming element.CreateSequenceResponse create_sequence_response (λ n h. h) (λ n. refl))
    (fit (fair_tag (tag.Open element.Sequence) _ _ [] fair_sequence
    (fit (fair_tag (tag.Open element.AckRequested) _ _ []
    (fair_naming element.AckRequested ack_requested (λ n h. h) (λ n. refl))
    (fit (fair_tag (tag.Open element.SequenceAcknowledgement) _ _ []
    (fair_identifier _ (open_word element.SequenceAcknowledgement ∷ []) fair_ranges)
    (fit (fair_tag (tag.Open element.CloseSequence) _ _ []
    (fair_ending element.CloseSequence close_sequence (λ n last h i. (h, i)) (λ n last. refl))
    (fit (fair_tag (tag.Open element.TerminateSequence) _ _ []
    (fair_ending element.TerminateSequence terminate_sequence (λ n last h i. (h, i)) (λ n last. refl))
    (fit (fair_tag (tag.Open element.SequenceFault) _ stop [] fair_fault none))))))))))))))
