-- The text of each frame is its pieces one after another, and is cut into just these.
use Rattle.std.proofs.Common.{◌≡◌, ℕ, ◌+◌, Bool, true, false, List, [], ◌∷◌, ◌++◌, map, Some, None, decimal, Option, sym, refl, ap, ◌∙◌, subst, arith}
use Rattle.std.proofs.lemmas.List.{append-nil, append_assoc}
use Rattle.std.proofs.lemmas.Bool.{and_parts}
use Rattle.frame.specs.Ascending.{ascending, starts_at}
use Rattle.frame.specs.Bounds.{IsIdentifier, IsNumber}
use Rattle.frame.specs.Meanings.{Meaning, create_sequence, create_sequence_response, sequence, ack_requested, sequence_acknowledgement, close_sequence, close_sequence_response, terminate_sequence, terminate_sequence_response, sequence_fault}
use Rattle.frame.specs.Meanings.{FaultMeaning, unknown_sequence, sequence_terminated, sequence_closed, create_sequence_refused, IsFault, IsLast, IsReceipt, Proper}
use Rattle.frame.specs.declared.range.Range.{Range}
use Rattle.frame.proofs.Ascents.{starts}
use Rattle.pieces.specs.Attributes.{range_text}
use Rattle.pieces.specs.Hex.{hex_text}
use Rattle.pieces.specs.Names.{fault_name}
use Rattle.pieces.specs.Tags.{tag_text}
use Rattle.pieces.specs.Values.{urn}
use Rattle.pieces.specs.declared.names.Element.{Element}
use Rattle.pieces.specs.declared.names.Element.TheVariants as element
use Rattle.pieces.specs.declared.names.FaultCode.{FaultCode}
use Rattle.pieces.specs.declared.names.FaultCode.TheVariants as code
use Rattle.pieces.specs.declared.token.Tag.TheVariants as tag
use Rattle.grammar.specs.Places.{Cut}
use Rattle.grammar.specs.Texts.{enclosed, identifier_text, last_text, range_texts, ranges_text, final_text, receipt_text, detail_text, fault_text, text}
use Rattle.grammar.proofs.Rows.{Row, row_cut, whole_tag, whole_range, whole_number, whole_identifier, whole_letter, whole_fault}
use Rattle.grammar.proofs.Walks.{concat}
use Rattle.grammar.proofs.Words.{Words, open_word, close_word, within_words, identifier_words, naming_words, last_words, ending_words, ranges_words, final_words, credit_words, receipt_words, code_words, fault_words, wording}

concat_append : (ps qs : Words) → concat (ps ++ qs) ≡ concat ps ++ concat qs
concat_append [] qs = refl
concat_append (p ∷ ps) qs = ap (λ x. p ++ x) (concat_append ps qs) ∙ sym (append_assoc p (concat ps) (concat qs))

-- an element, before other pieces
enclosed_text : (e : Element) (inner : List ℕ) (ps : Words) → enclosed e inner ++ concat ps ≡ open_word e ++ (inner ++ concat (close_word e ∷ ps))
enclosed_text e inner ps = simp append_assoc

identifier_is : (n : ℕ) (ps : Words) → identifier_text n ++ concat ps ≡ concat (identifier_words n ps)
unfolding identifier_text
identifier_is n ps = enclosed_text element.Identifier (urn ++ decimal n) ps

naming_is : (e : Element) (n : ℕ) (ps : Words) → enclosed e (identifier_text n) ++ concat ps ≡ concat (naming_words e n ps)
naming_is e n ps = enclosed_text e (identifier_text n) ps ∙ ap (λ x. open_word e ++ x) (identifier_is n (close_word e ∷ ps))

last_is : (last : Option ℕ) (ps : Words) → last_text last ++ concat ps ≡ concat (last_words last ps)
unfolding last_text
last_is None ps = refl
last_is (Some m) ps = enclosed_text element.LastMsgNumber (decimal m) ps

ending_is : (e : Element) (n : ℕ) (last : Option ℕ) → enclosed e (identifier_text n ++ last_text last) ≡ concat (ending_words e n last)
ending_is e n last =
    sym (append-nil (enclosed e (identifier_text n ++ last_text last))) ∙
    (enclosed_text e (identifier_text n ++ last_text last) [] ∙
    ap (λ x. open_word e ++ x)
    (append_assoc (identifier_text n) (last_text last) (concat (close_word e ∷ [])) ∙
    (ap (λ x. identifier_text n ++ x) (last_is last (close_word e ∷ [])) ∙ identifier_is n (last_words last (close_word e ∷ [])))))

range_texts_are : (rs : List Range) → range_texts rs ≡ concat (map range_text rs)
unfolding range_texts
range_texts_are [] = refl
range_texts_are (x ∷ xs) = ap (λ y. range_text x ++ y) (range_texts_are xs)

ranges_are : (rs : List Range) (ps : Words) → ranges_text rs ++ concat ps ≡ concat (ranges_words rs ++ ps)
unfolding ranges_text
ranges_are [] ps = refl
ranges_are (x ∷ xs) ps = ap (λ y. y ++ concat ps) (range_texts_are (x ∷ xs)) ∙ sym (concat_append (map range_text (x ∷ xs)) ps)

final_is : (final : Bool) (ps : Words) → final_text final ++ concat ps ≡ concat (final_words final ps)
unfolding final_text
final_is true ps = refl
final_is false ps = refl

receipt_is : (n : ℕ) (rs : List Range) (final : Bool) (c : ℕ) (ps : Words) → receipt_text n rs final c ++ concat ps ≡ concat (receipt_words n rs final c ps)
unfolding receipt_text
receipt_is n rs final c ps =
    let qs = close_word element.SequenceAcknowledgement ∷ ps in
    let credit = enclosed element.Credit (decimal c) in
    let inner = identifier_text n ++ (ranges_text rs ++ (final_text final ++ credit)) in
    let apart : inner ++ concat qs ≡ identifier_text n ++ (ranges_text rs ++ (final_text final ++ (credit ++ concat qs))) = simp append_assoc in
    enclosed_text element.SequenceAcknowledgement inner ps ∙
    ap (λ x. open_word element.SequenceAcknowledgement ++ x)
    (apart ∙
    (ap (λ x. identifier_text n ++ (ranges_text rs ++ (final_text final ++ x))) (enclosed_text element.Credit (decimal c) qs) ∙
    (ap (λ x. identifier_text n ++ (ranges_text rs ++ x)) (final_is final (credit_words c ps)) ∙
    (ap (λ x. identifier_text n ++ x) (ranges_are rs (final_words final (credit_words c ps))) ∙
    identifier_is n (ranges_words rs ++ final_words final (credit_words c ps))))))

detail_is : (n : ℕ) (ps : Words) → detail_text n ++ concat ps ≡ concat (naming_words element.Detail n ps)
unfolding detail_text
detail_is n ps = naming_is element.Detail n ps

about_is : (c : FaultCode) (n : ℕ) (ps : Words)
    → (enclosed element.FaultCode (fault_name c) ++ detail_text n) ++ concat ps ≡ concat (within_words element.FaultCode (fault_name c) (naming_words element.Detail n ps))
about_is c n ps =
    append_assoc (enclosed element.FaultCode (fault_name c)) (detail_text n) (concat ps) ∙
    (ap (λ x. enclosed element.FaultCode (fault_name c) ++ x) (detail_is n ps) ∙
    enclosed_text element.FaultCode (fault_name c) (naming_words element.Detail n ps))

fault_is : (f : FaultMeaning) (ps : Words) → open_word element.SequenceFault ++ (fault_text f ++ concat ps) ≡ concat (fault_words f ps)
unfolding fault_text
fault_is (unknown_sequence n) ps = ap (λ x. open_word element.SequenceFault ++ x) (about_is code.UnknownSequence n ps)
fault_is (sequence_terminated n) ps = ap (λ x. open_word element.SequenceFault ++ x) (about_is code.SequenceTerminated n ps)
fault_is (sequence_closed n) ps = ap (λ x. open_word element.SequenceFault ++ x) (about_is code.SequenceClosed n ps)
fault_is create_sequence_refused ps =
    ap (λ x. open_word element.SequenceFault ++ x) (enclosed_text element.FaultCode (fault_name code.CreateSequenceRefused) ps)

sequence_is : (n m : ℕ) (bs : List ℕ)
    → enclosed element.Sequence (identifier_text n ++ enclosed element.MessageNumber (decimal m)) ++ enclosed element.Letter (hex_text bs) ≡
    concat (wording (sequence n m bs))
sequence_is n m bs =
    let letters = within_words element.Letter (hex_text bs) [] in
    let number = enclosed element.MessageNumber (decimal m) in
    ap (λ x. enclosed element.Sequence (identifier_text n ++ number) ++ x)
    (sym (append-nil (enclosed element.Letter (hex_text bs))) ∙ enclosed_text element.Letter (hex_text bs) []) ∙
    (enclosed_text element.Sequence (identifier_text n ++ number) letters ∙
    ap (λ x. open_word element.Sequence ++ x)
    (append_assoc (identifier_text n) number (concat (close_word element.Sequence ∷ letters)) ∙
    (ap (λ x. identifier_text n ++ x) (enclosed_text element.MessageNumber (decimal m) (close_word element.Sequence ∷ letters)) ∙
    identifier_is n (within_words element.MessageNumber (decimal m) (close_word element.Sequence ∷ letters)))))

response_is : (e : Element) (n : ℕ) (rs : List Range) (c : ℕ)
    → receipt_text n rs true c ++ enclosed e (identifier_text n) ≡ concat (receipt_words n rs true c (naming_words e n []))
response_is e n rs c =
    ap (λ x. receipt_text n rs true c ++ x) (sym (append-nil (enclosed e (identifier_text n))) ∙ naming_is e n []) ∙
    receipt_is n rs true c (naming_words e n [])

pub text_is : (m : Meaning) → text m ≡ concat (wording m)
unfolding text
text_is create_sequence = sym (append-nil (tag_text (tag.Empty element.CreateSequence)))
text_is (create_sequence_response n) =
    sym (append-nil (enclosed element.CreateSequenceResponse (identifier_text n))) ∙ naming_is element.CreateSequenceResponse n []
text_is (sequence n m bs) = sequence_is n m bs
text_is (ack_requested n) = sym (append-nil (enclosed element.AckRequested (identifier_text n))) ∙ naming_is element.AckRequested n []
text_is (sequence_acknowledgement n rs final c) = sym (append-nil (receipt_text n rs final c)) ∙ receipt_is n rs final c []
text_is (close_sequence n last) = ending_is element.CloseSequence n last
text_is (close_sequence_response n rs c) = response_is element.CloseSequenceResponse n rs c
text_is (terminate_sequence n last) = ending_is element.TerminateSequence n last
text_is (terminate_sequence_response n rs c) = response_is element.TerminateSequenceResponse n rs c
text_is (sequence_fault f) =
    sym (append-nil (enclosed element.SequenceFault (fault_text f))) ∙
    (enclosed_text element.SequenceFault (fault_text f) [] ∙ fault_is f (close_word element.SequenceFault ∷ []))

-- rows
row_identifier : (n : ℕ) (ps : Words) → IsIdentifier n → Row ps → Row (identifier_words n ps)
row_identifier n ps h r = (
  whole_tag (tag.Open element.Identifier),
  (whole_identifier (tag.Close element.Identifier) n h, (whole_tag (tag.Close element.Identifier), r)),
)

row_naming : (e : Element) (n : ℕ) (ps : Words) → IsIdentifier n → Row ps → Row (naming_words e n ps)
row_naming e n ps h r = (whole_tag (tag.Open e), row_identifier n (close_word e ∷ ps) h (whole_tag (tag.Close e), r))

row_number : (e : Element) (m : ℕ) (ps : Words) → IsNumber m → Row ps → Row (within_words e (decimal m) ps)
row_number e m ps h r = (whole_tag (tag.Open e), (whole_number (tag.Close e) m h, (whole_tag (tag.Close e), r)))

row_last : (last : Option ℕ) (ps : Words) → IsLast last → Row ps → Row (last_words last ps)
row_last None ps h r = r
row_last (Some m) ps h r = row_number element.LastMsgNumber m ps h r

row_ending : (e : Element) (n : ℕ) (last : Option ℕ) → IsIdentifier n → IsLast last → Row (ending_words e n last)
row_ending e n last h i =
    (whole_tag (tag.Open e), row_identifier n (last_words last (close_word e ∷ [])) h (row_last last (close_word e ∷ []) i (whole_tag (tag.Close e), tt)))

row_range_texts : (low : ℕ) (rs : List Range) (ps : Words) → ascending low rs ≡ true → Row ps → Row (map range_text rs ++ ps)
row_range_texts low [] ps a r = r
row_range_texts low (x ∷ xs) ps a r =
    let d = and_parts (starts_at low x) (ascending (x.upper + 2) xs) a in
    let s = starts low x d.0 in
    (whole_range x (omega (arith, s.high)) (omega (arith, s.high, s.order)), row_range_texts (x.upper + 2) xs ps d.1 r)

row_ranges : (rs : List Range) (ps : Words) → ascending 1 rs ≡ true → Row ps → Row (ranges_words rs ++ ps)
row_ranges [] ps a r = (whole_tag (tag.Empty element.Nothing), r)
row_ranges (x ∷ xs) ps a r = row_range_texts 1 (x ∷ xs) ps a r

row_final : (final : Bool) (ps : Words) → Row ps → Row (final_words final ps)
row_final true ps r = (whole_tag (tag.Empty element.Final), r)
row_final false ps r = r

row_receipt : (n : ℕ) (rs : List Range) (final : Bool) (c : ℕ) (ps : Words) → IsReceipt n rs c → Row ps → Row (receipt_words n rs final c ps)
row_receipt n rs final c ps h r = (
  whole_tag (tag.Open element.SequenceAcknowledgement),
  row_identifier n (ranges_words rs ++ final_words final (credit_words c ps)) h.0
      (row_ranges rs (final_words final (credit_words c ps)) h.2
      (row_final final (credit_words c ps)
      (row_number element.Credit c (close_word element.SequenceAcknowledgement ∷ ps) h.3
      (whole_tag (tag.Close element.SequenceAcknowledgement), r)))),
)

row_code : (c : FaultCode) (ps : Words) → Row ps → Row (code_words c ps)
row_code c ps r = (
  whole_tag (tag.Open element.SequenceFault),
  (
    whole_tag (tag.Open element.FaultCode),
    (whole_fault (tag.Close element.FaultCode) c, (whole_tag (tag.Close element.FaultCode), r)),
  ),
)

row_fault : (f : FaultMeaning) (ps : Words) → IsFault f → Row ps → Row (fault_words f ps)
row_fault (unknown_sequence n) ps h r = row_code code.UnknownSequence _ (row_naming element.Detail n ps h r)
row_fault (sequence_terminated n) ps h r = row_code code.SequenceTerminated _ (row_naming element.Detail n ps h r)
row_fault (sequence_closed n) ps h r = row_code code.SequenceClosed _ (row_naming element.Detail n ps h r)
row_fault create_sequence_refused ps h r = row_code code.CreateSequenceRefused ps r

row : (m : Meaning) → Proper m → Row (wording m)
unfolding Proper
row create_sequence h = (whole_tag (tag.Empty element.CreateSequence), tt)
row (create_sequence_response n) h = row_naming element.CreateSequenceResponse n [] h tt
row (sequence n m bs) h = (
  whole_tag (tag.Open element.Sequence),
  row_identifier n _ h.0 (row_number element.MessageNumber m _ h.1 (
    whole_tag (tag.Close element.Sequence),
    (
      whole_tag (tag.Open element.Letter),
      (whole_letter (tag.Close element.Letter) bs h.2, (whole_tag (tag.Close element.Letter), tt)),
    ),
  )),
)
row (ack_requested n) h = row_naming element.AckRequested n [] h tt
row (sequence_acknowledgement n rs final c) h = row_receipt n rs final c [] h tt
row (close_sequence n last) h = row_ending element.CloseSequence n last h.0 h.1
row (close_sequence_response n rs c) h = row_receipt n rs true c _ h (row_naming element.CloseSequenceResponse n [] h.0 tt)
row (terminate_sequence n last) h = row_ending element.TerminateSequence n last h.0 h.1
row (terminate_sequence_response n rs c) h = row_receipt n rs true c _ h (row_naming element.TerminateSequenceResponse n [] h.0 tt)
row (sequence_fault f) h = row_fault f (close_word element.SequenceFault ∷ []) h (whole_tag (tag.Close element.SequenceFault), tt)

pub cuts : (m : Meaning) → Proper m → Cut (text m) (wording m) []
cuts m h = subst (λ x. Cut x (wording m) []) (sym (text_is m)) (row_cut (wording m) (row m h))
