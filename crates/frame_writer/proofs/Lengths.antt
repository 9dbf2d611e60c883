-- No frame's text is longer than 709 bytes.
use Rattle.std.proofs.Common.{◌≡◌, ℕ, ◌+◌, ◌*◌, ◌≤◌, Bool, true, false, List, [], ◌∷◌, length, Some, None, decimal, Option, arith, lit<, length-append}
use Rattle.std.proofs.lemmas.Fmt.{length-decimal-le}
use Rattle.std.proofs.lemmas.Bool.{and_parts}
use Rattle.std.proofs.lemmas.List.{length-take-le}
use Rattle.letter.specs.Letters.{content}
use Rattle.frame.specs.Ascending.{ascending, starts_at}
use Rattle.frame.specs.Bounds.{IsIdentifier, IsNumber}
use Rattle.frame.specs.Meanings.{Meaning, create_sequence, create_sequence_response, sequence, ack_requested, sequence_acknowledgement, close_sequence, close_sequence_response, terminate_sequence, terminate_sequence_response, sequence_fault}
use Rattle.frame.specs.Meanings.{FaultMeaning, unknown_sequence, sequence_terminated, sequence_closed, create_sequence_refused, IsFault, IsLast, IsReceipt, Proper}
use Rattle.frame.specs.Meanings.{meaning, LetterFits}
use Rattle.frame.specs.declared.frame.Frame.{Frame}
use Rattle.frame.specs.declared.frame.Frame.TheVariants as frame
use Rattle.frame.specs.declared.range.Range.{Range}
use Rattle.frame.proofs.Ascents.{starts}
use Rattle.frame.proofs.Propriety.{proper_frame}
use Rattle.pieces.specs.Attributes.{range_text}
use Rattle.pieces.specs.Tags.{tag_text}
use Rattle.pieces.proofs.Letters.{length_hex}
use Rattle.frame_writer.specs.Putting.{Puts, Writes}
use Rattle.grammar.proofs.Theorem.{apart}
use Rattle.grammar.specs.Texts.{identifier_text, last_text, range_texts, ranges_text, final_text, receipt_text, detail_text, fault_text, text}

number_most : (m : ℕ) → IsNumber m → length (decimal m) ≤ 19
number_most m h = length-decimal-le 19 m (lit< tt) (omega arith) (omega arith)

identifier_most : (n : ℕ) → IsIdentifier n → length (identifier_text n) ≤ 54
unfolding identifier_text tag_text
identifier_most n h = simp length-append (omega (arith, length-decimal-le 10 n (lit< tt) (omega arith) (omega arith)))

last_most : (last : Option ℕ) → IsLast last → length (last_text last) ≤ 60
unfolding last_text tag_text
last_most None h = omega arith
last_most (Some m) h = simp length-append (omega (arith, number_most m h))

range_most : (low : ℕ) (x : Range) → 1 ≤ low → starts_at low x ≡ true → length (range_text x) ≤ 84
unfolding range_text
range_most low x l h =
    let s = starts low x h in
    let u = number_most x.upper (omega (arith, s.above, s.order), s.high) in
    let v = number_most x.lower (omega (arith, s.above), omega (arith, s.order, s.high)) in
    simp length-append (omega (arith, u, v))

texts_most : (low : ℕ) (rs : List Range) → 1 ≤ low → ascending low rs ≡ true → length (range_texts rs) ≤ 84 * length rs
unfolding range_texts
texts_most low [] l h = omega arith
texts_most low (x ∷ xs) l h =
    let d = and_parts (starts_at low x) (ascending (x.upper + 2) xs) h in
    simp length-append (omega (arith, range_most low x l d.0, texts_most (x.upper + 2) xs (omega arith) d.1))

ranges_most : (rs : List Range) → length rs ≤ 5 → ascending 1 rs ≡ true → length (ranges_text rs) ≤ 420
unfolding ranges_text tag_text
ranges_most [] l h = omega arith
ranges_most (x ∷ xs) l h = omega (arith, texts_most 1 (x ∷ xs) (omega arith) h)

final_most : (final : Bool) → length (final_text final) ≤ 13
unfolding final_text tag_text
final_most true = omega arith
final_most false = omega arith

receipt_most : (n : ℕ) (rs : List Range) (final : Bool) (c : ℕ) → IsReceipt n rs c → length (receipt_text n rs final c) ≤ 590
unfolding receipt_text tag_text
receipt_most n rs final c h =
    simp length-append (omega (arith, identifier_most n h.0, ranges_most rs h.1 h.2, final_most final, number_most c h.3))

detail_most : (n : ℕ) → IsIdentifier n → length (detail_text n) ≤ 90
unfolding detail_text tag_text
detail_most n h = simp length-append (omega (arith, identifier_most n h))

fault_most : (f : FaultMeaning) → IsFault f → length (fault_text f) ≤ 200
unfolding fault_text tag_text
fault_most (unknown_sequence n) h = simp length-append (omega (arith, detail_most n h))
fault_most (sequence_terminated n) h = simp length-append (omega (arith, detail_most n h))
fault_most (sequence_closed n) h = simp length-append (omega (arith, detail_most n h))
fault_most create_sequence_refused h = simp length-append (omega arith)

sequence_most : (n m : ℕ) (bs : List ℕ) → IsIdentifier n → IsNumber m → length bs ≤ 48 → length (text (sequence n m bs)) ≤ 709
unfolding text tag_text
sequence_most n m bs i j h = simp length-append (omega (arith, identifier_most n i, number_most m j, length_hex bs))

pub most : (m : Meaning) → Proper m → length (text m) ≤ 709
unfolding text tag_text Proper
most create_sequence h = omega arith
most (create_sequence_response n) h = simp length-append (omega (arith, identifier_most n h))
most (sequence n m bs) h = sequence_most n m bs h.0 h.1 h.2.1
most (ack_requested n) h = simp length-append (omega (arith, identifier_most n h))
most (sequence_acknowledgement n rs final c) h = omega (arith, receipt_most n rs final c h)
most (close_sequence n last) h = simp length-append (omega (arith, identifier_most n h.0, last_most last h.1))
most (close_sequence_response n rs c) h = simp length-append (omega (arith, receipt_most n rs true c h, identifier_most n h.0))
most (terminate_sequence n last) h = simp length-append (omega (arith, identifier_most n h.0, last_most last h.1))
most (terminate_sequence_response n rs c) h = simp length-append (omega (arith, receipt_most n rs true c h, identifier_most n h.0))
most (sequence_fault f) h = simp length-append (omega (arith, fault_most f h))

-- no frame of the code has a longer one
pub most_of_frame : (f : Frame) → length (text (meaning f)) ≤ 709
most_of_frame frame.CreateSequence = most _ (proper_frame frame.CreateSequence tt)
most_of_frame (frame.CreateSequenceResponse i) = most _ (proper_frame (frame.CreateSequenceResponse i) tt)
most_of_frame (frame.Sequence i m l) =
    sequence_most i.value m.value (content l) (i.low, i.high) (m.low, m.high) (omega (arith, l.few, length-take-le l.len l.bytes (omega (arith, l.few, l.whole))))
most_of_frame (frame.AckRequested i) = most _ (proper_frame (frame.AckRequested i) tt)
most_of_frame (frame.SequenceAcknowledgement r final) = most _ (proper_frame (frame.SequenceAcknowledgement r final) tt)
most_of_frame (frame.CloseSequence i last) = most _ (proper_frame (frame.CloseSequence i last) tt)
most_of_frame (frame.CloseSequenceResponse r) = most _ (proper_frame (frame.CloseSequenceResponse r) tt)
most_of_frame (frame.TerminateSequence i last) = most _ (proper_frame (frame.TerminateSequence i last) tt)
most_of_frame (frame.TerminateSequenceResponse r) = most _ (proper_frame (frame.TerminateSequenceResponse r) tt)
most_of_frame (frame.SequenceFault f) = most _ (proper_frame (frame.SequenceFault f) tt)

-- what was put into the front of memory was written
pub writes : (f : Frame) (before after : List ℕ) (len : ℕ) → LetterFits (meaning f) → Puts before (text (meaning f)) after len
    → Writes (meaning f) before after len
writes f before after len l p =
    let h = proper_frame f l in
    record {
      proper = h;
      size = p.size;
      bound = omega (arith, p.size, most (meaning f) h);
      bytes = p.bytes;
      alone = λ other i t. apart other (meaning f) i h t;
    }
