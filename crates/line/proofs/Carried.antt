-- The texts of frames are frames for every transport, and what a line gets fits its memory.
use Rattle.std.proofs.Common.{◌≡◌, ℕ, ◌≤◌, length, take, drop, Ok, Err, Result, sym, ap, ◌∙◌, subst, arith, rules}
use Rattle.std.specs.Result.{IsOk}
use Rattle.std.proofs.lemmas.List.{take_at}
use Rattle.frame.specs.Meanings.{
  Meaning,
  create_sequence,
  create_sequence_response,
  sequence,
  ack_requested,
  sequence_acknowledgement,
  close_sequence,
  close_sequence_response,
  terminate_sequence,
  terminate_sequence_response,
  sequence_fault,
}
use Rattle.frame_writer.specs.Putting.{Writes}
use Rattle.grammar.specs.Texts.{text, receipt_text}
use Rattle.pieces.specs.Tags.{tag_text}
use Rattle.transport.specs.Meaning.{Bytes, Frames, Sized, Put}
use Rattle.transport.specs.declared.refusal.TransportRefusal.{TransportRefusal}
use Rattle.transport.specs.declared.refusal.TransportRefusal.TheVariants.{FrameSize, MemorySize}

-- a text begins with a tag
text_some : (m : Meaning) → 1 ≤ length (text m)
unfolding text receipt_text tag_text
text_some create_sequence = omega arith
text_some (create_sequence_response n) = omega arith
text_some (sequence n m bs) = omega arith
text_some (ack_requested n) = omega arith
text_some (sequence_acknowledgement n rs final c) = omega arith
text_some (close_sequence n last) = omega arith
text_some (close_sequence_response n rs c) = omega arith
text_some (terminate_sequence n last) = omega arith
text_some (terminate_sequence_response n rs c) = omega arith
text_some (sequence_fault f) = omega arith

-- what the writer wrote is the text
written_text : (m : Meaning) (before after : Bytes) (n : ℕ) → Writes m before after n → take n after ≡ text m
written_text m before after n w = ap (take n) w.bytes ∙ take_at (text m) (drop n before) n (sym w.size)

text_sized : (m : Meaning) (before after : Bytes) (n : ℕ) → Writes m before after n → Sized (text m)
text_sized m before after n w =
    record { some = text_some m; few = omega (arith, w.size, w.bound) }

-- a put of a frame is done
put_done :
    (depth : ℕ) (old new : Frames) (frame : Bytes) (r : Result (Unit {0}) TransportRefusal) → Sized frame → Put depth old frame r new → IsOk r
put_done depth old new frame (Ok done) s p = search rules
put_done depth old new frame (Err FrameSize) s p = absurd (p.unsized s)
put_done depth old new frame (Err MemorySize) s p = absurd p

pub text_put :
    (m : Meaning) (before after : Bytes) (n depth : ℕ) (old new : Frames) (r : Result (Unit {0}) TransportRefusal) →
    Writes m before after n → Put depth old (take n after) r new → IsOk r
text_put m before after n depth old new r w p =
    put_done depth old new (take n after) r (subst Sized (sym (written_text m before after n w)) (text_sized m before after n w)) p
