-- What a caller of any transport knows once it has seen the answer.
use Rattle.std.proofs.Common.{◌≡◌, ℕ, ◌-◌, take, Some, None, Ok, Err, Option, Result, ap, ◌∙◌}
use native.Mathlib.Nat.{sub-zero}
use Rattle.std.proofs.lemmas.List.{take_at}
use Rattle.transport.specs.declared.refusal.TransportRefusal.{TransportRefusal}
use Rattle.transport.specs.declared.refusal.TransportRefusal.TheVariants.{FrameSize, MemorySize}
use Rattle.transport.specs.Meaning.{Bytes, Frames, Added, NotPut, Put, Took, Missed, NotGot, Got}

abbrev PutAnswer : Type 0
PutAnswer = Result (Unit {0}) TransportRefusal

abbrev GetAnswer : Type 0
GetAnswer = Result (Option ℕ) TransportRefusal

-- The record for each answer of a put.

pub put_added : {depth : ℕ} {before after : Frames} {frame : Bytes} {r : PutAnswer} (done : Unit {0})
    → r ≡ Ok done → Put depth before frame r after → Added depth before frame after
put_added done e h = rw e at h

pub put_refused : (depth : ℕ) {before after : Frames} {frame : Bytes} {r : PutAnswer}
    (why : TransportRefusal) → r ≡ Err why → Put depth before frame r after → NotPut before frame after
put_refused depth FrameSize e h = rw e at h
put_refused depth MemorySize e h = absurd (rw e at h)

-- The record for each answer of a get.

pub got_took : {depth : ℕ} {before after : Frames} {memory memory' : Bytes} {r : GetAnswer} (n : ℕ)
    → r ≡ Ok (Some n) → Got depth before memory r after memory' → Took depth before memory n after memory'
got_took n e h = rw e at h

pub got_missed : {depth : ℕ} {before after : Frames} {memory memory' : Bytes} {r : GetAnswer}
    → r ≡ Ok None → Got depth before memory r after memory' → Missed depth before memory after memory'
got_missed e h = rw e at h

pub got_refused : (depth : ℕ) {before after : Frames} {memory memory' : Bytes} {r : GetAnswer}
    (why : TransportRefusal) → r ≡ Err why → Got depth before memory r after memory' → NotGot before memory after memory'
got_refused depth MemorySize e h = rw e at h
got_refused depth FrameSize e h = absurd (rw e at h)

-- the first n bytes of the memory are the frame
pub took_front : {depth n : ℕ} {before after : Frames} {memory memory' : Bytes}
    (t : Took depth before memory n after memory') → take n memory' ≡ t.frame
took_front {n = n} t = ap (take n) t.written ∙ take_at t.frame _ n t.long

-- the same of `&memory[0..n]`, which is `take (n - 0)`
pub took_bytes : {depth n : ℕ} {before after : Frames} {memory memory' : Bytes}
    (t : Took depth before memory n after memory') → take (n - 0) memory' ≡ t.frame
took_bytes t = rw sub-zero (took_front t)
