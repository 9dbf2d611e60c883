-- What a put and a get leave of a fact P that holds of every waiting frame, at any transport.
use Rattle.std.proofs.Common.{◌≡◌, ℕ, Some, None, Ok, Err, Option, Result, sym, subst, ⊎_elim}
use Rattle.transport.specs.declared.refusal.TransportRefusal.{TransportRefusal}
use Rattle.transport.specs.declared.refusal.TransportRefusal.TheVariants.{FrameSize, MemorySize}
use Rattle.transport.specs.Meaning.{Bytes, Frames, EachFrame, Added, Put, Took, Got}

-- a call that changes nothing
pub same_keeps : (P : Bytes → Type 0) {before after : Frames}
    → after ≡ before → EachFrame P before → EachFrame P after
same_keeps P e a = subst (EachFrame P) (sym e) a

-- a put of a frame of which P holds
pub added_keeps : (P : Bytes → Type 0) {depth : ℕ} {before after : Frames} {frame : Bytes}
    → Added depth before frame after → P frame → EachFrame P before → EachFrame P after
added_keeps P h p a g w = ⊎_elim (a g) (λ e. subst P (sym e) p) (h.only g w)

-- the same, done or refused
pub put_keeps : (P : Bytes → Type 0) (depth : ℕ) (before after : Frames) (frame : Bytes)
    (r : Result (Unit {0}) TransportRefusal)
    → Put depth before frame r after → P frame → EachFrame P before → EachFrame P after
put_keeps P depth before after frame (Ok done) h p a = added_keeps P h p a
put_keeps P depth before after frame (Err FrameSize) h p a = same_keeps P h.same a
put_keeps P depth before after frame (Err MemorySize) h p a = absurd h

-- any get
pub get_keeps : (P : Bytes → Type 0) (depth : ℕ) (before after : Frames) (memory memory' : Bytes)
    (r : Result (Option ℕ) TransportRefusal)
    → Got depth before memory r after memory' → EachFrame P before → EachFrame P after
get_keeps P depth before after memory memory' (Ok (Some n)) h a g w = a g (h.nothing_new g w)
get_keeps P depth before after memory memory' (Ok None) h a g w = a g (h.nothing_new g w)
get_keeps P depth before after memory memory' (Err MemorySize) h a g w = same_keeps P h.same a g w
get_keeps P depth before after memory memory' (Err FrameSize) h a g w = absurd h

-- what came out was waiting, so P holds of it
pub took_holds : (P : Bytes → Type 0) {depth n : ℕ} {before after : Frames} {memory memory' : Bytes}
    (t : Took depth before memory n after memory') → EachFrame P before → P t.frame
took_holds P t a = a t.frame t.waited
