-- A mailbox is a transport of depth 32.
use Rattle.std.proofs.Common.{◌≡◌, Bool, true, false, cond, ltb, [], ◌∷◌, ◌++◌, length, drop, refl, arith}
use Rattle.std.proofs.ByRecursion.{has_get_or, has_append_right}
use Rattle.std.proofs.lemmas.Bool.{ltb-false}
use Rattle.transport.specs.Meaning.{Bytes, Frames, Sized, Added, Put, Got}
use Rattle.transport.specs.Calls.{is_frame, is_enough, put_answer, get_answer, get_memory}
use Rattle.transport.specs.Mailbox.{oldest, mailbox_put, mailbox_get}
use Rattle.transport.proofs.Exact.{cond_and, added_last, added_lost, put_meets, Allowed, get_meets}

adds : (before : Frames) (frame : Bytes) (t : Bool) → ltb (length before) 32 ≡ t
    → Sized frame → Added 32 before frame (cond t (before ++ frame ∷ []) before)
adds before frame true e s = added_last 32 before before frame (λ g h. h) (λ _. refl) s
adds before frame false e s = added_lost 32 before frame (ltb-false _ _ e) s

pub mailbox_puts : (before : Frames) (frame : Bytes)
    → Put 32 before frame (put_answer frame) (mailbox_put before frame)
mailbox_puts before frame =
    rw (cond_and (is_frame frame) (ltb (length before) 32) (before ++ frame ∷ []) before)
    (put_meets 32 before _ frame (is_frame frame) refl (adds before frame (ltb (length before) 32) refl))

allowed : (before : Frames) → Allowed 32 before (oldest before) (drop 1 before)
allowed [] = (λ g h. h, λ _. refl)
allowed (f ∷ fs) =
    (has_get_or (f ∷ fs) 0 f (omega arith), λ g h. has_append_right (f ∷ []) fs g h, λ _. refl)

pub mailbox_gets : (before : Frames) (memory : Bytes)
    → Got 32 before memory (get_answer (oldest before) memory)
    (mailbox_get before memory) (get_memory (oldest before) memory)
mailbox_gets before memory =
    get_meets 32 before (drop 1 before) (oldest before) memory (is_enough memory) refl (allowed before)
