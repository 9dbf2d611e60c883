-- From what a transport does, as equations, to the meaning of put and get.
use Rattle.std.proofs.Common.{◌≡◌, ℕ, ◌<◌, ◌≤◌, Bool, true, false, cond, ◌&&◌, [], ◌∷◌, ◌++◌, length, Some, None, Ok, Err, Option, sym, refl, ap, ◌∙◌, inl, inr, ⊎_elim, arith}
use Rattle.std.specs.List.{ContainsAt as Has}
use Rattle.std.proofs.ByRecursion.{has_push_cases}
use Rattle.std.proofs.lemmas.Bool.{true≢false, leb-true, leb-false}
use Rattle.std.proofs.lemmas.Bool.Decides.{nat_tests}
use Rattle.transport.specs.declared.refusal.TransportRefusal.TheVariants.{FrameSize, MemorySize}
use Rattle.transport.specs.Meaning.{Bytes, Frames, Sized, NothingNew, Added, Put, Got}
use Rattle.transport.specs.Calls.{is_frame, is_enough, long, written}

-- two tests at once, or one after the other
pub cond_and : {X : Type 0} (s t : Bool) (x y : X) → cond (s && t) x y ≡ cond s (cond t x y) y
cond_and true t x y = refl
cond_and false t x y = refl

sized_test : (frame : Bytes) → Sized frame → is_frame frame ≡ true
sized_test frame s = grind (arith, nat_tests)

test_sized : (frame : Bytes) → is_frame frame ≡ true → Sized frame
test_sized frame e = record { some = grind (arith, nat_tests); few = grind (arith, nat_tests) }

-- a frame is added at the end of what is kept
pub added_last : (depth : ℕ) (before kept : Frames) (frame : Bytes)
    → NothingNew before kept → (length before < depth → kept ≡ before)
    → Sized frame → Added depth before frame (kept ++ frame ∷ [])
added_last depth before kept frame n k s = record {
  sized = s;
  only = λ g h. ⊎_elim (λ w. inl (n g w)) (λ e. inr (sym e)) (has_push_cases kept frame g h);
  appended = λ l. ap (λ fs. fs ++ frame ∷ []) (k l);
}

-- a frame is lost, where as many wait as the depth
pub added_lost : (depth : ℕ) (before : Frames) (frame : Bytes)
    → depth ≤ length before → Sized frame → Added depth before frame before
added_lost depth before frame full s = record {
  sized = s;
  only = λ g h. inl h;
  appended = λ l. absurd (let no_room : ⊥ = omega arith in no_room);
}

-- a put that adds each frame, and refuses what is none
pub put_meets : (depth : ℕ) (before added : Frames) (frame : Bytes) (t : Bool) → is_frame frame ≡ t
    → (Sized frame → Added depth before frame added)
    → Put depth before frame (cond t (Ok tt) (Err FrameSize)) (cond t added before)
put_meets depth before added frame true e a = a (test_sized frame e)
put_meets depth before added frame false e a =
    record { unsized = λ s. true≢false (sym (sized_test frame s) ∙ e); same = refl }

-- what a get may hand out, and leave waiting
abbrev pub Allowed : ℕ → Frames → Option Bytes → Frames → Type 0
Allowed depth before None left = NothingNew before left × (0 < depth → before ≡ [])
Allowed depth before (Some frame) left =
    Has before frame × NothingNew before left × (0 < depth → before ≡ frame ∷ left)

-- a get that hands out what it may, and refuses less than 800 bytes of memory
pub get_meets : (depth : ℕ) (before left : Frames) (handed : Option Bytes) (memory : Bytes)
    (t : Bool) → is_enough memory ≡ t → Allowed depth before handed left
    → Got depth before memory (cond t (Ok (long handed)) (Err MemorySize))
    (cond t left before) (cond t (written handed memory) memory)
get_meets depth before left None memory true e a =
    record { room = leb-true _ _ e; unwritten = refl; nothing_new = a.0; none = a.1 }
get_meets depth before left (Some frame) memory true e a = record {
  room = leb-true _ _ e;
  frame = frame;
  waited = a.0;
  long = refl;
  written = refl;
  nothing_new = a.1;
  taken = a.2;
}
get_meets depth before left handed memory false e a =
    record { small = leb-false _ _ e; unwritten = refl; same = refl }
