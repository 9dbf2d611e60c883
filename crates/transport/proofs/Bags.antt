-- A bag is a transport of depth 0.
use Rattle.std.proofs.Common.{ℕ, ◌-◌, ◌<◌, Bool, true, false, cond, ltb, [], ◌∷◌, length, take, drop, refl, subst, arith}
use Rattle.std.specs.List.{ContainsAt as Has}
use Rattle.std.proofs.ByRecursion.{has_get_or, has_append_left, has_append_right}
use Rattle.std.proofs.lemmas.List.{take-append-drop}
use Rattle.std.proofs.lemmas.Option.{slice_get-get_or}
use Rattle.transport.specs.Meaning.{Bytes, Frames, NothingNew, Put, Got}
use Rattle.transport.specs.Calls.{is_frame, is_enough, put_answer, get_answer, get_memory}
use Rattle.transport.specs.Bag.{newest, with_room, bag_put, bag_get}
use Rattle.transport.proofs.Exact.{cond_and, added_last, put_meets, Allowed, get_meets}

-- the faithful clause is not owed
never : {P : Type 0} (n : ℕ) → n < 0 → P
never n l = absurd (let none : ⊥ = omega arith in none)

-- a front and an end of a list have nothing new
front : (n : ℕ) (fs : Frames) → NothingNew fs (take n fs)
front n fs g h =
    subst (λ (l : Frames). Has l g) (take-append-drop n fs) (has_append_left (take n fs) (drop n fs) g h)

end : (n : ℕ) (fs : Frames) → NothingNew fs (drop n fs)
end n fs g h =
    subst (λ (l : Frames). Has l g) (take-append-drop n fs) (has_append_right (take n fs) (drop n fs) g h)

kept : (t : Bool) (before : Frames) → NothingNew before (cond t before (drop 1 before))
kept true before = λ g h. h
kept false before = end 1 before

pub bag_puts : (before : Frames) (frame : Bytes)
    → Put 0 before frame (put_answer frame) (bag_put before frame)
bag_puts before frame =
    put_meets 0 before _ frame (is_frame frame) refl
    (added_last 0 before (with_room before) frame
    (kept (ltb (length before) 8) before) (never (length before)))

left : (takes : Bool) (before : Frames)
    → NothingNew before (cond takes (take (length before - 1) before) before)
left true before = front (length before - 1) before
left false before = λ g h. h

allowed : (takes : Bool) (before : Frames)
    → Allowed 0 before (newest before) (cond takes (take (length before - 1) before) before)
allowed takes [] = (left takes [], never 0)
allowed takes (f ∷ fs) =
    let inside : length (f ∷ fs) - 1 < length (f ∷ fs) = omega arith in
    rw (slice_get-get_or (f ∷ fs) (length (f ∷ fs) - 1) f inside)
    (has_get_or (f ∷ fs) (length (f ∷ fs) - 1) f inside, left takes (f ∷ fs), never 0)

pub bag_gets : (takes : Bool) (before : Frames) (memory : Bytes)
    → Got 0 before memory (get_answer (newest before) memory)
    (bag_get takes before memory) (get_memory (newest before) memory)
bag_gets takes before memory =
    rw (cond_and (is_enough memory) takes (take (length before - 1) before) before)
    (get_meets 0 before _ (newest before) memory (is_enough memory) refl (allowed takes before))
