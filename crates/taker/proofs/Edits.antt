-- An edit of the paths at the spot of a pair is a put or a withdrawal of that pair.
use Rattle.std.proofs.Common.{◌≡◌, ℕ, ◌<◌, ◌≤◌, Bool, true, false, cond, ◌||◌, ltb, List, [], ◌∷◌, length, set, is_some, Some, Ok, Err, Option, Result, sym, refl, ap, ◌∙◌}
use Rattle.std.specs.List.{insert, remove}
use Rattle.std.proofs.lemmas.Bool.{and_parts, both_ways, lt-ltb, le-ltb, cond-true, cond-false}
use Rattle.letter.specs.declared.change.Path.{Path}
use Rattle.taker.specs.Paths.{earlier, same, look, holds, put, without, ascending, has_place, put_paths}
use Rattle.taker.specs.Spots.{next, spot_of}
use Rattle.taker.proofs.Lookups.{apart, not_front, none_later}

-- what the code does at a spot

abbrev put_spot : Path → List Path → Result ℕ ℕ → List Path
put_spot p ps (Ok i) = set ps i p
put_spot p ps (Err i) = insert ps i p

abbrev without_spot : List Path → Result ℕ ℕ → List Path
without_spot ps (Ok i) = remove ps i
without_spot ps (Err i) = ps

abbrev is_held : Result ℕ ℕ → Bool
is_held (Ok i) = true
is_held (Err i) = false

put_next : (p q : Path) (qs : List Path) (x : Result ℕ ℕ) → put_spot p (q ∷ qs) (next x) ≡ q ∷ put_spot p qs x
put_next p q qs (Ok i) = refl
put_next p q qs (Err i) = refl

without_next : (q : Path) (qs : List Path) (x : Result ℕ ℕ) → without_spot (q ∷ qs) (next x) ≡ q ∷ without_spot qs x
without_next q qs (Ok i) = refl
without_next q qs (Err i) = refl

held_next : (x : Result ℕ ℕ) → is_held (next x) ≡ is_held x
held_next (Ok i) = refl
held_next (Err i) = refl

-- a put

put_by :
    (p q : Path) (qs : List Path) (x : Result ℕ ℕ) (b c : Bool) →
    put p qs ≡ put_spot p qs x →
    cond b (q ∷ put p qs) (cond c (p ∷ qs) (p ∷ (q ∷ qs))) ≡
    put_spot p (q ∷ qs) (cond b (next x) (cond c (Ok 0) (Err 0)))
put_by p q qs x true c h = ap (λ l. q ∷ l) h ∙ sym (put_next p q qs x)
put_by p q qs x false true h = refl
put_by p q qs x false false h = refl

put_is : (p : Path) (ps : List Path) → put p ps ≡ put_spot p ps (spot_of p.train p.section ps)
put_is p [] = refl
put_is p (q ∷ qs) =
    put_by p q qs (spot_of p.train p.section qs)
    (earlier p.train p.section q) (same p.train p.section q) (put_is p qs)

-- whether a path is held

holds_by :
    (q : Path) (o : Option Path) (x : Result ℕ ℕ) (b c : Bool) →
    (b ≡ true → c ≡ false) →
    (b ≡ false → is_some o ≡ false) →
    is_some o ≡ is_held x →
    is_some (cond c (Some q) o) ≡ is_held (cond b (next x) (cond c (Ok 0) (Err 0)))
holds_by q o x true true a n h = absurd (both_ways true (a refl) refl)
holds_by q o x true false a n h = h ∙ sym (held_next x)
holds_by q o x false true a n h = refl
holds_by q o x false false a n h = n refl

holds_is : (t s : ℕ) (ps : List Path) → ascending ps ≡ true → holds t s ps ≡ is_held (spot_of t s ps)
holds_is t s [] a = refl
holds_is t s (q ∷ qs) a =
    let h = and_parts _ _ a in
    holds_by q (look t s qs) (spot_of t s qs) (earlier t s q) (same t s q)
    (apart t s q) (λ e. none_later t s q qs e h.0) (holds_is t s qs h.1)

-- a withdrawal

without_none : (t s : ℕ) (qs : List Path) → holds t s qs ≡ false → without t s qs ≡ qs
without_none t s [] h = refl
without_none t s (q ∷ qs) h =
    let e = not_front (same t s q) q (look t s qs) h in
    cond-false _ _ _ e.0 ∙ ap (λ l. q ∷ l) (without_none t s qs e.1)

without_by :
    (t s : ℕ) (q : Path) (qs : List Path) (x : Result ℕ ℕ) (b c : Bool) →
    (b ≡ true → c ≡ false) →
    (b ≡ false → without t s qs ≡ qs) →
    without t s qs ≡ without_spot qs x →
    cond c qs (q ∷ without t s qs) ≡ without_spot (q ∷ qs) (cond b (next x) (cond c (Ok 0) (Err 0)))
without_by t s q qs x true true a n h = absurd (both_ways true (a refl) refl)
without_by t s q qs x true false a n h = ap (λ l. q ∷ l) h ∙ sym (without_next q qs x)
without_by t s q qs x false true a n h = refl
without_by t s q qs x false false a n h = ap (λ l. q ∷ l) (n refl)

without_is : (t s : ℕ) (ps : List Path) → ascending ps ≡ true → without t s ps ≡ without_spot ps (spot_of t s ps)
without_is t s [] a = refl
without_is t s (q ∷ qs) a =
    let h = and_parts _ _ a in
    without_by t s q qs (spot_of t s qs) (earlier t s q) (same t s q)
    (apart t s q) (λ e. without_none t s qs (none_later t s q qs e h.0)) (without_is t s qs h.1)

-- at the spot of a train and section
module _ (ps : List Path) (a : ascending ps ≡ true) where
  pub removed_held : (t s i : ℕ) → Ok i ≡ spot_of t s ps → remove ps i ≡ without t s ps
  removed_held t s i e = sym (without_is t s ps a ∙ ap (without_spot ps) (sym e))

  pub kept_free : (t s i : ℕ) → Err i ≡ spot_of t s ps → ps ≡ without t s ps
  kept_free t s i e = sym (without_is t s ps a ∙ ap (without_spot ps) (sym e))

  module _ (p : Path) (i : ℕ) where
    place : (x : Result ℕ ℕ) → x ≡ spot_of p.train p.section ps → has_place p ps ≡ (is_held x || ltb (length ps) 32)
    place x e = ap (λ b. b || ltb (length ps) 32) (holds_is p.train p.section ps a ∙ ap is_held (sym e))

    edited : (x : Result ℕ ℕ) → x ≡ spot_of p.train p.section ps → has_place p ps ≡ true → put_spot p ps x ≡ put_paths p ps
    edited x e h = sym (cond-true _ _ _ h ∙ put_is p ps ∙ ap (put_spot p ps) (sym e))

    pub has_held : Ok i ≡ spot_of p.train p.section ps → true ≡ has_place p ps
    has_held e = sym (place (Ok i) e)

    pub has_free : Err i ≡ spot_of p.train p.section ps → length ps < 32 → true ≡ has_place p ps
    has_free e h = sym (place (Err i) e ∙ lt-ltb _ _ h)

    pub has_none : Err i ≡ spot_of p.train p.section ps → 32 ≤ length ps → false ≡ has_place p ps
    has_none e h = sym (place (Err i) e ∙ le-ltb _ _ h)

    pub set_held : Ok i ≡ spot_of p.train p.section ps → set ps i p ≡ put_paths p ps
    set_held e = edited (Ok i) e (sym (has_held e))

    pub insert_free : Err i ≡ spot_of p.train p.section ps → length ps < 32 → insert ps i p ≡ put_paths p ps
    insert_free e h = edited (Err i) e (sym (has_free e h))

    pub full_free : Err i ≡ spot_of p.train p.section ps → 32 ≤ length ps → ps ≡ put_paths p ps
    full_free e h = sym (cond-false _ _ _ (sym (has_none e h)))
