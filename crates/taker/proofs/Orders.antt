-- A put and a withdrawal keep the order of the paths.
use Rattle.std.proofs.Common.{◌≡◌, ℕ, Bool, true, false, cond, List, [], ◌∷◌, refl, arith}
use Rattle.std.proofs.lemmas.Bool.{and_parts, and_from}
use Rattle.std.proofs.lemmas.Bool.Decides.{nat_tests}
use Rattle.letter.specs.declared.change.Path.{Path}
use Rattle.taker.specs.Paths.{earlier, same, put, without, all_after, ascending, has_place, put_paths}

-- neither before nor at the pair of p: so p is before
after :
    (p q : Path) →
    earlier p.train p.section q ≡ false →
    same p.train p.section q ≡ false →
    earlier q.train q.section p ≡ true
after p q e f = grind (arith, nat_tests)

through :
    (p q r : Path) →
    earlier p.train p.section q ≡ false →
    earlier r.train r.section q ≡ true →
    earlier r.train r.section p ≡ true
through p q r e f = grind (arith, nat_tests)

after_from : (p q : Path) (qs : List Path) → earlier p.train p.section q ≡ false → all_after q qs ≡ true → all_after p qs ≡ true
after_from p q [] e a = refl
after_from p q (r ∷ rs) e a =
    let h = and_parts _ _ a in and_from _ _ (through p q r e h.0) (after_from p q rs e h.1)

after_put_by :
    (q p r : Path) (rs : List Path) (b c : Bool) →
    earlier p.train p.section q ≡ true →
    earlier r.train r.section q ≡ true →
    all_after q rs ≡ true →
    all_after q (put p rs) ≡ true →
    all_after q (cond b (r ∷ put p rs) (cond c (p ∷ rs) (p ∷ (r ∷ rs)))) ≡ true
after_put_by q p r rs true c e f a h = and_from _ _ f h
after_put_by q p r rs false true e f a h = and_from _ _ e a
after_put_by q p r rs false false e f a h = and_from _ _ e (and_from _ _ f a)

after_put : (q p : Path) (qs : List Path) → earlier p.train p.section q ≡ true → all_after q qs ≡ true → all_after q (put p qs) ≡ true
after_put q p [] e a = and_from _ _ e refl
after_put q p (r ∷ rs) e a =
    let h = and_parts _ _ a in
    after_put_by q p r rs (earlier p.train p.section r) (same p.train p.section r)
    e h.0 h.1 (after_put q p rs e h.1)

ascending_put_by :
    (p q : Path) (qs : List Path) (b c : Bool) →
    earlier p.train p.section q ≡ b →
    same p.train p.section q ≡ c →
    all_after q qs ≡ true →
    ascending qs ≡ true →
    ascending (put p qs) ≡ true →
    ascending (cond b (q ∷ put p qs) (cond c (p ∷ qs) (p ∷ (q ∷ qs)))) ≡ true
ascending_put_by p q qs true c e f a s h = and_from _ _ (after_put q p qs e a) h
ascending_put_by p q qs false true e f a s h = and_from _ _ (after_from p q qs e a) s
ascending_put_by p q qs false false e f a s h =
    and_from _ _ (and_from _ _ (after p q e f) (after_from p q qs e a)) (and_from _ _ a s)

pub ascending_put : (p : Path) (ps : List Path) → ascending ps ≡ true → ascending (put p ps) ≡ true
ascending_put p [] a = refl
ascending_put p (q ∷ qs) a =
    let h = and_parts _ _ a in ascending_put_by p q qs _ _ refl refl h.0 h.1 (ascending_put p qs h.1)

either : (b : Bool) (xs ys : List Path) → ascending xs ≡ true → ascending ys ≡ true → ascending (cond b xs ys) ≡ true
either true xs ys e f = e
either false xs ys e f = f

pub ascending_put_paths : (p : Path) (ps : List Path) → ascending ps ≡ true → ascending (put_paths p ps) ≡ true
ascending_put_paths p ps a = either (has_place p ps) _ _ (ascending_put p ps a) a

after_without_by :
    (q r : Path) (rs ws : List Path) (c : Bool) →
    earlier r.train r.section q ≡ true →
    all_after q rs ≡ true →
    all_after q ws ≡ true →
    all_after q (cond c rs (r ∷ ws)) ≡ true
after_without_by q r rs ws true e a h = a
after_without_by q r rs ws false e a h = and_from _ _ e h

after_without : (t s : ℕ) (q : Path) (qs : List Path) → all_after q qs ≡ true → all_after q (without t s qs) ≡ true
after_without t s q [] a = refl
after_without t s q (r ∷ rs) a =
    let h = and_parts _ _ a in
    after_without_by q r rs (without t s rs) (same t s r) h.0 h.1 (after_without t s q rs h.1)

ascending_without_by :
    (q : Path) (qs ws : List Path) (c : Bool) →
    ascending qs ≡ true →
    all_after q ws ≡ true →
    ascending ws ≡ true →
    ascending (cond c qs (q ∷ ws)) ≡ true
ascending_without_by q qs ws true a f h = a
ascending_without_by q qs ws false a f h = and_from _ _ f h

pub ascending_without : (t s : ℕ) (ps : List Path) → ascending ps ≡ true → ascending (without t s ps) ≡ true
ascending_without t s [] a = refl
ascending_without t s (q ∷ qs) a =
    let h = and_parts _ _ a in
    ascending_without_by q qs (without t s qs) (same t s q)
    h.1 (after_without t s q qs h.0) (ascending_without t s qs h.1)
