-- What a list of paths holds for a pair after a put and after a withdrawal.
use Rattle.std.proofs.Common.{◌≡◌, ℕ, Bool, true, false, cond, List, [], ◌∷◌, is_some, Some, None, Option, sym, refl, ap, ◌∙◌, arith}
use Rattle.std.proofs.lemmas.Bool.{and_parts, cond-true, cond-false, true≢false}
use Rattle.std.proofs.lemmas.Bool.Decides.{nat_tests}
use Rattle.letter.specs.declared.change.Path.{Path}
use Rattle.taker.specs.Paths.{earlier, same, look, holds, put, without, all_after, ascending}

-- how the keys compare

pub same_self : (p : Path) → same p.train p.section p ≡ true
same_self p = grind (arith, nat_tests)

pub apart : (t s : ℕ) (q : Path) → earlier t s q ≡ true → same t s q ≡ false
apart t s q e = grind (arith, nat_tests)

pub at_not_before : (t s : ℕ) (q : Path) → same t s q ≡ true → earlier t s q ≡ false
at_not_before t s q e = grind (arith, nat_tests)

-- the pair is not before q, and q is before r: so r is not of that pair
pub past : (t s : ℕ) (q r : Path) → earlier t s q ≡ false → earlier r.train r.section q ≡ true → same t s r ≡ false
past t s q r e f = grind (arith, nat_tests)

-- another pair than that of a path
pub other_path : (t s u v : ℕ) (q : Path) → ((t ≡ u) × (s ≡ v) → ⊥) → same u v q ≡ true → same t s q ≡ false
other_path t s u v q n e = grind (arith, nat_tests)

-- what is held

pub none_held : (o : Option Path) → is_some o ≡ false → o ≡ None
none_held None e = refl
none_held (Some p) e = absurd (true≢false e)

-- an option of a path in front and the rest: held is in front or in the rest
pub not_front : (c : Bool) (q : Path) (o : Option Path) → is_some (cond c (Some q) o) ≡ false → (c ≡ false) × (is_some o ≡ false)
not_front true q o e = absurd (true≢false e)
not_front false q o e = (refl, e)

-- nothing is held for a pair behind a path that does not come before it
pub none_later : (t s : ℕ) (q : Path) (qs : List Path) → earlier t s q ≡ false → all_after q qs ≡ true → holds t s qs ≡ false
none_later t s q [] e a = refl
none_later t s q (r ∷ rs) e a =
    let h = and_parts _ _ a in
    ap is_some (cond-false _ _ _ (past t s q r e h.0)) ∙ none_later t s q rs e h.1

-- after a put

put_holds_by :
    (p q : Path) (qs : List Path) (b c : Bool) →
    earlier p.train p.section q ≡ b →
    look p.train p.section (put p qs) ≡ Some p →
    look p.train p.section (cond b (q ∷ put p qs) (cond c (p ∷ qs) (p ∷ (q ∷ qs)))) ≡ Some p
put_holds_by p q qs true c e rest = cond-false _ _ _ (apart p.train p.section q e) ∙ rest
put_holds_by p q qs false true e rest = cond-true _ _ _ (same_self p)
put_holds_by p q qs false false e rest = cond-true _ _ _ (same_self p)

pub put_holds : (p : Path) (ps : List Path) → look p.train p.section (put p ps) ≡ Some p
put_holds p [] = cond-true _ _ _ (same_self p)
put_holds p (q ∷ qs) =
    put_holds_by p q qs (earlier p.train p.section q) (same p.train p.section q) refl (put_holds p qs)

module _ (t s : ℕ) (p : Path) (other : (t ≡ p.train) × (s ≡ p.section) → ⊥) where
  not_p : same t s p ≡ false
  not_p = other_path t s p.train p.section p other (same_self p)

  put_others_by :
      (q : Path) (qs : List Path) (b c : Bool) →
      same p.train p.section q ≡ c →
      look t s (put p qs) ≡ look t s qs →
      look t s (cond b (q ∷ put p qs) (cond c (p ∷ qs) (p ∷ (q ∷ qs)))) ≡ look t s (q ∷ qs)
  put_others_by q qs true c e rest = ap (λ o. cond (same t s q) (Some q) o) rest
  put_others_by q qs false true e rest =
      cond-false _ _ _ not_p ∙ sym (cond-false _ _ _ (other_path t s p.train p.section q other e))
  put_others_by q qs false false e rest = cond-false _ _ _ not_p

  pub put_others : (ps : List Path) → look t s (put p ps) ≡ look t s ps
  put_others [] = cond-false _ _ _ not_p
  put_others (q ∷ qs) =
      put_others_by q qs (earlier p.train p.section q) (same p.train p.section q) refl (put_others qs)

-- after a withdrawal

without_gone_by :
    (t s : ℕ) (q : Path) (qs : List Path) (c : Bool) →
    same t s q ≡ c →
    all_after q qs ≡ true →
    look t s (without t s qs) ≡ None →
    look t s (cond c qs (q ∷ without t s qs)) ≡ None
without_gone_by t s q qs true e a rest = none_held _ (none_later t s q qs (at_not_before t s q e) a)
without_gone_by t s q qs false e a rest = cond-false _ _ _ e ∙ rest

pub without_gone : (t s : ℕ) (ps : List Path) → ascending ps ≡ true → look t s (without t s ps) ≡ None
without_gone t s [] a = refl
without_gone t s (q ∷ qs) a =
    let h = and_parts _ _ a in without_gone_by t s q qs (same t s q) refl h.0 (without_gone t s qs h.1)

module _ (t s u v : ℕ) (other : (t ≡ u) × (s ≡ v) → ⊥) where
  without_others_by :
      (q : Path) (qs : List Path) (c : Bool) →
      same u v q ≡ c →
      look t s (without u v qs) ≡ look t s qs →
      look t s (cond c qs (q ∷ without u v qs)) ≡ look t s (q ∷ qs)
  without_others_by q qs true e rest = sym (cond-false _ _ _ (other_path t s u v q other e))
  without_others_by q qs false e rest = ap (λ o. cond (same t s q) (Some q) o) rest

  pub without_others : (ps : List Path) → look t s (without u v ps) ≡ look t s ps
  without_others [] = refl
  without_others (q ∷ qs) = without_others_by q qs (same u v q) refl (without_others qs)
