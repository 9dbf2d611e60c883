-- The places, one number further.
use Rattle.std.proofs.Common.{◌≡◌, ℕ, zero, suc, ◌+◌, List, [], ◌∷◌, ◌++◌, length, get_or, take, drop, set, is_some, Some, None, Option, sym, refl, ap, ◌∙◌, arith, length-append, length-drop}
use Rattle.office.specs.Deliveries.{first, left, left_by}
use Rattle.office.specs.Places.{Numbered, shifted}

module _ {A : Type 0} where
  set_end : (ps : List (Option A)) (p q : Option A)
      → set (ps ++ (p ∷ [])) (length ps) q ≡ ps ++ (q ∷ [])
  set_end [] p q = refl
  set_end (x ∷ ps) p q = ap (λ rs. x ∷ rs) (set_end ps p q)

  pub rotated : (ps : List (Option A)) → length ps ≡ 8
      → set (drop 1 ps ++ take 1 ps) 7 None ≡ shifted ps
  rotated [] e = absurd (omega arith)
  rotated (p ∷ ps) e = let seven : length ps ≡ 7 = omega arith in rw seven at (set_end ps p None)

  at_end : (ps : List (Option A)) (k : ℕ) → get_or (ps ++ (None ∷ [])) k None ≡ get_or ps k None
  at_end [] zero = refl
  at_end [] (suc k) = refl
  at_end (p ∷ ps) zero = refl
  at_end (p ∷ ps) (suc k) = at_end ps k

  pub at_shifted : (ps : List (Option A)) (k : ℕ) → get_or (shifted ps) k None ≡ get_or ps (suc k) None
  at_shifted [] zero = refl
  at_shifted [] (suc k) = refl
  at_shifted (p ∷ ps) k = at_end ps k

  pub numbered_shifted : (d : ℕ) (ps : List (Option A)) → Numbered d ps
      → Numbered (d + 1) (shifted ps)
  numbered_shifted d ps h k e =
      let m = h (suc k) (ap is_some (sym (at_shifted ps k)) ∙ e) in
      omega arith

  pub length_shifted : (ps : List (Option A)) → length ps ≡ 8 → length (shifted ps) ≡ 8
  length_shifted ps e = simp (length-append, length-drop) (omega arith)

  -- what a delivery leaves where there is a first letter
  pub left_shifted : (d : ℕ) (ps : List (Option A)) (a : A) → first ps ≡ Some a → shifted ps ≡ (left d ps).1
  left_shifted d ps a e = sym (ap (λ p. (left_by p d ps).1) e)
