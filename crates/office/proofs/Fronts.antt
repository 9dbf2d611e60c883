-- The letters in front without a gap, and what they say of being whole.
use Rattle.std.proofs.Common.{cond, is_none, ◌≡◌, ℕ, zero, suc, ◌+◌, ◌-◌, ◌<◌, ◌≤◌, Bool, true, false, ◌&&◌, leb, List, [], ◌∷◌, length, get_or, is_some, Some, None, MatchBool, Option, sym, refl, subst, inl, inr, add-one, arith}
use Rattle.std.proofs.lemmas.Bool.{cases_lt, leb-true, leb-false}
use Rattle.std.proofs.lemmas.Bool.Decides.{nat_tests}
use Rattle.pieces.proofs.Finds.{at_most_length}
use Rattle.office.specs.Accepted.{accepted_at, is_accepted}
use Rattle.office.specs.Destinations.{Destination}
use Rattle.office.specs.Wholes.{front, is_over, is_whole, Whole}

module _ {A : Type 0} where
  pub front_next : (p : Option A) (ps : List (Option A)) → front (p ∷ ps) ≡ cond (is_none p) 0 (1 + front ps)
  front_next None ps = refl
  front_next (Some a) ps = omega arith

  front_within : (ps : List (Option A)) → front ps ≤ length ps
  front_within ps = at_most_length (front {A = A}) is_none refl front_next ps

  front_taken : (ps : List (Option A)) (k : ℕ) → k < front ps → is_some (get_or ps k None) ≡ true
  front_taken [] k h = absurd (omega arith)
  front_taken (None ∷ ps) k h = absurd (omega arith)
  front_taken (Some a ∷ ps) zero h = refl
  front_taken (Some a ∷ ps) (suc k) h = front_taken ps k (omega arith)

  front_stop : (ps : List (Option A)) → is_some (get_or ps (front ps) None) ≡ false
  front_stop [] = refl
  front_stop (None ∷ ps) = refl
  front_stop (Some a ∷ ps) = let h = front_stop ps in rw add-one h

  reached : (d : ℕ) (ps : List (Option A)) → length ps ≡ 8 → (n : ℕ) → 1 ≤ n → n ≤ d + front ps
      → accepted_at d ps n ≡ true
  reached d ps eight n low high =
      elim (cases_lt d n) [
        | inl lt ↦
            let w = front_within ps in
            let t = front_taken ps (n - d - 1) (omega arith) in
            grind (arith, nat_tests)
        | inr le ↦ grind (arith, nat_tests)
      ]

  missing : (d : ℕ) (ps : List (Option A)) → accepted_at d ps (d + front ps + 1) ≡ false
  missing d ps =
      let k : d + front ps + 1 - d - 1 ≡ front ps = omega arith in
      let t : is_some (get_or ps (d + front ps + 1 - d - 1) None) ≡ false = rw k (front_stop ps) in
      grind (arith, nat_tests)

by_tests : (o : Destination) → length o.places ≡ 8 → (b c : Bool)
    → is_over o.state ≡ b → leb o.last (o.delivered + front o.places) ≡ c
    → MatchBool (b && c) (Whole o) (Whole o → ⊥)
unfolding is_accepted
by_tests o eight true true p q =
    let h = leb-true _ _ q in
    record {
      over = p;
      all = λ n low high. reached o.delivered o.places eight n low (omega arith);
    }
by_tests o eight true false p q = λ w.
    let h = leb-false _ _ q in
    let a = w.all (o.delivered + front o.places + 1) (omega arith) (omega arith) in
    let b = missing o.delivered o.places in
    let z : ◌≡◌ {A = ℕ} 0 1 = cc in
    omega arith
by_tests o eight false c p q = λ w.
    let a = w.over in
    let z : ◌≡◌ {A = ℕ} 0 1 = cc in
    omega arith

whole_law : (o : Destination) → length o.places ≡ 8 → MatchBool (is_whole o) (Whole o) (Whole o → ⊥)
unfolding is_whole
whole_law o eight =
    by_tests o eight (is_over o.state) (leb o.last (o.delivered + front o.places)) refl refl

pub law_from : (o : Destination) → length o.places ≡ 8 → (r : Bool) → r ≡ is_whole o
    → MatchBool r (Whole o) (Whole o → ⊥)
law_from o eight r e = subst (λ b. MatchBool b (Whole o) (Whole o → ⊥)) (sym e) (whole_law o eight)
