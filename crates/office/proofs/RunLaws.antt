-- The runs of accepted numbers are few, ascend, do not touch, and name exactly those numbers.
use Rattle.std.proofs.Common.{◌≡◌, ℕ, suc, ◌+◌, ◌-◌, ◌*◌, ◌<◌, ◌≤◌, Bool, true, false, cond, ◌&&◌, ◌||◌, ltb, leb, List, [], ◌∷◌, ◌++◌, length, get_or, is_some, Some, None, Option, sym, refl, ap, ◌∙◌, inl, inr, append-nil, arith}
use Rattle.std.proofs.lemmas.List.{get_or_past}
use Rattle.std.proofs.lemmas.Bool.{cases_lt, and_from, le-leb, ltb-true}
use Rattle.std.proofs.lemmas.Bool.Decides.{nat_tests}
use Rattle.frame.specs.Ascending.{ascending}
use Rattle.frame.specs.Bounds.{M}
use Rattle.frame.specs.declared.range.Range.{Range}
use Rattle.frame.specs.Covers.{covers}
use Rattle.office.specs.Accepted.{accepted_at}
use Rattle.office.specs.Places.{Numbered}
use Rattle.office.specs.Ranges.{range_of, run, runs}

one_at_most : (b : Bool) → cond b 1 0 ≤ 1
one_at_most true = omega arith
one_at_most false = omega arith

length_run : (b : Bool) (r : Range) (rs : List Range)
    → length (cond b (r ∷ []) [] ++ rs) ≡ cond b 1 0 + length rs
length_run true r rs = omega arith
length_run false r rs = omega arith

covers_run : (b : Bool) (r : Range) (rs : List Range) (n : ℕ)
    → covers (cond b (r ∷ []) [] ++ rs) n ≡ (b && (leb r.lower n && leb n r.upper)) || covers rs n
covers_run true r rs n = refl
covers_run false r rs n = refl

-- the run from lower to before next ascends, and so do ranges behind it
ascends_run : (b : Bool) (low lower next : ℕ) (rs : List Range)
    → ltb lower next ≡ b → low ≤ lower → (lower < next → next - 1 ≤ M)
    → (lower < next → ascending (next - 1 + 2) rs ≡ true) → ascending low rs ≡ true
    → ascending low (cond b (range_of lower next ∷ []) [] ++ rs) ≡ true
ascends_run true low lower next rs e h m behind alone =
    let lt = ltb-true lower next e in
    let one = le-leb low lower h in
    let two = le-leb lower (next - 1) (omega arith) in
    let three = le-leb (next - 1) M (m lt) in
    and_from _ _ (and_from _ _ one (and_from _ _ two three)) (behind lt)
ascends_run false low lower next rs e h m behind alone = alone

module _ {A : Type 0} where
  -- at most every second place ends a run
  pub runs_few : (ps : List (Option A)) (lower next : ℕ) → lower ≤ next
      → 2 * length (runs lower next ps) ≤ length ps + 1 + cond (ltb lower next) 1 0
  runs_few [] lower next h =
      let e = length_run (ltb lower next) (range_of lower next) [] in
      let whole = ap length (append-nil (run lower next)) in
      let u = one_at_most (ltb lower next) in
      omega arith
  runs_few (None ∷ ps) lower next h =
      let e = length_run (ltb lower next) (range_of lower next) (runs (next + 1) (next + 1) ps) in
      let u = one_at_most (ltb lower next) in
      let i = runs_few ps (next + 1) (next + 1) (omega arith) in
      let z : ◌≡◌ {A = ℕ} (cond (ltb (next + 1) (next + 1)) 1 0) 0 = grind (arith, nat_tests) in
      omega arith
  runs_few (Some l ∷ ps) lower next h =
      let i = runs_few ps lower (next + 1) (omega arith) in
      let u = one_at_most (ltb lower (next + 1)) in
      omega arith

  rest_numbered : (p : Option A) (ps : List (Option A)) (d : ℕ) → Numbered d (p ∷ ps)
      → Numbered (d + 1) ps
  rest_numbered p ps d h k e = let m = h (suc k) e in omega arith

  -- all from lower up to d are accepted, and the places are those of d + 1 on
  pub runs_ascend : (ps : List (Option A)) (low lower d : ℕ) → low ≤ lower → lower ≤ d + 1
      → (lower ≤ d → d ≤ M) → Numbered d ps → ascending low (runs lower (d + 1) ps) ≡ true
  runs_ascend [] low lower d h k m n =
      ap (ascending low) (sym (append-nil (run lower (d + 1))))
      ∙ ascends_run (ltb lower (d + 1)) low lower (d + 1) [] refl h
      (λ lt. let q = m (omega arith) in omega arith) (λ lt. refl) refl
  runs_ascend (None ∷ ps) low lower d h k m n =
      let anew : (l : ℕ) → l ≤ d + 1 + 1 → ascending l (runs (d + 1 + 1) (d + 1 + 1) ps) ≡ true
      = λ l le. runs_ascend ps l (d + 1 + 1) (d + 1) le (omega arith) (λ z. absurd (omega arith))
      (rest_numbered None ps d n) in
      ascends_run (ltb lower (d + 1)) low lower (d + 1) (runs (d + 1 + 1) (d + 1 + 1) ps) refl h
      (λ lt. let q = m (omega arith) in omega arith)
      (λ lt. anew (d + 1 - 1 + 2) (omega arith)) (anew low (omega arith))
  runs_ascend (Some l ∷ ps) low lower d h k m n =
      let here = n 0 refl in
      runs_ascend ps low lower (d + 1) h (omega arith) (λ z. omega arith)
      (rest_numbered (Some l) ps d n)

  at_first : (p : Option A) (ps : List (Option A)) (n next : ℕ) → n ≡ next
      → get_or (p ∷ ps) (n - next) None ≡ p
  at_first p ps n next e = let z : n - next ≡ 0 = omega arith in rw z

  at_later : (p : Option A) (ps : List (Option A)) (n next : ℕ) → next < n
      → get_or (p ∷ ps) (n - next) None ≡ get_or ps (n - (next + 1)) None
  at_later p ps n next h = let z : n - next ≡ suc (n - (next + 1)) = omega arith in rw z

  pub runs_name : (ps : List (Option A)) (lower next n : ℕ) → lower ≤ next
      → covers (runs lower next ps) n ≡ cond (ltb n next) (leb lower n) (is_some (get_or ps (n - next) None))
  runs_name [] lower next n h =
      let e = covers_run (ltb lower next) (range_of lower next) [] n in
      let whole = ap (λ rs. covers rs n) (append-nil (run lower next)) in
      grind (arith, nat_tests)
  runs_name (None ∷ ps) lower next n h =
      let e = covers_run (ltb lower next) (range_of lower next) (runs (next + 1) (next + 1) ps) n in
      let i = runs_name ps (next + 1) (next + 1) n (omega arith) in
      elim (cases_lt n next) [
        | inl lt ↦ grind (arith, nat_tests)
        | inr le ↦ elim (cases_lt next n) [
          | inl lt ↦ let a = at_later None ps n next lt in grind (arith, nat_tests)
          | inr ge ↦ let a = at_first None ps n next (omega arith) in grind (arith, nat_tests)
        ]
      ]
  runs_name (Some l ∷ ps) lower next n h =
      let i = runs_name ps lower (next + 1) n (omega arith) in
      elim (cases_lt n next) [
        | inl lt ↦ grind (arith, nat_tests)
        | inr le ↦ elim (cases_lt next n) [
          | inl lt ↦ let a = at_later (Some l) ps n next lt in grind (arith, nat_tests)
          | inr ge ↦ let a = at_first (Some l) ps n next (omega arith) in grind (arith, nat_tests)
        ]
      ]

  -- the runs of an office's end
  module _ (d : ℕ) (ps : List (Option A)) (eight : length ps ≡ 8)
      (counted : d ≤ M) (numbered : Numbered d ps) where
    pub at_most_five : length (runs 1 (d + 1) ps) ≤ 5
    at_most_five =
        let few = runs_few ps 1 (d + 1) (omega arith) in
        let u = one_at_most (ltb 1 (d + 1)) in
        omega arith

    pub apart : ascending 1 (runs 1 (d + 1) ps) ≡ true
    apart = runs_ascend ps 1 1 d (omega arith) (omega arith) (λ _. counted) numbered

    pub names_accepted : (n : ℕ) → covers (runs 1 (d + 1) ps) n ≡ accepted_at d ps n
    names_accepted n =
        let e = runs_name ps 1 (d + 1) n (omega arith) in
        let k : n - (d + 1) ≡ n - d - 1 = omega arith in
        let at : is_some (get_or ps (n - (d + 1)) None) ≡ is_some (get_or ps (n - d - 1) None)
        = ap (λ j. is_some (get_or ps j None)) k in
        elim (cases_lt n (d + 9)) [
          | inl lt ↦ grind (arith, nat_tests)
          | inr past ↦
              let none = ap is_some (get_or_past ps (n - d - 1) None (omega arith)) in
              grind (arith, nat_tests)
        ]
