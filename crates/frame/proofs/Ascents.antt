-- Ranges that ascend, one more at the end.
use Rattle.std.proofs.Common.{◌≡◌, ℕ, ◌+◌, ◌-◌, ◌<◌, ◌≤◌, true, ◌&&◌, ltb, leb, List, [], ◌∷◌, ◌++◌, length, get_or, take, sym, refl, ap, ◌∙◌, arith, ltb-true, leb-true}
use Rattle.std.proofs.Math.Seq.{take-length}
use Rattle.std.proofs.lemmas.List.{take_more}
use Rattle.std.proofs.lemmas.Bool.{and_parts, and_from}
use Rattle.frame.specs.Ascending.{starts_at, next_low, ascending, follows}
use Rattle.frame.specs.Bounds.{M}
use Rattle.frame.specs.declared.range.Range.{Range}

-- what the tests on a range say
pub record Starts (low : ℕ) (x : Range) : Type 0 where
  pub above : low ≤ x.lower
  pub order : x.lower ≤ x.upper
  pub high : x.upper ≤ M

pub starts : (low : ℕ) (x : Range) → starts_at low x ≡ true → Starts low x
starts low x h =
    let p = and_parts (leb low x.lower) (leb x.lower x.upper && leb x.upper M) h in
    let q = and_parts (leb x.lower x.upper) (leb x.upper M) p.1 in
    record { above = leb-true _ _ p.0; order = leb-true _ _ q.0; high = leb-true _ _ q.1 }

pub follows_parts : (xs : List Range) (x : Range) → follows xs x ≡ true → (length xs < 5) × (starts_at (next_low 1 xs) x ≡ true)
follows_parts xs x h =
    let p = and_parts (ltb (length xs) 5) (starts_at (next_low 1 xs) x) h in
    (ltb-true _ _ p.0, p.1)

pub ascending_push : (low : ℕ) (xs : List Range) (x : Range) → ascending low xs ≡ true → starts_at (next_low low xs) x ≡ true
    → ascending low (xs ++ (x ∷ [])) ≡ true
ascending_push low [] x a s = and_from (starts_at low x) true s refl
ascending_push low (y ∷ xs) x a s =
    let p = and_parts (starts_at low y) (ascending (y.upper + 2) xs) a in
    and_from (starts_at low y) (ascending (y.upper + 2) (xs ++ (x ∷ []))) p.0 (ascending_push (y.upper + 2) xs x p.1 s)

pub next_push : (low : ℕ) (xs : List Range) (x : Range) → next_low low (xs ++ (x ∷ [])) ≡ x.upper + 2
next_push low [] x = refl
next_push low (y ∷ xs) x = next_push (y.upper + 2) xs x

high_push : (low : ℕ) (xs : List Range) (x : Range) → ascending low (xs ++ (x ∷ [])) ≡ true → x.upper ≤ M
high_push low [] x a = (starts low x (and_parts (starts_at low x) true a).0).high
high_push low (y ∷ xs) x a =
    high_push (y.upper + 2) xs x (and_parts (starts_at low y) (ascending (y.upper + 2) (xs ++ (x ∷ []))) a).1

-- some ranges, by the last of them
module _ (xs : List Range) (d : Range) (some : 0 < length xs) where
  last_of : xs ≡ take (length xs - 1) xs ++ (get_or xs (length xs - 1) d ∷ [])
  last_of =
      let i : length xs ≡ (length xs - 1) + 1 = omega arith in
      sym (take-length xs) ∙ (ap (λ k. take k xs) i ∙ take_more xs (length xs - 1) d (omega arith))

  pub last_high : ascending 1 xs ≡ true → (get_or xs (length xs - 1) d).upper ≤ M
  last_high a = high_push 1 (take (length xs - 1) xs) (get_or xs (length xs - 1) d) (ap (ascending 1) (sym last_of) ∙ a)

  pub last_next : (get_or xs (length xs - 1) d).upper + 2 ≡ next_low 1 xs
  last_next = sym (ap (next_low 1) last_of ∙ next_push 1 (take (length xs - 1) xs) (get_or xs (length xs - 1) d))
