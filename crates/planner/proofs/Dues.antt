-- Send answers the lowest number that is due.
use Rattle.std.proofs.Common.{◌≡◌, ℕ, zero, suc, ◌+◌, ◌-◌, ◌<◌, ◌≤◌, Bool, true, false, List, [], ◌∷◌, get_or, is_some, Some, None, Option, sym, refl, ap, ◌∙◌, inl, inr, arith}
use Rattle.std.proofs.lemmas.Bool.{cases_lt, and_left, and_right, and_from, le-leb, lt-leb}
use Rattle.planner.specs.Laws.{is_due, IsLowestDue, SendsLowestDue}
use Rattle.planner.specs.Sending.{Due, due_letter, or_later, first_due, lowest_due}
use Rattle.planner.specs.Sources.{Source}
use Rattle.planner.specs.Windows.{Slot, free}

module _ (gap credit clock b : ℕ) where
  -- the slot at place j of these, which stand from place k on, is due
  abbrev due_at : ℕ → List Slot → ℕ → Bool
  due_at k w j = is_some (due_letter gap credit clock (b + k + j) (get_or w j free))

  abbrev Found : ℕ → List Slot → Option Due → Type 0
  Found k w None = (j : ℕ) → due_at k w j ≡ false
  Found k w (Some d) =
      (k ≤ d.place) × (due_at k w (d.place - k) ≡ true) × ((j : ℕ) → k + j < d.place → due_at k w j ≡ false)

  -- places are counted from the next slot on
  behind : (k : ℕ) (s : Slot) (w : List Slot) (j : ℕ) → due_at k (s ∷ w) (suc j) ≡ due_at (k + 1) w j
  behind k s w j = ap (λ n. is_some (due_letter gap credit clock n (get_or w j free))) (omega arith)

  here : (k : ℕ) (s : Slot) (w : List Slot) → due_at k (s ∷ w) 0 ≡ is_some (due_letter gap credit clock (b + k) s)
  here k s w = ap (λ n. is_some (due_letter gap credit clock n s)) (omega arith)

  none_here : (k : ℕ) (s : Slot) (w : List Slot) → due_letter gap credit clock (b + k) s ≡ None → due_at k (s ∷ w) 0 ≡ false
  none_here k s w is = here k s w ∙ ap is_some is

  none_before : (k : ℕ) (s : Slot) (w : List Slot) (m : ℕ) → due_letter gap credit clock (b + k) s ≡ None → ((j : ℕ) → k + 1 + j < m → due_at (k + 1) w j ≡ false) → (j : ℕ) → k + j < m → due_at k (s ∷ w) j ≡ false
  none_before k s w m is rest zero lt = none_here k s w is
  none_before k s w m is rest (suc j) lt = behind k s w j ∙ rest j (omega arith)

  none_at_all : (k : ℕ) (s : Slot) (w : List Slot) → due_letter gap credit clock (b + k) s ≡ None → ((j : ℕ) → due_at (k + 1) w j ≡ false) → (j : ℕ) → due_at k (s ∷ w) j ≡ false
  none_at_all k s w is rest zero = none_here k s w is
  none_at_all k s w is rest (suc j) = behind k s w j ∙ rest j

  later : (k : ℕ) (s : Slot) (w : List Slot) (o : Option Due) → due_letter gap credit clock (b + k) s ≡ None → Found (k + 1) w o → Found k (s ∷ w) o
  later k s w None is rest = none_at_all k s w is rest
  later k s w (Some d) is rest =
      let z : d.place - k ≡ suc (d.place - (k + 1)) = omega (arith, rest.0) in (
        omega (arith, rest.0),
        ap (due_at k (s ∷ w)) z ∙ behind k s w (d.place - (k + 1)) ∙ rest.1,
        none_before k s w d.place is rest.2,
      )

  found_by :
      (k : ℕ) (s : Slot) (w : List Slot) (o : Option (List ℕ)) →
      due_letter gap credit clock (b + k) s ≡ o →
      Found (k + 1) w (first_due gap credit clock b (k + 1) w) →
      Found k (s ∷ w) (or_later o k (first_due gap credit clock b (k + 1) w))
  found_by k s w None is rest = later k s w (first_due gap credit clock b (k + 1) w) is rest
  found_by k s w (Some l) is rest =
      let z : k - k ≡ 0 = omega arith in
      (omega arith, ap (due_at k (s ∷ w)) z ∙ here k s w ∙ ap is_some is, λ j lt. absurd (let y : ⊥ = omega arith in y))

  found : (k : ℕ) (w : List Slot) → Found k w (first_due gap credit clock b k w)
  found k [] = λ j. refl
  found k (s ∷ w) = found_by k s w (due_letter gap credit clock (b + k) s) refl (found (k + 1) w)

module _ (clock : ℕ) (s : Source) where
  same : (n : ℕ) → s.lowest ≤ n → due_at s.gap s.credit clock s.lowest 0 s.window (n - s.lowest) ≡ is_some (due_letter s.gap s.credit clock n (get_or s.window (n - s.lowest) free))
  same n le = ap (λ m. is_some (due_letter s.gap s.credit clock m (get_or s.window (n - s.lowest) free))) (omega arith)

  not_due : (n : ℕ) → (s.lowest ≤ n → due_at s.gap s.credit clock s.lowest 0 s.window (n - s.lowest) ≡ false) → is_due clock s n ≡ false
  not_due n h =
      elim (cases_lt n s.lowest) [
        | inl lt ↦ and_left _ _ (lt-leb s.lowest n lt)
        | inr le ↦ and_right _ _ (sym (same n le) ∙ h le)
      ]

  lowest_is : (o : Option Due) → Found s.gap s.credit clock s.lowest 0 s.window o → IsLowestDue clock s o
  lowest_is None none = λ n. not_due n (λ le. none (n - s.lowest))
  lowest_is (Some d) f =
      let n = s.lowest + d.place in
      let z : d.place - 0 ≡ n - s.lowest = omega arith in
      let le : s.lowest ≤ n = omega arith in (
        and_from _ _ (le-leb s.lowest n le)
            (sym (same n le) ∙ ap (due_at s.gap s.credit clock s.lowest 0 s.window) (sym z) ∙ f.1),
        λ m lt. not_due m (λ at. f.2 (m - s.lowest) (omega arith)),
      )

pub sends_lowest_due : SendsLowestDue
sends_lowest_due clock s = lowest_is clock s (lowest_due clock s) (found s.gap s.credit clock s.lowest 0 s.window)
