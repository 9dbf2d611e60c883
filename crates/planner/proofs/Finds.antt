-- The first due letter, place by place.
use Rattle.std.proofs.Common.{◌≡◌, ℕ, zero, suc, ◌+◌, ◌<◌, List, [], ◌∷◌, length, get_or, Some, None, Option, sym, refl, ap, ◌∙◌, arith}
use Rattle.std.specs.Option.{option_map}
use Rattle.letter.specs.Letters.{content}
use Rattle.planner.specs.Sending.{due_letter, due_of, first_due}
use Rattle.planner.specs.Windows.{slot_of, window_of}
use Rattle.planner.specs.declared.planner.sending.Due as sending
use Rattle.planner.specs.declared.slot.Slot as code

module _ (gap credit clock b : ℕ) where
  abbrev due_at : ℕ → code.Slot → Option (List ℕ)
  due_at n s = due_letter gap credit clock (b + n) (slot_of s)

  none_due :
      (k : ℕ) (slots : List code.Slot) →
      ((j : ℕ) (d : code.Slot) → j < length slots → due_at (k + j) (get_or slots j d) ≡ None) →
      first_due gap credit clock b k (window_of slots) ≡ None
  none_due k [] h = refl
  none_due k (s ∷ slots) h =
      let here : due_at k s ≡ None = ap (λ n. due_at n s) (omega arith) ∙ h 0 s (omega arith) in
      rw here (none_due (k + 1) slots (λ j d lt. ap (λ n. due_at n (get_or slots j d)) (omega arith) ∙ h (suc j) d (omega arith)))

  one_due :
      (k : ℕ) (slots : List code.Slot) (i : ℕ) (l : List ℕ) →
      i < length slots →
      ((d : code.Slot) → due_at (k + i) (get_or slots i d) ≡ Some l) →
      ((j : ℕ) (d : code.Slot) → j < i → due_at (k + j) (get_or slots j d) ≡ None) →
      first_due gap credit clock b k (window_of slots) ≡ Some (record { place = k + i; letter = l })
  one_due k [] i l lt at before = absurd (let z : ⊥ = omega arith in z)
  one_due k (s ∷ slots) zero l lt at before =
      let here : due_at k s ≡ Some l = ap (λ n. due_at n s) (omega arith) ∙ at s in
      rw here (ap (λ p. Some (record { place = p; letter = l })) (omega arith))
  one_due k (s ∷ slots) (suc i) l lt at before =
      let here : due_at k s ≡ None = ap (λ n. due_at n s) (omega arith) ∙ before 0 s (omega arith) in
      rw here
      (one_due (k + 1) slots i l (omega arith) (λ d. ap (λ n. due_at n (get_or slots i d)) (omega arith) ∙ at d)
      (λ j d le. ap (λ n. due_at n (get_or slots j d)) (omega arith) ∙ before (suc j) d (omega arith)) ∙
      ap (λ p. Some (record { place = p; letter = l })) (omega arith))

  -- what the search answers: no place is due, or this one is and none before it
  abbrev pub Finds : List code.Slot → Option sending.Due → Type 0
  Finds slots None = (j : ℕ) (d : code.Slot) → j < length slots → due_at j (get_or slots j d) ≡ None
  Finds slots (Some x) =
      (x.place < length slots) × ((d : code.Slot) → due_at x.place (get_or slots x.place d) ≡ Some (content x.letter)) ×
      ((j : ℕ) (d : code.Slot) → j < x.place → due_at j (get_or slots j d) ≡ None)

  pub first_is :
      (slots : List code.Slot) (r : Option sending.Due) →
      Finds slots r →
      option_map due_of r ≡ first_due gap credit clock b 0 (window_of slots)
  first_is slots None h = sym (none_due 0 slots (λ j d lt. ap (λ n. due_at n (get_or slots j d)) (omega arith) ∙ h j d lt))
  first_is slots (Some x) h =
      sym (one_due 0 slots x.place (content x.letter) h.0 (λ d. ap (λ n. due_at n (get_or slots x.place d)) (omega arith) ∙ h.1 d)
      (λ j d lt. ap (λ n. due_at n (get_or slots j d)) (omega arith) ∙ h.2 j d lt) ∙
      ap (λ p. Some (record { place = p; letter = content x.letter })) (omega arith))
