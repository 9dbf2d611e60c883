-- What the window keeps when receipts come.
use Rattle.std.proofs.Common.{◌≡◌, ℕ, zero, suc, ◌+◌, ◌-◌, ◌≤◌, Bool, true, false, cond, List, [], ◌∷◌, ◌++◌, length, get_or, sym, refl, ap, ◌∙◌, append_assoc, append-nil, add-one, arith, length-append, length-drop}
use Rattle.frame.specs.declared.range.Range.{Range}
use Rattle.frame.specs.Covers.{covers}
use Rattle.planner.specs.Receipts.{marked, with_receipts, in_front, shifted, slid}
use Rattle.planner.specs.Windows.{Slot, free, waiting, receipted, is_free, has_receipt, FreeFrom, Lowest}

-- there are eight slots: protocol cites these two

pub length_marks : (rs : List Range) (n : ℕ) (w : List Slot) → length (with_receipts rs n w) ≡ length w
length_marks rs n [] = refl
length_marks rs n (s ∷ w) = ap suc (length_marks rs (n + 1) w)

pub length_slid : (k : ℕ) (w : List Slot) → length w ≡ 8 → length (slid k w) ≡ 8
length_slid zero w e = e
length_slid (suc k) w e = length_slid k (shifted w) (simp (length-append, length-drop) (omega arith))

-- a receipt for a number that is not written changes nothing

free_marked : (b : Bool) (s : Slot) → is_free (marked b s) ≡ is_free s
free_marked b free = refl
free_marked true (waiting l sent) = refl
free_marked false (waiting l sent) = refl
free_marked b receipted = refl

free_at : (rs : List Range) (n : ℕ) (w : List Slot) (k : ℕ) → is_free (get_or (with_receipts rs n w) k free) ≡ is_free (get_or w k free)
free_at rs n [] k = refl
free_at rs n (s ∷ w) zero = free_marked (covers rs n) s
free_at rs n (s ∷ w) (suc k) = free_at rs (n + 1) w k

pub free_marks : (rs : List Range) (n m : ℕ) (w : List Slot) → FreeFrom m w → FreeFrom m (with_receipts rs n w)
free_marks rs n m w h k le = free_at rs n w k ∙ h k le

-- the window further on

end_at : (w : List Slot) (k : ℕ) → get_or (w ++ free ∷ []) k free ≡ get_or w k free
end_at [] zero = refl
end_at [] (suc k) = refl
end_at (s ∷ w) zero = refl
end_at (s ∷ w) (suc k) = end_at w k

shift_at : (w : List Slot) (k : ℕ) → get_or (shifted w) k free ≡ get_or w (suc k) free
shift_at [] zero = refl
shift_at [] (suc k) = refl
shift_at (s ∷ w) k = end_at w k

pub free_slid : (j : ℕ) (w : List Slot) (n m : ℕ) → n ≤ m + j → FreeFrom n w → FreeFrom m (slid j w)
free_slid zero w n m le h k lk = h k (omega arith)
free_slid (suc j) w n m le h k lk =
    free_slid j (shifted w) (n - 1) m (omega arith) (λ i li. ap is_free (shift_at w i) ∙ h (suc i) (omega arith)) k lk

-- receipts stand in front of what is free

free_has : (s : Slot) → is_free s ≡ true → has_receipt s ≡ false
free_has free e = refl
free_has (waiting l sent) e = refl
free_has receipted e = sym e

front_by : (b : Bool) (m n : ℕ) → m ≤ n → cond b (m + 1) 0 ≤ suc n
front_by true m n h = omega arith
front_by false m n h = omega arith

pub front_le : (w : List Slot) (n : ℕ) → FreeFrom n w → in_front w ≤ n
front_le [] n h = omega arith
front_le (s ∷ w) zero h = let e = free_has s (h 0 (omega arith)) in rw e (omega arith)
front_le (s ∷ w) (suc n) h = front_by (has_receipt s) (in_front w) n (front_le w n (λ k le. h (suc k) (omega arith)))

-- past the receipts in front, the first number has none

lowest_end : (w : List Slot) → Lowest w → Lowest (w ++ free ∷ [])
lowest_end [] e = refl
lowest_end (s ∷ w) e = e

slid_by : (b : Bool) (s : Slot) (n : ℕ) (w : List Slot) → has_receipt s ≡ b → Lowest (slid n (w ++ free ∷ [])) → Lowest (slid (cond b (n + 1) 0) (s ∷ w))
slid_by true s n w e h = rw add-one h
slid_by false s n w e h = e

lowest_before : (w rest : List Slot) → Lowest rest → Lowest (slid (in_front w) (w ++ rest))
lowest_before [] rest e = e
lowest_before (s ∷ w) rest e =
    slid_by (has_receipt s) s (in_front w) (w ++ rest) refl
    (rw append_assoc (lowest_before w (rest ++ free ∷ []) (lowest_end rest e)))

pub lowest_slid : (w : List Slot) → Lowest (slid (in_front w) w)
lowest_slid w = let h = lowest_before w [] refl in rw append-nil at h

pub slid_at : (j : ℕ) (w : List Slot) (k : ℕ) → get_or (slid j w) k free ≡ get_or w (k + j) free
slid_at zero w k = ap (λ i. get_or w i free) (omega arith)
slid_at (suc j) w k = slid_at j (shifted w) k ∙ shift_at w (k + j) ∙ ap (λ i. get_or w i free) (omega arith)
