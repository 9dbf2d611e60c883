-- What a write to one slot of the window leaves.
use Rattle.std.proofs.Common.{◌≡◌, ℕ, zero, suc, ◌<◌, ◌≤◌, false, ◌≢◌, List, [], ◌∷◌, get_or, set, inl, inr, arith, get_or-set_other}
use Rattle.std.proofs.lemmas.Bool.{cases_lt}
use Rattle.planner.specs.Windows.{Slot, free, is_free, has_receipt, FreeFrom, Lowest}

-- behind the slot that is written to, all that were free are free
pub free_set : (w : List Slot) (n m k : ℕ) (v : Slot) → k < m → n ≤ m → FreeFrom n w → FreeFrom m (set w k v)
free_set w n m k v lt le h j at = let ne : j ≢ k = omega arith in rw get_or-set_other (h j (omega arith))

pub lowest_set : (w : List Slot) (k : ℕ) (v : Slot) → has_receipt v ≡ false → Lowest w → Lowest (set w k v)
lowest_set [] k v none h = h
lowest_set (s ∷ w) zero v none h = none
lowest_set (s ∷ w) (suc k) v none h = h

-- a slot that is not free is among those in front
pub in_front : (w : List Slot) (n k : ℕ) → is_free (get_or w k free) ≡ false → FreeFrom n w → k < n
in_front w n k e h =
    elim (cases_lt k n) [ inl lt ↦ lt | inr le ↦ let a = h k le in let z : ◌≡◌ {A = ℕ} 0 1 = cc in omega arith ]
