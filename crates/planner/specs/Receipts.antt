-- What the ranges of a receipt name, and what receipts make of the window.
use Rattle.std.specs.Prelude.{ℕ, zero, suc, ◌+◌, max, Bool, cond, List, [], ◌∷◌, ◌++◌, drop, Some, None, Option, nat_lt}
use Rattle.frame.specs.Covers as ranges
use Rattle.frame.specs.declared.range.Range.{Range}
use Rattle.planner.specs.Sources.{Source}
use Rattle.planner.specs.Windows.{Slot, free, waiting, receipted, has_receipt}
use Rattle.planner.specs.declared.state.PlannerState.{PlannerState}

-- one of the ranges names number n
abbrev pub covers : List Range → ℕ → Bool
covers = ranges.covers

-- the first Upper above n
abbrev pub first_above : List Range → ℕ → Option ℕ
first_above [] n = None
first_above (r ∷ rs) n = cond (nat_lt n r.upper) (Some r.upper) (first_above rs n)

-- a letter goes when its receipt comes
abbrev pub marked : Bool → Slot → Slot
marked named free = free
marked named (waiting letter sent) = cond named receipted (waiting letter sent)
marked named receipted = receipted

-- the slots from number n on, with the receipts that the ranges give
abbrev pub with_receipts : List Range → ℕ → List Slot → List Slot
with_receipts rs n [] = []
with_receipts rs n (s ∷ window) = marked (covers rs n) s ∷ with_receipts rs (n + 1) window

-- how many numbers in front have receipts
abbrev pub in_front : List Slot → ℕ
in_front [] = 0
in_front (s ∷ window) = cond (has_receipt s) (in_front window + 1) 0

-- the window one number further on
abbrev pub shifted : List Slot → List Slot
shifted window = drop 1 window ++ free ∷ []

abbrev pub slid : ℕ → List Slot → List Slot
slid zero window = window
slid (suc k) window = slid k (shifted window)

-- the window moves past the receipts in front, and the credit is the larger of the old and c
abbrev pub past_receipts : List Slot → ℕ → PlannerState → Source → Source
past_receipts window c next s =
    record {
      state = next;
      held = s.held;
      gap = s.gap;
      limit = s.limit;
      written = s.written;
      lowest = s.lowest + in_front window;
      credit = max s.credit c;
      window = slid (in_front window) window;
    }

abbrev pub receives : List Range → ℕ → PlannerState → Source → Source
receives rs c next s = past_receipts (with_receipts rs s.lowest s.window) c next s
