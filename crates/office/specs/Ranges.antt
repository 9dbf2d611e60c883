-- The ranges that an acknowledgement names: the runs of accepted numbers, from 1 up.
use Rattle.std.specs.Prelude.{ℕ, ◌+◌, ◌-◌, cond, List, [], ◌∷◌, ◌++◌, Some, None, Option, nat_lt}
use Rattle.frame.specs.declared.range.Range.{Range}

abbrev pub range_of : ℕ → ℕ → Range
range_of lower next = record { lower = lower; upper = next - 1 }

-- the numbers from lower to the one before next, if there are any
abbrev pub run : ℕ → ℕ → List Range
run lower next = cond (nat_lt lower next) (range_of lower next ∷ []) []

-- the run that ends before this place, if its letter is missing
abbrev pub ended : {A : Type 0} → Option A → ℕ → ℕ → List Range
ended None lower next = run lower next
ended (Some a) lower next = []

-- where the run past this place starts
abbrev pub started : {A : Type 0} → Option A → ℕ → ℕ → ℕ
started None lower next = next + 1
started (Some a) lower next = lower

-- all from lower to before next are accepted, and next is the number of the first of the places
abbrev pub runs : {A : Type 0} → ℕ → ℕ → List (Option A) → List Range
runs lower next [] = run lower next
runs lower next (p ∷ ps) = ended p lower next ++ runs (started p lower next) (next + 1) ps
