-- The eight places, for the message numbers d + 1 to d + 8 where all up to d are delivered.
-- What they hold is left open: letters in the code, their bytes in the theorems.
use Rattle.std.specs.Prelude.{◌≡◌, ℕ, ◌+◌, ◌-◌, ◌≤◌, Bool, true, false, cond, ◌&&◌, List, [], ◌∷◌, ◌++◌, drop, is_some, Some, None, Option, nat_le, nat_lt, slice_index_or, slice_set}
use Rattle.frame.specs.Bounds.{M}

abbrev pub has_place : ℕ → ℕ → Bool
has_place d n = nat_lt d n && nat_le n (d + 8)

-- the place of message number n, counted from 0
abbrev pub place_of : ℕ → ℕ → ℕ
place_of d n = n - d - 1

-- the place of message number n, if it has one
abbrev pub place_if : ℕ → ℕ → Option ℕ
place_if d n = cond (has_place d n) (Some (place_of d n)) None

abbrev pub is_free : {A : Type 0} → Option A → Bool
is_free None = true
is_free (Some a) = false

-- the places with a letter put into place k, or as they were
abbrev pub kept : {A : Type 0} → Bool → List (Option A) → ℕ → A → List (Option A)
kept false ps k a = ps
kept true ps k a = slice_set ps k (Some a)

-- the places once number d + 1 is delivered
abbrev pub shifted : {A : Type 0} → List (Option A) → List (Option A)
shifted ps = drop 1 ps ++ (None ∷ [])

-- only message numbers up to the highest have been accepted
abbrev pub Numbered : {A : Type 0} → ℕ → List (Option A) → Type 0
Numbered d ps = (k : ℕ) → is_some (slice_index_or ps k None) ≡ true → d + 1 + k ≤ M
