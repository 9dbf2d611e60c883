-- Which message numbers are accepted, and what an acknowledgement must say of them.
use Rattle.std.specs.Prelude.{◌≡◌, ℕ, ◌+◌, ◌≤◌, min, Bool, true, ◌&&◌, ◌||◌, List, length, is_some, None, Option, nat_le, slice_index_or}
use Rattle.frame.specs.Ascending.{ascending}
use Rattle.frame.specs.Bounds.{M}
use Rattle.frame.specs.Covers as ranges
use Rattle.frame.specs.declared.range.Range.{Range}
use Rattle.office.specs.Destinations.{Destination}
use Rattle.office.specs.Places.{has_place, place_of}

-- number n is delivered, or its letter stands in its place
abbrev pub accepted_at : {A : Type 0} → ℕ → List (Option A) → ℕ → Bool
accepted_at d ps n = (nat_le 1 n && nat_le n d) || (has_place d n && is_some (slice_index_or ps (place_of d n) None))

unfoldable pub is_accepted : Destination → ℕ → Bool
is_accepted o n = accepted_at o.delivered o.places n

-- some range holds n
abbrev pub covers : List Range → ℕ → Bool
covers = ranges.covers

-- an acknowledgement names exactly the accepted numbers, in at most five ranges that ascend and do
-- not touch; its credit is the highest number that has a place
pub record Exact (o : Destination) (rs : List Range) (credit : ℕ) : Type 0 where
  pub names : (n : ℕ) → covers rs n ≡ is_accepted o n
  pub few : length rs ≤ 5
  pub apart : ascending 1 rs ≡ true
  pub room : credit ≡ min (o.delivered + 8) M
