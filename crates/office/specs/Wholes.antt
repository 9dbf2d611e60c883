-- When the office's end is whole: the sequence is closed or terminated, and nothing is missing.
use Rattle.std.specs.Prelude.{◌≡◌, ℕ, ◌+◌, ◌≤◌, Bool, true, false, ◌&&◌, List, [], ◌∷◌, Some, None, Option, nat_le}
use Rattle.office.specs.Accepted.{is_accepted}
use Rattle.office.specs.Destinations.{Destination}
use Rattle.office.specs.declared.state.OfficeState.{OfficeState}
use Rattle.office.specs.declared.state.OfficeState.TheVariants as state

abbrev pub is_over : OfficeState → Bool
is_over state.None = false
is_over state.Created = false
is_over state.Closed = true
is_over state.Terminated = true

-- how many letters stand in front without a gap
abbrev pub front : {A : Type 0} → List (Option A) → ℕ
front [] = 0
front (None ∷ ps) = 0
front (Some a ∷ ps) = front ps + 1

abbrev pub whole_at : {A : Type 0} → OfficeState → ℕ → ℕ → List (Option A) → Bool
whole_at s last d ps = is_over s && nat_le last (d + front ps)

unfoldable pub is_whole : Destination → Bool
is_whole o = whole_at o.state o.last o.delivered o.places

-- every number from 1 to the LastMsgNumber is accepted
pub record Whole (o : Destination) : Type 0 where
  pub over : is_over o.state ≡ true
  pub all : (n : ℕ) → 1 ≤ n → n ≤ o.last → is_accepted o n ≡ true
