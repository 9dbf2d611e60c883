-- What is delivered next, and what counting it as delivered leaves.
use Rattle.std.specs.Prelude.{ℕ, ◌+◌, List, Some, None, Option, slice_index_or}
use Rattle.office.specs.Destinations.{Destination, with_places}
use Rattle.office.specs.Places.{shifted}

-- the first place, that of number d + 1
abbrev pub first : {A : Type 0} → List (Option A) → Option A
first ps = slice_index_or ps 0 None

-- the letter with number d + 1, if it is accepted
abbrev pub next_letter : Destination → Option (List ℕ)
next_letter o = first o.places

-- what is left, and the number that was delivered, if any
pub record Delivery : Type 0 where
  pub after : Destination
  pub number : Option ℕ

abbrev pub delivery : Destination → Option ℕ → Delivery
delivery o number = record { after = o; number = number }

abbrev pub delivers_first : Option (List ℕ) → Destination → Delivery
delivers_first None o = delivery o None
delivers_first (Some bs) o =
    delivery (with_places o (o.delivered + 1) (shifted o.places)) (Some (o.delivered + 1))

unfoldable pub delivers : Destination → Delivery
delivers o = delivers_first (next_letter o) o

-- the number of the letter in the first place
abbrev pub number_of : {A : Type 0} → ℕ → Option A → Option ℕ
number_of d None = None
number_of d (Some a) = Some (d + 1)

-- the number delivered and the places, once the letter in the first place is delivered, if there is one
abbrev pub left_by : {A : Type 0} → Option A → ℕ → List (Option A) → ℕ × List (Option A)
left_by None d ps = (d, ps)
left_by (Some a) d ps = (d + 1, shifted ps)

abbrev pub left : {A : Type 0} → ℕ → List (Option A) → ℕ × List (Option A)
left d ps = left_by (first ps) d ps
