-- Which numbers the ranges of a receipt name.
use Rattle.std.specs.Prelude.{ℕ, Bool, false, ◌&&◌, ◌||◌, List, [], ◌∷◌, nat_le}
use Rattle.frame.specs.declared.range.Range.{Range}

abbrev pub covers : List Range → ℕ → Bool
covers [] n = false
covers (r ∷ rs) n = (nat_le r.lower n && nat_le n r.upper) || covers rs n
