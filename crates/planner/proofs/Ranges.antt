-- The tests over ranges, as the list's own functions.
use Rattle.std.proofs.Common.{◌≡◌, ℕ, Bool, true, false, cond, ◌&&◌, ◌||◌, ltb, leb, List, [], ◌∷◌, Some, Option, refl, ap}
use Rattle.std.specs.List.{find, list_any}
use Rattle.std.specs.Option.{option_map}
use Rattle.frame.specs.declared.range.Range.{Range}
use Rattle.frame.specs.Covers.{covers}
use Rattle.planner.specs.Receipts.{first_above}

pub any_covers : (n : ℕ) (rs : List Range) → list_any (λ r. leb r.lower n && leb n r.upper) rs ≡ covers rs n
any_covers n [] = refl
any_covers n (r ∷ rs) = ap (λ b. (leb r.lower n && leb n r.upper) || b) (any_covers n rs)

found_or : (r : Range) (b : Bool) (o : Option Range) (p : Option ℕ) → option_map (λ r'. r'.upper) o ≡ p →
    option_map (λ r'. r'.upper) (cond b (Some r) o) ≡ cond b (Some r.upper) p
found_or r true o p e = refl
found_or r false o p e = e

pub find_above : (n : ℕ) (rs : List Range) → option_map (λ r. r.upper) (find (λ r. ltb n r.upper) rs) ≡ first_above rs n
find_above n [] = refl
find_above n (r ∷ rs) = found_or r (ltb n r.upper) (find (λ x. ltb n x.upper) rs) (first_above rs n) (find_above n rs)
