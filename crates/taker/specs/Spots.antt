-- Where a train and section stands in an ascending list of paths: at the place of its path,
-- or else before the first later one.
use Rattle.std.specs.Prelude.{ℕ, suc, cond, List, [], ◌∷◌, Ok, Err, Result}
use Rattle.std.proofs.Common.{Ordering}
use Rattle.std.specs.Ordering.{nat_cmp, ordering_then}
use Rattle.letter.specs.declared.change.Path.{Path}
use Rattle.taker.specs.Paths.{earlier, same}

-- how a path's train and section compare with these
abbrev pub compared : ℕ → ℕ → Path → Ordering
compared train section p = ordering_then (nat_cmp p.train train) (nat_cmp p.section section)

-- one place further on
abbrev pub next : Result ℕ ℕ → Result ℕ ℕ
next (Ok i) = Ok (suc i)
next (Err i) = Err (suc i)

abbrev pub spot_of : ℕ → ℕ → List Path → Result ℕ ℕ
spot_of train section [] = Err 0
spot_of train section (p ∷ ps) =
    cond (earlier train section p) (next (spot_of train section ps)) (cond (same train section p) (Ok 0) (Err 0))
