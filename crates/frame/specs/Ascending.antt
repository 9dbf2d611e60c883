-- Which ranges a receipt may name: at most five, each 1 ≤ lower ≤ upper ≤ M, ascending, with a gap between any two.
use Rattle.std.specs.Prelude.{ℕ, ◌+◌, Bool, true, ◌&&◌, List, [], ◌∷◌, length, nat_le, nat_lt}
use Rattle.frame.specs.Bounds.{M}
use Rattle.frame.specs.declared.range.Range.{Range}

-- a range of message numbers that starts at `low` or above
abbrev pub starts_at : ℕ → Range → Bool
starts_at low x = nat_le low x.lower && (nat_le x.lower x.upper && nat_le x.upper M)

-- the lowest start of a range behind these, the first of which starts at `low` or above
abbrev pub next_low : ℕ → List Range → ℕ
next_low low [] = low
next_low low (x ∷ xs) = next_low (x.upper + 2) xs

abbrev pub ascending : ℕ → List Range → Bool
ascending low [] = true
ascending low (x ∷ xs) = starts_at low x && ascending (x.upper + 2) xs

-- the range may stand behind these
abbrev pub follows : List Range → Range → Bool
follows xs x = nat_lt (length xs) 5 && starts_at (next_low 1 xs) x
