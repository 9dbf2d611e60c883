-- Which numbers a frame may hold: the two bounds, and that 0 is never one of them.
use Rattle.std.specs.Prelude.{ℕ, ◌≤◌, cond, ◌&&◌, Some, None, Option, nat_le}

-- the highest message number
abbrev pub M : ℕ
M = 9223372036854775807

-- the number n, where it is 1 to `most`
abbrev pub number_up_to : ℕ → ℕ → Option ℕ
number_up_to most n = cond (nat_le 1 n && nat_le n most) (Some n) None

abbrev pub IsIdentifier : ℕ → Type 0
IsIdentifier n = (1 ≤ n) × (n ≤ 4294967295)

abbrev pub identifier_of : ℕ → Option ℕ
identifier_of = number_up_to 4294967295

abbrev pub IsNumber : ℕ → Type 0
IsNumber n = (1 ≤ n) × (n ≤ M)

abbrev pub number_of : ℕ → Option ℕ
number_of = number_up_to M
