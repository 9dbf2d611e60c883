-- Numbers in decimal: digits with no leading zero, of a number that fits 64 bits.
use Rattle.std.specs.Prelude.{ℕ, ◌+◌, ◌-◌, ◌*◌, ◌^◌, Bool, cond, ◌&&◌, List, [], ◌∷◌, Some, None, Option, nat_le, nat_lt, slice_index}

abbrev pub digit : ℕ → Bool
digit c = nat_le 48 c && nat_le c 57

-- the number with the digit c behind it, if it fits 64 bits
abbrev pub more : ℕ → ℕ → Option ℕ
more n c = cond (digit c && nat_lt (n * 10 + (c - 48)) (2 ^ 64)) (Some (n * 10 + (c - 48))) None

-- the number that the digits write behind those of n
abbrev pub read_on : ℕ → List ℕ → Option ℕ
read_on n [] = Some n
read_on n (c ∷ cs) =
    cond (digit c && nat_lt (n * 10 + (c - 48)) (2 ^ 64)) (read_on (n * 10 + (c - 48)) cs) None

abbrev pub plain : List ℕ → Option ℕ
plain ds = cond (nat_lt 48 (slice_index ds 0)) (read_on 0 ds) None
