-- How bytes are written in a line of input: each as two hex digits in either case, and no bytes at all as `-`.
use Rattle.std.specs.Prelude.{ℕ, ◌+◌, ◌-◌, ◌*◌, Bool, cond, ◌&&◌, List, [], ◌∷◌, ◌++◌, length, Some, None, Option, ◌==◌, nat_le, slice_index}

abbrev pub between : ℕ → ℕ → ℕ → Bool
between low high c = nat_le low c && nat_le c high

-- 0 to 9, A to F and a to f
abbrev pub digit_value : ℕ → Option ℕ
digit_value c =
    cond (between 48 57 c) (Some (c - 48))
    (cond (between 65 70 c) (Some (c - 65 + 10)) (cond (between 97 102 c) (Some (c - 97 + 10)) None))

abbrev pub joined_digits : Option ℕ → Option ℕ → Option ℕ
joined_digits (Some h) (Some l) = Some (h * 16 + l)
joined_digits (Some h) None = None
joined_digits None low = None

abbrev pub byte_of : ℕ → ℕ → Option ℕ
byte_of high low = joined_digits (digit_value high) (digit_value low)

-- what follows behind these bytes and one more, if there is one
abbrev pub one_more : List ℕ → Option ℕ → (List ℕ → Option (List ℕ)) → Option (List ℕ)
one_more front None rest = None
one_more front (Some byte) rest = rest (front ++ byte ∷ [])

-- these bytes and then those that the text writes; none where a pair is none, or half a pair is left
abbrev pub pairs_after : List ℕ → List ℕ → Option (List ℕ)
pairs_after front [] = Some front
pairs_after front (high ∷ []) = None
pairs_after front (high ∷ low ∷ rest) = one_more front (byte_of high low) (λ more. pairs_after more rest)

abbrev pub is_dash : List ℕ → Bool
is_dash text = length text == 1 && slice_index text 0 == 45

-- the bytes that the text writes; no text writes none but `-`
abbrev pub parsed : List ℕ → Option (List ℕ)
parsed text = cond (is_dash text) (Some []) (cond (length text == 0) None (pairs_after [] text))
