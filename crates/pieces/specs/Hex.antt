-- A letter's bytes in text, each as two of 0-9A-F.
use Rattle.std.specs.Prelude.{ℕ, ◌+◌, ◌-◌, ◌*◌, ◌/◌, ◌%◌, Bool, cond, ◌&&◌, ◌||◌, List, [], ◌∷◌, ◌++◌, length, Some, None, Option, nat_le, nat_lt}
use Rattle.letter.specs.Letters.{letter_of}
use Rattle.pieces.specs.Strips.{then}

abbrev pub hex_char : ℕ → ℕ
hex_char d = cond (nat_lt d 10) (48 + d) (55 + d)

unfoldable pub hex_text : List ℕ → List ℕ
hex_text [] = []
hex_text (b ∷ bs) = hex_char (b / 16) ∷ (hex_char (b % 16) ∷ hex_text bs)

abbrev pub is_hex : ℕ → Bool
is_hex c = (nat_le 48 c && nat_le c 57) || (nat_le 65 c && nat_le c 70)

abbrev pub hex_value : ℕ → ℕ
hex_value c = cond (nat_le c 57) (c - 48) (c - 65 + 10)

-- the bytes that the pairs of digits write behind those of acc
unfoldable pub read_pairs : List ℕ → List ℕ → Option (List ℕ)
read_pairs acc [] = Some acc
read_pairs acc (a ∷ []) = None
read_pairs acc (a ∷ (b ∷ cs)) =
    cond (is_hex a && is_hex b) (read_pairs (acc ++ ((hex_value a * 16 + hex_value b) ∷ [])) cs) None

abbrev pub letter_read : List ℕ → Option (List ℕ)
letter_read p = cond (nat_le (length p) 96) (then (read_pairs [] p) letter_of) None

-- the value of a digit, if it is one
abbrev pub hex_digit : ℕ → Option ℕ
hex_digit c = cond (is_hex c) (Some (hex_value c)) None

-- the byte of two digits, if they are digits
abbrev pub byte_of : ℕ → ℕ → Option ℕ
byte_of high low = cond (is_hex high && is_hex low) (Some (hex_value high * 16 + hex_value low)) None
