-- A text as a row of pieces: a tag from `<` through the next `>` (or the end), or the text up to the next `<`.
use Rattle.std.specs.Prelude.{ℕ, suc, ◌+◌, ◌-◌, min, Bool, cond, ◌&&◌, List, [], ◌∷◌, length, take, drop, ◌==◌, nat_le, slice_index}

-- how many bytes come before the first b, or all
abbrev pub before : ℕ → List ℕ → ℕ
before b [] = 0
before b (c ∷ cs) = cond (c == b) 0 (suc (before b cs))

abbrev pub piece_len : List ℕ → ℕ
piece_len bs = cond (slice_index bs 0 == 60) (min (before 62 bs + 1) (length bs)) (before 60 bs)

-- the first piece, and what comes after it
abbrev pub piece : List ℕ → List ℕ
piece bs = take (piece_len bs) bs

abbrev pub after : List ℕ → List ℕ
after bs = drop (piece_len bs) bs

-- the shapes of a piece: `<..>`, `</..>`, `<../>`, or no tag
pub data Shape : Type 0 where
  opening : Shape
  closing : Shape
  empty : Shape
  words : Shape

abbrev pub ends_empty : List ℕ → Bool
ends_empty p = nat_le 2 (length p) && (slice_index p (length p - 1) == 62 && slice_index p (length p - 2) == 47)

abbrev pub shape : List ℕ → Shape
shape p =
    cond (slice_index p 0 == 60)
    (cond (slice_index p 1 == 47) closing (cond (ends_empty p) empty opening))
    words
