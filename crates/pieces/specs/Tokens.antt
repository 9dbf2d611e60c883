-- What a token of the code is: the bytes of a piece, and the piece's shape.
use Rattle.std.specs.Prelude.{◌≡◌, ℕ, ◌-◌, ◌<◌, Bool, false, List, length, Ok, Err, Result}
use Rattle.std.specs.Str.{bytes_eq}
use Rattle.pieces.specs.Cuts.{Shape, opening, closing, empty, words, piece, after, shape}
use Rattle.pieces.specs.Tags.{open_text, close_text, empty_text}
use Rattle.pieces.specs.declared.fault.ReadFault.{ReadFault}
use Rattle.pieces.specs.declared.token.Lexed.{Lexed}
use Rattle.pieces.specs.declared.token.Tag.{Tag}
use Rattle.pieces.specs.declared.token.Tag.TheVariants as tag
use Rattle.pieces.specs.declared.token.Token.{Token}
use Rattle.pieces.specs.declared.token.Token.TheVariants.{Open, Close, Empty, Text}

abbrev pub part_of : Token → List ℕ
part_of (Open s) = s.now
part_of (Close s) = s.now
part_of (Empty s) = s.now
part_of (Text s) = s.now

abbrev pub shape_of : Token → Shape
shape_of (Open s) = opening
shape_of (Close s) = closing
shape_of (Empty s) = empty
shape_of (Text s) = words

-- the piece is this tag: of one shape with it, and spelt so
abbrev pub is_tag : Token → Tag → Bool
is_tag (Open s) (tag.Open e) = bytes_eq s.now (open_text e)
is_tag (Open s) (tag.Close e) = false
is_tag (Open s) (tag.Empty e) = false
is_tag (Close s) (tag.Open e) = false
is_tag (Close s) (tag.Close e) = bytes_eq s.now (close_text e)
is_tag (Close s) (tag.Empty e) = false
is_tag (Empty s) (tag.Open e) = false
is_tag (Empty s) (tag.Close e) = false
is_tag (Empty s) (tag.Empty e) = bytes_eq s.now (empty_text e)
is_tag (Text s) (tag.Open e) = false
is_tag (Text s) (tag.Close e) = false
is_tag (Text s) (tag.Empty e) = false

-- x is the first piece of bs and what comes after it
pub record First (bs : List ℕ) (x : Lexed) : Type 0 where
  pub some : 0 < length bs
  pub part : part_of x.token ≡ piece bs
  pub shaped : shape_of x.token ≡ shape (piece bs)
  pub rest : x.rest.now ≡ after bs

-- nothing is left of a frame of `whole` bytes, and the place is its end
pub record Ended (whole : ℕ) (bs : List ℕ) (e : ReadFault) : Type 0 where
  pub none : length bs ≡ 0
  pub place : e.place ≡ whole - length bs

abbrev pub Lexes : ℕ → List ℕ → Result Lexed ReadFault → Type 0
Lexes whole bs (Ok x) = First bs x
Lexes whole bs (Err e) = Ended whole bs e
