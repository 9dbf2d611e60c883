-- Where bytes that are no frame's text are refused, by the texts of frames and the pieces that these are made of.
use Rattle.std.specs.Prelude.{◌≡◌, ℕ, ◌+◌, ◌<◌, List, [], ◌∷◌, ◌++◌, length, ◌≢◌}
use Rattle.frame.specs.Meanings.{Meaning, Proper}
use Rattle.pieces.specs.Cuts.{piece, after}
use Rattle.grammar.specs.Texts.{text}

-- the first pieces of bs are ps, and rest is what comes after them
abbrev pub Cut : List ℕ → List (List ℕ) → List ℕ → Type 0
Cut bs [] rest = bs ≡ rest
Cut bs (p ∷ ps) rest = (0 < length bs) × (piece bs ≡ p) × Cut (after bs) ps rest

-- some frame's text begins with the pieces ps
pub record Begins (ps : List (List ℕ)) : Type 0 where
  pub of : Meaning
  pub proper : Proper of
  pub more : List ℕ
  pub cut : Cut (text of) ps more

-- The pieces before the place begin some frame's text. If a piece stands at the place, then with it they begin none;
-- else the place is the length. The bytes are no frame's text.
pub record RefusedAt (bs : List ℕ) (place : ℕ) : Type 0 where
  pub before : List (List ℕ)
  pub rest : List ℕ
  pub cut : Cut bs before rest
  pub there : place + length rest ≡ length bs
  pub begins : Begins before
  pub wrong : 0 < length rest → Begins (before ++ (piece rest ∷ [])) → ⊥
  pub none : (m : Meaning) → Proper m → text m ≢ bs
