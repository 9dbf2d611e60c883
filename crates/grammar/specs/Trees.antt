-- Which pieces may follow one another, as a tree, and where bytes lead in it.
use Rattle.std.specs.Prelude.{ℕ, ◌-◌, List, [], ◌∷◌, length, Some, None, Ok, Err, Result}
use Rattle.frame.specs.Meanings.{Meaning}
use Rattle.pieces.specs.Cuts.{piece, after}
use Rattle.grammar.specs.Kinds.{Kind, Value, reader}

pub data Tree : Type 0 where
  -- nothing may come
  stop : Tree
  -- the frame is whole here, or goes on
  whole : Meaning → Tree → Tree
  -- a piece of this kind and then the tree for what it holds, or else the other tree
  reads : (κ : Kind) → (Value κ → Tree) → Tree → Tree

-- the frame that the bytes lead to, or the place of the first that leads nowhere; `end` is the whole length
unfoldable pub walk : ℕ → Tree → List ℕ → Result Meaning ℕ
walk end stop bs = Err (end - length bs)
walk end (whole m g) [] = Ok m
walk end (whole m g) (b ∷ bs) = walk end g (b ∷ bs)
walk end (reads κ k h) bs =
    elim (reader κ (piece bs)) [ None ↦ walk end h bs | Some a ↦ walk end (k a) (after bs) ]
