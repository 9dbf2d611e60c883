-- What it means to move one frame from one transport to another.
-- A reader has to believe only that this is what is wanted of a move.
use Rattle.std.specs.Prelude.{◌≡◌, ℕ, ◌+◌, ◌<◌, Bool, true, false, ◌⊎◌, [], length, Ok, Err, Result}
use Rattle.std.specs.List.{ContainsAt as Has}
use Rattle.transport.specs.declared.refusal.TransportRefusal.{TransportRefusal}
use Rattle.transport.specs.Meaning.{Frames, EachFrame, NothingNew}

-- one frame was moved: what waits waited in one of the two, and a depth above 0 counts it
pub record Moved (d e : ℕ) (from to from' to' : Frames) : Type 0 where
  pub nothing_new : NothingNew from from'
  pub only : EachFrame (λ g. Has to g ⊎ Has from g) to'
  pub off : 0 < d → length from ≡ length from' + 1
  pub on : length to < e → length to' ≡ length to + 1

-- there was none
pub record NotMoved (d : ℕ) (from to from' to' : Frames) : Type 0 where
  pub nothing_new : NothingNew from from'
  pub none : 0 < d → from ≡ []
  pub same : to' ≡ to

-- a move is never refused
abbrev pub Forwarded : ℕ → ℕ → Frames → Frames → Result Bool TransportRefusal → Frames → Frames → Type 0
Forwarded d e from to (Ok true) from' to' = Moved d e from to from' to'
Forwarded d e from to (Ok false) from' to' = NotMoved d from to from' to'
Forwarded d e from to (Err why) from' to' = ⊥
