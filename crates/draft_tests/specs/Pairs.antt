-- Two drafts are made, or none, and then for the reason of the first that is not.
use Rattle.std.specs.Prelude.{Bool, Ok, Err, Result}
use Rattle.letter.specs.declared.change.Path.{Path}
use Rattle.letter.specs.declared.refusal.LetterRefusal.{LetterRefusal}
use Rattle.planner.specs.declared.draft.Draft.{Draft}

-- a draft's path, and whether it is spent
abbrev pub Shown : Type 0
Shown = Path × Bool

abbrev pub both_shown : Result (Draft × Draft) LetterRefusal → Result (Shown × Shown) LetterRefusal
both_shown (Ok ds) = Ok ((ds.0.path, ds.0.spent), (ds.1.path, ds.1.spent))
both_shown (Err why) = Err why

abbrev pub both : Result Shown LetterRefusal → Result Shown LetterRefusal → Result (Shown × Shown) LetterRefusal
both (Ok a) (Ok b) = Ok (a, b)
both (Ok a) (Err why) = Err why
both (Err why) (Ok b) = Err why
both (Err why) (Err later) = Err why
