-- A draft is a path in range and whether it is spent; a new one is not.
use Rattle.std.specs.Prelude.{ℕ, Bool, false, Some, None, Ok, Err, Option, Result}
use Rattle.letter.specs.Changes.{path_of}
use Rattle.letter.specs.declared.change.Path.{Path}
use Rattle.letter.specs.declared.refusal.LetterRefusal.{LetterRefusal}
use Rattle.letter.specs.declared.refusal.LetterRefusal.TheVariants.{Spoilt}
use Rattle.planner.specs.declared.draft.Draft.{Draft}

abbrev pub shown : Result Draft LetterRefusal → Result (Path × Bool) LetterRefusal
shown (Ok d) = Ok (d.path, d.spent)
shown (Err why) = Err why

abbrev pub unspent : Option Path → Result (Path × Bool) LetterRefusal
unspent (Some p) = Ok (p, false)
unspent None = Err Spoilt

abbrev pub drafted : ℕ → ℕ → ℕ → ℕ → Result (Path × Bool) LetterRefusal
drafted train section enter leave = unspent (path_of train section enter leave)
