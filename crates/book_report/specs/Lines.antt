-- The text that is printed for what became of a line, and for a path at the end.
use Rattle.std.specs.Prelude.{ℕ, List, ◌++◌, codes, decimal}
use Rattle.letter.specs.declared.change.Change.TheVariants.{Put, Withdrawal}
use Rattle.letter.specs.declared.change.Path.{Path}
use Rattle.book_report.specs.declared.outcome.Outcome.{Outcome}
use Rattle.book_report.specs.declared.outcome.Outcome.TheVariants.{Done, Spoilt, Refused, NotHex}

-- the numbers of a path behind these four words
abbrev pub numbers_text : List ℕ → List ℕ → List ℕ → List ℕ → Path → List ℕ
numbers_text t s e l p =
    t ++ (decimal p.train ++ (s ++ (decimal p.section ++ (e ++ (decimal p.enter ++ (l ++ decimal p.leave))))))

abbrev pub outcome_text : Outcome → List ℕ
outcome_text (Done (Put p)) =
    numbers_text (codes "put train=") (codes " section=") (codes " enter=") (codes " leave=") p
outcome_text (Done (Withdrawal t s)) = codes "withdrawal train=" ++ (decimal t ++ (codes " section=" ++ decimal s))
outcome_text Spoilt = codes "spoilt"
outcome_text Refused = codes "refused"
outcome_text NotHex = codes "error hex"

abbrev pub path_text : Path → List ℕ
path_text p = numbers_text (codes "path ") (codes " ") (codes " ") (codes " ") p
