use Rattle.line.specs.Meaning.{over, model}
use Rattle.runs.specs.Calls.{call_of}
use Rattle.runs.proofs.Going.{Going}
use Rattle.runs.proofs.turning.until_nothing.Given as goal

abbrev pub invariant-loop-count : goal.invariant-loop-count
invariant-loop-count g l =
    Going (over g.O.Transport g.B.Transport g.K.Taker) (call_of l.call)
    (model g.O.Transport g.B.Transport g.K.Taker l.initial.line) l.count
    (model g.O.Transport g.B.Transport g.K.Taker l.line)
