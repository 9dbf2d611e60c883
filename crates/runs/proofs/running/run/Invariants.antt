use Rattle.std.proofs.Common.{◌+◌, ◌-◌, ◌≤◌, length, vec_items, vec_len, vec_capacity}
use Rattle.runs.proofs.Going.{SoFar}
use Rattle.runs.proofs.running.run.Given as goal

abbrev pub invariant-loop-call : goal.invariant-loop-call
invariant-loop-call g l =
    SoFar g.O.Transport g.B.Transport g.K.Taker l.calls l.call-index
    (vec_items l.initial.answers) (vec_items l.answers) l.initial.line l.line
    × (vec_len l.answers + (length l.calls - l.call-index) ≤ vec_capacity l.answers)
