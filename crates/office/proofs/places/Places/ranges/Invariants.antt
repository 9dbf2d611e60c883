use Rattle.std.proofs.Common.{◌+◌}
use Rattle.frame.specs.Listed.{listed}
use Rattle.office.proofs.Naming.{Going}
use Rattle.office.proofs.places.Places.ranges.Given as goal

abbrev pub invariant-loop-k : goal.invariant-loop-k
invariant-loop-k l =
    Going l.self.delivered l.self.letters l.k (listed l.ranges) l.lower (l.self.delivered + 1 + l.k)
