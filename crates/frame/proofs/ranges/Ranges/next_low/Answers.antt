use Rattle.std.proofs.Common.{ap, ◌∙◌, arith}
use Rattle.frame.proofs.Ascents.{last_next}
use Rattle.frame.specs.Ascending.{next_low}
use Rattle.frame.proofs.ranges.Ranges.next_low.Goals as goal

pub returns-in-len1-up : goal.returns-in-len1-up
returns-in-len1-up c =
    record {
      value = last_next c.as_slice.result.now (record { lower = 0; upper = 0 }) (omega arith) ∙ ap (next_low 1) c.as_slice.ensures;
    }
