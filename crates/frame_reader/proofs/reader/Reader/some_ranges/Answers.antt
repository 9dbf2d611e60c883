use Rattle.std.proofs.Common.{◌∙◌}
use Rattle.frame_reader.proofs.Steps.{more_off, first_on}
use Rattle.frame_reader.proofs.reader.Reader.some_ranges.Goals as goal

pub returns : goal.returns
returns c k =
    first_on _ _ _ _ c.new-ranges.ensures c.if-not-takes_range.ensures k ∙
    (c.loop.invariant k ∙ more_off _ _ _ _ c.loop-test.ensures k)
