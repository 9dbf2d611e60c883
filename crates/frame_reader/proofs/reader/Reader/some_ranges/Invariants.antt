use Rattle.std.proofs.Common.{◌≡◌, ◌-◌, List, length}
use Rattle.frame.specs.Listed.{listed}
use Rattle.frame.specs.declared.range.Range.{Range}
use Rattle.grammar.specs.Grammar.{more_ranges}
use Rattle.grammar.specs.Trees.{Tree}
use Rattle.frame_reader.specs.Reading.{onward}
use Rattle.frame_reader.proofs.reader.Reader.some_ranges.Given as goal

abbrev pub invariant-loop : goal.invariant-loop
invariant-loop l =
    (k : List Range → Tree)
    → onward l.initial.self (more_ranges (5 - length (listed l.initial.ranges)) (listed l.initial.ranges) k) ≡
    onward l.self (more_ranges (5 - length (listed l.ranges)) (listed l.ranges) k)

abbrev pub decreases-loop : goal.decreases-loop
decreases-loop l = 5 - length (listed l.ranges)
