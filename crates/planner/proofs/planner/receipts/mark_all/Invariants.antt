use Rattle.std.proofs.Common.{◌≡◌, ◌+◌, ◌++◌, length, take, drop}
use Rattle.planner.specs.Receipts.{with_receipts}
use Rattle.planner.specs.Windows.{window_of}
use Rattle.planner.proofs.planner.receipts.mark_all.Given as goal

abbrev pub invariant-loop-k : goal.invariant-loop-k
invariant-loop-k l =
    (length l.slots ≡ 8) ×
    (window_of (take l.k l.slots) ++ with_receipts l.ranges (l.lowest + l.k) (window_of (drop l.k l.slots)) ≡
    with_receipts l.ranges l.lowest (window_of l.initial.slots))
