use Rattle.std.proofs.Common.{get_or, ap, ◌∙◌, arith, length-set}
use Rattle.planner.specs.Receipts.{marked}
use Rattle.planner.specs.Windows.{slot_of}
use Rattle.planner.proofs.Turns.{marks_more}
use Rattle.planner.proofs.planner.receipts.mark_all.Goals as goal

pub loop-k-preserved : goal.loop-k-preserved
loop-k-preserved c =
    let i = c.loop-k.invariant in
    let there = slot_of (get_or c.loop-k.slots c.loop-k.k c.index-slots-k.result) in
    let marks = c.marked.ensures ∙ ap (λ named. marked named there) c.has_number.ensures in (
      simp length-set i.0,
      marks_more c.args.ranges.now c.args.lowest c.loop-k.k c.loop-k.slots _ _ (omega arith) marks ∙ i.1,
    )
