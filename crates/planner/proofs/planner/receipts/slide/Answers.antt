use Rattle.std.proofs.Common.{◌≤◌, length, replicate, ap, ◌∙◌, arith, length-take-le}
use Rattle.planner.specs.declared.slot.Slot.TheVariants as slot
use Rattle.planner.specs.Windows.{window_of}
use Rattle.planner.proofs.Turns.{turned}
use Rattle.planner.proofs.planner.receipts.slide.Goals as goal

pub returns-clause-value : goal.returns-clause-value
returns-clause-value c =
    let slots = c.args.slots.now in
    let by = c.args.by in
    let fits : by ≤ length slots = omega arith in
    let front = c.fill.ensures.after (λ y h. h) ∙ ap (λ n. replicate n slot.Free) (length-take-le by slots fits) in
    ap window_of c.rotate_left.ensures.after ∙ turned by slots _ fits front
