use Rattle.std.proofs.Common.{◌+◌, ◌-◌, sym, subst, arith}
use Rattle.planner.specs.Receipts.{slid}
use Rattle.planner.specs.Windows.{window_of, FreeFrom, Lowest}
use Rattle.planner.proofs.Windows.{free_marks, free_slid, front_le, lowest_slid}
use Rattle.planner.proofs.planner.Planner.receive.Goals as goal

pub invariant_of-self-clause-reached : goal.invariant_of-self-clause-reached
invariant_of-self-clause-reached c =
    let p = c.args.self.now in
    let written = p.written + 1 - p.lowest in
    let rest = subst (FreeFrom written) (sym c.mark_all.ensures) (free_marks _ _ written (window_of p.slots) p.rest) in
    omega (arith, c.front_of-by.ensures.value, front_le (window_of c.mark_all.new.slots) written rest)

pub invariant_of-self-clause-rest : goal.invariant_of-self-clause-rest
invariant_of-self-clause-rest c =
    let p = c.args.self.now in
    let w = window_of c.mark_all.new.slots in
    let by = c.front_of-by.result in
    let written = p.written + 1 - p.lowest in
    let rest : FreeFrom written w = subst (FreeFrom written) (sym c.mark_all.ensures) (free_marks _ _ written (window_of p.slots) p.rest) in
    subst (FreeFrom (p.written + 1 - (p.lowest + by))) (sym c.slide.ensures.value)
    (free_slid by w written (p.written + 1 - (p.lowest + by)) (omega arith) rest)

pub invariant_of-self-clause-first : goal.invariant_of-self-clause-first
invariant_of-self-clause-first c =
    let w = window_of c.mark_all.new.slots in
    let past : Lowest (slid c.front_of-by.result w) =
    subst (λ k. Lowest (slid k w)) (sym c.front_of-by.ensures.value) (lowest_slid w) in
    subst Lowest (sym c.slide.ensures.value) past
