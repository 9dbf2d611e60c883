use Rattle.std.proofs.Common.{◌≡◌, ◌+◌, ◌-◌, sym, refl, subst, arith}
use Rattle.std.proofs.lemmas.List.{map-set}
use Rattle.letter.specs.Letters.{content}
use Rattle.planner.specs.Sources.{source_of}
use Rattle.planner.specs.Windows.{slot_of, window_of, FreeFrom, Lowest}
use Rattle.planner.proofs.Slots.{free_set, lowest_set}
use Rattle.planner.proofs.Writes.{added}
use Rattle.planner.proofs.planner.Planner.add.Goals as goal

pub invariant_of-self-clause-rest : goal.invariant_of-self-clause-rest
invariant_of-self-clause-rest c =
    let p = c.args.self.now in
    let number = c.in_ok-number.number in
    let at = number - p.lowest in
    let next : number ≡ p.written + 1 = c.in_ok-number.ensures.bounds.0 in
    subst (FreeFrom (number + 1 - p.lowest)) (sym (map-set slot_of p.slots at _))
    (free_set (window_of p.slots) (p.written + 1 - p.lowest) (number + 1 - p.lowest) at _ (omega arith) (omega arith) p.rest)

pub invariant_of-self-clause-first : goal.invariant_of-self-clause-first
invariant_of-self-clause-first c =
    let p = c.args.self.now in
    let at = c.in_ok-number.number - p.lowest in
    subst Lowest (sym (map-set slot_of p.slots at _)) (lowest_set (window_of p.slots) at _ refl p.first)

pub returns : goal.returns
returns c =
    let number = c.in_ok-number.number in
    let is = c.in_ok-number.ensures in
    added (source_of c.args.self.now) number (content c.args.letter) _ is.value is.bounds.0
    (map-set slot_of c.args.self.now.slots (number - c.args.self.now.lowest) _)
