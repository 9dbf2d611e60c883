use Rattle.std.proofs.Common.{◌+◌, ◌-◌, set, sym, ap, ◌∙◌, subst, arith}
use Rattle.std.proofs.lemmas.List.{map-set}
use Rattle.planner.specs.Sources.{source_of}
use Rattle.planner.specs.Sending.{due_of}
use Rattle.planner.specs.Windows.{has_receipt, slot_of, window_of, FreeFrom, Lowest}
use Rattle.planner.proofs.Slots.{free_set, lowest_set, in_front}
use Rattle.planner.proofs.Sends.{sent_is}
use Rattle.planner.proofs.planner.Planner.send_due.Goals as goal

pub invariant_of-self-clause-rest : goal.invariant_of-self-clause-rest
invariant_of-self-clause-rest c =
    let p = c.args.self.now in
    let place = c.in_ok-due.due.place in
    let few = p.written + 1 - p.lowest in
    let front = in_front (window_of p.slots) few place c.in_ok-due.ensures.stands.1 p.rest in
    subst (FreeFrom few) (sym (map-set slot_of p.slots place _))
    (free_set (window_of p.slots) few few place _ front (omega arith) p.rest)

pub invariant_of-self-clause-first : goal.invariant_of-self-clause-first
invariant_of-self-clause-first c =
    let p = c.args.self.now in
    let place = c.in_ok-due.due.place in
    subst Lowest (sym (map-set slot_of p.slots place _))
    (lowest_set (window_of p.slots) place _ (ap has_receipt c.once_sent.ensures) p.first)

pub returns : goal.returns
returns c =
    let p = c.args.self.now in
    let place = c.in_ok-due.due.place in
    sent_is (source_of p) c.args.clock (due_of c.in_ok-due.due) _ _ c.in_ok-due.ensures.value
    (map-set slot_of p.slots place _ ∙ ap (set (window_of p.slots) place) c.once_sent.ensures) c.sequence_frame-frame.ensures
