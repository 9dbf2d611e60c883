use Rattle.std.proofs.Common.{vec_items, ap, ◌∙◌, arith}
use Rattle.taker.specs.Paths.{ascending}
use Rattle.taker.proofs.Edits.{removed_held, kept_free}
use Rattle.taker.proofs.Orders.{ascending_without}
use Rattle.taker.proofs.book.paths.Paths.remove.Goals as goal

pub invariant_of-self : goal.invariant_of-self
invariant_of-self c =
    let ps = c.args.self.now.items in
    let done =
    c.remove.ensures.items ∙
    removed_held (vec_items ps) c.args.self.now.ordered c.args.train c.args.section _ c.in-Ok.ensures.value in
    record {
      few = omega (arith, c.remove.ensures.len, c.args.self.now.few);
      room = omega (arith, c.remove.ensures.capacity, c.args.self.now.room);
      ordered = ap ascending done ∙ ascending_without c.args.train c.args.section (vec_items ps) c.args.self.now.ordered;
    }

pub returns-in-Ok : goal.returns-in-Ok
returns-in-Ok c =
    let ps = c.args.self.now.items in
    c.remove.ensures.items ∙
    removed_held (vec_items ps) c.args.self.now.ordered c.args.train c.args.section _ c.in-Ok.ensures.value

pub returns-in_default : goal.returns-in_default
returns-in_default c =
    kept_free (vec_items c.args.self.now.items) c.args.self.now.ordered c.args.train c.args.section _ c.in_default.ensures.value
