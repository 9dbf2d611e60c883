use Rattle.std.proofs.Common.{◌≡◌, ◌<◌, ◌≤◌, true, length, is_ok, vec_items, vec_len, vec_capacity, ap, ◌∙◌, arith}
use Rattle.std.proofs.ResultArms.{chosen}
use Rattle.taker.specs.Paths.{ascending}
use Rattle.taker.proofs.Edits.{has_held, has_free, has_none, set_held, insert_free, full_free}
use Rattle.taker.proofs.Orders.{ascending_put_paths}
use Rattle.taker.proofs.book.paths.Paths.put.Goals as goal

pub returns-then-len-ge-MOST : goal.returns-then-len-ge-MOST
returns-then-len-ge-MOST c =
    let ps = c.args.self.now.items in
    let spot = c.in-Err.ensures.value in
    let full : 32 ≤ length (vec_items ps) = omega (arith, ps.ok.0) in
    record {
      value = has_none (vec_items ps) c.args.self.now.ordered c.args.p _ spot full;
      items = full_free (vec_items ps) c.args.self.now.ordered c.args.p _ spot full;
    }

pub invariant_of-self : goal.invariant_of-self
invariant_of-self c =
    let ps = c.args.self.now.items in
    let done = set_held (vec_items ps) c.args.self.now.ordered c.args.p _ c.in-Ok.ensures.value in
    record {
      few = c.args.self.now.few;
      room = c.args.self.now.room;
      ordered = ap ascending done ∙ ascending_put_paths c.args.p (vec_items ps) c.args.self.now.ordered;
    }

pub returns-in-Ok : goal.returns-in-Ok
returns-in-Ok c =
    let ps = c.args.self.now.items in
    let spot = c.in-Ok.ensures.value in
    record {
      value = has_held (vec_items ps) c.args.self.now.ordered c.args.p _ spot;
      items = set_held (vec_items ps) c.args.self.now.ordered c.args.p _ spot;
    }

pub invariant_of-self-in-Err : goal.invariant_of-self-in-Err
invariant_of-self-in-Err c =
    let ps = c.args.self.now.items in
    let few : length (vec_items ps) < 32 = omega (arith, ps.ok.0) in
    let less : vec_len ps < vec_capacity ps = omega (arith, c.args.self.now.room) in
    let ok : is_ok c.insert.result ≡ true = c.insert.ensures.succeeds less in
    let done =
    chosen _ _ _ _ c.insert.ensures.items ok ∙
    insert_free (vec_items ps) c.args.self.now.ordered c.args.p _ c.in-Err.ensures.value few in
    record {
      few = omega (arith, chosen _ _ _ _ c.insert.ensures.len ok);
      room = omega (arith, c.insert.ensures.capacity, c.args.self.now.room);
      ordered = ap ascending done ∙ ascending_put_paths c.args.p (vec_items ps) c.args.self.now.ordered;
    }

pub returns-else-len-ge-MOST : goal.returns-else-len-ge-MOST
returns-else-len-ge-MOST c =
    let ps = c.args.self.now.items in
    let spot = c.in-Err.ensures.value in
    let few : length (vec_items ps) < 32 = omega (arith, ps.ok.0) in
    let less : vec_len ps < vec_capacity ps = omega (arith, c.args.self.now.room) in
    let ok : is_ok c.insert.result ≡ true = c.insert.ensures.succeeds less in
    record {
      value = has_free (vec_items ps) c.args.self.now.ordered c.args.p _ spot few;
      items =
          chosen _ _ _ _ c.insert.ensures.items ok ∙
          insert_free (vec_items ps) c.args.self.now.ordered c.args.p _ spot few;
    }
