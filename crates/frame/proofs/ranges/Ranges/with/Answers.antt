use Rattle.std.proofs.Common.{◌<◌, length, ap, ◌∙◌, arith}
use Rattle.std.proofs.lemmas.List.{length-set, length-take-le, take_more_set}
use Rattle.frame.specs.Ascending.{ascending}
use Rattle.frame.specs.Listed.{listed}
use Rattle.frame.proofs.Ascents.{ascending_push, follows_parts}
use Rattle.frame.proofs.ranges.Ranges.with.Goals as goal

pub invariant_of-result : goal.invariant_of-result
invariant_of-result c =
    let r = c.args.self in
    let x = c.args.range in
    let f = follows_parts (listed r) x c.requires in
    let n = length-take-le r.count r.list (omega (arith, r.few, r.whole)) in
    let room : r.count < length r.list = omega (arith, r.whole, f.0) in
    record {
      few = omega (arith, f.0);
      whole = length-set r.list r.count x ∙ r.whole;
      ascends = ap (ascending 1) (take_more_set r.list r.count x room) ∙ ascending_push 1 (listed r) x r.ascends f.1;
    }

pub returns : goal.returns
returns c =
    let r = c.args.self in
    let f = follows_parts (listed r) c.args.range c.requires in
    let n = length-take-le r.count r.list (omega (arith, r.few, r.whole)) in
    take_more_set r.list r.count c.args.range (omega (arith, r.whole, f.0))
