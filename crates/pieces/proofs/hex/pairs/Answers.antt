use Rattle.std.proofs.Common.{ℕ, ◌<◌, length-take, rules, sym, ap, ◌∙◌, arith, ◌≤◌, length}
use Rattle.std.proofs.Math.ListN.{length-drop}
use Rattle.std.specs.Bool.{then_some}
use Rattle.std.specs.Option.{option_map}
use Rattle.pieces.proofs.Pairs.{pair_bad, pair_more, pair_end}
use Rattle.pieces.proofs.hex.pairs.Goals as goal

pub returns-in_err-byte : goal.returns-in_err-byte
returns-in_err-byte c =
    let long : 2 ≤ length c.loop-rest.rest.now = search rules in
    rw c.from_residual.ensures
    (sym (c.loop-rest.invariant.read ∙ pair_bad _ c.loop-rest.rest.now long (sym c.byte.ensures ∙ c.in_err-byte.was)))

pub loop-rest-preserved : goal.loop-rest-preserved
loop-rest-preserved c =
    let long : 2 ≤ length c.loop-rest.rest.now = search rules in
    record {
      read =
          c.loop-rest.invariant.read ∙
          pair_more _ _ c.loop-rest.rest.now _ long (sym c.byte.ensures ∙ c.in_ok-byte.was) c.push.ensures.items;
      room = omega (arith, c.push.ensures.len, c.loop-rest.invariant.room, length-take {A = ℕ}, length-drop {A = ℕ});
    }

pub returns : goal.returns
returns c =
    let less : length c.loop-rest.rest.now < 2 = search rules in
    ap (option_map (λ v. v.items)) (c.then_some.ensures ∙ ap (λ b. then_some b c.loop-rest.bytes) c.is_empty.ensures) ∙
    (pair_end (λ v. v.items) c.loop-rest.bytes c.loop-rest.rest.now less ∙ sym c.loop-rest.invariant.read)
