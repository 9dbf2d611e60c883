use Rattle.std.proofs.Common.{◌≤◌, length, vec_items, sym, ◌∙◌, rules}
use Rattle.hex_text.proofs.Pairs.{pair_read}
use Rattle.hex_text.proofs.words.parse.Goals as goal

pub loop-rest-preserved : goal.loop-rest-preserved
loop-rest-preserved c =
    let long : 2 ≤ length c.loop-rest.rest.now = search rules in
    pair_read (vec_items c.loop-rest.bytes) (vec_items c.push.new.self) c.loop-rest.rest.now c.in-Some.b
    long (sym c.in-Some.ensures) c.in_ok-push.ensures.items ∙
    c.loop-rest.invariant
