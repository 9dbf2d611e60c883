use Rattle.std.proofs.Common.{◌≡◌, ◌+◌, ◌∙◌, arith}
use Rattle.frame.specs.Listed.{listed}
use Rattle.office.proofs.Naming.{going_on, going_out, follows_at, follows_out}
use Rattle.office.proofs.RunLaws.{at_most_five, apart}
use Rattle.office.proofs.places.Places.ranges.Goals as goal

pub name_ended-requires : goal.name_ended-requires
name_ended-requires c free lt =
    let o = c.args.self.now in
    follows_at o.delivered o.letters
    (at_most_five o.delivered o.letters o.eight o.counted o.numbered)
    (apart o.delivered o.letters o.eight o.counted o.numbered)
    c.loop-k.k (listed c.loop-k.ranges)
    c.loop-k.lower (o.delivered + 1 + c.loop-k.k)
    c.place-item.result (omega arith) free c.loop-k.invariant lt

pub loop-k-preserved : goal.loop-k-preserved
loop-k-preserved c =
    let o = c.args.self.now in
    let step : o.delivered + 1 + (c.loop-k.k + 1) ≡ o.delivered + 1 + c.loop-k.k + 1 = omega arith in
    rw (c.name_ended.ensures, c.start_past-lower.ensures, step)
    (going_on o.delivered o.letters c.loop-k.k (listed c.loop-k.ranges)
    c.loop-k.lower (o.delivered + 1 + c.loop-k.k) c.place-item.result (omega arith)
    c.loop-k.invariant)

pub name_run-requires : goal.name_run-requires
name_run-requires c lt =
    let o = c.args.self.now in
    let end : o.delivered + 1 + c.loop-k.k ≡ o.delivered + 9 = omega arith in
    rw (← end)
    (follows_out o.delivered o.letters
    (at_most_five o.delivered o.letters o.eight o.counted o.numbered)
    (apart o.delivered o.letters o.eight o.counted o.numbered)
    c.loop-k.k (listed c.loop-k.ranges) c.loop-k.lower (o.delivered + 1 + c.loop-k.k)
    (omega arith) c.loop-k.invariant (omega arith))

pub returns : goal.returns
returns c =
    let o = c.args.self.now in
    let end : o.delivered + 1 + c.loop-k.k ≡ o.delivered + 9 = omega arith in
    c.name_run.ensures
    ∙ rw (← end)
    (going_out o.delivered o.letters c.loop-k.k (listed c.loop-k.ranges)
    c.loop-k.lower (o.delivered + 1 + c.loop-k.k) (omega arith) c.loop-k.invariant)
