use Rattle.std.proofs.Common.{◌≡◌}
use Rattle.line.proofs.Begun.{fresh}
use Rattle.line.specs.Meaning.{model}
use Rattle.line.specs.Starting.{starts}
use Rattle.planner.specs.Settings.{values}
use Rattle.line.proofs.line.Line.new.Goals as goal

pub returns : goal.returns
returns g c =
    let p = c.new.ensures in
    let o = c.office_of.ensures in
    let is :
    model g.O.Transport g.B.Transport g.K.Taker
    (record { planner = c.new.result; office = c.office_of.result; outward = c.args.outward; back = c.args.back; taker = c.args.taker })
    ≡ starts (values c.args.settings.now) (g.O.Transport.waiting c.args.outward) (g.B.Transport.waiting c.args.back) (g.K.Taker.page c.args.taker) = cc in
    record { is = is; fresh = fresh c.args.settings.now _ _ _ _ is }
