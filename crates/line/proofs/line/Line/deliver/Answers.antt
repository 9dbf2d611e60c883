use Rattle.std.proofs.Common.{ℕ, List, None, Ok, sym, refl, ap, subst}
use Rattle.line.proofs.Handing.{handed}
use Rattle.office.specs.Seen.{seen}
use Rattle.protocol.specs.Steps.{Handover}
use Rattle.taker.specs.Steps.{Follows}
use Rattle.line.proofs.line.Line.deliver.Goals as goal

pub returns-in-Ok : goal.returns-in-Ok
returns-in-Ok g c =
    let before = c.args.self.now in
    let page = g.K.Taker.page before.taker in
    let follows = subst (λ (l : List ℕ). Follows (g.K.Taker.step page l) page (Ok tt) (g.K.Taker.page c.take.new.self)) c.as_slice.ensures c.in-Ok.ensures in
    let is = handed g.K.Taker.step (seen before.office) (seen c.taken.new.office) page (g.K.Taker.page c.take.new.self) c.taken.result _ (sym c.in-Some.ensures) follows c.taken.ensures in
    record {
      given = tt;
      got = None;
      step = record {
        answer = ap (λ (h : Handover). h.answer) is;
        office = ap (λ (h : Handover). h.office) is;
        page = ap (λ (h : Handover). h.page) is;
        planner = refl;
        out = refl;
        back = refl;
        ungot = refl;
      };
    }
