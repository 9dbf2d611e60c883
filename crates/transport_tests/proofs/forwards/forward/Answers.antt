use Rattle.std.proofs.Common.{Ok, sym, ap, ◌∙◌, subst}
use Rattle.transport.specs.Meaning.{Sized}
use Rattle.transport.proofs.Outcomes.{put_added, put_refused, got_took, took_front}
use Rattle.transport_tests.proofs.Moved.{moved}
use Rattle.transport_tests.proofs.forwards.forward.Goals as goal

-- what was got is a frame by the law, so its put is not refused
pub returns-in_err-put-in-Some : goal.returns-in_err-put-in-Some
returns-in_err-put-in-Some g c =
    let came = c.in_ok-n.was ∙ ap Ok c.in-Some.is in
    let t = got_took c.in-Some.n came c.get.ensures in
    let s = g.met.A.Transport.sized _ _ t.waited in
    let r = put_refused g.B.Transport.depth {r = c.put.result} c.in_err-put-in-Some.field-0.0
    c.in_err-put-in-Some.was c.put.ensures in
    absurd (r.unsized (subst Sized (sym (took_front t)) s))

pub returns-in_ok-put-in-Some : goal.returns-in_ok-put-in-Some
returns-in_ok-put-in-Some g c =
    let came = c.in_ok-n.was ∙ ap Ok c.in-Some.is in
    moved (got_took c.in-Some.n came c.get.ensures)
    (put_added {r = c.put.result} c.in_ok-put-in-Some.field-0 c.in_ok-put-in-Some.was c.put.ensures)
