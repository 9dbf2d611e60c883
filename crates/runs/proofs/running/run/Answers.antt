use Rattle.std.proofs.Common.{true, false, List, [], ◌++◌, map, reverse, vec_items, sym, refl, ap, ◌∙◌, arith}
use Rattle.std.proofs.lemmas.List.{append-nil, take_all}
use Rattle.std.proofs.lemmas.Result.{err_from_is_err_and}
use Rattle.answer.specs.declared.answer.Answer.{Answer}
use Rattle.protocol.specs.Calls.{Event}
use Rattle.protocol.specs.Runs.{start}
use Rattle.runs.specs.Calls.{call_of}
use Rattle.runs.proofs.Going.{none_yet, one_call, ran}
use Rattle.runs.proofs.running.run.Goals as goal

-- no memory: nothing was done
pub returns-in_err-reserve : goal.returns-in_err-reserve
returns-in_err-reserve g c =
    let p = err_from_is_err_and c.from_residual.result c.from_residual.ensures.1 in
    rw p.1
    (ran g.O.Transport g.B.Transport g.K.Taker false c.args.calls.now (vec_items c.args.answers.now) (vec_items c.reserve.new.self)
    c.args.line.now c.args.line.now [] refl (c.reserve.ensures.items ∙ sym (append-nil (vec_items c.args.answers.now))) start)

pub loop-call-init : goal.loop-call-init
loop-call-init g c = (
  none_yet g.O.Transport g.B.Transport g.K.Taker c.args.calls.now (vec_items c.reserve.new.self) c.args.line.now,
  omega (arith, c.in_ok-reserve.ensures.ok),
)

pub loop-call-preserved : goal.loop-call-preserved
loop-call-preserved g c = (
  one_call g.O.Transport g.B.Transport g.K.Taker c.args.calls.now c.loop-call.call-index c.call-item.result
      (vec_items c.reserve.new.self) (vec_items c.loop-call.answers) (vec_items c.make_recorded.new.answers)
      c.args.line.now c.loop-call.line c.make_recorded.new.line c.make_recorded.result
      c.loop-call-test.true c.call-item.is c.loop-call.invariant.0 c.make_recorded.ensures.step c.make_recorded.ensures.recorded,
  omega arith,
)

pub returns : goal.returns
returns g c =
    let s = c.loop-call.invariant.0 in
    let all = take_all c.loop-call.call-index c.args.calls.now c.loop-call-test.false in
    ran g.O.Transport g.B.Transport g.K.Taker true c.args.calls.now (vec_items c.args.answers.now) (vec_items c.loop-call.answers)
    c.args.line.now c.loop-call.line s.made (s.called ∙ ap (map call_of) all)
    (s.answered ∙ ap (λ (xs : List Answer). xs ++ reverse (map (λ (e : Event). e.answer) s.made)) c.reserve.ensures.items) s.run
