use Rattle.std.proofs.Common.{refl, arith}
use Rattle.answer.specs.declared.answer.Answer.TheVariants as answer
use Rattle.runs.proofs.Going.{yet, stopped, cut_off, went_on, goes}
use Rattle.runs.proofs.turning.until_nothing.Goals as goal

pub loop-count-init : goal.loop-count-init
loop-count-init g c = yet

pub returns-in-Nothing : goal.returns-in-Nothing
returns-in-Nothing g c =
    stopped _ _ _ _ _ c.loop-count.count _ answer.Nothing c.loop-count.invariant c.loop-count-test.true c.in-Nothing.ensures.step refl

pub returns-in-Refused : goal.returns-in-Refused
returns-in-Refused g c =
    stopped _ _ _ _ _ c.loop-count.count _ (answer.Refused c.in-Refused.why) c.loop-count.invariant c.loop-count-test.true c.in-Refused.ensures.step refl

pub loop-count-preserved : goal.loop-count-preserved
loop-count-preserved g c =
    went_on _ _ _ _ _ c.loop-count.count c.make.result c.loop-count.invariant c.make.ensures.step (goes c.make.result c.in-Done.is)

pub returns : goal.returns
returns g c =
    cut_off _ _ _ _ c.loop-count.count c.args.at_most c.loop-count.invariant (omega arith) c.loop-count-test.false
