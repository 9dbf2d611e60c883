use Rattle.runs.proofs.Joining.{continues}
use Rattle.runs.proofs.making.post.Goals as goal

pub returns-clause-safe : goal.returns-clause-safe
returns-clause-safe g c = continues g.O.Transport g.B.Transport g.K.Taker _ _ c.args.line.now c.post.new.self c.post.ensures.step
