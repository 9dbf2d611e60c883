use Rattle.protocol.proofs.Safety.{runs_are_safe}
use Rattle.protocol.proofs.runs_are_safe.Goals as goal

pub returns : goal.returns
returns c = runs_are_safe
