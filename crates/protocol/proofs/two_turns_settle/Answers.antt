use Rattle.protocol.proofs.Turning.{two_turns_settle}
use Rattle.protocol.proofs.two_turns_settle.Goals as goal

pub returns : goal.returns
returns c = two_turns_settle
