use Rattle.std.proofs.Common.{Some, rules}
use Rattle.line.proofs.line.Line.hear.Goals as goal

pub returns : goal.returns
returns g c = record { given = tt; got = Some c.in-Some.bytes.now; step = search rules }
