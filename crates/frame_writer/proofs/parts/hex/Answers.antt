use Rattle.std.proofs.Common.{arith}
use Rattle.frame_writer.proofs.Written.{all_bytes}
use Rattle.frame_writer.proofs.parts.hex.Goals as goal

pub returns-clause-fits : goal.returns-clause-fits
returns-clause-fits c = all_bytes c.args.bytes.now (λ i. omega (arith, c.type_inv.bytes i))
