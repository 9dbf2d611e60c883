use Rattle.std.proofs.Common.{rules}
use Rattle.std.proofs.lemmas.List.{at_drop_all}
use Rattle.pieces.specs.Numbers.{read_on}
use Rattle.pieces.proofs.Decimals.{plain_starts}
use Rattle.pieces.proofs.decimal.decimal.Goals as goal

pub returns : goal.returns
returns c = search (rules, at_drop_all (read_on c.loop-b.n), plain_starts)
