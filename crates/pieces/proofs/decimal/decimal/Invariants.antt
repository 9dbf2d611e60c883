use Rattle.std.proofs.Common.{◌≡◌, drop}
use Rattle.pieces.specs.Numbers.{read_on}
use Rattle.pieces.proofs.decimal.decimal.Given as goal

abbrev pub invariant-loop-b : goal.invariant-loop-b
invariant-loop-b l = read_on l.n (drop l.b-index l.text) ≡ read_on 0 l.text
