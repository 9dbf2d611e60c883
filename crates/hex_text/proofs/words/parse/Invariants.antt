use Rattle.std.proofs.Common.{◌≡◌, [], length, vec_items}
use Rattle.hex_text.specs.Hex.{pairs_after}
use Rattle.hex_text.proofs.words.parse.Given as goal

abbrev pub invariant-loop-rest : goal.invariant-loop-rest
invariant-loop-rest l = pairs_after (vec_items l.bytes) l.rest ≡ pairs_after [] l.text

abbrev pub decreases-loop-rest : goal.decreases-loop-rest
decreases-loop-rest l = length l.rest
