use Rattle.std.proofs.Common.{◌≡◌, ◌+◌, ◌*◌, ◌≤◌, [], length}
use Rattle.arrayvec.specs.ArrayVec.{array_vec_len}
use Rattle.pieces.specs.Hex.{read_pairs}
use Rattle.pieces.proofs.hex.pairs.Given as goal

-- the pairs so far are read, and there is room for those that are left
abbrev pub invariant-loop-rest : goal.invariant-loop-rest
invariant-loop-rest l =
    record {
      read : read_pairs [] l.text ≡ read_pairs l.bytes.items l.rest;
      room : array_vec_len l.bytes * 2 + length l.rest ≤ 96;
    }

abbrev pub decreases-loop-rest : goal.decreases-loop-rest
decreases-loop-rest l = length l.rest
