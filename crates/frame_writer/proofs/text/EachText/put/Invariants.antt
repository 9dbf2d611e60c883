use Rattle.std.proofs.Common.{take, flat_map}
use Rattle.frame_writer.specs.Putting.{Puts}
use Rattle.frame_writer.proofs.text.EachText.put.Given as goal

abbrev pub invariant-loop-part : goal.invariant-loop-part
invariant-loop-part g l = Puts l.initial.out (flat_map g.T.Text.text (take l.part-index l.parts)) l.out l.len
