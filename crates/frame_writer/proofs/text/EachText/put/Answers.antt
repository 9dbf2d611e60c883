use Rattle.frame_writer.proofs.Written.{row_more, puts_behind}
use Rattle.frame_writer.proofs.text.EachText.put.Goals as goal

pub loop-part-preserved : goal.loop-part-preserved
loop-part-preserved g c =
    let l = c.loop-part in
    let x = c.part-item.result in
    rw (row_more g.T.Text.text c.args.self.0.now l.part-index x c.loop-part-test.true c.part-item.is)
    (puts_behind c.args.out.now _ l.out (g.T.Text.text x) c.put-len.new.out l.len c.put-len.result l.invariant c.put-len.ensures)
