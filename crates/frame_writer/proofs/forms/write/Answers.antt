use Rattle.frame_writer.proofs.Lengths.{writes}
use Rattle.frame_writer.proofs.forms.write.Goals as goal

pub returns : goal.returns
returns c = let p = c.put_frame.ensures in writes c.args.frame.now c.args.out.now c.put_frame.new.out c.put_frame.result p.fits p.puts
