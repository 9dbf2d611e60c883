use Rattle.line.proofs.Carried.{text_put}
use Rattle.line.proofs.frames.put_frame.Goals as goal

-- the text is a frame, so its put is done
pub unwrap-requires : goal.unwrap-requires
unwrap-requires g c = text_put _ _ _ _ _ _ _ c.put.result c.write-n.ensures c.put.ensures
