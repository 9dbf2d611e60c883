use Rattle.office.proofs.Views.{accepts_kept}
use Rattle.office.proofs.office.Office.accept.Goals as goal

pub returns : goal.returns
returns c =
    accepts_kept c.args.self.now c.args.number.value c.args.letter c.keep.new.self
    c.keep.ensures.delivered c.keep.ensures.letters
