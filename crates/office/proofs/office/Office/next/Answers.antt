use Rattle.office.proofs.Views.{shown}
use Rattle.office.proofs.office.Office.next.Goals as goal

pub returns : goal.returns
returns c = shown c.first.result c.args.self.now.places.letters c.first.ensures
