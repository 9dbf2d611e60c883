use Rattle.office.specs.Seen.{seen}
use Rattle.office.proofs.DeliveryLaws.{keeps_from}
use Rattle.office.proofs.Views.{delivers_left}
use Rattle.office.proofs.office.Office.delivered.Goals as goal

pub returns : goal.returns
returns c =
    let o = c.args.self.now in
    let done = c.deliver.ensures in
    let value = delivers_left o c.deliver.new.self _ done.number done.delivered done.letters in
    record { value = value; keeps = keeps_from (seen o) _ value }
