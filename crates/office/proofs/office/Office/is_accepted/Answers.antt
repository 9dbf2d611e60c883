use Rattle.std.proofs.Common.{sym, ◌∙◌}
use Rattle.office.specs.Accepted.{is_accepted}
use Rattle.office.proofs.Views.{accepted_contents}
use Rattle.office.proofs.office.Office.is_accepted.Goals as goal

pub returns : goal.returns
unfolding is_accepted
returns c =
    let o = c.args.self.now in
    c.is_accepted.ensures ∙ sym (accepted_contents o.places.delivered o.places.letters c.args.number)
