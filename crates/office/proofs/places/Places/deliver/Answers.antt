use Rattle.std.proofs.Common.{sym, ap, ◌∙◌}
use Rattle.std.specs.Option.{option_map}
use Rattle.office.proofs.Shifts.{rotated, left_shifted}
use Rattle.office.proofs.places.Places.deliver.Goals as goal

pub returns-clause-letters : goal.returns-clause-letters
returns-clause-letters c =
    let p = c.args.self.now in
    let is = sym c.first.ensures ∙ ap (option_map (λ x. x.now)) c.in_ok-first.was in
    rw c.rotate_left.ensures.after (rotated p.letters p.eight) ∙ left_shifted p.delivered p.letters _ is
