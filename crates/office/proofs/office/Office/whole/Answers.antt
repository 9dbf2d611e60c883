use Rattle.std.proofs.Common.{◌≡◌, ◌+◌, ◌&&◌, leb, sym, ap, ◌∙◌}
use Rattle.office.specs.Seen.{seen}
use Rattle.office.specs.Wholes.{is_whole, is_over}
use Rattle.office.proofs.Fronts.{law_from}
use Rattle.office.proofs.Views.{front_contents, sound_seen}
use Rattle.office.proofs.office.Office.whole.Goals as goal

pub returns : goal.returns
unfolding is_whole
returns c =
    let o = c.args.self.now in
    let value : c.is_whole_at.result ≡ is_whole (seen o)
    = c.is_whole_at.ensures
    ∙ (ap (λ m. is_over o.state && leb m c.reached.result) c.last_of.ensures
    ∙ ap (λ n. is_over o.state && leb (seen o).last n)
    (c.reached.ensures ∙ ap (λ n. o.places.delivered + n) (sym (front_contents o.places.letters)))) in
    record { value = value; law = law_from (seen o) (sound_seen o).eight _ value }
