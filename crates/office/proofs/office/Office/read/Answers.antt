use Rattle.std.proofs.Common.{◌≡◌, Ok, Err, refl, ap, ◌∙◌}
use Rattle.std.proofs.lemmas.Result.{err_from_is_err_and}
use Rattle.frame.specs.Meanings.{meaning}
use Rattle.office.specs.Reads.{reads, reads_seen, takes, answers}
use Rattle.office.specs.Seen.{seen, read_as}
use Rattle.office.proofs.ReadLaws.{lawful_from}
use Rattle.office.proofs.Views.{sound_seen}
use Rattle.office.proofs.office.Office.read.Goals as goal

pub returns-in_err-frame : goal.returns-in_err-frame
returns-in_err-frame c =
    let o = c.args.self.now in
    let fault = c.in_err-frame.field-0.0 in
    let p = err_from_is_err_and c.from_residual.result c.from_residual.ensures.1 in
    rw (p.1, p.2)
    record {
      value = ap (reads_seen (seen o)) c.in_err-frame.ensures.value;
      lawful = lawful_from (seen o) (Err fault.place) _ refl (sound_seen o);
    }

pub returns : goal.returns
unfolding reads
returns c =
    let o = seen c.args.self.now in
    let frame = c.in_ok-frame.frame in
    let m = meaning frame in
    let after = c.reply.new.self in
    let answer = Ok (record { form = c.form.result; reply = c.reply.result }) in
    let value : read_as after answer ≡ reads o m
    = ap (answers c.form.result) c.reply.ensures
    ∙ ap (λ f. answers f (takes o m)) c.form.ensures in
    record {
      value = value ∙ ap (reads_seen o) c.in_ok-frame.ensures.value;
      lawful = lawful_from o (Ok m) _ value (sound_seen after);
    }
