use Rattle.std.proofs.Common.{ap, ◌∙◌}
use Rattle.std.proofs.lemmas.Result.{err_from_is_err_and}
use Rattle.grammar.specs.Grammar.{detail_part}
use Rattle.frame_reader.specs.Reading.{onward}
use Rattle.frame_reader.proofs.reader.Reader.about.Goals as goal

pub returns-in_err-detail-in-UnknownSequence : goal.returns-in_err-detail-in-UnknownSequence
returns-in_err-detail-in-UnknownSequence c =
    let p = err_from_is_err_and c.from_residual.result c.from_residual.ensures.1 in
    rw (p.1, p.2) (λ k. ap (λ x. onward c.args.self.now (detail_part x k)) c.in-UnknownSequence.is ∙ c.in_err-detail-in-UnknownSequence.ensures _)

pub returns-in_err-detail-in-SequenceTerminated : goal.returns-in_err-detail-in-SequenceTerminated
returns-in_err-detail-in-SequenceTerminated c =
    let p = err_from_is_err_and c.from_residual-in_err-detail-in-SequenceTerminated.result c.from_residual-in_err-detail-in-SequenceTerminated.ensures.1 in
    rw (p.1, p.2) (λ k. ap (λ x. onward c.args.self.now (detail_part x k)) c.in-SequenceTerminated.is ∙ c.in_err-detail-in-SequenceTerminated.ensures _)

pub returns-in_err-detail-in-SequenceClosed : goal.returns-in_err-detail-in-SequenceClosed
returns-in_err-detail-in-SequenceClosed c =
    let p = err_from_is_err_and c.from_residual-in_err-detail-in-SequenceClosed.result c.from_residual-in_err-detail-in-SequenceClosed.ensures.1 in
    rw (p.1, p.2) (λ k. ap (λ x. onward c.args.self.now (detail_part x k)) c.in-SequenceClosed.is ∙ c.in_err-detail-in-SequenceClosed.ensures _)
