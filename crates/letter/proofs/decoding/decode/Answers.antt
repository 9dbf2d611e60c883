use Rattle.letter.proofs.RoundTrips.{decodes}
use Rattle.letter.proofs.decoding.decode.Goals as goal

pub returns : goal.returns
returns c =
    record {
      value = c.fields.ensures;
      exact = rw c.fields.ensures (decodes c.args.letter.now (λ k. (c.type_inv.letter k).fits));
    }
