use Rattle.std.proofs.Common.{eqb, rules, refl, ◌∙◌}
use Rattle.std.proofs.lemmas.Iterator.{YieldsList-from_slice}
use Rattle.std.proofs.lemmas.Iterator.Search.{position_from_yields_List}
use Rattle.pieces.specs.Cuts.{before}
use Rattle.pieces.proofs.Finds.{first_or_length, before_next}
use Rattle.pieces.proofs.bytes.find.Goals as goal

pub returns-clause-value : goal.returns-clause-value
returns-clause-value c =
    c.unwrap_or.ensures ∙
    first_or_length (before c.args.b) (λ x. eqb x c.args.b) refl (before_next c.args.b) c.args.bytes.now _
    (position_from_yields_List (λ x. eqb x c.args.b) _ _ _ c.position.ensures.ran
    (YieldsList-from_slice c.args.bytes.now (cc)) (λ x b q k. search rules))
