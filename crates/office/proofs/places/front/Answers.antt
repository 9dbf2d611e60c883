use Rattle.std.proofs.Common.{is_none, refl, rules, ap, sym, ◌∙◌}
use Rattle.std.specs.Option.{unwrap_or}
use Rattle.std.proofs.lemmas.Iterator.{YieldsList-from_slice}
use Rattle.std.proofs.lemmas.Iterator.Search.{position_from_yields_List}
use Rattle.pieces.proofs.Finds.{first_or_length}
use Rattle.letter.specs.declared.letter.Letter.{Letter}
use Rattle.office.specs.Wholes.{front}
use Rattle.office.proofs.Fronts.{front_next}
use Rattle.office.proofs.places.front.Goals as goal

pub returns-clause-value : goal.returns-clause-value
returns-clause-value c =
    let ps = c.args.letters.now in
    c.unwrap_or.ensures ∙ ap (unwrap_or c.position.result) (sym c.told-letters) ∙
    first_or_length (front {A = Letter}) is_none refl front_next ps _
    (position_from_yields_List is_none _ _ _ c.position.ensures.ran (YieldsList-from_slice ps (cc)) (λ x b q k. search rules))
