use Rattle.std.proofs.Common.{◌≡◌, rules, tests, ltb, ap, ◌∙◌}
use Rattle.std.specs.Option.{option_map}
use Rattle.std.proofs.lemmas.Iterator.{YieldsList-from_slice}
use Rattle.std.proofs.lemmas.Iterator.Search.{find_from_yields_List}
use Rattle.planner.proofs.Ranges.{find_above}
use Rattle.planner.proofs.planner.receipts.upper_above.Goals as goal

pub returns : goal.returns
returns c =
    let found = find_from_yields_List (λ r. ltb c.args.n r.upper) _ _ _ c.find.ensures.ran
    (YieldsList-from_slice c.args.ranges.now (cc)) (λ x b q k. search (rules, tests)) in
    let upper : c.map.result ≡ option_map (λ r. r.upper) (option_map (λ r. r.now) c.find.result) = search (rules, tests) in
    upper ∙ ap (option_map (λ r. r.upper)) found ∙
    find_above c.args.n c.args.ranges.now
