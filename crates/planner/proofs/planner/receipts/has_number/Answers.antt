use Rattle.std.proofs.Common.{rules, tests, ◌&&◌, leb, ◌∙◌}
use Rattle.std.proofs.lemmas.Iterator.{YieldsList-from_slice}
use Rattle.std.proofs.lemmas.Iterator.Search.{any_from_yields_List}
use Rattle.planner.proofs.Ranges.{any_covers}
use Rattle.planner.proofs.planner.receipts.has_number.Goals as goal

pub returns : goal.returns
returns c =
    any_from_yields_List (λ r. leb r.lower c.args.n && leb c.args.n r.upper) _ _ _ c.any.ensures.ran
    (YieldsList-from_slice c.args.ranges.now (cc)) (λ x b q k. search (rules, tests)) ∙
    any_covers c.args.n c.args.ranges.now
