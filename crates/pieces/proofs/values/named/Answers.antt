use Rattle.std.proofs.Common.{rules, tests, ◌∙◌}
use Rattle.std.specs.Str.{bytes_eq}
use Rattle.std.proofs.lemmas.Iterator.{YieldsList-from_slice}
use Rattle.std.proofs.lemmas.Iterator.Search.{find_from_yields_List}
use Rattle.pieces.specs.Names.{fault_name}
use Rattle.pieces.proofs.values.named.Goals as goal

pub returns : goal.returns
returns c =
    c.copied.ensures ∙
    find_from_yields_List (λ code. bytes_eq c.args.text.now (fault_name code)) _ _ _ c.find.ensures.ran
    (YieldsList-from_slice c.args.codes.now (cc)) (λ x b q k. search (rules, tests))
