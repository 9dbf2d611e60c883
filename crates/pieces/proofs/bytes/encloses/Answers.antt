use Rattle.std.proofs.Common.{sym, ◌∙◌}
use Rattle.pieces.proofs.Strips.{strip_is, same_behind, none_behind}
use Rattle.pieces.proofs.bytes.encloses.Goals as goal

pub returns-in_default : goal.returns-in_default
returns-in_default c = sym (none_behind c.args.before.now c.args.part.now (sym c.in_default.ensures) _)

pub returns-in_default-strip : goal.returns-in_default-strip
returns-in_default-strip c =
    let inner = c.in-Some.inner.now in
    sym (same_behind _ _ inner (strip_is c.args.before.now c.args.part.now inner (sym c.in-Some.ensures)) _ ∙
    none_behind c.args.name.now inner (sym c.in_default-strip.ensures) _)

pub returns : goal.returns
returns c =
    let inner = c.in-Some.inner.now in
    let end = c.in-Some-strip.end.now in
    c.eq.ensures ∙
    sym (same_behind _ _ inner (strip_is c.args.before.now c.args.part.now inner (sym c.in-Some.ensures)) _ ∙
    same_behind _ _ end (strip_is c.args.name.now inner end (sym c.in-Some-strip.ensures)) _)
