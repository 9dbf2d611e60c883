use Rattle.std.proofs.Common.{Some, vec_items, sym, ap, ◌∙◌}
use Rattle.letter.specs.declared.change.Change.TheVariants.{Withdrawal}
use Rattle.taker.specs.Books.{page_of}
use Rattle.taker.proofs.Pages.{step_is}
use Rattle.taker.proofs.book.Book.withdraw.Goals as goal

pub returns : goal.returns
returns c =
    ap (λ l. Some (page_of c.args.self.now.spoilt l)) c.remove.ensures ∙
    sym (step_is c.args.self.now.spoilt (vec_items c.args.self.now.paths.items)
    (Some (Withdrawal c.args.train c.args.section)))
