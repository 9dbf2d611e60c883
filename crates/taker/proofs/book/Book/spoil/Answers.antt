use Rattle.std.proofs.Common.{Some, None, vec_items, sym, ap, ◌∙◌}
use Rattle.taker.specs.Books.{page_of}
use Rattle.taker.proofs.Pages.{step_is}
use Rattle.taker.proofs.book.Book.spoil.Goals as goal

pub returns : goal.returns
returns c =
    ap (λ n. Some (page_of n (vec_items c.args.self.now.paths.items))) c.one_more-self.ensures ∙
    sym (step_is c.args.self.now.spoilt (vec_items c.args.self.now.paths.items) None)
