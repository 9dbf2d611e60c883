use Rattle.std.proofs.Common.{Some, vec_items, sym, ap, ◌∙◌}
use Rattle.letter.specs.declared.change.Change.TheVariants.{Put}
use Rattle.taker.specs.Books.{page_of, book_page}
use Rattle.taker.specs.Steps.{answer, page_after}
use Rattle.taker.proofs.Pages.{step_is, answer_is, after_is}
use Rattle.taker.proofs.book.Book.put.Goals as goal

pub returns : goal.returns
returns c =
    let step = step_is c.args.self.now.spoilt (vec_items c.args.self.now.paths.items) (Some (Put c.args.p)) in
    record {
      value = answer_is c.put.result _ _ c.put.ensures.value ∙ sym (ap answer step);
      left =
          ap (page_of c.args.self.now.spoilt) c.put.ensures.items ∙ after_is _ _ _ _ ∙
          sym (ap (λ o. page_after o (book_page c.args.self.now)) step);
    }
