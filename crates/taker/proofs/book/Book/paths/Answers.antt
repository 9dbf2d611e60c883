use Rattle.std.proofs.Common.{vec_items, sym, ◌∙◌}
use Rattle.taker.proofs.Pages.{shown_paths}
use Rattle.taker.proofs.book.Book.paths.Goals as goal

pub returns : goal.returns
returns c = c.as_slice.ensures ∙ sym (shown_paths c.args.self.now.spoilt (vec_items c.args.self.now.paths.items))
