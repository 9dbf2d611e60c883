use Rattle.std.proofs.Common.{◌≤◌, length, vec_items, arith}
use Rattle.taker.proofs.LastWords.{holds_last_word}
use Rattle.taker.proofs.Laws.{taken, ordered}
use Rattle.taker.proofs.book.calls.BookTaker.take.Goals as goal

pub returns : goal.returns
returns c =
    let before = c.args.self.now in
    let after = c.follow.new.self in
    let few : length (vec_items before.paths.items) ≤ 32 = omega (arith, before.paths.items.ok.0, before.paths.few) in
    let few_after : length (vec_items after.paths.items) ≤ 32 = omega (arith, after.paths.items.ok.0, after.paths.few) in
    record {
      step = c.follow.ensures;
      laws =
          taken before.spoilt (vec_items before.paths.items) c.args.letter.now before.paths.ordered few
          c.follow.result _ c.follow.ensures;
      ordered = ordered after.spoilt (vec_items after.paths.items) after.paths.ordered few_after;
      runs = holds_last_word;
    }
