use Rattle.std.proofs.Common.{rules}
use Rattle.std.proofs.lemmas.List.Sorted.{answers_always}
use Rattle.taker.proofs.Spots.{searched}
use Rattle.taker.proofs.book.paths.search.Goals as goal

-- `key` gives a path's train and section
pub returns-clause-value : goal.returns-clause-value
returns-clause-value c =
    let facts = c.binary_search_by_key.ensures in
    let by_key = facts.position (λ p. (p.train, p.section)) (answers_always _ _ _ (λ f a r g called. search rules)) in
    searched c.args.train c.args.section c.args.paths.now c.requires _ facts.bound by_key
