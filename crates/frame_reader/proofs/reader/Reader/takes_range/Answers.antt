use Rattle.std.proofs.Common.{◌≡◌, true, [], ◌∷◌, ◌++◌, length, sym, ap, ◌∙◌}
use Rattle.std.proofs.lemmas.List.{length_push}
use Rattle.frame.specs.Ascending.{follows}
use Rattle.frame.specs.Listed.{listed}
use Rattle.frame.proofs.Ascents.{follows_parts}
use Rattle.grammar.specs.Kinds.{range_behind}
use Rattle.grammar.specs.Trees.{walk}
use Rattle.frame_reader.proofs.Steps.{on_read, near_range}
use Rattle.frame_reader.proofs.reader.Reader.takes_range.Goals as goal

pub returns : goal.returns
returns c =
    let rs = listed c.args.ranges.now in
    let x = c.in-Some.range in
    let follow : follows rs x ≡ true = sym c.if-not-push.ensures.done in
    let list : listed c.push.new.self ≡ rs ++ (x ∷ []) = c.if-not-push.ensures.list in
    record {
      way = λ k h.
          on_read (range_behind rs) x _ _ _ (near_range rs c.args.self.now.rest.now x c.in-Some.ensures.0 follow) c.in-Some.ensures.1 _ h ∙
          ap (λ ys. walk c.args.self.now.whole (k ys) c.in-Some.rest.now) (sym list);
      more = ap length list ∙ length_push rs x;
      room = (follows_parts rs x follow).0;
    }
