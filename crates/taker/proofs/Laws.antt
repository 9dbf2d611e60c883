-- The laws of the book, from its step: which path is held for which pair after each letter.
use Rattle.std.proofs.Common.{◌≡◌, ℕ, ◌≤◌, Bool, true, false, cond, List, length, Some, None, Option, Result, sym, refl, ap, ◌∙◌, arith}
use Rattle.std.proofs.lemmas.Bool.{or_parts, ltb-false, true≢false}
use Rattle.letter.specs.Changes.{decoded}
use Rattle.letter.specs.Letters.{is_letter}
use Rattle.letter.specs.declared.change.Change.{Change}
use Rattle.letter.specs.declared.change.Change.TheVariants.{Put, Withdrawal}
use Rattle.letter.specs.declared.change.Path.{Path}
use Rattle.taker.specs.BookLaws.{held_on, PutDone, WithdrawalDone, SpoiltCounted, Done, NoPlace, Taken, Ordered}
use Rattle.taker.specs.Books.{page_of, one_more, stepped, book_step}
use Rattle.taker.specs.Paths.{look, put, without, ascending, has_place}
use Rattle.taker.specs.Steps.{Page, Takes, answer, page_after}
use Rattle.taker.specs.declared.refusal.TakerRefusal.{TakerRefusal}
use Rattle.taker.proofs.Lookups.{none_held, put_holds, put_others, without_gone, without_others}
use Rattle.taker.proofs.Pages.{shown_paths, step_is}

-- what the page of these paths shows for a pair is what they hold for it
shown : (n : ℕ) (ps : List Path) (t s : ℕ) → held_on (page_of n ps) t s ≡ look t s ps
shown n ps t s = ap (look t s) (shown_paths n ps)

put_done : (n : ℕ) (ps : List Path) (p : Path) → PutDone p (page_of n ps) (page_of n (put p ps))
put_done n ps p =
    record {
      held = shown n (put p ps) p.train p.section ∙ put_holds p ps;
      others = λ t s other. shown n (put p ps) t s ∙ put_others t s p other ps ∙ sym (shown n ps t s);
      count = refl;
    }

withdrawal_done : (n : ℕ) (ps : List Path) (u v : ℕ) → ascending ps ≡ true → WithdrawalDone u v (page_of n ps) (page_of n (without u v ps))
withdrawal_done n ps u v a =
    record {
      gone = shown n (without u v ps) u v ∙ without_gone u v ps a;
      others = λ t s other. shown n (without u v ps) t s ∙ without_others t s u v other ps ∙ sym (shown n ps t s);
      count = refl;
    }

spoilt_counted : (n : ℕ) (ps : List Path) → SpoiltCounted (page_of n ps) (page_of (one_more n) ps)
spoilt_counted n ps = record { paths = refl; count = refl }

no_place : (n : ℕ) (ps : List Path) (p : Path) → length ps ≤ 32 → has_place p ps ≡ false → NoPlace (Some (Put p)) (page_of n ps)
no_place n ps p few e =
    let parts = or_parts _ _ e in
    let full = ltb-false _ _ parts.1 in
    let same = ap length (shown_paths n ps) in
    (shown n ps p.train p.section ∙ none_held _ parts.0, omega arith)

-- by what the step gave for a letter
module _ (n : ℕ) (ps : List Path) (letter : List ℕ) (a : ascending ps ≡ true) (few : length ps ≤ 32) where
  abbrev Outcome : Option Change → Option Page → Type 0
  Outcome change (Some after) = Done change (page_of n ps) after
  Outcome change None = NoPlace change (page_of n ps)

  put_outcome : (p : Path) (b : Bool) → has_place p ps ≡ b → Outcome (Some (Put p)) (cond b (Some (page_of n (put p ps))) None)
  put_outcome p true e = put_done n ps p
  put_outcome p false e = no_place n ps p few e

  outcome : (change : Option Change) → Outcome change (stepped n ps change)
  outcome (Some (Put p)) = put_outcome p (has_place p ps) refl
  outcome (Some (Withdrawal t s)) = withdrawal_done n ps t s a
  outcome None = spoilt_counted n ps

  taken_by :
      (o : Option Page) →
      is_letter letter ≡ true →
      Outcome (decoded letter) o →
      Taken letter (page_of n ps) (answer o) (page_after o (page_of n ps))
  taken_by (Some after) is done = (is, done)
  taken_by None is why = record { same_page = refl; why = λ _. why }

  step_taken :
      (b : Bool) →
      is_letter letter ≡ b →
      Taken letter (page_of n ps) (answer (cond b (stepped n ps (decoded letter)) None))
      (page_after (cond b (stepped n ps (decoded letter)) None) (page_of n ps))
  step_taken true is = taken_by (stepped n ps (decoded letter)) is (outcome (decoded letter))
  step_taken false is = record { same_page = refl; why = λ e. absurd (true≢false (sym e ∙ is)) }

  -- what take answers and leaves, as its step says, keeps the laws
  pub taken :
      (r : Result (Unit {0}) TakerRefusal) (after : Page) →
      Takes book_step (page_of n ps) letter r after →
      Taken letter (page_of n ps) r after
  taken r after e =
      let step : book_step (page_of n ps) letter ≡ cond (is_letter letter) (stepped n ps (decoded letter)) None =
      ap (λ o. cond (is_letter letter) o None) (step_is n ps (decoded letter)) in
      rw (e.value, e.left, step) (step_taken (is_letter letter) refl)

pub ordered : (n : ℕ) (ps : List Path) → ascending ps ≡ true → length ps ≤ 32 → Ordered (page_of n ps)
ordered n ps a few =
    let same = ap length (shown_paths n ps) in
    record { pairs = ap ascending (shown_paths n ps) ∙ a; few = omega arith }
