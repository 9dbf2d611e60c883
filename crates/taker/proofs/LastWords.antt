-- A new book holds for each pair the last word of the letters that it took, over any run.
use Rattle.std.proofs.Common.{◌≡◌, ℕ, Bool, true, false, cond, ◌&&◌, eqb, List, [], ◌∷◌, Some, None, Option, sym, refl, ap, ◌∙◌, arith}
use Rattle.std.proofs.lemmas.Bool.{and_parts, and_from, eqb-true, eq-eqb, true≢false}
use Rattle.letter.specs.Changes.{decoded}
use Rattle.letter.specs.Letters.{is_letter}
use Rattle.letter.specs.declared.change.Change.{Change}
use Rattle.letter.specs.declared.change.Change.TheVariants.{Put, Withdrawal}
use Rattle.letter.specs.declared.change.Path.{Path}
use Rattle.taker.specs.BookLaws.{held_on, said, last_word, HoldsLastWord}
use Rattle.taker.specs.Books.{page_of, one_more, stepped, book_step}
use Rattle.taker.specs.Paths.{same, look, put, without, ascending, has_place}
use Rattle.taker.specs.Steps.{Page, all_taken}
use Rattle.taker.proofs.Lookups.{put_holds, put_others, without_gone, without_others}
use Rattle.taker.proofs.Orders.{ascending_put, ascending_without}
use Rattle.taker.proofs.Pages.{shown_paths, step_is}

-- what is held for a pair after a change is what the change said of it

put_said : (t s : ℕ) (p : Path) (ps : List Path) (b : Bool) → same t s p ≡ b → look t s (put p ps) ≡ cond b (Some p) (look t s ps)
put_said t s p ps true e =
    let parts = and_parts _ _ e in
    ap (λ u. look u s (put p ps)) (sym (eqb-true _ _ parts.0)) ∙
    ap (λ v. look p.train v (put p ps)) (sym (eqb-true _ _ parts.1)) ∙
    put_holds p ps
put_said t s p ps false e =
    put_others t s p (λ both. true≢false (sym (and_from _ _ (eq-eqb _ _ (sym both.0)) (eq-eqb _ _ (sym both.1))) ∙ e)) ps

withdrawal_said :
    (t s u v : ℕ) (ps : List Path) (b : Bool) →
    (eqb u t && eqb v s) ≡ b →
    ascending ps ≡ true →
    look t s (without u v ps) ≡ cond b None (look t s ps)
withdrawal_said t s u v ps true e a =
    let parts = and_parts _ _ e in
    ap (λ x. look x s (without u v ps)) (sym (eqb-true _ _ parts.0)) ∙
    ap (λ y. look u y (without u v ps)) (sym (eqb-true _ _ parts.1)) ∙
    without_gone u v ps a
withdrawal_said t s u v ps false e a =
    without_others t s u v (λ both. true≢false (sym (and_from _ _ (eq-eqb _ _ (sym both.0)) (eq-eqb _ _ (sym both.1))) ∙ e)) ps

-- the next page is again one of a count and paths in order, which hold what was said
record Next (ps : List Path) (change : Option Change) (next : Page) : Type 0 where
  count : ℕ
  paths : List Path
  is : next ≡ page_of count paths
  ordered : ascending paths ≡ true
  holds : (t s : ℕ) → look t s paths ≡ said t s change (look t s ps)

abbrev NextIf : List Path → Option Change → Option Page → Type 0
NextIf ps change None = Unit {0}
NextIf ps change (Some next) = Next ps change next

module _ (n : ℕ) (ps : List Path) (a : ascending ps ≡ true) where
  next_put : (p : Path) (b : Bool) → NextIf ps (Some (Put p)) (cond b (Some (page_of n (put p ps))) None)
  next_put p true =
      record {
        count = n;
        paths = put p ps;
        is = refl;
        ordered = ascending_put p ps a;
        holds = λ t s. put_said t s p ps (same t s p) refl;
      }
  next_put p false = tt

  next_of : (change : Option Change) → NextIf ps change (stepped n ps change)
  next_of (Some (Put p)) = next_put p (has_place p ps)
  next_of (Some (Withdrawal u v)) =
      record {
        count = n;
        paths = without u v ps;
        is = refl;
        ordered = ascending_without u v ps a;
        holds = λ t s. withdrawal_said t s u v ps (eqb u t && eqb v s) refl a;
      }
  next_of None = record { count = one_more n; paths = ps; is = refl; ordered = a; holds = λ t s. refl }

-- the page at the end shows the last words of the letters, after what these paths hold
abbrev Shows : Page → List (List ℕ) → List Path → Type 0
Shows page ls ps = (t s : ℕ) → held_on page t s ≡ last_word t s (look t s ps) ls

abbrev Taken : Page → List (List ℕ) → Option Page → Type 0
Taken page ls step = all_taken book_step step ls ≡ Some page

-- no page comes after none
never : (page : Page) (ls : List (List ℕ)) → Taken page ls None → ⊥
never page [] e = let z : ◌≡◌ {A = ℕ} 0 1 = cc in omega arith
never page (l ∷ ls) e = let z : ◌≡◌ {A = ℕ} 0 1 = cc in omega arith

-- where the step gave this, and the rest of the letters show their last words after any paths
module _
    (page : Page) (ls : List (List ℕ))
    (rest : (n : ℕ) (ps : List Path) → ascending ps ≡ true → Taken page ls (Some (page_of n ps)) → Shows page ls ps) where
  after_step :
      (ps : List Path) (l : List ℕ) (step : Option Page) →
      NextIf ps (decoded l) step →
      Taken page ls step →
      Shows page (l ∷ ls) ps
  after_step ps l None next e = absurd (never page ls e)
  after_step ps l (Some q) next e =
      let there : Taken page ls (Some (page_of next.count next.paths)) =
      ap (λ x. all_taken book_step (Some x) ls) (sym next.is) ∙ e in
      λ t s. rest next.count next.paths next.ordered there t s ∙ ap (λ o. last_word t s o ls) (next.holds t s)

  after_letter :
      (n : ℕ) (ps : List Path) (l : List ℕ) (b : Bool) →
      ascending ps ≡ true →
      Taken page ls (cond b (stepped n ps (decoded l)) None) →
      Shows page (l ∷ ls) ps
  after_letter n ps l true a e = after_step ps l (stepped n ps (decoded l)) (next_of n ps a (decoded l)) e
  after_letter n ps l false a e = absurd (never page ls e)

runs :
    (page : Page) (ls : List (List ℕ)) (n : ℕ) (ps : List Path) →
    ascending ps ≡ true →
    Taken page ls (Some (page_of n ps)) →
    Shows page ls ps
runs page [] n ps a e =
    let same : page_of n ps ≡ page = cc in
    λ t s. ap (λ x. held_on x t s) (sym same) ∙ ap (look t s) (shown_paths n ps)
runs page (l ∷ ls) n ps a e =
    let step = ap (λ o. all_taken book_step (cond (is_letter l) o None) ls) (step_is n ps (decoded l)) in
    after_letter page ls (runs page ls) n ps l (is_letter l) a (sym step ∙ e)

pub holds_last_word : HoldsLastWord
holds_last_word ls page e = runs page ls 0 [] refl e
