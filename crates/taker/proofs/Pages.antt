-- The page of a book shows its count and its paths, and the book's step at its page.
use Rattle.std.proofs.Common.{◌≡◌, ℕ, Bool, true, false, cond, List, [], ◌∷◌, is_ok, Some, None, Ok, Err, Option, Result, sym, refl, ap}
use Rattle.std.proofs.lemmas.Bool.{both_ways}
use Rattle.letter.specs.declared.change.Change.{Change}
use Rattle.letter.specs.declared.change.Path.{Path}
use Rattle.taker.specs.declared.refusal.TakerRefusal.{TakerRefusal}
use Rattle.taker.specs.declared.refusal.TakerRefusal.TheVariants.{NoPage}
use Rattle.taker.specs.Books.{page_of, paths_of, stepped, change_step}
use Rattle.taker.specs.Steps.{Page, answer, page_after}

pub shown_paths : (n : ℕ) (ps : List Path) → paths_of (page_of n ps) ≡ ps
shown_paths n [] = refl
shown_paths n (p ∷ ps) = ap (λ l. p ∷ l) (shown_paths n ps)

pub step_is : (n : ℕ) (ps : List Path) (change : Option Change) → change_step (page_of n ps) change ≡ stepped n ps change
step_is n ps change = ap (λ l. stepped n l change) (shown_paths n ps)

-- an answer by a test, and what it leaves

pub answer_is :
    (r : Result (Unit {0}) TakerRefusal) (b : Bool) (next : Page) →
    is_ok r ≡ b →
    r ≡ answer (cond b (Some next) None)
answer_is (Ok u) true next e = refl
answer_is (Ok u) false next e = absurd (both_ways true e refl)
answer_is (Err NoPage) true next e = absurd (both_ways true (sym e) refl)
answer_is (Err NoPage) false next e = refl

pub after_is :
    (n : ℕ) (b : Bool) (xs ys : List Path) →
    page_of n (cond b xs ys) ≡ page_after (cond b (Some (page_of n xs)) None) (page_of n ys)
after_is n true xs ys = refl
after_is n false xs ys = refl
