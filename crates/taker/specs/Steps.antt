-- What a step says of the call that makes it, and of many such calls one after another.
-- A step gives, for a page and a letter, the next page or none.
use Rattle.std.specs.Prelude.{◌≡◌, ℕ, List, [], ◌∷◌, Some, None, Ok, Err, Option, Result}
use Rattle.taker.specs.declared.refusal.TakerRefusal.{TakerRefusal}
use Rattle.taker.specs.declared.refusal.TakerRefusal.TheVariants.{NoPage}

abbrev pub Page : Type 0
Page = List ℕ

abbrev pub Step : Type 0
Step = Page → List ℕ → Option Page

-- what take answers, by what the step gave
abbrev pub answer : Option Page → Result Unit TakerRefusal
answer (Some next) = Ok tt
answer None = Err NoPage

-- the page after it, by what the step gave and the page before
abbrev pub page_after : Option Page → Page → Page
page_after (Some next) before = next
page_after None before = before

-- what a call answered and left, where its step gave this
pub record Follows (given : Option Page) (before : Page) (r : Result Unit TakerRefusal) (after : Page) : Type 0 where
  pub value : r ≡ answer given
  pub left : after ≡ page_after given before

-- take made the step
abbrev pub Takes : Step → Page → List ℕ → Result Unit TakerRefusal → Page → Type 0
Takes step before letter r after = Follows (step before letter) before r after

-- the page after all these letters, in order; none where the step gives none for one of them
abbrev pub all_taken : Step → Option Page → List (List ℕ) → Option Page
all_taken step None letters = None
all_taken step (Some page) [] = Some page
all_taken step (Some page) (l ∷ ls) = all_taken step (step page l) ls
