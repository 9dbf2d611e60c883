-- What becomes of one line: of the bytes that it writes in hex, by the book's step at the page before it.
use Rattle.std.specs.Prelude.{◌≡◌, ℕ, List, Some, None, Ok, Err, Option, Result}
use Rattle.letter.specs.Changes.{decoded}
use Rattle.letter.specs.declared.change.Change.{Change}
use Rattle.taker.specs.Books.{book_step}
use Rattle.taker.specs.Steps.{Page, answer, page_after}
use Rattle.taker.specs.declared.refusal.TakerRefusal.{TakerRefusal}
use Rattle.book_report.specs.declared.outcome.Outcome.{Outcome}
use Rattle.book_report.specs.declared.outcome.Outcome.TheVariants.{Done, Spoilt, Refused, NotHex}

-- by what take answered, and the change that the letter decodes to
abbrev pub taken_as : Result (Unit {0}) TakerRefusal → Option Change → Outcome
taken_as (Err why) change = Refused
taken_as (Ok u) (Some change) = Done change
taken_as (Ok u) None = Spoilt

abbrev pub outcome_of : Page → Option (List ℕ) → Outcome
outcome_of page None = NotHex
outcome_of page (Some letter) = taken_as (answer (book_step page letter)) (decoded letter)

abbrev pub page_left : Page → Option (List ℕ) → Page
page_left page None = page
page_left page (Some letter) = page_after (book_step page letter) page

-- a line that writes these bytes, or none, was handled
pub record Handled (before : Page) (line : Option (List ℕ)) (outcome : Outcome) (after : Page) : Type 0 where
  pub value : outcome ≡ outcome_of before line
  pub left : after ≡ page_left before line
