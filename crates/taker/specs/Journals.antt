-- The journal: its page is, for each letter that it took, the letter's length and then its bytes.
use Rattle.std.specs.Prelude.{◌≡◌, ℕ, ◌+◌, ◌≤◌, true, false, cond, ◌&&◌, List, [], ◌∷◌, ◌++◌, length, Some, None, vec_items, Option, nat_le, nat_lt, slice_index}
use Rattle.std.specs.List.{AllByRecursion}
use Rattle.std.proofs.Common.{ap}
use Rattle.std.proofs.lemmas.Bool.{cond-false}
use Rattle.letter.specs.Letters.{is_letter}
use Rattle.taker.specs.Steps.{Page, all_taken}
use Rattle.taker.specs.declared.journal.Journal.{Journal}

abbrev pub entry : List ℕ → List ℕ
entry letter = length letter ∷ letter

-- the entries of these letters, in order
abbrev pub entries : List (List ℕ) → List ℕ
entries [] = []
entries (l ∷ ls) = entry l ++ entries ls

abbrev pub journal_page : Journal → Page
journal_page j = vec_items j.numbers

-- the page with the letter's entry behind it, if that has at most 4,096 numbers
abbrev pub journal_step : Page → List ℕ → Option Page
journal_step page letter =
    cond (is_letter letter && nat_le (length page + (1 + length letter)) 4096) (Some (page ++ entry letter)) None

-- it gives no page for what is no letter
pub sized_of_journal : (before bytes : List ℕ) → is_letter bytes ≡ false → journal_step before bytes ≡ None
sized_of_journal before bytes e =
    cond-false _ _ _ (ap (λ b. b && nat_le (length before + (1 + length bytes)) 4096) e)

-- number i of a page, from 0, or none past the last
abbrev pub number_at : Page → ℕ → Option ℕ
number_at page i = cond (nat_lt i (length page)) (Some (slice_index page i)) None

-- Over whole runs: a new journal that took these letters shows their entries and nothing else,
-- and it takes them all exactly where each is a letter and their entries have at most 4,096 numbers.
pub record ShowsEntries : Type 0 where
  pub only : (ls : List (List ℕ)) (page : Page) → all_taken journal_step (Some []) ls ≡ Some page → page ≡ entries ls
  pub takes :
      (ls : List (List ℕ)) →
      AllByRecursion (λ l. is_letter l ≡ true) ls →
      length (entries ls) ≤ 4096 →
      all_taken journal_step (Some []) ls ≡ Some (entries ls)
  pub fits :
      (ls : List (List ℕ)) (page : Page) →
      all_taken journal_step (Some []) ls ≡ Some page →
      AllByRecursion (λ l. is_letter l ≡ true) ls × (length (entries ls) ≤ 4096)
