-- The book: its page is the count of spoilt letters and then the paths that it holds, each as its four numbers.
use Rattle.std.specs.Prelude.{◌≡◌, ℕ, ◌+◌, min, false, cond, List, [], ◌∷◌, Some, None, vec_items, Option}
use Rattle.std.specs.List.{flat_map}
use Rattle.std.proofs.lemmas.Bool.{cond-false}
use Rattle.letter.specs.Changes.{decoded}
use Rattle.letter.specs.Letters.{is_letter}
use Rattle.letter.specs.declared.change.Change.{Change}
use Rattle.letter.specs.declared.change.Change.TheVariants.{Put, Withdrawal}
use Rattle.letter.specs.declared.change.Path.{Path}
use Rattle.taker.specs.Paths.{has_place, put, without}
use Rattle.taker.specs.Steps.{Page}
use Rattle.taker.specs.declared.book.Book.{Book}

abbrev pub four_numbers : Path → List ℕ
four_numbers p = p.train ∷ p.section ∷ p.enter ∷ p.leave ∷ []

abbrev pub page_of : ℕ → List Path → Page
page_of count paths = count ∷ flat_map four_numbers paths

-- one spoilt letter more; the count stops at 2⁶³ - 1
abbrev pub one_more : ℕ → ℕ
one_more count = min (count + 1) 9223372036854775807

-- what a letter makes of the count and the paths, by the change that it decodes to; none is a spoilt letter
abbrev pub stepped : ℕ → List Path → Option Change → Option Page
stepped count paths (Some (Put p)) = cond (has_place p paths) (Some (page_of count (put p paths))) None
stepped count paths (Some (Withdrawal train section)) = Some (page_of count (without train section paths))
stepped count paths None = Some (page_of (one_more count) paths)

-- the count that a page shows
abbrev pub count_of : Page → ℕ
count_of [] = 0
count_of (count ∷ numbers) = count

-- the paths of these numbers, by fours
abbrev pub paths_by_fours : List ℕ → List Path
paths_by_fours [] = []
paths_by_fours (t ∷ []) = []
paths_by_fours (t ∷ s ∷ []) = []
paths_by_fours (t ∷ s ∷ e ∷ []) = []
paths_by_fours (t ∷ s ∷ e ∷ l ∷ numbers) =
    record { train = t; section = s; enter = e; leave = l } ∷ paths_by_fours numbers

-- the paths that a page shows
abbrev pub paths_of : Page → List Path
paths_of [] = []
paths_of (count ∷ numbers) = paths_by_fours numbers

-- the same of a page
abbrev pub change_step : Page → Option Change → Option Page
change_step page change = stepped (count_of page) (paths_of page) change

abbrev pub book_step : Page → List ℕ → Option Page
book_step page letter = cond (is_letter letter) (change_step page (decoded letter)) None

-- it gives no page for what is no letter
pub sized_of_book : (before bytes : List ℕ) → is_letter bytes ≡ false → book_step before bytes ≡ None
sized_of_book before bytes e = cond-false _ _ _ e

abbrev pub book_page : Book → Page
book_page b = page_of b.spoilt (vec_items b.paths.items)
