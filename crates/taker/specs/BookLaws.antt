-- What a letter does to the book, in the book's own words: which path is held for which train and section.
-- These laws and the order of the paths fix the page after each letter; they do not say how it is found.
use Rattle.std.specs.Prelude.{◌≡◌, ℕ, ◌≤◌, true, cond, ◌&&◌, List, [], ◌∷◌, length, Some, None, Ok, Err, Option, Result, ◌==◌}
use Rattle.letter.specs.Changes.{decoded}
use Rattle.letter.specs.Letters.{is_letter}
use Rattle.letter.specs.declared.change.Change.{Change}
use Rattle.letter.specs.declared.change.Change.TheVariants.{Put, Withdrawal}
use Rattle.letter.specs.declared.change.Path.{Path}
use Rattle.taker.specs.Books.{book_step, count_of, paths_of, one_more}
use Rattle.taker.specs.Paths.{look, same, ascending}
use Rattle.taker.specs.Steps.{Page, all_taken}
use Rattle.taker.specs.declared.refusal.TakerRefusal.{TakerRefusal}

-- the path that the page shows for this train and section
abbrev pub held_on : Page → ℕ → ℕ → Option Path
held_on page train section = look train section (paths_of page)

-- for every other train and section the page shows what it showed before
abbrev pub Others : ℕ → ℕ → Page → Page → Type 0
Others train section before after =
    (t s : ℕ) → ((t ≡ train) × (s ≡ section) → ⊥) → held_on after t s ≡ held_on before t s

pub record PutDone (p : Path) (before after : Page) : Type 0 where
  pub held : held_on after p.train p.section ≡ Some p
  pub others : Others p.train p.section before after
  pub count : count_of after ≡ count_of before

pub record WithdrawalDone (train section : ℕ) (before after : Page) : Type 0 where
  pub gone : held_on after train section ≡ None
  pub others : Others train section before after
  pub count : count_of after ≡ count_of before

pub record SpoiltCounted (before after : Page) : Type 0 where
  pub paths : paths_of after ≡ paths_of before
  pub count : count_of after ≡ one_more (count_of before)

abbrev pub Done : Option Change → Page → Page → Type 0
Done (Some (Put p)) before after = PutDone p before after
Done (Some (Withdrawal train section)) before after = WithdrawalDone train section before after
Done None before after = SpoiltCounted before after

-- of letters, only a put of a pair that is not held while 32 paths are held is turned away
abbrev pub NoPlace : Option Change → Page → Type 0
NoPlace (Some (Put p)) before = (held_on before p.train p.section ≡ None) × (length (paths_of before) ≡ 32)
NoPlace (Some (Withdrawal train section)) before = ⊥
NoPlace None before = ⊥

pub record TurnedAway (letter : List ℕ) (before after : Page) : Type 0 where
  pub same_page : after ≡ before
  pub why : is_letter letter ≡ true → NoPlace (decoded letter) before

-- by what take answered
abbrev pub Taken : List ℕ → Page → Result (Unit {0}) TakerRefusal → Page → Type 0
Taken letter before (Ok u) after = (is_letter letter ≡ true) × Done (decoded letter) before after
Taken letter before (Err e) after = TurnedAway letter before after

-- what every page of a book shows
pub record Ordered (page : Page) : Type 0 where
  pub pairs : ascending (paths_of page) ≡ true
  pub few : length (paths_of page) ≤ 32

-- Over whole runs. A letter says of a train and section that this path is held, that none is, or nothing.
abbrev pub said : ℕ → ℕ → Option Change → Option Path → Option Path
said train section (Some (Put p)) before = cond (same train section p) (Some p) before
said train section (Some (Withdrawal t s)) before = cond (t == train && s == section) None before
said train section None before = before

-- the last word of these letters on a train and section, after what was held before
abbrev pub last_word : ℕ → ℕ → Option Path → List (List ℕ) → Option Path
last_word train section before [] = before
last_word train section before (l ∷ ls) = last_word train section (said train section (decoded l) before) ls

-- Whatever letters a new book took, it holds for each train and section what the last of them said of it:
-- a path that was withdrawn is held again only if a later letter puts it.
abbrev pub HoldsLastWord : Type 0
HoldsLastWord =
    (ls : List (List ℕ)) (page : Page) →
    all_taken book_step (Some (0 ∷ [])) ls ≡ Some page →
    (train section : ℕ) →
    held_on page train section ≡ last_word train section None ls
