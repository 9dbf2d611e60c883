-- What is promised of every run from a fresh line, over every transport and every taker.
use Rattle.std.specs.Prelude.{◌≡◌, ℕ, ◌+◌, ◌≤◌, true, List, [], ◌∷◌, take, Some, Ok}
use Rattle.answer.specs.Refusals.{refused_by}
use Rattle.frame.specs.Meanings.{sequence}
use Rattle.grammar.specs.Grammar as grammar
use Rattle.office.specs.Accepted.{is_accepted}
use Rattle.office.specs.Wholes.{Whole}
use Rattle.planner.specs.Laws.{receipted}
use Rattle.planner.specs.declared.state.PlannerState.TheVariants as planner-state
use Rattle.taker.specs.Steps.{Page, all_taken}
use Rattle.transport.specs.Meaning.{Bytes}
use Rattle.protocol.specs.Calls as call
use Rattle.protocol.specs.Calls.{Event}
use Rattle.protocol.specs.Lines.{Over, Line, Fresh}
use Rattle.protocol.specs.Runs.{Run}
use Rattle.protocol.specs.Tallies.{tally, tallied, tallied_d, written, delivered, up_to}

-- the tally has not failed, and its count and page are the line's: the page is the first page with letters 1 to d
-- applied as they were written, each once and in order, and the delivers answered 1 to d in order
pub record Delivered (w : Over) (first : Page) (es : List Event) (L : Line) : Type 0 where
  pub tally : tallied w.step first es ≡ tally (written es) L.office.delivered L.page
  pub page : all_taken w.step (Some first) (take L.office.delivered (written es)) ≡ Some L.page
  pub numbers : delivered es ≡ up_to L.office.delivered

-- refusals 6, 7 and 8 have never come
abbrev pub NeverAstray : List Event → Type 0
NeverAstray [] = Unit {0}
NeverAstray (e ∷ es) = (6 ≤ refused_by e.answer → refused_by e.answer ≤ 8 → ⊥) × NeverAstray es

-- every letter that was read had a place, by the tally's count before it
abbrev pub Placed : Over → Page → List Event → Type 0
Placed w first [] = Unit {0}
Placed w first (e ∷ es) =
    ((frame : Bytes) (i n : ℕ) (l : List ℕ) →
    e.call ≡ call.reading →
    e.got ≡ Some frame →
    grammar.reading frame ≡ Ok (sequence i n l) →
    n ≤ tallied_d (tallied w.step first es) + 8) ×
    Placed w first es

pub record Honest (w : Over) (first : Page) (es : List Event) (L : Line) : Type 0 where
  -- only accepted numbers have receipts
  pub receipts : (n : ℕ) → 1 ≤ n → receipted L.planner n ≡ true → is_accepted L.office n ≡ true
  pub never : NeverAstray es
  pub placed : Placed w first es
  -- once the planner's end is Ended with a receipt for every letter written, the office's end is whole
  pub whole :
      L.planner.state ≡ planner-state.Ended →
      ((n : ℕ) → 1 ≤ n → n ≤ L.planner.written → receipted L.planner n ≡ true) →
      Whole L.office

-- both, of a run that led to this line
pub record Safe (w : Over) (first : Page) (es : List Event) (L : Line) : Type 0 where
  pub delivered : Delivered w first es L
  pub honest : Honest w first es L

abbrev pub RunsAreSafe : Type 0
RunsAreSafe = (w : Over) (first L : Line) (es : List Event) → Fresh first → Run w first es L → Safe w first.page es L
