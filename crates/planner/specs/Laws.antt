-- What holds of the planner's end whatever calls are made, refused or not:
-- its states only move along the arrows, its credit never falls, and a receipt stays.
use Rattle.std.specs.Prelude.{◌≡◌, ℕ, ◌+◌, ◌-◌, ◌<◌, ◌≤◌, Bool, true, false, ◌&&◌, ◌||◌, List, length, is_some, Some, None, Option, ◌==◌, nat_le, nat_lt, slice_index_or}
use Rattle.frame.specs.Meanings.{Meaning}
use Rattle.planner.specs.Hearing.{hears}
use Rattle.planner.specs.Opening.{opens, asks, closes, finishes}
use Rattle.planner.specs.Sending.{Due, due_letter, lowest_due, sends}
use Rattle.planner.specs.Sources.{Source}
use Rattle.planner.specs.States.{rank}
use Rattle.planner.specs.Windows.{FreeFrom, Lowest, free, has_receipt}
use Rattle.planner.specs.Writing.{writes, posts}
use Rattle.planner.specs.declared.state.PlannerState.{PlannerState}
use Rattle.planner.specs.declared.state.PlannerState.TheVariants as state

-- a call of the planner's end, with what it is given; hear by what the frame says
pub data Call : Type 0 where
  opening asking closing finishing : Call
  writing : (bytes : List ℕ) → Call
  posting : (letter : List ℕ) → Call
  sending : (clock : ℕ) → Call
  hearing : (frame : Meaning) → Call

-- what a call leaves
abbrev pub after : Call → Source → Source
after opening s = (opens s).source
after asking s = (asks s).source
after closing s = (closes s).source
after finishing s = (finishes s).source
after (writing bytes) s = (writes bytes s).source
after (posting letter) s = (posts letter s).source
after (sending clock) s = (sends clock s).source
after (hearing frame) s = (hears frame s).source

-- the arrows between the states; every state may stay
abbrev pub arrow : PlannerState → PlannerState → Bool
arrow state.None next = nat_le (rank next) 1
arrow state.Creating next = nat_le (rank next) 2
arrow state.Created next = (nat_le 2 (rank next) && nat_le (rank next) 4) || rank next == 6
arrow state.Closing next = (nat_le 3 (rank next) && nat_le (rank next) 4) || rank next == 6
arrow state.Closed next = nat_le 4 (rank next)
arrow state.Terminating next = nat_le 5 (rank next)
arrow state.Ended next = rank next == 6

abbrev pub MovesAlongArrows : Type 0
MovesAlongArrows = (c : Call) (s : Source) → arrow s.state (after c s).state ≡ true

-- but for a new sequence, which starts at 8, the credit never falls
abbrev pub CreditNeverFalls : Type 0
CreditNeverFalls = (c : Call) (s : Source) → (rank s.state < 2 → s.credit ≤ 8) → s.credit ≤ (after c s).credit

-- number n has a receipt
abbrev pub receipted : Source → ℕ → Bool
receipted s n = nat_lt n s.lowest || (nat_le s.lowest n && has_receipt (slice_index_or s.window (n - s.lowest) free))

-- what every planner's end keeps: eight slots, nothing written past the window, all free behind what is written,
-- and the first number of the window without a receipt
pub record Sound (s : Source) : Type 0 where
  pub whole : length s.window ≡ 8
  pub reached : s.lowest ≤ s.written + 1
  pub near : s.written ≤ s.lowest + 7
  pub rest : FreeFrom (s.written + 1 - s.lowest) s.window
  pub first : Lowest s.window

-- before a sequence is created, an end holds neither identifier nor credit
pub record Uncreated (s : Source) : Type 0 where
  pub nameless : rank s.state < 2 → is_some s.held ≡ false
  pub creditless : rank s.state < 2 → s.credit ≡ 0

abbrev pub ReceiptsStay : Type 0
ReceiptsStay = (c : Call) (s : Source) → Sound s → (n : ℕ) → receipted s n ≡ true → receipted (after c s) n ≡ true

-- b is the lowest number without a receipt, and the highest number written is at most b + 7
pub record IsLowest (s : Source) (b : ℕ) : Type 0 where
  pub without : receipted s b ≡ false
  pub below : (n : ℕ) → n < b → receipted s n ≡ true
  pub near : s.written ≤ b + 7

-- number n is due: its letter has no receipt, it is at most the credit, and it was never sent or last sent
-- at least the gap ago
abbrev pub is_due : ℕ → Source → ℕ → Bool
is_due clock s n =
    nat_le s.lowest n &&
    is_some (due_letter s.gap s.credit clock n (slice_index_or s.window (n - s.lowest) free))

-- the number that send answers is due, and no lower one is; where it answers nothing, none is due
abbrev pub IsLowestDue : ℕ → Source → Option Due → Type 0
IsLowestDue clock s None = (n : ℕ) → is_due clock s n ≡ false
IsLowestDue clock s (Some d) =
    (is_due clock s (s.lowest + d.place) ≡ true) ×
    ((n : ℕ) → n < s.lowest + d.place → is_due clock s n ≡ false)

abbrev pub SendsLowestDue : Type 0
SendsLowestDue = (clock : ℕ) (s : Source) → IsLowestDue clock s (lowest_due clock s)
