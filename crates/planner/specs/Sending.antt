-- Which letter is due, and what sending it leaves and puts.
use Rattle.std.specs.Prelude.{ℕ, ◌+◌, ◌-◌, Bool, true, cond, ◌&&◌, List, [], ◌∷◌, Some, None, Ok, Err, Option, Result, ◌==◌, nat_le, slice_set}
use Rattle.letter.specs.Letters.{content}
use Rattle.frame.specs.Meanings.{Meaning, meaning, sequence}
use Rattle.planner.specs.Sources.{Source, Acted, done, allowed, with_window, name}
use Rattle.planner.specs.States.{rank}
use Rattle.planner.specs.Windows.{Slot, free, waiting, receipted}
use Rattle.planner.specs.declared.planner.sending.Due as code
use Rattle.planner.specs.declared.planner.sending.Sent.{Sent}
use Rattle.planner.specs.declared.refusal.PlannerRefusal.{PlannerRefusal}

-- never sent, or last sent at least the gap ago; with a clock below the last sending it is not
abbrev pub rested : ℕ → ℕ → Option ℕ → Bool
rested gap clock None = true
rested gap clock (Some at) = nat_le at clock && nat_le gap (clock - at)

-- the letter of number n, if it is due: without a receipt, at most the credit, and rested
abbrev pub due_letter : ℕ → ℕ → ℕ → ℕ → Slot → Option (List ℕ)
due_letter gap credit clock n free = None
due_letter gap credit clock n (waiting letter sent) = cond (nat_le n credit && rested gap clock sent) (Some letter) None
due_letter gap credit clock n receipted = None

-- a due letter, and its place in the window
pub record Due : Type 0 where
  pub place : ℕ
  pub letter : List ℕ

abbrev pub due_of : code.Due → Due
due_of d = record { place = d.place; letter = content d.letter }

abbrev pub or_later : Option (List ℕ) → ℕ → Option Due → Option Due
or_later None k later = later
or_later (Some letter) k later = Some (record { place = k; letter = letter })

-- the first that is due of these slots, which stand from place k on, where place 0 is that of number b
abbrev pub first_due : ℕ → ℕ → ℕ → ℕ → ℕ → List Slot → Option Due
first_due gap credit clock b k [] = None
first_due gap credit clock b k (s ∷ window) =
    or_later (due_letter gap credit clock (b + k) s) k (first_due gap credit clock b (k + 1) window)

abbrev pub lowest_due : ℕ → Source → Option Due
lowest_due clock s = first_due s.gap s.credit clock s.lowest 0 s.window

-- the letter is marked as sent at this clock, and put with its number
abbrev pub sends_due : Option Due → ℕ → Source → Acted (Option (ℕ × Meaning))
sends_due None clock s = done s None
sends_due (Some d) clock s =
    done (with_window s.written (slice_set s.window d.place (waiting d.letter (Some clock))) s)
    (Some (s.lowest + d.place, sequence (name s) (s.lowest + d.place) d.letter))

abbrev pub sends : ℕ → Source → Acted (Option (ℕ × Meaning))
sends clock s = allowed (rank s.state == 2) s (sends_due (lowest_due clock s) clock s)

-- the number and what the frame says
abbrev pub sent : Option Sent → Option (ℕ × Meaning)
sent None = None
sent (Some x) = Some (x.number, meaning x.frame)

abbrev pub send_answer : Result (Option Sent) PlannerRefusal → Result (Option (ℕ × Meaning)) PlannerRefusal
send_answer (Ok o) = Ok (sent o)
send_answer (Err why) = Err why
