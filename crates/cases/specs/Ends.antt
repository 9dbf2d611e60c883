-- What the small cases speak of: the two ends of sequence 7, brought to where they are by their own steps.
use Rattle.std.specs.Prelude.{◌≡◌, ℕ, zero, suc, true, false, List, [], ◌∷◌}
use Rattle.frame.specs.Meanings.{Meaning, create_sequence, create_sequence_response, sequence}
use Rattle.frame.specs.Meanings.{sequence_acknowledgement}
use Rattle.frame.specs.declared.range.Range.{Range}
use Rattle.letter.specs.declared.change.Path.{Path}
use Rattle.office.specs.Deliveries.{delivers}
use Rattle.office.specs.Destinations as office
use Rattle.office.specs.Destinations.{Destination}
use Rattle.office.specs.Reads.{reads}
use Rattle.planner.specs.Hearing.{hears}
use Rattle.planner.specs.Opening.{opens}
use Rattle.planner.specs.Refusals.{refusal_number}
use Rattle.planner.specs.Sending.{sends}
use Rattle.planner.specs.Sources.{Source, Acted, refuses}
use Rattle.planner.specs.Starting as planner
use Rattle.planner.specs.Writing.{writes}
use Rattle.planner.specs.declared.refusal.PlannerRefusal.{PlannerRefusal}

-- the office's end in Created: it admits, and has read a CreateSequence
unfoldable pub created_office : Destination
created_office = (reads (office.fresh 7 true) create_sequence).after

-- it has read a frame with letter n
unfoldable pub after_letter : ℕ → List ℕ → Destination → Destination
after_letter n letter o = (reads o (sequence 7 n letter)).after

-- letters 1 and 2 have come and are delivered, so that d is 2, and then letter 4 has come
unfoldable pub accepted_1_2_4 : List ℕ → List ℕ → List ℕ → Destination
accepted_1_2_4 a b c =
    let both = after_letter 2 b (after_letter 1 a created_office) in
    after_letter 4 c (delivers (delivers both).after).after

-- the planner's end in Created: it has opened, and heard that the sequence was created
abbrev pub created_planner : (gap limit : ℕ) → Source
created_planner gap limit = (hears (create_sequence_response 7) (opens (planner.fresh gap limit)).source).source

-- n letters of one byte are written
abbrev pub with_written : ℕ → Source → Source
with_written zero s = s
with_written (suc n) s = with_written n (writes (0 ∷ []) s).source

-- a letter of one byte is written, and sent at this clock
abbrev pub sent_at : ℕ → Source → Source
sent_at clock s = (sends clock (with_written 1 s)).source

-- the message numbers from the lower to the upper
abbrev pub from_to : (lower upper : ℕ) → Range
from_to lower upper = record { lower = lower; upper = upper }

-- a receipt for the numbers of these ranges
abbrev pub receipt : List Range → (credit : ℕ) → Meaning
receipt ranges credit = sequence_acknowledgement 7 ranges false credit

-- a call on this end is refused for this reason, which has this number, and leaves the end as it was
pub record Refused {A : Type 0} (call : Source → Acted A) (s : Source) (why : PlannerRefusal) (number : ℕ) : Type 0 where
  pub refused : call s ≡ refuses s why
  pub numbered : refusal_number why ≡ number

-- a path of train 5 in section 10, entered at 0
abbrev pub path_until : (leave : ℕ) → Path
path_until leave = record { train = 5; section = 10; enter = 0; leave = leave }
