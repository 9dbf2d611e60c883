-- What the planner's end makes of each frame that comes back, by its form.
use Rattle.std.specs.Prelude.{ℕ, Bool, false, cond, List, Some, None, Ok, Err, Option, Result, ◌==◌, nat_le}
use Rattle.frame.specs.Forms.{form_of}
use Rattle.frame.specs.Meanings.{
  Meaning,
  create_sequence,
  create_sequence_response,
  sequence,
  ack_requested,
  sequence_acknowledgement,
  close_sequence,
  close_sequence_response,
  terminate_sequence,
  terminate_sequence_response,
  sequence_fault,
  FaultMeaning,
  unknown_sequence,
  sequence_terminated,
  sequence_closed,
  create_sequence_refused,
}
use Rattle.frame.specs.declared.form.Form.{Form}
use Rattle.frame.specs.declared.range.Range.{Range}
use Rattle.planner.specs.Receipts.{first_above, receives}
use Rattle.planner.specs.Sources.{Source, Acted, done, refuses, in_state}
use Rattle.planner.specs.States.{rank}
use Rattle.planner.specs.declared.refusal.PlannerRefusal.TheVariants as refusal
use Rattle.planner.specs.declared.state.PlannerState.{PlannerState}
use Rattle.planner.specs.declared.state.PlannerState.TheVariants as state

-- a sequence was created: its identifier is held, and letters up to 8 may be sent
abbrev pub created : ℕ → Source → Source
created n s =
    record {
      state = state.Created;
      held = Some n;
      gap = s.gap;
      limit = s.limit;
      written = s.written;
      lowest = s.lowest;
      credit = 8;
      window = s.window;
    }

-- only in Creating; elsewhere it is ignored
abbrev pub if_creating : Source → Source → Source
if_creating next s = cond (rank s.state == 1) next s

-- form 7 turns Closing to Closed, and form 9 Terminating to Ended
abbrev pub once_closed : PlannerState → PlannerState
once_closed st = cond (rank st == 3) state.Closed st

abbrev pub once_ended : PlannerState → PlannerState
once_ended st = cond (rank st == 5) state.Ended st

-- SequenceClosed turns Created and Closing to Closed; UnknownSequence and SequenceTerminated turn every state
-- from Created on to Ended; CreateSequenceRefused turns Creating to None
abbrev pub once_shut : PlannerState → PlannerState
once_shut st = cond (rank st == 2) state.Closed (cond (rank st == 3) state.Closed st)

abbrev pub once_lost : PlannerState → PlannerState
once_lost st = cond (nat_le 2 (rank st)) state.Ended st

abbrev pub after_fault : FaultMeaning → Source → Source
after_fault (unknown_sequence n) s = in_state (once_lost s.state) s
after_fault (sequence_terminated n) s = in_state (once_lost s.state) s
after_fault (sequence_closed n) s = in_state (once_shut s.state) s
after_fault create_sequence_refused s = if_creating (in_state state.None s) s

-- a receipt with an Upper above the highest number written is refused; else its numbers have receipts
abbrev pub takes_if : Option ℕ → Form → List Range → ℕ → PlannerState → Source → Acted Form
takes_if (Some upper) form rs c next s = refuses s (refusal.Upper upper)
takes_if None form rs c next s = done (receives rs c next s) form

abbrev pub takes : Form → List Range → ℕ → PlannerState → Source → Acted Form
takes form rs c next s = takes_if (first_above rs s.written) form rs c next s

abbrev pub heeds : Meaning → Source → Acted Form
heeds create_sequence s = done s (form_of create_sequence)
heeds (create_sequence_response n) s = done (if_creating (created n s) s) (form_of (create_sequence_response n))
heeds (sequence n m bs) s = done s (form_of (sequence n m bs))
heeds (ack_requested n) s = done s (form_of (ack_requested n))
heeds (sequence_acknowledgement n rs final c) s = takes (form_of (sequence_acknowledgement n rs final c)) rs c s.state s
heeds (close_sequence n last) s = done s (form_of (close_sequence n last))
heeds (close_sequence_response n rs c) s = takes (form_of (close_sequence_response n rs c)) rs c (once_closed s.state) s
heeds (terminate_sequence n last) s = done s (form_of (terminate_sequence n last))
heeds (terminate_sequence_response n rs c) s =
    takes (form_of (terminate_sequence_response n rs c)) rs c (once_ended s.state) s
heeds (sequence_fault f) s = done (after_fault f s) (form_of (sequence_fault f))

-- the identifier that has to be the held one
abbrev pub about_fault : FaultMeaning → Option ℕ
about_fault (unknown_sequence n) = Some n
about_fault (sequence_terminated n) = Some n
about_fault (sequence_closed n) = Some n
about_fault create_sequence_refused = None

abbrev pub about : Meaning → Option ℕ
about create_sequence = None
about (create_sequence_response n) = None
about (sequence n m bs) = None
about (ack_requested n) = None
about (sequence_acknowledgement n rs final c) = Some n
about (close_sequence n last) = None
about (close_sequence_response n rs c) = Some n
about (terminate_sequence n last) = None
about (terminate_sequence_response n rs c) = Some n
about (sequence_fault f) = about_fault f

abbrev pub is_held : Option ℕ → ℕ → Bool
is_held None n = false
is_held (Some m) n = n == m

-- a frame about a sequence that is not held is refused
abbrev pub if_held : Option ℕ → Source → Acted Form → Acted Form
if_held None s then = then
if_held (Some n) s then = cond (is_held s.held n) then (refuses s (refusal.Identifier n))

abbrev pub hears : Meaning → Source → Acted Form
hears m s = if_held (about m) s (heeds m s)

-- bytes that are no frame are refused at the reader's place, and change nothing
abbrev pub hears_read : Result Meaning ℕ → Source → Acted Form
hears_read (Ok m) s = hears m s
hears_read (Err place) s = refuses s (refusal.Reader (record { place = place }))
