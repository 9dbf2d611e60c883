-- What the office's end does with a frame: one rule for each state and form.
use Rattle.std.specs.Prelude.{ℕ, Bool, true, false, List, Some, None, Ok, Err, Option, Result, ◌==◌}
use Rattle.frame.specs.Forms.{form_of}
use Rattle.frame.specs.Meanings.{Meaning, create_sequence, create_sequence_response, sequence}
use Rattle.frame.specs.Meanings.{ack_requested, sequence_acknowledgement, close_sequence}
use Rattle.frame.specs.Meanings.{close_sequence_response, terminate_sequence}
use Rattle.frame.specs.Meanings.{terminate_sequence_response, sequence_fault}
use Rattle.frame.specs.Meanings.{unknown_sequence, sequence_terminated, sequence_closed}
use Rattle.frame.specs.Meanings.{create_sequence_refused}
use Rattle.frame.specs.declared.form.Form.{Form}
use Rattle.office.specs.Destinations.{Destination, with_state, accepts, acknowledgement}
use Rattle.office.specs.Destinations.{close_response, terminate_response}
use Rattle.office.specs.declared.state.OfficeState.{OfficeState}
use Rattle.office.specs.declared.state.OfficeState.TheVariants as state

-- what is left, and the frame to put back, if any
pub record Step : Type 0 where
  pub after : Destination
  pub reply : Option Meaning

abbrev pub step : Destination → Option Meaning → Step
step o reply = record { after = o; reply = reply }

abbrev pub replies : Destination → Meaning → Step
replies o m = step o (Some m)

abbrev pub ignores : Destination → Step
ignores o = step o None

-- the LastMsgNumber of a frame, 0 if it was left out
abbrev pub last_of : Option ℕ → ℕ
last_of None = 0
last_of (Some m) = m

abbrev pub on_admits : Bool → Destination → Step
on_admits true o =
    replies (with_state o state.Created o.last) (create_sequence_response o.identifier)
on_admits false o = replies o (sequence_fault create_sequence_refused)

abbrev pub on_create : OfficeState → Destination → Step
on_create state.None o = on_admits o.admits o
on_create state.Created o = replies o (create_sequence_response o.identifier)
on_create state.Closed o = replies o (sequence_fault create_sequence_refused)
on_create state.Terminated o = replies o (sequence_fault create_sequence_refused)

abbrev pub on_letter : OfficeState → Destination → ℕ → ℕ → List ℕ → Step
on_letter state.None o n m bs = replies o (sequence_fault (unknown_sequence n))
on_letter state.Created o n m bs = replies (accepts o m bs) (acknowledgement (accepts o m bs))
on_letter state.Closed o n m bs = replies o (sequence_fault (sequence_closed n))
on_letter state.Terminated o n m bs = replies o (sequence_fault (sequence_terminated n))

abbrev pub on_ask : OfficeState → Destination → ℕ → Step
on_ask state.None o n = replies o (sequence_fault (unknown_sequence n))
on_ask state.Created o n = replies o (acknowledgement o)
on_ask state.Closed o n = replies o (acknowledgement o)
on_ask state.Terminated o n = replies o (sequence_fault (sequence_terminated n))

abbrev pub closes : Destination → ℕ → Step
closes o m =
    replies (with_state o state.Closed m) (close_response (with_state o state.Closed m))

abbrev pub on_close : OfficeState → Destination → ℕ → ℕ → Step
on_close state.None o n m = replies o (sequence_fault (unknown_sequence n))
on_close state.Created o n m = closes o m
on_close state.Closed o n m = closes o o.last
on_close state.Terminated o n m = replies o (sequence_fault (sequence_terminated n))

abbrev pub terminates : Destination → ℕ → Step
terminates o m =
    replies (with_state o state.Terminated m) (terminate_response (with_state o state.Terminated m))

abbrev pub on_terminate : OfficeState → Destination → ℕ → ℕ → Step
on_terminate state.None o n m = replies o (sequence_fault (unknown_sequence n))
on_terminate state.Created o n m = terminates o m
on_terminate state.Closed o n m = terminates o o.last
on_terminate state.Terminated o n m = terminates o o.last

-- a frame that names no other sequence
abbrev pub heeds : Destination → Meaning → Step
heeds o create_sequence = on_create o.state o
heeds o (create_sequence_response n) = ignores o
heeds o (sequence n m bs) = on_letter o.state o n m bs
heeds o (ack_requested n) = on_ask o.state o n
heeds o (sequence_acknowledgement n rs final c) = ignores o
heeds o (close_sequence n last) = on_close o.state o n (last_of last)
heeds o (close_sequence_response n rs c) = ignores o
heeds o (terminate_sequence n last) = on_terminate o.state o n (last_of last)
heeds o (terminate_sequence_response n rs c) = ignores o
heeds o (sequence_fault f) = ignores o

-- the sequence that a frame asks the office for
abbrev pub asked : Meaning → Option ℕ
asked create_sequence = None
asked (create_sequence_response n) = None
asked (sequence n m bs) = Some n
asked (ack_requested n) = Some n
asked (sequence_acknowledgement n rs final c) = None
asked (close_sequence n last) = Some n
asked (close_sequence_response n rs c) = None
asked (terminate_sequence n last) = Some n
asked (terminate_sequence_response n rs c) = None
asked (sequence_fault f) = None

abbrev pub unless_same : Bool → ℕ → Option ℕ
unless_same true n = None
unless_same false n = Some n

abbrev pub unless : ℕ → Option ℕ → Option ℕ
unless mine None = None
unless mine (Some n) = unless_same (n == mine) n

-- the identifier by which a frame asks for another sequence than this one
abbrev pub stranger : Destination → Meaning → Option ℕ
stranger o m = unless o.identifier (asked m)

abbrev pub known : Option ℕ → Destination → Meaning → Step
known None o m = heeds o m
known (Some n) o m = replies o (sequence_fault (unknown_sequence n))

abbrev pub takes : Destination → Meaning → Step
takes o m = known (stranger o m) o m

-- the form that was read, and the frame to put back, if any
pub record Answer : Type 0 where
  pub form : Form
  pub reply : Option Meaning

-- what a read leaves and answers; where the bytes are no frame, the place of the fault
pub record Reading : Type 0 where
  pub after : Destination
  pub answer : Result Answer ℕ

abbrev pub answers : Form → Step → Reading
answers f s = record { after = s.after; answer = Ok (record { form = f; reply = s.reply }) }

unfoldable pub reads : Destination → Meaning → Reading
reads o m = answers (form_of m) (takes o m)

-- the same of what the reader makes of the bytes
abbrev pub reads_seen : Destination → Result Meaning ℕ → Reading
reads_seen o (Ok m) = reads o m
reads_seen o (Err place) = record { after = o; answer = Err place }

-- the frame to put back
abbrev pub reply_of : Result Answer ℕ → Option Meaning
reply_of (Ok a) = a.reply
reply_of (Err place) = None
