-- What holds of every read, whatever frame comes: numbers stay accepted, new ones have a place, the
-- state only moves forward, and an acknowledgement that is put says exactly what is accepted.
use Rattle.std.specs.Prelude.{◌≡◌, ℕ, true, ◌⊎◌, Some, None, Option}
use Rattle.frame.specs.Meanings.{Meaning, create_sequence, create_sequence_response, sequence}
use Rattle.frame.specs.Meanings.{ack_requested, sequence_acknowledgement, close_sequence}
use Rattle.frame.specs.Meanings.{close_sequence_response, terminate_sequence}
use Rattle.frame.specs.Meanings.{terminate_sequence_response, sequence_fault}
use Rattle.office.specs.Accepted.{Exact, is_accepted}
use Rattle.office.specs.Destinations.{Destination}
use Rattle.office.specs.Places.{has_place}
use Rattle.office.specs.Reads.{Reading, reply_of}
use Rattle.office.specs.declared.state.OfficeState.{OfficeState}
use Rattle.office.specs.declared.state.OfficeState.TheVariants as state

-- a number once accepted stays accepted
abbrev pub Keeps : Destination → Destination → Type 0
Keeps before after = (n : ℕ) → is_accepted before n ≡ true → is_accepted after n ≡ true

-- a number is newly accepted only in Created, and only if it has a place
abbrev pub Admits : Destination → Destination → Type 0
Admits before after =
    (n : ℕ) → is_accepted after n ≡ true
    → (is_accepted before n ≡ true)
    ⊎ ((before.state ≡ state.Created) × (has_place before.delivered n ≡ true))

-- the arrows between the states
pub data Moves : OfficeState → OfficeState → Type 0 where
  stays : (s : OfficeState) → Moves s s
  creates : Moves state.None state.Created
  closes : Moves state.Created state.Closed
  terminates : Moves state.Created state.Terminated
  terminates_closed : Moves state.Closed state.Terminated

-- the frame, if it carries an acknowledgement, is exact
abbrev pub Tells : Destination → Option Meaning → Type 0
Tells o None = Unit {0}
Tells o (Some create_sequence) = Unit {0}
Tells o (Some (create_sequence_response n)) = Unit {0}
Tells o (Some (sequence n m bs)) = Unit {0}
Tells o (Some (ack_requested n)) = Unit {0}
Tells o (Some (sequence_acknowledgement n rs final c)) = Exact o rs c
Tells o (Some (close_sequence n last)) = Unit {0}
Tells o (Some (close_sequence_response n rs c)) = Exact o rs c
Tells o (Some (terminate_sequence n last)) = Unit {0}
Tells o (Some (terminate_sequence_response n rs c)) = Exact o rs c
Tells o (Some (sequence_fault f)) = Unit {0}

pub record Lawful (before : Destination) (done : Reading) : Type 0 where
  pub keeps : Keeps before done.after
  pub admits : Admits before done.after
  pub moves : Moves before.state done.after.state
  pub tells : Tells done.after (reply_of done.answer)
