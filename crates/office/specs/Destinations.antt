-- The office's end in numbers and lists, and the parts of its steps.
-- Theorems on a whole line speak of this and never of the code's own types.
use Rattle.std.specs.Prelude.{ℕ, ◌+◌, min, Bool, true, false, not, ◌&&◌, List, replicate, None, Option, slice_index_or}
use Rattle.frame.specs.Bounds.{M}
use Rattle.frame.specs.Meanings.{Meaning, sequence_acknowledgement, close_sequence_response}
use Rattle.frame.specs.Meanings.{terminate_sequence_response}
use Rattle.frame.specs.declared.range.Range.{Range}
use Rattle.office.specs.Places.{has_place, place_of, is_free, kept}
use Rattle.office.specs.Ranges.{runs}
use Rattle.office.specs.declared.state.OfficeState.{OfficeState}
use Rattle.office.specs.declared.state.OfficeState.TheVariants as state

pub record Destination : Type 0 where
  pub state : OfficeState
  pub identifier : ℕ
  -- whether it lets a sequence be created
  pub admits : Bool
  -- all message numbers up to this one are delivered
  pub delivered : ℕ
  -- the first LastMsgNumber heard, 0 if none was or it was left out
  pub last : ℕ
  -- the letters accepted and not yet delivered, for the numbers delivered + 1 to delivered + 8
  pub places : List (Option (List ℕ))

abbrev pub fresh : ℕ → Bool → Destination
fresh identifier admits =
    record {
      state = state.None;
      identifier = identifier;
      admits = admits;
      delivered = 0;
      last = 0;
      places = replicate 8 None;
    }

abbrev pub with_state : Destination → OfficeState → ℕ → Destination
with_state o s m =
    record {
      state = s;
      identifier = o.identifier;
      admits = o.admits;
      delivered = o.delivered;
      last = m;
      places = o.places;
    }

abbrev pub with_places : Destination → ℕ → List (Option (List ℕ)) → Destination
with_places o d ps =
    record {
      state = o.state;
      identifier = o.identifier;
      admits = o.admits;
      delivered = d;
      last = o.last;
      places = ps;
    }

-- message number n has a place, and its letter is missing
abbrev pub is_new : Destination → ℕ → Bool
is_new o n = has_place o.delivered n && is_free (slice_index_or o.places (place_of o.delivered n) None)

unfoldable pub accepts : Destination → ℕ → List ℕ → Destination
accepts o n bs =
    with_places o o.delivered (kept (is_new o n) o.places (place_of o.delivered n) bs)

-- the ranges of all accepted numbers, and the number up to which there are places
unfoldable pub ranges_of : Destination → List Range
ranges_of o = runs 1 (o.delivered + 1) o.places

abbrev pub credit_of : Destination → ℕ
credit_of o = min (o.delivered + 8) M

abbrev pub is_created : OfficeState → Bool
is_created state.None = false
is_created state.Created = true
is_created state.Closed = false
is_created state.Terminated = false

-- the receipt in the three forms that carry it
abbrev pub acknowledgement : Destination → Meaning
acknowledgement o =
    sequence_acknowledgement o.identifier (ranges_of o) (not (is_created o.state)) (credit_of o)

abbrev pub close_response : Destination → Meaning
close_response o = close_sequence_response o.identifier (ranges_of o) (credit_of o)

abbrev pub terminate_response : Destination → Meaning
terminate_response o = terminate_sequence_response o.identifier (ranges_of o) (credit_of o)
