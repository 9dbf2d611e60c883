-- The calls that put one frame and answer that it is done: open, ask, close and finish.
use Rattle.std.specs.Prelude.{◌&&◌, ◌==◌, nat_le}
use Rattle.frame.specs.Bounds.{number_of}
use Rattle.frame.specs.Meanings.{Meaning, create_sequence, ack_requested, close_sequence, terminate_sequence}
use Rattle.planner.specs.Sources.{Source, Acted, done, allowed, in_state, name}
use Rattle.planner.specs.States.{rank}
use Rattle.planner.specs.declared.state.PlannerState.TheVariants as state

-- in None or Creating; now Creating
abbrev pub opens : Source → Acted Meaning
opens s = allowed (nat_le (rank s.state) 1) s (done (in_state state.Creating s) create_sequence)

-- in Created
abbrev pub asks : Source → Acted Meaning
asks s = allowed (rank s.state == 2) s (done s (ack_requested (name s)))

-- in Created or Closing; now Closing. The last number is left out when nothing was written
abbrev pub closes : Source → Acted Meaning
closes s =
    allowed (nat_le 2 (rank s.state) && nat_le (rank s.state) 3) s
    (done (in_state state.Closing s) (close_sequence (name s) (number_of s.written)))

-- in Closed or Terminating; now Terminating
abbrev pub finishes : Source → Acted Meaning
finishes s =
    allowed (nat_le 4 (rank s.state) && nat_le (rank s.state) 5) s
    (done (in_state state.Terminating s) (terminate_sequence (name s) (number_of s.written)))
