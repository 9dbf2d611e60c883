-- The order of the states of the planner's end, and that a sequence's identifier is held from Created on.
use Rattle.std.specs.Prelude.{ℕ, Bool, true, is_some, Option}
use Rattle.frame.specs.Numbers.{Identifier}
use Rattle.planner.specs.declared.state.PlannerState.{PlannerState}
use Rattle.planner.specs.declared.state.PlannerState.TheVariants as state

abbrev pub rank : PlannerState → ℕ
rank state.None = 0
rank state.Creating = 1
rank state.Created = 2
rank state.Closing = 3
rank state.Closed = 4
rank state.Terminating = 5
rank state.Ended = 6

-- an identifier is held in this state, if it has to be
abbrev pub named : PlannerState → Option Identifier → Bool
named state.None held = true
named state.Creating held = true
named state.Created held = is_some held
named state.Closing held = is_some held
named state.Closed held = is_some held
named state.Terminating held = is_some held
named state.Ended held = is_some held
