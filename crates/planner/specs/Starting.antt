-- The planner's end before it has opened anything.
use Rattle.std.specs.Prelude.{ℕ, replicate, None}
use Rattle.planner.specs.Sources.{Source}
use Rattle.planner.specs.Windows.{free}
use Rattle.planner.specs.declared.state.PlannerState.TheVariants as state

abbrev pub fresh : ℕ → ℕ → Source
fresh gap limit =
    record {
      state = state.None;
      held = None;
      gap = gap;
      limit = limit;
      written = 0;
      lowest = 1;
      credit = 0;
      window = replicate 8 free;
    }
