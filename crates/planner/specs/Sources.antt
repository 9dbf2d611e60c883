-- What the planner's end keeps, in numbers and lists, and what a call makes of it.
use Rattle.std.specs.Prelude.{ℕ, Bool, cond, List, Ok, Err, Option, Result}
use Rattle.std.specs.Option.{option_map, unwrap_or}
use Rattle.frame.specs.Meanings.{Meaning, meaning}
use Rattle.frame.specs.declared.frame.Frame.{Frame}
use Rattle.planner.specs.Windows.{Slot, window_of}
use Rattle.planner.specs.declared.planner.Planner.{Planner}
use Rattle.planner.specs.declared.refusal.PlannerRefusal.{PlannerRefusal}
use Rattle.planner.specs.declared.refusal.PlannerRefusal.TheVariants as refusal
use Rattle.planner.specs.declared.state.PlannerState.{PlannerState}

pub record Source : Type 0 where
  pub state : PlannerState
  -- the identifier of the sequence that was created
  pub held : Option ℕ
  pub gap : ℕ
  pub limit : ℕ
  -- the highest number written
  pub written : ℕ
  -- the lowest number without a receipt
  pub lowest : ℕ
  -- letters up to this number may be sent
  pub credit : ℕ
  -- what stands for the eight numbers from the lowest on
  pub window : List Slot

abbrev pub source_of : Planner → Source
source_of p =
    record {
      state = p.state;
      held = option_map (λ i. i.value) p.held;
      gap = p.gap;
      limit = p.limit;
      written = p.written;
      lowest = p.lowest;
      credit = p.credit;
      window = window_of p.slots;
    }

-- the identifier in what it puts
abbrev pub name : Source → ℕ
name s = unwrap_or s.held 0

abbrev pub in_state : PlannerState → Source → Source
in_state next s =
    record {
      state = next;
      held = s.held;
      gap = s.gap;
      limit = s.limit;
      written = s.written;
      lowest = s.lowest;
      credit = s.credit;
      window = s.window;
    }

abbrev pub with_window : ℕ → List Slot → Source → Source
with_window written window s =
    record {
      state = s.state;
      held = s.held;
      gap = s.gap;
      limit = s.limit;
      written = written;
      lowest = s.lowest;
      credit = s.credit;
      window = window;
    }

-- what a call leaves and answers
pub record Acted (A : Type 0) : Type 0 where
  pub source : Source
  pub answer : Result A PlannerRefusal

abbrev pub acted : {A : Type 0} → Planner → Result A PlannerRefusal → Acted A
acted p r = record { source = source_of p; answer = r }

abbrev pub done : {A : Type 0} → Source → A → Acted A
done s a = record { source = s; answer = Ok a }

abbrev pub refuses : {A : Type 0} → Source → PlannerRefusal → Acted A
refuses s why = record { source = s; answer = Err why }

-- refused by its state, unless the test passes
abbrev pub allowed : {A : Type 0} → Bool → Source → Acted A → Acted A
allowed test s then = cond test then (refuses s (refusal.State s.state))

-- what the frame to put says
abbrev pub said : Result Frame PlannerRefusal → Result Meaning PlannerRefusal
said (Ok f) = Ok (meaning f)
said (Err why) = Err why
