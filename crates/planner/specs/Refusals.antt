-- The number of each refusal of the planner's end in the table of refusals.
use Rattle.std.specs.Prelude.{ℕ}
use Rattle.planner.specs.declared.refusal.PlannerRefusal.{PlannerRefusal}
use Rattle.planner.specs.declared.refusal.PlannerRefusal.TheVariants as refusal

abbrev pub refusal_number : PlannerRefusal → ℕ
refusal_number refusal.LetterSize = 1
refusal_number (refusal.State s) = 2
refusal_number refusal.Limit = 3
refusal_number (refusal.Window b) = 4
refusal_number (refusal.Reader fault) = 6
refusal_number (refusal.Identifier i) = 7
refusal_number (refusal.Upper u) = 8
