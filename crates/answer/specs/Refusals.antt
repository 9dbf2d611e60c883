-- The number of each refusal of a line's call in the table of refusals.
use Rattle.std.specs.Prelude.{ℕ}
use Rattle.pieces.specs.Refusals as reader
use Rattle.planner.specs.Refusals as planner
use Rattle.answer.specs.declared.answer.Answer.{Answer}
use Rattle.answer.specs.declared.answer.Answer.TheVariants as answer
use Rattle.answer.specs.declared.refusal.LineRefusal.{LineRefusal}
use Rattle.answer.specs.declared.refusal.LineRefusal.TheVariants as refusal

abbrev pub refusal_number : LineRefusal → ℕ
refusal_number (refusal.Planner why) = planner.refusal_number why
refusal_number (refusal.Taker n) = 5
refusal_number (refusal.Reader fault) = reader.refusal_number fault

-- the same of an answer: 0 where it is none
abbrev pub refused_by : Answer → ℕ
refused_by answer.Done = 0
refused_by answer.Nothing = 0
refused_by (answer.Number n) = 0
refused_by (answer.Form f) = 0
refused_by (answer.Refused why) = refusal_number why
