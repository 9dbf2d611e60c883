-- What each call's result says, as one kind of answer for all.
use Rattle.std.specs.Prelude.{ℕ, Some, None, Ok, Err, Option, Result}
use Rattle.answer.specs.declared.answer.Answer.{Answer}
use Rattle.answer.specs.declared.answer.Answer.TheVariants.{Done, Nothing, Number, Form as OfForm, Refused}
use Rattle.answer.specs.declared.refusal.LineRefusal.{LineRefusal}
use Rattle.frame.specs.declared.form.Form.{Form}
use Rattle.planner.specs.declared.draft.Draft.{Draft}

abbrev pub done : Result (Unit {0}) LineRefusal → Answer
done (Ok x) = Done
done (Err why) = Refused why

abbrev pub number : Result ℕ LineRefusal → Answer
number (Ok n) = Number n
number (Err why) = Refused why

-- why a post was refused, without the draft that it hands back
abbrev pub posted : Result ℕ (LineRefusal × Draft) → Answer
posted (Ok n) = Number n
posted (Err back) = Refused back.0

abbrev pub number_if : Result (Option ℕ) LineRefusal → Answer
number_if (Ok None) = Nothing
number_if (Ok (Some n)) = Number n
number_if (Err why) = Refused why

abbrev pub form_if : Result (Option Form) LineRefusal → Answer
form_if (Ok None) = Nothing
form_if (Ok (Some f)) = OfForm f
form_if (Err why) = Refused why
