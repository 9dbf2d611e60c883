-- What a call that is made again and again comes to, by its answers.
use Rattle.std.specs.Prelude.{◌+◌, Bool, true, false, cond, Some, None, Option}
use Rattle.answer.specs.declared.answer.Answer.{Answer}
use Rattle.answer.specs.declared.answer.Answer.TheVariants as answer
use Rattle.answer.specs.declared.refusal.LineRefusal.{LineRefusal}
use Rattle.answer.specs.declared.turn.Phase.{Phase}

-- after these answers the call is not made again: nothing came, or it was refused
abbrev pub stops : Answer → Bool
stops answer.Done = false
stops answer.Nothing = true
stops (answer.Number n) = false
stops (answer.Form f) = false
stops (answer.Refused why) = true

abbrev pub refusal_of : Answer → Option LineRefusal
refusal_of answer.Done = None
refusal_of answer.Nothing = None
refusal_of (answer.Number n) = None
refusal_of (answer.Form f) = None
refusal_of (answer.Refused why) = Some why

abbrev pub none_made : Phase
none_made = record { count = 0; refused = None }

-- the call was done once more, before these
abbrev pub one_more : Phase → Phase
one_more p = record { count = p.count + 1; refused = p.refused }

-- an answer that ends it
abbrev pub ending : Answer → Phase
ending a = record { count = 0; refused = refusal_of a }

-- of a call that is made once
abbrev pub once : Answer → Phase
once a = cond (stops a) (ending a) (one_more none_made)
