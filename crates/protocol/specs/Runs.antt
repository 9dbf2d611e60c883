-- Any number of calls on one line, in any order, refused or not.
use Rattle.std.specs.Prelude.{List, [], ◌∷◌}
use Rattle.answer.specs.declared.answer.Answer.{Answer}
use Rattle.protocol.specs.Calls.{Call, Event, event}
use Rattle.protocol.specs.Lines.{Over, Line}
use Rattle.protocol.specs.Steps.{Made}

-- the calls made, the latest first
pub data Run (w : Over) (first : Line) : List Event → Line → Type 0 where
  start : Run w first [] first
  more :
      {es : List Event} {L M : Line} {c : Call} {a : Answer} →
      Run w first es L →
      (m : Made w c a L M) →
      Run w first (event c m.got a ∷ es) M
