-- What is promised of a call, and of a list of calls, after whatever calls were made before on the same line.
use Rattle.std.specs.Prelude.{◌≡◌, Bool, cond, List, [], ◌∷◌, ◌++◌, map, reverse, Option}
use Rattle.answer.specs.declared.answer.Answer.{Answer}
use Rattle.line.specs.Meaning.{over, model}
use Rattle.line.specs.declared.line.Line as code
use Rattle.protocol.specs.Calls.{Call, Event, event}
use Rattle.protocol.specs.Lines.{Line, Fresh}
use Rattle.protocol.specs.Promises.{Safe}
use Rattle.protocol.specs.Runs.{Run}
use Rattle.runs.specs.Calls.{call_of}
use Rattle.runs.specs.declared.call.Call as calls
use Rattle.taker.specs.declared.taker.Taker as taker
use Rattle.transport.specs.Meaning.{Bytes}
use Rattle.transport.specs.declared.transport.Transport as transport

module _ {O B K : Type 0} (o : transport.Ghosts O) (b : transport.Ghosts B) (k : taker.Ghosts K) where
  -- whatever run led here from a fresh line: with these calls it is a run too, and a safe one
  pub record GoesOn (first : Line) (es made : List Event) (after : code.Line O B K) : Type 0 where
    pub run : Run (over o b k) first (made ++ es) (model o b k after)
    pub safe : Safe (over o b k) first.page (made ++ es) (model o b k after)

  abbrev pub Continues : Call → Answer → code.Line O B K → code.Line O B K → Type 0
  Continues c a before after =
      (first : Line) (es : List Event) →
      Fresh first →
      Run (over o b k) first es (model o b k before) →
      (got : Option Bytes) × GoesOn first es (event c got a ∷ []) after

  -- the calls were made in order, each with its answer behind those recorded before; where there was no memory for
  -- the record, none was made
  pub record Ran (ok : Bool) (calls : List calls.Call) (before after : List Answer) (start end : code.Line O B K) : Type 0 where
    -- what was made, the latest first
    pub made : List Event
    pub called : reverse (map (λ e. e.call) made) ≡ cond ok (map call_of calls) []
    pub answered : after ≡ before ++ reverse (map (λ e. e.answer) made)
    pub run : Run (over o b k) (model o b k start) made (model o b k end)
    pub promised :
        (first : Line) (es : List Event) →
        Fresh first →
        Run (over o b k) first es (model o b k start) →
        GoesOn first es made end
    -- so from a fresh line the whole record is safe
    pub safe : Fresh (model o b k start) → Safe (over o b k) (model o b k start).page made (model o b k end)
