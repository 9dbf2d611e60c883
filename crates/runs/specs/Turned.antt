-- What a turn and two turns make of a line, and what is promised of them.
use Rattle.std.specs.Prelude.{ℕ, List}
use Rattle.answer.specs.declared.turn.TurnReport.{TurnReport}
use Rattle.line.specs.Meaning.{over, model}
use Rattle.line.specs.declared.line.Line as code
use Rattle.protocol.specs.Calls.{Event, asking, delivering, hearing, reading, sending}
use Rattle.protocol.specs.Lines.{Line, Fresh}
use Rattle.protocol.specs.Runs.{Run}
use Rattle.protocol.specs.Turns.{Turn, Until, Ready, Settled, most}
use Rattle.runs.specs.Recorded.{GoesOn}
use Rattle.taker.specs.declared.taker.Taker as taker
use Rattle.transport.specs.declared.transport.Transport as transport

module _ {O B K : Type 0} (o : transport.Ghosts O) (b : transport.Ghosts B) (k : taker.Ghosts K) where
  -- the parts of a turn, one after another, each from the line that the part before it left
  abbrev pub Parts : ℕ → TurnReport → code.Line O B K → code.Line O B K → Type 0
  Parts clock told before after =
      (A : Line) × Until (over o b k) delivering most told.deliver (model o b k before) A
      × (B : Line) × Until (over o b k) (sending clock) most told.send A B
      × (C : Line) × Until (over o b k) asking 1 told.ask B C
      × (D : Line) × Until (over o b k) reading most told.read C D
      × (E : Line) × Until (over o b k) delivering most told.deliver_again D E
      × Until (over o b k) hearing most told.hear E (model o b k after)

  -- whatever run led here from a fresh line, with the calls made since it is a safe run
  abbrev pub StaysSafe : code.Line O B K → code.Line O B K → Type 0
  StaysSafe before after =
      (first : Line) (es : List Event) →
      Fresh first →
      Run (over o b k) first es (model o b k before) →
      (made : List Event) × GoesOn o b k first es made after

  pub record Turned (clock : ℕ) (told : TurnReport) (before after : code.Line O B K) : Type 0 where
    pub turn : Turn (over o b k) clock told (model o b k before) (model o b k after)
    pub safe : StaysSafe before after

  pub record TurnedTwice (clock : ℕ) (one two : TurnReport) (before after : code.Line O B K) : Type 0 where
    pub between : Line
    pub first_turn : Turn (over o b k) clock one (model o b k before) between
    pub second_turn : Turn (over o b k) clock two between (model o b k after)
    pub safe : StaysSafe before after
    -- every letter written is delivered and has its receipt
    pub settled :
        (first : Line) (es : List Event) →
        Fresh first →
        Run (over o b k) first es (model o b k before) →
        Ready (over o b k) es clock (model o b k before) →
        Settled (model o b k before).planner.written (model o b k after)
