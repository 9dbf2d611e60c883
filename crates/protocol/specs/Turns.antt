-- A turn: each call of a fixed order made until nothing comes. Two turns over transports that keep all bring every
-- letter across.
use Rattle.std.specs.Prelude.{◌≡◌, ℕ, zero, suc, ◌+◌, ◌≤◌, true, false, List, [], ◌∷◌, length, drop, Some, None, Option}
use Rattle.answer.specs.Phases.{stops, none_made, one_more, ending, once}
use Rattle.answer.specs.declared.answer.Answer.{Answer}
use Rattle.answer.specs.declared.answer.Answer.TheVariants as answer
use Rattle.answer.specs.declared.turn.Phase.{Phase}
use Rattle.answer.specs.declared.turn.TurnReport.{TurnReport}
use Rattle.planner.specs.Laws.{receipted}
use Rattle.planner.specs.declared.state.PlannerState.TheVariants as planner-state
use Rattle.taker.specs.Steps.{Page, Step}
use Rattle.protocol.specs.Calls.{
  Call,
  Event,
  opening,
  asking,
  hearing,
  closing,
  finishing,
  reading,
  delivering,
  writing,
  posting,
  sending,
}
use Rattle.protocol.specs.Lines.{Over, Line, Fresh}
use Rattle.protocol.specs.Runs.{Run}
use Rattle.protocol.specs.Steps.{Made}
use Rattle.protocol.specs.Tallies.{Letter, written}

-- one call, made until an answer stops it, and n times at most; p is what that came to
pub data Until (w : Over) (c : Call) : ℕ → Phase → Line → Line → Type 0 where
  enough : {L : Line} → Until w c zero none_made L L
  last : {n : ℕ} {L M : Line} {a : Answer} → Made w c a L M → stops a ≡ true → Until w c (suc n) (ending a) L M
  again :
      {n : ℕ} {p : Phase} {L K M : Line} {a : Answer} →
      Made w c a L K →
      stops a ≡ false →
      Until w c n p K M →
      Until w c (suc n) (one_more p) L M

-- over a transport of depth 0 frames may come for ever, so each part of a turn is cut off here
abbrev pub most : ℕ
most = 64

-- deliver and send; ask, once; then read, deliver and hear
pub data Turn (w : Over) (clock : ℕ) : TurnReport → Line → Line → Type 0 where
  turn :
      {A B C D E F G : Line} {d s r e h : Phase} {a : Answer} →
      Until w delivering most d A B →
      Until w (sending clock) most s B C →
      Made w asking a C D →
      Until w reading most r D E →
      Until w delivering most e E F →
      Until w hearing most h F G →
      Turn w clock (record { deliver = d; send = s; ask = once a; read = r; deliver_again = e; hear = h }) A G

-- the step gives a page for each of these letters, one after another
abbrev pub Flows : Step → Page → List Letter → Type 0
Flows step page [] = Unit {0}
Flows step page (l ∷ ls) = (next : Page) × (step page l ≡ Some next) × Flows step next ls

-- the clock at which a call sent a letter, if it did
abbrev pub sent_by : Answer → ℕ → Option ℕ
sent_by answer.Done at = None
sent_by answer.Nothing at = None
sent_by (answer.Number n) at = Some at
sent_by (answer.Form f) at = None
sent_by (answer.Refused why) at = None

abbrev pub sent_at : Call → Answer → Option ℕ
sent_at opening a = None
sent_at asking a = None
sent_at hearing a = None
sent_at closing a = None
sent_at finishing a = None
sent_at reading a = None
sent_at delivering a = None
sent_at (writing bytes) a = None
sent_at (posting path) a = None
sent_at (sending at) a = sent_by a at

-- the clock is at least the gap past this sending, if there was one
abbrev pub Past : ℕ → ℕ → Option ℕ → Type 0
Past gap clock None = Unit {0}
Past gap clock (Some at) = at + gap ≤ clock

-- and past every sending of these calls
abbrev pub SentPast : ℕ → ℕ → List Event → Type 0
SentPast gap clock [] = Unit {0}
SentPast gap clock (e ∷ es) = Past gap clock (sent_at e.call e.answer) × SentPast gap clock es

-- two transports that keep 32 frames or more, the planner's end Created, few frames waiting each way, a taker that
-- has a page for every letter still to be delivered, and a clock past every sending
pub record Ready (w : Over) (es : List Event) (clock : ℕ) (L : Line) : Type 0 where
  pub deep_out : 32 ≤ w.depth_out
  pub deep_back : 32 ≤ w.depth_back
  pub created : L.planner.state ≡ planner-state.Created
  pub few_out : length L.out ≤ 8
  pub few_back : length L.back ≤ 8
  pub flows : Flows w.step L.page (drop L.office.delivered (written es))
  pub past : SentPast L.planner.gap clock es

-- every one of the letters is delivered and has a receipt, and no other was written
pub record Settled (letters : ℕ) (M : Line) : Type 0 where
  pub same : M.planner.written ≡ letters
  pub delivered : M.office.delivered ≡ letters
  pub receipts : (n : ℕ) → 1 ≤ n → n ≤ letters → receipted M.planner n ≡ true

abbrev pub TwoTurnsSettle : Type 0
TwoTurnsSettle =
    (w : Over) (first L K M : Line) (es : List Event) (clock : ℕ) (one two : TurnReport) →
    Fresh first →
    Run w first es L →
    Ready w es clock L →
    Turn w clock one L K →
    Turn w clock two K M →
    Settled L.planner.written M
