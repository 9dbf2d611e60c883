-- Runs one after another are a run, and a call after a safe run leaves a safe one.
use Rattle.std.proofs.Common.{ℕ, List, [], ◌∷◌, ◌++◌}
use Rattle.answer.specs.declared.answer.Answer.{Answer}
use Rattle.answer.specs.declared.turn.Phase.{Phase}
use Rattle.answer.specs.declared.turn.TurnReport.{TurnReport}
use Rattle.line.specs.Meaning.{over, model, Makes}
use Rattle.line.specs.declared.line.Line as code
use Rattle.protocol.specs.Calls.{Call, Event, event}
use Rattle.protocol.specs.Lines.{Over, Line, Fresh}
use Rattle.protocol.specs.Runs.{Run, start, more}
use Rattle.protocol.specs.Steps.{Made}
use Rattle.protocol.specs.Turns.{Until, enough, last, again, Turn, turn}
use Rattle.protocol.proofs.Safety.{runs_are_safe}
use Rattle.runs.specs.Recorded.{GoesOn, Continues}
use Rattle.taker.specs.declared.taker.Taker as taker
use Rattle.transport.specs.declared.transport.Transport as transport

pub joins :
    (w : Over) (first K M : Line) (es fs : List Event) → Run w first es K → Run w K fs M →
    Run w first (fs ++ es) M
joins w first K M es fs r start = r
joins w first K M es fs r (more {es = rest} {L = L} q m) = more (joins w first K L es rest r q) m

-- one call
pub alone : (w : Over) (c : Call) (a : Answer) (L M : Line) (m : Made w c a L M) → Run w L (event c m.got a ∷ []) M
alone w c a L M m = more start m

-- the calls of one part of a turn
pub until_runs :
    (w : Over) (c : Call) (n : ℕ) (p : Phase) (L M : Line) → Until w c n p L M →
    (es : List Event) × Run w L es M
until_runs w c n p L M enough = ([], start)
until_runs w c n p L M (last {a = a} m e) = (_, alone w c a L M m)
until_runs w c n p L M (again {n = k} {p = q} {K = K} {a = a} m e u) =
    let r = until_runs w c k q K M u in
    (_, joins w L K M _ r.0 (alone w c a L K m) r.1)

pub turn_runs :
    (w : Over) (clock : ℕ) (told : TurnReport) (L M : Line) → Turn w clock told L M →
    (es : List Event) × Run w L es M
turn_runs w clock told L M (turn {B = B} {C = C} {D = D} {E = E} {F = F} {d = d} {s = s} {r = r} {e = e} {h = h} {a = a} t1 t2 t3 t4 t5 t6) =
    let r1 = until_runs w _ _ d L B t1 in
    let r2 = until_runs w _ _ s B C t2 in
    let r4 = until_runs w _ _ r D E t4 in
    let r5 = until_runs w _ _ e E F t5 in
    let r6 = until_runs w _ _ h F M t6 in
    let c = joins w L B C _ _ r1.1 r2.1 in
    let d = joins w L C D _ _ c (alone w _ a C D t3) in
    let e = joins w L D E _ _ d r4.1 in
    let f = joins w L E F _ _ e r5.1 in
    (_, joins w L F M _ _ f r6.1)

module _ {O B K : Type 0} (o : transport.Ghosts O) (b : transport.Ghosts B) (k : taker.Ghosts K) where
  -- calls that are a run make a safe run of every run that led to them
  pub goes_on :
      (first : Line) (es made : List Event) (before after : code.Line O B K) →
      Fresh first →
      Run (over o b k) first es (model o b k before) →
      Run (over o b k) (model o b k before) made (model o b k after) →
      GoesOn o b k first es made after
  goes_on first es made before after f q r =
      let whole = joins (over o b k) first (model o b k before) (model o b k after) es made q r in
      record { run = whole; safe = runs_are_safe (over o b k) first (model o b k after) (made ++ es) f whole }

  -- a call that made its step is such a run
  pub continues :
      (c : Call) (a : Answer) (before after : code.Line O B K) → Makes o b k c a before after →
      Continues o b k c a before after
  continues c a before after m = λ first es f q.
      (m.got, goes_on first es (event c m.got a ∷ []) before after f q (alone (over o b k) c a (model o b k before) (model o b k after) m))
