-- A turn of the code is a turn, and keeps a safe run safe.
use Rattle.std.proofs.Common.{◌≡◌, ℕ, List, sym, refl, subst, arith}
use Rattle.answer.specs.Phases.{once}
use Rattle.answer.specs.declared.answer.Answer.{Answer}
use Rattle.answer.specs.declared.turn.Phase.{Phase}
use Rattle.answer.specs.declared.turn.TurnReport.{TurnReport}
use Rattle.line.specs.Meaning.{over, model}
use Rattle.line.specs.declared.line.Line as code
use Rattle.protocol.specs.Calls.{Call, Event, asking}
use Rattle.protocol.specs.Lines.{Over, Line}
use Rattle.protocol.specs.Runs.{Run}
use Rattle.protocol.specs.Steps.{Made}
use Rattle.protocol.specs.Turns.{Until, enough, last, again, Turn, turn}
use Rattle.protocol.proofs.Turning.{two_turns_settle}
use Rattle.runs.specs.Turned.{Parts, StaysSafe, Turned, TurnedTwice}
use Rattle.runs.proofs.Joining.{goes_on, joins, turn_runs}
use Rattle.taker.specs.declared.taker.Taker as taker
use Rattle.transport.specs.declared.transport.Transport as transport

-- a call that is made until nothing comes, and once at most
at_most_once :
    (w : Over) (c : Call) (n : ℕ) (p : Phase) (L M : Line) → n ≡ 1 → Until w c n p L M →
    (a : Answer) × (p ≡ once a) × Made w c a L M
at_most_once w c n p L M e enough = absurd (omega (arith, e))
at_most_once w c n p L M e (last {a = a} m s) = (a, rw s refl, m)
at_most_once w c n p L M e (again {a = a} m s enough) = (a, rw s refl, m)
at_most_once w c n p L M e (again m s (last k t)) = absurd (omega (arith, e))
at_most_once w c n p L M e (again m s (again k t u)) = absurd (omega (arith, e))

module _ {O B K : Type 0} (o : transport.Ghosts O) (b : transport.Ghosts B) (k : taker.Ghosts K) where
  -- calls that are a run keep a safe run safe
  run_safe :
      (before after : code.Line O B K) (made : List Event) →
      Run (over o b k) (model o b k before) made (model o b k after) → StaysSafe o b k before after
  run_safe before after made r first es f q = (made, goes_on o b k first es made before after f q r)

  pub turned :
      (clock : ℕ) (told : TurnReport) (before after : code.Line O B K) →
      Parts o b k clock told before after → Turned o b k clock told before after
  turned clock told before after (A, t1, B, t2, C, t3, D, t4, E, t5, t6) =
      let asked = at_most_once (over o b k) asking 1 told.ask B C refl t3 in
      let t =
      subst (λ (x : Phase). Turn (over o b k) clock (record { deliver = told.deliver; send = told.send; ask = x; read = told.read; deliver_again = told.deliver_again; hear = told.hear }) (model o b k before) (model o b k after))
      (sym asked.1) (turn t1 t2 asked.2 t4 t5 t6) in
      let r = turn_runs (over o b k) clock told (model o b k before) (model o b k after) t in
      record { turn = t; safe = run_safe before after r.0 r.1 }

  pub twice :
      (clock : ℕ) (one two : TurnReport) (before between after : code.Line O B K) →
      Turned o b k clock one before between → Turned o b k clock two between after →
      TurnedTwice o b k clock one two before after
  twice clock one two before between after t u =
      let r = turn_runs (over o b k) clock one (model o b k before) (model o b k between) t.turn in
      let q = turn_runs (over o b k) clock two (model o b k between) (model o b k after) u.turn in
      record {
        between = model o b k between;
        first_turn = t.turn;
        second_turn = u.turn;
        safe = run_safe before after _ (joins (over o b k) (model o b k before) (model o b k between) (model o b k after) r.0 q.0 r.1 q.1);
        settled = λ first es f run ready. two_turns_settle (over o b k) first (model o b k before) (model o b k between) (model o b k after) es clock one two f run ready t.turn u.turn;
      }
