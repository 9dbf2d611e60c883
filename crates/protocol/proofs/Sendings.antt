-- Where the clock is past every sending of a run, it is past every one that the window tells of.
use Rattle.std.proofs.Common.{ℕ, zero, suc, ◌+◌, Bool, true, false, cond, eqb, List, [], ◌∷◌, get_or, set, Some, None, Ok, Err, Option, Result, sym, ◌∙◌, subst}
use Rattle.answer.specs.declared.answer.Answer.{Answer}
use Rattle.frame.specs.Meanings.{
  Meaning,
  create_sequence,
  create_sequence_response,
  sequence,
  ack_requested,
  sequence_acknowledgement,
  close_sequence,
  close_sequence_response,
  terminate_sequence,
  terminate_sequence_response,
  sequence_fault,
  unknown_sequence,
  sequence_terminated,
  sequence_closed,
  create_sequence_refused,
}
use Rattle.frame.specs.declared.form.Form.{Form}
use Rattle.frame.specs.declared.range.Range.{Range}
use Rattle.grammar.specs.Grammar as grammar
use Rattle.letter.specs.Changes.{encoded}
use Rattle.letter.specs.Letters.{is_letter}
use Rattle.letter.specs.declared.change.Change.TheVariants.{Put}
use Rattle.planner.specs.Hearing.{about, created, heeds, if_held, is_held, takes_if, hears_read}
use Rattle.planner.specs.Opening.{opens, asks, closes, finishes}
use Rattle.frame.specs.Covers.{covers}
use Rattle.planner.specs.Receipts.{first_above, marked, with_receipts, in_front, receives}
use Rattle.planner.specs.Sending.{Due, lowest_due, sends_due}
use Rattle.planner.specs.Sources as sources
use Rattle.planner.specs.Sources.{Source, Acted, allowed, in_state}
use Rattle.planner.specs.States.{rank}
use Rattle.planner.specs.Windows.{Slot, free, waiting, receipted}
use Rattle.planner.specs.Writing.{next_number, adds_at, adds, writes, posts}
use Rattle.planner.specs.declared.refusal.PlannerRefusal.{PlannerRefusal}
use Rattle.planner.specs.declared.refusal.PlannerRefusal.TheVariants as refusal
use Rattle.planner.specs.declared.state.PlannerState.{PlannerState}
use Rattle.planner.specs.declared.state.PlannerState.TheVariants as state
use Rattle.planner.proofs.Windows.{slid_at}
use Rattle.transport.specs.Meaning.{Bytes}
use Rattle.protocol.specs.Calls as call
use Rattle.protocol.specs.Calls.{Call, Event}
use Rattle.protocol.specs.Lines.{Over, Line, Fresh}
use Rattle.protocol.specs.Runs.{Run, start, more}
use Rattle.protocol.specs.Steps.{Doing, Acts, Step, done, numbered, sent}
use Rattle.protocol.specs.Tallies.{Letter}
use Rattle.protocol.specs.Turns.{Past, SentPast, sent_at}
use Rattle.protocol.proofs.Hearing.{marks_at}
use Rattle.protocol.proofs.Safety.{no_slot}

-- the slot's last sending, if there is one, is past
abbrev pub SlotPast : ℕ → ℕ → Slot → Type 0
SlotPast gap clock free = Unit {0}
SlotPast gap clock (waiting l at) = Past gap clock at
SlotPast gap clock receipted = Unit {0}

abbrev pub AllPast : ℕ → ℕ → Source → Type 0
AllPast gap clock s = (k : ℕ) → SlotPast gap clock (get_or s.window k free)

set_each :
    (P : Slot → Type 0) (w : List Slot) (i j : ℕ) (x : Slot) → P x → ((k : ℕ) → P (get_or w k free)) →
    P (get_or (set w i x) j free)
set_each P [] i j x p h = h j
set_each P (s ∷ w) zero zero x p h = p
set_each P (s ∷ w) zero (suc j) x p h = h (suc j)
set_each P (s ∷ w) (suc i) zero x p h = h 0
set_each P (s ∷ w) (suc i) (suc j) x p h = set_each P w i j x p (λ k. h (suc k))

module _ (gap clock : ℕ) (s : Source) (h : AllPast gap clock s) where
  abbrev Left : Source → Type 0
  Left = AllPast gap clock

  either : (t : Bool) (x y : Source) → Left x → Left y → Left (cond t x y)
  either true x y p q = p
  either false x y p q = q

  either_acted :
      {A : Type 0} (t : Bool) (x y : Acted A) → Left x.source → Left y.source → Left (cond t x y).source
  either_acted true x y p q = p
  either_acted false x y p q = q

  -- what a call does is what its end does
  done_past :
      (x : Source) (r : Result Meaning PlannerRefusal) → Left x →
      Left (done (record { source = x; answer = r })).source
  done_past x (Ok m) p = p
  done_past x (Err why) p = p

  numbered_past :
      (x : Source) (r : Result ℕ PlannerRefusal) → Left x →
      Left (numbered (record { source = x; answer = r })).source
  numbered_past x (Ok n) p = p
  numbered_past x (Err why) p = p

  adds_past : (r : Result ℕ PlannerRefusal) (l : Letter) → Left (adds_at r l s).source
  adds_past (Ok n) l j = set_each (SlotPast gap clock) s.window _ j (waiting l None) tt h
  adds_past (Err why) l j = h j

  sends_past :
      (at : ℕ) (x : Option Due) → Past gap clock (sent_at (call.sending at) (sent (sends_due x at s)).answer) →
      Left (sent (sends_due x at s)).source
  sends_past at None q j = h j
  sends_past at (Some d) q j = set_each (SlotPast gap clock) s.window d.place j (waiting d.letter (Some at)) q h

  allowed_sends :
      (at : ℕ) (t : Bool) →
      Past gap clock (sent_at (call.sending at) (sent (allowed t s (sends_due (lowest_due at s) at s))).answer) →
      Left (sent (allowed t s (sends_due (lowest_due at s) at s))).source
  allowed_sends at true q = sends_past at (lowest_due at s) q
  allowed_sends at false q = h

  marked_past : (b : Bool) (x : Slot) → SlotPast gap clock x → SlotPast gap clock (marked b x)
  marked_past b free p = p
  marked_past true (waiting l at) p = tt
  marked_past false (waiting l at) p = p
  marked_past b receipted p = p

  receives_past : (rs : List Range) (c : ℕ) (next : PlannerState) → Left (receives rs c next s)
  receives_past rs c next j =
      let w = with_receipts rs s.lowest s.window in
      let f = in_front w in
      subst (SlotPast gap clock) (sym (slid_at f w j ∙ marks_at rs s.lowest (j + f) s.window))
      (marked_past (covers rs (s.lowest + (j + f))) (get_or s.window (j + f) free) (h (j + f)))

  takes_past :
      (x : Option ℕ) (f : Form) (rs : List Range) (c : ℕ) (next : PlannerState) →
      Left (takes_if x f rs c next s).source
  takes_past None f rs c next = receives_past rs c next
  takes_past (Some u) f rs c next = h

  heeds_past : (m : Meaning) → Left (heeds m s).source
  heeds_past create_sequence = h
  heeds_past (create_sequence_response i) = either (eqb (rank s.state) 1) (created i s) s h h
  heeds_past (sequence i n l) = h
  heeds_past (ack_requested i) = h
  heeds_past (sequence_acknowledgement i rs final c) = takes_past (first_above rs s.written) _ rs c _
  heeds_past (close_sequence i n) = h
  heeds_past (close_sequence_response i rs c) = takes_past (first_above rs s.written) _ rs c _
  heeds_past (terminate_sequence i n) = h
  heeds_past (terminate_sequence_response i rs c) = takes_past (first_above rs s.written) _ rs c _
  heeds_past (sequence_fault (unknown_sequence i)) = h
  heeds_past (sequence_fault (sequence_terminated i)) = h
  heeds_past (sequence_fault (sequence_closed i)) = h
  heeds_past (sequence_fault create_sequence_refused) = either (eqb (rank s.state) 1) (in_state state.None s) s h h

  held_past : (x : Option ℕ) (m : Meaning) → Left (if_held x s (heeds m s)).source
  held_past None m = heeds_past m
  held_past (Some i) m = either_acted (is_held s.held i) (heeds m s) (sources.refuses s (refusal.Identifier i)) (heeds_past m) h

  hears_past : (r : Result Meaning ℕ) → Left (hears_read r s).source
  hears_past (Ok m) = held_past (about m) m
  hears_past (Err place) = h

  allowed_past : {A : Type 0} (t : Bool) (x : Acted A) → Left x.source → Left (allowed t s x).source
  allowed_past true x p = p
  allowed_past false x p = h

module _ (w : Over) (gap clock : ℕ) (L M : Line) (a : Answer) (h : AllPast gap clock L.planner) where
  abbrev s : Source
  s = L.planner

  acts_past :
      (d : Doing) (g : Option Bytes) → Acts w d L g a M → AllPast gap clock d.source →
      AllPast gap clock M.planner
  acts_past d g t p = subst (AllPast gap clock) (sym t.planner) p

  step_past :
      (c : Call) (g : Option Bytes) → Step w L c g a M → Past gap clock (sent_at c a) →
      AllPast gap clock M.planner
  step_past call.opening g t q = acts_past _ g t (done_past gap clock s h (opens s).source (opens s).answer (allowed_past gap clock s h _ _ h))
  step_past call.asking g t q = acts_past _ g t (done_past gap clock s h (asks s).source (asks s).answer (allowed_past gap clock s h _ _ h))
  step_past call.hearing None t q = subst (AllPast gap clock) (sym t.planner) h
  step_past call.hearing (Some bytes) t q = subst (AllPast gap clock) (sym t.planner) (hears_past gap clock s h (grammar.reading bytes))
  step_past call.closing g t q = acts_past _ g t (done_past gap clock s h (closes s).source (closes s).answer (allowed_past gap clock s h _ _ h))
  step_past call.finishing g t q = acts_past _ g t (done_past gap clock s h (finishes s).source (finishes s).answer (allowed_past gap clock s h _ _ h))
  step_past call.reading None t q = subst (AllPast gap clock) (sym t.planner) h
  step_past call.reading (Some bytes) t q = subst (AllPast gap clock) (sym t.planner) h
  step_past call.delivering g t q = subst (AllPast gap clock) (sym t.planner) h
  step_past (call.writing bytes) g t q =
      acts_past _ g t
      (numbered_past gap clock s h (writes bytes s).source (writes bytes s).answer
      (allowed_past gap clock s h _ _ (either_acted gap clock s h (is_letter bytes) (adds bytes s) (sources.refuses s refusal.LetterSize) (adds_past gap clock s h (next_number s) bytes) h)))
  step_past (call.posting path) g t q =
      acts_past _ g t
      (numbered_past gap clock s h (posts (encoded (Put path)) s).source (posts (encoded (Put path)) s).answer
      (allowed_past gap clock s h _ _ (adds_past gap clock s h (next_number s) (encoded (Put path)))))
  step_past (call.sending at) g t q =
      acts_past _ g t (allowed_sends gap clock s h at (eqb (rank s.state) 2) (subst (λ (x : Answer). Past gap clock (sent_at (call.sending at) x)) t.answer q))

pub run_past :
    (w : Over) (gap clock : ℕ) (first L : Line) (es : List Event) → Fresh first → Run w first es L →
    SentPast gap clock es → AllPast gap clock L.planner
run_past w gap clock first L es f start q =
    rw f.planner (λ k. subst (SlotPast gap clock) (sym (no_slot k)) tt)
run_past w gap clock first L es f (more {es = rest} {L = K} {M = M} {c = c} {a = a} r m) q =
    step_past w gap clock K M a (run_past w gap clock first K rest f r q.1) c m.got m.step q.0
