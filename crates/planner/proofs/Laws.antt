-- A receipt stays, whatever call is made.
use Rattle.std.proofs.Common.{◌≡◌, ℕ, zero, suc, ◌+◌, ◌-◌, ◌≤◌, Bool, true, false, cond, ◌&&◌, ◌||◌, eqb, ltb, leb, ◌≢◌, List, [], ◌∷◌, get_or, set, Some, None, Ok, Err, Option, Result, sym, refl, ap, ◌∙◌, inl, inr, arith, get_or-set_other}
use Rattle.std.proofs.lemmas.Bool.{cases_lt, cases_eq, or_cases, and_parts, ltb-true, lt-ltb, le-leb, or_left, or_right, and_from, true≢false}
use Rattle.letter.specs.Letters.{is_letter}
use Rattle.frame.specs.Bounds.{number_of}
use Rattle.frame.specs.Meanings.{
  Meaning,
  create_sequence,
  create_sequence_response,
  sequence,
  ack_requested,
  sequence_acknowledgement,
  close_sequence,
  close_sequence_response,
  terminate_sequence,
  terminate_sequence_response,
  sequence_fault,
  unknown_sequence,
  sequence_terminated,
  sequence_closed,
  create_sequence_refused,
}
use Rattle.frame.specs.declared.form.Form.{Form}
use Rattle.frame.specs.declared.range.Range.{Range}
use Rattle.planner.specs.Hearing.{about, created, heeds, if_held, is_held, takes_if}
use Rattle.planner.specs.Laws.{
  Call,
  opening,
  asking,
  closing,
  finishing,
  writing,
  posting,
  sending,
  hearing,
  after,
  receipted,
  Sound,
  ReceiptsStay,
}
use Rattle.frame.specs.Covers.{covers}
use Rattle.planner.specs.Receipts.{first_above, marked, with_receipts, in_front, slid, receives}
use Rattle.planner.specs.Sending.{Due, due_letter, or_later, first_due, lowest_due, sends_due}
use Rattle.planner.specs.Sources.{Source, Acted, allowed, done, refuses, in_state, name}
use Rattle.planner.specs.States.{rank}
use Rattle.planner.specs.Windows.{Slot, free, waiting, receipted as has, is_free, has_receipt}
use Rattle.planner.specs.Writing.{next_number, adds_at, adds}
use Rattle.planner.specs.declared.refusal.PlannerRefusal.{PlannerRefusal}
use Rattle.planner.specs.declared.refusal.PlannerRefusal.TheVariants as refusal
use Rattle.planner.specs.declared.state.PlannerState.{PlannerState}
use Rattle.planner.specs.declared.state.PlannerState.TheVariants as state
use Rattle.planner.proofs.Windows.{slid_at}

-- what a receipt says of the window, and back

in_window : (b n : ℕ) (w : List Slot) → (ltb n b || (leb b n && has_receipt (get_or w (n - b) free))) ≡ true → b ≤ n → has_receipt (get_or w (n - b) free) ≡ true
in_window b n w e le =
    elim (or_cases _ _ e) [ inl low ↦ absurd (let z : ⊥ = omega (arith, ltb-true n b low) in z) | inr here ↦ (and_parts _ _ here).1 ]

below_or :
    (b n : ℕ) (w : List Slot) →
    (b ≤ n → has_receipt (get_or w (n - b) free) ≡ true) →
    (ltb n b || (leb b n && has_receipt (get_or w (n - b) free))) ≡ true
below_or b n w h =
    elim (cases_lt n b) [ inl lt ↦ or_left _ _ (lt-ltb n b lt) | inr le ↦ or_right _ _ (and_from _ _ (le-leb b n le) (h le)) ]

-- a slot without a receipt is written to

set_stays :
    (w : List Slot) (k j : ℕ) (v : Slot) →
    has_receipt (get_or w k free) ≡ false →
    has_receipt (get_or w j free) ≡ true →
    has_receipt (get_or (set w k v) j free) ≡ true
set_stays w k j v none e =
    elim (cases_eq j k) [
      | inl same ↦ absurd (true≢false (sym e ∙ ap (λ i. has_receipt (get_or w i free)) same ∙ none))
      | inr other ↦ let ne : j ≢ k = other in rw get_or-set_other e
    ]

-- the slot of a due letter has no receipt

due_none : (gap credit clock n : ℕ) (s : Slot) (l : List ℕ) → due_letter gap credit clock n s ≡ Some l → has_receipt s ≡ false
due_none gap credit clock n free l e = refl
due_none gap credit clock n (waiting m at) l e = refl
due_none gap credit clock n has l e = absurd (let z : ◌≡◌ {A = ℕ} 0 1 = cc in omega arith)

abbrev FirstNone : ℕ → List Slot → Due → Type 0
FirstNone k w d = (k ≤ d.place) × (has_receipt (get_or w (d.place - k) free) ≡ false)

-- by what the first slot gives, and what holds behind it
first_by :
    (gap credit clock b k : ℕ) (s : Slot) (w : List Slot) (d : Due) (o : Option (List ℕ)) →
    due_letter gap credit clock (b + k) s ≡ o →
    or_later o k (first_due gap credit clock b (k + 1) w) ≡ Some d →
    (first_due gap credit clock b (k + 1) w ≡ Some d → FirstNone (k + 1) w d) →
    FirstNone k (s ∷ w) d
first_by gap credit clock b k s w d (Some l) is e rest =
    let at : k ≡ d.place = cc in
    let z : d.place - k ≡ 0 = omega arith in
    (omega arith, rw z (due_none gap credit clock (b + k) s l is))
first_by gap credit clock b k s w d None is e rest =
    let more = rest e in
    let z : d.place - k ≡ suc (d.place - (k + 1)) = omega (arith, more.0) in
    (omega (arith, more.0), rw z more.1)

first_none : (gap credit clock b k : ℕ) (w : List Slot) (d : Due) → first_due gap credit clock b k w ≡ Some d → FirstNone k w d
first_none gap credit clock b k [] d e = absurd (let z : ◌≡◌ {A = ℕ} 0 1 = cc in omega arith)
first_none gap credit clock b k (s ∷ w) d e =
    first_by gap credit clock b k s w d (due_letter gap credit clock (b + k) s) refl e (first_none gap credit clock b (k + 1) w d)

-- receipts come

marked_stays : (b : Bool) (s : Slot) → has_receipt s ≡ true → has_receipt (marked b s) ≡ true
marked_stays b free e = e
marked_stays b (waiting l at) e = absurd (true≢false (sym e))
marked_stays b has e = refl

marks_stay : (rs : List Range) (n k : ℕ) (w : List Slot) → has_receipt (get_or w k free) ≡ true → has_receipt (get_or (with_receipts rs n w) k free) ≡ true
marks_stay rs n k [] e = e
marks_stay rs n zero (s ∷ w) e = marked_stays (covers rs n) s e
marks_stay rs n (suc k) (s ∷ w) e = marks_stay rs (n + 1) k w e

-- over the calls

module _ (s : Source) (sound : Sound s) (n : ℕ) (e : receipted s n ≡ true) where
  -- a slot of the window without a receipt is written to
  set_source : (k written : ℕ) (v : Slot) → has_receipt (get_or s.window k free) ≡ false → (ltb n s.lowest || (leb s.lowest n && has_receipt (get_or (set s.window k v) (n - s.lowest) free))) ≡ true
  set_source k written v none =
      below_or s.lowest n (set s.window k v)
      (λ le. set_stays s.window k (n - s.lowest) v none (in_window s.lowest n s.window e le))

  -- either way of a test
  either : {A : Type 0} (t : Bool) (x y : Acted A) → receipted x.source n ≡ true → receipted y.source n ≡ true → receipted (cond t x y).source n ≡ true
  either true x y p q = p
  either false x y p q = q

  either_source : (t : Bool) (x y : Source) → receipted x n ≡ true → receipted y n ≡ true → receipted (cond t x y) n ≡ true
  either_source true x y p q = p
  either_source false x y p q = q

  free_none : (x : Slot) → is_free x ≡ true → has_receipt x ≡ false
  free_none free f = refl
  free_none (waiting l at) f = refl
  free_none has f = sym f

  added_stays : (letter : List ℕ) (r : Result ℕ PlannerRefusal) → receipted (adds_at r letter s).source n ≡ true
  added_stays letter (Ok number) =
      set_source (s.written + 1 - s.lowest) (s.written + 1) (waiting letter None)
      (free_none (get_or s.window (s.written + 1 - s.lowest) free) (sound.rest (s.written + 1 - s.lowest) (omega arith)))
  added_stays letter (Err why) = e

  sent_stays : (clock : ℕ) (o : Option Due) → lowest_due clock s ≡ o → receipted (sends_due o clock s).source n ≡ true
  sent_stays clock None is = e
  sent_stays clock (Some d) is =
      let found = first_none s.gap s.credit clock s.lowest 0 s.window d is in
      let z : d.place - 0 ≡ d.place = omega arith in
      set_source d.place s.written (waiting d.letter (Some clock)) (rw z at found.1)

  received_stays : (rs : List Range) (c : ℕ) (next : PlannerState) → receipted (receives rs c next s) n ≡ true
  received_stays rs c next =
      let w = with_receipts rs s.lowest s.window in
      let by = in_front w in
      below_or (s.lowest + by) n (slid by w)
      (λ le.
      let z : n - (s.lowest + by) + by ≡ n - s.lowest = omega arith in
      ap has_receipt (slid_at by w (n - (s.lowest + by)) ∙ ap (λ i. get_or w i free) z) ∙
      marks_stay rs s.lowest (n - s.lowest) s.window (in_window s.lowest n s.window e (omega arith)))

  taken_stays : (form : Form) (rs : List Range) (c : ℕ) (next : PlannerState) (o : Option ℕ) → receipted (takes_if o form rs c next s).source n ≡ true
  taken_stays form rs c next (Some upper) = e
  taken_stays form rs c next None = received_stays rs c next

  heeded_stays : (m : Meaning) → receipted (heeds m s).source n ≡ true
  heeded_stays create_sequence = e
  heeded_stays (create_sequence_response i) = either_source (eqb (rank s.state) 1) (created i s) s e e
  heeded_stays (sequence i m bs) = e
  heeded_stays (ack_requested i) = e
  heeded_stays (sequence_acknowledgement i rs final c) = taken_stays _ rs c _ (first_above rs s.written)
  heeded_stays (close_sequence i last) = e
  heeded_stays (close_sequence_response i rs c) = taken_stays _ rs c _ (first_above rs s.written)
  heeded_stays (terminate_sequence i last) = e
  heeded_stays (terminate_sequence_response i rs c) = taken_stays _ rs c _ (first_above rs s.written)
  heeded_stays (sequence_fault (unknown_sequence i)) = e
  heeded_stays (sequence_fault (sequence_terminated i)) = e
  heeded_stays (sequence_fault (sequence_closed i)) = e
  heeded_stays (sequence_fault create_sequence_refused) = either_source (eqb (rank s.state) 1) (in_state state.None s) s e e

  heard_stays : (o : Option ℕ) (m : Meaning) → receipted (if_held o s (heeds m s)).source n ≡ true
  heard_stays None m = heeded_stays m
  heard_stays (Some i) m = either (is_held s.held i) (heeds m s) (refuses s (refusal.Identifier i)) (heeded_stays m) e

  -- a call that is not for the state changes nothing
  allowed_stays : {A : Type 0} (t : Bool) (then : Acted A) → receipted then.source n ≡ true → receipted (allowed t s then).source n ≡ true
  allowed_stays true then p = p
  allowed_stays false then p = e

  call_stays : (c : Call) → receipted (after c s) n ≡ true
  call_stays opening = allowed_stays (leb (rank s.state) 1) (done (in_state state.Creating s) create_sequence) e
  call_stays asking = allowed_stays (eqb (rank s.state) 2) (done s (ack_requested (name s))) e
  call_stays closing =
      allowed_stays (leb 2 (rank s.state) && leb (rank s.state) 3)
      (done (in_state state.Closing s) (close_sequence (name s) (number_of s.written))) e
  call_stays finishing =
      allowed_stays (leb 4 (rank s.state) && leb (rank s.state) 5)
      (done (in_state state.Terminating s) (terminate_sequence (name s) (number_of s.written))) e
  call_stays (writing bytes) =
      allowed_stays (eqb (rank s.state) 2) (cond (is_letter bytes) (adds bytes s) (refuses s refusal.LetterSize))
      (either (is_letter bytes) (adds bytes s) (refuses s refusal.LetterSize) (added_stays bytes (next_number s)) e)
  call_stays (posting letter) = allowed_stays (eqb (rank s.state) 2) (adds letter s) (added_stays letter (next_number s))
  call_stays (sending clock) =
      allowed_stays (eqb (rank s.state) 2) (sends_due (lowest_due clock s) clock s) (sent_stays clock (lowest_due clock s) refl)
  call_stays (hearing m) = heard_stays (about m) m

pub receipts_stay : ReceiptsStay
receipts_stay c s sound n e = call_stays s sound n e c
