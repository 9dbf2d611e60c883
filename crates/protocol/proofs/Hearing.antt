-- What the planner's end hears keeps the invariant.
use Rattle.std.proofs.Common.{◌≡◌, ℕ, zero, suc, ◌+◌, ◌-◌, ◌<◌, ◌≤◌, Bool, true, false, cond, ◌&&◌, eqb, ltb, leb, List, [], ◌∷◌, length, get_or, is_some, Some, None, Ok, Option, sym, refl, ap, ◌∙◌, subst, inl, inr, arith}
use Rattle.std.proofs.lemmas.Bool.{false≢true, and_parts, and_from, or_cases, or_left, or_right, leb-true, eqb-true, eq-eqb, le-leb, le-ltb, cases_lt, cond_both}
use Rattle.frame.specs.Ascending.{starts_at, ascending}
use Rattle.frame.specs.Bounds.{M}
use Rattle.frame.specs.Meanings.{
  Meaning,
  create_sequence,
  create_sequence_response,
  sequence,
  ack_requested,
  sequence_acknowledgement,
  close_sequence,
  close_sequence_response,
  terminate_sequence,
  terminate_sequence_response,
  sequence_fault,
  unknown_sequence,
  sequence_terminated,
  sequence_closed,
  create_sequence_refused,
  Proper,
}
use Rattle.frame.specs.declared.form.Form.{Form}
use Rattle.frame.specs.declared.form.Form.TheVariants as form
use Rattle.frame.specs.declared.range.Range.{Range}
use Rattle.office.specs.Accepted.{is_accepted}
use Rattle.office.specs.Destinations.{Destination}
use Rattle.office.specs.Places.{has_place, place_of}
use Rattle.planner.specs.Hearing.{created, once_closed, once_ended, once_shut, once_lost, takes_if, takes, is_held, hears}
use Rattle.frame.specs.Covers.{covers}
use Rattle.planner.specs.Receipts.{first_above, marked, with_receipts, in_front, slid, receives}
use Rattle.planner.specs.Settings.{Chosen}
use Rattle.planner.specs.Sources as sources
use Rattle.planner.specs.Sources.{Source, Acted, in_state}
use Rattle.planner.specs.States.{rank}
use Rattle.planner.specs.Windows.{Slot, free, waiting, receipted, has_receipt}
use Rattle.planner.specs.declared.refusal.PlannerRefusal.TheVariants as refusal
use Rattle.planner.specs.declared.state.PlannerState.{PlannerState}
use Rattle.planner.specs.declared.state.PlannerState.TheVariants as state
use Rattle.planner.proofs.Windows.{length_marks, length_slid, slid_at}
use Rattle.protocol.specs.Lines.{Valid}
use Rattle.protocol.specs.Tallies.{Letter}
use Rattle.protocol.proofs.Invariant.{
  Holds,
  Core,
  BackOK,
  ReceiptOK,
  Sure,
  Accepted,
  Grows,
  height,
  grows_same,
  grows_state,
}
use Rattle.protocol.proofs.Letters.{nowhere, at_within}
use Rattle.protocol.proofs.Planning.{core_state}

-- Only numbers written are accepted.

pub some_of : {A : Type 0} (x : Option A) → is_some x ≡ true → (a : A) × (x ≡ Some a)
some_of None e = absurd (false≢true e)
some_of (Some a) e = (a, refl)

pub accepted_written :
    (chosen : Chosen) (ls : List Letter) (p : Source) (o : Destination) → Core chosen ls p o → (n : ℕ) →
    Accepted o n → n ≤ length ls
unfolding is_accepted
accepted_written chosen ls p o k n h =
    elim (or_cases (leb 1 n && leb n o.delivered) (has_place o.delivered n && is_some (get_or o.places (place_of o.delivered n) None)) h) [
      | inl x ↦ (let q = leb-true n o.delivered (and_parts (leb 1 n) (leb n o.delivered) x).1 in omega (arith, k.took.delivered))
      | inr x ↦
          (let q = and_parts (has_place o.delivered n) (is_some (get_or o.places (place_of o.delivered n) None)) x in
          let lt = leb-true (suc o.delivered) n (and_parts (ltb o.delivered n) (leb n (o.delivered + 8)) q.0).0 in
          let l = some_of (get_or o.places (place_of o.delivered n) None) q.1 in
          let y = at_within ls (o.delivered + 1 + place_of o.delivered n) l.0 (k.took.kept (place_of o.delivered n) l.0 l.1) in
          omega arith)
    ]

-- Receipts in the window.

pub marks_at :
    (rs : List Range) (n k : ℕ) (w : List Slot) →
    get_or (with_receipts rs n w) k free ≡ marked (covers rs (n + k)) (get_or w k free)
marks_at rs n k [] = refl
marks_at rs n zero (s ∷ w) = let z : n ≡ n + 0 = omega arith in ap (λ (m : ℕ). marked (covers rs m) s) z
marks_at rs n (suc k) (s ∷ w) =
    let z : n + 1 + k ≡ n + suc k = omega arith in
    marks_at rs (n + 1) k w ∙ ap (λ (m : ℕ). marked (covers rs m) (get_or w k free)) z

front_by :
    (s : Slot) (w : List Slot) (k : ℕ) (t : Bool) → has_receipt s ≡ t →
    ((j : ℕ) → j < in_front w → has_receipt (get_or w j free) ≡ true) → k < cond t (in_front w + 1) 0 →
    has_receipt (get_or (s ∷ w) k free) ≡ true
front_by s w zero true e rest lt = e
front_by s w (suc k) true e rest lt = rest k (omega arith)
front_by s w k false e rest lt = absurd (let z : ⊥ = omega arith in z)

pub front_has : (w : List Slot) (k : ℕ) → k < in_front w → has_receipt (get_or w k free) ≡ true
front_has [] k lt = absurd (let z : ⊥ = omega arith in z)
front_has (s ∷ w) k lt = front_by s w k (has_receipt s) refl (front_has w) lt

marked_holds :
    (ls : List Letter) (o : Destination) (n : ℕ) (b : Bool) (s : Slot) → (b ≡ true → Accepted o n) →
    Holds ls o n s → Holds ls o n (marked b s)
marked_holds ls o n b free a h = h
marked_holds ls o n true (waiting l sent) a h = a refl
marked_holds ls o n false (waiting l sent) a h = h
marked_holds ls o n b receipted a h = h

pub has_accepted :
    (ls : List Letter) (o : Destination) (n : ℕ) (s : Slot) → has_receipt s ≡ true → Holds ls o n s →
    Accepted o n
has_accepted ls o n free e h = absurd (false≢true e)
has_accepted ls o n (waiting l sent) e h = absurd (false≢true e)
has_accepted ls o n receipted e h = h

-- no Upper is above the numbers written

range_covers : (r : Range) (rs : List Range) → r.lower ≤ r.upper → covers (r ∷ rs) r.upper ≡ true
range_covers r rs le =
    or_left _ (covers rs r.upper) (and_from _ _ (le-leb r.lower r.upper le) (le-leb r.upper r.upper (omega arith)))

pub none_above :
    (N low : ℕ) (rs : List Range) → ascending low rs ≡ true → ((n : ℕ) → covers rs n ≡ true → n ≤ N) →
    first_above rs N ≡ None
none_above N low [] a b = refl
none_above N low (r ∷ rs) a b =
    let q = and_parts (starts_at low r) (ascending (r.upper + 2) rs) a in
    let s = and_parts (leb low r.lower) (leb r.lower r.upper && leb r.upper M) q.0 in
    let t = and_parts (leb r.lower r.upper) (leb r.upper M) s.1 in
    let top = b r.upper (range_covers r rs (leb-true r.lower r.upper t.0)) in
    rw (le-ltb N r.upper top) (none_above N (r.upper + 2) rs q.1 (λ n h. b n (or_right (leb r.lower n && leb n r.upper) (covers rs n) h)))

-- what a hear does for the invariant
pub record Heard (chosen : Chosen) (ls : List Letter) (p : Source) (o : Destination) (x : Acted Form) : Type 0 where
  pub core : Core chosen ls x.source o
  pub grows : Grows ls p o ls x.source o
  -- it was not refused
  pub told : (f : Form) × (x.answer ≡ Ok f)

module _ (chosen : Chosen) (v : Valid chosen) (ls : List Letter) (p : Source) (o : Destination) (k : Core chosen ls p o) where
  module _ (rs : List Range) (c : ℕ) (sure : Sure o rs) where
    abbrev newly : List Slot
    newly = with_receipts rs p.lowest p.window

    newly_held : (j : ℕ) → Holds ls o (p.lowest + j) (get_or newly j free)
    newly_held j =
        subst (Holds ls o (p.lowest + j)) (sym (marks_at rs p.lowest j p.window))
        (marked_holds ls o (p.lowest + j) (covers rs (p.lowest + j)) (get_or p.window j free) (sure (p.lowest + j)) (k.tied.held j))

    front_accepted : (j : ℕ) → j < in_front newly → Accepted o (p.lowest + j)
    front_accepted j lt = has_accepted ls o (p.lowest + j) (get_or newly j free) (front_has newly j lt) (newly_held j)

    slid_held : (j : ℕ) → Holds ls o (p.lowest + in_front newly + j) (get_or (slid (in_front newly) newly) j free)
    slid_held j =
        let z : p.lowest + in_front newly + j ≡ p.lowest + (j + in_front newly) = omega arith in
        subst (λ (m : ℕ). Holds ls o m (get_or (slid (in_front newly) newly) j free)) (sym z)
        (subst (Holds ls o (p.lowest + (j + in_front newly))) (sym (slid_at (in_front newly) newly j)) (newly_held (j + in_front newly)))

    below_front : (n : ℕ) → 1 ≤ n → n < p.lowest + in_front newly → Accepted o n
    below_front n one lt =
        elim (cases_lt n p.lowest) [
          | inl low ↦ k.tied.below n one low
          | inr at ↦
              (let z : p.lowest + (n - p.lowest) ≡ n = omega arith in
              subst (Accepted o) z (front_accepted (n - p.lowest) (omega arith)))
        ]

    front_reached : (f : ℕ) → in_front newly ≡ f → p.lowest + f ≤ p.written + 1
    front_reached zero e = omega (arith, k.wrote.reached)
    front_reached (suc f) e =
        let a = accepted_written chosen ls p o k (p.lowest + f) (front_accepted f (omega arith)) in
        omega (arith, k.wrote.count)

    pub receives_core :
        (next : PlannerState) → c ≤ o.delivered + 8 → 2 ≤ rank p.state → rank p.state ≤ rank next →
        (6 ≤ rank next → 3 ≤ height o.state) → Core chosen ls (receives rs c next p) o
    receives_core next b two up e =
        record {
          wrote = record {
            count = k.wrote.count;
            limit_is = k.wrote.limit_is;
            limited = k.wrote.limited;
            fine = k.wrote.fine;
            low_pos = omega (arith, k.wrote.low_pos);
            reached = front_reached (in_front newly) refl;
            near = omega (arith, k.wrote.near);
            eight = length_slid (in_front newly) newly (length_marks rs p.lowest p.window ∙ k.wrote.eight);
          };
          took = k.took;
          tied = record { held = slid_held; below = below_front; credit = omega (arith, k.tied.credit, b) };
          states = record {
            name = λ h. k.states.name two;
            begun = λ h. k.states.begun two;
            closed_late = λ h. omega (arith, k.states.closed_late h);
            closed_last = k.states.closed_last;
            ended_terminated = e;
          };
          named = k.named;
          gap_is = k.gap_is;
        }

  pub holds_it : (i : ℕ) → 2 ≤ rank p.state → i ≡ chosen.identifier → is_held p.held i ≡ true
  holds_it i two e = rw (k.states.name two) (eq-eqb i chosen.identifier e)

  -- a frame about the sequence that is held
  held_then :
      (i : ℕ) (t : Bool) (x : Acted Form) → t ≡ true → Heard chosen ls p o x →
      Heard chosen ls p o (cond t x (sources.refuses p (refusal.Identifier i)))
  held_then i true x e h = h
  held_then i false x e h = absurd (false≢true e)

  none_then :
      (upper : Option ℕ) (f : Form) (rs : List Range) (c : ℕ) (next : PlannerState) → upper ≡ None →
      Core chosen ls (receives rs c next p) o → rank p.state ≤ rank next →
      Heard chosen ls p o (takes_if upper f rs c next p)
  none_then None f rs c next e core up =
      record { core = core; grows = grows_state ls p (receives rs c next p) o (λ _. up); told = (f, refl) }
  none_then (Some u) f rs c next e core up = nowhere u (sym e)

  takes_heard :
      (f : Form) (i : ℕ) (rs : List Range) (c : ℕ) (next : PlannerState) → ascending 1 rs ≡ true →
      ReceiptOK chosen p o i rs c → rank p.state ≤ rank next → (6 ≤ rank next → 3 ≤ height o.state) →
      Heard chosen ls p o (cond (is_held p.held i) (takes f rs c next p) (sources.refuses p (refusal.Identifier i)))
  takes_heard f i rs c next up ok le e =
      held_then i (is_held p.held i) (takes f rs c next p) (holds_it i ok.3 ok.0)
      (none_then (first_above rs p.written) f rs c next
      (none_above p.written 1 rs up (λ n h. rw k.wrote.count (accepted_written chosen ls p o k n (ok.1 n h))))
      (receives_core rs c ok.1 next ok.2 ok.3 le e) le)

  -- only the state changes
  state_heard :
      (i : ℕ) (s : PlannerState) → 2 ≤ rank p.state → i ≡ chosen.identifier → rank p.state ≤ rank s →
      (6 ≤ rank s → 3 ≤ height o.state) →
      Heard chosen ls p o (cond (is_held p.held i) (sources.done (in_state s p) form.SequenceFault) (sources.refuses p (refusal.Identifier i)))
  state_heard i s two e up g =
      held_then i (is_held p.held i) (sources.done (in_state s p) form.SequenceFault) (holds_it i two e)
      (record { core = core_state chosen v ls p o k s up g (λ _. two); grows = grows_state ls p (in_state s p) o (λ _. up); told = (form.SequenceFault, refl) })

  -- form 2 and CreateSequenceRefused: something happens in Creating only
  creating_heard :
      (q : Source) (f : Form) (t : Bool) → (t ≡ true → rank p.state ≡ 1) →
      (rank p.state ≡ 1 → Core chosen ls q o) → Heard chosen ls p o (sources.done (cond t q p) f)
  creating_heard q f true one h =
      record { core = h (one refl); grows = grows_state ls p q o (λ two. absurd (let z : ⊥ = omega (arith, one refl) in z)); told = (f, refl) }
  creating_heard q f false one h = record { core = k; grows = grows_same ls p o; told = (f, refl) }

  closed_up : (rank p.state ≤ rank (once_closed p.state)) × (6 ≤ rank (once_closed p.state) → 6 ≤ rank p.state)
  closed_up =
      cond_both (eqb (rank p.state) 3) state.Closed p.state (λ (x : PlannerState). (rank p.state ≤ rank x) × (6 ≤ rank x → 6 ≤ rank p.state))
      (λ e. let z = eqb-true (rank p.state) 3 e in (omega arith, omega arith)) (λ e. (omega arith, λ h. h))

  ended_up : rank p.state ≤ rank (once_ended p.state)
  ended_up =
      cond_both (eqb (rank p.state) 5) state.Ended p.state (λ (x : PlannerState). rank p.state ≤ rank x)
      (λ e. let z = eqb-true (rank p.state) 5 e in omega arith) (λ e. omega arith)

  shut_up : (rank p.state ≤ rank (once_shut p.state)) × (6 ≤ rank (once_shut p.state) → 6 ≤ rank p.state)
  shut_up =
      let P : PlannerState → Type 0 = λ (x : PlannerState). (rank p.state ≤ rank x) × (6 ≤ rank x → 6 ≤ rank p.state) in
      cond_both (eqb (rank p.state) 2) state.Closed (cond (eqb (rank p.state) 3) state.Closed p.state) P
      (λ e. let z = eqb-true (rank p.state) 2 e in (omega arith, omega arith))
      (λ e. closed_up)

  rank_few : (s : PlannerState) → rank s ≤ 6
  rank_few state.None = omega arith
  rank_few state.Creating = omega arith
  rank_few state.Created = omega arith
  rank_few state.Closing = omega arith
  rank_few state.Closed = omega arith
  rank_few state.Terminating = omega arith
  rank_few state.Ended = omega arith

  lost_up : rank p.state ≤ rank (once_lost p.state)
  lost_up =
      cond_both (leb 2 (rank p.state)) state.Ended p.state (λ (x : PlannerState). rank p.state ≤ rank x)
      (λ e. rank_few p.state) (λ e. omega arith)

  created_core :
      (i : ℕ) → i ≡ chosen.identifier → 1 ≤ height o.state → rank p.state ≡ 1 →
      Core chosen ls (created i p) o
  created_core i e one r =
      record {
        wrote = k.wrote;
        took = k.took;
        tied = record { held = k.tied.held; below = k.tied.below; credit = omega arith };
        states = record {
          name = λ h. ap (λ (n : ℕ). Some n) e;
          begun = λ h. one;
          closed_late = λ h. (let z = k.states.closed_late h in absurd (let y : ⊥ = omega arith in y));
          closed_last = k.states.closed_last;
          ended_terminated = λ h. absurd (let y : ⊥ = omega arith in y);
        };
        named = k.named;
        gap_is = k.gap_is;
      }

  refused_core : rank p.state ≡ 1 → Core chosen ls (in_state state.None p) o
  refused_core r =
      record {
        wrote = k.wrote;
        took = k.took;
        tied = k.tied;
        states = record {
          name = λ h. absurd (let y : ⊥ = omega arith in y);
          begun = λ h. absurd (let y : ⊥ = omega arith in y);
          closed_late = λ h. (let z = k.states.closed_late h in absurd (let y : ⊥ = omega arith in y));
          closed_last = k.states.closed_last;
          ended_terminated = λ h. absurd (let y : ⊥ = omega arith in y);
        };
        named = k.named;
        gap_is = k.gap_is;
      }

  pub hears_keeps : (m : Meaning) → Proper m → BackOK chosen p o m → Heard chosen ls p o (hears m p)
  unfolding Proper
  hears_keeps create_sequence y x = absurd x
  hears_keeps (create_sequence_response i) y x =
      creating_heard (created i p) form.CreateSequenceResponse (eqb (rank p.state) 1) (eqb-true (rank p.state) 1) (created_core i x.0 x.1)
  hears_keeps (sequence i n l) y x = absurd x
  hears_keeps (ack_requested i) y x = absurd x
  hears_keeps (sequence_acknowledgement i rs final c) y x =
      takes_heard form.SequenceAcknowledgement i rs c p.state y.2 x (omega arith) k.states.ended_terminated
  hears_keeps (close_sequence i last) y x = absurd x
  hears_keeps (close_sequence_response i rs c) y x =
      takes_heard form.CloseSequenceResponse i rs c (once_closed p.state) y.2 x closed_up.0 (λ h. k.states.ended_terminated (closed_up.1 h))
  hears_keeps (terminate_sequence i last) y x = absurd x
  hears_keeps (terminate_sequence_response i rs c) y x =
      takes_heard form.TerminateSequenceResponse i rs c (once_ended p.state) y.2 x.0 ended_up (λ h. x.1)
  hears_keeps (sequence_fault (unknown_sequence i)) y x = absurd x
  hears_keeps (sequence_fault (sequence_terminated i)) y x =
      state_heard i (once_lost p.state) x.2 x.0 lost_up (λ h. x.1)
  hears_keeps (sequence_fault (sequence_closed i)) y x =
      state_heard i (once_shut p.state) (omega arith) x.0 shut_up.0 (λ h. k.states.ended_terminated (shut_up.1 h))
  hears_keeps (sequence_fault create_sequence_refused) y x =
      creating_heard (in_state state.None p) form.SequenceFault (eqb (rank p.state) 1) (eqb-true (rank p.state) 1) refused_core
