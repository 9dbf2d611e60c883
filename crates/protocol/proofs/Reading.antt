-- What the office's end reads keeps the invariant.
use Rattle.std.proofs.Common.{◌≡◌, ℕ, ◌+◌, ◌<◌, ◌≤◌, Bool, true, false, cond, ◌&&◌, eqb, ltb, leb, List, length, get_or, set, Some, None, Ok, sym, refl, ap, ◌∙◌, inl, inr, arith}
use Rattle.std.proofs.lemmas.List.{get_or-set_same, get_or-set_other, length-set}
use Rattle.std.proofs.lemmas.Bool.{false≢true, and_parts, and_cases, leb-false, ltb-true, leb-true, eq-eqb, cases_eq}
use Rattle.frame.specs.Bounds.{M, IsIdentifier, number_of}
use Rattle.frame.specs.Meanings.{Meaning, create_sequence, create_sequence_response, sequence, ack_requested, sequence_acknowledgement, close_sequence, close_sequence_response, terminate_sequence, terminate_sequence_response, sequence_fault, sequence_terminated, sequence_closed, create_sequence_refused, IsReceipt, Proper}
use Rattle.office.specs.Accepted.{Exact}
use Rattle.office.specs.Destinations.{Destination, with_state, is_new, accepts, ranges_of, credit_of, acknowledgement, close_response, terminate_response}
use Rattle.office.specs.Places.{has_place, place_of, kept, is_free}
use Rattle.office.specs.Reads.{Step, Answer, Reading, replies, on_admits, on_create, on_letter, on_ask, on_close, on_terminate, last_of, known, unless_same, heeds, takes, reads, reply_of}
use Rattle.office.specs.declared.state.OfficeState.{OfficeState}
use Rattle.office.specs.declared.state.OfficeState.TheVariants as state
use Rattle.office.proofs.ReadLaws.{keeps_accepts, keeps_state}
use Rattle.office.proofs.Receipts as office-proofs
use Rattle.office.proofs.Receipts.{exact}
use Rattle.planner.specs.Settings.{Chosen}
use Rattle.planner.specs.Sources.{Source}
use Rattle.planner.specs.States.{rank}
use Rattle.planner.specs.Windows.{Slot, free, waiting, receipted}
use Rattle.protocol.specs.Lines.{Valid}
use Rattle.protocol.specs.Tallies.{Letter, letter_at}
use Rattle.protocol.proofs.Hearing.{some_of}
use Rattle.protocol.proofs.Invariant.{
  Holds,
  Took,
  Tied,
  States,
  Core,
  OutOK,
  BackOK,
  ReceiptOK,
  Accepted,
  Grows,
  height,
  grows_same,
}
use Rattle.protocol.proofs.Letters.{at_within}
use Rattle.protocol.proofs.Waiting.{PutOK}

-- what the planner's end knows stays true as more is accepted

holds_grows :
    (ls : List Letter) (o o' : Destination) (n : ℕ) (s : Slot) → (Accepted o n → Accepted o' n) →
    Holds ls o n s → Holds ls o' n s
holds_grows ls o o' n free g h = h
holds_grows ls o o' n (waiting l sent) g h = h
holds_grows ls o o' n receipted g h = g h

pub tied_grows :
    (ls : List Letter) (o o' : Destination) (c low : ℕ) (w : List Slot) →
    ((n : ℕ) → Accepted o n → Accepted o' n) → o.delivered ≤ o'.delivered → Tied ls o c low w →
    Tied ls o' c low w
tied_grows ls o o' c low w g d t =
    record {
      held = λ j. holds_grows ls o o' (low + j) (get_or w j free) (g (low + j)) (t.held j);
      below = λ n x y. g n (t.below n x y);
      credit = omega (arith, t.credit);
    }

-- one letter into its place

module _ (ls : List Letter) (o : Destination) (n : ℕ) (l : Letter) (t : Took ls o.delivered o.places) (is : letter_at ls n ≡ Some l) where
  abbrev at : ℕ
  at = place_of o.delivered n

  kept_place :
      (b : Bool) → (b ≡ true → (o.delivered < n) × (n ≤ o.delivered + 8)) →
      Took ls o.delivered (kept b o.places at l)
  kept_place false room = t
  kept_place true room =
      let r = room refl in
      record {
        eight = length-set o.places at (Some l) ∙ t.eight;
        kept = λ j x e. elim (cases_eq j at) [
          | inl same ↦
              (let z : o.delivered + 1 + j ≡ n = omega arith in
              let y : get_or (set o.places at (Some l)) j None ≡ Some l = rw same (get_or-set_same o.places at (Some l) None (omega (arith, t.eight))) in
              ap (letter_at ls) z ∙ (is ∙ (sym y ∙ e)))
          | inr other ↦ t.kept j x (sym (get_or-set_other o.places at j (Some l) None other) ∙ e)
        ];
        delivered = t.delivered;
      }

room : (o : Destination) (n : ℕ) → is_new o n ≡ true → (o.delivered < n) × (n ≤ o.delivered + 8)
room o n e =
    let q = and_parts (has_place o.delivered n) (is_free (get_or o.places (place_of o.delivered n) None)) e in
    let r = and_parts (ltb o.delivered n) (leb n (o.delivered + 8)) q.0 in
    (ltb-true o.delivered n r.0, leb-true n (o.delivered + 8) r.1)

took_accepts :
    (ls : List Letter) (o : Destination) (n : ℕ) (l : Letter) → Took ls o.delivered o.places →
    letter_at ls n ≡ Some l → Took ls (accepts o n l).delivered (accepts o n l).places
unfolding accepts
took_accepts ls o n l t is = kept_place ls o n l t is (is_new o n) (room o n)

-- all but the places is as before

pub record SameBut (o o' : Destination) : Type 0 where
  pub state : o'.state ≡ o.state
  pub identifier : o'.identifier ≡ o.identifier
  pub delivered : o'.delivered ≡ o.delivered
  pub last : o'.last ≡ o.last

pub accepts_same : (o : Destination) (n : ℕ) (l : Letter) → SameBut o (accepts o n l)
unfolding accepts
accepts_same o n l = record { state = refl; identifier = refl; delivered = refl; last = refl }

-- what a step of the office's end does for the invariant
record Stepped (chosen : Chosen) (ls : List Letter) (p : Source) (o : Destination) (s : Step) : Type 0 where
  same_done : s.after.delivered ≡ o.delivered
  core : Core chosen ls p s.after
  grows : Grows ls p o ls p s.after
  put_ok : PutOK (BackOK chosen p s.after) s.reply

pub record Readings (chosen : Chosen) (ls : List Letter) (p : Source) (o : Destination) (r : Reading) : Type 0 where
  pub same_done : r.after.delivered ≡ o.delivered
  pub core : Core chosen ls p r.after
  pub grows : Grows ls p o ls p r.after
  pub put_ok : PutOK (BackOK chosen p r.after) (reply_of r.answer)
  -- it was not refused
  pub told : (x : Answer) × (r.answer ≡ Ok x)

last_number : (n : ℕ) (t : Bool) → (t ≡ false → n ≡ 0) → last_of (cond t (Some n) None) ≡ n
last_number n true h = refl
last_number n false h = sym (h refl)

module _ (chosen : Chosen) (v : Valid chosen) (ls : List Letter) (p : Source) (o : Destination) (k : Core chosen ls p o) where
  few_letters : length ls ≤ M
  few_letters = omega (arith, k.wrote.count, k.wrote.limited, k.wrote.limit_is, v.limit)

  last_is : last_of (number_of (length ls)) ≡ p.written
  last_is =
      last_number (length ls) (leb 1 (length ls) && leb (length ls) M)
      (λ e. elim (and_cases (leb 1 (length ls)) (leb (length ls) M) e) [
        | inl x ↦ (let z = leb-false 1 (length ls) x in omega arith)
        | inr x ↦ (let z = leb-false (length ls) M x in let y = few_letters in absurd (let b : ⊥ = omega arith in b))
      ]) ∙ sym k.wrote.count

  sound_of : (q : Destination) → Took ls q.delivered q.places → office-proofs.Sound q
  sound_of q t =
      record {
        eight = t.eight;
        counted = omega (arith, few_letters, t.delivered);
        numbered = λ j e.
            (let l = some_of (get_or q.places j None) e in
            let y = at_within ls (q.delivered + 1 + j) l.0 (t.kept j l.0 l.1) in
            omega (arith, few_letters));
      }

  -- another office's end that has accepted as much or more
  office_core :
      (q : Destination) → Took ls q.delivered q.places → q.delivered ≡ o.delivered →
      q.identifier ≡ o.identifier → ((n : ℕ) → Accepted o n → Accepted q n) →
      States chosen p.state p.held p.written q.state q.last → Core chosen ls p q
  office_core q t d i g s =
      record {
        wrote = k.wrote;
        took = t;
        tied = tied_grows ls o q p.credit p.lowest p.window g (omega arith) k.tied;
        states = s;
        named = i ∙ k.named;
        gap_is = k.gap_is;
      }

  office_grows :
      (q : Destination) → q.delivered ≡ o.delivered → height o.state ≤ height q.state →
      ((n : ℕ) → Accepted o n → Accepted q n) → Grows ls p o ls p q
  office_grows q d h g =
      record { letters = λ n l x. x; frozen = λ x. refl; states = λ x. omega arith; delivered = omega arith; heights = h; accepted = g }

  -- the receipt of such an end may wait
  module _ (q : Destination) (c : Core chosen ls p q) (two : 2 ≤ rank p.state) where
    pub exactly : Exact q (ranges_of q) (credit_of q)
    exactly = exact q (sound_of q c.took)

    pub receipt_proper : IsReceipt q.identifier (ranges_of q) (credit_of q)
    receipt_proper =
        let top = few_letters in
        (rw c.named v.identifier, exactly.few, exactly.apart, (omega arith, omega arith))

    receipt_ok : ReceiptOK chosen p q q.identifier (ranges_of q) (credit_of q)
    receipt_ok = (c.named, λ n h. sym (exactly.names n) ∙ h, omega arith, two)

  answered :
      (q : Destination) (reply : Meaning) → q.delivered ≡ o.delivered → Core chosen ls p q →
      Grows ls p o ls p q → Proper reply → BackOK chosen p q reply → Stepped chosen ls p o (replies q reply)
  answered q reply d c g x y = record { same_done = d; core = c; grows = g; put_ok = (x, y) }

  -- nothing changes
  stayed : (reply : Meaning) → Proper reply → BackOK chosen p o reply → Stepped chosen ls p o (replies o reply)
  stayed reply x y = answered o reply refl k (grows_same ls p o) x y

  -- another state
  state_core :
      (s : OfficeState) (m : ℕ) → height o.state ≤ height s →
      (2 ≤ height s → (3 ≤ rank p.state) × (m ≡ p.written)) → Core chosen ls p (with_state o s m)
  state_core s m a b =
      office_core (with_state o s m) k.took refl refl (keeps_state o s m)
      (record {
        name = k.states.name;
        begun = λ x. omega (arith, k.states.begun x);
        closed_late = λ x. (b x).0;
        closed_last = λ x. (b x).1;
        ended_terminated = λ x. omega (arith, k.states.ended_terminated x);
      })

  moved :
      (s : OfficeState) (m : ℕ) (reply : Meaning) → height o.state ≤ height s →
      (2 ≤ height s → (3 ≤ rank p.state) × (m ≡ p.written)) →
      (Core chosen ls p (with_state o s m) → Proper reply × BackOK chosen p (with_state o s m) reply) →
      Stepped chosen ls p o (replies (with_state o s m) reply)
  moved s m reply a b h =
      let c = state_core s m a b in
      answered (with_state o s m) reply refl c (office_grows (with_state o s m) refl a (keeps_state o s m)) (h c).0 (h c).1

  admits_steps : (t : Bool) → height o.state ≡ 0 → Stepped chosen ls p o (on_admits t o)
  unfolding Proper
  admits_steps true e =
      moved state.Created o.last (create_sequence_response o.identifier) (omega arith) (λ x. absurd (let z : ⊥ = omega arith in z))
      (λ c. (rw k.named v.identifier, (k.named, omega arith)))
  admits_steps false e = stayed (sequence_fault create_sequence_refused) tt tt

  create_steps : (s : OfficeState) → o.state ≡ s → Stepped chosen ls p o (on_create s o)
  unfolding Proper
  create_steps state.None e = admits_steps o.admits (ap height e)
  create_steps state.Created e =
      stayed (create_sequence_response o.identifier) (rw k.named v.identifier) (k.named, rw e (omega arith))
  create_steps state.Closed e = stayed (sequence_fault create_sequence_refused) tt tt
  create_steps state.Terminated e = stayed (sequence_fault create_sequence_refused) tt tt

  -- a sequence is created before anything of it is sent
  not_none : {A : Type 0} → o.state ≡ state.None → 2 ≤ rank p.state → A
  not_none e two = let z = ap height e in let y = k.states.begun two in absurd (let b : ⊥ = omega arith in b)

  named_proper : (i : ℕ) → i ≡ chosen.identifier → IsIdentifier i
  named_proper i e = rw e v.identifier

  pub accepts_core : (n : ℕ) (l : Letter) → letter_at ls n ≡ Some l → Core chosen ls p (accepts o n l)
  accepts_core n l is =
      let s = accepts_same o n l in
      office_core (accepts o n l) (took_accepts ls o n l k.took is) s.delivered s.identifier (keeps_accepts o n l)
      (rw (s.state, s.last) k.states)

  letter_steps :
      (s : OfficeState) (i n : ℕ) (l : Letter) → o.state ≡ s → i ≡ chosen.identifier →
      letter_at ls n ≡ Some l → 2 ≤ rank p.state → Stepped chosen ls p o (on_letter s o i n l)
  unfolding Proper
  letter_steps state.None i n l e q x two = not_none e two
  letter_steps state.Created i n l e q x two =
      let s = accepts_same o n l in
      let c = accepts_core n l x in
      answered (accepts o n l) (acknowledgement (accepts o n l)) s.delivered c (office_grows (accepts o n l) s.delivered (rw s.state (omega arith)) (keeps_accepts o n l)) (receipt_proper (accepts o n l) c two) (receipt_ok (accepts o n l) c two)
  letter_steps state.Closed i n l e q x two =
      stayed (sequence_fault (sequence_closed i)) (named_proper i q) (q, (let z = ap height e in k.states.closed_late (omega arith)))
  letter_steps state.Terminated i n l e q x two =
      stayed (sequence_fault (sequence_terminated i)) (named_proper i q) (q, (let z = ap height e in omega arith), two)

  ask_steps :
      (s : OfficeState) (i : ℕ) → o.state ≡ s → i ≡ chosen.identifier → 2 ≤ rank p.state →
      Stepped chosen ls p o (on_ask s o i)
  unfolding Proper
  ask_steps state.None i e q two = not_none e two
  ask_steps state.Created i e q two = stayed (acknowledgement o) (receipt_proper o k two) (receipt_ok o k two)
  ask_steps state.Closed i e q two = stayed (acknowledgement o) (receipt_proper o k two) (receipt_ok o k two)
  ask_steps state.Terminated i e q two =
      stayed (sequence_fault (sequence_terminated i)) (named_proper i q) (q, (let z = ap height e in omega arith), two)

  close_steps :
      (s : OfficeState) (i m : ℕ) → o.state ≡ s → i ≡ chosen.identifier → m ≡ p.written →
      3 ≤ rank p.state → Stepped chosen ls p o (on_close s o i m)
  unfolding Proper
  close_steps state.None i m e q x three = not_none e (omega arith)
  close_steps state.Created i m e q x three =
      let z = ap height e in
      let two : 2 ≤ rank p.state = omega arith in
      moved state.Closed m (close_response (with_state o state.Closed m)) (omega arith) (λ _. (three, x))
      (λ c. (receipt_proper (with_state o state.Closed m) c two, receipt_ok (with_state o state.Closed m) c two))
  close_steps state.Closed i m e q x three =
      let z = ap height e in
      let two : 2 ≤ rank p.state = omega arith in
      moved state.Closed o.last (close_response (with_state o state.Closed o.last)) (omega arith) (λ _. (three, k.states.closed_last (omega arith)))
      (λ c. (receipt_proper (with_state o state.Closed o.last) c two, receipt_ok (with_state o state.Closed o.last) c two))
  close_steps state.Terminated i m e q x three =
      stayed (sequence_fault (sequence_terminated i)) (named_proper i q) (q, (let z = ap height e in omega arith), omega arith)

  -- the sequence is over at the office's end
  over :
      (m : ℕ) → 3 ≤ rank p.state → m ≡ p.written → height o.state ≤ 3 →
      Stepped chosen ls p o (replies (with_state o state.Terminated m) (terminate_response (with_state o state.Terminated m)))
  unfolding Proper
  over m three x few =
      let two : 2 ≤ rank p.state = omega arith in
      moved state.Terminated m (terminate_response (with_state o state.Terminated m)) few (λ _. (three, x))
      (λ c. (receipt_proper (with_state o state.Terminated m) c two, (receipt_ok (with_state o state.Terminated m) c two, omega arith)))

  terminate_steps :
      (s : OfficeState) (i m : ℕ) → o.state ≡ s → i ≡ chosen.identifier → m ≡ p.written →
      3 ≤ rank p.state → Stepped chosen ls p o (on_terminate s o i m)
  terminate_steps state.None i m e q x three = not_none e (omega arith)
  terminate_steps state.Created i m e q x three = let z = ap height e in over m three x (omega arith)
  terminate_steps state.Closed i m e q x three =
      let z = ap height e in over o.last three (k.states.closed_last (omega arith)) (omega arith)
  terminate_steps state.Terminated i m e q x three =
      let z = ap height e in over o.last three (k.states.closed_last (omega arith)) (omega arith)

  -- a frame about this sequence
  mine :
      (i : ℕ) (m : Meaning) (b : Bool) → b ≡ true → Stepped chosen ls p o (heeds o m) →
      Stepped chosen ls p o (known (unless_same b i) o m)
  mine i m true e s = s
  mine i m false e s = absurd (false≢true e)

  same_name : (i : ℕ) → i ≡ chosen.identifier → eqb i o.identifier ≡ true
  same_name i e = eq-eqb i o.identifier (e ∙ sym k.named)

  steps : (m : Meaning) → OutOK chosen ls p o m → Stepped chosen ls p o (takes o m)
  steps create_sequence x = create_steps o.state refl
  steps (create_sequence_response i) x = absurd x
  steps (sequence i n l) x =
      mine i (sequence i n l) (eqb i o.identifier) (same_name i x.0) (letter_steps o.state i n l refl x.0 x.1 x.3)
  steps (ack_requested i) x =
      mine i (ack_requested i) (eqb i o.identifier) (same_name i x.0) (ask_steps o.state i refl x.0 x.1)
  steps (sequence_acknowledgement i rs final c) x = absurd x
  steps (close_sequence i last) x =
      mine i (close_sequence i last) (eqb i o.identifier) (same_name i x.0) (close_steps o.state i (last_of last) refl x.0 (rw x.1 last_is) x.2)
  steps (close_sequence_response i rs c) x = absurd x
  steps (terminate_sequence i last) x =
      mine i (terminate_sequence i last) (eqb i o.identifier) (same_name i x.0) (terminate_steps o.state i (last_of last) refl x.0 (rw x.1 last_is) x.2)
  steps (terminate_sequence_response i rs c) x = absurd x
  steps (sequence_fault f) x = absurd x

  pub reads_keeps : (m : Meaning) → OutOK chosen ls p o m → Readings chosen ls p o (reads o m)
  unfolding reads
  reads_keeps m x =
      let s = steps m x in
      record { same_done = s.same_done; core = s.core; grows = s.grows; put_ok = s.put_ok; told = (_, refl) }
