-- Hear, until nothing comes: every receipt that waits is taken in.
use Rattle.std.proofs.Common.{◌≡◌, ℕ, suc, ◌+◌, ◌≤◌, Bool, true, false, cond, eqb, ◌⊎◌, List, [], ◌∷◌, length, get_or, Ok, Option, sym, refl, ap, ◌∙◌, subst, inl, inr, arith}
use Rattle.std.proofs.lemmas.List.{nil_from_length}
use Rattle.std.proofs.lemmas.Bool.{false≢true, ne_eqb, cond-false}
use Rattle.answer.specs.declared.answer.Answer.{Answer}
use Rattle.answer.specs.declared.turn.Phase.{Phase}
use Rattle.frame.specs.Ascending.{ascending}
use Rattle.frame.specs.Meanings.{
  Meaning,
  create_sequence,
  create_sequence_response,
  sequence,
  ack_requested,
  sequence_acknowledgement,
  close_sequence,
  close_sequence_response,
  terminate_sequence,
  terminate_sequence_response,
  sequence_fault,
  unknown_sequence,
  sequence_terminated,
  sequence_closed,
  create_sequence_refused,
  Proper,
}
use Rattle.frame.specs.declared.form.Form.{Form}
use Rattle.frame.specs.declared.form.Form.TheVariants as form
use Rattle.frame.specs.declared.range.Range.{Range}
use Rattle.grammar.specs.Grammar.{reading}
use Rattle.office.specs.Destinations.{Destination}
use Rattle.planner.specs.Hearing.{once_closed, takes, is_held, hears, hears_read}
use Rattle.frame.specs.Covers.{covers}
use Rattle.planner.specs.Receipts.{marked, with_receipts, in_front, slid, receives}
use Rattle.planner.specs.Settings.{Chosen}
use Rattle.planner.specs.Sources as sources
use Rattle.planner.specs.Sources.{Source, in_state}
use Rattle.planner.specs.States.{rank}
use Rattle.planner.specs.Windows.{Slot, free, waiting, receipted}
use Rattle.planner.specs.declared.refusal.PlannerRefusal.TheVariants as refusal
use Rattle.planner.specs.declared.state.PlannerState.{PlannerState}
use Rattle.planner.specs.declared.state.PlannerState.TheVariants as state
use Rattle.planner.proofs.Windows.{slid_at}
use Rattle.transport.specs.Meaning.{Bytes, Frames}
use Rattle.protocol.specs.Calls as call
use Rattle.protocol.specs.Lines.{Over, Line, Valid}
use Rattle.protocol.specs.Steps.{Hears, HearsNothing}
use Rattle.protocol.specs.Tallies.{Letter}
use Rattle.protocol.specs.Turns.{Until, enough, last, again}
use Rattle.protocol.proofs.Fifo.{Waits, waits_pop, has_none, none_new}
use Rattle.protocol.proofs.Hearing.{holds_it, none_above, accepted_written, marks_at}
use Rattle.protocol.proofs.Invariant.{Core, BackOK, ReceiptOK}
use Rattle.protocol.proofs.Living.{Live, live_hears, live_hears_nothing, hear_cases, hears_on}
use Rattle.protocol.proofs.ReadPhase.{Covered, Credited, left_more}
use Rattle.protocol.proofs.SendPhase.{Each, After}
use Rattle.protocol.proofs.Texts.{read_as}

-- What holds of each number of the window, once receipts came and the window moved on.

marks_each :
    (P Q : ℕ → Slot → Type 0) (rs : List Range) (low : ℕ) (w : List Slot) →
    ((n : ℕ) (s : Slot) → P n s → Q n (marked (covers rs n) s)) → Each P low w →
    Each Q low (with_receipts rs low w)
marks_each P Q rs low w f h j =
    subst (Q (low + j)) (sym (marks_at rs low j w)) (f (low + j) (get_or w j free) (h j))

slid_each : (P : ℕ → Slot → Type 0) (low f : ℕ) (w : List Slot) → Each P low w → Each P (low + f) (slid f w)
slid_each P low f w h j =
    let z : low + (j + f) ≡ low + f + j = omega arith in
    subst (λ (n : ℕ). P n (get_or (slid f w) j free)) z (subst (P (low + (j + f))) (sym (slid_at f w j)) (h (j + f)))

module _ (chosen : Chosen) (clock c : ℕ) where
  mark_waiting :
      (O O' : ℕ → Type 0) (n : ℕ) (l : Letter) (at : Option ℕ) (b : Bool) → (O n → (b ≡ true) ⊎ O' n) →
      After chosen clock c O n (waiting l at) → After chosen clock c O' n (marked b (waiting l at))
  mark_waiting O O' n l at true f h = tt
  mark_waiting O O' n l at false f (inl x) = inl x
  mark_waiting O O' n l at false f (inr x) = elim (f x) [ inl y ↦ absurd (false≢true y) | inr y ↦ inr y ]

  mark_after :
      (O O' : ℕ → Type 0) (rs : List Range) → ((m : ℕ) → O m → (covers rs m ≡ true) ⊎ O' m) →
      (n : ℕ) (s : Slot) → After chosen clock c O n s → After chosen clock c O' n (marked (covers rs n) s)
  mark_after O O' rs f n free h = tt
  mark_after O O' rs f n (waiting l at) h = mark_waiting O O' n l at (covers rs n) (f n) h
  mark_after O O' rs f n receipted h = tt

  after_map :
      (O O' : ℕ → Type 0) → ((m : ℕ) → O m → O' m) → (n : ℕ) (s : Slot) → After chosen clock c O n s →
      After chosen clock c O' n s
  after_map O O' f n free h = tt
  after_map O O' f n (waiting l at) (inl x) = inl x
  after_map O O' f n (waiting l at) (inr x) = inr (f n x)
  after_map O O' f n receipted h = tt

  pub after_each :
      (O O' : ℕ → Type 0) → ((m : ℕ) → O m → O' m) → (low : ℕ) (w : List Slot) →
      Each (After chosen clock c O) low w → Each (After chosen clock c O') low w
  after_each O O' f low w h j = after_map O O' f (low + j) (get_or w j free) (h j)

-- What an open planner's end makes of a frame: nothing, or it takes a receipt in.

record Idle (p : Source) (m : Meaning) : Type 0 where
  same : (hears m p).source ≡ p
  other : (i : ℕ) (rs : List Range) (final : Bool) (c : ℕ) → m ≡ sequence_acknowledgement i rs final c → ⊥

record Absorbed (p : Source) (m : Meaning) : Type 0 where
  ranges : List Range
  credit : ℕ
  next_is : (hears m p).source ≡ receives ranges credit p.state p
  names :
      (j : ℕ) (rs : List Range) (final : Bool) (c : ℕ) → m ≡ sequence_acknowledgement j rs final c →
      (ranges ≡ rs) × (credit ≡ c)

module _ (chosen : Chosen) (v : Valid chosen) (ls : List Letter) (p : Source) (o : Destination) (k : Core chosen ls p o) (r : rank p.state ≡ 2) where
  takes_is :
      (f : Form) (i : ℕ) (rs : List Range) (c : ℕ) (next : PlannerState) → ascending 1 rs ≡ true →
      ReceiptOK chosen p o i rs c →
      (cond (is_held p.held i) (takes f rs c next p) (sources.refuses p (refusal.Identifier i))).source ≡ receives rs c next p
  takes_is f i rs c next up ok =
      rw (holds_it chosen v ls p o k i ok.3 ok.0, none_above p.written 1 rs up (λ n h. rw k.wrote.count (accepted_written chosen ls p o k n (ok.1 n h)))) refl

  not_creating : eqb (rank p.state) 1 ≡ false
  not_creating = ne_eqb (rank p.state) 1 (λ e. omega arith)

  still_open : once_closed p.state ≡ p.state
  still_open = cond-false (eqb (rank p.state) 3) state.Closed p.state (ne_eqb (rank p.state) 3 (λ e. omega arith))

  hear_case : (m : Meaning) → Proper m → BackOK chosen p o m → Idle p m ⊎ Absorbed p m
  unfolding Proper
  hear_case create_sequence y x = absurd x
  hear_case (create_sequence_response i) y x =
      inl (record { same = rw not_creating refl; other = λ j rs final c e. (let z : ◌≡◌ {A = ℕ} 0 1 = cc in omega arith) })
  hear_case (sequence i n l) y x = absurd x
  hear_case (ack_requested i) y x = absurd x
  hear_case (sequence_acknowledgement i rs final c) y x =
      inr (record { ranges = rs; credit = c; next_is = takes_is form.SequenceAcknowledgement i rs c p.state y.2 x; names = λ j qs g d e. (cc, cc) })
  hear_case (close_sequence i n) y x = absurd x
  hear_case (close_sequence_response i rs c) y x =
      inr (record {
        ranges = rs;
        credit = c;
        next_is = takes_is form.CloseSequenceResponse i rs c (once_closed p.state) y.2 x ∙ ap (λ (s : PlannerState). receives rs c s p) still_open;
        names = λ j qs g d e. absurd (let z : ◌≡◌ {A = ℕ} 0 1 = cc in let b : ⊥ = omega arith in b);
      })
  hear_case (terminate_sequence i n) y x = absurd x
  hear_case (terminate_sequence_response i rs c) y x =
      let q = k.states.closed_late (omega (arith, x.1)) in absurd (let z : ⊥ = omega arith in z)
  hear_case (sequence_fault (unknown_sequence i)) y x = absurd x
  hear_case (sequence_fault (sequence_terminated i)) y x =
      let q = k.states.closed_late (omega (arith, x.1)) in absurd (let z : ⊥ = omega arith in z)
  hear_case (sequence_fault (sequence_closed i)) y x = absurd (let z : ⊥ = omega (arith, x.1) in z)
  hear_case (sequence_fault create_sequence_refused) y x =
      inl (record { same = rw not_creating refl; other = λ j rs final c e. (let z : ◌≡◌ {A = ℕ} 0 1 = cc in omega arith) })

-- one reading of the same bytes
same_frame : (bytes : Bytes) (m n : Meaning) → reading bytes ≡ Ok m → reading bytes ≡ Ok n → m ≡ n
same_frame bytes m n x y = cc

module _ (w : Over) (chosen : Chosen) (v : Valid chosen) (ls : List Letter) (clock c : ℕ) (deep : 32 ≤ w.depth_back) where
  abbrev i : ℕ
  i = chosen.identifier

  abbrev pub OnTheWay : Line → Type 0
  OnTheWay L = Each (After chosen clock c (Covered i L.back)) L.planner.lowest L.planner.window

  pub record Hearing (L M : Line) (k : ℕ) : Type 0 where
    pub live : Live chosen ls M
    pub office : M.office ≡ L.office
    pub page : M.page ≡ L.page
    pub out : M.out ≡ L.out
    pub written : M.planner.written ≡ L.planner.written
    pub left : (length M.back + k ≤ length L.back) ⊎ (length M.back ≡ 0)
    pub each : OnTheWay L → OnTheWay M
    pub credit :
        (n : ℕ) → (n ≤ L.planner.credit) ⊎ Credited i L.back n →
        (n ≤ M.planner.credit) ⊎ Credited i M.back n

  module _ (L K : Line) (live : Live chosen ls L) (bytes : Bytes) (a : Answer) (t : Hears w bytes L a K) (m : Meaning) (e : reading bytes ≡ Ok m) where
    abbrev p : Source
    p = L.planner

    taken : L.back ≡ bytes ∷ K.back
    taken = t.got.taken (omega arith)

    -- a receipt that waited is this frame, or still waits
    popped :
        (rs : List Range) (final : Bool) (d : ℕ) → Waits (sequence_acknowledgement i rs final d) L.back →
        (m ≡ sequence_acknowledgement i rs final d) ⊎ Waits (sequence_acknowledgement i rs final d) K.back
    popped rs final d x =
        elim (waits_pop (sequence_acknowledgement i rs final d) bytes K.back (subst (Waits (sequence_acknowledgement i rs final d)) taken x)) [
          | inl y ↦ inl (same_frame bytes m _ e y)
          | inr y ↦ inr y
        ]

    fewer : (length K.back + 1 ≤ length L.back) ⊎ (length K.back ≡ 0)
    fewer = let z = ap length taken in inl (omega arith)

    hears_idle : Idle p m → Hearing L K 1
    hears_idle d =
        let n : (hears_read (reading bytes) p).source ≡ p = rw e d.same in
        let q : K.planner ≡ p = t.planner ∙ n in
        record {
          live = live_hears w chosen v ls L live K bytes a t (rw n live.live);
          office = t.office;
          page = t.page;
          out = t.out;
          written = ap (λ (s : Source). s.written) q;
          left = fewer;
          each = λ h. rw q (after_each chosen clock c (Covered i L.back) (Covered i K.back)
              (λ n x. elim (popped x.0 x.1 x.2 x.3) [ inl y ↦ absurd (d.other i x.0 x.1 x.2 y) | inr y ↦ (x.0, x.1, x.2, y, x.4) ])
              p.lowest p.window h);
          credit = λ n x. elim x [
            | inl y ↦ inl (rw q y)
            | inr y ↦ elim (popped y.0 y.1 y.2 y.3) [ inl z ↦ absurd (d.other i y.0 y.1 y.2 z) | inr z ↦ inr (y.0, y.1, y.2, z, y.4) ]
          ];
        }

    hears_receipt : Absorbed p m → Hearing L K 1
    hears_receipt d =
        let n : (hears_read (reading bytes) p).source ≡ receives d.ranges d.credit p.state p = rw e d.next_is in
        let q : K.planner ≡ receives d.ranges d.credit p.state p = t.planner ∙ n in
        record {
          live = live_hears w chosen v ls L live K bytes a t (rw n live.live);
          office = t.office;
          page = t.page;
          out = t.out;
          written = ap (λ (s : Source). s.written) q;
          left = fewer;
          each = λ h. rw q
              (slid_each (After chosen clock c (Covered i K.back)) p.lowest (in_front (with_receipts d.ranges p.lowest p.window)) (with_receipts d.ranges p.lowest p.window)
              (marks_each (After chosen clock c (Covered i L.back)) (After chosen clock c (Covered i K.back)) d.ranges p.lowest p.window
              (mark_after chosen clock c (Covered i L.back) (Covered i K.back) d.ranges
              (λ n x. elim (popped x.0 x.1 x.2 x.3) [
                | inl y ↦ inl (ap (λ (rs : List Range). covers rs n) (d.names i x.0 x.1 x.2 y).0 ∙ x.4)
                | inr y ↦ inr (x.0, x.1, x.2, y, x.4)
              ])) h));
          credit = λ n x. subst (λ (s : Source). (n ≤ s.credit) ⊎ Credited i K.back n) (sym q)
              (elim x [
                | inl y ↦ inl (omega arith)
                | inr y ↦ elim (popped y.0 y.1 y.2 y.3) [
                  | inl z ↦ (let s = (d.names i y.0 y.1 y.2 z).1 in let u = y.4 in inl (omega arith))
                  | inr z ↦ inr (y.0, y.1, y.2, z, y.4)
                ]
              ]);
        }

  hears_one : (L K : Line) → Live chosen ls L → (bytes : Bytes) (a : Answer) → Hears w bytes L a K → Hearing L K 1
  hears_one L K live bytes a t =
      let s = live.inv.backs bytes t.got.waited in
      let e = read_as _ bytes s in
      elim (hear_case chosen v ls L.planner L.office live.inv.core live.live s.of s.proper s.ok) [
        | inl d ↦ hears_idle L K live bytes a t s.of e d
        | inr d ↦ hears_receipt L K live bytes a t s.of e d
      ]

  module _ (L K : Line) (live : Live chosen ls L) (a : Answer) (t : HearsNothing w L a K) where
    empty : K.back ≡ []
    empty = none_new L.back K.back t.got.nothing_new (t.got.none (omega arith))

    same : K.back ≡ L.back
    same = empty ∙ sym (t.got.none (omega arith))

    hears_nothing : Hearing L K 1
    hears_nothing =
        record {
          live = live_hears_nothing w chosen v ls L live K a t;
          office = t.office;
          page = t.page;
          out = t.out;
          written = ap (λ (s : Source). s.written) t.planner;
          left = inr (ap length empty);
          each = λ h. rw (t.planner, same) h;
          credit = λ n x. rw (t.planner, same) x;
        }

  hears_more : (L K M : Line) (n : ℕ) → Hearing L K 1 → Hearing K M n → Hearing L M (suc n)
  hears_more L K M n a b =
      record {
        live = b.live;
        office = b.office ∙ a.office;
        page = b.page ∙ a.page;
        out = b.out ∙ a.out;
        written = b.written ∙ a.written;
        left = left_more (length L.back) (length K.back) (length M.back) n a.left b.left;
        each = λ h. b.each (a.each h);
        credit = λ m x. b.credit m (a.credit m x);
      }

  -- nothing waits any more: as good as any number of hears
  hears_end : (L M : Line) (n : ℕ) → Hearing L M 1 → length M.back ≡ 0 → Hearing L M n
  hears_end L M n a e =
      record { live = a.live; office = a.office; page = a.page; out = a.out; written = a.written; left = inr e; each = a.each; credit = a.credit }

  pub hear_phase : (k : ℕ) (ph : Phase) (L M : Line) → Until w call.hearing k ph L M → Live chosen ls L → Hearing L M k
  hear_phase k ph L M enough live =
      record { live = live; office = refl; page = refl; out = refl; written = refl; left = inl (omega arith); each = λ h. h; credit = λ n x. x }
  hear_phase k ph L M (last {a = a} m e) live =
      elim (hear_cases w L M a m.got m.step) [
        | inl x ↦ hears_end L M k (hears_nothing L M live a x) (ap length (empty L M live a x))
        | inr x ↦ absurd (false≢true (sym (hears_on w chosen v ls L live M x.0 a x.1) ∙ e))
      ]
  hear_phase k ph L M (again {n = n} {p = q} {K = K} {a = a} m e r) live =
      let x : Hearing L K 1 =
      elim (hear_cases w L K a m.got m.step) [
        | inl x ↦ hears_nothing L K live a x
        | inr x ↦ hears_one L K live x.0 a x.1
      ] in
      hears_more L K M n x (hear_phase n q K M r x.live)

  -- after enough hears nothing waits back
  pub heard_all : (L M : Line) (k : ℕ) → Hearing L M k → length L.back ≤ k → M.back ≡ []
  heard_all L M k r few = nil_from_length M.back (elim r.left [ inl x ↦ omega arith | inr x ↦ x ])

pub not_covered : (i : ℕ) (back : Frames) (n : ℕ) → back ≡ [] → Covered i back n → ⊥
not_covered i back n e x = has_none _ (subst (Waits (sequence_acknowledgement i x.0 x.1 x.2)) e x.3).here

pub not_credited : (i : ℕ) (back : Frames) (n : ℕ) → back ≡ [] → Credited i back n → ⊥
not_credited i back n e x = has_none _ (subst (Waits (sequence_acknowledgement i x.0 x.1 x.2)) e x.3).here
