-- Read, until nothing comes: every letter that waits outward is accepted and acknowledged.
use Rattle.std.proofs.Common.{◌≡◌, ℕ, suc, ◌+◌, ◌<◌, ◌≤◌, Bool, true, false, not, ◌&&◌, ltb, leb, ◌⊎◌, List, [], ◌∷◌, ◌++◌, length, get_or, is_some, Some, None, Ok, Option, sym, refl, ap, ◌∙◌, subst, inl, inr, arith}
use Rattle.std.proofs.lemmas.List.{get_or-set_same, nil_from_length}
use Rattle.std.proofs.lemmas.Bool.{false≢true, cases_lt, and_from, or_left, or_right, le-leb, lt-ltb, eq-eqb}
use Rattle.answer.specs.declared.answer.Answer.{Answer}
use Rattle.answer.specs.declared.turn.Phase.{Phase}
use Rattle.frame.specs.Bounds.{M}
use Rattle.frame.specs.Meanings.{Meaning, sequence, ack_requested, sequence_acknowledgement, Proper}
use Rattle.frame.specs.declared.range.Range.{Range}
use Rattle.grammar.specs.Grammar.{reading}
use Rattle.grammar.specs.Texts.{text}
use Rattle.office.specs.Accepted.{is_accepted}
use Rattle.office.specs.Destinations.{Destination, accepts, acknowledgement, is_created, ranges_of, credit_of}
use Rattle.office.specs.Places.{has_place, place_of, kept, is_free}
use Rattle.office.specs.Reads.{reads, reply_of}
use Rattle.office.specs.declared.state.OfficeState.TheVariants as state
use Rattle.frame.specs.Covers.{covers}
use Rattle.planner.specs.Settings.{Chosen}
use Rattle.planner.specs.Sources.{Source}
use Rattle.planner.specs.States.{rank}
use Rattle.transport.specs.Meaning.{Bytes, Frames}
use Rattle.protocol.specs.Calls as call
use Rattle.protocol.specs.Lines.{Over, Line, Valid}
use Rattle.protocol.specs.Steps.{Reads, ReadsNothing}
use Rattle.protocol.specs.Tallies.{Letter}
use Rattle.protocol.specs.Turns.{Until, enough, last, again}
use Rattle.protocol.proofs.Fifo.{Waits, waits_last, waits_pop, has_none, none_new, OneMore, puts_one, puts_this, kept_waits, one_more_size}
use Rattle.protocol.proofs.Invariant.{Core, Accepted, OutOK}
use Rattle.protocol.proofs.Living.{Live, live_reads, live_reads_nothing, read_cases, reads_on, office_created}
use Rattle.protocol.proofs.Reading.{exactly, receipt_proper, accepts_core}
use Rattle.protocol.proofs.SendPhase.{InOut}
use Rattle.protocol.proofs.Texts.{read_as, reads_bytes}

-- a receipt on its way back that names n, and one with a credit of n or more
abbrev pub Covered : ℕ → Frames → ℕ → Type 0
Covered i back n =
    (rs : List Range) × (final : Bool) × (c : ℕ) × Waits (sequence_acknowledgement i rs final c) back × (covers rs n ≡ true)

abbrev pub Credited : ℕ → Frames → ℕ → Type 0
Credited i back n =
    (rs : List Range) × (final : Bool) × (c : ℕ) × Waits (sequence_acknowledgement i rs final c) back × (n ≤ c)

-- A letter that is read and has a place is accepted then.

module _ (o : Destination) (n : ℕ) (l : Letter) (eight : length o.places ≡ 8) where
  abbrev at : ℕ
  at = place_of o.delivered n

  placed :
      (x : Option Letter) → get_or o.places at None ≡ x → o.delivered < n → n ≤ o.delivered + 8 →
      (b : Bool) → b ≡ is_free (get_or o.places at None) →
      is_some (get_or (kept b o.places at l) at None) ≡ true
  placed x e a c true f = ap is_some (get_or-set_same o.places at (Some l) None (omega arith))
  placed None e a c false f = absurd (false≢true (f ∙ ap is_free e))
  placed (Some y) e a c false f = ap is_some e

  pub accepts_it : 1 ≤ n → n ≤ o.delivered + 8 → Accepted (accepts o n l) n
  unfolding accepts is_accepted
  accepts_it one few =
      elim (cases_lt o.delivered n) [
        | inl x ↦
            (let p : has_place o.delivered n ≡ true = and_from (ltb o.delivered n) (leb n (o.delivered + 8)) (lt-ltb o.delivered n x) (le-leb n (o.delivered + 8) few) in
            or_right (leb 1 n && leb n o.delivered) _
            (and_from (has_place o.delivered n) _ p
            (placed (get_or o.places at None) refl x few (has_place o.delivered n && is_free (get_or o.places at None)) (rw p refl))))
        | inr x ↦ or_left (leb 1 n && leb n o.delivered) _ (and_from (leb 1 n) (leb n o.delivered) (le-leb 1 n one) (le-leb n o.delivered x))
      ]

-- What an open office's end answers.

answers_letter :
    (o : Destination) (i n : ℕ) (l : Letter) → o.state ≡ state.Created → i ≡ o.identifier →
    reply_of (reads o (sequence i n l)).answer ≡ Some (acknowledgement (accepts o n l))
unfolding reads
answers_letter o i n l e q = rw (eq-eqb i o.identifier q, e) refl

answers_ask :
    (o : Destination) (i : ℕ) → o.state ≡ state.Created → i ≡ o.identifier →
    reply_of (reads o (ack_requested i)).answer ≡ Some (acknowledgement o)
unfolding reads
answers_ask o i e q = rw (eq-eqb i o.identifier q, e) refl

pub left_more : (a b c n : ℕ) → (b + 1 ≤ a) ⊎ (b ≡ 0) → (c + n ≤ b) ⊎ (c ≡ 0) → (c + suc n ≤ a) ⊎ (c ≡ 0)
left_more a b c n (inl x) (inl y) = inl (omega arith)
left_more a b c n (inl x) (inr y) = inr y
left_more a b c n (inr x) (inl y) = inr (omega arith)
left_more a b c n (inr x) (inr y) = inr y

module _ (w : Over) (chosen : Chosen) (v : Valid chosen) (ls : List Letter) (deep_out : 32 ≤ w.depth_out) (deep_back : 32 ≤ w.depth_back) where
  abbrev i : ℕ
  i = chosen.identifier

  -- the receipt of an end waits, where it was put
  module _ (p : Source) (o : Destination) (k : Core chosen ls p o) (two : 2 ≤ rank p.state) (before after : Frames) (e : after ≡ before ++ (text (acknowledgement o) ∷ [])) where
    receipt_waits : Waits (sequence_acknowledgement i (ranges_of o) (not (is_created o.state)) (credit_of o)) after
    unfolding Proper
    receipt_waits =
        rw e (subst (λ (j : ℕ). Waits (sequence_acknowledgement j (ranges_of o) (not (is_created o.state)) (credit_of o)) (before ++ (text (acknowledgement o) ∷ [])))
        k.named (waits_last (acknowledgement o) before (receipt_proper chosen v ls p o k o k two)))

    receipt_covers : (n : ℕ) → Accepted o n → Covered i after n
    receipt_covers n a = (
      ranges_of o,
      not (is_created o.state),
      credit_of o,
      receipt_waits,
      (exactly chosen v ls p o k o k two).names n ∙ a,
    )

    receipt_credits : (n : ℕ) → n ≤ o.delivered + 8 → n ≤ M → Credited i after n
    receipt_credits n a b = (ranges_of o, not (is_created o.state), credit_of o, receipt_waits, omega arith)

  pub record Reading (L M' : Line) (k : ℕ) : Type 0 where
    pub live : Live chosen ls M'
    pub planner : M'.planner ≡ L.planner
    pub page : M'.page ≡ L.page
    pub delivered : M'.office.delivered ≡ L.office.delivered
    pub left : (length M'.out + k ≤ length L.out) ⊎ (length M'.out ≡ 0)
    pub size : length M'.back + length M'.out ≤ length L.back + length L.out
    pub track : (n : ℕ) → InOut i L.out n ⊎ Covered i L.back n → InOut i M'.out n ⊎ Covered i M'.back n
    pub asked :
        (n : ℕ) → n ≤ L.office.delivered + 8 → n ≤ M →
        Waits (ack_requested i) L.out ⊎ Credited i L.back n →
        Waits (ack_requested i) M'.out ⊎ Credited i M'.back n

  module _ (L K : Line) (live : Live chosen ls L) (bytes : Bytes) (a : Answer) (t : Reads w bytes L a K) (few : length L.back < 32) where
    abbrev o : Destination
    o = L.office

    abbrev core : Core chosen ls L.planner L.office
    core = live.inv.core

    two : 2 ≤ rank L.planner.state
    two = omega (arith, live.live)

    -- what was put back
    put_this :
        (m reply : Meaning) → reading bytes ≡ Ok m → reply_of (reads L.office m).answer ≡ Some reply →
        K.back ≡ L.back ++ (text reply ∷ [])
    put_this m reply e q =
        puts_this w.depth_back L.back K.back _ reply (omega arith) (rw e q) t.put

    may_wait : (m : Meaning) → reading bytes ≡ Ok m → OutOK chosen ls L.planner L.office m
    may_wait m e =
        let s = live.inv.outs bytes t.got.waited in
        let r = read_as _ bytes s in
        let same : s.of ≡ m = cc in
        subst (OutOK chosen ls L.planner L.office) same s.ok

    reads_letter : (n : ℕ) (l : Letter) → reading bytes ≡ Ok (sequence i n l) → 1 ≤ n → Covered i K.back n
    reads_letter n l e one =
        let ok = may_wait (sequence i n l) e in
        let k = accepts_core chosen v ls L.planner o core n l ok.1 in
        let put = put_this (sequence i n l) (acknowledgement (accepts o n l)) e (answers_letter o i n l (office_created w chosen v ls L live) (sym core.named)) in
        receipt_covers L.planner (accepts o n l) k two L.back K.back put n (accepts_it o n l core.took.eight one ok.2)

    reads_ask : (n : ℕ) → reading bytes ≡ Ok (ack_requested i) → n ≤ o.delivered + 8 → n ≤ M → Credited i K.back n
    reads_ask n e x y =
        let put = put_this (ack_requested i) (acknowledgement o) e (answers_ask o i (office_created w chosen v ls L live) (sym core.named)) in
        receipt_credits L.planner o core two L.back K.back put n x y

    taken : L.out ≡ bytes ∷ K.out
    taken = t.got.taken (omega arith)

    one_more : OneMore L.back K.back
    one_more = puts_one w.depth_back L.back K.back _ (omega arith) t.put

    track_one : (n : ℕ) → InOut i L.out n ⊎ Covered i L.back n → InOut i K.out n ⊎ Covered i K.back n
    unfolding Proper
    track_one n (inl x) =
        elim (waits_pop (sequence i n x.0) bytes K.out (subst (Waits (sequence i n x.0)) taken x.1)) [
          | inl y ↦ inr (reads_letter n x.0 y x.1.proper.1.0)
          | inr y ↦ inl (x.0, y)
        ]
    track_one n (inr x) = inr (x.0, x.1, x.2, kept_waits _ L.back K.back one_more x.3, x.4)

    asked_one :
        (n : ℕ) → n ≤ L.office.delivered + 8 → n ≤ M →
        Waits (ack_requested i) L.out ⊎ Credited i L.back n →
        Waits (ack_requested i) K.out ⊎ Credited i K.back n
    asked_one n p q (inl x) =
        elim (waits_pop (ack_requested i) bytes K.out (subst (Waits (ack_requested i)) taken x)) [
          | inl y ↦ inr (reads_ask n y p q)
          | inr y ↦ inl y
        ]
    asked_one n p q (inr x) = inr (x.0, x.1, x.2, kept_waits _ L.back K.back one_more x.3, x.4)

    reads_one : Reading L K 1
    reads_one =
        let z = ap length taken in
        let big = one_more_size L.back K.back one_more in
        let k = reads_bytes chosen v ls L live.inv bytes t.got.waited in
        record {
          live = live_reads w chosen v ls L live K bytes a t;
          planner = t.planner;
          page = t.page;
          delivered = ap (λ (q : Destination). q.delivered) t.office ∙ k.same_done;
          left = inl (omega arith);
          size = omega arith;
          track = track_one;
          asked = asked_one;
        }

  module _ (L K : Line) (live : Live chosen ls L) (a : Answer) (t : ReadsNothing w L a K) where
    empty : K.out ≡ []
    empty = none_new L.out K.out t.got.nothing_new (t.got.none (omega arith))

    same : K.out ≡ L.out
    same = empty ∙ sym (t.got.none (omega arith))

    reads_nothing : Reading L K 1
    reads_nothing =
        record {
          live = live_reads_nothing w chosen v ls L live K a t;
          planner = t.planner;
          page = t.page;
          delivered = ap (λ (q : Destination). q.delivered) t.office;
          left = inr (ap length empty);
          size = rw (same, t.back) (omega arith);
          track = λ n x. rw (same, t.back) x;
          asked = λ n p q x. rw (same, t.back) x;
        }

  reads_more : (L K N : Line) (n : ℕ) → Reading L K 1 → Reading K N n → Reading L N (suc n)
  reads_more L K N n a b =
      let p = a.size in
      let q = b.size in
      let d = a.delivered in
      record {
        live = b.live;
        planner = b.planner ∙ a.planner;
        page = b.page ∙ a.page;
        delivered = b.delivered ∙ a.delivered;
        left = left_more (length L.out) (length K.out) (length N.out) n a.left b.left;
        size = omega arith;
        track = λ m x. b.track m (a.track m x);
        asked = λ m x y z. b.asked m (omega arith) y (a.asked m x y z);
      }

  -- nothing waits any more: as good as any number of reads
  reads_end : (L N : Line) (n : ℕ) → Reading L N 1 → length N.out ≡ 0 → Reading L N n
  reads_end L N n a e =
      record { live = a.live; planner = a.planner; page = a.page; delivered = a.delivered; left = inr e; size = a.size; track = a.track; asked = a.asked }

  pub read_phase :
      (k : ℕ) (ph : Phase) (L N : Line) → Until w call.reading k ph L N →
      length L.back + length L.out ≤ 32 → Live chosen ls L → Reading L N k
  read_phase k ph L N enough few live =
      record { live = live; planner = refl; page = refl; delivered = refl; left = inl (omega arith); size = omega arith; track = λ n x. x; asked = λ n p q x. x }
  read_phase k ph L N (last {a = a} m e) few live =
      elim (read_cases w L N a m.got m.step) [
        | inl x ↦ reads_end L N k (reads_nothing L N live a x) (ap length (empty L N live a x))
        | inr x ↦ absurd (false≢true (sym (reads_on w chosen v ls L live N x.0 a x.1) ∙ e))
      ]
  read_phase k ph L N (again {n = n} {p = q} {K = K} {a = a} m e r) few live =
      let x : Reading L K 1 =
      elim (read_cases w L K a m.got m.step) [
        | inl x ↦ reads_nothing L K live a x
        | inr x ↦ reads_one L K live x.0 a x.1 (let z = ap length (x.1.got.taken (omega arith)) in omega arith)
      ] in
      let z = x.size in
      reads_more L K N n x (read_phase n q K N r (omega arith) x.live)

  -- after enough reads nothing waits outward
  pub read_all : (L N : Line) (k : ℕ) → Reading L N k → length L.out ≤ k → N.out ≡ []
  read_all L N k r few = nil_from_length N.out (elim r.left [ inl x ↦ omega arith | inr x ↦ x ])

  pub all_covered :
      (L N : Line) (k : ℕ) → Reading L N k → N.out ≡ [] → (n : ℕ) → InOut i L.out n → Covered i N.back n
  all_covered L N k r e n x =
      elim (r.track n (inl x)) [ inl y ↦ has_none _ (subst (Waits (sequence i n y.0)) e y.1).here | inr y ↦ y ]

  pub asked_credits :
      (L N : Line) (k : ℕ) → Reading L N k → N.out ≡ [] → (n : ℕ) → n ≤ L.office.delivered + 8 → n ≤ M →
      Waits (ack_requested i) L.out → Credited i N.back n
  asked_credits L N k r e n p q x =
      elim (r.asked n p q (inl x)) [ inl y ↦ has_none _ (subst (Waits (ack_requested i)) e y).here | inr y ↦ y ]
