-- Two turns bring every letter across: the first brings the receipts and raises the credit to the last number
-- written, the second sends what is left.
use Rattle.std.proofs.Common.{◌≡◌, ℕ, zero, suc, ◌+◌, ◌-◌, ◌≤◌, true, ◌&&◌, ltb, leb, List, [], length, get_or, Some, None, Option, sym, refl, ap, ◌∙◌, subst, inl, inr, arith}
use Rattle.std.proofs.lemmas.Bool.{cases_lt, and_from, or_left, or_right, le-leb, lt-ltb}
use Rattle.answer.specs.declared.turn.TurnReport.{TurnReport}
use Rattle.frame.specs.Bounds.{M}
use Rattle.frame.specs.Meanings.{sequence_acknowledgement}
use Rattle.grammar.specs.Texts.{text}
use Rattle.office.specs.Destinations.{Destination}
use Rattle.planner.specs.Laws as laws
use Rattle.planner.specs.Sending.{rested}
use Rattle.planner.specs.Settings.{Chosen}
use Rattle.planner.specs.Sources.{Source}
use Rattle.planner.specs.States.{rank}
use Rattle.planner.specs.Windows.{Slot, free, waiting, receipted, has_receipt}
use Rattle.transport.specs.Meaning.{Frames}
use Rattle.protocol.specs.Lines.{Over, Line, Valid}
use Rattle.protocol.specs.Tallies.{Letter}
use Rattle.protocol.specs.Turns.{most, Turn, turn, Past, Settled, TwoTurnsSettle}
use Rattle.protocol.proofs.DeliverPhase.{Delivering, Onward, deliver_phase, delivered_all}
use Rattle.protocol.proofs.HearPhase.{Hearing, hear_phase, heard_all, after_each, not_covered, not_credited}
use Rattle.protocol.proofs.Invariant.{Holds, BackOK, Accepted}
use Rattle.protocol.proofs.Living.{Live}
use Rattle.protocol.proofs.ReadPhase.{Covered, Reading, read_phase, read_all, all_covered, asked_credits}
use Rattle.protocol.proofs.Safety.{stood}
use Rattle.protocol.proofs.SendPhase.{Each, InOut, Before, After, Sending, few_left, send_phase, sent_all, Asked, ask_phase}
use Rattle.protocol.proofs.Sendings.{SlotPast, AllPast, run_past}
use Rattle.protocol.proofs.TallyLaws.{tally_means}
use Rattle.protocol.proofs.Texts.{read_as, read_text}

-- a letter of the window may be sent
abbrev Rests : Chosen → ℕ → ℕ → Slot → Type 0
Rests chosen clock n free = Unit {0}
Rests chosen clock n (waiting l at) = rested chosen.gap clock at ≡ true
Rests chosen clock n receipted = Unit {0}

past_rested : (gap clock : ℕ) (at : Option ℕ) → Past gap clock at → rested gap clock at ≡ true
past_rested gap clock None h = refl
past_rested gap clock (Some at) h =
    and_from (leb at clock) (leb gap (clock - at)) (le-leb at clock (omega arith)) (le-leb gap (clock - at) (omega arith))

past_rests : (chosen : Chosen) (clock n : ℕ) (s : Slot) → SlotPast chosen.gap clock s → Rests chosen clock n s
past_rests chosen clock n free h = tt
past_rests chosen clock n (waiting l at) h = past_rested chosen.gap clock at h
past_rests chosen clock n receipted h = tt

rests_before :
    (chosen : Chosen) (clock : ℕ) (out : Frames) (n : ℕ) (s : Slot) → Rests chosen clock n s →
    Before chosen clock out n s
rests_before chosen clock out n free h = tt
rests_before chosen clock out n (waiting l at) h = inl h
rests_before chosen clock out n receipted h = tt

-- nothing is on its way any more
after_rests :
    (chosen : Chosen) (clock c : ℕ) (O : ℕ → Type 0) → ((m : ℕ) → O m → ⊥) → (n : ℕ) (s : Slot) →
    After chosen clock c O n s → Rests chosen clock n s
after_rests chosen clock c O f n free h = tt
after_rests chosen clock c O f n (waiting l at) (inl x) = x.1
after_rests chosen clock c O f n (waiting l at) (inr x) = absurd (f n x)
after_rests chosen clock c O f n receipted h = tt

-- a number written and at most the credit that is on its way is accepted
after_accepted :
    (chosen : Chosen) (ls : List Letter) (o : Destination) (clock c n : ℕ) (O : ℕ → Type 0) (s : Slot) →
    (O n → Accepted o n) → Holds ls o n s → After chosen clock c O n s → n ≤ length ls → n ≤ c → Accepted o n
after_accepted chosen ls o clock c n O free f h a x y = absurd (let z : ⊥ = omega arith in z)
after_accepted chosen ls o clock c n O (waiting l at) f h (inl a) x y = absurd (let z : ⊥ = omega arith in z)
after_accepted chosen ls o clock c n O (waiting l at) f h (inr a) x y = f a
after_accepted chosen ls o clock c n O receipted f h a x y = h

-- and once nothing is on its way, it has its receipt
after_receipted :
    (chosen : Chosen) (ls : List Letter) (o : Destination) (clock c n : ℕ) (O : ℕ → Type 0) (s : Slot) →
    (O n → ⊥) → Holds ls o n s → After chosen clock c O n s → n ≤ length ls → n ≤ c → has_receipt s ≡ true
after_receipted chosen ls o clock c n O free f h a x y = absurd (let z : ⊥ = omega arith in z)
after_receipted chosen ls o clock c n O (waiting l at) f h (inl a) x y = absurd (let z : ⊥ = omega arith in z)
after_receipted chosen ls o clock c n O (waiting l at) f h (inr a) x y = absurd (f a)
after_receipted chosen ls o clock c n O receipted f h a x y = refl

-- a receipt on its way names accepted numbers only
covered_accepted :
    (chosen : Chosen) (ls : List Letter) (L : Line) → Live chosen ls L → (n : ℕ) →
    Covered chosen.identifier L.back n → Accepted L.office n
covered_accepted chosen ls L live n x =
    let m = sequence_acknowledgement chosen.identifier x.0 x.1 x.2 in
    let s = live.inv.backs (text m) x.3.here in
    let e = read_as (BackOK chosen L.planner L.office) (text m) s in
    let g = read_text (text m) m x.3.proper refl in
    let same : s.of ≡ m = cc in
    (subst (BackOK chosen L.planner L.office) same s.ok).1 n x.4

module _ (w : Over) (chosen : Chosen) (v : Valid chosen) (ls : List Letter) (clock : ℕ) (deep_out : 32 ≤ w.depth_out) (deep_back : 32 ≤ w.depth_back) where
  abbrev i : ℕ
  i = chosen.identifier

  record BeforeTurn (L : Line) : Type 0 where
    live : Live chosen ls L
    few_out : length L.out ≤ 8
    few_back : length L.back ≤ 8
    onward : Onward w chosen v ls L
    rests : Each (Rests chosen clock) L.planner.lowest L.planner.window

  record AfterTurn (L N : Line) : Type 0 where
    next : BeforeTurn N
    same : N.planner.written ≡ L.planner.written
    credit : (n : ℕ) → n ≤ L.planner.lowest + 7 → n ≤ M → n ≤ N.planner.credit
    settled : L.planner.written ≤ L.planner.credit → Settled L.planner.written N

  module _ (A B C D E F G : Line) (from : BeforeTurn A)
      (d1 : Delivering w chosen v ls A B most)
      (s : Sending w chosen v ls clock deep_out B C most)
      (a : Asked chosen ls C D)
      (r : Reading w chosen v ls deep_out deep_back D E most)
      (d2 : Delivering w chosen v ls E F most)
      (h : Hearing w chosen v ls clock C.planner.credit deep_back F G most) where
    abbrev c : ℕ
    c = C.planner.credit

    -- at most 17 frames wait outward, and 25 back
    out_few : length D.out ≤ 17
    out_few =
        let x = ap length d1.out in
        let y = a.size in
        let z = s.size in
        let u = few_left w chosen v ls clock deep_out B d1.live in
        let few = from.few_out in
        omega arith

    out_empty : E.out ≡ []
    out_empty = read_all w chosen v ls deep_out deep_back D E most r (let x = out_few in omega arith)

    back_few : length F.back ≤ 25
    back_few =
        let x = ap length (a.back ∙ (s.back ∙ d1.back)) in
        let y = r.size in
        let o = out_few in
        let z = ap length d2.back in
        let few = from.few_back in
        omega arith

    back_empty : G.back ≡ []
    back_empty = heard_all w chosen v ls clock c deep_back F G most h (let x = back_few in omega arith)

    out_empty_end : G.out ≡ []
    out_empty_end = h.out ∙ (d2.out ∙ out_empty)

    -- every letter not above the credit is on its way back as a receipt
    each_d : Each (After chosen clock c (InOut i D.out)) D.planner.lowest D.planner.window
    each_d =
        subst (λ (p : Source). Each (After chosen clock c (InOut i D.out)) p.lowest p.window) (sym a.planner)
        (after_each chosen clock c (InOut i C.out) (InOut i D.out) (λ n x. (x.0, a.kept _ x.1)) C.planner.lowest C.planner.window
        (sent_all w chosen v ls clock deep_out most B C (omega arith) d1.live s))

    each_e : Each (After chosen clock c (Covered i E.back)) E.planner.lowest E.planner.window
    each_e =
        subst (λ (p : Source). Each (After chosen clock c (Covered i E.back)) p.lowest p.window) (sym r.planner)
        (after_each chosen clock c (InOut i D.out) (Covered i E.back) (all_covered w chosen v ls deep_out deep_back D E most r out_empty) D.planner.lowest D.planner.window each_d)

    each_f : Each (After chosen clock c (Covered i F.back)) F.planner.lowest F.planner.window
    each_f =
        subst (λ (p : Source). Each (After chosen clock c (Covered i F.back)) p.lowest p.window) (sym d2.planner)
        (subst (λ (ws : Frames). Each (After chosen clock c (Covered i ws)) E.planner.lowest E.planner.window) (sym d2.back) each_e)

    each_g : Each (After chosen clock c (Covered i G.back)) G.planner.lowest G.planner.window
    each_g = h.each each_f

    onward_end : Onward w chosen v ls G
    onward_end = rw (h.page, h.office) d2.onward

    next_turn : BeforeTurn G
    next_turn =
        record {
          live = h.live;
          few_out = (let z = ap length out_empty_end in omega arith);
          few_back = (let z = ap length back_empty in omega arith);
          onward = onward_end;
          rests = λ j. after_rests chosen clock c (Covered i G.back) (λ m. not_covered i G.back m back_empty) (G.planner.lowest + j) (get_or G.planner.window j free) (each_g j);
        }

    written_e : E.planner.written ≡ A.planner.written
    written_e =
        ap (λ (p : Source). p.written) (r.planner ∙ a.planner) ∙ (s.written ∙ ap (λ (p : Source). p.written) d1.planner)

    written_g : G.planner.written ≡ A.planner.written
    written_g = h.written ∙ (ap (λ (p : Source). p.written) d2.planner ∙ written_e)

    credit_c : c ≡ A.planner.credit
    credit_c = s.credit ∙ ap (λ (p : Source). p.credit) d1.planner

    -- all below the lowest number without a receipt is delivered first
    low_by : (x : ℕ) → A.planner.lowest ≡ suc x → x ≤ B.office.delivered
    low_by x e =
        delivered_all w chosen v ls A B most x (omega arith) d1
        (λ n y z. from.live.inv.core.tied.below n y (omega arith))

    low_from : (y : ℕ) → A.planner.lowest ≡ y → A.planner.lowest ≤ suc B.office.delivered
    low_from zero e = omega arith
    low_from (suc x) e = let z = low_by x e in omega arith

    credit_end : (n : ℕ) → n ≤ A.planner.lowest + 7 → n ≤ M → n ≤ G.planner.credit
    credit_end n x y =
        let o : D.office.delivered ≡ B.office.delivered = ap (λ (q : Destination). q.delivered) (a.office ∙ s.office) in
        let l = low_from A.planner.lowest refl in
        let q = asked_credits w chosen v ls deep_out deep_back D E most r out_empty n (omega arith) y a.asked in
        elim (h.credit n (inr (rw d2.back q))) [
          | inl z ↦ z
          | inr z ↦ absurd (not_credited i G.back n back_empty z)
        ]

    accepted_e :
        A.planner.written ≤ A.planner.credit → (n : ℕ) → 1 ≤ n → n ≤ A.planner.written →
        Accepted E.office n
    accepted_e e n x y =
        let k = r.live.inv.core in
        let wr = written_e in
        let cr = credit_c in
        elim (cases_lt n E.planner.lowest) [
          | inl z ↦ k.tied.below n x z
          | inr z ↦
              (let j = n - E.planner.lowest in
              let at : E.planner.lowest + j ≡ n = omega arith in
              subst (Accepted E.office) at
              (after_accepted chosen ls E.office clock c (E.planner.lowest + j) (Covered i E.back) (get_or E.planner.window j free)
              (covered_accepted chosen ls E r.live (E.planner.lowest + j)) (k.tied.held j) (each_e j)
              (omega (arith, k.wrote.count)) (omega arith)))
        ]

    receipted_end :
        A.planner.written ≤ A.planner.credit → (n : ℕ) → 1 ≤ n → n ≤ A.planner.written →
        laws.receipted G.planner n ≡ true
    receipted_end e n x y =
        let k = h.live.inv.core in
        let wr = written_g in
        let cr = credit_c in
        let low = G.planner.lowest in
        let window = G.planner.window in
        elim (cases_lt n low) [
          | inl z ↦ or_left (ltb n low) (leb low n && has_receipt (get_or window (n - low) free)) (lt-ltb n low z)
          | inr z ↦
              (let at : low + (n - low) ≡ n = omega arith in
              or_right (ltb n low) (leb low n && has_receipt (get_or window (n - low) free))
              (and_from (leb low n) (has_receipt (get_or window (n - low) free)) (le-leb low n z)
              (after_receipted chosen ls G.office clock c (low + (n - low)) (Covered i G.back) (get_or window (n - low) free)
              (not_covered i G.back (low + (n - low)) back_empty) (k.tied.held (n - low)) (each_g (n - low))
              (omega (arith, k.wrote.count)) (omega arith))))
        ]

    settled_end : A.planner.written ≤ A.planner.credit → Settled A.planner.written G
    settled_end e =
        let k = h.live.inv.core in
        let wr = written_g in
        let o = ap (λ (q : Destination). q.delivered) h.office in
        let all = delivered_all w chosen v ls E F most A.planner.written (omega arith) d2 (accepted_e e) in
        record {
          same = written_g;
          delivered = omega (arith, k.took.delivered, k.wrote.count);
          receipts = receipted_end e;
        }

    turned : AfterTurn A G
    turned = record { next = next_turn; same = written_g; credit = credit_end; settled = settled_end }

  before_b :
      (A B : Line) → BeforeTurn A → Delivering w chosen v ls A B most →
      Each (Before chosen clock B.out) B.planner.lowest B.planner.window
  before_b A B from d =
      subst (λ (p : Source). Each (Before chosen clock B.out) p.lowest p.window) (sym d.planner)
      (λ j. rests_before chosen clock B.out (A.planner.lowest + j) (get_or A.planner.window j free) (from.rests j))

  onward_e :
      (A B C D E : Line) → Delivering w chosen v ls A B most → Sending w chosen v ls clock deep_out B C most →
      Asked chosen ls C D → Reading w chosen v ls deep_out deep_back D E most → Onward w chosen v ls E
  onward_e A B C D E d s a r =
      let p : E.page ≡ B.page = r.page ∙ (a.page ∙ s.page) in
      let o : E.office.delivered ≡ B.office.delivered = r.delivered ∙ ap (λ (x : Destination). x.delivered) (a.office ∙ s.office) in
      rw (p, o) d.onward

  one_turn : (told : TurnReport) (A G : Line) → BeforeTurn A → Turn w clock told A G → AfterTurn A G
  one_turn told A G from (turn {B = B} {C = C} {D = D} {E = E} {F = F} {d = pd} {s = ps} {r = pr} {e = pe} {h = ph} {a = x} t1 t2 t3 t4 t5 t6) =
      let few = from.few_out in
      let few' = from.few_back in
      let d1 = deliver_phase w chosen v ls most pd A B t1 from.live from.onward in
      let o1 = ap length d1.out in
      let due = few_left w chosen v ls clock deep_out B d1.live in
      let s = send_phase w chosen v ls clock deep_out most ps B C t2 (omega arith) d1.live (before_b A B from d1) in
      let o2 = s.size in
      let a = ask_phase w chosen v ls deep_out C D x t3 (omega arith) s.live in
      let o3 = a.size in
      let bk = ap length (a.back ∙ (s.back ∙ d1.back)) in
      let r = read_phase w chosen v ls deep_out deep_back most pr D E t4 (omega arith) a.live in
      let d2 = deliver_phase w chosen v ls most pe E F t5 r.live (onward_e A B C D E d1 s a r) in
      let h = hear_phase w chosen v ls clock C.planner.credit deep_back most ph F G t6 d2.live in
      turned A B C D E F G from d1 s a r d2 h

  two_turns :
      (one two : TurnReport) (A K N : Line) → BeforeTurn A → Turn w clock one A K → Turn w clock two K N →
      Settled A.planner.written N
  two_turns one two A K N from t u =
      let x = one_turn one A K from t in
      let y = one_turn two K N x.next u in
      let k = from.live.inv.core in
      let top : A.planner.written ≤ M = omega (arith, k.wrote.limited, k.wrote.limit_is, v.limit) in
      let e = x.credit A.planner.written k.wrote.near top in
      let wr = x.same in
      subst (λ (n : ℕ). Settled n N) wr (y.settled (omega arith))

pub two_turns_settle : TwoTurnsSettle
two_turns_settle w first L K N es clock one two f r g t u =
    let s = stood w first L es f r in
    let m = tally_means w.step first.page es s.letters L.office.delivered L.page s.tally_is in
    let chosen = f.settings in
    let core = s.inv.core in
    let past : AllPast chosen.gap clock L.planner = subst (λ (n : ℕ). AllPast n clock L.planner) core.gap_is (run_past w L.planner.gap clock first L es f r g.past) in
    two_turns w chosen f.valid s.letters clock g.deep_out g.deep_back one two L K N
    (record {
      live = record { inv = s.inv; live = ap rank g.created };
      few_out = g.few_out;
      few_back = g.few_back;
      onward = rw m.letters g.flows;
      rests = λ j. past_rests chosen clock (L.planner.lowest + j) (get_or L.planner.window j free) (past j);
    }) t u
