-- Send, until nothing comes: every letter that is due goes out; and ask.
use Rattle.std.proofs.Common.{◌≡◌, ℕ, zero, suc, ◌+◌, ◌-◌, ◌<◌, ◌≤◌, Bool, true, false, cond, ◌&&◌, leb, ◌⊎◌, List, [], ◌∷◌, ◌++◌, length, get_or, set, Some, None, Option, sym, refl, ap, ◌∙◌, subst, inl, inr, arith}
use Rattle.std.proofs.lemmas.List.{length_push}
use Rattle.std.proofs.lemmas.Bool.{false≢true, and_cases, and_right, lt-leb, leb-false, cond-false}
use Rattle.answer.specs.Phases.{stops}
use Rattle.answer.specs.declared.answer.Answer.{Answer}
use Rattle.answer.specs.declared.turn.Phase.{Phase}
use Rattle.frame.specs.Meanings.{Meaning, sequence, ack_requested, Proper}
use Rattle.grammar.specs.Texts.{text}
use Rattle.planner.specs.Sending.{Due, due_letter, or_later, first_due, lowest_due, rested, sends_due, sends}
use Rattle.planner.specs.Settings.{Chosen}
use Rattle.planner.specs.Sources as sources
use Rattle.planner.specs.Sources.{Source, name}
use Rattle.planner.specs.States.{rank}
use Rattle.planner.specs.Windows.{Slot, free, waiting, receipted}
use Rattle.transport.specs.Meaning.{Bytes, Frames}
use Rattle.protocol.specs.Calls.{sending, asking}
use Rattle.protocol.specs.Lines.{Over, Line, Valid}
use Rattle.protocol.specs.Steps.{Acts, Made, done, sent}
use Rattle.protocol.specs.Tallies.{Letter}
use Rattle.protocol.specs.Turns.{Until, enough, last, again}
use Rattle.protocol.proofs.Fifo.{Waits, waits_more, waits_last}
use Rattle.protocol.proofs.Invariant.{Core, grows_same, grows_state}
use Rattle.protocol.proofs.Letters.{nowhere}
use Rattle.protocol.proofs.Living.{Live, live_acts, asks_is, sends_is}
use Rattle.protocol.proofs.Planning.{name_is, name_proper}
use Rattle.protocol.proofs.Sending.{due_found, after_sending, marked, sends_core, sends_put}

-- something of each number of the window and what stands for it
abbrev pub Each : (ℕ → Slot → Type 0) → ℕ → List Slot → Type 0
Each P low w = (k : ℕ) → P (low + k) (get_or w k free)

-- the letter of number n waits outward
abbrev pub InOut : ℕ → Frames → ℕ → Type 0
InOut i out n = (l : Letter) × Waits (sequence i n l) out

-- before all is sent: a letter may be sent again, or waits outward
abbrev pub Before : Chosen → ℕ → Frames → ℕ → Slot → Type 0
Before chosen clock out n free = Unit {0}
Before chosen clock out n (waiting l at) = (rested chosen.gap clock at ≡ true) ⊎ InOut chosen.identifier out n
Before chosen clock out n receipted = Unit {0}

-- afterwards: a letter is above the credit c, or is on its way, as O says
abbrev pub After : Chosen → ℕ → ℕ → (ℕ → Type 0) → ℕ → Slot → Type 0
After chosen clock c O n free = Unit {0}
After chosen clock c O n (waiting l at) = ((c < n) × (rested chosen.gap clock at ≡ true)) ⊎ O n
After chosen clock c O n receipted = Unit {0}

before_more :
    (chosen : Chosen) (clock : ℕ) (bytes : Bytes) (out : Frames) (n : ℕ) (s : Slot) →
    Before chosen clock out n s → Before chosen clock (out ++ (bytes ∷ [])) n s
before_more chosen clock bytes out n free h = tt
before_more chosen clock bytes out n (waiting l at) (inl x) = inl x
before_more chosen clock bytes out n (waiting l at) (inr x) = inr (x.0, waits_more _ bytes out x.1)
before_more chosen clock bytes out n receipted h = tt

-- How many letters are due; a send makes that one less.

abbrev one : Option Letter → ℕ
one None = 0
one (Some l) = 1

abbrev dues : ℕ → ℕ → ℕ → ℕ → ℕ → List Slot → ℕ
dues gap credit clock b k [] = 0
dues gap credit clock b k (s ∷ w) = one (due_letter gap credit clock (b + k) s) + dues gap credit clock b (k + 1) w

not_due_now :
    (gap credit clock n : ℕ) (l : Letter) → 1 ≤ gap →
    due_letter gap credit clock n (waiting l (Some clock)) ≡ None
not_due_now gap credit clock n l g =
    cond-false (leb n credit && rested gap clock (Some clock)) (Some l) None
    (and_right (leb n credit) _ (and_right (leb clock clock) _ (lt-leb gap (clock - clock) (omega arith))))

module _ (gap credit clock b : ℕ) where
  none_by :
      (k : ℕ) (s : Slot) (w : List Slot) (x : Option Letter) →
      or_later x k (first_due gap credit clock b (k + 1) w) ≡ None →
      (first_due gap credit clock b (k + 1) w ≡ None → dues gap credit clock b (k + 1) w ≡ 0) →
      one x + dues gap credit clock b (k + 1) w ≡ 0
  none_by k s w None e rest = let z = rest e in omega arith
  none_by k s w (Some l) e rest = nowhere (record { place = k; letter = l }) (sym e)

  none_left : (k : ℕ) (w : List Slot) → first_due gap credit clock b k w ≡ None → dues gap credit clock b k w ≡ 0
  none_left k [] e = refl
  none_left k (s ∷ w) e = none_by k s w (due_letter gap credit clock (b + k) s) e (none_left (k + 1) w)

  -- by what the first slot gives
  one_less_by :
      (k : ℕ) (s : Slot) (w : List Slot) (d : Due) (x : Option Letter) → 1 ≤ gap →
      due_letter gap credit clock (b + k) s ≡ x →
      or_later x k (first_due gap credit clock b (k + 1) w) ≡ Some d →
      (first_due gap credit clock b (k + 1) w ≡ Some d → (k + 1 ≤ d.place) × (suc (dues gap credit clock b (k + 1) (set w (d.place - (k + 1)) (waiting d.letter (Some clock)))) ≡ dues gap credit clock b (k + 1) w)) →
      (k ≤ d.place) × (suc (dues gap credit clock b k (set (s ∷ w) (d.place - k) (waiting d.letter (Some clock)))) ≡ one x + dues gap credit clock b (k + 1) w)
  one_less_by k s w d (Some l) g is e rest =
      let at : k ≡ d.place = cc in
      let z : d.place - k ≡ 0 = omega arith in
      let n = not_due_now gap credit clock (b + k) d.letter g in
      (omega arith, rw (z, n) (omega arith))
  one_less_by k s w d None g is e rest =
      let more = rest e in
      let z : d.place - k ≡ suc (d.place - (k + 1)) = omega (arith, more.0) in
      (omega (arith, more.0), rw (z, is) (omega (arith, more.1)))

  one_less :
      (k : ℕ) (w : List Slot) (d : Due) → 1 ≤ gap → first_due gap credit clock b k w ≡ Some d →
      (k ≤ d.place) × (suc (dues gap credit clock b k (set w (d.place - k) (waiting d.letter (Some clock)))) ≡ dues gap credit clock b k w)
  one_less k [] d g e = nowhere d e
  one_less k (s ∷ w) d g e = one_less_by k s w d (due_letter gap credit clock (b + k) s) g refl e (one_less (k + 1) w d g)

  few_by : (x : Option Letter) (m n : ℕ) → m ≤ n → one x + m ≤ suc n
  few_by None m n h = omega arith
  few_by (Some l) m n h = omega arith

  dues_few : (k : ℕ) (w : List Slot) → dues gap credit clock b k w ≤ length w
  dues_few k [] = omega arith
  dues_few k (s ∷ w) = few_by (due_letter gap credit clock (b + k) s) (dues gap credit clock b (k + 1) w) (length w) (dues_few (k + 1) w)

  none_of : (x : Option Letter) (m : ℕ) → one x + m ≡ 0 → (x ≡ None) × (m ≡ 0)
  none_of None m e = (refl, omega arith)
  none_of (Some l) m e = absurd (let z : ⊥ = omega arith in z)

  none_due :
      (k j : ℕ) (w : List Slot) → dues gap credit clock b k w ≡ 0 →
      due_letter gap credit clock (b + (k + j)) (get_or w j free) ≡ None
  none_due k j [] e = refl
  none_due k zero (s ∷ w) e =
      let q = none_of (due_letter gap credit clock (b + k) s) (dues gap credit clock b (k + 1) w) e in
      let z : b + (k + 0) ≡ b + k = omega arith in
      ap (λ (n : ℕ). due_letter gap credit clock n s) z ∙ q.0
  none_due k (suc j) (s ∷ w) e =
      let q = none_of (due_letter gap credit clock (b + k) s) (dues gap credit clock b (k + 1) w) e in
      let z : b + (k + suc j) ≡ b + (k + 1 + j) = omega arith in
      ap (λ (n : ℕ). due_letter gap credit clock n (get_or w j free)) z ∙ none_due (k + 1) j w q.1

not_some : (l : Letter) (t : Bool) → cond t (Some l) None ≡ None → t ≡ false
not_some l true e = nowhere l (sym e)
not_some l false e = refl

after_one :
    (chosen : Chosen) (credit clock : ℕ) (out : Frames) (n : ℕ) (s : Slot) →
    due_letter chosen.gap credit clock n s ≡ None → Before chosen clock out n s →
    After chosen clock credit (InOut chosen.identifier out) n s
after_one chosen credit clock out n free e h = tt
after_one chosen credit clock out n (waiting l at) e (inl x) =
    elim (and_cases (leb n credit) (rested chosen.gap clock at) (not_some l _ e)) [
      | inl y ↦ inl (leb-false n credit y, x)
      | inr y ↦ absurd (false≢true (sym y ∙ x))
    ]
after_one chosen credit clock out n (waiting l at) e (inr x) = inr x
after_one chosen credit clock out n receipted e h = tt

fall_more : (a b c n : ℕ) → (b ≡ 0) ⊎ (b + 1 ≤ a) → (c ≡ 0) ⊎ (c + n ≤ b) → (c ≡ 0) ⊎ (c + suc n ≤ a)
fall_more a b c n (inl x) (inl y) = inl y
fall_more a b c n (inl x) (inr y) = inl (omega arith)
fall_more a b c n (inr x) (inl y) = inl y
fall_more a b c n (inr x) (inr y) = inr (omega arith)

module _ (w : Over) (chosen : Chosen) (v : Valid chosen) (ls : List Letter) (clock : ℕ) (deep : 32 ≤ w.depth_out) where
  abbrev pub left : Source → ℕ
  left p = dues chosen.gap p.credit clock p.lowest 0 p.window

  abbrev pub Unsent : Line → Type 0
  Unsent L = Each (Before chosen clock L.out) L.planner.lowest L.planner.window

  pub record Sending (L M : Line) (k : ℕ) : Type 0 where
    pub live : Live chosen ls M
    pub office : M.office ≡ L.office
    pub back : M.back ≡ L.back
    pub page : M.page ≡ L.page
    pub credit : M.planner.credit ≡ L.planner.credit
    pub written : M.planner.written ≡ L.planner.written
    pub lowest : M.planner.lowest ≡ L.planner.lowest
    pub each : Unsent M
    pub kept : (m : Meaning) → Waits m L.out → Waits m M.out
    pub size : length M.out + left M.planner ≤ length L.out + left L.planner
    pub fall : (left M.planner ≡ 0) ⊎ (left M.planner + k ≤ left L.planner)

  module _ (L K : Line) (live : Live chosen ls L) (each : Unsent L) (g : Option Bytes) (a : Answer) where
    abbrev p : Source
    p = L.planner

    abbrev core : Core chosen ls L.planner L.office
    core = live.inv.core

    lowest_is : lowest_due clock p ≡ first_due chosen.gap p.credit clock p.lowest 0 p.window
    lowest_is = ap (λ (n : ℕ). first_due n p.credit clock p.lowest 0 p.window) core.gap_is

    sends_none : Acts w (sent (sends_due None clock p)) L g a K → left p ≡ 0 → Sending L K 1
    sends_none t z =
        record {
          live = live_acts w chosen v ls L live K _ g a t core (grows_same ls p L.office) tt live.live;
          office = t.office;
          back = t.back;
          page = t.page;
          credit = ap (λ (q : Source). q.credit) t.planner;
          written = ap (λ (q : Source). q.written) t.planner;
          lowest = ap (λ (q : Source). q.lowest) t.planner;
          each = rw (t.planner, t.put) each;
          kept = λ m x. subst (Waits m) (sym t.put) x;
          size = rw (t.planner, t.put) (omega arith);
          fall = inl (rw t.planner z);
        }

    -- the letter that was sent waits outward
    sent_waits :
        (d : Due) → Proper (sequence (name p) (p.lowest + d.place) d.letter) →
        InOut chosen.identifier (L.out ++ (text (sequence (name p) (p.lowest + d.place) d.letter) ∷ [])) (p.lowest + d.place)
    sent_waits d proper = (
      d.letter,
      subst (λ (i : ℕ). Waits (sequence i (p.lowest + d.place) d.letter) (L.out ++ (text (sequence (name p) (p.lowest + d.place) d.letter) ∷ [])))
          (name_is chosen v ls p L.office core (omega (arith, live.live))) (waits_last (sequence (name p) (p.lowest + d.place) d.letter) L.out proper),
    )

    sends_some :
        (d : Due) → lowest_due clock p ≡ Some d → Acts w (sent (sends_due (Some d) clock p)) L g a K →
        length L.out < 32 → Sending L K 1
    sends_some d e t few =
        let due = due_found clock p d e in
        let ok = sends_put chosen v ls p L.office core d clock live.live due in
        let out : K.out ≡ L.out ++ (text (sequence (name p) (p.lowest + d.place) d.letter) ∷ []) = t.put.appended (omega arith) in
        let less = (one_less chosen.gap p.credit clock p.lowest 0 p.window d v.gap (sym lowest_is ∙ e)).1 in
        let z : d.place - 0 ≡ d.place = omega arith in
        let fewer : suc (left (marked chosen v ls p L.office core d clock)) ≡ left p = rw z at less in
        record {
          live = live_acts w chosen v ls L live K _ g a t (sends_core chosen v ls p L.office core d clock due) (grows_state ls p (marked chosen v ls p L.office core d clock) L.office (λ _. omega arith)) ok live.live;
          office = t.office;
          back = t.back;
          page = t.page;
          credit = ap (λ (q : Source). q.credit) t.planner;
          written = ap (λ (q : Source). q.written) t.planner;
          lowest = ap (λ (q : Source). q.lowest) t.planner;
          each = rw (t.planner, out)
              (λ j. after_sending (Before chosen clock (L.out ++ (text (sequence (name p) (p.lowest + d.place) d.letter) ∷ [])) (p.lowest + j)) p.window d.place j clock d.letter due.last due.holds
              (λ same. inr (rw same (sent_waits d ok.0)))
              (λ other. before_more chosen clock _ L.out (p.lowest + j) (get_or p.window j free) (each j)));
          kept = λ m x. rw out (waits_more m _ L.out x);
          size = rw (t.planner, out) (simp length_push (omega arith));
          fall = inr (rw t.planner (omega arith));
        }

    sends_by :
        (x : Option Due) → lowest_due clock p ≡ x → Acts w (sent (sends_due x clock p)) L g a K →
        length L.out + left p ≤ 32 → Sending L K 1
    sends_by None e t few = sends_none t (none_left chosen.gap p.credit clock p.lowest 0 p.window (sym lowest_is ∙ e))
    sends_by (Some d) e t few =
        let less = (one_less chosen.gap p.credit clock p.lowest 0 p.window d v.gap (sym lowest_is ∙ e)).1 in
        sends_some d e t (omega arith)

    -- a send that stops had nothing to send
    stops_none :
        (x : Option Due) → lowest_due clock p ≡ x → Acts w (sent (sends_due x clock p)) L g a K →
        stops a ≡ true → left K.planner ≡ 0
    stops_none None e t z = rw t.planner (none_left chosen.gap p.credit clock p.lowest 0 p.window (sym lowest_is ∙ e))
    stops_none (Some d) e t z = absurd (false≢true (sym (ap stops t.answer) ∙ z))

    step_is : Acts w (sent (sends clock p)) L g a K → Acts w (sent (sends_due (lowest_due clock p) clock p)) L g a K
    step_is t = subst (λ x. Acts w (sent x) L g a K) (sends_is clock p live.live) t

    pub sends_one : Acts w (sent (sends clock p)) L g a K → length L.out + left p ≤ 32 → Sending L K 1
    sends_one t few = sends_by (lowest_due clock p) refl (step_is t) few

    pub sends_last : Acts w (sent (sends clock p)) L g a K → stops a ≡ true → left K.planner ≡ 0
    sends_last t z = stops_none (lowest_due clock p) refl (step_is t) z

  sends_more : (L K M : Line) (n : ℕ) → Sending L K 1 → Sending K M n → Sending L M (suc n)
  sends_more L K M n a b =
      record {
        live = b.live;
        office = b.office ∙ a.office;
        back = b.back ∙ a.back;
        page = b.page ∙ a.page;
        credit = b.credit ∙ a.credit;
        written = b.written ∙ a.written;
        lowest = b.lowest ∙ a.lowest;
        each = b.each;
        kept = λ m x. b.kept m (a.kept m x);
        size = (let p = a.size in let q = b.size in omega arith);
        fall = fall_more (left L.planner) (left K.planner) (left M.planner) n a.fall b.fall;
      }

  -- nothing is left: as good as any number of sends
  sends_end : (L M : Line) (n : ℕ) → Sending L M 1 → left M.planner ≡ 0 → Sending L M n
  sends_end L M n a e =
      record {
        live = a.live;
        office = a.office;
        back = a.back;
        page = a.page;
        credit = a.credit;
        written = a.written;
        lowest = a.lowest;
        each = a.each;
        kept = a.kept;
        size = a.size;
        fall = inl e;
      }

  pub send_phase :
      (k : ℕ) (ph : Phase) (L M : Line) → Until w (sending clock) k ph L M →
      length L.out + left L.planner ≤ 32 → Live chosen ls L → Unsent L → Sending L M k
  send_phase k ph L M enough few live h =
      record {
        live = live;
        office = refl;
        back = refl;
        page = refl;
        credit = refl;
        written = refl;
        lowest = refl;
        each = h;
        kept = λ m x. x;
        size = omega arith;
        fall = inr (omega arith);
      }
  send_phase k ph L M (last {a = a} m e) few live h =
      sends_end L M k (sends_one L M live h m.got a m.step few) (sends_last L M live h m.got a m.step e)
  send_phase k ph L M (again {n = n} {p = q} {K = K} {a = a} m e r) few live h =
      let x = sends_one L K live h m.got a m.step few in
      let z = x.size in
      sends_more L K M n x (send_phase n q K M r (omega arith) x.live x.each)

  -- at most eight are due
  pub few_left : (L : Line) → Live chosen ls L → left L.planner ≤ 8
  few_left L live =
      let q = dues_few chosen.gap L.planner.credit clock L.planner.lowest 0 L.planner.window in
      omega (arith, live.inv.core.wrote.eight)

  pub sent_all :
      (k : ℕ) (L M : Line) → 8 ≤ k → Live chosen ls L → Sending L M k →
      Each (After chosen clock M.planner.credit (InOut chosen.identifier M.out)) M.planner.lowest M.planner.window
  sent_all k L M big live s j =
      let few = few_left L live in
      let none : left M.planner ≡ 0 = elim s.fall [ inl x ↦ x | inr x ↦ omega arith ] in
      let z : M.planner.lowest + (0 + j) ≡ M.planner.lowest + j = omega arith in
      after_one chosen M.planner.credit clock M.out (M.planner.lowest + j) (get_or M.planner.window j free)
      (subst (λ (n : ℕ). due_letter chosen.gap M.planner.credit clock n (get_or M.planner.window j free) ≡ None) z
      (none_due chosen.gap M.planner.credit clock M.planner.lowest 0 j M.planner.window none))
      (s.each j)

-- Ask.

pub record Asked (chosen : Chosen) (ls : List Letter) (L M : Line) : Type 0 where
  pub live : Live chosen ls M
  pub planner : M.planner ≡ L.planner
  pub office : M.office ≡ L.office
  pub back : M.back ≡ L.back
  pub page : M.page ≡ L.page
  pub asked : Waits (ack_requested chosen.identifier) M.out
  pub kept : (m : Meaning) → Waits m L.out → Waits m M.out
  pub size : length M.out ≤ length L.out + 1

module _ (w : Over) (chosen : Chosen) (v : Valid chosen) (ls : List Letter) (deep : 32 ≤ w.depth_out) where
  asks_done :
      (L M : Line) (g : Option Bytes) (a : Answer) → length L.out < 32 → Live chosen ls L →
      Acts w (done (sources.done L.planner (ack_requested (name L.planner)))) L g a M →
      Asked chosen ls L M
  unfolding Proper
  asks_done L M g a few live t =
      let p = L.planner in
      let k = live.inv.core in
      let two : 2 ≤ rank p.state = omega (arith, live.live) in
      let named = name_is chosen v ls p L.office k two in
      let proper = name_proper chosen v ls p L.office k two in
      let out : M.out ≡ L.out ++ (text (ack_requested (name p)) ∷ []) = t.put.appended (omega arith) in
      record {
        live = live_acts w chosen v ls L live M _ g a t k (grows_same ls p L.office) (proper, (named, two)) live.live;
        planner = t.planner;
        office = t.office;
        back = t.back;
        page = t.page;
        asked = rw out (subst (λ (i : ℕ). Waits (ack_requested i) (L.out ++ (text (ack_requested (name p)) ∷ []))) named (waits_last (ack_requested (name p)) L.out proper));
        kept = λ m x. rw out (waits_more m _ L.out x);
        size = rw out (simp length_push (omega arith));
      }

  pub ask_phase :
      (L M : Line) (a : Answer) → Made w asking a L M → length L.out < 32 → Live chosen ls L →
      Asked chosen ls L M
  ask_phase L M a m few live =
      asks_done L M m.got a few live (subst (λ x. Acts w (done x) L m.got a M) (asks_is L.planner live.live) m.step)
