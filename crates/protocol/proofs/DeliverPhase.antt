-- Deliver, until nothing comes: as far as letters are accepted.
use Rattle.std.proofs.Common.{◌≡◌, ℕ, zero, suc, ◌+◌, ◌≤◌, true, false, ◌&&◌, ltb, leb, ◌⊎◌, List, [], ◌∷◌, get_or, drop, is_some, Some, None, Option, sym, refl, ap, ◌∙◌, subst, inl, inr, add-one, arith}
use Rattle.std.proofs.lemmas.Bool.{false≢true, cases_lt, and_parts, or_cases, leb-true}
use Rattle.answer.specs.Phases.{stops}
use Rattle.answer.specs.declared.answer.Answer.{Answer}
use Rattle.answer.specs.declared.turn.Phase.{Phase}
use Rattle.office.specs.Accepted.{is_accepted}
use Rattle.office.specs.Deliveries.{next_letter}
use Rattle.office.specs.Destinations.{Destination}
use Rattle.office.specs.Places.{has_place, place_of}
use Rattle.planner.specs.Settings.{Chosen}
use Rattle.taker.specs.Steps.{Page}
use Rattle.transport.specs.Meaning.{Bytes}
use Rattle.protocol.specs.Calls.{delivering}
use Rattle.protocol.specs.Lines.{Over, Line, Valid}
use Rattle.protocol.specs.Steps.{Delivers, hands_first, hands}
use Rattle.protocol.specs.Tallies.{Letter, letter_at}
use Rattle.protocol.specs.Turns.{Until, enough, last, again, Flows}
use Rattle.protocol.proofs.Delivering.{after_is, next_is, delivers_ok}
use Rattle.protocol.proofs.Invariant.{Accepted}
use Rattle.protocol.proofs.Letters.{nowhere}
use Rattle.protocol.proofs.Living.{Live, live_delivers}

drop_letter : (ls : List Letter) (d : ℕ) (l : Letter) → letter_at ls (suc d) ≡ Some l → drop d ls ≡ l ∷ drop (suc d) ls
drop_letter [] d l h = nowhere l h
drop_letter (x ∷ ls) zero l h = let z : x ≡ l = cc in ap (λ (y : Letter). y ∷ ls) z
drop_letter (x ∷ ls) (suc d) l h = drop_letter ls d l h

module _ (w : Over) (chosen : Chosen) (v : Valid chosen) (ls : List Letter) where
  -- the letters still to be delivered flow
  abbrev pub Onward : Line → Type 0
  Onward L = Flows w.step L.page (drop L.office.delivered ls)

  -- one deliver: nothing is there, or one letter more is delivered
  record Idle (L K : Line) : Type 0 where
    free : next_letter L.office ≡ None
    office : K.office ≡ L.office
    page : K.page ≡ L.page

  record Taken (L K : Line) (a : Answer) : Type 0 where
    full : next_letter L.office ≡ None → ⊥
    more : K.office.delivered ≡ L.office.delivered + 1
    goes : stops a ≡ false
    onward : Onward K

  module _ (L K : Line) (live : Live chosen ls L) (g : Option Bytes) (a : Answer) (t : Delivers w L g a K) where
    taken_by :
        (l : Letter) (next : Page) → next_letter L.office ≡ Some l → w.step L.page l ≡ Some next →
        Flows w.step next (drop (suc L.office.delivered) ls) → Taken L K a
    taken_by l next e s f =
        let first : hands w.step L.office L.page ≡ hands_first (Some l) w.step L.office L.page = ap (λ (x : Option Letter). hands_first x w.step L.office L.page) e in
        let is = after_is L.office l e in
        let d : K.office.delivered ≡ L.office.delivered + 1 = rw (t.office, first, s, is) refl in
        let page : K.page ≡ next = rw (t.page, first, s) refl in
        record {
          full = λ x. nowhere l (sym x ∙ e);
          more = d;
          goes = rw (t.answer, first, s) refl;
          onward = rw (page, d, add-one) f;
        }

    by_first : (x : Option Letter) → next_letter L.office ≡ x → Onward L → Idle L K ⊎ Taken L K a
    by_first None e f =
        let first : hands w.step L.office L.page ≡ hands_first None w.step L.office L.page = ap (λ (x : Option Letter). hands_first x w.step L.office L.page) e in
        inl (record { free = e; office = rw (t.office, first) refl; page = rw (t.page, first) refl })
    by_first (Some l) e f =
        let at : letter_at ls (suc L.office.delivered) ≡ Some l = subst (λ (n : ℕ). letter_at ls n ≡ Some l) (add-one L.office.delivered) (next_is chosen ls L.planner L.office live.inv.core l e) in
        let q : Flows w.step L.page (l ∷ drop (suc L.office.delivered) ls) = subst (Flows w.step L.page) (drop_letter ls L.office.delivered l at) f in
        inr (taken_by l q.0 e q.1 q.2)

    one : Onward L → Idle L K ⊎ Taken L K a
    one f = by_first (next_letter L.office) refl f

    step_accepted : (n : ℕ) → Accepted L.office n → Accepted K.office n
    step_accepted n h = rw t.office ((delivers_ok chosen ls L.planner L.office live.inv.core w.step L.page).grows.accepted n h)

  pub record Delivering (L M : Line) (k : ℕ) : Type 0 where
    pub live : Live chosen ls M
    pub planner : M.planner ≡ L.planner
    pub out : M.out ≡ L.out
    pub back : M.back ≡ L.back
    pub up : L.office.delivered ≤ M.office.delivered
    pub accepted : (n : ℕ) → Accepted L.office n → Accepted M.office n
    pub onward : Onward M
    pub idle : next_letter L.office ≡ None → M.office ≡ L.office
    pub end : (L.office.delivered + k ≤ M.office.delivered) ⊎ (next_letter M.office ≡ None)

  stopped : (M : Line) (n : ℕ) → Live chosen ls M → next_letter M.office ≡ None → Onward M → Delivering M M n
  stopped M n live e f =
      record { live = live; planner = refl; out = refl; back = refl; up = omega arith; accepted = λ n a. a; onward = f; idle = λ x. refl; end = inr e }

  module _ (L K M : Line) (n : ℕ) (live : Live chosen ls L) (g : Option Bytes) (a : Answer) (t : Delivers w L g a K) (r : Delivering K M n) where
    idle_more : Idle L K → Delivering L M (suc n)
    idle_more c =
        let u = ap (λ (o : Destination). o.delivered) c.office in
        let e : next_letter K.office ≡ None = rw c.office c.free in
        let z = r.up in
        record {
          live = r.live;
          planner = r.planner ∙ t.planner;
          out = r.out ∙ t.out;
          back = r.back ∙ t.back;
          up = omega arith;
          accepted = λ m h. r.accepted m (step_accepted L K live g a t m h);
          onward = r.onward;
          idle = λ x. r.idle e ∙ c.office;
          end = inr (rw (r.idle e) e);
        }

    taken_more : Taken L K a → Delivering L M (suc n)
    taken_more c =
        let u = c.more in
        let z = r.up in
        record {
          live = r.live;
          planner = r.planner ∙ t.planner;
          out = r.out ∙ t.out;
          back = r.back ∙ t.back;
          up = omega arith;
          accepted = λ m h. r.accepted m (step_accepted L K live g a t m h);
          onward = r.onward;
          idle = λ x. absurd (c.full x);
          end = elim r.end [ inl x ↦ inl (omega arith) | inr x ↦ inr x ];
        }

  pub deliver_phase :
      (k : ℕ) (ph : Phase) (L M : Line) → Until w delivering k ph L M → Live chosen ls L → Onward L →
      Delivering L M k
  deliver_phase k ph L M enough live f =
      record { live = live; planner = refl; out = refl; back = refl; up = omega arith; accepted = λ n a. a; onward = f; idle = λ x. refl; end = inl (omega arith) }
  deliver_phase k ph L M (last {n = n} {a = a} m e) live f =
      let t = m.step in
      let u = live_delivers w chosen v ls L live M m.got a t in
      elim (one L M live m.got a t f) [
        | inl c ↦
            idle_more L M M n live m.got a t
            (stopped M n u (rw c.office c.free) (rw (c.office, c.page) f)) c
        | inr c ↦ absurd (false≢true (sym c.goes ∙ e))
      ]
  deliver_phase k ph L M (again {n = n} {p = q} {K = K} {a = a} m e r) live f =
      let t = m.step in
      let u = live_delivers w chosen v ls L live K m.got a t in
      elim (one L K live m.got a t f) [
        | inl c ↦ idle_more L K M n live m.got a t (deliver_phase n q K M r u (rw (c.office, c.page) f)) c
        | inr c ↦ taken_more L K M n live m.got a t (deliver_phase n q K M r u c.onward) c
      ]

-- an accepted number is near
accepted_near : (o : Destination) (n : ℕ) → Accepted o n → n ≤ o.delivered + 8
unfolding is_accepted
accepted_near o n h =
    elim (or_cases (leb 1 n && leb n o.delivered) (has_place o.delivered n && is_some (get_or o.places (place_of o.delivered n) None)) h) [
      | inl x ↦ (let q = leb-true n o.delivered (and_parts (leb 1 n) (leb n o.delivered) x).1 in omega arith)
      | inr x ↦
          (let q = and_parts (has_place o.delivered n) _ x in
          leb-true n (o.delivered + 8) (and_parts (ltb o.delivered n) (leb n (o.delivered + 8)) q.0).1)
    ]

-- where the next letter is not accepted, its number is not
free_stops : (o : Destination) → next_letter o ≡ None → Accepted o (o.delivered + 1) → ⊥
unfolding is_accepted
free_stops o e h =
    elim (or_cases (leb 1 (o.delivered + 1) && leb (o.delivered + 1) o.delivered) _ h) [
      | inl x ↦ (let q = leb-true (o.delivered + 1) o.delivered (and_parts (leb 1 (o.delivered + 1)) (leb (o.delivered + 1) o.delivered) x).1 in omega arith)
      | inr x ↦
          (let q = and_parts (has_place o.delivered (o.delivered + 1)) _ x in
          let z : place_of o.delivered (o.delivered + 1) ≡ 0 = omega arith in
          let y : is_some (get_or o.places 0 None) ≡ true = subst (λ (i : ℕ). is_some (get_or o.places i None) ≡ true) z q.1 in
          false≢true (sym (ap is_some e) ∙ y))
    ]

-- after eight delivers all that was accepted from 1 on is delivered
pub delivered_all :
    (w : Over) (chosen : Chosen) (v : Valid chosen) (ls : List Letter) (L M : Line) (k x : ℕ) → 8 ≤ k →
    Delivering w chosen v ls L M k → ((n : ℕ) → 1 ≤ n → n ≤ x → Accepted L.office n) →
    x ≤ M.office.delivered
delivered_all w chosen v ls L M k zero big d a = omega arith
delivered_all w chosen v ls L M k (suc x) big d a =
    let near = accepted_near L.office (suc x) (a (suc x) (omega arith) (omega arith)) in
    elim d.end [
      | inl y ↦ omega arith
      | inr y ↦
          elim (cases_lt M.office.delivered (suc x)) [
            | inl z ↦
                absurd (free_stops M.office y (d.accepted (M.office.delivered + 1) (a (M.office.delivered + 1) (omega arith) (omega arith))))
            | inr z ↦ z
          ]
    ]
