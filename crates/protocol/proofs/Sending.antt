-- A send keeps the invariant: what it puts is a letter as it was written, at most the credit.
use Rattle.std.proofs.Common.{◌≡◌, ℕ, suc, ◌+◌, ◌-◌, ◌<◌, ◌≤◌, Bool, true, false, cond, ◌&&◌, leb, ◌≢◌, List, [], ◌∷◌, length, get_or, set, Some, None, Option, sym, refl, ap, ◌∙◌, subst, inl, inr, arith}
use Rattle.std.proofs.lemmas.List.{get_or-set_same, get_or-set_other, get_or_past, length-set}
use Rattle.std.proofs.lemmas.Bool.{and_parts, leb-true, eqb-true, cases_eq, cases_lt}
use Rattle.frame.specs.Bounds.{M}
use Rattle.frame.specs.Meanings.{sequence, Proper}
use Rattle.office.specs.Destinations.{Destination}
use Rattle.planner.specs.Sending.{Due, due_letter, or_later, first_due, lowest_due, rested, sends_due, sends}
use Rattle.planner.specs.Settings.{Chosen}
use Rattle.planner.specs.Sources.{Source, with_window, name}
use Rattle.planner.specs.States.{rank}
use Rattle.planner.specs.Windows.{Slot, free, waiting, receipted}
use Rattle.protocol.specs.Calls.{sending}
use Rattle.protocol.specs.Lines.{Valid}
use Rattle.protocol.specs.Steps.{sent}
use Rattle.protocol.specs.Tallies.{Letter, letter_at}
use Rattle.protocol.proofs.Invariant.{Holds, Core, OutOK, grows_same, grows_state}
use Rattle.protocol.proofs.Letters.{nowhere, at_within}
use Rattle.protocol.proofs.Planning.{Keeps, gated, refused_keeps, name_is, name_proper}
use Rattle.protocol.proofs.Waiting.{PutOK}

-- the slot holds this letter, which is due as number n
pub record IsDue (gap credit clock n : ℕ) (s : Slot) (l : Letter) : Type 0 where
  pub last : Option ℕ
  pub holds : s ≡ waiting l last
  pub promised : n ≤ credit
  pub rests : rested gap clock last ≡ true

due_if :
    (gap credit clock n : ℕ) (m l : Letter) (last : Option ℕ) (t : Bool) →
    (leb n credit && rested gap clock last) ≡ t → cond t (Some m) None ≡ Some l →
    IsDue gap credit clock n (waiting m last) l
due_if gap credit clock n m l last true is e =
    let q = and_parts (leb n credit) (rested gap clock last) is in
    let z : m ≡ l = cc in
    record { last = last; holds = ap (λ (x : Letter). waiting x last) z; promised = leb-true n credit q.0; rests = q.1 }
due_if gap credit clock n m l last false is e = nowhere l e

is_due :
    (gap credit clock n : ℕ) (s : Slot) (l : Letter) → due_letter gap credit clock n s ≡ Some l →
    IsDue gap credit clock n s l
is_due gap credit clock n free l e = nowhere l e
is_due gap credit clock n (waiting m last) l e = due_if gap credit clock n m l last _ refl e
is_due gap credit clock n receipted l e = nowhere l e

-- the first that is due of the slots from place k on
pub record Found (gap credit clock b k : ℕ) (w : List Slot) (d : Due) : Type 0 where
  pub behind : k ≤ d.place
  pub due : IsDue gap credit clock (b + d.place) (get_or w (d.place - k) free) d.letter

found_by :
    (gap credit clock b k : ℕ) (s : Slot) (w : List Slot) (d : Due) (x : Option Letter) →
    due_letter gap credit clock (b + k) s ≡ x →
    or_later x k (first_due gap credit clock b (k + 1) w) ≡ Some d →
    (first_due gap credit clock b (k + 1) w ≡ Some d → Found gap credit clock b (k + 1) w d) →
    Found gap credit clock b k (s ∷ w) d
found_by gap credit clock b k s w d (Some l) is e rest =
    let at : k ≡ d.place = cc in
    let of : l ≡ d.letter = cc in
    let z : d.place - k ≡ 0 = omega arith in
    record {
      behind = omega arith;
      due = rw (z, ← at, ← of) (is_due gap credit clock (b + k) s l is);
    }
found_by gap credit clock b k s w d None is e rest =
    let more = rest e in
    let z : d.place - k ≡ suc (d.place - (k + 1)) = omega (arith, more.behind) in
    record { behind = omega (arith, more.behind); due = rw z more.due }

found :
    (gap credit clock b k : ℕ) (w : List Slot) (d : Due) → first_due gap credit clock b k w ≡ Some d →
    Found gap credit clock b k w d
found gap credit clock b k [] d e = nowhere d e
found gap credit clock b k (s ∷ w) d e =
    found_by gap credit clock b k s w d (due_letter gap credit clock (b + k) s) refl e (found gap credit clock b (k + 1) w d)

pub due_found :
    (clock : ℕ) (s : Source) (d : Due) → lowest_due clock s ≡ Some d →
    IsDue s.gap s.credit clock (s.lowest + d.place) (get_or s.window d.place free) d.letter
due_found clock s d e =
    let z : d.place - 0 ≡ d.place = omega arith in
    rw z at (found s.gap s.credit clock s.lowest 0 s.window d e).due

-- only a slot within the window holds a letter
pub within : (w : List Slot) (j : ℕ) (l : Letter) (last : Option ℕ) → get_or w j free ≡ waiting l last → j < length w
within w j l last e =
    elim (cases_lt j (length w)) [
      | inl x ↦ x
      | inr x ↦ (let q = get_or_past w j free x in let z : ◌≡◌ {A = ℕ} 0 1 = cc in absurd (omega arith))
    ]

-- what the slot at place j is after the letter at place i was sent
pub after_sending :
    (P : Slot → Type 0) (w : List Slot) (i j clock : ℕ) (l : Letter) (last : Option ℕ) →
    get_or w i free ≡ waiting l last →
    (j ≡ i → P (waiting l (Some clock))) →
    (j ≢ i → P (get_or w j free)) →
    P (get_or (set w i (waiting l (Some clock))) j free)
after_sending P w i j clock l last e here else =
    elim (cases_eq j i) [
      | inl same ↦
          subst P
          (sym (ap (λ (n : ℕ). get_or (set w i (waiting l (Some clock))) n free) same ∙
          get_or-set_same w i (waiting l (Some clock)) free (within w i l last e)))
          (here same)
      | inr other ↦ subst P (sym (get_or-set_other w i j (waiting l (Some clock)) free other)) (else other)
    ]

module _ (chosen : Chosen) (v : Valid chosen) (ls : List Letter) (p : Source) (o : Destination) (k : Core chosen ls p o) where
  -- the window with a letter marked as sent
  abbrev pub marked : Due → ℕ → Source
  marked d clock = with_window p.written (set p.window d.place (waiting d.letter (Some clock))) p

  pub due_letter_is :
      (d : Due) (clock : ℕ) →
      IsDue p.gap p.credit clock (p.lowest + d.place) (get_or p.window d.place free) d.letter →
      letter_at ls (p.lowest + d.place) ≡ Some d.letter
  due_letter_is d clock due = subst (Holds ls o (p.lowest + d.place)) due.holds (k.tied.held d.place)

  pub sends_core :
      (d : Due) (clock : ℕ) →
      IsDue p.gap p.credit clock (p.lowest + d.place) (get_or p.window d.place free) d.letter →
      Core chosen ls (marked d clock) o
  sends_core d clock due =
      record {
        wrote = record {
          count = k.wrote.count;
          limit_is = k.wrote.limit_is;
          limited = k.wrote.limited;
          fine = k.wrote.fine;
          low_pos = k.wrote.low_pos;
          reached = k.wrote.reached;
          near = k.wrote.near;
          eight = length-set p.window d.place (waiting d.letter (Some clock)) ∙ k.wrote.eight;
        };
        took = k.took;
        tied = record {
          held = λ j. after_sending (Holds ls o (p.lowest + j)) p.window d.place j clock d.letter due.last due.holds
              (λ same. rw same (due_letter_is d clock due)) (λ other. k.tied.held j);
          below = k.tied.below;
          credit = k.tied.credit;
        };
        states = k.states;
        named = k.named;
        gap_is = k.gap_is;
      }

  pub sends_put :
      (d : Due) (clock : ℕ) → rank p.state ≡ 2 →
      IsDue p.gap p.credit clock (p.lowest + d.place) (get_or p.window d.place free) d.letter →
      PutOK (OutOK chosen ls (marked d clock) o) (Some (sequence (name p) (p.lowest + d.place) d.letter))
  unfolding Proper
  sends_put d clock r due =
      let is = due_letter_is d clock due in
      let q = at_within ls (p.lowest + d.place) d.letter is in
      let two : 2 ≤ rank p.state = omega arith in
      let top : p.lowest + d.place ≤ M = omega (arith, k.wrote.count, k.wrote.limited, k.wrote.limit_is, v.limit) in
      let few : p.lowest + d.place ≤ o.delivered + 8 = omega (arith, due.promised, k.tied.credit) in (
        (name_proper chosen v ls p o k two, (q.0, top), k.wrote.fine (p.lowest + d.place) d.letter is),
        (name_is chosen v ls p o k two, is, few, two),
      )

  sends_by :
      (clock : ℕ) (x : Option Due) → lowest_due clock p ≡ x → rank p.state ≡ 2 →
      Keeps chosen ls p o (sending clock) (sent (sends_due x clock p))
  sends_by clock None e r =
      record { letters = ls; fed = λ step n page. refl; core = k; grows = grows_same ls p o; put_ok = tt; calm = omega arith }
  sends_by clock (Some d) e r =
      let due = due_found clock p d e in
      record {
        letters = ls;
        fed = λ step n page. refl;
        core = sends_core d clock due;
        grows = grows_state ls p (marked d clock) o (λ _. omega arith);
        put_ok = sends_put d clock r due;
        calm = omega arith;
      }

  pub sends_keeps : (clock : ℕ) → Keeps chosen ls p o (sending clock) (sent (sends clock p))
  sends_keeps clock =
      gated (Keeps chosen ls p o (sending clock)) sent p _ _ (refused_keeps chosen v ls p o k (sending clock) _ (omega arith))
      (λ t. sends_by clock (lowest_due clock p) refl (eqb-true (rank p.state) 2 t))
