-- The calls of the planner's end that get nothing keep the invariant.
use Rattle.std.proofs.Common.{◌≡◌, ℕ, suc, ◌+◌, ◌-◌, ◌/◌, ◌%◌, ◌<◌, ◌≤◌, Bool, true, false, cond, ◌&&◌, eqb, ltb, leb, ◌≢◌, List, [], ◌∷◌, ◌++◌, length, get_or, set, Some, None, Ok, Err, Option, unwrap_or, sym, refl, ap, ◌∙◌, subst, inl, inr, arith}
use Rattle.std.proofs.lemmas.List.{get_or-set_same, get_or-set_other, length-set, length_push}
use Rattle.std.proofs.lemmas.Bool.{and_parts, leb-true, eqb-true, eqb-false, ltb-false, cases_eq}
use Rattle.answer.specs.Refusals.{refused_by}
use Rattle.answer.specs.declared.answer.Answer.TheVariants as answer
use Rattle.frame.specs.Bounds.{M, IsIdentifier, number_of}
use Rattle.frame.specs.Meanings.{Meaning, create_sequence, ack_requested, close_sequence, terminate_sequence, IsLast, IsLetter, AllBytes, Proper}
use Rattle.letter.specs.Changes.{encoded, two_bytes, four_bytes}
use Rattle.letter.specs.Letters.{is_letter}
use Rattle.letter.specs.declared.change.Change.TheVariants.{Put}
use Rattle.letter.specs.declared.change.Path.{Path}
use Rattle.office.specs.Destinations.{Destination}
use Rattle.planner.specs.Opening.{opens, asks, closes, finishes}
use Rattle.planner.specs.Refusals as planner
use Rattle.planner.specs.Settings.{Chosen}
use Rattle.planner.specs.Sources as sources
use Rattle.planner.specs.Sources.{Source, Acted, allowed, in_state, with_window, name}
use Rattle.planner.specs.States.{rank}
use Rattle.planner.specs.Windows.{Slot, free, waiting, receipted}
use Rattle.planner.specs.Writing.{with_letter, adds_at, adds, writes, posts}
use Rattle.planner.specs.declared.refusal.PlannerRefusal.{PlannerRefusal}
use Rattle.planner.specs.declared.refusal.PlannerRefusal.TheVariants as refusal
use Rattle.planner.specs.declared.state.PlannerState.{PlannerState}
use Rattle.planner.specs.declared.state.PlannerState.TheVariants as state
use Rattle.taker.specs.Steps.{Page, Step}
use Rattle.protocol.specs.Calls.{Call, opening, asking, closing, finishing, writing, posting}
use Rattle.protocol.specs.Lines.{Valid}
use Rattle.protocol.specs.Steps.{Doing, doing, refuses, done, numbered, sent}
use Rattle.protocol.specs.Tallies.{Letter, letter_at, effect, numbering, adds as added, counted, tally}
use Rattle.protocol.proofs.Invariant.{Holds, Core, OutOK, Grows, height, grows_same, grows_state}
use Rattle.protocol.proofs.Letters.{at_grows, at_last, at_split}
use Rattle.protocol.proofs.Waiting.{PutOK}

-- what a call of the planner's end does for the invariant
pub record Keeps (chosen : Chosen) (ls : List Letter) (p : Source) (o : Destination) (c : Call) (d : Doing) : Type 0 where
  pub letters : List Letter
  pub fed :
      (step : Step) (n : ℕ) (page : Page) →
      counted step (effect c d.answer) (tally ls n page) ≡ tally letters n page
  pub core : Core chosen letters d.source o
  pub grows : Grows ls p o letters d.source o
  pub put_ok : PutOK (OutOK chosen letters d.source o) d.frame
  pub calm : refused_by d.answer ≤ 5

-- the test of the state passes, or nothing happens
pub gated :
    {A : Type 0} (P : Doing → Type 0) (f : Acted A → Doing) (s : Source) (t : Bool) (x : Acted A) →
    P (f (sources.refuses s (refusal.State s.state))) →
    (t ≡ true → P (f x)) →
    P (f (allowed t s x))
gated P f s true x r h = h refl
gated P f s false x r h = r

is_lettered : (l : Letter) → AllBytes l → is_letter l ≡ true → IsLetter l
is_lettered l b h =
    let q = and_parts (leb 1 (length l)) (leb (length l) 48) h in
    (leb-true 1 (length l) q.0, leb-true (length l) 48 q.1, b)

-- a number in bytes, and then what is bytes too

byte_below : (n : ℕ) → n % 256 < 256
byte_below n = omega arith

two_then : (n : ℕ) (rest : List ℕ) → AllBytes rest → AllBytes (two_bytes n ++ rest)
two_then n rest h = (byte_below (n / 256), (byte_below n, h))

four_then : (n : ℕ) (rest : List ℕ) → AllBytes rest → AllBytes (four_bytes n ++ rest)
four_then n rest h = (byte_below (n / 16777216), (byte_below (n / 65536), two_then n rest h))

put_lettered : (p : Path) → IsLetter (encoded (Put p))
put_lettered p =
    let late = four_then p.leave [] tt in
    let early = four_then p.enter (four_bytes p.leave) late in
    let where-at = two_then p.section (four_bytes p.enter ++ four_bytes p.leave) early in
    (omega arith, omega arith, (omega arith, four_then p.train (two_bytes p.section ++ (four_bytes p.enter ++ four_bytes p.leave)) where-at))

last_proper : (n : ℕ) (t : Bool) → (t ≡ true → (1 ≤ n) × (n ≤ M)) → IsLast (cond t (Some n) None)
last_proper n true h = h refl
last_proper n false h = tt

pub number_proper : (n : ℕ) → IsLast (number_of n)
number_proper n =
    last_proper n (leb 1 n && leb n M)
    (λ e. let q = and_parts (leb 1 n) (leb n M) e in (leb-true 1 n q.0, leb-true n M q.1))

module _ (chosen : Chosen) (v : Valid chosen) (ls : List Letter) (p : Source) (o : Destination) (k : Core chosen ls p o) where
  -- the same but for the planner's state
  pub core_state :
      (s : PlannerState) → rank p.state ≤ rank s → (6 ≤ rank s → 3 ≤ height o.state) →
      (2 ≤ rank s → 2 ≤ rank p.state) → Core chosen ls (in_state s p) o
  core_state s a b d =
      record {
        wrote = k.wrote;
        took = k.took;
        tied = k.tied;
        states = record {
          name = λ h. k.states.name (d h);
          begun = λ h. k.states.begun (d h);
          closed_late = λ h. (let z = k.states.closed_late h in omega arith);
          closed_last = k.states.closed_last;
          ended_terminated = b;
        };
        named = k.named;
        gap_is = k.gap_is;
      }

  pub name_is : 2 ≤ rank p.state → name p ≡ chosen.identifier
  name_is h = ap (λ (x : Option ℕ). unwrap_or x 0) (k.states.name h)

  pub name_proper : 2 ≤ rank p.state → IsIdentifier (name p)
  name_proper h = rw (name_is h) v.identifier

  pub refused_keeps :
      (c : Call) (why : PlannerRefusal) → planner.refusal_number why ≤ 5 → Keeps chosen ls p o c (refuses p why)
  refused_keeps c why few =
      record { letters = ls; fed = λ step n page. refl; core = k; grows = grows_same ls p o; put_ok = tt; calm = few }

  state_keeps :
      (c : Call) (s : PlannerState) (m : Meaning) → rank p.state ≤ rank s → rank s ≤ 5 →
      (2 ≤ rank s → 2 ≤ rank p.state) → Proper m → OutOK chosen ls (in_state s p) o m →
      Keeps chosen ls p o c (doing (in_state s p) answer.Done (Some m))
  state_keeps c s m a b d x y =
      record {
        letters = ls;
        fed = λ step n page. refl;
        core = core_state s a (omega arith) d;
        grows = grows_state ls p (in_state s p) o (λ _. a);
        put_ok = (x, y);
        calm = omega arith;
      }

  pub opens_keeps : Keeps chosen ls p o opening (done (opens p))
  unfolding Proper
  opens_keeps =
      gated (Keeps chosen ls p o opening) done p _ _ (refused_keeps opening _ (omega arith))
      (λ t. state_keeps opening state.Creating create_sequence (leb-true (rank p.state) 1 t) (omega arith) (omega arith) tt tt)

  pub asks_keeps : Keeps chosen ls p o asking (done (asks p))
  unfolding Proper
  asks_keeps =
      gated (Keeps chosen ls p o asking) done p _ _ (refused_keeps asking _ (omega arith))
      (λ t.
      let r = eqb-true (rank p.state) 2 t in
      let two : 2 ≤ rank p.state = omega arith in
      state_keeps asking p.state (ack_requested (name p)) (omega arith) (omega arith) (omega arith) (name_proper two) (name_is two, two))

  pub closes_keeps : Keeps chosen ls p o closing (done (closes p))
  unfolding Proper
  closes_keeps =
      gated (Keeps chosen ls p o closing) done p _ _ (refused_keeps closing _ (omega arith))
      (λ t.
      let q = and_parts (leb 2 (rank p.state)) (leb (rank p.state) 3) t in
      let two = leb-true 2 (rank p.state) q.0 in
      state_keeps closing state.Closing (close_sequence (name p) (number_of p.written)) (leb-true (rank p.state) 3 q.1) (omega arith) (λ _. two)
      (name_proper two, number_proper p.written) (name_is two, ap number_of k.wrote.count, omega arith))

  pub finishes_keeps : Keeps chosen ls p o finishing (done (finishes p))
  unfolding Proper
  finishes_keeps =
      gated (Keeps chosen ls p o finishing) done p _ _ (refused_keeps finishing _ (omega arith))
      (λ t.
      let q = and_parts (leb 4 (rank p.state)) (leb (rank p.state) 5) t in
      let four = leb-true 4 (rank p.state) q.0 in
      let two : 2 ≤ rank p.state = omega arith in
      state_keeps finishing state.Terminating (terminate_sequence (name p) (number_of p.written)) (leb-true (rank p.state) 5 q.1) (omega arith) (λ _. two)
      (name_proper two, number_proper p.written) (name_is two, ap number_of k.wrote.count, omega arith))

  -- write and post: one letter more

  held_more :
      (x : Letter) (j : ℕ) (s : Slot) → j ≢ p.written + 1 - p.lowest → Holds ls o (p.lowest + j) s →
      Holds (ls ++ (x ∷ [])) o (p.lowest + j) s
  held_more x j free ne h = simp length_push (let a = k.wrote.count in let b = k.wrote.reached in omega arith)
  held_more x j (waiting l sent) ne h = at_grows ls x (p.lowest + j) l h
  held_more x j receipted ne h = h

  new_letter :
      (x : Letter) (j : ℕ) → j ≡ p.written + 1 - p.lowest →
      letter_at (ls ++ (x ∷ [])) (p.lowest + j) ≡ Some x
  new_letter x j e =
      let a = k.wrote.count in
      let b = k.wrote.reached in
      let z : p.lowest + j ≡ suc (length ls) = omega arith in
      rw z (at_last ls x)

  held_with :
      (x : Letter) → p.written + 1 ≤ p.lowest + 7 → (j : ℕ) →
      Holds (ls ++ (x ∷ [])) o (p.lowest + j) (get_or (set p.window (p.written + 1 - p.lowest) (waiting x None)) j free)
  held_with x room j =
      let at = p.written + 1 - p.lowest in
      elim (cases_eq j at) [
        | inl e ↦
            subst (Holds (ls ++ (x ∷ [])) o (p.lowest + j))
            (sym (ap (λ (i : ℕ). get_or (set p.window at (waiting x None)) i free) e ∙
            get_or-set_same p.window at (waiting x None) free (omega (arith, k.wrote.eight, k.wrote.reached))))
            (new_letter x j e)
        | inr ne ↦
            subst (Holds (ls ++ (x ∷ [])) o (p.lowest + j))
            (sym (get_or-set_other p.window at j (waiting x None) free ne))
            (held_more x j (get_or p.window j free) ne (k.tied.held j))
      ]

  adds_core :
      (x : Letter) → IsLetter x → rank p.state ≡ 2 → p.written + 1 ≤ p.limit →
      p.written + 1 ≤ p.lowest + 7 → Core chosen (ls ++ (x ∷ [])) (with_letter x p) o
  adds_core x f r few room =
      record {
        wrote = record {
          count = simp length_push (ap (λ (n : ℕ). n + 1) k.wrote.count);
          limit_is = k.wrote.limit_is;
          limited = few;
          fine = λ n l h. elim (at_split ls x n l h) [ inl q ↦ k.wrote.fine n l q | inr q ↦ subst IsLetter q f ];
          low_pos = k.wrote.low_pos;
          reached = omega (arith, k.wrote.reached);
          near = room;
          eight = length-set p.window (p.written + 1 - p.lowest) (waiting x None) ∙ k.wrote.eight;
        };
        took = record {
          eight = k.took.eight;
          kept = λ n l h. at_grows ls x _ l (k.took.kept n l h);
          delivered = simp length_push (omega (arith, k.took.delivered));
        };
        tied = record { held = held_with x room; below = k.tied.below; credit = k.tied.credit };
        states = record {
          name = k.states.name;
          begun = k.states.begun;
          closed_late = k.states.closed_late;
          closed_last = λ h. (let z = k.states.closed_late h in absurd (let y : ⊥ = omega arith in y));
          ended_terminated = k.states.ended_terminated;
        };
        named = k.named;
        gap_is = k.gap_is;
      }

  adds_grows : (x : Letter) → rank p.state ≡ 2 → Grows ls p o (ls ++ (x ∷ [])) (with_letter x p) o
  adds_grows x r =
      record {
        letters = at_grows ls x;
        frozen = λ h. absurd (let y : ⊥ = omega arith in y);
        states = λ h. omega arith;
        delivered = omega arith;
        heights = omega arith;
        accepted = λ n h. h;
      }

  -- c is the call, which is counted as the letter x
  adds_by :
      (c : Call) (x : Letter) → ((n : ℕ) → numbering c n ≡ added x) → rank p.state ≡ 2 → IsLetter x → (t u : Bool) →
      (t ≡ false → p.written + 1 ≤ p.limit) →
      (u ≡ false → p.written + 1 ≤ p.lowest + 7) →
      Keeps chosen ls p o c (numbered (adds_at (cond t (Err refusal.Limit) (cond u (Err (refusal.Window p.lowest)) (Ok (p.written + 1)))) x p))
  adds_by c x e r f true u few room = refused_keeps c refusal.Limit (omega arith)
  adds_by c x e r f false true few room = refused_keeps c (refusal.Window p.lowest) (omega arith)
  adds_by c x e r f false false few room =
      record {
        letters = ls ++ (x ∷ []);
        fed = λ step n page. rw (e (p.written + 1)) refl;
        core = adds_core x f r (few refl) (room refl);
        grows = adds_grows x r;
        put_ok = tt;
        calm = omega arith;
      }

  adds_keeps :
      (c : Call) (x : Letter) → ((n : ℕ) → numbering c n ≡ added x) → rank p.state ≡ 2 → IsLetter x →
      Keeps chosen ls p o c (numbered (adds x p))
  adds_keeps c x e r f =
      adds_by c x e r f (eqb p.written p.limit) (ltb (p.lowest + 7) (p.written + 1))
      (λ t. let ne = eqb-false p.written p.limit t in let few = k.wrote.limited in omega arith)
      (λ u. ltb-false (p.lowest + 7) (p.written + 1) u)

  sized :
      (x : Letter) (t : Bool) → (t ≡ true → IsLetter x) → rank p.state ≡ 2 →
      Keeps chosen ls p o (writing x) (numbered (cond t (adds x p) (sources.refuses p refusal.LetterSize)))
  sized x true f r = adds_keeps (writing x) x (λ n. refl) r (f refl)
  sized x false f r = refused_keeps (writing x) refusal.LetterSize (omega arith)

  pub writes_keeps : (x : Letter) → AllBytes x → Keeps chosen ls p o (writing x) (numbered (writes x p))
  writes_keeps x b =
      gated (Keeps chosen ls p o (writing x)) numbered p _ _ (refused_keeps (writing x) _ (omega arith))
      (λ t. sized x (is_letter x) (is_lettered x b) (eqb-true (rank p.state) 2 t))

  pub posts_keeps : (path : Path) → Keeps chosen ls p o (posting path) (numbered (posts (encoded (Put path)) p))
  posts_keeps path =
      gated (Keeps chosen ls p o (posting path)) numbered p _ _ (refused_keeps (posting path) _ (omega arith))
      (λ t. adds_keeps (posting path) (encoded (Put path)) (λ n. refl) (eqb-true (rank p.state) 2 t) (put_lettered path))
