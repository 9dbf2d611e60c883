-- Every run from a fresh line is safe.
use Rattle.std.proofs.Common.{◌≡◌, ℕ, ◌+◌, ◌-◌, ◌<◌, ◌≤◌, true, ◌&&◌, ltb, leb, List, [], ◌∷◌, length, get_or, replicate, Some, None, Ok, Option, sym, refl, ap, ◌∙◌, subst, inl, inr, arith}
use Rattle.std.specs.List.{ContainsAt as Has}
use Rattle.std.proofs.lemmas.List.{get_or-replicate, get_or_past}
use Rattle.std.proofs.lemmas.Bool.{and_parts, or_cases, ltb-true, leb-true, cases_lt}
use Rattle.answer.specs.Refusals.{refused_by}
use Rattle.answer.specs.declared.answer.Answer.{Answer}
use Rattle.frame.specs.Meanings.{sequence}
use Rattle.grammar.specs.Grammar as grammar
use Rattle.office.specs.Destinations.{Destination}
use Rattle.office.specs.Wholes.{Whole, is_over}
use Rattle.office.specs.declared.state.OfficeState.{OfficeState}
use Rattle.office.specs.declared.state.OfficeState.TheVariants as office-state
use Rattle.planner.specs.Laws as laws
use Rattle.planner.specs.Settings.{Chosen}
use Rattle.planner.specs.Sources.{Source}
use Rattle.planner.specs.States.{rank}
use Rattle.planner.specs.Windows.{free, has_receipt}
use Rattle.planner.specs.declared.state.PlannerState.TheVariants as planner-state
use Rattle.taker.specs.Steps.{Page}
use Rattle.transport.specs.Meaning.{Bytes, Frames, EachFrame}
use Rattle.protocol.specs.Calls as call
use Rattle.protocol.specs.Calls.{Call, Given, Event, event}
use Rattle.protocol.specs.Lines.{Over, Line, Fresh, Valid}
use Rattle.protocol.specs.Promises.{NeverAstray, Placed, Safe, RunsAreSafe}
use Rattle.protocol.specs.Runs.{Run, start, more}
use Rattle.protocol.specs.Steps.{Doing, Acts, Hears, HearsNothing, Reads, ReadsNothing, Delivers, Step, heard, was_read}
use Rattle.protocol.specs.Tallies.{Letter, tally, tallied, tallied_d}
use Rattle.protocol.proofs.Delivering.{delivers_ok}
use Rattle.protocol.proofs.Hearing.{has_accepted}
use Rattle.protocol.proofs.Invariant.{Holds, Core, OutOK, Accepted, Inv, height, out_grows, back_grows}
use Rattle.protocol.proofs.Letters.{nowhere}
use Rattle.protocol.proofs.Planning.{
  Keeps,
  opens_keeps,
  asks_keeps,
  closes_keeps,
  finishes_keeps,
  writes_keeps,
  posts_keeps,
}
use Rattle.protocol.proofs.Sending.{sends_keeps}
use Rattle.protocol.proofs.TallyLaws.{tally_means}
use Rattle.protocol.proofs.Texts.{read_as, hears_bytes, reads_bytes}
use Rattle.protocol.proofs.Waiting.{all_grows, put_keeps}

-- what holds after a run
pub record Stood (w : Over) (chosen : Chosen) (first : Page) (es : List Event) (L : Line) : Type 0 where
  pub letters : List Letter
  pub tally_is : tallied w.step first es ≡ tally letters L.office.delivered L.page
  pub inv : Inv chosen letters L.planner L.office L.out L.back
  pub never : NeverAstray es
  pub placed : Placed w first es

-- At the start.

no_letter : (k : ℕ) → get_or {A = Option Letter} (replicate 8 None) k None ≡ None
no_letter k =
    elim (cases_lt k 8) [
      | inl x ↦ get_or-replicate 8 k None None x
      | inr x ↦ get_or_past (replicate 8 None) k None x
    ]

pub no_slot : (k : ℕ) → get_or (replicate 8 free) k free ≡ free
no_slot k =
    elim (cases_lt k 8) [ inl x ↦ get_or-replicate 8 k free free x | inr x ↦ get_or_past (replicate 8 free) k free x ]

fresh_core : (L : Line) (f : Fresh L) → Core f.settings [] L.planner L.office
fresh_core L f =
    rw (f.planner, f.office)
    (record {
      wrote = record {
        count = refl;
        limit_is = refl;
        limited = omega arith;
        fine = λ n l x. nowhere l x;
        low_pos = omega arith;
        reached = omega arith;
        near = omega arith;
        eight = refl;
      };
      took = record { eight = refl; kept = λ k l x. nowhere l (sym (no_letter k) ∙ x); delivered = omega arith };
      tied = record {
        held = λ k. subst (Holds [] _ (1 + k)) (sym (no_slot k)) (let z : 0 < 1 + k = omega arith in z);
        below = λ n x y. absurd (let z : ⊥ = omega arith in z);
        credit = omega arith;
      };
      states = record {
        name = λ x. absurd (let z : ⊥ = omega arith in z);
        begun = λ x. absurd (let z : ⊥ = omega arith in z);
        closed_late = λ x. absurd (let z : ⊥ = omega arith in z);
        closed_last = λ x. refl;
        ended_terminated = λ x. absurd (let z : ⊥ = omega arith in z);
      };
      named = refl;
      gap_is = refl;
    })

none_waits : (P : Bytes → Type 0) (waiting : Frames) → waiting ≡ [] → EachFrame P waiting
none_waits P waiting e bytes m = let z = ap length e in absurd (let y : ⊥ = omega (arith, m.1) in y)

fresh_stood : (w : Over) (L : Line) (f : Fresh L) → Stood w f.settings L.page [] L
fresh_stood w L f =
    record {
      letters = [];
      tally_is = rw f.office refl;
      inv = record {
        core = fresh_core L f;
        outs = none_waits _ L.out f.out;
        backs = none_waits _ L.back f.back;
      };
      never = tt;
      placed = tt;
    }

module _ (w : Over) (chosen : Chosen) (v : Valid chosen) (first : Page) (es : List Event) (L : Line) (s : Stood w chosen first es L) where
  abbrev ls : List Letter
  ls = s.letters

  abbrev core : Core chosen s.letters L.planner L.office
  core = s.inv.core

  -- a letter that waits outward has a place
  letter_placed :
      (bytes : Bytes) (i n : ℕ) (l : Letter) → Has L.out bytes →
      grammar.reading bytes ≡ Ok (sequence i n l) → n ≤ L.office.delivered + 8
  letter_placed bytes i n l m e =
      let x = s.inv.outs bytes m in
      let a = read_as _ bytes x in
      let is : x.of ≡ sequence i n l = cc in
      (subst (OutOK chosen ls L.planner L.office) is x.ok).2

  -- no letter was got, or no read was made
  module _ (M : Line) where
    not_got : (c : Call) (g : Option Bytes) (a : Answer) → g ≡ None → Placed w first (event c g a ∷ es)
    not_got c g a e = (λ frame i n l x y z. nowhere frame (sym e ∙ y), s.placed)

    acts_stays :
        (c : Call) (d : Doing) (g : Option Bytes) (a : Answer) → Keeps chosen ls L.planner L.office c d →
        Acts w d L g a M → Stood w chosen first (event c g a ∷ es) M
    acts_stays c d g a k t =
        record {
          letters = k.letters;
          tally_is = rw (t.answer, s.tally_is, t.office, t.page) (k.fed w.step L.office.delivered L.page);
          inv = rw (t.planner, t.office, t.back)
              (record {
                core = k.core;
                outs = put_keeps (out_grows chosen k.grows) w.depth_out L.out M.out d.frame s.inv.outs k.put_ok t.put;
                backs = all_grows (back_grows chosen k.grows) L.back s.inv.backs;
              });
          never = (let few = k.calm in let z = ap refused_by t.answer in (λ x y. omega arith, s.never));
          placed = not_got c g a t.ungot;
        }

    hears_nothing_stays : (a : Answer) → HearsNothing w L a M → Stood w chosen first (event call.hearing None a ∷ es) M
    hears_nothing_stays a t =
        record {
          letters = ls;
          tally_is = rw (t.answer, s.tally_is, t.office, t.page) refl;
          inv = rw (t.planner, t.office, t.out)
              (record { core = core; outs = s.inv.outs; backs = λ b m. s.inv.backs b (t.got.nothing_new b m) });
          never = (let z = ap refused_by t.answer in (λ x y. omega arith, s.never));
          placed = not_got call.hearing None a refl;
        }

    hears_stays :
        (bytes : Bytes) (a : Answer) → Hears w bytes L a M →
        Stood w chosen first (event call.hearing (Some bytes) a ∷ es) M
    hears_stays bytes a t =
        let k = hears_bytes chosen v ls L s.inv bytes t.got.waited in
        let told : a ≡ heard (Ok k.told.0) = t.answer ∙ ap heard k.told.1 in
        record {
          letters = ls;
          tally_is = rw (told, s.tally_is, t.office, t.page) refl;
          inv = rw (t.planner, t.office, t.out)
              (record {
                core = k.core;
                outs = all_grows (out_grows chosen k.grows) L.out s.inv.outs;
                backs = λ b m. all_grows (back_grows chosen k.grows) L.back s.inv.backs b (t.got.nothing_new b m);
              });
          never = (let z = ap refused_by told in (λ x y. omega arith, s.never));
          placed = (λ frame i n l x y z. absurd (let q : ◌≡◌ {A = ℕ} 0 1 = cc in let p : ⊥ = omega arith in p), s.placed);
        }

    reads_nothing_stays : (a : Answer) → ReadsNothing w L a M → Stood w chosen first (event call.reading None a ∷ es) M
    reads_nothing_stays a t =
        record {
          letters = ls;
          tally_is = rw (t.answer, s.tally_is, t.office, t.page) refl;
          inv = rw (t.planner, t.office, t.back)
              (record { core = core; outs = λ b m. s.inv.outs b (t.got.nothing_new b m); backs = s.inv.backs });
          never = (let z = ap refused_by t.answer in (λ x y. omega arith, s.never));
          placed = not_got call.reading None a refl;
        }

    reads_stays :
        (bytes : Bytes) (a : Answer) → Reads w bytes L a M →
        Stood w chosen first (event call.reading (Some bytes) a ∷ es) M
    reads_stays bytes a t =
        let k = reads_bytes chosen v ls L s.inv bytes t.got.waited in
        let told : a ≡ was_read (Ok k.told.0) = t.answer ∙ ap was_read k.told.1 in
        record {
          letters = ls;
          tally_is = rw (told, s.tally_is, t.office, k.same_done, t.page) refl;
          inv = rw (t.planner, t.office)
              (record {
                core = k.core;
                outs = λ b m. all_grows (out_grows chosen k.grows) L.out s.inv.outs b (t.got.nothing_new b m);
                backs = put_keeps (back_grows chosen k.grows) w.depth_back L.back M.back _ s.inv.backs k.put_ok t.put;
              });
          never = (let z = ap refused_by told in (λ x y. omega arith, s.never));
          placed = (
            λ frame i n l x y z.
                (let same : bytes ≡ frame = cc in
                let d = ap tallied_d s.tally_is in
                rw d (letter_placed bytes i n l t.got.waited (ap grammar.reading same ∙ z))),
            s.placed,
          );
        }

    delivers_stays :
        (g : Option Bytes) (a : Answer) → Delivers w L g a M →
        Stood w chosen first (event call.delivering g a ∷ es) M
    delivers_stays g a t =
        let k = delivers_ok chosen ls L.planner L.office core w.step L.page in
        record {
          letters = ls;
          tally_is = rw (t.answer, s.tally_is, t.office, t.page) k.fed;
          inv = rw (t.planner, t.office, t.out, t.back)
              (record {
                core = k.core;
                outs = all_grows (out_grows chosen k.grows) L.out s.inv.outs;
                backs = all_grows (back_grows chosen k.grows) L.back s.inv.backs;
              });
          never = (let few = k.calm in let z = ap refused_by t.answer in (λ x y. omega arith, s.never));
          placed = not_got call.delivering g a t.ungot;
        }

    pub stays :
        (c : Call) (g : Option Bytes) (a : Answer) → Given c → Step w L c g a M →
        Stood w chosen first (event c g a ∷ es) M
    stays call.opening g a x t = acts_stays call.opening _ g a (opens_keeps chosen v ls L.planner L.office core) t
    stays call.asking g a x t = acts_stays call.asking _ g a (asks_keeps chosen v ls L.planner L.office core) t
    stays call.hearing None a x t = hears_nothing_stays a t
    stays call.hearing (Some bytes) a x t = hears_stays bytes a t
    stays call.closing g a x t = acts_stays call.closing _ g a (closes_keeps chosen v ls L.planner L.office core) t
    stays call.finishing g a x t = acts_stays call.finishing _ g a (finishes_keeps chosen v ls L.planner L.office core) t
    stays call.reading None a x t = reads_nothing_stays a t
    stays call.reading (Some bytes) a x t = reads_stays bytes a t
    stays call.delivering g a x t = delivers_stays g a t
    stays (call.writing bytes) g a x t = acts_stays (call.writing bytes) _ g a (writes_keeps chosen v ls L.planner L.office core bytes x) t
    stays (call.posting path) g a x t = acts_stays (call.posting path) _ g a (posts_keeps chosen v ls L.planner L.office core path) t
    stays (call.sending clock) g a x t = acts_stays (call.sending clock) _ g a (sends_keeps chosen v ls L.planner L.office core clock) t

pub stood :
    (w : Over) (first L : Line) (es : List Event) (f : Fresh first) → Run w first es L →
    Stood w f.settings first.page es L
stood w first L es f start = fresh_stood w first f
stood w first L es f (more {es = rest} {L = K} {M = M} {c = c} {a = a} r m) =
    stays w f.settings f.valid first.page rest K (stood w first K rest f r) M c m.got a m.given m.step

-- What is promised follows.

receipted_accepted :
    (chosen : Chosen) (ls : List Letter) (p : Source) (o : Destination) → Core chosen ls p o → (n : ℕ) → 1 ≤ n →
    laws.receipted p n ≡ true → Accepted o n
receipted_accepted chosen ls p o k n one e =
    elim (or_cases (ltb n p.lowest) (leb p.lowest n && has_receipt (get_or p.window (n - p.lowest) free)) e) [
      | inl x ↦ k.tied.below n one (ltb-true n p.lowest x)
      | inr x ↦
          (let q = and_parts (leb p.lowest n) (has_receipt (get_or p.window (n - p.lowest) free)) x in
          let le = leb-true p.lowest n q.0 in
          let z : p.lowest + (n - p.lowest) ≡ n = omega arith in
          subst (Accepted o) z
          (has_accepted ls o (p.lowest + (n - p.lowest)) (get_or p.window (n - p.lowest) free) q.1 (k.tied.held (n - p.lowest))))
    ]

over : (s : OfficeState) → 2 ≤ height s → is_over s ≡ true
over office-state.None h = absurd (let z : ⊥ = omega arith in z)
over office-state.Created h = absurd (let z : ⊥ = omega arith in z)
over office-state.Closed h = refl
over office-state.Terminated h = refl

ended_whole :
    (chosen : Chosen) (ls : List Letter) (p : Source) (o : Destination) → Core chosen ls p o →
    p.state ≡ planner-state.Ended → ((n : ℕ) → 1 ≤ n → n ≤ p.written → laws.receipted p n ≡ true) → Whole o
ended_whole chosen ls p o k e r =
    let z = ap rank e in
    let three = k.states.ended_terminated (omega arith) in
    let last = k.states.closed_last (omega arith) in
    record {
      over = over o.state (omega arith);
      all = λ n a b. receipted_accepted chosen ls p o k n a (r n a (omega arith));
    }

pub safe_from :
    (w : Over) (chosen : Chosen) (first : Page) (es : List Event) (L : Line) → Stood w chosen first es L →
    Safe w first es L
safe_from w chosen first es L s =
    let m = tally_means w.step first es s.letters L.office.delivered L.page s.tally_is in
    record {
      delivered = record {
        tally = s.tally_is ∙ ap (λ (ls : List Letter). tally ls L.office.delivered L.page) m.letters;
        page = rw m.letters at m.applied;
        numbers = m.numbers;
      };
      honest = record {
        receipts = receipted_accepted chosen s.letters L.planner L.office s.inv.core;
        never = s.never;
        placed = s.placed;
        whole = ended_whole chosen s.letters L.planner L.office s.inv.core;
      };
    }

pub runs_are_safe : RunsAreSafe
runs_are_safe w first L es f r = safe_from w f.settings first.page es L (stood w first L es f r)
