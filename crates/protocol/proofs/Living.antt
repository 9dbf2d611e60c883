-- Lines whose planner's end is Created, and what single calls make of them.
use Rattle.std.proofs.Common.{◌≡◌, ℕ, ◌≤◌, true, false, ◌⊎◌, List, Some, None, Option, sym, refl, ap, ◌∙◌, inl, inr, arith}
use Rattle.std.proofs.lemmas.Bool.{false≢true, cases_lt, eq-eqb}
use Rattle.answer.specs.Phases.{stops}
use Rattle.answer.specs.declared.answer.Answer.{Answer}
use Rattle.frame.specs.Meanings.{ack_requested}
use Rattle.grammar.specs.Grammar.{reading}
use Rattle.office.specs.declared.state.OfficeState.{OfficeState}
use Rattle.office.specs.declared.state.OfficeState.TheVariants as office-state
use Rattle.planner.specs.Hearing.{hears_read}
use Rattle.planner.specs.Opening.{asks}
use Rattle.planner.specs.Sending.{lowest_due, sends_due, sends}
use Rattle.planner.specs.Settings.{Chosen}
use Rattle.planner.specs.Sources as sources
use Rattle.planner.specs.Sources.{Source, name}
use Rattle.planner.specs.States.{rank}
use Rattle.transport.specs.Meaning.{Bytes}
use Rattle.protocol.specs.Calls as call
use Rattle.protocol.specs.Lines.{Over, Line, Valid}
use Rattle.protocol.specs.Steps.{Doing, Acts, Hears, HearsNothing, Reads, ReadsNothing, Delivers, Step, heard, was_read}
use Rattle.protocol.specs.Tallies.{Letter}
use Rattle.protocol.proofs.Delivering.{delivers_ok}
use Rattle.protocol.proofs.Invariant.{Core, Inv, OutOK, Grows, height, out_grows, back_grows}
use Rattle.protocol.proofs.Texts.{hears_bytes, reads_bytes}
use Rattle.protocol.proofs.Waiting.{PutOK, all_grows, put_keeps}

pub record Live (chosen : Chosen) (ls : List Letter) (L : Line) : Type 0 where
  pub inv : Inv chosen ls L.planner L.office L.out L.back
  pub live : rank L.planner.state ≡ 2

-- in Created, ask and send are not refused
pub asks_is : (p : Source) → rank p.state ≡ 2 → asks p ≡ sources.done p (ack_requested (name p))
asks_is p e = rw (eq-eqb (rank p.state) 2 e) refl

pub sends_is : (clock : ℕ) (p : Source) → rank p.state ≡ 2 → sends clock p ≡ sends_due (lowest_due clock p) clock p
sends_is clock p e = rw (eq-eqb (rank p.state) 2 e) refl

height_one : (s : OfficeState) → height s ≡ 1 → s ≡ office-state.Created
height_one office-state.None e = absurd (let z : ⊥ = omega arith in z)
height_one office-state.Created e = refl
height_one office-state.Closed e = absurd (let z : ⊥ = omega arith in z)
height_one office-state.Terminated e = absurd (let z : ⊥ = omega arith in z)

-- an answer that stops is none that goes on
pub not_both : {A : Type 0} (a b : Answer) → a ≡ b → stops a ≡ true → stops b ≡ false → A
not_both a b e x y = absurd (false≢true (sym y ∙ (sym (ap stops e) ∙ x)))

module _ (w : Over) (chosen : Chosen) (v : Valid chosen) (ls : List Letter) (L : Line) (live : Live chosen ls L) where
  abbrev core : Core chosen ls L.planner L.office
  core = live.inv.core

  -- so is the office's end
  pub office_created : L.office.state ≡ office-state.Created
  office_created =
      let a = core.states.begun (omega (arith, live.live)) in
      let b : height L.office.state ≤ 1 =
      elim (cases_lt (height L.office.state) 2) [
        | inl x ↦ omega arith
        | inr x ↦ (let y = core.states.closed_late x in absurd (let z : ⊥ = omega (arith, live.live) in z))
      ] in
      height_one L.office.state (omega arith)

  module _ (M : Line) where
    pub live_acts :
        (d : Doing) (g : Option Bytes) (a : Answer) → Acts w d L g a M →
        Core chosen ls d.source L.office → Grows ls L.planner L.office ls d.source L.office →
        PutOK (OutOK chosen ls d.source L.office) d.frame → rank d.source.state ≡ 2 →
        Live chosen ls M
    live_acts d g a t k x q r =
        record {
          inv = rw (t.planner, t.office, t.back)
              (record {
                core = k;
                outs = put_keeps (out_grows chosen x) w.depth_out L.out M.out d.frame live.inv.outs q t.put;
                backs = all_grows (back_grows chosen x) L.back live.inv.backs;
              });
          live = rw t.planner r;
        }

    pub live_delivers : (g : Option Bytes) (a : Answer) → Delivers w L g a M → Live chosen ls M
    live_delivers g a t =
        let k = delivers_ok chosen ls L.planner L.office core w.step L.page in
        record {
          inv = rw (t.planner, t.office, t.out, t.back)
              (record {
                core = k.core;
                outs = all_grows (out_grows chosen k.grows) L.out live.inv.outs;
                backs = all_grows (back_grows chosen k.grows) L.back live.inv.backs;
              });
          live = rw t.planner live.live;
        }

    pub live_reads : (bytes : Bytes) (a : Answer) → Reads w bytes L a M → Live chosen ls M
    live_reads bytes a t =
        let k = reads_bytes chosen v ls L live.inv bytes t.got.waited in
        record {
          inv = rw (t.planner, t.office)
              (record {
                core = k.core;
                outs = λ b m. all_grows (out_grows chosen k.grows) L.out live.inv.outs b (t.got.nothing_new b m);
                backs = put_keeps (back_grows chosen k.grows) w.depth_back L.back M.back _ live.inv.backs k.put_ok t.put;
              });
          live = rw t.planner live.live;
        }

    pub live_reads_nothing : (a : Answer) → ReadsNothing w L a M → Live chosen ls M
    live_reads_nothing a t =
        record {
          inv = rw (t.planner, t.office, t.back)
              (record { core = core; outs = λ b m. live.inv.outs b (t.got.nothing_new b m); backs = live.inv.backs });
          live = rw t.planner live.live;
        }

    pub live_hears :
        (bytes : Bytes) (a : Answer) → Hears w bytes L a M →
        rank (hears_read (reading bytes) L.planner).source.state ≡ 2 → Live chosen ls M
    live_hears bytes a t r =
        let k = hears_bytes chosen v ls L live.inv bytes t.got.waited in
        record {
          inv = rw (t.planner, t.office, t.out)
              (record {
                core = k.core;
                outs = all_grows (out_grows chosen k.grows) L.out live.inv.outs;
                backs = λ b m. all_grows (back_grows chosen k.grows) L.back live.inv.backs b (t.got.nothing_new b m);
              });
          live = rw t.planner r;
        }

    pub live_hears_nothing : (a : Answer) → HearsNothing w L a M → Live chosen ls M
    live_hears_nothing a t =
        record {
          inv = rw (t.planner, t.office, t.out)
              (record { core = core; outs = live.inv.outs; backs = λ b m. live.inv.backs b (t.got.nothing_new b m) });
          live = rw t.planner live.live;
        }

    -- a hear or a read that got a frame is not the last
    pub hears_on : (bytes : Bytes) (a : Answer) → Hears w bytes L a M → stops a ≡ false
    hears_on bytes a t =
        let k = hears_bytes chosen v ls L live.inv bytes t.got.waited in
        ap stops (t.answer ∙ ap heard k.told.1)

    pub reads_on : (bytes : Bytes) (a : Answer) → Reads w bytes L a M → stops a ≡ false
    reads_on bytes a t =
        let k = reads_bytes chosen v ls L live.inv bytes t.got.waited in
        ap stops (t.answer ∙ ap was_read k.told.1)

-- a hear, and a read, by whether a frame came
pub hear_cases :
    (w : Over) (L M : Line) (a : Answer) (g : Option Bytes) → Step w L call.hearing g a M →
    HearsNothing w L a M ⊎ ((bytes : Bytes) × Hears w bytes L a M)
hear_cases w L M a None t = inl t
hear_cases w L M a (Some bytes) t = inr (bytes, t)

pub read_cases :
    (w : Over) (L M : Line) (a : Answer) (g : Option Bytes) → Step w L call.reading g a M →
    ReadsNothing w L a M ⊎ ((bytes : Bytes) × Reads w bytes L a M)
read_cases w L M a None t = inl t
read_cases w L M a (Some bytes) t = inr (bytes, t)
