-- What a get of a line's own means: its memory has 800 bytes, so it is never refused.
use Rattle.std.specs.Prelude.{◌≡◌, ℕ, Some, None, Option, Result}
use Rattle.answer.specs.declared.answer.Answer.{Answer}
use Rattle.frame.specs.Meanings.{Meaning}
use Rattle.grammar.specs.Grammar.{reading}
use Rattle.line.specs.declared.line.Line as code
use Rattle.office.specs.Reads.{reads_seen, reply_of}
use Rattle.office.specs.Seen.{seen}
use Rattle.planner.specs.Hearing.{hears_read}
use Rattle.planner.specs.Sources.{Source, source_of}
use Rattle.planner.specs.declared.refusal.PlannerRefusal.{PlannerRefusal}
use Rattle.protocol.specs.Steps.{Handed, Missed, Puts, done_by, heard, was_read}
use Rattle.taker.specs.declared.taker.Taker as taker
use Rattle.transport.specs.Meaning.{Bytes, Frames}
use Rattle.transport.specs.declared.transport.Transport as transport

-- the frame that came, if one did
abbrev pub Gets : ℕ → Frames → Option Bytes → Frames → Type 0
Gets depth before None after = Missed depth before after
Gets depth before (Some frame) after = Handed depth before frame after

-- the frame that the planner's end said is put, or its refusal passed on; its own state is said apart
abbrev pub Says : ℕ → Frames → Result Meaning PlannerRefusal → Answer → Frames → Type 0
Says depth before r a after =
    (s : Source) → (a ≡ (done_by s r).answer) × Puts depth before (done_by s r).frame after

-- What the bytes of a frame that came make of a line; how it came is said apart.
module _ {O B K : Type 0} (o : transport.Ghosts O) (b : transport.Ghosts B) (k : taker.Ghosts K) where
  pub record HearsBytes (bytes : Bytes) (a : Answer) (before after : code.Line O B K) : Type 0 where
    pub answer : a ≡ heard (hears_read (reading bytes) (source_of before.planner)).answer
    pub planner : source_of after.planner ≡ (hears_read (reading bytes) (source_of before.planner)).source
    pub office : after.office ≡ before.office
    pub out : after.outward ≡ before.outward
    pub back : after.back ≡ before.back
    pub taker : after.taker ≡ before.taker

  pub record ReadsBytes (bytes : Bytes) (a : Answer) (before after : code.Line O B K) : Type 0 where
    pub answer : a ≡ was_read (reads_seen (seen before.office) (reading bytes)).answer
    pub office : seen after.office ≡ (reads_seen (seen before.office) (reading bytes)).after
    pub put :
        Puts b.depth (b.waiting before.back)
        (reply_of (reads_seen (seen before.office) (reading bytes)).answer) (b.waiting after.back)
    pub planner : after.planner ≡ before.planner
    pub out : after.outward ≡ before.outward
    pub taker : after.taker ≡ before.taker
