-- What each call makes of a line. All that is determined stands as an equation with the definitions of the two
-- ends; of a put and a get stands what every transport means by them.
use Rattle.std.specs.Prelude.{◌≡◌, ℕ, ◌+◌, ◌<◌, List, [], ◌∷◌, Some, None, Ok, Err, Option, Result}
use Rattle.std.specs.List.{ContainsAt as Has}
use Rattle.answer.specs.declared.answer.Answer.{Answer}
use Rattle.answer.specs.declared.answer.Answer.TheVariants as answer
use Rattle.answer.specs.declared.refusal.LineRefusal.TheVariants as refusal
use Rattle.frame.specs.Meanings.{Meaning}
use Rattle.frame.specs.declared.form.Form.{Form}
use Rattle.grammar.specs.Grammar as grammar
use Rattle.grammar.specs.Texts.{text}
use Rattle.letter.specs.Changes.{encoded}
use Rattle.letter.specs.declared.change.Change.TheVariants.{Put}
use Rattle.office.specs.Deliveries.{delivers, next_letter}
use Rattle.office.specs.Destinations.{Destination}
use Rattle.office.specs.Reads.{Answer as Read, reads_seen, reply_of}
use Rattle.planner.specs.Hearing.{hears_read}
use Rattle.planner.specs.Opening.{opens, asks, closes, finishes}
use Rattle.planner.specs.Sending.{sends}
use Rattle.planner.specs.Sources.{Source, Acted}
use Rattle.planner.specs.Writing.{writes, posts}
use Rattle.planner.specs.declared.refusal.PlannerRefusal.{PlannerRefusal}
use Rattle.taker.specs.Steps as taker
use Rattle.taker.specs.Steps.{Page}
use Rattle.transport.specs.Meaning.{Bytes, Frames, NothingNew, Added}
use Rattle.protocol.specs.Calls.{
  Call,
  Given,
  opening,
  asking,
  hearing,
  closing,
  finishing,
  reading,
  delivering,
  writing,
  posting,
  sending,
}
use Rattle.protocol.specs.Lines.{Over, Line}

-- what is put, if anything
abbrev pub Puts : ℕ → Frames → Option Meaning → Frames → Type 0
Puts depth before None after = after ≡ before
Puts depth before (Some m) after = Added depth before (text m) after

-- a get that came with this frame; at a depth above 0 it is the first, and taken off
pub record Handed (depth : ℕ) (before : Frames) (frame : Bytes) (after : Frames) : Type 0 where
  pub waited : Has before frame
  pub nothing_new : NothingNew before after
  pub taken : 0 < depth → before ≡ frame ∷ after

-- a get that came with nothing; at a depth above 0 none waits
pub record Missed (depth : ℕ) (before after : Frames) : Type 0 where
  pub nothing_new : NothingNew before after
  pub none : 0 < depth → before ≡ []

-- What a call of the planner's end leaves, answers and puts.
pub record Doing : Type 0 where
  pub source : Source
  pub answer : Answer
  pub frame : Option Meaning

abbrev pub doing : Source → Answer → Option Meaning → Doing
doing s a m = record { source = s; answer = a; frame = m }

abbrev pub refuses : Source → PlannerRefusal → Doing
refuses s why = doing s (answer.Refused (refusal.Planner why)) None

-- open, ask, close and finish put a frame and answer that it was done
abbrev pub done_by : Source → Result Meaning PlannerRefusal → Doing
done_by s (Ok m) = doing s answer.Done (Some m)
done_by s (Err why) = refuses s why

abbrev pub done : Acted Meaning → Doing
done x = done_by x.source x.answer

-- write and post answer the letter's number and put nothing
abbrev pub numbered_by : Source → Result ℕ PlannerRefusal → Doing
numbered_by s (Ok n) = doing s (answer.Number n) None
numbered_by s (Err why) = refuses s why

abbrev pub numbered : Acted ℕ → Doing
numbered x = numbered_by x.source x.answer

-- send puts the letter whose number it answers
abbrev pub sent_by : Source → Result (Option (ℕ × Meaning)) PlannerRefusal → Doing
sent_by s (Ok None) = doing s answer.Nothing None
sent_by s (Ok (Some x)) = doing s (answer.Number x.0) (Some x.1)
sent_by s (Err why) = refuses s why

abbrev pub sent : Acted (Option (ℕ × Meaning)) → Doing
sent x = sent_by x.source x.answer

pub record Acts (w : Over) (d : Doing) (L : Line) (g : Option Bytes) (a : Answer) (M : Line) : Type 0 where
  pub answer : a ≡ d.answer
  pub planner : M.planner ≡ d.source
  pub put : Puts w.depth_out L.out d.frame M.out
  pub office : M.office ≡ L.office
  pub back : M.back ≡ L.back
  pub page : M.page ≡ L.page
  pub ungot : g ≡ None

-- Hear: one frame from the way back, for the planner's end.
abbrev pub heard : Result Form PlannerRefusal → Answer
heard (Ok form) = answer.Form form
heard (Err why) = answer.Refused (refusal.Planner why)

pub record Hears (w : Over) (frame : Bytes) (L : Line) (a : Answer) (M : Line) : Type 0 where
  pub got : Handed w.depth_back L.back frame M.back
  pub answer : a ≡ heard (hears_read (grammar.reading frame) L.planner).answer
  pub planner : M.planner ≡ (hears_read (grammar.reading frame) L.planner).source
  pub office : M.office ≡ L.office
  pub out : M.out ≡ L.out
  pub page : M.page ≡ L.page

pub record HearsNothing (w : Over) (L : Line) (a : Answer) (M : Line) : Type 0 where
  pub got : Missed w.depth_back L.back M.back
  pub answer : a ≡ answer.Nothing
  pub planner : M.planner ≡ L.planner
  pub office : M.office ≡ L.office
  pub out : M.out ≡ L.out
  pub page : M.page ≡ L.page

-- Read: one frame from the way out, for the office's end, and its answer put back.
abbrev pub was_read : Result Read ℕ → Answer
was_read (Ok x) = answer.Form x.form
was_read (Err place) = answer.Refused (refusal.Reader (record { place = place }))

pub record Reads (w : Over) (frame : Bytes) (L : Line) (a : Answer) (M : Line) : Type 0 where
  pub got : Handed w.depth_out L.out frame M.out
  pub answer : a ≡ was_read (reads_seen L.office (grammar.reading frame)).answer
  pub office : M.office ≡ (reads_seen L.office (grammar.reading frame)).after
  pub put :
      Puts w.depth_back L.back
      (reply_of (reads_seen L.office (grammar.reading frame)).answer) M.back
  pub planner : M.planner ≡ L.planner
  pub page : M.page ≡ L.page

pub record ReadsNothing (w : Over) (L : Line) (a : Answer) (M : Line) : Type 0 where
  pub got : Missed w.depth_out L.out M.out
  pub answer : a ≡ answer.Nothing
  pub planner : M.planner ≡ L.planner
  pub office : M.office ≡ L.office
  pub back : M.back ≡ L.back
  pub page : M.page ≡ L.page

-- Deliver: the next letter, if it is accepted, goes to the taker; it counts as delivered if there is a page for it.
pub record Handover : Type 0 where
  pub office : Destination
  pub page : Page
  pub answer : Answer

abbrev pub handover : Destination → Page → Answer → Handover
handover o page a = record { office = o; page = page; answer = a }

abbrev pub taken_by : Option Page → Destination → Page → Handover
taken_by None o page = handover o page (answer.Refused (refusal.Taker (o.delivered + 1)))
taken_by (Some next) o page = handover (delivers o).after next (answer.Number (o.delivered + 1))

abbrev pub hands_first : Option (List ℕ) → taker.Step → Destination → Page → Handover
hands_first None step o page = handover o page answer.Nothing
hands_first (Some letter) step o page = taken_by (step page letter) o page

abbrev pub hands : taker.Step → Destination → Page → Handover
hands step o page = hands_first (next_letter o) step o page

pub record Delivers (w : Over) (L : Line) (g : Option Bytes) (a : Answer) (M : Line) : Type 0 where
  pub answer : a ≡ (hands w.step L.office L.page).answer
  pub office : M.office ≡ (hands w.step L.office L.page).office
  pub page : M.page ≡ (hands w.step L.office L.page).page
  pub planner : M.planner ≡ L.planner
  pub out : M.out ≡ L.out
  pub back : M.back ≡ L.back
  pub ungot : g ≡ None

abbrev pub Step : Over → Line → Call → Option Bytes → Answer → Line → Type 0
Step w L opening g a M = Acts w (done (opens L.planner)) L g a M
Step w L asking g a M = Acts w (done (asks L.planner)) L g a M
Step w L hearing None a M = HearsNothing w L a M
Step w L hearing (Some frame) a M = Hears w frame L a M
Step w L closing g a M = Acts w (done (closes L.planner)) L g a M
Step w L finishing g a M = Acts w (done (finishes L.planner)) L g a M
Step w L reading None a M = ReadsNothing w L a M
Step w L reading (Some frame) a M = Reads w frame L a M
Step w L delivering g a M = Delivers w L g a M
Step w L (writing bytes) g a M = Acts w (numbered (writes bytes L.planner)) L g a M
Step w L (posting path) g a M = Acts w (numbered (posts (encoded (Put path)) L.planner)) L g a M
Step w L (sending clock) g a M = Acts w (sent (sends clock L.planner)) L g a M

-- a call was made: this is what each call of a line ensures
pub record Made (w : Over) (c : Call) (a : Answer) (L M : Line) : Type 0 where
  pub given : Given c
  pub got : Option Bytes
  pub step : Step w L c got a M
