-- The ten calls of a line, each with what it is given, and one call as it was made.
use Rattle.std.specs.Prelude.{◌≡◌, ℕ, true, List, Option}
use Rattle.answer.specs.declared.answer.Answer.{Answer}
use Rattle.frame.specs.Meanings.{AllBytes}
use Rattle.letter.specs.Changes.{in_range}
use Rattle.letter.specs.declared.change.Change.TheVariants.{Put}
use Rattle.letter.specs.declared.change.Path.{Path}
use Rattle.transport.specs.Meaning.{Bytes}

pub data Call : Type 0 where
  opening asking hearing closing finishing reading delivering : Call
  writing : (bytes : List ℕ) → Call
  -- of a draft, by the path that it would put
  posting : (path : Path) → Call
  sending : (clock : ℕ) → Call

-- what is known of the arguments by their types: bytes are bytes, and a draft is in range
abbrev pub Given : Call → Type 0
Given opening = Unit {0}
Given asking = Unit {0}
Given hearing = Unit {0}
Given closing = Unit {0}
Given finishing = Unit {0}
Given reading = Unit {0}
Given delivering = Unit {0}
Given (writing bytes) = AllBytes bytes
Given (posting path) = in_range (Put path) ≡ true
Given (sending clock) = Unit {0}

-- one call: what it was, the frame that it got from a transport, if any, and what it answered
pub record Event : Type 0 where
  pub call : Call
  pub got : Option Bytes
  pub answer : Answer

abbrev pub event : Call → Option Bytes → Answer → Event
event c g a = record { call = c; got = g; answer = a }
