-- A line of the code as what it means, over the ghost members of its transports and its taker.
use Rattle.answer.specs.declared.answer.Answer.{Answer}
use Rattle.line.specs.declared.line.Line as code
use Rattle.office.specs.Seen.{seen}
use Rattle.planner.specs.Sources.{source_of}
use Rattle.protocol.specs.Calls.{Call}
use Rattle.protocol.specs.Lines.{Over, Line}
use Rattle.protocol.specs.Steps.{Made}
use Rattle.taker.specs.declared.taker.Taker as taker
use Rattle.transport.specs.declared.transport.Transport as transport

module _ {O B K : Type 0} (o : transport.Ghosts O) (b : transport.Ghosts B) (k : taker.Ghosts K) where
  abbrev pub over : Over
  over = record { depth_out = o.depth; depth_back = b.depth; step = k.step }

  abbrev pub model : code.Line O B K → Line
  model l =
      record {
        planner = source_of l.planner;
        office = seen l.office;
        out = o.waiting l.outward;
        back = b.waiting l.back;
        page = k.page l.taker;
      }

  -- the call made its step
  abbrev pub Makes : Call → Answer → code.Line O B K → code.Line O B K → Type 0
  Makes c a before after = Made over c a (model before) (model after)
