-- The calls that a list holds, as the calls of a line.
use Rattle.std.specs.Prelude.{vec_items}
use Rattle.letter.specs.declared.change.Path.{Path}
use Rattle.protocol.specs.Calls as call
use Rattle.runs.specs.declared.call.Call as code
use Rattle.runs.specs.declared.call.Call.TheVariants as made
use Rattle.runs.specs.declared.path.ValidPath.{ValidPath}

abbrev pub path_in : ValidPath → Path
path_in p = p.path

abbrev pub call_of : code.Call → call.Call
call_of made.Open = call.opening
call_of (made.Write bytes) = call.writing (vec_items bytes)
call_of (made.Post p) = call.posting (path_in p)
call_of (made.Send clock) = call.sending clock
call_of made.Ask = call.asking
call_of made.Hear = call.hearing
call_of made.Close = call.closing
call_of made.Finish = call.finishing
call_of made.Read = call.reading
call_of made.Deliver = call.delivering
