-- Every frame of the code is within bounds, by its type.
use Rattle.std.proofs.Common.{◌≡◌, length, Some, None, Option, arith}
use Rattle.std.specs.Option.{option_map}
use Rattle.std.proofs.lemmas.List.{length-take-le}
use Rattle.letter.specs.Letters.{content}
use Rattle.letter.specs.declared.letter.Letter.{Letter}
use Rattle.frame.specs.Bounds.{IsIdentifier, IsNumber}
use Rattle.frame.specs.Listed.{listed}
use Rattle.frame.specs.Meanings.{meaning, fault_meaning, IsFault, IsLast, IsLetter, IsReceipt, LetterFits, Proper, AllBytes}
use Rattle.frame.specs.declared.fault.Fault.{Fault}
use Rattle.frame.specs.declared.fault.Fault.TheVariants as fault
use Rattle.frame.specs.declared.frame.Frame.{Frame}
use Rattle.frame.specs.declared.frame.Frame.TheVariants as frame
use Rattle.frame.specs.declared.frame.Receipt.{Receipt}
use Rattle.frame.specs.Numbers.{Identifier, Number}

identified : (i : Identifier) → IsIdentifier i.value
identified i = (i.low, i.high)

numbered : (m : Number) → IsNumber m.value
numbered m = (m.low, m.high)

last_numbered : (last : Option Number) → IsLast (option_map (λ m. m.value) last)
last_numbered None = tt
last_numbered (Some m) = numbered m

lettered : (l : Letter) → AllBytes (content l) → IsLetter (content l)
lettered l h =
    let n : length (content l) ≡ l.len = length-take-le l.len l.bytes (omega (arith, l.few, l.whole)) in
    (omega (arith, l.some), omega (arith, l.few), h)

received : (r : Receipt) → IsReceipt r.identifier.value (listed r.ranges) r.credit.value
received r =
    let rs = r.ranges in
    let n : length (listed rs) ≡ rs.count = length-take-le rs.count rs.list (omega (arith, rs.few, rs.whole)) in
    (identified r.identifier, omega (arith, rs.few), rs.ascends, numbered r.credit)

faulted : (f : Fault) → IsFault (fault_meaning f)
faulted (fault.UnknownSequence i) = identified i
faulted (fault.SequenceTerminated i) = identified i
faulted (fault.SequenceClosed i) = identified i
faulted fault.CreateSequenceRefused = tt

pub proper_frame : (f : Frame) → LetterFits (meaning f) → Proper (meaning f)
unfolding Proper
proper_frame frame.CreateSequence h = tt
proper_frame (frame.CreateSequenceResponse i) h = identified i
proper_frame (frame.Sequence i m l) h = (identified i, numbered m, lettered l h)
proper_frame (frame.AckRequested i) h = identified i
proper_frame (frame.SequenceAcknowledgement r final) h = received r
proper_frame (frame.CloseSequence i last) h = (identified i, last_numbered last)
proper_frame (frame.CloseSequenceResponse r) h = received r
proper_frame (frame.TerminateSequence i last) h = (identified i, last_numbered last)
proper_frame (frame.TerminateSequenceResponse r) h = received r
proper_frame (frame.SequenceFault f) h = faulted f
