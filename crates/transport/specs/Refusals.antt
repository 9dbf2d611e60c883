-- The number of each refusal of a transport; put answers no other than 9, and get no other than 10.
use Rattle.std.specs.Prelude.{ℕ}
use Rattle.transport.specs.declared.refusal.TransportRefusal.{TransportRefusal}
use Rattle.transport.specs.declared.refusal.TransportRefusal.TheVariants.{FrameSize, MemorySize}

abbrev pub refusal_number : TransportRefusal → ℕ
refusal_number FrameSize = 9
refusal_number MemorySize = 10
