-- The sizes that put and get admit, what they answer, and what get leaves in memory,
-- where it is known which frame, if any, is handed out.
use Rattle.std.specs.Prelude.{ℕ, Bool, cond, ◌&&◌, ◌++◌, length, drop, Some, None, Ok, Err, Option, Result, nat_le}
use Rattle.transport.specs.declared.refusal.TransportRefusal.{TransportRefusal}
use Rattle.transport.specs.declared.refusal.TransportRefusal.TheVariants.{FrameSize, MemorySize}
use Rattle.transport.specs.Meaning.{Bytes}

-- a frame has 1 to 800 bytes
abbrev pub is_frame : Bytes → Bool
is_frame bytes = nat_le 1 (length bytes) && nat_le (length bytes) 800

-- a get is lent 800 bytes or more
abbrev pub is_enough : Bytes → Bool
is_enough memory = nat_le 800 (length memory)

abbrev pub put_answer : Bytes → Result (Unit {0}) TransportRefusal
put_answer bytes = cond (is_frame bytes) (Ok tt) (Err FrameSize)

-- the length of the frame that is handed out, if any
abbrev pub long : Option Bytes → Option ℕ
long None = None
long (Some frame) = Some (length frame)

-- the memory with the frame that is handed out at its front, if any
abbrev pub written : Option Bytes → Bytes → Bytes
written None memory = memory
written (Some frame) memory = frame ++ drop (length frame) memory

abbrev pub get_answer : Option Bytes → Bytes → Result (Option ℕ) TransportRefusal
get_answer handed memory = cond (is_enough memory) (Ok (long handed)) (Err MemorySize)

abbrev pub get_memory : Option Bytes → Bytes → Bytes
get_memory handed memory = cond (is_enough memory) (written handed memory) memory
