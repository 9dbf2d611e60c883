-- What put and get mean at every transport, over the frames that wait, oldest first.
-- A reader has to believe that this is all that a user of transports may count on.
use Rattle.std.specs.Prelude.{◌≡◌, ℕ, ◌<◌, ◌≤◌, ◌⊎◌, List, [], ◌∷◌, ◌++◌, length, drop, Some, None, Ok, Err, Option, Result}
use Rattle.std.specs.List.{ContainsAt as Has}
use Rattle.transport.specs.declared.refusal.TransportRefusal.{TransportRefusal}
use Rattle.transport.specs.declared.refusal.TransportRefusal.TheVariants.{FrameSize, MemorySize}

abbrev pub Bytes : Type 0
Bytes = List ℕ

abbrev pub Frames : Type 0
Frames = List Bytes

-- a frame has 1 to 800 bytes
pub record Sized (frame : Bytes) : Type 0 where
  pub some : 1 ≤ length frame
  pub few : length frame ≤ 800

-- P holds of every frame that waits
abbrev pub EachFrame : (Bytes → Type 0) → Frames → Type 0
EachFrame P waiting = (g : Bytes) → Has waiting g → P g

-- every frame that waits after a call waited before it
abbrev pub NothingNew : Frames → Frames → Type 0
NothingNew before after = EachFrame (Has before) after

-- a put that was done: nothing waits but what waited and this frame,
-- and with fewer waiting than the depth it is added at the end
pub record Added (depth : ℕ) (before : Frames) (frame : Bytes) (after : Frames) : Type 0 where
  pub sized : Sized frame
  pub only : EachFrame (λ g. Has before g ⊎ (g ≡ frame)) after
  pub appended : length before < depth → after ≡ before ++ frame ∷ []

-- a put that was refused, as only what is no frame is
pub record NotPut (before : Frames) (frame : Bytes) (after : Frames) : Type 0 where
  pub unsized : Sized frame → ⊥
  pub same : after ≡ before

-- put, by its answer
abbrev pub Put : ℕ → Frames → Bytes → Result (Unit {0}) TransportRefusal → Frames → Type 0
Put depth before frame (Ok done) after = Added depth before frame after
Put depth before frame (Err FrameSize) after = NotPut before frame after
Put depth before frame (Err MemorySize) after = ⊥

-- a get that came with a frame of n bytes; at a depth above 0 it is the first, and taken off
pub record Took (depth : ℕ) (before : Frames) (memory : Bytes) (n : ℕ)
    (after : Frames) (memory' : Bytes) : Type 0 where
  pub room : 800 ≤ length memory
  pub frame : Bytes
  pub waited : Has before frame
  pub long : length frame ≡ n
  pub written : memory' ≡ frame ++ drop n memory
  pub nothing_new : NothingNew before after
  pub taken : 0 < depth → before ≡ frame ∷ after

-- a get that came with nothing; at a depth above 0 none waits
pub record Missed (depth : ℕ) (before : Frames) (memory : Bytes)
    (after : Frames) (memory' : Bytes) : Type 0 where
  pub room : 800 ≤ length memory
  pub unwritten : memory' ≡ memory
  pub nothing_new : NothingNew before after
  pub none : 0 < depth → before ≡ []

-- a get that was refused, as only one with too little memory is
pub record NotGot (before : Frames) (memory : Bytes)
    (after : Frames) (memory' : Bytes) : Type 0 where
  pub small : length memory < 800
  pub unwritten : memory' ≡ memory
  pub same : after ≡ before

-- get, by its answer
abbrev pub Got : ℕ → Frames → Bytes → Result (Option ℕ) TransportRefusal → Frames → Bytes → Type 0
Got depth before memory (Ok (Some n)) after memory' = Took depth before memory n after memory'
Got depth before memory (Ok None) after memory' = Missed depth before memory after memory'
Got depth before memory (Err MemorySize) after memory' = NotGot before memory after memory'
Got depth before memory (Err FrameSize) after memory' = ⊥
