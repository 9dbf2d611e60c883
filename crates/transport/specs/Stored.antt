-- What is kept, as the frames that wait in a mailbox or a bag.
-- A reader has to believe that the frames that wait are the bytes of the items, from the front on.
use Rattle.std.specs.Prelude.{map, List, Option}
use Rattle.std.specs.Option.{option_map, option_copied}
use Rattle.std.specs.Borrow.{Bor}
use Rattle.transport.specs.declared.kept.Kept.{Kept}
use Rattle.transport.specs.Meaning.{Bytes, Frames}

-- the frame that is kept
abbrev pub content : Kept → Bytes
content k = k.bytes.items

-- the frames of all items, oldest first
abbrev pub held : List Kept → Frames
held items = map content items

-- the frame behind a reference, if any
abbrev pub handed : Option (Bor Kept) → Option Bytes
handed kept = option_map content (option_copied kept)
