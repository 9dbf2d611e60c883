-- What a mailbox does: 32 frames, first in, first out.
-- A reader has to believe that these are the rules of a mailbox; that it is a transport is proved.
use Rattle.std.specs.Prelude.{cond, ◌&&◌, [], ◌∷◌, ◌++◌, length, drop, Option, nat_lt}
use Rattle.std.specs.List.{slice_get}
use Rattle.transport.specs.declared.mailbox.Mailbox.{Mailbox}
use Rattle.transport.specs.Calls.{is_frame, is_enough}
use Rattle.transport.specs.Meaning.{Bytes, Frames}
use Rattle.transport.specs.Stored.{held}

-- the frames that wait in a mailbox, oldest first
abbrev pub in_mailbox : Mailbox → Frames
in_mailbox m = held m.frames.items

-- the frame that a get hands out
abbrev pub oldest : Frames → Option Bytes
oldest waiting = slice_get waiting 0

-- what waits after a put: at 32 waiting the frame is lost
abbrev pub mailbox_put : Frames → Bytes → Frames
mailbox_put waiting bytes =
    cond (is_frame bytes && nat_lt (length waiting) 32) (waiting ++ bytes ∷ []) waiting

-- what waits after a get: all but the oldest
abbrev pub mailbox_get : Frames → Bytes → Frames
mailbox_get waiting memory = cond (is_enough memory) (drop 1 waiting) waiting
