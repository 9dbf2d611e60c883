-- What a bag does: 8 frames; a get hands out the newest, and every second one takes it off.
-- A reader has to believe that these are the rules of a bag; that it is a transport is proved.
use Rattle.std.specs.Prelude.{◌-◌, Bool, cond, not, ◌&&◌, [], ◌∷◌, ◌++◌, length, take, drop, Option, nat_lt}
use Rattle.std.specs.List.{slice_get}
use Rattle.transport.specs.declared.bag.Bag.{Bag}
use Rattle.transport.specs.Calls.{is_frame, is_enough}
use Rattle.transport.specs.Meaning.{Bytes, Frames}
use Rattle.transport.specs.Stored.{held}

-- the frames that wait in a bag, oldest first
abbrev pub in_bag : Bag → Frames
in_bag b = held b.frames.items

-- whether the next get that finds a frame takes it off
abbrev pub takes_next : Bag → Bool
takes_next b = b.takes

-- the frame that a get hands out
abbrev pub newest : Frames → Option Bytes
newest waiting = slice_get waiting (length waiting - 1)

-- what is kept as a frame comes in: of 8 not the oldest
abbrev pub with_room : Frames → Frames
with_room waiting = cond (nat_lt (length waiting) 8) waiting (drop 1 waiting)

-- what waits after a put
abbrev pub bag_put : Frames → Bytes → Frames
bag_put waiting bytes = cond (is_frame bytes) (with_room waiting ++ bytes ∷ []) waiting

-- what waits after a get: all but the newest, where it is taken off
abbrev pub bag_get : Bool → Frames → Bytes → Frames
bag_get takes waiting memory =
    cond (is_enough memory && takes) (take (length waiting - 1) waiting) waiting

-- whose turn it is after a get: only one that found a frame counts
abbrev pub bag_takes : Bool → Frames → Bytes → Bool
bag_takes takes waiting memory =
    cond (is_enough memory && nat_lt 0 (length waiting)) (not takes) takes
