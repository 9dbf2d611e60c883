-- The window of the planner's end: what stands for each of the eight numbers from the lowest without a receipt on.
use Rattle.std.specs.Prelude.{◌≡◌, ℕ, ◌≤◌, Bool, true, false, List, map, Option, slice_index_or}
use Rattle.letter.specs.Letters.{content}
use Rattle.planner.specs.declared.slot.Slot as declared
use Rattle.planner.specs.declared.slot.Slot.TheVariants as slot

pub data Slot : Type 0 where
  -- no letter has this number yet
  free : Slot
  -- a letter without a receipt, with the clock of its last sending
  waiting : (letter : List ℕ) (sent : Option ℕ) → Slot
  -- a receipt has come
  receipted : Slot

abbrev pub slot_of : declared.Slot → Slot
slot_of slot.Free = free
slot_of (slot.Waiting l sent) = waiting (content l) sent
slot_of slot.Receipted = receipted

abbrev pub window_of : List declared.Slot → List Slot
window_of slots = map slot_of slots

abbrev pub is_free : Slot → Bool
is_free free = true
is_free (waiting l sent) = false
is_free receipted = false

abbrev pub has_receipt : Slot → Bool
has_receipt free = false
has_receipt (waiting l sent) = false
has_receipt receipted = true

-- from the nth slot on all are free
abbrev pub FreeFrom : ℕ → List Slot → Type 0
FreeFrom n window = (k : ℕ) → n ≤ k → is_free (slice_index_or window k free) ≡ true

-- the first number has no receipt
abbrev pub Lowest : List Slot → Type 0
Lowest window = has_receipt (slice_index_or window 0 free) ≡ false
