-- What holds of a line at all times, over the letters written so far.
use Rattle.std.proofs.Common.{◌≡◌, ℕ, ◌+◌, ◌<◌, ◌≤◌, true, List, length, get_or, Some, None, Option, refl, arith}
use Rattle.frame.specs.Bounds.{number_of}
use Rattle.frame.specs.Meanings.{
  Meaning,
  create_sequence,
  create_sequence_response,
  sequence,
  ack_requested,
  sequence_acknowledgement,
  close_sequence,
  close_sequence_response,
  terminate_sequence,
  terminate_sequence_response,
  sequence_fault,
  unknown_sequence,
  sequence_terminated,
  sequence_closed,
  create_sequence_refused,
  IsLetter,
  Proper,
}
use Rattle.frame.specs.declared.range.Range.{Range}
use Rattle.grammar.specs.Texts.{text}
use Rattle.office.specs.Accepted.{is_accepted}
use Rattle.office.specs.Destinations.{Destination}
use Rattle.office.specs.declared.state.OfficeState.{OfficeState}
use Rattle.office.specs.declared.state.OfficeState.TheVariants as office-state
use Rattle.frame.specs.Covers.{covers}
use Rattle.planner.specs.Settings.{Chosen}
use Rattle.planner.specs.Sources.{Source}
use Rattle.planner.specs.States.{rank}
use Rattle.planner.specs.Windows.{Slot, free, waiting, receipted}
use Rattle.planner.specs.declared.state.PlannerState.{PlannerState}
use Rattle.transport.specs.Meaning.{Bytes, Frames, EachFrame}
use Rattle.protocol.specs.Tallies.{Letter, letter_at}

-- the order of the office's states
abbrev pub height : OfficeState → ℕ
height office-state.None = 0
height office-state.Created = 1
height office-state.Closed = 2
height office-state.Terminated = 3

-- number n is accepted
abbrev pub Accepted : Destination → ℕ → Type 0
Accepted o n = is_accepted o n ≡ true

-- what stands in the slot of number n: nothing only past the letters written, else the letter as it was
-- written, or a receipt only if it is accepted
abbrev pub Holds : List Letter → Destination → ℕ → Slot → Type 0
Holds ls o n free = length ls < n
Holds ls o n (waiting l sent) = letter_at ls n ≡ Some l
Holds ls o n receipted = Accepted o n

-- what is written; indexed by what it speaks of, so that a call that leaves this leaves the fact
pub record Wrote (chosen : Chosen) (ls : List Letter) (limit N low : ℕ) (window : List Slot) : Type 0 where
  pub count : N ≡ length ls
  pub limit_is : limit ≡ chosen.limit
  pub limited : N ≤ limit
  pub fine : (n : ℕ) (l : Letter) → letter_at ls n ≡ Some l → IsLetter l
  pub low_pos : 1 ≤ low
  pub reached : low ≤ N + 1
  pub near : N ≤ low + 7
  pub eight : length window ≡ 8

-- what is accepted
pub record Took (ls : List Letter) (d : ℕ) (places : List (Option Letter)) : Type 0 where
  pub eight : length places ≡ 8
  pub kept : (k : ℕ) (l : Letter) → get_or places k None ≡ Some l → letter_at ls (d + 1 + k) ≡ Some l
  pub delivered : d ≤ length ls

-- what the planner's end knows of the office's
pub record Tied (ls : List Letter) (o : Destination) (c low : ℕ) (window : List Slot) : Type 0 where
  pub held : (k : ℕ) → Holds ls o (low + k) (get_or window k free)
  pub below : (n : ℕ) → 1 ≤ n → n < low → Accepted o n
  pub credit : c ≤ o.delivered + 8

-- how the two states go together
pub record States (chosen : Chosen) (s : PlannerState) (held : Option ℕ) (N : ℕ) (h : OfficeState) (last : ℕ) : Type 0 where
  pub name : 2 ≤ rank s → held ≡ Some chosen.identifier
  pub begun : 2 ≤ rank s → 1 ≤ height h
  pub closed_late : 2 ≤ height h → 3 ≤ rank s
  pub closed_last : 2 ≤ height h → last ≡ N
  pub ended_terminated : 6 ≤ rank s → 3 ≤ height h

pub record Core (chosen : Chosen) (ls : List Letter) (p : Source) (o : Destination) : Type 0 where
  pub wrote : Wrote chosen ls p.limit p.written p.lowest p.window
  pub took : Took ls o.delivered o.places
  pub tied : Tied ls o p.credit p.lowest p.window
  pub states : States chosen p.state p.held p.written o.state o.last
  pub named : o.identifier ≡ chosen.identifier
  pub gap_is : p.gap ≡ chosen.gap

-- a frame that may wait outward
abbrev pub OutOK : Chosen → List Letter → Source → Destination → Meaning → Type 0
OutOK chosen ls p o create_sequence = Unit {0}
OutOK chosen ls p o (create_sequence_response i) = ⊥
OutOK chosen ls p o (sequence i n l) =
    (i ≡ chosen.identifier) × (letter_at ls n ≡ Some l) × (n ≤ o.delivered + 8) × (2 ≤ rank p.state)
OutOK chosen ls p o (ack_requested i) = (i ≡ chosen.identifier) × (2 ≤ rank p.state)
OutOK chosen ls p o (sequence_acknowledgement i rs final c) = ⊥
OutOK chosen ls p o (close_sequence i last) =
    (i ≡ chosen.identifier) × (last ≡ number_of (length ls)) × (3 ≤ rank p.state)
OutOK chosen ls p o (close_sequence_response i rs c) = ⊥
OutOK chosen ls p o (terminate_sequence i last) =
    (i ≡ chosen.identifier) × (last ≡ number_of (length ls)) × (3 ≤ rank p.state)
OutOK chosen ls p o (terminate_sequence_response i rs c) = ⊥
OutOK chosen ls p o (sequence_fault f) = ⊥

-- the ranges name accepted numbers only
abbrev pub Sure : Destination → List Range → Type 0
Sure o rs = (n : ℕ) → covers rs n ≡ true → Accepted o n

-- a receipt that may wait
abbrev pub ReceiptOK : Chosen → Source → Destination → ℕ → List Range → ℕ → Type 0
ReceiptOK chosen p o i rs c =
    (i ≡ chosen.identifier) × Sure o rs × (c ≤ o.delivered + 8) × (2 ≤ rank p.state)

-- a frame that may wait back
abbrev pub BackOK : Chosen → Source → Destination → Meaning → Type 0
BackOK chosen p o create_sequence = ⊥
BackOK chosen p o (create_sequence_response i) = (i ≡ chosen.identifier) × (1 ≤ height o.state)
BackOK chosen p o (sequence i n l) = ⊥
BackOK chosen p o (ack_requested i) = ⊥
BackOK chosen p o (sequence_acknowledgement i rs final c) = ReceiptOK chosen p o i rs c
BackOK chosen p o (close_sequence i last) = ⊥
BackOK chosen p o (close_sequence_response i rs c) = ReceiptOK chosen p o i rs c
BackOK chosen p o (terminate_sequence i last) = ⊥
BackOK chosen p o (terminate_sequence_response i rs c) = ReceiptOK chosen p o i rs c × (3 ≤ height o.state)
BackOK chosen p o (sequence_fault (unknown_sequence i)) = ⊥
BackOK chosen p o (sequence_fault (sequence_terminated i)) =
    (i ≡ chosen.identifier) × (3 ≤ height o.state) × (2 ≤ rank p.state)
BackOK chosen p o (sequence_fault (sequence_closed i)) = (i ≡ chosen.identifier) × (3 ≤ rank p.state)
BackOK chosen p o (sequence_fault create_sequence_refused) = Unit {0}

-- bytes that wait are the text of a frame that may
pub record Sound (P : Meaning → Type 0) (bytes : Bytes) : Type 0 where
  pub of : Meaning
  pub is : bytes ≡ text of
  pub proper : Proper of
  pub ok : P of

pub record Inv (chosen : Chosen) (ls : List Letter) (p : Source) (o : Destination) (out back : Frames) : Type 0 where
  pub core : Core chosen ls p o
  pub outs : EachFrame (Sound (OutOK chosen ls p o)) out
  pub backs : EachFrame (Sound (BackOK chosen p o)) back

-- what only grows
pub record Grows (ls : List Letter) (p : Source) (o : Destination) (ls' : List Letter) (p' : Source) (o' : Destination) : Type 0 where
  pub letters : (n : ℕ) (l : Letter) → letter_at ls n ≡ Some l → letter_at ls' n ≡ Some l
  pub frozen : 3 ≤ rank p.state → length ls' ≡ length ls
  pub states : 2 ≤ rank p.state → rank p.state ≤ rank p'.state
  pub delivered : o.delivered ≤ o'.delivered
  pub heights : height o.state ≤ height o'.state
  pub accepted : (n : ℕ) → Accepted o n → Accepted o' n

-- the facts about waiting frames are carried along

module _ (chosen : Chosen) {ls ls' : List Letter} {p p' : Source} {o o' : Destination} (g : Grows ls p o ls' p' o') where
  last_grows : (last : Option ℕ) → 3 ≤ rank p.state → last ≡ number_of (length ls) → last ≡ number_of (length ls')
  last_grows last three e = rw (g.frozen three) e

  pub out_grows : (m : Meaning) → OutOK chosen ls p o m → OutOK chosen ls' p' o' m
  out_grows create_sequence h = tt
  out_grows (create_sequence_response i) h = h
  out_grows (sequence i n l) h = (h.0, g.letters n l h.1, omega arith, omega arith)
  out_grows (ack_requested i) h = (h.0, omega arith)
  out_grows (sequence_acknowledgement i rs final c) h = h
  out_grows (close_sequence i last) h = (h.0, last_grows last h.2 h.1, omega arith)
  out_grows (close_sequence_response i rs c) h = h
  out_grows (terminate_sequence i last) h = (h.0, last_grows last h.2 h.1, omega arith)
  out_grows (terminate_sequence_response i rs c) h = h
  out_grows (sequence_fault f) h = h

  receipt_grows : (i : ℕ) (rs : List Range) (c : ℕ) → ReceiptOK chosen p o i rs c → ReceiptOK chosen p' o' i rs c
  receipt_grows i rs c h = (h.0, λ n x. g.accepted n (h.1 n x), omega arith, omega arith)

  pub back_grows : (m : Meaning) → BackOK chosen p o m → BackOK chosen p' o' m
  back_grows create_sequence h = h
  back_grows (create_sequence_response i) h = (h.0, omega arith)
  back_grows (sequence i n l) h = h
  back_grows (ack_requested i) h = h
  back_grows (sequence_acknowledgement i rs final c) h = receipt_grows i rs c h
  back_grows (close_sequence i last) h = h
  back_grows (close_sequence_response i rs c) h = receipt_grows i rs c h
  back_grows (terminate_sequence i last) h = h
  back_grows (terminate_sequence_response i rs c) h = (receipt_grows i rs c h.0, omega arith)
  back_grows (sequence_fault (unknown_sequence i)) h = h
  back_grows (sequence_fault (sequence_terminated i)) h = (h.0, omega arith, omega arith)
  back_grows (sequence_fault (sequence_closed i)) h = (h.0, omega arith)
  back_grows (sequence_fault create_sequence_refused) h = tt

pub grows_same : (ls : List Letter) (p : Source) (o : Destination) → Grows ls p o ls p o
grows_same ls p o =
    record {
      letters = λ n l h. h;
      frozen = λ h. refl;
      states = omega arith;
      delivered = omega arith;
      heights = omega arith;
      accepted = λ n h. h;
    }

-- only the planner's end has changed
pub grows_state :
    (ls : List Letter) (p q : Source) (o : Destination) →
    (2 ≤ rank p.state → rank p.state ≤ rank q.state) → Grows ls p o ls q o
grows_state ls p q o a =
    record {
      letters = λ n l h. h;
      frozen = λ h. refl;
      states = a;
      delivered = omega arith;
      heights = omega arith;
      accepted = λ n h. h;
    }
