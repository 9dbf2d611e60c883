-- Every read is lawful, by state and form.
use Rattle.std.proofs.Common.{◌≡◌, ℕ, zero, suc, Bool, true, false, ◌&&◌, ◌||◌, leb, ◌⊎◌, List, [], ◌∷◌, get_or, set, is_some, Some, None, Ok, Err, Option, Result, sym, refl, subst, inl, inr}
use Rattle.frame.specs.Meanings.{Meaning, create_sequence, create_sequence_response, sequence}
use Rattle.frame.specs.Meanings.{ack_requested, sequence_acknowledgement, close_sequence}
use Rattle.frame.specs.Meanings.{close_sequence_response, terminate_sequence}
use Rattle.frame.specs.Meanings.{terminate_sequence_response, sequence_fault}
use Rattle.office.specs.Accepted.{is_accepted}
use Rattle.office.specs.Destinations.{Destination, accepts, is_new, with_state}
use Rattle.office.specs.Laws.{Keeps, Admits, Moves, stays, creates, closes, terminates, terminates_closed}
use Rattle.office.specs.Laws.{Tells, Lawful}
use Rattle.office.specs.Places.{has_place, place_of, kept}
use Rattle.office.specs.Reads.{Step, Reading, reads, reads_seen, known, stranger, heeds, on_admits}
use Rattle.office.specs.Reads.{on_create, on_letter, on_ask, on_close, on_terminate, last_of}
use Rattle.office.specs.declared.state.OfficeState.{OfficeState}
use Rattle.office.specs.declared.state.OfficeState.TheVariants as state
use Rattle.office.proofs.Receipts.{Sound, exact}

set_keeps : {A : Type 0} (ps : List (Option A)) (j k : ℕ) (a : A)
    → is_some (get_or ps k None) ≡ true → is_some (get_or (set ps j (Some a)) k None) ≡ true
set_keeps [] j k a h = h
set_keeps (p ∷ ps) zero zero a h = refl
set_keeps (p ∷ ps) zero (suc k) a h = h
set_keeps (p ∷ ps) (suc j) zero a h = h
set_keeps (p ∷ ps) (suc j) (suc k) a h = set_keeps ps j k a h

kept_keeps : {A : Type 0} (b : Bool) (ps : List (Option A)) (j k : ℕ) (a : A)
    → is_some (get_or ps k None) ≡ true → is_some (get_or (kept b ps j a) k None) ≡ true
kept_keeps false ps j k a h = h
kept_keeps true ps j k a h = set_keeps ps j k a h

either_keeps : (a b t u : Bool) → (t ≡ true → u ≡ true) → (a || (b && t)) ≡ true
    → (a || (b && u)) ≡ true
either_keeps true b t u f h = refl
either_keeps false true t u f h = f h
either_keeps false false t u f h = h

pub keeps_accepts : (o : Destination) (m : ℕ) (bs : List ℕ) → Keeps o (accepts o m bs)
unfolding accepts is_accepted
keeps_accepts o m bs n h =
    either_keeps (leb 1 n && leb n o.delivered) (has_place o.delivered n) _ _
    (kept_keeps (is_new o m) o.places (place_of o.delivered m) (place_of o.delivered n) bs) h

either_admits : (a b t u : Bool) → (a || (b && u)) ≡ true → ((a || (b && t)) ≡ true) ⊎ (b ≡ true)
either_admits true b t u h = inl refl
either_admits false true t u h = inr refl
either_admits false false t u h = inl h

admits_accepts : (o : Destination) (m : ℕ) (bs : List ℕ) → o.state ≡ state.Created
    → Admits o (accepts o m bs)
unfolding accepts is_accepted
admits_accepts o m bs is n h =
    elim (either_admits (leb 1 n && leb n o.delivered) (has_place o.delivered n)
    (is_some (get_or o.places (place_of o.delivered n) None)) _ h) [
      | inl old ↦ inl old
      | inr place ↦ inr (is, place)
    ]

pub state_accepts : (o : Destination) (m : ℕ) (bs : List ℕ) → (accepts o m bs).state ≡ o.state
unfolding accepts
state_accepts o m bs = refl

pub keeps_state : (o : Destination) (s : OfficeState) (m : ℕ) → Keeps o (with_state o s m)
unfolding is_accepted
keeps_state o s m n h = h

-- the laws of a read, by what it leaves and puts back
record LawfulTo (before after : Destination) (reply : Option Meaning) : Type 0 where
  keeps : Keeps before after
  admits : Admits before after
  moves : Moves before.state after.state
  tells : Tells after reply

admits_state : (o : Destination) (s : OfficeState) (m : ℕ) → Admits o (with_state o s m)
unfolding is_accepted
admits_state o s m n h = inl h

abbrev LawfulStep : Destination → Step → Type 0
LawfulStep o s = Sound s.after → LawfulTo o s.after s.reply

-- nothing changes
same : (o : Destination) (reply : Option Meaning) → (Sound o → Tells o reply) → Sound o
    → LawfulTo o o reply
same o reply t s =
    record { keeps = λ n h. h; admits = λ n h. inl h; moves = stays o.state; tells = t s }

-- the state moves along an arrow
module _ (o : Destination) (from to : OfficeState) (m : ℕ) (is : o.state ≡ from) where
  moved : Moves from to → (reply : Option Meaning)
      → (Sound (with_state o to m) → Tells (with_state o to m) reply)
      → Sound (with_state o to m) → LawfulTo o (with_state o to m) reply
  moved arrow reply t s =
      record {
        keeps = keeps_state o to m;
        admits = admits_state o to m;
        moves = subst (λ x. Moves x to) (sym is) arrow;
        tells = t s;
      }

admits_lawful : (b : Bool) (o : Destination) → o.state ≡ state.None → LawfulStep o (on_admits b o)
admits_lawful true o is = moved o state.None state.Created o.last is creates _ (λ _. tt)
admits_lawful false o is = same o _ (λ _. tt)

create_lawful : (x : OfficeState) (o : Destination) → o.state ≡ x → LawfulStep o (on_create x o)
create_lawful state.None o is = admits_lawful o.admits o is
create_lawful state.Created o is = same o _ (λ _. tt)
create_lawful state.Closed o is = same o _ (λ _. tt)
create_lawful state.Terminated o is = same o _ (λ _. tt)

letter_lawful : (x : OfficeState) (o : Destination) (n m : ℕ) (bs : List ℕ) → o.state ≡ x
    → LawfulStep o (on_letter x o n m bs)
letter_lawful state.None o n m bs is = same o _ (λ _. tt)
letter_lawful state.Created o n m bs is = λ s.
    record {
      keeps = keeps_accepts o m bs;
      admits = admits_accepts o m bs is;
      moves = subst (λ x. Moves o.state x) (sym (state_accepts o m bs)) (stays o.state);
      tells = exact (accepts o m bs) s;
    }
letter_lawful state.Closed o n m bs is = same o _ (λ _. tt)
letter_lawful state.Terminated o n m bs is = same o _ (λ _. tt)

ask_lawful : (x : OfficeState) (o : Destination) (n : ℕ) → LawfulStep o (on_ask x o n)
ask_lawful state.None o n = same o _ (λ _. tt)
ask_lawful state.Created o n = same o _ (exact o)
ask_lawful state.Closed o n = same o _ (exact o)
ask_lawful state.Terminated o n = same o _ (λ _. tt)

close_lawful : (x : OfficeState) (o : Destination) (n m : ℕ) → o.state ≡ x
    → LawfulStep o (on_close x o n m)
close_lawful state.None o n m is = same o _ (λ _. tt)
close_lawful state.Created o n m is =
    moved o state.Created state.Closed m is closes _ (exact (with_state o state.Closed m))
close_lawful state.Closed o n m is =
    moved o state.Closed state.Closed o.last is (stays state.Closed) _
    (exact (with_state o state.Closed o.last))
close_lawful state.Terminated o n m is = same o _ (λ _. tt)

terminate_lawful : (x : OfficeState) (o : Destination) (n m : ℕ) → o.state ≡ x
    → LawfulStep o (on_terminate x o n m)
terminate_lawful state.None o n m is = same o _ (λ _. tt)
terminate_lawful state.Created o n m is =
    moved o state.Created state.Terminated m is terminates _ (exact (with_state o state.Terminated m))
terminate_lawful state.Closed o n m is =
    moved o state.Closed state.Terminated o.last is terminates_closed _
    (exact (with_state o state.Terminated o.last))
terminate_lawful state.Terminated o n m is =
    moved o state.Terminated state.Terminated o.last is (stays state.Terminated) _
    (exact (with_state o state.Terminated o.last))

heeds_lawful : (o : Destination) (m : Meaning) → LawfulStep o (heeds o m)
heeds_lawful o create_sequence = create_lawful o.state o refl
heeds_lawful o (create_sequence_response n) = same o None (λ _. tt)
heeds_lawful o (sequence n m bs) = letter_lawful o.state o n m bs refl
heeds_lawful o (ack_requested n) = ask_lawful o.state o n
heeds_lawful o (sequence_acknowledgement n rs final c) = same o None (λ _. tt)
heeds_lawful o (close_sequence n last) = close_lawful o.state o n (last_of last) refl
heeds_lawful o (close_sequence_response n rs c) = same o None (λ _. tt)
heeds_lawful o (terminate_sequence n last) = terminate_lawful o.state o n (last_of last) refl
heeds_lawful o (terminate_sequence_response n rs c) = same o None (λ _. tt)
heeds_lawful o (sequence_fault f) = same o None (λ _. tt)

known_lawful : (x : Option ℕ) (o : Destination) (m : Meaning) → LawfulStep o (known x o m)
known_lawful None o m = heeds_lawful o m
known_lawful (Some n) o m = same o _ (λ _. tt)

pub reads_lawful : (o : Destination) (m : Meaning) → Sound (reads o m).after → Lawful o (reads o m)
unfolding reads
reads_lawful o m s =
    let l = known_lawful (stranger o m) o m s in
    record { keeps = l.keeps; admits = l.admits; moves = l.moves; tells = l.tells }

pub seen_lawful : (o : Destination) (r : Result Meaning ℕ) → Sound (reads_seen o r).after
    → Lawful o (reads_seen o r)
seen_lawful o (Ok m) s = reads_lawful o m s
seen_lawful o (Err place) s = record { keeps = λ n h. h; admits = λ n h. inl h; moves = stays o.state; tells = tt }

pub lawful_from : (o : Destination) (r : Result Meaning ℕ) (q : Reading) → q ≡ reads_seen o r
    → Sound q.after → Lawful o q
lawful_from o r q e =
    subst (λ (p : Reading). Sound p.after → Lawful o p) (sym e) (seen_lawful o r)
