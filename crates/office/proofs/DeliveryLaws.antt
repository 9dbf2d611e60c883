-- A delivery keeps what is accepted.
use Rattle.std.proofs.Common.{◌≡◌, ℕ, suc, ◌+◌, ◌-◌, true, List, get_or, is_some, Some, None, Option, sym, refl, ap, ◌∙◌, subst, inl, inr, arith}
use Rattle.std.proofs.lemmas.Bool.{cases_lt}
use Rattle.std.proofs.lemmas.Bool.Decides.{nat_tests}
use Rattle.office.specs.Accepted.{is_accepted, accepted_at}
use Rattle.office.specs.Deliveries.{Delivery, delivery, delivers, delivers_first, next_letter}
use Rattle.office.specs.Deliveries.{number_of}
use Rattle.office.specs.Destinations.{Destination, with_places}
use Rattle.office.specs.Laws.{Keeps}
use Rattle.office.specs.Places.{shifted}
use Rattle.office.proofs.Shifts.{at_shifted}

shifted_keeps : {A : Type 0} (d : ℕ) (ps : List (Option A)) (n : ℕ)
    → accepted_at d ps n ≡ true → accepted_at (d + 1) (shifted ps) n ≡ true
shifted_keeps d ps n h =
    elim (cases_lt (d + 1) n) [
      | inl lt ↦
          let k : suc (n - (d + 1) - 1) ≡ n - d - 1 = omega arith in
          let at : is_some (get_or (shifted ps) (n - (d + 1) - 1) None) ≡ is_some (get_or ps (n - d - 1) None)
          = ap is_some (at_shifted ps (n - (d + 1) - 1)) ∙ ap (λ j. is_some (get_or ps j None)) k in
          grind (arith, nat_tests)
      | inr le ↦ grind (arith, nat_tests)
    ]

first_keeps : (p : Option (List ℕ)) (o : Destination) → Keeps o (delivers_first p o).after
unfolding is_accepted
first_keeps None o n h = h
first_keeps (Some bs) o n h = shifted_keeps o.delivered o.places n h

pub delivers_keeps : (o : Destination) → Keeps o (delivers o).after
unfolding delivers
delivers_keeps o = first_keeps (next_letter o) o

pub keeps_from : (o : Destination) (q : Delivery) → q ≡ delivers o → Keeps o q.after
keeps_from o q e = subst (λ (r : Delivery). Keeps o r.after) (sym e) (delivers_keeps o)

-- the number tells whether there is a letter
pub number_some : {A : Type 0} (d n : ℕ) (p : Option A) → Some n ≡ number_of d p
    → (n ≡ d + 1) × (is_some p ≡ true)
number_some d n None e = let z : ◌≡◌ {A = ℕ} 0 1 = cc in absurd (omega arith)
number_some d n (Some a) e = (cc, refl)

pub number_none : {A : Type 0} (d : ℕ) (p : Option A) → None ≡ number_of d p → p ≡ None
number_none d None e = refl
number_none d (Some a) e = let z : ◌≡◌ {A = ℕ} 0 1 = cc in absurd (omega arith)

pub delivers_none : (o : Destination) → next_letter o ≡ None → delivery o None ≡ delivers o
unfolding delivers
delivers_none o e = rw e

-- the next letter is there and counted
abbrev pub moves_on : Destination → Delivery
moves_on o = delivery (with_places o (o.delivered + 1) (shifted o.places)) (Some (o.delivered + 1))

delivers_at : (o : Destination) (p : Option (List ℕ)) → is_some p ≡ true
    → moves_on o ≡ delivers_first p o
delivers_at o None h = let z : ◌≡◌ {A = ℕ} 0 1 = cc in absurd (omega arith)
delivers_at o (Some bs) h = refl

pub delivers_some : (o : Destination) → is_some (next_letter o) ≡ true
    → moves_on o ≡ delivers o
unfolding delivers
delivers_some o h = delivers_at o (next_letter o) h
