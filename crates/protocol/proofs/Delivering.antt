-- What deliver does keeps the invariant, and the tally agrees.
use Rattle.std.proofs.Common.{◌≡◌, ℕ, suc, ◌+◌, ◌≤◌, List, Some, None, Option, sym, refl, ◌∙◌, subst, arith}
use Rattle.std.proofs.lemmas.Bool.{eq-eqb}
use Rattle.answer.specs.Refusals.{refused_by}
use Rattle.office.specs.Deliveries.{delivers, next_letter}
use Rattle.office.specs.Destinations.{Destination, with_places}
use Rattle.office.specs.Places.{shifted}
use Rattle.office.proofs.DeliveryLaws.{delivers_keeps}
use Rattle.office.proofs.Shifts.{at_shifted, length_shifted}
use Rattle.planner.specs.Settings.{Chosen}
use Rattle.planner.specs.Sources.{Source}
use Rattle.taker.specs.Steps.{Page, Step}
use Rattle.protocol.specs.Calls.{delivering}
use Rattle.protocol.specs.Steps.{Handover, taken_by, hands_first, hands}
use Rattle.protocol.specs.Tallies.{Letter, letter_at, effect, counted, tally}
use Rattle.protocol.proofs.Invariant.{Core, Took, Grows, Accepted, grows_same}
use Rattle.protocol.proofs.Letters.{at_within}
use Rattle.protocol.proofs.Reading.{tied_grows}

-- the next letter counts as delivered
pub after_is :
    (o : Destination) (l : Letter) → next_letter o ≡ Some l →
    (delivers o).after ≡ with_places o (o.delivered + 1) (shifted o.places)
unfolding delivers
after_is o l e = rw e refl

pub record Delivered (chosen : Chosen) (ls : List Letter) (p : Source) (o : Destination) (step : Step) (page : Page) (r : Handover) : Type 0 where
  pub fed : counted step (effect delivering r.answer) (tally ls o.delivered page) ≡ tally ls r.office.delivered r.page
  pub core : Core chosen ls p r.office
  pub grows : Grows ls p o ls p r.office
  pub calm : refused_by r.answer ≤ 5

module _ (chosen : Chosen) (ls : List Letter) (p : Source) (o : Destination) (k : Core chosen ls p o) where
  -- the letter in the first place is the next one written
  pub next_is : (l : Letter) → next_letter o ≡ Some l → letter_at ls (o.delivered + 1) ≡ Some l
  next_is l e =
      let z : o.delivered + 1 + 0 ≡ o.delivered + 1 = omega arith in
      subst (λ (n : ℕ). letter_at ls n ≡ Some l) z (k.took.kept 0 l e)

  module _ (l : Letter) (e : next_letter o ≡ Some l) where
    abbrev on : Destination
    on = with_places o (o.delivered + 1) (shifted o.places)

    keeps : (n : ℕ) → Accepted o n → Accepted on n
    keeps n h = subst (λ (q : Destination). Accepted q n) (after_is o l e) (delivers_keeps o n h)

    took : Took ls (o.delivered + 1) (shifted o.places)
    took =
        record {
          eight = length_shifted o.places k.took.eight;
          kept = λ j x h.
              (let z : o.delivered + 1 + suc j ≡ o.delivered + 1 + 1 + j = omega arith in
              subst (λ (n : ℕ). letter_at ls n ≡ Some x) z (k.took.kept (suc j) x (sym (at_shifted o.places j) ∙ h)));
          delivered = (at_within ls (o.delivered + 1) l (next_is l e)).1;
        }

    core : Core chosen ls p on
    core =
        record {
          wrote = k.wrote;
          took = took;
          tied = tied_grows ls o on p.credit p.lowest p.window keeps (omega arith) k.tied;
          states = k.states;
          named = k.named;
          gap_is = k.gap_is;
        }

    grows : Grows ls p o ls p on
    grows =
        record {
          letters = λ n l h. h;
          frozen = λ h. refl;
          states = λ h. omega arith;
          delivered = omega arith;
          heights = omega arith;
          accepted = keeps;
        }

  taken :
      (step : Step) (page : Page) (l : Letter) (given : Option Page) → next_letter o ≡ Some l →
      step page l ≡ given → Delivered chosen ls p o step page (taken_by given o page)
  taken step page l None e s = record { fed = refl; core = k; grows = grows_same ls p o; calm = omega arith }
  taken step page l (Some next) e s =
      let is = after_is o l e in
      record {
        fed = rw (is, eq-eqb (o.delivered + 1) (o.delivered + 1) refl, next_is l e, s) refl;
        core = rw is (core l e);
        grows = rw is (grows l e);
        calm = omega arith;
      }

  by_first :
      (step : Step) (page : Page) (x : Option Letter) → next_letter o ≡ x →
      Delivered chosen ls p o step page (hands_first x step o page)
  by_first step page None e = record { fed = refl; core = k; grows = grows_same ls p o; calm = omega arith }
  by_first step page (Some l) e = taken step page l (step page l) e refl

  pub delivers_ok : (step : Step) (page : Page) → Delivered chosen ls p o step page (hands step o page)
  delivers_ok step page = by_first step page (next_letter o) refl
