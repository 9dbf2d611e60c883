-- A letter that the taker took counts as delivered.
use Rattle.std.proofs.Common.{◌≡◌, ℕ, ◌+◌, List, Some, None, Ok, Option, sym, refl, ap, ◌∙◌}
use Rattle.line.specs.Answers.{number_if}
use Rattle.office.specs.Deliveries.{Delivery, delivery, delivers, next_letter}
use Rattle.office.specs.Destinations.{Destination}
use Rattle.protocol.specs.Steps.{handover, taken_by, hands_first, hands}
use Rattle.taker.specs.Steps.{Page, Step, Follows}

number_is : (o : Destination) (l : List ℕ) → next_letter o ≡ Some l → (delivers o).number ≡ Some (o.delivered + 1)
unfolding delivers
number_is o l e = rw e refl

by_page :
    (o q : Destination) (page after : Page) (n : Option ℕ) (l : List ℕ) (given : Option Page) →
    next_letter o ≡ Some l → Follows given page (Ok tt) after → delivery q n ≡ delivers o →
    handover q after (number_if (Ok n)) ≡ taken_by given o page
by_page o q page after n l None e f d = cc f.value
by_page o q page after n l (Some next) e f d =
    let number : n ≡ Some (o.delivered + 1) = ap (λ (x : Delivery). x.number) d ∙ number_is o l e in
    let office : q ≡ (delivers o).after = ap (λ (x : Delivery). x.after) d in
    rw (number, office, f.left) refl

pub handed :
    (step : Step) (o q : Destination) (page after : Page) (n : Option ℕ) (l : List ℕ) → next_letter o ≡ Some l →
    Follows (step page l) page (Ok tt) after → delivery q n ≡ delivers o →
    handover q after (number_if (Ok n)) ≡ hands step o page
handed step o q page after n l e f d =
    by_page o q page after n l (step page l) e f d ∙ sym (ap (λ (x : Option (List ℕ)). hands_first x step o page) e)
