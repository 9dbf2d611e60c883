-- What sending a due letter leaves and puts.
use Rattle.std.proofs.Common.{◌≡◌, ℕ, ◌+◌, List, set, Some, ap, ◌∙◌}
use Rattle.frame.specs.Meanings.{Meaning, sequence}
use Rattle.planner.specs.Sources.{Source, done, name, with_window}
use Rattle.planner.specs.Sending.{Due, lowest_due, sends_due}
use Rattle.planner.specs.Windows.{Slot, waiting}

pub sent_is :
    (s : Source) (clock : ℕ) (d : Due) (window : List Slot) (m : Meaning) →
    Some d ≡ lowest_due clock s →
    window ≡ set s.window d.place (waiting d.letter (Some clock)) →
    m ≡ sequence (name s) (s.lowest + d.place) d.letter →
    done (with_window s.written window s) (Some (s.lowest + d.place, m)) ≡ sends_due (lowest_due clock s) clock s
sent_is s clock d window m found set_so says =
    ap (λ w. done (with_window s.written w s) (Some (s.lowest + d.place, m))) set_so ∙
    ap (λ x. done (with_window s.written (set s.window d.place (waiting d.letter (Some clock))) s) (Some (s.lowest + d.place, x))) says ∙
    ap (λ o. sends_due o clock s) found
