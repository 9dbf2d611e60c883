-- The number and the slot that a letter gets are those that the definition names.
use Rattle.std.proofs.Common.{◌≡◌, ℕ, ◌+◌, ◌-◌, List, set, None, Ok, ap, ◌∙◌}
use Rattle.planner.specs.Sources.{Source, done, with_window}
use Rattle.planner.specs.Windows.{Slot, waiting}
use Rattle.planner.specs.Writing.{next_number, adds_at, adds}

pub added :
    (s : Source) (number : ℕ) (letter : List ℕ) (window : List Slot) →
    Ok number ≡ next_number s →
    number ≡ s.written + 1 →
    window ≡ set s.window (number - s.lowest) (waiting letter None) →
    done (with_window number window s) number ≡ adds letter s
added s number letter window given is set_so =
    ap (λ w. done (with_window number w s) number) set_so ∙
    ap (λ n. done (with_window n (set s.window (n - s.lowest) (waiting letter None)) s) number) is ∙
    ap (λ r. adds_at r letter s) given
