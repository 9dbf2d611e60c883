-- The newest frame, from what is kept.
use Rattle.std.specs.Prelude.{◌≡◌, ◌-◌, List, [], ◌∷◌, length, take, nat_lt, refl}
use Rattle.std.specs.Option.{option_map, is_some}
use Rattle.std.specs.List.{slice_get}
use Rattle.std.proofs.Common.{sym, ap, ◌∙◌, arith}
use Rattle.std.proofs.lemmas.List.{length-map, take-map}
use Rattle.std.proofs.lemmas.Bool.Decides.{nat_tests}
use Rattle.std.proofs.lemmas.Option.{slice_get-map, slice_get-get_or}
use Rattle.circular_buffer.specs.Buffer.{last_item}
use Rattle.transport.specs.declared.kept.Kept.{Kept}
use Rattle.transport.specs.Bag.{newest}
use Rattle.transport.specs.Calls.{long}
use Rattle.transport.specs.Meaning.{Frames}
use Rattle.transport.specs.Stored.{content, held}

pub newest_held : (items : List Kept) → newest (held items) ≡ option_map content (last_item items)
newest_held items =
    ap (λ n. slice_get (held items) (n - 1)) (length-map items content)
    ∙ slice_get-map content items (length items - 1)

-- all but the newest
pub rest_held : (items : List Kept)
    → held (take (length items - 1) items) ≡ take (length (held items) - 1) (held items)
rest_held items =
    sym (take-map content (length items - 1) items)
    ∙ ap (λ n. take (n - 1) (held items)) (sym (length-map items content))

-- there is a newest frame exactly where one waits
pub newest_waits : (waiting : Frames)
    → is_some (long (newest waiting)) ≡ nat_lt 0 (length waiting)
newest_waits [] = refl
newest_waits (f ∷ fs) =
    rw (slice_get-get_or (f ∷ fs) (length (f ∷ fs) - 1) f (omega arith)) (grind (arith, nat_tests))

-- what a get of the newest frame goes by
pub ruleset newest_is = (newest_held, rest_held, newest_waits)
