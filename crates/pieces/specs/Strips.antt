-- What comes behind a fixed beginning, and one reading after another.
use Rattle.std.specs.Prelude.{ℕ, cond, List, length, take, drop, Some, None, Option}
use Rattle.std.specs.Str.{bytes_eq}

unfoldable pub strip_of : List ℕ → List ℕ → Option (List ℕ)
strip_of beginning p =
    cond (bytes_eq (take (length beginning) p) beginning) (Some (drop (length beginning) p)) None

abbrev pub then : {A B : Type 0} → Option A → (A → Option B) → Option B
then None f = None
then (Some a) f = f a
