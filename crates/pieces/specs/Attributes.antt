-- The tag of a range: its two numbers as attributes, Upper first.
use Rattle.std.specs.Prelude.{ℕ, cond, List, ◌++◌, length, take, drop, Some, None, codes, decimal, Option, ◌==◌}
use Rattle.std.specs.Option.{option_map}
use Rattle.frame.specs.declared.range.Range.{Range}
use Rattle.pieces.specs.Cuts.{before}
use Rattle.pieces.specs.Numbers.{plain}
use Rattle.pieces.specs.Strips.{strip_of, then}

abbrev pub range_opens : List ℕ
range_opens = codes "<wsrm:AcknowledgementRange Upper=\""

abbrev pub range_between : List ℕ
range_between = codes "\" Lower=\""

abbrev pub range_closes : List ℕ
range_closes = codes "\"/>"

unfoldable pub range_text : Range → List ℕ
range_text x = range_opens ++ (decimal x.upper ++ (range_between ++ (decimal x.lower ++ range_closes)))

-- the number that stands before the next quote, and what comes after it
unfoldable pub field_of : List ℕ → Option (ℕ × List ℕ)
field_of p = option_map (λ n. (n, drop (before 34 p) p)) (plain (take (before 34 p) p))

abbrev pub range_end : Range → List ℕ → Option Range
range_end x end = cond (length end == 0) (Some x) None

unfoldable pub range_read : List ℕ → Option Range
range_read p =
    then (strip_of range_opens p) (λ a. then (field_of a) (λ u.
    then (strip_of range_between u.1) (λ b. then (field_of b) (λ l.
    then (strip_of range_closes l.1) (range_end (record { lower = l.0; upper = u.0 }))))))
