-- How a letter gets its number: write, and post for a draft's letter. The checks come in the order of these tests.
use Rattle.std.specs.Prelude.{ℕ, ◌+◌, ◌-◌, cond, List, None, Ok, Err, Result, ◌==◌, nat_lt, slice_set}
use Rattle.letter.specs.Letters.{is_letter}
use Rattle.planner.specs.Sources.{Source, Acted, done, refuses, allowed, with_window}
use Rattle.planner.specs.States.{rank}
use Rattle.planner.specs.Windows.{waiting}
use Rattle.planner.specs.declared.draft.Draft.{Draft}
use Rattle.planner.specs.declared.refusal.PlannerRefusal.{PlannerRefusal}
use Rattle.planner.specs.declared.refusal.PlannerRefusal.TheVariants as refusal

-- the letter with the next number, never sent
abbrev pub with_letter : List ℕ → Source → Source
with_letter letter s =
    with_window (s.written + 1) (slice_set s.window (s.written + 1 - s.lowest) (waiting letter None)) s

-- the next number, if the limit is not reached and it is in the window
abbrev pub next_number : Source → Result ℕ PlannerRefusal
next_number s =
    cond (s.written == s.limit) (Err refusal.Limit)
    (cond (nat_lt (s.lowest + 7) (s.written + 1)) (Err (refusal.Window s.lowest)) (Ok (s.written + 1)))

abbrev pub adds_at : Result ℕ PlannerRefusal → List ℕ → Source → Acted ℕ
adds_at (Ok number) letter s = done (with_letter letter s) number
adds_at (Err why) letter s = refuses s why

abbrev pub adds : List ℕ → Source → Acted ℕ
adds letter s = adds_at (next_number s) letter s

abbrev pub writes : List ℕ → Source → Acted ℕ
writes bytes s =
    allowed (rank s.state == 2) s (cond (is_letter bytes) (adds bytes s) (refuses s refusal.LetterSize))

abbrev pub posts : List ℕ → Source → Acted ℕ
posts letter s = allowed (rank s.state == 2) s (adds letter s)

-- why a post was refused, without the draft that it hands back
abbrev pub post_answer : Result ℕ (PlannerRefusal × Draft) → Result ℕ PlannerRefusal
post_answer (Ok n) = Ok n
post_answer (Err back) = Err back.0
