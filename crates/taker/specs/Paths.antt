-- A list of paths in ascending order of train and section, with at most one path for each pair:
-- what it holds for a pair, and what putting and withdrawing a path make of it.
use Rattle.std.specs.Prelude.{ℕ, Bool, true, cond, ◌&&◌, ◌||◌, List, [], ◌∷◌, length, is_some, Some, None, Option, ◌==◌, nat_lt}
use Rattle.letter.specs.declared.change.Path.{Path}

-- the path comes before this train and section
abbrev pub earlier : ℕ → ℕ → Path → Bool
earlier train section p = nat_lt p.train train || (p.train == train && nat_lt p.section section)

-- the path is of this train and section
abbrev pub same : ℕ → ℕ → Path → Bool
same train section p = p.train == train && p.section == section

-- the path that is held for this train and section
abbrev pub look : ℕ → ℕ → List Path → Option Path
look train section [] = None
look train section (p ∷ ps) = cond (same train section p) (Some p) (look train section ps)

abbrev pub holds : ℕ → ℕ → List Path → Bool
holds train section ps = is_some (look train section ps)

-- every path of the list comes after p
abbrev pub all_after : Path → List Path → Bool
all_after p [] = true
all_after p (q ∷ qs) = earlier q.train q.section p && all_after p qs

-- every path comes before those behind it
abbrev pub ascending : List Path → Bool
ascending [] = true
ascending (p ∷ ps) = all_after p ps && ascending ps

-- p in the place of the path of its train and section, or else before the first that is later
abbrev pub put : Path → List Path → List Path
put p [] = p ∷ []
put p (q ∷ qs) =
    cond (earlier p.train p.section q) (q ∷ put p qs)
    (cond (same p.train p.section q) (p ∷ qs) (p ∷ (q ∷ qs)))

-- the list without the path of this train and section
abbrev pub without : ℕ → ℕ → List Path → List Path
without train section [] = []
without train section (q ∷ qs) = cond (same train section q) qs (q ∷ without train section qs)

-- a put finds a place: its train and section are held, or fewer than 32 paths are
abbrev pub has_place : Path → List Path → Bool
has_place p ps = holds p.train p.section ps || nat_lt (length ps) 32

-- what a put leaves, whether it found a place or not
abbrev pub put_paths : Path → List Path → List Path
put_paths p ps = cond (has_place p ps) (put p ps) ps
