-- The loop that names the runs, place by place.
use Rattle.std.proofs.Common.{◌≡◌, ℕ, ◌+◌, ◌<◌, ◌≤◌, true, cond, ltb, List, [], ◌∷◌, ◌++◌, length, get_or, drop, Some, None, Option, sym, ap, ◌∙◌, append_assoc, append-nil, arith, length-append}
use Rattle.std.proofs.lemmas.List.{at_drop_more, at_drop_all}
use Rattle.std.proofs.lemmas.Bool.{and_parts, and_from, lt-ltb}
use Rattle.frame.specs.Ascending.{ascending, follows, next_low, starts_at}
use Rattle.frame.specs.declared.range.Range.{Range}
use Rattle.office.specs.Places.{is_free}
use Rattle.office.specs.Ranges.{range_of, run, ended, started, runs}

starts_in : (low : ℕ) (xs ys : List Range) (x : Range) → ascending low (xs ++ (x ∷ ys)) ≡ true
    → starts_at (next_low low xs) x ≡ true
starts_in low [] ys x a = (and_parts (starts_at low x) (ascending (x.upper + 2) ys) a).0
starts_in low (y ∷ xs) ys x a =
    let rest = (and_parts (starts_at low y) (ascending (y.upper + 2) (xs ++ (x ∷ ys))) a).1 in
    starts_in (y.upper + 2) xs ys x rest

-- of the ranges of a receipt, each may be put behind those before it
pub follows_in : (all xs ys : List Range) (x : Range) → ascending 1 all ≡ true → length all ≤ 5
    → xs ++ (x ∷ ys) ≡ all → follows xs x ≡ true
follows_in all xs ys x a few e =
    let n : length xs + length (x ∷ ys) ≡ length all
    = sym (length-append xs (x ∷ ys)) ∙ ap length e in
    and_from (ltb (length xs) 5) (starts_at (next_low 1 xs) x) (lt-ltb (length xs) 5 (omega arith))
    (starts_in 1 xs ys x (ap (ascending 1) e ∙ a))

-- what the loop keeps at place i, with the ranges xs named so far: the places left give the rest
pub record Going {A : Type 0} (d : ℕ) (ps : List (Option A)) (i : ℕ) (xs : List Range)
    (lower next : ℕ) : Type 0 where
  pub at : next ≡ d + 1 + i
  pub within : lower ≤ next
  pub gives : xs ++ runs lower next (drop i ps) ≡ runs 1 (d + 1) ps

module _ {A : Type 0} (d : ℕ) (ps : List (Option A)) where
  started_within : (p : Option A) (lower next : ℕ) → lower ≤ next → started p lower next ≤ next + 1
  started_within None lower next h = omega arith
  started_within (Some a) lower next h = omega arith

  pub going_on : (i : ℕ) (xs : List Range) (lower next : ℕ) (p : Option A) → i < length ps
      → Going d ps i xs lower next
      → Going d ps (i + 1) (xs ++ ended (get_or ps i p) lower next) (started (get_or ps i p) lower next)
      (next + 1)
  going_on i xs lower next p h g =
      let q = get_or ps i p in
      record {
        at = omega arith;
        within = started_within q lower next g.within;
        gives =
            append_assoc xs (ended q lower next) _
            ∙ sym (at_drop_more (λ qs. xs ++ runs lower next qs) ps i p h) ∙ g.gives;
      }

  pub going_out : (i : ℕ) (xs : List Range) (lower next : ℕ) → length ps ≤ i
      → Going d ps i xs lower next → xs ++ run lower next ≡ runs 1 (d + 1) ps
  going_out i xs lower next h g = sym (at_drop_all (λ qs. xs ++ runs lower next qs) ps i h) ∙ g.gives

  -- a run that is named here may be named here
  module _ (few : length (runs 1 (d + 1) ps) ≤ 5) (apart : ascending 1 (runs 1 (d + 1) ps) ≡ true) where
    named_run : (xs ys : List Range) (lower next : ℕ) → lower < next
        → xs ++ (run lower next ++ ys) ≡ runs 1 (d + 1) ps
        → follows xs (range_of lower next) ≡ true
    named_run xs ys lower next lt e =
        let t = lt-ltb lower next lt in
        follows_in (runs 1 (d + 1) ps) xs ys (range_of lower next) apart few
        (ap (λ b. xs ++ (cond b (range_of lower next ∷ []) [] ++ ys)) (sym t) ∙ e)

    follows_if : (xs : List Range) (lower next : ℕ) (q : Option A) (qs : List (Option A))
        → is_free q ≡ true
        → xs ++ runs lower next (q ∷ qs) ≡ runs 1 (d + 1) ps → lower < next
        → follows xs (range_of lower next) ≡ true
    follows_if xs lower next None qs f e lt =
        named_run xs (runs (next + 1) (next + 1) qs) lower next lt e
    follows_if xs lower next (Some a) qs f e lt = let z : ◌≡◌ {A = ℕ} 0 1 = cc in absurd (omega arith)

    pub follows_at : (i : ℕ) (xs : List Range) (lower next : ℕ) (p : Option A) → i < length ps
        → is_free (get_or ps i p) ≡ true → Going d ps i xs lower next → lower < next
        → follows xs (range_of lower next) ≡ true
    follows_at i xs lower next p h f g lt =
        follows_if xs lower next (get_or ps i p) (drop (i + 1) ps) f
        (sym (at_drop_more (λ qs. xs ++ runs lower next qs) ps i p h) ∙ g.gives) lt

    pub follows_out : (i : ℕ) (xs : List Range) (lower next : ℕ) → length ps ≤ i
        → Going d ps i xs lower next → lower < next → follows xs (range_of lower next) ≡ true
    follows_out i xs lower next h g lt =
        named_run xs [] lower next lt
        (ap (λ rs. xs ++ rs) (append-nil (run lower next)) ∙ going_out i xs lower next h g)
