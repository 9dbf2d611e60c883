-- Where a byte stands first.
use Rattle.std.specs.List.{position_or_len}
use Rattle.std.specs.Option.{unwrap_or}
use Rattle.std.proofs.lemmas.List.Recursion.{is_position_or_len}
use Rattle.std.proofs.Common.{inl, inr, ltb, Some, None, Option, ◌≤◌, cond, sym, ltb-false, ◌≡◌, ℕ, suc, ◌+◌, Bool, true, not, ◌&&◌, eqb, List, [], ◌∷◌, ◌++◌, length, ap, ◌∙◌, arith}
use borrow.Author.Tests.{not-true}
use Rattle.std.proofs.lemmas.Bool.{and_parts, and_from, cond-true, cond-false, cases_Bool}
use Rattle.pieces.specs.Cuts.{before}

-- A function that goes through a list as `position` does: the place where a test passes first, or else the length.
module _ {X : Type 0} (F : List X → ℕ) (test : X → Bool)
    (none : F [] ≡ 0)
    (some : (x : X) (xs : List X) → F (x ∷ xs) ≡ cond (test x) 0 (1 + F xs)) where
  pub at_most_length : (xs : List X) → F xs ≤ length xs
  at_most_length [] = omega (arith, none)
  at_most_length (x ∷ xs) = elim (cases_Bool (test x)) [
    | inl e ↦ omega (arith, some x xs ∙ cond-true _ _ _ e)
    | inr e ↦ omega (arith, some x xs ∙ cond-false _ _ _ e, at_most_length xs)
  ]

  -- what `position` answers, with the length for none, is that place
  pub first_or_length : (xs : List X) (o : Option ℕ)
      → o ≡ cond (ltb (position_or_len test xs) (length xs)) (Some (position_or_len test xs)) None
      → unwrap_or o (length xs) ≡ F xs
  first_or_length xs o e =
      let p = is_position_or_len F test none some xs in
      elim (cases_Bool (ltb (position_or_len test xs) (length xs))) [
        | inl l ↦ ap (λ x. unwrap_or x (length xs)) (e ∙ cond-true _ _ _ l) ∙ sym p
        | inr l ↦ ap (λ x. unwrap_or x (length xs)) (e ∙ cond-false _ _ _ l) ∙ omega (arith, ltb-false _ _ l, p, at_most_length xs)
      ]

-- `before` goes through a list so
pub before_next : (b c : ℕ) (cs : List ℕ) → before b (c ∷ cs) ≡ cond (eqb c b) 0 (1 + before b cs)
before_next b c cs = ap (cond (eqb c b) 0) (omega arith)

-- behind bytes among which it is not
abbrev pub without : ℕ → List ℕ → Bool
without b [] = true
without b (c ∷ cs) = not (eqb c b) && without b cs

pub without_append : (b : ℕ) (p q : List ℕ) → without b p ≡ true → without b q ≡ true → without b (p ++ q) ≡ true
without_append b [] q h i = i
without_append b (c ∷ p) q h i =
    let d = and_parts (not (eqb c b)) (without b p) h in
    and_from (not (eqb c b)) (without b (p ++ q)) d.0 (without_append b p q d.1 i)

pub before_beyond : (b : ℕ) (p q : List ℕ) → without b p ≡ true → before b (p ++ q) ≡ length p + before b q
before_beyond b [] q h = omega arith
before_beyond b (c ∷ p) q h =
    let d = and_parts (not (eqb c b)) (without b p) h in
    cond-false _ _ _ (not-true _ d.0) ∙ (ap suc (before_beyond b p q d.1) ∙ omega arith)
