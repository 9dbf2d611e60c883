-- A binary search among ascending paths ends at the spot of a train and section.
use Rattle.std.proofs.Common.{Less, Equal, Greater, ◌≡◌, ℕ, zero, suc, ◌<◌, ◌≤◌, true, false, List, [], ◌∷◌, length, get_or, Ok, Err, Result, sym, refl, ap, ◌∙◌, inl, inr, arith, eq-or-lt_of_le, le_of_eq}
use Rattle.std.specs.List.Sorted.{IsSearchInRange, IsBinarySearchResult, IsNonDecreasingBy}
use Rattle.std.specs.Ordering.{ordering_index}
use Rattle.std.proofs.lemmas.Bool.{and_parts, cond-true, cond-false}
use Rattle.std.proofs.lemmas.Bool.Decides.{nat_tests}
use Rattle.std.proofs.lemmas.List.Sorted.{IsNonDecreasingBy-from_default}
use Rattle.letter.specs.declared.change.Path.{Path}
use Rattle.taker.specs.Paths.{earlier, same, all_after, ascending}
use Rattle.taker.specs.Spots.{compared, next, spot_of}
use Rattle.taker.proofs.Lookups.{at_not_before}

less_earlier : (t s : ℕ) (p : Path) → compared t s p ≡ Less → earlier t s p ≡ true
less_earlier t s p e = grind (arith, nat_tests)

equal_same : (t s : ℕ) (p : Path) → compared t s p ≡ Equal → same t s p ≡ true
equal_same t s p e = grind (arith, nat_tests)

greater_neither : (t s : ℕ) (p : Path) → compared t s p ≡ Greater → (earlier t s p ≡ false) × (same t s p ≡ false)
greater_neither t s p e = (grind (arith, nat_tests), grind (arith, nat_tests))

-- a path before one of this train and section
same_key : (t s : ℕ) (p q : Path) → same t s q ≡ true → earlier q.train q.section p ≡ true → earlier t s p ≡ true
same_key t s p q e f = grind (arith, nat_tests)

no_path : Path
no_path = record { train = 0; section = 0; enter = 0; leave = 0 }

-- a path before another one compares no higher
rise : (t s : ℕ) (p q : Path) → earlier q.train q.section p ≡ true → ordering_index (compared t s p) ≤ ordering_index (compared t s q)
rise t s p q e = grind (arith, nat_tests)

-- the paths of an ascending list, by their places

all_after_at : (p : Path) (ps : List Path) (i : ℕ) (d : Path) → all_after p ps ≡ true → i < length ps
    → earlier (get_or ps i d).train (get_or ps i d).section p ≡ true
all_after_at p [] i d a l = absurd (omega arith)
all_after_at p (q ∷ qs) zero d a l = (and_parts _ _ a).0
all_after_at p (q ∷ qs) (suc i) d a l = all_after_at p qs i d (and_parts _ _ a).1 (omega arith)

ascending_at : (ps : List Path) (i j : ℕ) (d : Path) → ascending ps ≡ true → i < j → j < length ps
    → earlier (get_or ps j d).train (get_or ps j d).section (get_or ps i d) ≡ true
ascending_at [] i j d a l m = absurd (omega arith)
ascending_at (p ∷ ps) i zero d a l m = absurd (omega arith)
ascending_at (p ∷ ps) zero (suc j) d a l m = all_after_at p ps j d (and_parts _ _ a).0 (omega arith)
ascending_at (p ∷ ps) (suc i) (suc j) d a l m = ascending_at ps i j d (and_parts _ _ a).1 (omega arith) (omega arith)

-- a path that stands at place i is the spot
spot_held : (t s : ℕ) (ps : List Path) (i : ℕ) (d : Path) → ascending ps ≡ true → i < length ps
    → same t s (get_or ps i d) ≡ true → Ok i ≡ spot_of t s ps
spot_held t s [] i d a l e = absurd (omega arith)
spot_held t s (p ∷ ps) zero d a l e = sym (cond-false _ _ _ (at_not_before t s p e) ∙ cond-true _ _ _ e)
spot_held t s (p ∷ ps) (suc i) d a l e =
    let q = get_or ps i d in
    let before : earlier t s p ≡ true = same_key t s p q e (all_after_at p ps i d (and_parts _ _ a).0 (omega arith)) in
    ap next (spot_held t s ps i d (and_parts _ _ a).1 (omega arith) e) ∙ sym (cond-true _ _ _ before)

-- a place with all paths before it earlier and none from there on earlier or the same is the spot
spot_free : (t s : ℕ) (ps : List Path) (i : ℕ) (d : Path) → i ≤ length ps
    → ((k : ℕ) → k < i → earlier t s (get_or ps k d) ≡ true)
    → ((k : ℕ) → i ≤ k → k < length ps → (earlier t s (get_or ps k d) ≡ false) × (same t s (get_or ps k d) ≡ false))
    → Err i ≡ spot_of t s ps
spot_free t s [] zero d l f g = refl
spot_free t s [] (suc i) d l f g = absurd (omega arith)
spot_free t s (p ∷ ps) zero d l f g =
    let h = g 0 (omega arith) (omega arith) in sym (cond-false _ _ _ h.0 ∙ cond-false _ _ _ h.1)
spot_free t s (p ∷ ps) (suc i) d l f g =
    ap next (spot_free t s ps i d (omega arith) (λ k m. f (suc k) (omega arith)) (λ k m n. g (suc k) (omega arith) (omega arith))) ∙
    sym (cond-true _ _ _ (f 0 (omega arith)))

-- what a binary search among the paths answers
module _ (t s : ℕ) (ps : List Path) (a : ascending ps ≡ true) where
  rises : IsNonDecreasingBy (λ p. ordering_index (compared t s p)) ps
  rises = IsNonDecreasingBy-from_default (λ p. ordering_index (compared t s p)) ps no_path (λ i j le in_range.
      elim (eq-or-lt_of_le le) [
        | inl e ↦ le_of_eq (ap (λ k. ordering_index (compared t s (get_or ps k no_path))) e)
        | inr l ↦ rise t s (get_or ps i no_path) (get_or ps j no_path) (ascending_at ps i j no_path a l in_range)
      ])

  pub searched : (r : Result ℕ ℕ) → IsSearchInRange r (length ps) → IsBinarySearchResult (compared t s) ps r → r ≡ spot_of t s ps
  searched (Ok i) in_range equal = spot_held t s ps i no_path a in_range (equal_same t s (get_or ps i no_path) (equal no_path))
  searched (Err i) in_range parted =
      spot_free t s ps i no_path in_range
      (λ k l. less_earlier t s (get_or ps k no_path) ((parted rises).0 k no_path (omega arith) l))
      (λ k l m. greater_neither t s (get_or ps k no_path) ((parted rises).1 k no_path l m))
