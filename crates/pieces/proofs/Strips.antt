-- What is left behind a beginning.
use Rattle.std.proofs.Common.{◌≡◌, ℕ, ◌<◌, true, false, List, ◌++◌, length, take, drop, Some, None, sym, refl, ap, ◌∙◌, inl, inr, arith, length-take}
use Rattle.std.specs.Str.{bytes_eq}
use Rattle.std.proofs.lemmas.Slice.Eq.{bytes_eq-Decides}
use Rattle.std.proofs.lemmas.List.{append_cancel_left, take_at, drop_at, take-append-drop}
use Rattle.std.proofs.lemmas.Bool.{both_ways, cond-true, cond-false, cases_Bool}
use Rattle.pieces.specs.Strips.{strip_of}
use Rattle.pieces.proofs.Options.{none_some, some_cond}

pub not_same : (xs ys : List ℕ) → (xs ≡ ys → ⊥) → bytes_eq xs ys ≡ false
not_same xs ys h =
    elim (cases_Bool (bytes_eq xs ys)) [ inl e ↦ absurd (h ((bytes_eq-Decides xs ys).0 e)) | inr e ↦ e ]

module _ (beginning p : List ℕ) where
  pub strip_same : bytes_eq (take (length beginning) p) beginning ≡ true → strip_of beginning p ≡ Some (drop (length beginning) p)
  unfolding strip_of
  strip_same e = cond-true _ _ _ e

  pub strip_other : bytes_eq (take (length beginning) p) beginning ≡ false → strip_of beginning p ≡ None
  unfolding strip_of
  strip_other e = cond-false _ _ _ e

  pub strip_short : length p < length beginning → strip_of beginning p ≡ None
  strip_short l =
      strip_other (not_same (take (length beginning) p) beginning (λ e. omega (arith, ap length e, length-take (length beginning) p)))

  -- a beginning was stripped off exactly if it was there
  pub strip_is : (q : List ℕ) → strip_of beginning p ≡ Some q → p ≡ beginning ++ q
  unfolding strip_of
  strip_is q e =
      let s = some_cond (bytes_eq (take (length beginning) p) beginning) (Some (drop (length beginning) p)) q e in
      let z : drop (length beginning) p ≡ q = let f = s.1 in cc in
      sym (take-append-drop (length beginning) p) ∙
      (ap (λ x. x ++ drop (length beginning) p) ((bytes_eq-Decides (take (length beginning) p) beginning).0 s.0) ∙
      ap (λ x. beginning ++ x) z)

pub is_strip : (beginning q : List ℕ) → strip_of beginning (beginning ++ q) ≡ Some q
is_strip beginning q =
    strip_same beginning (beginning ++ q)
    ((bytes_eq-Decides (take (length beginning) (beginning ++ q)) beginning).1 (take_at beginning q (length beginning) refl)) ∙
    ap Some (drop_at beginning q (length beginning) refl)

-- comparing behind a beginning
pub same_behind : (beginning p q : List ℕ) → p ≡ beginning ++ q → (r : List ℕ) → bytes_eq p (beginning ++ r) ≡ bytes_eq q r
same_behind beginning p q e r =
    elim (cases_Bool (bytes_eq q r)) [
      | inl s ↦ (bytes_eq-Decides p (beginning ++ r)).1 (e ∙ ap (λ x. beginning ++ x) ((bytes_eq-Decides q r).0 s)) ∙ sym s
      | inr s ↦
          not_same p (beginning ++ r) (λ z.
          both_ways (bytes_eq q r) s ((bytes_eq-Decides q r).1 (append_cancel_left beginning q r (sym e ∙ z)))) ∙ sym s
    ]

pub none_behind : (beginning p : List ℕ) → strip_of beginning p ≡ None → (r : List ℕ) → bytes_eq p (beginning ++ r) ≡ false
none_behind beginning p e r =
    not_same p (beginning ++ r) (λ z. none_some r (sym e ∙ (ap (strip_of beginning) z ∙ is_strip beginning r)))
