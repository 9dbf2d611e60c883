-- One pair of digits read makes one byte more, and the rest is left to read.
use Rattle.std.specs.Bool.{then_some}
use Rattle.std.specs.Option.{option_map}
use Rattle.std.proofs.Common.{◌<◌, ◌==◌, refl, ◌≡◌, ℕ, ◌-◌, ◌≤◌, ◌&&◌, List, [], ◌∷◌, ◌++◌, length, get_or, take, drop, Some, None, inl, inr, sym, ap, ◌∙◌, arith}
use Rattle.std.proofs.lemmas.Bool.{cases_Bool, cond-true, cond-false}
use Rattle.std.proofs.lemmas.List.{take_all}
use Rattle.pieces.specs.Hex.{is_hex, byte_of, read_pairs}
use Rattle.pieces.proofs.Options.{none_some, some_cond}

pub pair_bad : (front rest : List ℕ) → 2 ≤ length rest → byte_of (get_or rest 0 0) (get_or rest 1 0) ≡ None → read_pairs front rest ≡ None
unfolding read_pairs
pair_bad front [] long is = absurd (let z : ⊥ = omega arith in z)
pair_bad front (high ∷ []) long is = absurd (let z : ⊥ = omega arith in z)
pair_bad front (high ∷ low ∷ rest) long is =
    elim (cases_Bool (is_hex high && is_hex low)) [
      | inl e ↦ absurd (none_some _ (sym is ∙ cond-true _ _ _ e))
      | inr e ↦ cond-false _ _ _ e
    ]

pub pair_more :
    (front front' rest : List ℕ) (byte : ℕ) →
    2 ≤ length rest →
    byte_of (get_or rest 0 0) (get_or rest 1 0) ≡ Some byte →
    front' ≡ front ++ byte ∷ [] →
    read_pairs front rest ≡ read_pairs front' (take (length rest - 2) (drop 2 rest))
unfolding read_pairs
pair_more front front' [] byte long is e = absurd (let z : ⊥ = omega arith in z)
pair_more front front' (high ∷ []) byte long is e = absurd (let z : ⊥ = omega arith in z)
pair_more front front' (high ∷ low ∷ rest) byte long is e =
    let s = some_cond (is_hex high && is_hex low) _ byte is in
    cond-true _ _ _ s.0 ∙
    (ap (λ more. read_pairs more rest) (ap (λ b. front ++ b ∷ []) (let f = s.1 in cc) ∙ sym e) ∙
    ap (read_pairs front') (sym (take_all _ rest (omega arith))))

-- what is left when no pair is left is nothing or half a pair
pub pair_end : {A : Type 0} (items : A → List ℕ) (a : A) (rest : List ℕ) → length rest < 2
    → option_map items (then_some (length rest == 0) a) ≡ read_pairs (items a) rest
unfolding read_pairs
pair_end items a [] less = refl
pair_end items a (half ∷ []) less = refl
pair_end items a (high ∷ low ∷ rest) less = absurd (let z : ⊥ = omega arith in z)
