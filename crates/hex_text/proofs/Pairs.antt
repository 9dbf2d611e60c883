-- One pair of digits read makes one byte more, and the rest is left to read.
use Rattle.std.proofs.Common.{◌≡◌, ℕ, ◌-◌, ◌≤◌, List, [], ◌∷◌, ◌++◌, length, get_or, take, drop, Some, sym, ap, ◌∙◌, arith}
use Rattle.std.proofs.lemmas.List.{take_all}
use Rattle.hex_text.specs.Hex.{byte_of, one_more, pairs_after}

pub pair_read :
    (front front' rest : List ℕ) (byte : ℕ) →
    2 ≤ length rest →
    byte_of (get_or rest 0 0) (get_or rest 1 0) ≡ Some byte →
    front' ≡ front ++ byte ∷ [] →
    pairs_after front' (take (length rest - 2) (drop 2 rest)) ≡ pairs_after front rest
pair_read front front' [] byte long is e = absurd (let z : ⊥ = omega arith in z)
pair_read front front' (high ∷ []) byte long is e = absurd (let z : ⊥ = omega arith in z)
pair_read front front' (high ∷ low ∷ rest) byte long is e =
    ap (λ tail. pairs_after front' tail) (take_all _ rest (omega arith)) ∙
    ap (λ more. pairs_after more rest) e ∙
    sym (ap (λ o. one_more front o (λ more. pairs_after more rest)) is)
