-- Decoding and encoding undo each other: the bytes decode to a change exactly where they are that change's own.
use Rattle.std.proofs.Common.{◌≡◌, ℕ, ◌+◌, ◌<◌, Bool, true, false, cond, List, [], ◌∷◌, map, length, get_or, Some, None, sym, refl, ap, ◌∙◌, arith}
use Rattle.std.specs.List.{range_with_len}
use Rattle.std.proofs.lemmas.List.FromFn.{fill_by_all}
use Rattle.std.proofs.lemmas.Bool.{and_parts, eqb-true, cond-true}
use Rattle.std.proofs.lemmas.Bool.Decides.{nat_tests}
use Rattle.letter.specs.declared.change.Path.{Path}
use Rattle.letter.specs.declared.change.Change.{Change}
use Rattle.letter.specs.declared.change.Change.TheVariants.{Put, Withdrawal}
use Rattle.letter.specs.Changes.{decoded, encoded, in_range, if_in_range, is_kind, pair_in_range, path_at, put_at, withdrawal_at, two_at, four_at, Decodes}
use Rattle.letter.proofs.Numbers.{join_two, join_four, Two, Four, split_two, split_four}

-- a change in range is what its own bytes say

same_put : (p : Path) → in_range (Put p) ≡ true → path_at (encoded (Put p)) ≡ p
same_put p good =
    let train : p.train < 4294967296 = grind (arith, nat_tests) in
    let section : p.section < 65536 = grind (arith, nat_tests) in
    let enter : p.enter < 4294967296 = grind (arith, nat_tests) in
    let leave : p.leave < 4294967296 = grind (arith, nat_tests) in
    λ i. record {
      train = join_four p.train train i;
      section = join_two p.section section i;
      enter = join_four p.enter enter i;
      leave = join_four p.leave leave i;
    }

same_withdrawal : (t s : ℕ) → pair_in_range t s ≡ true → withdrawal_at (encoded (Withdrawal t s)) ≡ Withdrawal t s
same_withdrawal t s good =
    let train : t < 4294967296 = grind (arith, nat_tests) in
    let section : s < 65536 = grind (arith, nat_tests) in
    λ i. Withdrawal (join_four t train i) (join_two s section i)

kept : (c d : Change) → d ≡ c → in_range c ≡ true → if_in_range d ≡ Some c
kept c d e good = ap if_in_range e ∙ cond-true (in_range c) (Some c) None good

-- what is encoded decodes to what it was
pub decoded_encoded : (c : Change) → in_range c ≡ true → decoded (encoded c) ≡ Some c
decoded_encoded (Put p) good = kept (Put p) _ (ap Put (same_put p good)) good
decoded_encoded (Withdrawal t s) good = kept (Withdrawal t s) _ (same_withdrawal t s good) good

-- bytes of a kind and its length are the encoding of what they say

module _ (bytes : List ℕ) (small : (k : ℕ) → get_or bytes k 0 < 256) where
  places : (n : ℕ) → length bytes ≡ n → bytes ≡ map (λ k. get_or bytes k 0) (range_with_len 0 n)
  places n e = fill_by_all (λ k. get_or bytes k 0) bytes n 0 e (λ k h. refl)

  four_of : (k : ℕ) → Four (get_or bytes k 0) (get_or bytes (k + 1) 0) (get_or bytes (k + 2) 0) (get_or bytes (k + 3) 0) (four_at bytes k)
  four_of k = split_four _ _ _ _ (small k) (small (k + 1)) (small (k + 2)) (small (k + 3))

  two_of : (k : ℕ) → Two (get_or bytes k 0) (get_or bytes (k + 1) 0) (two_at bytes k)
  two_of k = split_two _ _ (small k) (small (k + 1))

  as_put : is_kind 1 15 bytes ≡ true → bytes ≡ encoded (put_at bytes)
  as_put is =
      let both = and_parts _ _ is in
      let t = four_of 1 in
      let s = two_of 5 in
      let e = four_of 7 in
      let l = four_of 11 in
      places 15 (eqb-true _ _ both.0) ∙
      (λ i. eqb-true _ _ both.1 i ∷
      t.at0 i ∷ t.at1 i ∷ t.at2 i ∷ t.at3 i ∷ s.at0 i ∷ s.at1 i ∷
      e.at0 i ∷ e.at1 i ∷ e.at2 i ∷ e.at3 i ∷ l.at0 i ∷ l.at1 i ∷ l.at2 i ∷ l.at3 i ∷ [])

  as_withdrawal : is_kind 2 7 bytes ≡ true → bytes ≡ encoded (withdrawal_at bytes)
  as_withdrawal is =
      let both = and_parts _ _ is in
      let t = four_of 1 in
      let s = two_of 5 in
      places 7 (eqb-true _ _ both.0) ∙
      (λ i. eqb-true _ _ both.1 i ∷ t.at0 i ∷ t.at1 i ∷ t.at2 i ∷ t.at3 i ∷ s.at0 i ∷ s.at1 i ∷ [])

-- an answer that is some change: which it is, and that it is in range
answered : (t : Bool) (d c : Change) → cond t (Some d) None ≡ Some c → (t ≡ true) × (d ≡ c)
answered true d c e = (refl, cc)
answered false d c e = absurd (let z : ◌≡◌ {A = ℕ} 0 1 = cc in omega arith)

own : (bytes : List ℕ) (c d : Change) → bytes ≡ encoded d → if_in_range d ≡ Some c → (bytes ≡ encoded c) × (in_range c ≡ true)
own bytes c d e is =
    let both = answered (in_range d) d c is in
    (e ∙ ap encoded both.1, ap in_range (sym both.1) ∙ both.0)

by_kind :
    (a b : Bool) (bytes : List ℕ) (put withdrawal c : Change) →
    (a ≡ true → bytes ≡ encoded put) →
    (b ≡ true → bytes ≡ encoded withdrawal) →
    cond a (if_in_range put) (cond b (if_in_range withdrawal) None) ≡ Some c →
    (bytes ≡ encoded c) × (in_range c ≡ true)
by_kind true b bytes put withdrawal c p w e = own bytes c put (p refl) e
by_kind false true bytes put withdrawal c p w e = own bytes c withdrawal (w refl) e
by_kind false false bytes put withdrawal c p w e = absurd (let z : ◌≡◌ {A = ℕ} 0 1 = cc in omega arith)

pub decodes : (bytes : List ℕ) → ((k : ℕ) → get_or bytes k 0 < 256) → Decodes bytes (decoded bytes)
decodes bytes small =
    record {
      only = λ c e.
          by_kind (is_kind 1 15 bytes) (is_kind 2 7 bytes) bytes (put_at bytes) (withdrawal_at bytes) c
          (as_put bytes small) (as_withdrawal bytes small) e;
      each = λ c good e. ap decoded e ∙ decoded_encoded c good;
    }
