-- What is read as a number is the decimal text of that number, and the other way round.
use Rattle.std.proofs.Common.{◌≡◌, ℕ, ◌+◌, ◌-◌, ◌*◌, ◌^◌, ◌<◌, ◌≤◌, Bool, true, ◌&&◌, eqb, ltb, List, [], ◌∷◌, Some, decimal, sym, refl, ap, ◌∙◌, arith, rules, ltb-true, lt-ltb, ne_eqb}
use Rattle.std.proofs.lemmas.Fmt.{decimal-digits_value, digits_decimal, digits_value-decimal, first_decimal}
use Rattle.std.proofs.lemmas.Str.Parse.{IsNumeralModel, numerals_by_fold}
use Rattle.std.proofs.lemmas.Bool.{cond-true, and_parts, and_from, not_from_false}
use Rattle.pieces.specs.Numbers.{read_on, plain, digit}
use Rattle.pieces.proofs.Finds.{without}
use Rattle.pieces.proofs.Options.{some_cond}

abbrev all_digits : List ℕ → Bool
all_digits [] = true
all_digits (c ∷ cs) = digit c && all_digits cs

abbrev fold : ℕ → List ℕ → ℕ
fold n [] = n
fold n (c ∷ cs) = fold (n * 10 + (c - 48)) cs

own : IsNumeralModel (λ ds. all_digits ds ≡ true) (fold 0)
own = numerals_by_fold _ (search rules) fold (search rules)

record Read (a n : ℕ) (cs : List ℕ) : Type 0 where
  digits : all_digits cs ≡ true
  value : n ≡ fold a cs
  small : a < 2 ^ 64 → n < 2 ^ 64

read_is : (a n : ℕ) (cs : List ℕ) → read_on a cs ≡ Some n → Read a n cs
read_is a n [] e = let z : a ≡ n = cc in record { digits = refl; value = sym z; small = λ h. omega arith }
read_is a n (c ∷ cs) e =
    let p = some_cond (digit c && ltb (a * 10 + (c - 48)) (2 ^ 64)) (read_on (a * 10 + (c - 48)) cs) n e in
    let q = and_parts (digit c) (ltb (a * 10 + (c - 48)) (2 ^ 64)) p.0 in
    let r = read_is (a * 10 + (c - 48)) n cs p.1 in
    record {
      digits = and_from (digit c) (all_digits cs) q.0 r.digits;
      value = r.value;
      small = λ h. r.small (ltb-true _ _ q.1);
    }

fold_ge : (a : ℕ) (cs : List ℕ) → a ≤ fold a cs
fold_ge a [] = omega arith
fold_ge a (c ∷ cs) = omega (arith, fold_ge (a * 10 + (c - 48)) cs)

is_read : (a : ℕ) (cs : List ℕ) → all_digits cs ≡ true → fold a cs < 2 ^ 64 → read_on a cs ≡ Some (fold a cs)
is_read a [] d h = refl
is_read a (c ∷ cs) d h =
    let q = and_parts (digit c) (all_digits cs) d in
    let l : ltb (a * 10 + (c - 48)) (2 ^ 64) ≡ true = lt-ltb _ _ (omega (arith, fold_ge (a * 10 + (c - 48)) cs)) in
    cond-true _ _ _ (and_from (digit c) (ltb (a * 10 + (c - 48)) (2 ^ 64)) q.0 l) ∙ is_read (a * 10 + (c - 48)) cs q.1 h

pub record Numeral (n : ℕ) (ds : List ℕ) : Type 0 where
  pub spelt : ds ≡ decimal n
  pub low : 1 ≤ n
  pub high : n < 2 ^ 64

pub plain_is : (n : ℕ) (ds : List ℕ) → plain ds ≡ Some n → Numeral n ds
plain_is n [] e = absurd (omega (arith, ltb-true 48 0 (some_cond (ltb 48 0) (Some 0) n e).0))
plain_is n (c ∷ cs) e =
    let p = some_cond (ltb 48 c) (read_on 0 (c ∷ cs)) n e in
    let r = read_is 0 n (c ∷ cs) p.1 in
    let h : 48 < c = ltb-true _ _ p.0 in
    let v = r.value in
    let s = r.small (omega arith) in
    record {
      spelt =
          sym (decimal-digits_value own (c ∷ cs) r.digits (omega arith) (λ z. absurd (omega arith)) (omega arith)) ∙
          ap decimal (sym v);
      low = omega (arith, fold_ge (0 * 10 + (c - 48)) cs);
      high = s;
    }

pub is_plain : (n : ℕ) → 1 ≤ n → n < 2 ^ 64 → plain (decimal n) ≡ Some n
is_plain n l h =
    let v = digits_value-decimal own n h in
    cond-true _ _ _ (lt-ltb _ _ (first_decimal n (omega arith) h)) ∙
    (is_read 0 (decimal n) (digits_decimal own n h) (omega arith) ∙ ap Some v)

-- no digit is another byte
digits_without : (b : ℕ) (ds : List ℕ) → (digit b ≡ true → ⊥) → all_digits ds ≡ true → without b ds ≡ true
digits_without b [] n h = refl
digits_without b (c ∷ cs) n h =
    let d = and_parts (digit c) (all_digits cs) h in
    and_from _ (without b cs) (not_from_false (eqb c b) (ne_eqb c b (λ e. n (ap digit (sym e) ∙ d.0)))) (digits_without b cs n d.1)

pub decimal_without : (b n : ℕ) → (digit b ≡ true → ⊥) → n < 2 ^ 64 → without b (decimal n) ≡ true
decimal_without b n h l = digits_without b (decimal n) h (digits_decimal own n l)
