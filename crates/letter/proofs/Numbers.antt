-- Numbers in two and four bytes: joining the bytes undoes splitting, and splitting undoes joining.
use Rattle.std.proofs.Common.{◌≡◌, ℕ, ◌+◌, ◌*◌, ◌/◌, ◌%◌, ◌<◌, sym, mod-eq_of_lt, arith}
use native.Mathlib.Nat.{div-div-eq-div-mul}
use Rattle.std.proofs.lemmas.Nat.{div-add-mod'}

pub join_two : (n : ℕ) → n < 65536 → n / 256 % 256 * 256 + n % 256 ≡ n
join_two n h = omega arith

pub join_four :
    (n : ℕ) →
    n < 4294967296 →
    n / 16777216 % 256 * 16777216 + n / 65536 % 256 * 65536 + n / 256 % 256 * 256 + n % 256 ≡ n
join_four n h =
    let q1 : n / 65536 ≡ n / 256 / 256 = sym (div-div-eq-div-mul n 256 256) in
    let q2 : n / 16777216 ≡ n / 65536 / 256 = sym (div-div-eq-div-mul n 65536 256) in
    let top : n / 16777216 < 256 = omega arith in
    let same : n / 16777216 % 256 ≡ n / 16777216 = mod-eq_of_lt top in
    let r1 : n / 256 * 256 + n % 256 ≡ n = div-add-mod' n 256 in
    let r2 : n / 65536 * 256 + n / 256 % 256 ≡ n / 256 = rw q1 (div-add-mod' (n / 256) 256) in
    let r3 : n / 16777216 * 256 + n / 65536 % 256 ≡ n / 65536 = rw q2 (div-add-mod' (n / 65536) 256) in
    omega arith

-- these bytes are those of n
pub record Two (a b n : ℕ) : Type 0 where
  pub at0 : a ≡ n / 256 % 256
  pub at1 : b ≡ n % 256

pub record Four (a b c d n : ℕ) : Type 0 where
  pub at0 : a ≡ n / 16777216 % 256
  pub at1 : b ≡ n / 65536 % 256
  pub at2 : c ≡ n / 256 % 256
  pub at3 : d ≡ n % 256

pub split_two : (a b : ℕ) → a < 256 → b < 256 → Two a b (a * 256 + b)
split_two a b ha hb = omega arith

pub split_four :
    (a b c d : ℕ) →
    a < 256 →
    b < 256 →
    c < 256 →
    d < 256 →
    Four a b c d (a * 16777216 + b * 65536 + c * 256 + d)
split_four a b c d ha hb hc hd = omega arith
