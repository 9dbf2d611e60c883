-- What a reading that gave something says.
use Rattle.std.proofs.Common.{◌≡◌, ℕ, Bool, true, false, cond, ◌⊎◌, Some, None, Option, refl, ap, inl, inr, arith}
use Rattle.pieces.specs.Strips.{then}

pub none_some : {A : Type 0} (x : A) → ◌≡◌ {A = Option A} None (Some x) → ⊥
none_some x e = let z : ◌≡◌ {A = ℕ} 0 1 = cc in omega arith

pub cases_option : {A : Type 0} (o : Option A) → (o ≡ None) ⊎ ((a : A) × (o ≡ Some a))
cases_option None = inl refl
cases_option (Some a) = inr (a, refl)

pub some_cond : {A : Type 0} (b : Bool) (o : Option A) (a : A) → cond b o None ≡ Some a → (b ≡ true) × (o ≡ Some a)
some_cond true o a e = (refl, e)
some_cond false o a e = absurd (none_some a e)

pub then_some : {A B : Type 0} (f : A → Option B) (o : Option A) (a : A) → o ≡ Some a → then o f ≡ f a
then_some f o a e = ap (λ x. then x f) e

pub then_none : {A B : Type 0} (f : A → Option B) (o : Option A) → o ≡ None → then o f ≡ None
then_none f o e = ap (λ x. then x f) e

pub then_is : {A B : Type 0} (f : A → Option B) (o : Option A) (b : B) → then o f ≡ Some b
    → (a : A) × (o ≡ Some a) × (f a ≡ Some b)
then_is f None b e = absurd (none_some b e)
then_is f (Some a) b e = (a, refl, e)
