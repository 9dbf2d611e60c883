-- Letters by number: what one letter more leaves of the others.
use Rattle.std.proofs.Common.{◌≡◌, ℕ, zero, suc, ◌≤◌, ◌⊎◌, List, [], ◌∷◌, ◌++◌, length, Some, None, Option, refl, inl, inr, arith}
use Rattle.protocol.specs.Tallies.{Letter, letter_at}

-- nothing is something
pub nowhere : {A X : Type 0} (x : X) → ◌≡◌ {A = Option X} None (Some x) → A
nowhere x e = let z : ◌≡◌ {A = ℕ} 0 1 = cc in absurd (omega arith)

pub at_grows :
    (ls : List Letter) (x : Letter) (n : ℕ) (l : Letter) → letter_at ls n ≡ Some l →
    letter_at (ls ++ (x ∷ [])) n ≡ Some l
at_grows [] x n l h = nowhere l h
at_grows (y ∷ ys) x zero l h = nowhere l h
at_grows (y ∷ ys) x (suc zero) l h = h
at_grows (y ∷ ys) x (suc (suc n)) l h = at_grows ys x (suc n) l h

pub at_last : (ls : List Letter) (x : Letter) → letter_at (ls ++ (x ∷ [])) (suc (length ls)) ≡ Some x
at_last [] x = refl
at_last (y ∷ ys) x = at_last ys x

pub at_within : (ls : List Letter) (n : ℕ) (l : Letter) → letter_at ls n ≡ Some l → (1 ≤ n) × (n ≤ length ls)
at_within [] n l h = nowhere l h
at_within (y ∷ ys) zero l h = nowhere l h
at_within (y ∷ ys) (suc zero) l h = omega arith
at_within (y ∷ ys) (suc (suc n)) l h = let r = at_within ys (suc n) l h in omega arith

pub at_split :
    (ls : List Letter) (x : Letter) (n : ℕ) (l : Letter) → letter_at (ls ++ (x ∷ [])) n ≡ Some l →
    (letter_at ls n ≡ Some l) ⊎ (x ≡ l)
at_split [] x zero l h = nowhere l h
at_split [] x (suc zero) l h = inr (cc)
at_split [] x (suc (suc n)) l h = nowhere l h
at_split (y ∷ ys) x zero l h = nowhere l h
at_split (y ∷ ys) x (suc zero) l h = inl h
at_split (y ∷ ys) x (suc (suc n)) l h = at_split ys x (suc n) l h
