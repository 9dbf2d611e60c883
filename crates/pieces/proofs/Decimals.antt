-- The steps of the loop that reads a number.
use Rattle.std.proofs.Common.{◌≡◌, ℕ, ◌+◌, ◌-◌, ◌*◌, ◌^◌, ◌<◌, Bool, true, false, cond, ◌&&◌, ltb, List, length, get_or, drop, None, Some, Option, refl, sym, ap, ◌∙◌, lt-ltb}
use Rattle.std.proofs.lemmas.List.{at_drop_more}
use Rattle.std.proofs.lemmas.Bool.{cond-true}
use Rattle.pieces.specs.Numbers.{digit, more, read_on, plain}
use Rattle.pieces.proofs.Options.{none_some}

none_by : (t : Bool) (x : ℕ) (o : Option ℕ) → cond t (Some x) None ≡ None → cond t o None ≡ None
none_by true x o e = absurd (none_some x (sym e))
none_by false x o e = refl

some_by : (t : Bool) (x m : ℕ) (f : ℕ → Option ℕ) → cond t (Some x) None ≡ Some m → cond t (f x) None ≡ f m
some_by true x m f e = let z : x ≡ m = cc in ap f z
some_by false x m f e = absurd (none_some m e)

abbrev fits : ℕ → ℕ → Bool
fits n c = digit c && ltb (n * 10 + (c - 48)) (2 ^ 64)

-- what a digit makes of the number decides how the reading goes on
module _ (n : ℕ) (ds : List ℕ) (i : ℕ) (l : i < length ds) where
  pub read_none : more n (get_or ds i 0) ≡ None → read_on n (drop i ds) ≡ None
  read_none e = at_drop_more (read_on n) ds i 0 l ∙ none_by (fits n (get_or ds i 0)) _ (read_on (n * 10 + (get_or ds i 0 - 48)) (drop (i + 1) ds)) e

  pub read_some : (m : ℕ) → more n (get_or ds i 0) ≡ Some m → read_on n (drop i ds) ≡ read_on m (drop (i + 1) ds)
  read_some m e = at_drop_more (read_on n) ds i 0 l ∙ some_by (fits n (get_or ds i 0)) (n * 10 + (get_or ds i 0 - 48)) m (λ x. read_on x (drop (i + 1) ds)) e

pub plain_starts : (ds : List ℕ) → 48 < get_or ds 0 0 → plain ds ≡ read_on 0 ds
plain_starts ds h = cond-true _ _ _ (lt-ltb _ _ h)
