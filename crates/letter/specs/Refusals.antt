-- The number of each refusal of this crate in the table of refusals.
use Rattle.std.specs.Prelude.{ℕ}
use Rattle.letter.specs.declared.refusal.LetterRefusal.{LetterRefusal}
use Rattle.letter.specs.declared.refusal.LetterRefusal.TheVariants.{Spoilt}

abbrev pub refusal_number : LetterRefusal → ℕ
refusal_number Spoilt = 13
