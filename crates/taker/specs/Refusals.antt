-- The number of each refusal of this crate in the table of refusals.
use Rattle.std.specs.Prelude.{ℕ}
use Rattle.taker.specs.declared.refusal.TakerRefusal.{TakerRefusal}
use Rattle.taker.specs.declared.refusal.TakerRefusal.TheVariants.{NoPage}

abbrev pub refusal_number : TakerRefusal → ℕ
refusal_number NoPage = 5
