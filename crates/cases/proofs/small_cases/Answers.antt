use Rattle.cases.proofs.Cases.{small_cases}
use Rattle.cases.proofs.small_cases.Goals as goal

pub returns : goal.returns
returns c = small_cases
