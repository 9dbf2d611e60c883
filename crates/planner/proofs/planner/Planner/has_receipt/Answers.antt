use Rattle.planner.proofs.Laws.{receipts_stay}
use Rattle.planner.proofs.planner.Planner.has_receipt.Goals as goal

pub returns-clause-stays : goal.returns-clause-stays
returns-clause-stays c = receipts_stay
