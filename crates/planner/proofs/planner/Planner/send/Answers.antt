use Rattle.planner.proofs.Dues.{sends_lowest_due}
use Rattle.planner.proofs.planner.Planner.send.Goals as goal

pub returns-in-Created-clause-due : goal.returns-in-Created-clause-due
returns-in-Created-clause-due c = sends_lowest_due

pub returns-in_default-clause-due : goal.returns-in_default-clause-due
returns-in_default-clause-due c = sends_lowest_due
