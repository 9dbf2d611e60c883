use Rattle.std.proofs.Common.{rules, tests}
use Rattle.planner.proofs.Finds.{Finds, first_is}
use Rattle.planner.proofs.planner.Planner.first_due.Goals as goal

pub returns-clause-value : goal.returns-clause-value
returns-clause-value c =
    let p = c.args.self.now in
    let finds : Finds p.gap p.credit c.args.clock p.lowest p.slots c.find_map.result = search (rules, tests) in
    first_is p.gap p.credit c.args.clock p.lowest p.slots c.find_map.result finds
