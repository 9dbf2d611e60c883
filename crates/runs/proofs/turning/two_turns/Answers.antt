use Rattle.runs.proofs.Turns.{twice}
use Rattle.runs.proofs.turning.two_turns.Goals as goal

pub returns : goal.returns
returns g c =
    twice g.O.Transport g.B.Transport g.K.Taker c.args.clock c.turn-first.result c.turn-second.result
    c.args.line.now c.turn-first.new.line c.turn-second.new.line c.turn-first.ensures c.turn-second.ensures
