use Rattle.runs.proofs.Turns.{turned}
use Rattle.runs.proofs.turning.turn.Goals as goal

pub returns : goal.returns
returns g c = turned g.O.Transport g.B.Transport g.K.Taker c.args.clock _ c.args.line.now c.parts_of_turn.new.line c.parts_of_turn.ensures
