use Rattle.std.proofs.Common.{◌∙◌}
use Rattle.grammar.specs.Grammar.{grammar}
use Rattle.frame_reader.proofs.Answered.{reads}
use Rattle.frame_reader.proofs.forms.read.Goals as goal

pub returns-clause-exact : goal.returns-clause-exact
returns-clause-exact c = reads c.args.bytes.now c.frame.result (c.frame.ensures ∙ c.new.ensures grammar)
