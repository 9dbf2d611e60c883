use Rattle.std.proofs.Common.{rules}
use Rattle.taker.proofs.Entries.{shows_entries}
use Rattle.taker.proofs.journal.Journal.new.Goals as goal

pub returns-in_err-numbers : goal.returns-in_err-numbers
returns-in_err-numbers c = record { page = search rules; runs = shows_entries }

pub returns : goal.returns
returns c = record { page = search rules; runs = shows_entries }
