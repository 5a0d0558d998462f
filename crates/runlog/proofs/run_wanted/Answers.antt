-- The desk is one that was made, and it runs.
use Rattle.runlog.proofs.Turns.{is-new}
use Rattle.runlog.proofs.Reading.{does-run, does-usage}
use borrow.Author.Rules.{rules}
use Rattle.runlog.proofs.run_wanted.Goals as goal

pub run_desk-requires : goal.run_desk-requires
run_desk-requires c = search (is-new, rules)

pub returns-in-Some : goal.returns-in-Some
returns-in-Some c = search (does-run, rules)

pub returns-in-None : goal.returns-in-None
returns-in-None c = search (does-usage, rules)
