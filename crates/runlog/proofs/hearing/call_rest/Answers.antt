-- A call with tray and desk prepared leaves them so; an event is one of those that were left to tell (Turns.antt).
use Rattle.runlog.proofs.Turns.{is-called}
use borrow.Author.Rules.{rules}
use Rattle.runlog.proofs.hearing.call_rest.Goals as goal

pub returns : goal.returns
returns c = search (is-called, rules)
