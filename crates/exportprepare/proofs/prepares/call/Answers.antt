-- Tray and desk are those that the numbers say.
use Rattle.exportprepare.proofs.Prepared.{called}
use borrow.Author.Rules.{rules}
use Rattle.exportprepare.proofs.prepares.call.Goals as goal

pub returns : goal.returns
returns c = search (called, rules)
