-- Tray and desk are those that the numbers say.
use Rattle.exportprepare.proofs.Prepared.{finished}
use borrow.Author.Rules.{rules}
use Rattle.exportprepare.proofs.prepares.finish.Goals as goal

pub returns : goal.returns
returns c = search (finished, rules)
