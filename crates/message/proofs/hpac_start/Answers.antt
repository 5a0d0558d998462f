-- Each arm of the match gives what the definition has for its case.
use Rattle.message.specs.Machine.{hpac_start, start-arm}
use borrow.Author.Rules.{rules}
use Rattle.message.proofs.hpac_start.Goals as goal

pub returns-in-Some : goal.returns-in-Some
returns-in-Some c = search (start-arm hpac_start, rules)

pub returns-in-None : goal.returns-in-None
returns-in-None c = search (start-arm hpac_start, rules)
