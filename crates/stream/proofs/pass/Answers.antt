-- Bytes that are no preamble are noise, one by one, where no byte is live (Along.antt).
use borrow.Author.Rules.{rules}
use Rattle.stream.proofs.Along.{pass-along}
use Rattle.stream.proofs.pass.Goals as goal

pub returns : goal.returns
returns c = search (pass-along, rules)
