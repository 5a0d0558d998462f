-- Up to 65,535.
use borrow.Author.Rules.{rules}
use Rattle.export.proofs.Laws.{most-is}
use Rattle.export.proofs.streams.noise_in.Goals as goal

pub returns : goal.returns
returns c = search (most-is, rules)
