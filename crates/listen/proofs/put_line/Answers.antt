-- With room for it a line that is put in parts is put whole.
use Rattle.listen.proofs.Lines.{line-count, line-out, line-counts}
use borrow.Author.Rules.{rules}
use Rattle.listen.proofs.put_line.Goals as goal

pub returns : goal.returns
returns c = search (line-count, line-out, line-counts, rules)
