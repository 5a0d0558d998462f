-- With n not 0 the state counts one less.
use Rattle.hpac.specs.Machine.{slants-none, slants-more}
use borrow.Author.Rules.{rules}
use Rattle.hpac.proofs.slants_from.Goals as goal

pub returns-then-n-eq0 : goal.returns-then-n-eq0
returns-then-n-eq0 c = search (slants-none, rules)

pub returns : goal.returns
returns c = search (slants-more, rules)
