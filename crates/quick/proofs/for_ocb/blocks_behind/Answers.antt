-- The tests are those of `blocks_behind`, in its order.
use Rattle.quick.specs.Ocb.{blocks-first, blocks-second, blocks-third}
use borrow.Author.Rules.{rules}
use Rattle.quick.proofs.for_ocb.blocks_behind.Goals as goal

pub returns-then-orbit-eq0 : goal.returns-then-orbit-eq0
returns-then-orbit-eq0 c = search (blocks-first, rules)

pub returns-then-clock-eq0 : goal.returns-then-clock-eq0
returns-then-clock-eq0 c = search (blocks-second, rules)

pub returns : goal.returns
returns c = search (blocks-third, rules)
