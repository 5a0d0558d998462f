-- The test is that of `orbit_if`.
use Rattle.quick.specs.Ocb.{orbit-none, orbit-some}
use borrow.Author.Rules.{rules}
use Rattle.quick.proofs.for_ocb.orbit_if.Goals as goal

pub returns-then-present-eq1 : goal.returns-then-present-eq1
returns-then-present-eq1 c = search (orbit-some, rules)

pub returns : goal.returns
returns c = search (orbit-none, rules)
