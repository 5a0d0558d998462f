-- The test is that of `orbit_behind`.
use Rattle.quick.specs.Ocb.{orbit-in, orbit-out}
use borrow.Author.Rules.{rules}
use Rattle.quick.proofs.for_ocb.orbit_behind.Goals as goal

pub returns-then-three_fit : goal.returns-then-three_fit
returns-then-three_fit c = search (orbit-in, rules)

pub returns : goal.returns
returns c = search (orbit-out, rules)
