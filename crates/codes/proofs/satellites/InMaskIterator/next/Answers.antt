-- A mask with a bit set has the satellite of its first one, and then those of the others.
use Rattle.std.proofs.Common.{rules}
use Rattle.codes.specs.Listing.{none-come, one-comes, fewer-come}
use Rattle.codes.proofs.satellites.InMaskIterator.next.Goals as goal

pub returns-then-self-eq0-clause-steps : goal.returns-then-self-eq0-clause-steps
returns-then-self-eq0-clause-steps c = search (none-come, rules)

pub returns-clause-steps : goal.returns-clause-steps
returns-clause-steps c = search (one-comes, rules)

pub returns-clause-goes : goal.returns-clause-goes
returns-clause-goes c = search (fewer-come, rules)
