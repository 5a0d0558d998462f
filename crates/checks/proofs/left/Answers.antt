-- The upper half leaves a register, which is added at the top of the lower half (Turns.antt).
use Rattle.std.proofs.Common.{rules}
use Rattle.checks.proofs.Turns.{ends}
use Rattle.checks.proofs.left.Goals as goal

pub returns : goal.returns
returns g c = let p = g.met.P.Polynomial in search (ends p.rule p.narrow, rules)
