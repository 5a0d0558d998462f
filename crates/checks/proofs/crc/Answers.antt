-- The words leave the register of the definition (Turns.antt).
use Rattle.std.proofs.Common.{rules}
use Rattle.checks.proofs.Turns.{crc-all}
use Rattle.checks.proofs.crc.Goals as goal

pub returns : goal.returns
returns g c = let p = g.met.P.Polynomial in search (crc-all p.rule _ _ p.starts, rules)
