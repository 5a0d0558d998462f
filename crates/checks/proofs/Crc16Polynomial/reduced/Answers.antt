-- The moves are linear, and right at each power of two, which antt computes (Rules.antt).
use Rattle.std.proofs.Common.{rules}
use Rattle.checks.proofs.Rules.{circuit-16}
use Rattle.checks.proofs.Crc16Polynomial.reduced.Goals as goal

pub returns : goal.returns
returns c = search (circuit-16, rules)
