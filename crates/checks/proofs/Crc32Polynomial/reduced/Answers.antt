-- The moves are linear, and right at each power of two, which antt computes (Rules.antt).
use Rattle.std.proofs.Common.{rules}
use Rattle.checks.proofs.Rules.{circuit-32}
use Rattle.checks.proofs.Crc32Polynomial.reduced.Goals as goal

pub returns : goal.returns
returns c = search (circuit-32, rules)
