-- The upper half's moves, what stays in 64 bits and what goes over, come to the definition's (Turns.antt).
use Rattle.std.proofs.Common.{rules}
use Rattle.checks.specs.Moves.{rule_32}
use Rattle.checks.proofs.Turns.{fold-code}
use Rattle.checks.proofs.Crc32Polynomial.fold.Goals as goal

pub returns : goal.returns
returns c = search (fold-code rule_32, rules)
