use Rattle.std.proofs.Common.{rules}
use Rattle.checks.proofs.Turns.{words-on, going_end}
use Rattle.checks.proofs.words.Goals as goal

pub loop-word-preserved : goal.loop-word-preserved
loop-word-preserved g c = search (words-on g.met.P.Polynomial.rule, rules)

pub returns : goal.returns
returns g c = search (going_end, rules)
