-- By 64 places or more nothing is left (`down_is`).
use Rattle.std.proofs.Common.{◌∙◌, rules}
use Rattle.checks.proofs.Turns.{down_is}
use Rattle.checks.proofs.down.Goals as goal

pub returns : goal.returns
returns c = c.unwrap_or.ensures ∙ search (down_is, rules)
