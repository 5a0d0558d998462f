-- `satellite_end`: behind SF013, behind the clock block, or behind the biases.
use Rattle.views.proofs.Ocbs.{end-unused, end-biases, end-straight}
use borrow.Author.Rules.{rules}
use Rattle.views.proofs.satellites.satellite_end.Goals as goal

pub returns-then-entry-eq1 : goal.returns-then-entry-eq1
returns-then-entry-eq1 c = search (end-unused, rules)

pub returns-then-bias-eq1 : goal.returns-then-bias-eq1
returns-then-bias-eq1 c = search (end-biases, rules)

pub returns : goal.returns
returns c = search (end-straight, rules)
