use Rattle.views.proofs.Ocbs.{pass-first, pass-inside, pass-last, pass_on}
use borrow.Author.Rules.{rules}
use Rattle.views.proofs.satellites.satellite_start.Goals as goal

pub loop-left-init : goal.loop-left-init
loop-left-init c = search (pass-first, rules)

pub satellite_end-at-requires : goal.satellite_end-at-requires
satellite_end-at-requires c = search (pass-inside, rules)

pub loop-left-preserved : goal.loop-left-preserved
loop-left-preserved c = search (pass_on, rules)

pub returns : goal.returns
returns c = search (pass-inside, pass-last, rules)
