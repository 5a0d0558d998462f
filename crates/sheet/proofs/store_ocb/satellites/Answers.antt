use Rattle.sheet.proofs.StoringOcb.{satellites-start, satellites-near, satellites-next, satellites-again, satellites-done}
use native.Mathlib.Omega.{arith}
use borrow.Author.Rules.{rules}
use Rattle.sheet.proofs.store_ocb.satellites.Goals as goal

pub loop-left-init : goal.loop-left-init
loop-left-init c = search (satellites-start, rules)

pub satellite-here-requires : goal.satellite-here-requires
satellite-here-requires c = search (satellites-near, satellites-next, rules)

pub loop-left-smaller : goal.loop-left-smaller
loop-left-smaller c = omega arith

pub loop-left-preserved : goal.loop-left-preserved
loop-left-preserved c = search (satellites-again, rules)

pub returns : goal.returns
returns c = search (satellites-done, rules)
