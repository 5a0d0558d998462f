-- The tests are those of `ocb_of` and `ocb_by`, in their order.
use Rattle.quick.specs.Ocb.{ocb-tbd, ocb-empty, ocb-on}
use borrow.Author.Rules.{rules}
use Rattle.quick.proofs.for_ocb.judge.Goals as goal

pub returns-then-last_type-ephemeris : goal.returns-then-last_type-ephemeris
returns-then-last_type-ephemeris c = search (ocb-tbd, rules)

pub returns-then-mask-eq0 : goal.returns-then-mask-eq0
returns-then-mask-eq0 c = search (ocb-empty, rules)

pub returns : goal.returns
returns c = search (ocb-on, rules)
