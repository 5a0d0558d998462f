use Rattle.views.proofs.Seeks.{find_first, find-end, find-here, find-on}
use borrow.Author.Rules.{rules}
use Rattle.views.proofs.places.find.Goals as goal

pub loop-at-init : goal.loop-at-init
loop-at-init c = search (find_first, rules)

pub returns-then-is_of : goal.returns-then-is_of
returns-then-is_of c = search (find-here, rules)

pub loop-at-preserved : goal.loop-at-preserved
loop-at-preserved c =
    find-on _ _ _ _ _ _ c.loop-at.invariant c.loop-at-test.true _ c.is_of.ensures c.if-is_of.false _ c.advance-s.ensures

pub returns : goal.returns
returns c = search (find-end, rules)
