use Rattle.views.proofs.Seeks.{seek-first, seek-end, seek-here, seek-past, seek-on}
use borrow.Author.Rules.{rules}
use Rattle.views.proofs.places.seek.Goals as goal

pub loop-at-init : goal.loop-at-init
loop-at-init c = search (seek-first, rules)

pub returns-then-left-eq0 : goal.returns-then-left-eq0
returns-then-left-eq0 c =
    seek-here _ _ _ _ _ _ c.loop-at.invariant c.loop-at-test.true _ c.field_of-field.ensures c.if-field-sf.true c.if-left-eq0.true

pub loop-at-preserved-then-field-sf : goal.loop-at-preserved-then-field-sf
loop-at-preserved-then-field-sf c = search (seek-past, rules)

pub loop-at-preserved : goal.loop-at-preserved
loop-at-preserved c = search (seek-on, rules)

pub returns : goal.returns
returns c = search (seek-end, rules)
