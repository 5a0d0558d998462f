-- All floats, or none.
use mathlib.Core.Path.{refl}
use Rattle.export.specs.Stored.{stored-none, stored-all}
use Rattle.export.proofs.Laws.{put-more, put_all}
use borrow.Author.Rules.{rules}
use Rattle.exportviews.proofs.floats.put_floats.Goals as goal

pub returns-then-out-floats : goal.returns-then-out-floats
returns-then-out-floats c = search (stored-none, rules)

pub loop-i-init : goal.loop-i-init
loop-i-init c = (refl, search rules)

pub loop-i-preserved : goal.loop-i-preserved
loop-i-preserved c = (search (put-more, rules), search rules)

pub returns : goal.returns
returns c = search (stored-all, put_all, rules)
