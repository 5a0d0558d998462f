-- The three numbers of a tray.
use Rattle.export.specs.Streams.{tray_of}
use Rattle.export.proofs.Laws.{cons-as}
use Rattle.export.specs.Stored.{stored-as}
use borrow.Author.Rules.{rules}
use Rattle.export.proofs.streams.put_tray.Goals as goal

pub returns : goal.returns
unfolding tray_of
returns c = search (stored-as, cons-as, rules)
