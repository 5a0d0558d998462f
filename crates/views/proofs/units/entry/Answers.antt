-- `entry`: past the end a list gives 0.
use lib.ListN.{get_or-eq_default}
use Rattle.views.proofs.units.entry.Goals as goal

pub returns : goal.returns
returns c = let h = c.if-at-sheet.false in rw get_or-eq_default
