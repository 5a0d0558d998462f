-- All bytes of the part are copied.
use Rattle.export.specs.Numbers.{laid}
use Rattle.exportdesk.proofs.finds.put_area.Goals as goal

pub returns-clause-area_after : goal.returns-clause-area_after
unfolding laid
returns-clause-area_after c = rw c.copy_from_slice.ensures.after
