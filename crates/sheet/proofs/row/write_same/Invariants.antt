-- One law for each way out of the loop, and one for a turn (Repeats.antt).
use Rattle.sheet.proofs.Repeats.{SameWrite}
use Rattle.sheet.proofs.row.write_same.Given as goal

abbrev pub invariant-loop-next : goal.invariant-loop-next
invariant-loop-next l = SameWrite l.sheet l.initial.out l.group l.tail l.initial.left l.pos-2 l.at l.one l.same l.wide l.out l.left l.pos l.next

abbrev pub decreases-loop-next : goal.decreases-loop-next
decreases-loop-next l = l.left
