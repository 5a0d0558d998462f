-- Tray and desk stay prepared from call to call, each event told is one of those left to tell, and what is still to be told is what was to be told at the start.
use Rattle.runlog.specs.Telling.{state_of}
use Rattle.runlog.specs.Events.{to_tell}
use Rattle.runlog.proofs.Turns.{Turning, Heeding}
use Rattle.runlog.proofs.hearing.hear.Given as goal

abbrev pub invariant-loop-next : goal.invariant-loop-next
invariant-loop-next l = Turning
    (Heeding l.raw l.second (state_of l.initial.bytes l.initial.next.tray l.initial.next.desk l.initial.live l.initial.run) l.initial.out l.initial.next.at l.portion l.bytes l.next.tray l.next.desk l.live l.run l.log l.out l.next.at l.next.used)
    l.initial.bytes l.initial.live l.initial.run l.initial.log l.initial.out l.bytes l.live l.run l.log l.out

abbrev pub decreases-loop-next : goal.decreases-loop-next
decreases-loop-next l = to_tell l.bytes l.next.tray l.next.used l.portion
