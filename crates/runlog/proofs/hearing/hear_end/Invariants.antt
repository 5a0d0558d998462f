-- Tray and desk stay prepared from finish to finish, each event told is one of those left to tell, and what is still to be told is what was to be told at the start.
use Rattle.runlog.specs.Telling.{state_of}
use Rattle.runlog.specs.Events.{last_to_tell}
use Rattle.runlog.proofs.Turns.{Turning, Nearing}
use Rattle.runlog.proofs.hearing.hear_end.Given as goal

abbrev pub invariant-loop-last : goal.invariant-loop-last
invariant-loop-last l = Turning (Nearing l.raw l.second (state_of l.initial.bytes l.initial.last.tray l.initial.last.desk l.initial.live l.initial.run) l.initial.out l.initial.last.at l.bytes l.last.tray l.last.desk l.live l.run l.log l.out l.last.at)
    l.initial.bytes l.initial.live l.initial.run l.initial.log l.initial.out l.bytes l.live l.run l.log l.out

abbrev pub decreases-loop-last : goal.decreases-loop-last
decreases-loop-last l = last_to_tell l.bytes l.last.tray
