-- The portions so far are told, and each turn is a read; the turns that are left fall.
use mathlib.Core.Path.{◌≡◌}
use lib.ListN.{length}
use Rattle.runlog.specs.Telling.{state_of}
use Rattle.runlog.proofs.Turns.{Turning}
use Rattle.runlog.proofs.Reading.{Preparing}
use Rattle.runlog.proofs.prepare_all.Given as goal

abbrev pub invariant-loop-turns : goal.invariant-loop-turns
invariant-loop-turns l = Turning (Preparing l.raw (state_of l.initial.bytes l.initial.turn.tray l.initial.turn.desk l.initial.live l.initial.run) l.initial.out l.bytes l.live l.run l.log l.out l.turn l.turns) l.initial.bytes l.initial.live l.initial.run l.initial.log l.initial.out l.bytes l.live l.run l.log l.out
    × (length l.input ≡ length l.initial.input)

abbrev pub decreases-loop-turns : goal.decreases-loop-turns
decreases-loop-turns l = l.turns
