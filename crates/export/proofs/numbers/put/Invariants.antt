-- So many numbers are stored as the loop has turned; behind them all is as lent (Laws.antt). The loop keeps that there is room.
use mathlib.Core.Path.{◌≡◌}
use mathlib.Core.List.{◌++◌}
use Prim.Native.Nat.{◌≤◌}
use lib.ListN.{length, take, drop}
use Rattle.export.proofs.numbers.put.Given as goal

abbrev pub invariant-loop-i : goal.invariant-loop-i
invariant-loop-i l = (l.out ≡ take l.i l.numbers ++ drop l.i l.initial.out) × (length l.numbers ≤ length l.initial.out)
