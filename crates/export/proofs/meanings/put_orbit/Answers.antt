-- Three places, one after the other.
use native.Mathlib.Omega.{arith}
use lib.ListN.{length-set}
use Rattle.export.proofs.meanings.put_orbit.Goals as goal

pub bounds-orbit-1 : goal.bounds-orbit-1
bounds-orbit-1 c = simp length-set (omega arith)

pub bounds-orbit-2 : goal.bounds-orbit-2
bounds-orbit-2 c = simp length-set (omega arith)
