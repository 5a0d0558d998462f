-- 64 ones, shifted down by 64 - n, are n ones (`ones-down`).
use native.Mathlib.Omega.{arith}
use Rattle.bits.proofs.Steps.{ones-down}
use Rattle.bits.proofs.ones.Goals as goal

pub returns : goal.returns
returns c = ones-down c.args.n (omega arith)
