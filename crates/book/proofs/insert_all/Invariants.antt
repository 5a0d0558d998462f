-- `insert_all`: the areas held so far lie in the bytes, and the blocks that are left are taken from them (Taking.antt); those passed have IDs below `least`.
use Prim.Native.Nat.{◌≤◌}
use Rattle.book.specs.Search.{Passed}
use Rattle.book.proofs.Taking.{Filling}
use Rattle.book.proofs.insert_all.Given as goal

abbrev pub invariant-loop-i : goal.invariant-loop-i
invariant-loop-i l = Filling l.initial.bytes l.payload l.count l.n l.i l.held l.bytes × Passed l.least l.held l.bytes l.at × (l.least ≤ 256)
