-- `judge`: the areas held after the blocks so far are known by count and by ID (Taking.antt); their IDs lie below `least`, as do those of the book's areas passed.
use Prim.Native.Nat.{◌≤◌}
use Rattle.book.specs.Payload.{blocks_from}
use Rattle.book.specs.Search.{Below, Passed}
use Rattle.book.proofs.Taking.{JudgingBlocks}
use Rattle.book.proofs.judge.Given as goal

abbrev pub invariant-loop-i : goal.invariant-loop-i
invariant-loop-i l = JudgingBlocks l.bytes l.payload l.count l.n l.i l.held × Passed l.least l.count l.bytes l.at × Below l.least (blocks_from l.i 0 l.payload) × (l.least ≤ 256)
