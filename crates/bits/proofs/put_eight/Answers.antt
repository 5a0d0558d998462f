-- The bytes of x take the place of eight (`eight-put`).
use Rattle.std.proofs.Common.{rules}
use Rattle.bits.proofs.Steps.{eight-put}
use Rattle.bits.proofs.put_eight.Goals as goal

pub returns : goal.returns
returns c = search (eight-put, rules)
