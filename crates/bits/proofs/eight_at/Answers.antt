-- The first word from at on is the field of its bits (`eight-read`).
use Rattle.std.proofs.Common.{rules}
use Rattle.bits.proofs.Steps.{eight-read}
use Rattle.bits.proofs.eight_at.Goals as goal

pub returns : goal.returns
returns c = search (eight-read, rules)
