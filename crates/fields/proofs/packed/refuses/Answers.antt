-- By `most`, then by `invalid`.
use Rattle.std.proofs.Common.{rules}
use Rattle.fields.specs.Packed.{refuses}
use Rattle.fields.proofs.packed.refuses.Goals as goal

pub returns-then-line-code : goal.returns-then-line-code
unfolding refuses
returns-then-line-code c = search rules

pub returns-else-line-code : goal.returns-else-line-code
unfolding refuses
returns-else-line-code c = search rules
