-- The row and the column of a table; past the columns both give the last default.
use Rattle.std.proofs.Common.{rules}
use Rattle.codes.specs.Tables.{bias_mask_sizes}
use Rattle.codes.proofs.Laws.{bias-there, bias-past}
use Rattle.codes.proofs.tables.bias_size.Goals as goal

pub returns-then-size-lt2 : goal.returns-then-size-lt2
unfolding bias_mask_sizes
returns-then-size-lt2 c = search (bias-there, rules)

pub returns-else-size-lt2 : goal.returns-else-size-lt2
returns-else-size-lt2 c = search (bias-past, rules)
