-- The row and the column of a table; past the columns both give the last default.
use Rattle.std.proofs.Common.{rules}
use Rattle.codes.specs.Tables.{mask_sizes}
use Rattle.codes.proofs.Laws.{mask-there, mask-past}
use Rattle.codes.proofs.tables.mask_size.Goals as goal

pub returns-then-size-lt4 : goal.returns-then-size-lt4
unfolding mask_sizes
returns-then-size-lt4 c = search (mask-there, rules)

pub returns-else-size-lt4 : goal.returns-else-size-lt4
returns-else-size-lt4 c = search (mask-past, rules)
