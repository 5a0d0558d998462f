-- A mask has 64 bits at most.
use Rattle.codes.proofs.Laws.{mask_fits}
use borrow.Author.Rules.{rules}
use Rattle.codes.proofs.tables.mask_field.Goals as goal

pub mask_bits-requires : goal.mask_bits-requires
mask_bits-requires c = search (mask_fits, rules)
