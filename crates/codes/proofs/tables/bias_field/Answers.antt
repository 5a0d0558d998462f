-- A mask has 64 bits at most.
use Rattle.codes.proofs.Laws.{bias-fits}
use borrow.Author.Rules.{rules}
use Rattle.codes.proofs.tables.bias_field.Goals as goal

pub full_width-requires : goal.full_width-requires
full_width-requires c = search (bias-fits, rules)
