-- Two bytes, each one more, multiply to 65,536 at most.
use Rattle.bpac.specs.Machine.{node-fits}
use borrow.Author.Rules.{rules}
use Rattle.bpac.proofs.last_node.Goals as goal

pub overflow_mul-result : goal.overflow_mul-result
overflow_mul-result c = record { fits = search (node-fits, rules) }
