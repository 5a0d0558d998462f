-- A mask has 10 to 64 bits, so the shift is below 64.
use Rattle.codes.specs.Stepping.{up_fits, up-shift, up}
use borrow.Author.Rules.{rules}
use Rattle.codes.proofs.satellites.aligned.Goals as goal

pub overflow_sub-result : goal.overflow_sub-result
overflow_sub-result c = search (up_fits, rules)

pub overflow_shl-result : goal.overflow_shl-result
overflow_shl-result c = search (up-shift, rules)

pub returns : goal.returns
returns c = search (up, rules)
