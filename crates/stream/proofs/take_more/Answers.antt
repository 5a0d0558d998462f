-- Either step goes on to the same outcome: the live bytes move to the front, or bytes of the input come behind them (Turns.antt).
use borrow.Author.Rules.{rules}
use Rattle.stream.proofs.Turns.{wanted-more, wanted-fits, onward-shift, ends-shift, onward-taken, ends-taken}
use Rattle.stream.proofs.take_more.Goals as goal

pub overflow_add-start : goal.overflow_add-start
overflow_add-start c = search (wanted-fits, rules)

pub returns-then-start-wanted-gt-LONGEST_FRAME : goal.returns-then-start-wanted-gt-LONGEST_FRAME
returns-then-start-wanted-gt-LONGEST_FRAME c = search (onward-shift, ends-shift, rules)

pub overflow_sub-wanted : goal.overflow_sub-wanted
overflow_sub-wanted c = search (wanted-more, rules)

pub returns : goal.returns
returns c = search (onward-taken, ends-taken, rules)
