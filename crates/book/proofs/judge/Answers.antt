use Rattle.std.proofs.Common.{◌≡◌, Err}
use Rattle.book.proofs.Searching.{seek-anew, seek-past}
use Rattle.book.proofs.Taking.{judge-start, judge-end, judge-refused, judge-turn, blocks-below, no_blocks}
use Rattle.std.proofs.lemmas.Result.{err_from_is_err_and}
use borrow.Author.Rules.{rules}
use Rattle.book.proofs.judge.Goals as goal

pub loop-i-init : goal.loop-i-init
loop-i-init c = search (judge-start, seek-anew, no_blocks, rules)

pub known-requires-clause-count_in_bounds : goal.known-requires-clause-count_in_bounds
known-requires-clause-count_in_bounds c = (search rules, search rules, search rules)

pub known-requires-clause-n_le_most_blocks : goal.known-requires-clause-n_le_most_blocks
known-requires-clause-n_le_most_blocks c = (search rules, search rules, search rules)

pub loop-i-preserved : goal.loop-i-preserved
loop-i-preserved c = (search (judge-turn, rules), search (seek-past, rules), search (blocks-below, rules), search rules)

pub returns-in_err-held : goal.returns-in_err-held
returns-in_err-held c = let p = err_from_is_err_and c.from_residual.result c.from_residual.ensures.1 in rw (p.1, p.2) (let w : c.judge_block.result ≡ Err c.in_err-held.field-0.0 = c.in_err-held.was in search (judge-refused, rules))

pub returns : goal.returns
returns c = search (judge-end, rules)
