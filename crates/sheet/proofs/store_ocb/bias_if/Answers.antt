-- Where SF014 says so: the phase biases, and the code biases behind them.
use Rattle.sheet.proofs.StoringOcb.{codes-near, codes-next, bias-there, bias-absent}
use borrow.Author.Rules.{rules}
use Rattle.sheet.proofs.store_ocb.bias_if.Goals as goal

pub code_biases-requires : goal.code_biases-requires
code_biases-requires c = search (codes-near, codes-next, rules)

pub returns-then-present-eq1 : goal.returns-then-present-eq1
returns-then-present-eq1 c = search (bias-there, rules)

pub returns : goal.returns
returns c = search (bias-absent, rules)
