use Rattle.runlog.proofs.Digits.{empty-word, first-digit, digit-below, digit-above, number-over, next-digit, last-digit}
use borrow.Author.Rules.{rules}
use Rattle.runlog.proofs.command.byte_of.Goals as goal

pub returns-then-word-eq0 : goal.returns-then-word-eq0
returns-then-word-eq0 c = search (empty-word, rules)

pub loop-i-init : goal.loop-i-init
loop-i-init c = search (first-digit, rules)

pub returns-then-digit-lt48 : goal.returns-then-digit-lt48
returns-then-digit-lt48 c = search (digit-below, rules)

pub returns-then-digit-gt57 : goal.returns-then-digit-gt57
returns-then-digit-gt57 c = search (digit-above, rules)

pub returns-then-n-gt255 : goal.returns-then-n-gt255
returns-then-n-gt255 c = search (number-over, rules)

pub loop-i-preserved : goal.loop-i-preserved
loop-i-preserved c = search (next-digit, rules)

pub returns : goal.returns
returns c = search (last-digit, rules)
