-- One law for each return (Digits.antt).
use Rattle.runlog.proofs.Digits.{other_length, other-first, other-second, by-third}
use borrow.Author.Rules.{rules}
use Rattle.runlog.proofs.command.is_raw.Goals as goal

pub returns-then-word-ne3 : goal.returns-then-word-ne3
returns-then-word-ne3 c = search (other_length, rules)

pub returns-then-word-ne114 : goal.returns-then-word-ne114
returns-then-word-ne114 c = search (other-first, rules)

pub returns-then-word-ne97 : goal.returns-then-word-ne97
returns-then-word-ne97 c = search (other-second, rules)

pub returns : goal.returns
returns c = search (by-third, rules)
