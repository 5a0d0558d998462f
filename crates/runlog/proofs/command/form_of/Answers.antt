-- The count of words, then the last of them.
use Rattle.runlog.proofs.Wanting.{form-words, form-other, form-raw, form-unknown}
use borrow.Author.Rules.{rules}
use Rattle.runlog.proofs.command.form_of.Goals as goal

pub returns-then-count-eq4 : goal.returns-then-count-eq4
returns-then-count-eq4 c = search (form-words, rules)

pub returns-then-count-ne5 : goal.returns-then-count-ne5
returns-then-count-ne5 c = search (form-other, rules)

pub returns-then-is_raw : goal.returns-then-is_raw
returns-then-is_raw c = search (form-raw, rules)

pub returns : goal.returns
returns c = search (form-unknown, rules)
