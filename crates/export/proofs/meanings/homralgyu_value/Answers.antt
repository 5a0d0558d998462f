-- A slice is too short, or what was told is what the call below answers.
use Rattle.export.specs.Numbers.{laid}
use Rattle.export.specs.Meanings.{told_value, floats_of_value}
use Rattle.values.specs.declared.Value.{Value}
use Rattle.export.proofs.Laws.{short-is, enough-is, is-told, is-left}
use borrow.Author.Rules.{rules}
use Rattle.export.proofs.meanings.homralgyu_value.Goals as goal

pub returns-then-what-lt-UNIT-clause-value : goal.returns-then-what-lt-UNIT-clause-value
returns-then-what-lt-UNIT-clause-value c = search (short-is, rules)

pub returns-then-what-lt-UNIT-clause-what_after : goal.returns-then-what-lt-UNIT-clause-what_after
returns-then-what-lt-UNIT-clause-what_after c = search (short-is, rules)

pub returns-then-what-lt-UNIT-clause-value_after : goal.returns-then-what-lt-UNIT-clause-value_after
returns-then-what-lt-UNIT-clause-value_after c = search (short-is, rules)

pub returns-then-value-lt-VALUE-clause-value : goal.returns-then-value-lt-VALUE-clause-value
returns-then-value-lt-VALUE-clause-value c = search (enough-is, short-is, rules)

pub returns-then-value-lt-VALUE-clause-what_after : goal.returns-then-value-lt-VALUE-clause-what_after
returns-then-value-lt-VALUE-clause-what_after c = search (enough-is, short-is, rules)

pub returns-then-value-lt-VALUE-clause-value_after : goal.returns-then-value-lt-VALUE-clause-value_after
returns-then-value-lt-VALUE-clause-value_after c = search (enough-is, short-is, rules)

pub returns-clause-value : goal.returns-clause-value
returns-clause-value c = search (enough-is, is-told (λ (v : Value). (told_value v).number), rules)

pub returns-clause-what_after : goal.returns-clause-what_after
returns-clause-what_after c = search (enough-is, is-left (λ (v : Value). laid (told_value v).numbers), rules)

pub returns-clause-value_after : goal.returns-clause-value_after
returns-clause-value_after c = search (enough-is, is-left floats_of_value, rules)
