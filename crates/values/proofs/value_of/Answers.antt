-- The field has no value; the code is in its range; it is its one code besides, "invalid"; any other is FIELD.
use Rattle.std.proofs.Common.{rules}
use Rattle.values.specs.Columns.{value_none, value_taken, value-invalid, value-outside}
use Rattle.values.proofs.value_of.Goals as goal

pub returns-in_default : goal.returns-in_default
returns-in_default c = search (value_none, rules)

pub returns-then-code-line : goal.returns-then-code-line
returns-then-code-line c = search (value_taken, rules)

pub returns-then-code-line-2 : goal.returns-then-code-line-2
returns-then-code-line-2 c = search (value-invalid, rules)

pub returns : goal.returns
returns c = search (value-outside, rules)
