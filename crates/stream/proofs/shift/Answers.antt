-- The rest comes to the front, and zeros over what it leaves: `shift-done`.
use Rattle.std.proofs.Common.{rules}
use Rattle.stream.proofs.Parts.{shift_none, shift-done}
use Rattle.stream.proofs.shift.Goals as goal

pub returns-then-start-eq0 : goal.returns-then-start-eq0
returns-then-start-eq0 c = search (shift_none, rules)

pub returns : goal.returns
returns c = search (shift-done, rules)
