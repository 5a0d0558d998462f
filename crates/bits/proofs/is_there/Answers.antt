-- The bits end in the last byte of those from byte pos / 8 on that pos % 8 + width bits touch.
use Rattle.bits.proofs.Steps.{too_many, starts-behind, ends-behind, ends-inside}
use borrow.Author.Rules.{rules}
use Rattle.bits.proofs.is_there.Goals as goal

pub returns-then-width-gt64 : goal.returns-then-width-gt64
returns-then-width-gt64 c = search (too_many, rules)

pub returns-then-s-pos : goal.returns-then-s-pos
returns-then-s-pos c = search (starts-behind, rules)

pub returns-then-s-pos-2 : goal.returns-then-s-pos-2
returns-then-s-pos-2 c = search (ends-behind, rules)

pub returns : goal.returns
returns c = search (ends-inside, rules)
