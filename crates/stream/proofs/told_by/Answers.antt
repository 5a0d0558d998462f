-- Each kind of noise that is told is a case of the definition (Skipping.antt).
use Rattle.std.proofs.Common.{rules}
use Rattle.stream.proofs.Skipping.{tells-plain, tells-wrong}
use Rattle.stream.proofs.told_by.Goals as goal

pub returns-then-first-ne-PREAMBLE : goal.returns-then-first-ne-PREAMBLE
returns-then-first-ne-PREAMBLE c = search (tells-plain, rules)

pub returns : goal.returns
returns c = search (tells-wrong, rules)
