-- The parts are those of what is said.
use Rattle.listen.proofs.Lines.{parts-frame, short-frame, parts-noise, short-noise, parts-hungry, short-hungry, parts-done, short-done, parts-refused, short-refused}
use borrow.Author.Rules.{rules}
use Rattle.listen.proofs.put_parts.Goals as goal

pub returns-in-Frame : goal.returns-in-Frame
returns-in-Frame c = search (parts-frame, short-frame, rules)

pub returns-in-Noise : goal.returns-in-Noise
returns-in-Noise c = search (parts-noise, short-noise, rules)

pub returns-in-Hungry : goal.returns-in-Hungry
returns-in-Hungry c = search (parts-hungry, short-hungry, rules)

pub returns-in-Done : goal.returns-in-Done
returns-in-Done c = search (parts-done, short-done, rules)

pub returns-in-Refused : goal.returns-in-Refused
returns-in-Refused c = search (parts-refused, short-refused, rules)
