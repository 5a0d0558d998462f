-- The check of each type is its own; a type over 3 is taken as 3.
use Rattle.checks.specs.Crc.{message_crc}
use Rattle.checks.proofs.Turns.{other-type}
use borrow.Author.Rules.{rules}
use Rattle.checks.proofs.message_crc.Goals as goal

pub returns-in-0 : goal.returns-in-0
unfolding message_crc
returns-in-0 c = cc

pub returns-in-1 : goal.returns-in-1
unfolding message_crc
returns-in-1 c = cc

pub returns-in-2 : goal.returns-in-2
unfolding message_crc
returns-in-2 c = cc

pub returns-in_default : goal.returns-in_default
unfolding message_crc
returns-in_default c = search (other-type, rules)
