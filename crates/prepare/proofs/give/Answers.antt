-- What the desk leaves of its header and payload is what it makes of the frame (Returns.antt).
use Rattle.prepare.proofs.Returns.{gives}
use borrow.Author.Rules.{rules}
use Rattle.prepare.proofs.give.Goals as goal

pub returns : goal.returns
returns c = search (gives, rules)
