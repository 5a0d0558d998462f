-- A frame goes to the desk, what else the stream says does not (Returns.antt).
use borrow.Author.Rules.{rules}
use Rattle.prepare.proofs.Returns.{step-frame, step_other, frame-lies}
use Rattle.prepare.proofs.step.Goals as goal

pub give-requires : goal.give-requires
give-requires c = search (frame-lies, rules)

pub returns-in-Frame : goal.returns-in-Frame
returns-in-Frame c = search (step-frame, rules)

pub returns : goal.returns
returns c = search (step_other, rules)
