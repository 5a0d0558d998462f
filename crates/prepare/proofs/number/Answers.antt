-- Whatever is told is OK, 0; a refusal has its own number, of the call or of a frame.
use borrow.Author.Rules.{rules}
use Rattle.answer.specs.Matched.{arm}
use Rattle.prepare.specs.Prepare.{number_of_said}
use Rattle.prepare.proofs.number.Goals as goal

pub returns-in-FrameRefused : goal.returns-in-FrameRefused
returns-in-FrameRefused c = search (arm number_of_said, rules)

pub returns-in-Refused : goal.returns-in-Refused
returns-in-Refused c = search (arm number_of_said, rules)
