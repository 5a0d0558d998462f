-- A case for each seal.
use Rattle.export.specs.Frames.{sealing_of}
use Rattle.export.proofs.Laws.{arm}
use borrow.Author.Rules.{rules}
use Rattle.export.proofs.frames.sealing_of.Goals as goal

pub returns-in-None : goal.returns-in-None
returns-in-None c = search (arm sealing_of, rules)

pub returns-in-Some : goal.returns-in-Some
returns-in-Some c = search (arm sealing_of, rules)
