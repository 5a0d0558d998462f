-- A new desk with the buffers that it is lent here is prepared, and they are zeros.
use Rattle.runlog.proofs.Turns.{new-prepared}
use Rattle.runlog.proofs.Reading.{ran-is}
use borrow.Author.Rules.{rules}
use Rattle.runlog.proofs.run_desk.Goals as goal

pub prepare_all-requires : goal.prepare_all-requires
prepare_all-requires c = search (new-prepared, rules)

pub returns : goal.returns
returns c = search (ran-is, rules)
