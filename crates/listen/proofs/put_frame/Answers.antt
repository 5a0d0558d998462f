-- The parts of the line are put one behind the other.
use Rattle.listen.proofs.Lines.{frame_is}
use Rattle.listen.specs.Lengths.{frame-short}
use borrow.Author.Rules.{rules}
use Rattle.listen.proofs.put_frame.Goals as goal

pub returns-clause-result_after : goal.returns-clause-result_after
returns-clause-result_after c = search (frame_is, rules)

pub returns-clause-frame_len_bound : goal.returns-clause-frame_len_bound
returns-clause-frame_len_bound c = search (frame-short, rules)
