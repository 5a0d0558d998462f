-- The slice is too short, or what was told is what the call below answers.
use Rattle.export.specs.Frames.{told_written}
use Rattle.export.proofs.Laws.{answered-short, lent-short, short-is, enough-is, answered-by, lent_by}
use borrow.Author.Rules.{rules}
use Rattle.export.proofs.frames.homralgyu_frame_write.Goals as goal

pub returns-then-size-lt1-clause-value : goal.returns-then-size-lt1-clause-value
returns-then-size-lt1-clause-value c = search (answered-short, rules)

pub returns-then-size-lt1-clause-out_after : goal.returns-then-size-lt1-clause-out_after
returns-then-size-lt1-clause-out_after c = search (short-is, rules)

pub returns-then-size-lt1-clause-size_after : goal.returns-then-size-lt1-clause-size_after
returns-then-size-lt1-clause-size_after c = search (lent-short, rules)

pub returns-clause-value : goal.returns-clause-value
returns-clause-value c = search (answered-by told_written, rules)

pub returns-clause-out_after : goal.returns-clause-out_after
returns-clause-out_after c = search (enough-is, rules)

pub returns-clause-size_after : goal.returns-clause-size_after
returns-clause-size_after c = search (lent_by told_written, rules)
