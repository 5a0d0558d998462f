-- A slice is too short, or what was told is what the call below answers.
use Rattle.export.specs.Books.{told_kept}
use Rattle.export.proofs.Laws.{answered-short, lent-short, short-is, enough-is, answered-by, lent_by}
use borrow.Author.Rules.{rules}
use Rattle.export.proofs.books.homralgyu_kept_write.Goals as goal

pub returns-then-book-lt-BOOK-clause-value : goal.returns-then-book-lt-BOOK-clause-value
returns-then-book-lt-BOOK-clause-value c = search (short-is, rules)

pub returns-then-book-lt-BOOK-clause-out_after : goal.returns-then-book-lt-BOOK-clause-out_after
returns-then-book-lt-BOOK-clause-out_after c = search (short-is, rules)

pub returns-then-book-lt-BOOK-clause-written_after : goal.returns-then-book-lt-BOOK-clause-written_after
returns-then-book-lt-BOOK-clause-written_after c = search (short-is, rules)

pub returns-then-written-lt1-clause-value : goal.returns-then-written-lt1-clause-value
returns-then-written-lt1-clause-value c = search (enough-is, answered-short, rules)

pub returns-then-written-lt1-clause-out_after : goal.returns-then-written-lt1-clause-out_after
returns-then-written-lt1-clause-out_after c = search (enough-is, short-is, rules)

pub returns-then-written-lt1-clause-written_after : goal.returns-then-written-lt1-clause-written_after
returns-then-written-lt1-clause-written_after c = search (enough-is, lent-short, rules)

pub returns-clause-value : goal.returns-clause-value
returns-clause-value c = search (enough-is, answered-by told_kept, rules)

pub returns-clause-out_after : goal.returns-clause-out_after
returns-clause-out_after c = search (enough-is, rules)

pub returns-clause-written_after : goal.returns-clause-written_after
returns-clause-written_after c = search (enough-is, lent_by told_kept, rules)
