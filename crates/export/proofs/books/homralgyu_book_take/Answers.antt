-- The slice is too short, or what was told is what the call below answers.
use Rattle.export.specs.Books.{told_taken}
use Rattle.export.proofs.Laws.{answered-short, lent-short, short-is, enough-is, answered-by, lent_by}
use borrow.Author.Rules.{rules}
use Rattle.export.proofs.books.homralgyu_book_take.Goals as goal

pub returns-then-book-lt-BOOK-clause-value : goal.returns-then-book-lt-BOOK-clause-value
returns-then-book-lt-BOOK-clause-value c = search (answered-short, rules)

pub returns-then-book-lt-BOOK-clause-book_after : goal.returns-then-book-lt-BOOK-clause-book_after
returns-then-book-lt-BOOK-clause-book_after c = search (lent-short, rules)

pub returns-then-book-lt-BOOK-clause-bytes_after : goal.returns-then-book-lt-BOOK-clause-bytes_after
returns-then-book-lt-BOOK-clause-bytes_after c = search (short-is, rules)

pub returns-clause-value : goal.returns-clause-value
returns-clause-value c = search (answered-by told_taken, rules)

pub returns-clause-book_after : goal.returns-clause-book_after
returns-clause-book_after c = search (lent_by told_taken, rules)

pub returns-clause-bytes_after : goal.returns-clause-bytes_after
returns-clause-bytes_after c = search (enough-is, rules)
