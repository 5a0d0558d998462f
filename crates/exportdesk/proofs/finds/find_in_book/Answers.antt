-- A book of too few numbers, or the part that the call below finds.
use mathlib.Core.List.{[]}
use Prim.Native.Nat.{ℕ}
use lib.ListN.{length}
use Rattle.export.specs.Numbers.{laid}
use Rattle.export.proofs.Laws.{is-told, is-left, laid_none}
use Rattle.exportdesk.proofs.Finding.{no-book-found, book-fits, book-found}
use borrow.Author.Rules.{rules}
use Rattle.exportdesk.proofs.finds.find_in_book.Goals as goal

pub returns-then-book-lt-BOOK-clause-value : goal.returns-then-book-lt-BOOK-clause-value
returns-then-book-lt-BOOK-clause-value c = search (is-told (length {A = ℕ}) [], no-book-found, rules)

pub returns-then-book-lt-BOOK-clause-area_after : goal.returns-then-book-lt-BOOK-clause-area_after
returns-then-book-lt-BOOK-clause-area_after c = search (is-left (laid {A = ℕ}) [], no-book-found, laid_none, rules)

pub put_area-requires : goal.put_area-requires
put_area-requires c = search (book-fits, rules)

pub returns-clause-value : goal.returns-clause-value
returns-clause-value c = search (is-told (length {A = ℕ}), book-found, rules)

pub returns-clause-area_after : goal.returns-clause-area_after
returns-clause-area_after c = search (is-left (laid {A = ℕ}), book-found, rules)
