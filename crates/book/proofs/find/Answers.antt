-- `find`: the book is sound and the ID has a place among its areas, or the part is empty and at the start.
use Rattle.book.proofs.Reading.{find-unsound, find-unsound-at, find-fits, find_at, find-end, find-inside, find_none, find-none-at, find-part, find-part-at}
use borrow.Author.Rules.{rules}
use Rattle.book.proofs.find.Goals as goal

pub returns-then-not-is_sound : goal.returns-then-not-is_sound
returns-then-not-is_sound c = search (find-unsound, find-unsound-at, rules)

pub place-i-requires : goal.place-i-requires
place-i-requires c = search (find-fits, rules)

pub returns-then-count-i : goal.returns-then-count-i
returns-then-count-i c = search (find_none, find-none-at, rules)

pub overflow_mul-at : goal.overflow_mul-at
overflow_mul-at c = record { fits = search (find_at, rules) }

pub overflow_add-end : goal.overflow_add-end
overflow_add-end c = record { fits = search (find-end, rules) }

pub returns : goal.returns
returns c = search (find-part, find-part-at, rules)

pub slice_bounds-result-end-2 : goal.slice_bounds-result-end-2
slice_bounds-result-end-2 c = search (find-inside, rules)
