-- A desk of too few numbers, or the part that the call below finds.
use mathlib.Core.List.{[]}
use Prim.Native.Nat.{ℕ}
use lib.ListN.{length}
use Rattle.export.specs.Numbers.{laid}
use Rattle.export.proofs.Laws.{is-told, is-left, laid_none}
use Rattle.exportdesk.proofs.Finding.{no-desk-found, desk-fits, desk-found}
use borrow.Author.Rules.{rules}
use Rattle.exportdesk.proofs.finds.find_in_desk.Goals as goal

pub returns-then-desk-lt-DESK-clause-value : goal.returns-then-desk-lt-DESK-clause-value
returns-then-desk-lt-DESK-clause-value c = search (is-told (length {A = ℕ}) [], no-desk-found, rules)

pub returns-then-desk-lt-DESK-clause-area_after : goal.returns-then-desk-lt-DESK-clause-area_after
returns-then-desk-lt-DESK-clause-area_after c = search (is-left (laid {A = ℕ}) [], no-desk-found, laid_none, rules)

pub put_area-requires : goal.put_area-requires
put_area-requires c = search (desk-fits, rules)

pub returns-clause-value : goal.returns-clause-value
returns-clause-value c = search (is-told (length {A = ℕ}), desk-found, rules)

pub returns-clause-area_after : goal.returns-clause-area_after
returns-clause-area_after c = search (is-left (laid {A = ℕ}), desk-found, rules)
