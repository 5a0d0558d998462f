-- Serves proofs, and is proved: the walk past a part that may be absent.
use Rattle.std.proofs.Common.{sym, add-zero}
use Rattle.std.specs.Prelude.{Bool, true, false, List, ℕ, ◌+◌}
use Rattle.layout.specs.Layout.{Layout}
use Rattle.layout.specs.Parts.{Part, present, optional}
use Rattle.layout.specs.Reaches.{Reaches, here, part_if, reaches-to}
use Rattle.views.specs.Entries.{entries_of}

pub reaches-part : {A B : Type 0} {sheet : List ℕ} {part : (B → Layout A) → Layout A} (x : B) (entries : B → ℕ) (at : ℕ) (b : Bool)
    → ((k : B → Layout A) → Reaches sheet (k x) (at + entries x) (part k) at)
    → (k : Part B → Layout A) → Reaches sheet (k (part_if b x)) (at + entries_of entries (part_if b x)) (optional b part k) at
reaches-part x entries at true h k = h (λ y. k (present y))
reaches-part x entries at false h k = reaches-to at (at + 0) (sym (add-zero at)) here
