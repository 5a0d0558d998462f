-- Definitions to believe: the search for a block by its ID.
use Rattle.std.specs.Prelude.{List, [], ◌∷◌, ℕ, ◌+◌, eqb}
use Rattle.layout.specs.Layout.{pick}

-- where an ID repeats in a message, a call that looks for it finds the first (DECISIONS): the blocks follow one another on the sheet from `at` on, each with so many entries
unfoldable pub first : {B C : Type 0} (id_of entries : B → ℕ) (view : ℕ → B → C) (none : C) (id at : ℕ) → List B → C
first id_of entries view none id at [] = none
first id_of entries view none id at (b ∷ bs) = pick (eqb (id_of b) id) (view at b) (first id_of entries view none id (at + entries b) bs)
