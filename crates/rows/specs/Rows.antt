-- Mirror: a row as the code keeps it, a stretch of fields whose codes decide nothing about the fields after them, except the last one's. A cell is a field's
-- number (crate fields), up to eight cells in a word, the first one lowest.
use Rattle.std.specs.Prelude.{Bool, true, false, List, [], ◌∷◌, ◌++◌, ℕ, zero, suc, ◌+◌, ◌*◌, ◌/◌, ◌%◌, eqb}
use Rattle.layout.specs.declared.Field.{Field}
use Rattle.layout.specs.Layout.{pick}
use Rattle.layout.specs.Parts.{free}
use Rattle.fields.specs.Fields.{sf}
use Rattle.rows.specs.declared.Row.{Row}

-- the field of a cell; a number that no field has counts one bit, so that a walk over cells always moves on
unfoldable pub field_in : ℕ → Field
field_in cell = pick (eqb (sf cell).width 0) (free cell 1) (sf cell)

abbrev pub width_in : ℕ → ℕ
width_in cell = (field_in cell).width

-- ---- a word of cells, and a row

-- the word that has these cells
abbrev pub word_of : List ℕ → ℕ
word_of [] = 0
word_of (cell ∷ cs) = cell + 256 * word_of cs

abbrev pub cells_by : (ended : Bool) → ℕ → (ℕ → List ℕ) → List ℕ
cells_by true word rest = []
cells_by false word rest = word % 256 ∷ rest (word / 256)

-- a word has fewer cells than its own number, so that the steps do not run out
unfoldable pub cells : (steps word : ℕ) → List ℕ
cells zero word = []
cells (suc steps) word = cells_by (eqb word 0) word (λ rest. cells steps rest)

unfoldable pub cells_in : ℕ → List ℕ
cells_in word = cells word word

abbrev pub again : ℕ → List ℕ → List ℕ → List ℕ
again zero group tail = tail
again (suc n) group tail = group ++ again n group tail

-- the group, as often again as `more` says, and the tail
abbrev pub cells_of : Row → List ℕ
cells_of row = again (suc row.more) (cells_in row.group) (cells_in row.tail)

abbrev pub one_row : ℕ → Row
one_row group = record { group = group; more = 0; tail = 0 }

-- no row: the machine goes on field by field
abbrev pub no_row : Row
no_row = one_row 0
