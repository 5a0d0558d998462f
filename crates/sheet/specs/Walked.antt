-- Serves proofs: what the code's walk over a row's cells (src/row.rt) must come to, with the lent list that it left.
use Rattle.std.specs.Prelude.{◌≡◌, Bool, ◌&&◌, not, List, ℕ, eqb, ltb, Ok, Err}
use Rattle.fields.specs.Packed.{packed}
use Rattle.rows.specs.Rows.{width_in, field_in}
use Rattle.rows.specs.Walk.{Went, to, stopped, Way, walk}
use Rattle.sheet.specs.Results.{Ran}

-- the bits and the codes of a cell, in one number
unfoldable pub line_in : ℕ → ℕ
line_in cell = packed (width_in cell) (field_in cell).most (field_in cell).extra

-- a group that is one cell
unfoldable pub one_cell : ℕ → Bool
one_cell group = not (eqb group 0) && ltb group 256

abbrev pub went_by : Ran → List ℕ → Went
went_by (Ok p) lent = to p.pos p.at p.last lent
went_by (Err why) lent = stopped why lent

pub record Walked (way : Way) (cs : List ℕ) (pos at last : ℕ) (lent : List ℕ) (r : Ran) (lent' : List ℕ) : Type 0 where
  pub went : went_by r lent' ≡ walk way cs pos at last lent
