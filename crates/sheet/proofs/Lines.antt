-- A cell by its packed line, over plain variables: it has the bits of the cell's field, and refuses the codes that the field refuses.
use Rattle.std.specs.Prelude.{Ok, Err}
use mathlib.Core.Path.{◌≡◌, refl, ap, sym, ◌∙◌}
use mathlib.Core.Bool.{Bool, true, false}
use Prim.Native.Nat.{ℕ, ◌%◌, ◌≤◌}
use native.Mathlib.Omega.{arith}
use lib.Dec.{eqb}
use Rattle.answer.specs.declared.Refusal.TheVariants as refusal
use Rattle.layout.specs.declared.Field.{Field}
use Rattle.layout.specs.Layout.{pick, judge}
use Rattle.layout.specs.Parts.{free}
use Rattle.fields.specs.Fields.{field_of, sf}
use Rattle.fields.specs.Columns.{width_small}
use Rattle.fields.specs.Packed.{packed, packed_line, refuses, most-small, packed-width, packed-judges}
use Rattle.rows.specs.Rows.{width_in, field_in}
use Rattle.rows.specs.Cells.{cell-bits, cell-none, cell-some}
use Rattle.sheet.specs.Walked.{line_in}

abbrev line_by : Field → ℕ
line_by f = packed f.width f.most f.extra

-- ---- the returns of the code

module _ (cell : ℕ) {line width : ℕ} (e : line ≡ packed_line cell) (w : width ≡ line % 256) where
  width-there : width ≡ (sf cell).width
  unfolding packed_line
  width-there =
      let s : (sf cell).width ≤ 16 = width_small cell in
      w ∙ ap (λ (x : ℕ). x % 256) e ∙ packed-width (sf cell).width (sf cell).most (sf cell).extra (omega arith)

  pub line-none : width ≡ 0 → packed 1 1 1 ≡ line_in cell
  unfolding line_in
  line-none z = ap line_by (cell-none cell {f = sf cell} {r = free cell 1} refl (sym width-there ∙ z) refl)

  pub line-some : (width ≡ 0 → ⊥) → line ≡ line_in cell
  unfolding line_in packed_line
  line-some n = e ∙ ap line_by (cell-some cell {f = sf cell} refl (λ z. n (width-there ∙ z)))

-- ---- a cell's field

most-in : (cell : ℕ) → (field_in cell).most ≤ 0xFFFF
unfolding field_in
most-in cell = go (eqb (sf cell).width 0)
  where
    go : (b : Bool) → (pick b (free cell 1) (sf cell)).most ≤ 0xFFFF
    go true = omega arith
    go false = most-small cell

field_is : (cell : ℕ) → field_in cell ≡ field_of cell (width_in cell) (field_in cell).most (field_in cell).extra
unfolding field_in sf
field_is cell = go (eqb (sf cell).width 0)
  where
    go : (b : Bool)
        → pick b (free cell 1) (sf cell)
        ≡ field_of cell (pick b (free cell 1) (sf cell)).width (pick b (free cell 1) (sf cell)).most (pick b (free cell 1) (sf cell)).extra
    go true = refl
    go false = refl

pub number_in : (cell : ℕ) → (field_in cell).sf ≡ cell
number_in cell = ap (λ (f : Field). f.sf) (field_is cell)

pub width-in : (cell : ℕ) → line_in cell % 256 ≡ width_in cell
unfolding line_in
width-in cell =
    let s : width_in cell ≤ 16 = (cell-bits cell).1 in
    packed-width (width_in cell) (field_in cell).most (field_in cell).extra (omega arith)

pub judge-in : (cell code : ℕ) → judge (field_in cell) code ≡ pick (refuses (line_in cell) code) (Err refusal.Field) (Ok tt)
unfolding line_in
judge-in cell code =
    let s : width_in cell ≤ 16 = (cell-bits cell).1 in
    ap (λ (f : Field). judge f code) (field_is cell)
    ∙ packed-judges cell (width_in cell) (field_in cell).most (field_in cell).extra code (omega arith) (most-in cell)
