-- Laws: the bits of a cell, and a word of cells taken apart.
use Rattle.std.specs.Prelude.{◌≡◌, refl, Bool, true, false, List, [], ◌∷◌, ◌++◌, ℕ, zero, suc, ◌/◌, ◌%◌, ◌≤◌, ◌<◌, eqb, length}
use Rattle.std.proofs.Common.{ap, sym, ◌∙◌, arith, eq-eqb, ne_eqb}
use Rattle.std.proofs.lemmas.Bool.{eqb-false}
use Rattle.layout.specs.declared.Field.{Field}
use Rattle.layout.specs.Layout.{pick}
use Rattle.layout.specs.Parts.{free}
use Rattle.fields.specs.Fields.{sf}
use Rattle.fields.specs.Columns.{width_small}
use Rattle.rows.specs.Rows.{field_in, width_in, cells_by, cells, cells_in}

-- a cell has a bit at least, and 16 at most
pub cell-bits : (cell : ℕ) → (0 < width_in cell) × (width_in cell ≤ 16)
unfolding field_in
cell-bits cell = go (eqb (sf cell).width 0) refl
  where
    go : (b : Bool) → eqb (sf cell).width 0 ≡ b → (0 < (pick b (free cell 1) (sf cell)).width) × ((pick b (free cell 1) (sf cell)).width ≤ 16)
    go true e = (omega arith, omega arith)
    go false e = let n : (sf cell).width ≡ 0 → ⊥ = eqb-false (sf cell).width 0 e in (omega arith, width_small cell)

-- the field of a cell, by whether its number has one
pub cell-none : (cell : ℕ) {f r : Field} → f ≡ sf cell → f.width ≡ 0 → r ≡ free cell 1 → r ≡ field_in cell
unfolding field_in
cell-none cell e z q = rw (eq-eqb (sf cell).width 0 (ap (λ (x : Field). x.width) (sym e) ∙ z)) q

pub cell-some : (cell : ℕ) {f : Field} → f ≡ sf cell → (f.width ≡ 0 → ⊥) → f ≡ field_in cell
unfolding field_in
cell-some cell e n = rw (ne_eqb (sf cell).width 0 (λ z. n (ap (λ (x : Field). x.width) e ∙ z))) e

-- enough steps are enough
cells_same : (f g w : ℕ) → w ≤ f → w ≤ g → cells f w ≡ cells g w
unfolding cells
cells_same zero zero w h k = refl
cells_same zero (suc g) w h k = rw (eq-eqb w 0 (omega arith))
cells_same (suc f) zero w h k = rw (eq-eqb w 0 (omega arith))
cells_same (suc f) (suc g) w h k = go (eqb w 0) refl (λ l. cells_same f g (w / 256) (omega arith) (omega arith))
  where
    go : (b : Bool) → eqb w 0 ≡ b → ((w ≡ 0 → ⊥) → cells f (w / 256) ≡ cells g (w / 256))
        → cells_by b w (λ rest. cells f rest) ≡ cells_by b w (λ rest. cells g rest)
    go true e ih = refl
    go false e ih = ap (λ l. w % 256 ∷ l) (ih (eqb-false w 0 e))

pub cells-none : (w : ℕ) → w ≡ 0 → cells_in w ≡ []
unfolding cells cells_in
cells-none w h = rw h

pub cells-more : (w : ℕ) → (w ≡ 0 → ⊥) → cells_in w ≡ w % 256 ∷ cells_in (w / 256)
unfolding cells cells_in
cells-more zero h = absurd (h refl)
cells-more (suc v) h = rw (ne_eqb (suc v) 0 h) (ap (λ l. suc v % 256 ∷ l) (cells_same v (suc v / 256) (suc v / 256) (omega arith) (omega arith)))

pub cells-some : (w : ℕ) (cs : List ℕ) → (w ≡ 0 → ⊥) → 0 < length (cells_in w ++ cs)
cells-some w cs h = rw (cells-more w h) (omega arith)
