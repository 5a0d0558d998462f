-- Mirror: the rows of row.rt, and that the machine goes along them. A row ends where a code decides, or where codes are kept.
use Rattle.std.specs.Prelude.{◌≡◌, refl, Bool, true, false, List, [], ◌∷◌, ◌++◌, ℕ, zero, suc, ◌-◌, ◌%◌, ◌^◌, ◌≤◌, ◌<◌, eqb, leb}
use Rattle.std.proofs.Common.{ap, sym, ◌∙◌, subst, arith, le-leb, leb-true}
use Rattle.std.proofs.lemmas.Bool.{lt-leb}
use Rattle.layout.specs.Layout.{pick}
use Rattle.layout.specs.Tests.{one_less}
use Rattle.rows.specs.declared.Row.{Row}
use Rattle.rows.specs.Rows.{field_in, word_of, cells, cells_in, cells_of, one_row, no_row}
use Rattle.rows.specs.Along.{is, in-pick, Along, stays, decides, passes, along-either, along-optional, Passes, along-again, alone-pick}
use Rattle.fields.specs.Fields.{table, find, line_of, sf}
use Rattle.codes.specs.declared.Constellation.{Constellation}
use Rattle.hpac.specs.declared.Area.{Area}
use Rattle.hpac.specs.declared.Walk.{Walk}
use Rattle.hpac.specs.declared.State.{State}
use Rattle.hpac.specs.declared.State.TheVariants.{Siou, Aiou, Reserved, Count, Id, Points, TroposphereBlocks, IonosphereBlocks, TroposphereEquation, TroposphereQuality, Delay, TroposphereSize, T00, T01, T10, T11, TroposphereResidualSize, TroposphereResidual, IonosphereEquation, MaskSize, Mask, Quality, Size, C00, C01, C10, C11, ResidualSize, Residual, Done}
use Rattle.hpac.specs.Machine.{hpac_field, hpac_step, residual_number, areas_from, area_end, slants_from, grid_from, residuals_from, ionosphere_from, t_grid_from, t_residuals_from}

-- ---- how a row ends: its last cells, and the state of the last one

-- the next area's SF031
abbrev pub area_tail : ℕ → ℕ
area_tail zero = 0
area_tail (suc more) = 31

-- the next satellite's SF055 and SF056
abbrev pub slant_tail : Area → ℕ → ℕ
slant_tail area zero = area_tail area.more
slant_tail area (suc more) = word_of (55 ∷ 56 ∷ [])

abbrev pub slant_last : Area → (equation size mask more : ℕ) → State
slant_last area equation size mask zero = area_end area
slant_last area equation size mask (suc more) = Size area (record { equation = equation; size = size; mask = mask; more = more })

abbrev pub slant_end_last : Area → Walk → State
slant_end_last area walk = slant_last area walk.equation walk.size walk.mask walk.more

-- SF063
abbrev pub grid_tail : Area → Walk → ℕ
grid_tail area walk = pick (leb 2 area.ionosphere) 63 (slant_tail area walk.more)

abbrev pub grid_last : Area → Walk → State
grid_last area walk = pick (leb 2 area.ionosphere) (ResidualSize area walk) (slant_end_last area walk)

-- SF054
abbrev pub ionosphere_tail : Area → ℕ
ionosphere_tail area = pick (leb 1 area.ionosphere) 54 (area_tail area.more)

-- SF051
abbrev pub t_grid_tail : Area → ℕ
t_grid_tail area = pick (leb 2 area.troposphere) 51 (ionosphere_tail area)

-- ---- coefficients

-- the constant, both slopes, the product
abbrev pub coefficients : (constant linear product : ℕ) → ℕ
coefficients constant linear product = word_of (constant ∷ linear ∷ linear ∷ product ∷ [])

-- all four of them, the first three or the first
abbrev pub by_equation : (equation word : ℕ) → ℕ
by_equation equation word = pick (leb 2 equation) word (pick (leb 1 equation) (word % 256 ^ 3) (word % 256))

-- with the size code at 0, and at 1
abbrev pub polynomial_cells : (equation size small large : ℕ) → ℕ
polynomial_cells equation size small large = by_equation equation (pick (eqb size 0) small large)

abbrev pub t00_row : Area → (equation size : ℕ) → Row
t00_row area equation size = record { group = polynomial_cells equation size (coefficients 45 46 47) (coefficients 48 49 50); more = 0; tail = t_grid_tail area }

abbrev pub c00_row : Area → Walk → (size : ℕ) → Row
c00_row area walk size =
    record { group = polynomial_cells walk.equation size (coefficients 57 58 59) (coefficients 60 61 62); more = 0; tail = grid_tail area walk }

-- ---- residuals

abbrev pub t_residual_row : Area → (size more : ℕ) → Row
t_residual_row area size more = record { group = pick (eqb size 0) 52 53; more = more; tail = ionosphere_tail area }

abbrev pub residual_row : Area → Walk → (size more : ℕ) → Row
residual_row area walk size more = record { group = residual_number size; more = more; tail = slant_tail area walk.more }

-- ---- a test of the code's helpers

pub polynomial-of : (equation size small large : ℕ) {word r : ℕ} → word ≡ pick (eqb size 0) small large → r ≡ by_equation equation word
    → r ≡ polynomial_cells equation size small large
polynomial-of equation size small large e h = h ∙ ap (by_equation equation) e

pub area-none : (n : ℕ) → n ≡ 0 → 0 ≡ area_tail n
area-none n e = ap area_tail (sym e)

pub area-some : (n : ℕ) → (n ≡ 0 → ⊥) → 31 ≡ area_tail n
area-some n h = one_less area_tail n h

pub slant-none : (area : Area) (n : ℕ) {r : ℕ} → n ≡ 0 → r ≡ area_tail area.more → r ≡ slant_tail area n
slant-none area n e h = h ∙ ap (slant_tail area) (sym e)

pub slant-some : (area : Area) (n : ℕ) → (n ≡ 0 → ⊥) → word_of (55 ∷ 56 ∷ []) ≡ slant_tail area n
slant-some area n h = one_less (slant_tail area) n h

pub area-over : (c : Constellation) (siou aiou n code : ℕ) → n ≡ 0 → Done ≡ hpac_step (areas_from c siou aiou n) code
area-over c siou aiou n code e = ap (λ (x : ℕ). hpac_step (areas_from c siou aiou x) code) (sym e)

pub area-next : (c : Constellation) (siou aiou n code : ℕ) → (n ≡ 0 → ⊥)
    → Points (record { constellation = c; siou = siou; aiou = aiou; more = n - 1 }) code ≡ hpac_step (areas_from c siou aiou n) code
area-next c siou aiou n code h = one_less (λ x. hpac_step (areas_from c siou aiou x) code) n h

pub slant-over : (area : Area) (equation size mask n code : ℕ) {r : State} → n ≡ 0 → r ≡ hpac_step (area_end area) code
    → r ≡ hpac_step (slant_last area equation size mask n) code
slant-over area equation size mask n code e h = h ∙ ap (λ (x : ℕ). hpac_step (slant_last area equation size mask x) code) (sym e)

pub slant-next : (area : Area) (equation size mask n code : ℕ) → (n ≡ 0 → ⊥)
    → C00 area (record { equation = equation; size = size; mask = mask; more = n - 1 }) code ≡ hpac_step (slant_last area equation size mask n) code
slant-next area equation size mask n code h = one_less (λ x. hpac_step (slant_last area equation size mask x) code) n h

pub step-least : (a b : ℕ) (x y : State) {r : State} (c : ℕ) → a ≤ b → r ≡ hpac_step x c → r ≡ hpac_step (pick (leb a b) x y) c
step-least a b x y c e h = rw (le-leb a b e) h

pub step-below : (a b : ℕ) (x y : State) {r : State} (c : ℕ) → b < a → r ≡ hpac_step y c → r ≡ hpac_step (pick (leb a b) x y) c
step-below a b x y c e h = rw (lt-leb a b e) h

-- ---- the machine goes along them

area-along : (c : Constellation) (siou aiou more : ℕ)
    → Along hpac_field hpac_step (areas_from c siou aiou more) (cells_in (area_tail more)) (hpac_step (areas_from c siou aiou more))
unfolding cells cells_in field_in sf line_of find table
area-along c siou aiou zero = stays (λ _. refl)
area-along c siou aiou (suc more) = decides (is refl) (λ _. refl)

area-end-along : (area : Area) → Along hpac_field hpac_step (area_end area) (cells_in (area_tail area.more)) (hpac_step (area_end area))
area-end-along area = area-along area.constellation area.siou area.aiou area.more

slant-along : (area : Area) (equation size mask more : ℕ)
    → Along hpac_field hpac_step (slants_from area equation size mask more) (cells_in (slant_tail area more)) (hpac_step (slant_last area equation size mask more))
unfolding cells cells_in field_in sf line_of find table
slant-along area equation size mask zero = area-end-along area
slant-along area equation size mask (suc more) = passes (is refl) (λ _. decides (is refl) (λ _. refl))

grid-along : (area : Area) (walk : Walk) → Along hpac_field hpac_step (grid_from area walk) (cells_in (grid_tail area walk)) (hpac_step (grid_last area walk))
unfolding cells cells_in field_in sf line_of find table
grid-along area walk =
    along-either hpac_field hpac_step (leb 2 area.ionosphere) 63 (slant_tail area walk.more) (decides (is refl) (λ _. refl))
    (slant-along area walk.equation walk.size walk.mask walk.more)

ionosphere-along : (area : Area) → Along hpac_field hpac_step (ionosphere_from area) (cells_in (ionosphere_tail area)) (hpac_step (ionosphere_from area))
unfolding cells cells_in field_in sf line_of find table
ionosphere-along area = along-either hpac_field hpac_step (leb 1 area.ionosphere) 54 (area_tail area.more) (decides (is refl) (λ _. refl)) (area-end-along area)

t-grid-along : (area : Area) → Along hpac_field hpac_step (t_grid_from area) (cells_in (t_grid_tail area)) (hpac_step (t_grid_from area))
unfolding cells cells_in field_in sf line_of find table
t-grid-along area = along-either hpac_field hpac_step (leb 2 area.troposphere) 51 (ionosphere_tail area) (decides (is refl) (λ _. refl)) (ionosphere-along area)

-- a word of the four coefficients: its cells with each equation
data Coefficients (word constant linear product : ℕ) : Type 0 where
  are : cells_in word ≡ constant ∷ linear ∷ linear ∷ product ∷ [] → cells_in (word % 256 ^ 3) ≡ constant ∷ linear ∷ linear ∷ []
      → cells_in (word % 256) ≡ constant ∷ [] → Coefficients word constant linear product

coefficients-pick : (b : Bool) {w w' x x' y y' z z' : ℕ} → Coefficients w x y z → Coefficients w' x' y' z'
    → Coefficients (pick b w w') (pick b x x') (pick b y y') (pick b z z')
coefficients-pick true p q = p
coefficients-pick false p q = q

-- the constant, the slopes if there are any, the product if there is one
polynomial-cells : (equation : ℕ) {word x y z : ℕ} (tail : List ℕ) → Coefficients word x y z
    → cells_in (by_equation equation word) ++ tail ≡ x ∷ (pick (leb 1 equation) (y ∷ y ∷ []) [] ++ (pick (leb 2 equation) (z ∷ []) [] ++ tail))
polynomial-cells equation {word} {x} {y} {z} tail (are p q r) =
    go (leb 1 equation) (leb 2 equation) (λ e. let h = leb-true 2 equation e in le-leb 1 equation (omega arith))
  where
    go : (a b : Bool) → (b ≡ true → a ≡ true)
        → cells_in (pick b word (pick a (word % 256 ^ 3) (word % 256))) ++ tail ≡ x ∷ (pick a (y ∷ y ∷ []) [] ++ (pick b (z ∷ []) [] ++ tail))
    go true true h = ap (λ cs. cs ++ tail) p
    go true false h = ap (λ cs. cs ++ tail) q
    go false false h = ap (λ cs. cs ++ tail) r
    go false true h = let e : ◌≡◌ {A = Bool} false true = h refl in let n : ◌≡◌ {A = ℕ} 0 1 = cc in absurd (omega arith)

-- a polynomial of the troposphere or the ionosphere, by the states of its four coefficients
polynomial-along : (equation : ℕ) {word x y z : ℕ} {c00 c01 c10 c11 end : State} {tail : List ℕ} {after : ℕ → State} → Coefficients word x y z
    → Passes hpac_field hpac_step c00 x (pick (leb 1 equation) c01 (pick (leb 2 equation) c11 end))
    → Passes hpac_field hpac_step c01 y c10 → Passes hpac_field hpac_step c10 y (pick (leb 2 equation) c11 end) → Passes hpac_field hpac_step c11 z end
    → Along hpac_field hpac_step end tail after → Along hpac_field hpac_step c00 (cells_in (by_equation equation word) ++ tail) after
polynomial-along equation {y} {z} {c00} {tail} {after} cs p00 p01 p10 p11 rest =
    subst (λ cs. Along hpac_field hpac_step c00 cs after) (sym (polynomial-cells equation tail cs))
    (p00 _ _ (along-optional hpac_field hpac_step (leb 1 equation) (y ∷ y ∷ []) (λ rest. p01 _ _ (p10 _ _ rest))
    (along-optional hpac_field hpac_step (leb 2 equation) (z ∷ []) (λ rest. p11 _ _ rest) rest)))

pub c00-along : (area : Area) (walk : Walk) (size : ℕ) → Along hpac_field hpac_step (C00 area walk size) (cells_of (c00_row area walk size)) (hpac_step (grid_last area walk))
unfolding cells cells_in field_in sf line_of find table
c00-along area walk size =
    polynomial-along walk.equation {c01 = C01 area walk size} {c10 = C10 area walk size} {c11 = C11 area walk size}
    (coefficients-pick (eqb size 0) {x = 57} {x' = 60} {y = 58} {y' = 61} {z = 59} {z' = 62} (are refl refl refl) (are refl refl refl))
    (λ _ _ rest. passes (in-pick (eqb size 0) (is refl) (is refl)) (λ _. rest)) (λ _ _ rest. passes (in-pick (eqb size 0) (is refl) (is refl)) (λ _. rest))
    (λ _ _ rest. passes (in-pick (eqb size 0) (is refl) (is refl)) (λ _. rest)) (λ _ _ rest. passes (in-pick (eqb size 0) (is refl) (is refl)) (λ _. rest))
    (grid-along area walk)

pub t00-along : (area : Area) (equation size : ℕ) → Along hpac_field hpac_step (T00 area equation size) (cells_of (t00_row area equation size)) (hpac_step (t_grid_from area))
unfolding cells cells_in field_in sf line_of find table
t00-along area equation size =
    polynomial-along equation {c01 = T01 area equation size} {c10 = T10 area equation size} {c11 = T11 area equation size}
    (coefficients-pick (eqb size 0) {x = 45} {x' = 48} {y = 46} {y' = 49} {z = 47} {z' = 50} (are refl refl refl) (are refl refl refl))
    (λ _ _ rest. passes (in-pick (eqb size 0) (is refl) (is refl)) (λ _. rest)) (λ _ _ rest. passes (in-pick (eqb size 0) (is refl) (is refl)) (λ _. rest))
    (λ _ _ rest. passes (in-pick (eqb size 0) (is refl) (is refl)) (λ _. rest)) (λ _ _ rest. passes (in-pick (eqb size 0) (is refl) (is refl)) (λ _. rest))
    (t-grid-along area)

pub residuals-along : (area : Area) (walk : Walk) (size more : ℕ)
    → Along hpac_field hpac_step (Residual area walk size more) (cells_of (residual_row area walk size more)) (hpac_step (slant_end_last area walk))
unfolding cells cells_in field_in sf line_of find table
residuals-along area walk size more =
    along-again hpac_field hpac_step (residuals_from area walk size) (residual_number size)
    (alone-pick (eqb size 0) refl (alone-pick (eqb size 1) refl (alone-pick (eqb size 2) refl refl)))
    (λ n _ _ rest. passes (in-pick (eqb size 0) (is refl) (in-pick (eqb size 1) (is refl) (in-pick (eqb size 2) (is refl) (is refl)))) (λ _. rest))
    (slant-along area walk.equation walk.size walk.mask walk.more) (suc more)

pub t-residuals-along : (area : Area) (size more : ℕ)
    → Along hpac_field hpac_step (TroposphereResidual area size more) (cells_of (t_residual_row area size more)) (hpac_step (ionosphere_from area))
unfolding cells cells_in field_in sf line_of find table
t-residuals-along area size more =
    along-again hpac_field hpac_step (t_residuals_from area size) (pick (eqb size 0) 52 53) (alone-pick (eqb size 0) refl refl)
    (λ n _ _ rest. passes (in-pick (eqb size 0) (is refl) (is refl)) (λ _. rest)) (ionosphere-along area) (suc more)

-- SF042, SF043 and SF044
pub t-quality-along : (area : Area) (equation : ℕ)
    → Along hpac_field hpac_step (TroposphereQuality area equation) (cells_of (one_row (word_of (42 ∷ 43 ∷ 44 ∷ [])))) (hpac_step (TroposphereSize area equation))
unfolding cells cells_in field_in sf line_of find table
t-quality-along area equation = go
  where
    go : Along hpac_field hpac_step (TroposphereQuality area equation) (42 ∷ 43 ∷ 44 ∷ []) (hpac_step (TroposphereSize area equation))
    go = passes (is refl) (λ _. passes (is refl) (λ _. decides (is refl) (λ _. refl)))

-- SF055 and SF056
pub quality-along : (area : Area) (walk : Walk) → Along hpac_field hpac_step (Quality area walk) (cells_of (one_row (word_of (55 ∷ 56 ∷ [])))) (hpac_step (Size area walk))
unfolding cells cells_in field_in sf line_of find table
quality-along area walk = passes (is refl) (λ _. decides (is refl) (λ _. refl))

-- ---- the row from a state on

-- with the state of its last field, and that the machine goes along the row to the step from there
pub record Stretch (s : State) : Type 0 where
  pub row : Row
  pub last : State
  pub along : (row.group ≡ 0 → ⊥) → Along hpac_field hpac_step s (cells_of row) (hpac_step last)

abbrev none : {s : State} → Stretch s
none = record { row = no_row; last = Done; along = λ h. absurd (h refl) }

abbrev pub stretch : (s : State) → Stretch s
stretch (Siou c) = none
stretch (Aiou c siou) = none
stretch (Reserved c siou aiou) = none
stretch (Count c siou aiou) = none
stretch (Id head) = none
stretch (Points head id) = none
stretch (TroposphereBlocks head id points) = none
stretch (IonosphereBlocks head id points troposphere) = none
stretch (TroposphereEquation area) = none
stretch (TroposphereQuality area equation) = record { row = one_row (word_of (42 ∷ 43 ∷ 44 ∷ [])); last = TroposphereSize area equation; along = λ _. t-quality-along area equation }
stretch (Delay area equation) = none
stretch (TroposphereSize area equation) = none
stretch (T00 area equation size) = record { row = t00_row area equation size; last = t_grid_from area; along = λ _. t00-along area equation size }
stretch (T01 area equation size) = none
stretch (T10 area equation size) = none
stretch (T11 area equation size) = none
stretch (TroposphereResidualSize area) = none
stretch (TroposphereResidual area size more) = record { row = t_residual_row area size more; last = ionosphere_from area; along = λ _. t-residuals-along area size more }
stretch (IonosphereEquation area) = none
stretch (MaskSize area equation) = none
stretch (Mask area equation size) = none
stretch (Quality area walk) = record { row = one_row (word_of (55 ∷ 56 ∷ [])); last = Size area walk; along = λ _. quality-along area walk }
stretch (Size area walk) = none
stretch (C00 area walk size) = record { row = c00_row area walk size; last = grid_last area walk; along = λ _. c00-along area walk size }
stretch (C01 area walk size) = none
stretch (C10 area walk size) = none
stretch (C11 area walk size) = none
stretch (ResidualSize area walk) = none
stretch (Residual area walk size more) = record { row = residual_row area walk size more; last = slant_end_last area walk; along = λ _. residuals-along area walk size more }
stretch Done = none

abbrev pub hpac_row : State → Row
hpac_row s = (stretch s).row

abbrev pub hpac_last : State → State
hpac_last s = (stretch s).last

pub rowed : (s : State) → ((hpac_row s).group ≡ 0 → ⊥) → Along hpac_field hpac_step s (cells_of (hpac_row s)) (hpac_step (hpac_last s))
rowed s = (stretch s).along
