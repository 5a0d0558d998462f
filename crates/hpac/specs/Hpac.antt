-- Definitions to believe: high precision atmosphere messages, 1-0 to 1-4 (document 000, tables 6.13 to 6.22).
use Rattle.std.specs.Prelude.{List, ℕ, suc, eqb, leb}
use Rattle.layout.specs.declared.Field.{Field}
use Rattle.layout.specs.Layout.{Layout, field, pick}
use Rattle.layout.specs.Parts.{Part, optional, times, each}
use Rattle.fields.specs.Fields.{sf}
use Rattle.codes.specs.declared.Constellation.{Constellation}
use Rattle.codes.specs.Fields.{satellite_mask}

-- T01 and T10, or C01 and C10
pub record Slopes : Type 0 where
  pub latitude : ℕ
  pub longitude : ℕ

-- T00, T01, T10, T11, or C00, C01, C10, C11
pub record Polynomial : Type 0 where
  pub constant : ℕ
  pub slopes : Part Slopes
  pub product : Part ℕ

-- the residual size code, SF051 or SF063, and a residual for each grid point
pub record Grid : Type 0 where
  pub size : ℕ
  pub residuals : List ℕ

-- with the coefficients' size code, SF044
pub record Troposphere : Type 0 where
  pub equation : ℕ
  pub quality : ℕ
  pub delay : ℕ
  pub coefficient_size : ℕ
  pub polynomial : Polynomial
  pub grid : Part Grid

-- with the coefficients' size code, SF056
pub record Slant : Type 0 where
  pub number : ℕ
  pub quality : ℕ
  pub coefficient_size : ℕ
  pub polynomial : Polynomial
  pub grid : Part Grid

pub record Ionosphere : Type 0 where
  pub equation : ℕ
  pub satellites : List Slant

pub record Area : Type 0 where
  pub id : ℕ
  pub points : ℕ
  pub troposphere_blocks : ℕ
  pub ionosphere_blocks : ℕ
  pub troposphere : Part Troposphere
  pub ionosphere : Part Ionosphere

pub record Hpac : Type 0 where
  pub siou : ℕ
  pub aiou : ℕ
  pub areas : List Area

-- ---- polynomials and grids

-- models 1 and 2 have the slopes
abbrev pub slopes : {A : Type 0} → Field → (Slopes → Layout A) → Layout A
slopes linear k =
    field linear (λ latitude.
    field linear (λ longitude.
    k (record { latitude = latitude; longitude = longitude })))

-- model 2 has the product too
abbrev pub polynomial : {A : Type 0} → (constant linear product : Field) → (equation : ℕ) → (Polynomial → Layout A) → Layout A
polynomial constant linear product equation k =
    field constant (λ c00.
    optional (leb 1 equation) (slopes linear) (λ c01-c10.
    optional (leb 2 equation) (field product) (λ c11.
    k (record { constant = c00; slopes = c01-c10; product = c11 }))))

abbrev pub grid : {A : Type 0} → Field → (ℕ → Field) → (points : ℕ) → (Grid → Layout A) → Layout A
grid size_field residual points k =
    field size_field (λ size.
    times points (field (residual size)) (λ residuals.
    k (record { size = size; residuals = residuals })))

-- ---- troposphere

-- table 6.17 with SF044 0, table 6.18 with 1
abbrev pub troposphere_constant : ℕ → Field
troposphere_constant size = pick (eqb size 0) (sf 45) (sf 48)

abbrev pub troposphere_linear : ℕ → Field
troposphere_linear size = pick (eqb size 0) (sf 46) (sf 49)

abbrev pub troposphere_product : ℕ → Field
troposphere_product size = pick (eqb size 0) (sf 47) (sf 50)

-- by SF051
abbrev pub troposphere_residual : ℕ → Field
troposphere_residual size = pick (eqb size 0) (sf 52) (sf 53)

-- table 6.16: the grid with SF040 at 2
abbrev pub troposphere : {A : Type 0} → (indicator points : ℕ) → (Troposphere → Layout A) → Layout A
troposphere indicator points k =
    field (sf 41) (λ equation.
    field (sf 42) (λ quality.
    field (sf 43) (λ delay.
    field (sf 44) (λ size.
    polynomial (troposphere_constant size) (troposphere_linear size) (troposphere_product size) equation (λ polynomial.
    optional (leb 2 indicator) (grid (sf 51) troposphere_residual points) (λ grid.
    k (record { equation = equation; quality = quality; delay = delay; coefficient_size = size; polynomial = polynomial; grid = grid })))))))

-- ---- ionosphere

-- table 6.21 with SF056 0, table 6.22 with 1
abbrev pub ionosphere_constant : ℕ → Field
ionosphere_constant size = pick (eqb size 0) (sf 57) (sf 60)

abbrev pub ionosphere_linear : ℕ → Field
ionosphere_linear size = pick (eqb size 0) (sf 58) (sf 61)

abbrev pub ionosphere_product : ℕ → Field
ionosphere_product size = pick (eqb size 0) (sf 59) (sf 62)

-- by SF063
abbrev pub ionosphere_residual : ℕ → Field
ionosphere_residual size =
    pick (eqb size 0) (sf 64) (pick (eqb size 1) (sf 65) (pick (eqb size 2) (sf 66) (sf 67)))

-- table 6.20: the grid with SF040 at 2
abbrev pub slant : {A : Type 0} → (indicator points equation number : ℕ) → (Slant → Layout A) → Layout A
slant indicator points equation number k =
    field (sf 55) (λ quality.
    field (sf 56) (λ size.
    polynomial (ionosphere_constant size) (ionosphere_linear size) (ionosphere_product size) equation (λ polynomial.
    optional (leb 2 indicator) (grid (sf 63) ionosphere_residual points) (λ grid.
    k (record { number = number; quality = quality; coefficient_size = size; polynomial = polynomial; grid = grid })))))

-- table 6.19
abbrev pub ionosphere : {A : Type 0} → Constellation → (indicator points : ℕ) → (Ionosphere → Layout A) → Layout A
ionosphere constellation indicator points k =
    field (sf 54) (λ equation.
    satellite_mask constellation (λ numbers.
    each numbers (slant indicator points equation) (λ satellites.
    k (record { equation = equation; satellites = satellites }))))

-- ---- the message

-- tables 6.14 and 6.15: the blocks with their SF040 at 1 or 2
abbrev pub area : {A : Type 0} → Constellation → (Area → Layout A) → Layout A
area constellation k =
    field (sf 31) (λ id.
    field (sf 39) (λ points.
    field (sf 40) (λ troposphere_blocks.
    field (sf 40) (λ ionosphere_blocks.
    optional (leb 1 troposphere_blocks) (troposphere troposphere_blocks points) (λ troposphere.
    optional (leb 1 ionosphere_blocks) (ionosphere constellation ionosphere_blocks points) (λ ionosphere.
    k (record {
      id = id;
      points = points;
      troposphere_blocks = troposphere_blocks;
      ionosphere_blocks = ionosphere_blocks;
      troposphere = troposphere;
      ionosphere = ionosphere;
    })))))))

-- table 6.13; SF030 means code plus one
abbrev pub hpac : {A : Type 0} → Constellation → (Hpac → Layout A) → Layout A
hpac constellation k =
    field (sf 5) (λ siou.
    field (sf 68) (λ aiou.
    field (sf 69) (λ reserved.
    field (sf 30) (λ count.
    times (suc count) (area constellation) (λ areas.
    k (record { siou = siou; aiou = aiou; areas = areas }))))))
