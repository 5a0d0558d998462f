-- Mirror: the code of for_hpac.rt, which passes over an HPAC payload (document 000, tables 6.13 to 6.22). It serves proofs; HpacReads.antt proves that what passes reads.
-- An end of 0 says that a part does not pass.
use Rattle.std.specs.Prelude.{◌≡◌, Bool, List, ℕ, zero, suc, ◌+◌, ◌*◌, ◌/◌, ◌^◌, ◌≤◌, eqb, ltb, leb, length, Some, None}
use Rattle.std.specs.Int.Bits.{bit_and}
use Rattle.std.specs.Int.Count.{ones}
use Rattle.bits.specs.Bits.{got}
use Rattle.layout.specs.Layout.{pick}
use Rattle.codes.specs.declared.Constellation.{Constellation}
use Rattle.codes.specs.Tables.{mask_size}
use Rattle.hpac.specs.Hpac.{troposphere_residual, ionosphere_residual}
use Rattle.quick.specs.Results.{Quick}
use Rattle.quick.specs.declared.for_hpac.Behind.{Behind}

-- what the code's functions answer: this value, which is no more than so much; and the end of a part and its entries, neither of them over a bound
pub record Within (value most r : ℕ) : Type 0 where
  pub same : r ≡ value
  pub few : r ≤ most

pub record Spans (value : Behind) (most entries : ℕ) (r : Behind) : Type 0 where
  pub same : r ≡ value
  pub few : r.end ≤ most
  pub light : r.entries ≤ entries

pub within : {value most r : ℕ} → r ≡ value → r ≤ most → Within value most r
within e h = record { same = e; few = h }

pub spans : {value : Behind} {most entries : ℕ} {r : Behind} → r ≡ value → r.end ≤ most → r.entries ≤ entries → Spans value most entries r
spans e h l = record { same = e; few = h; light = l }

-- behind a coefficient that is not all ones
unfoldable pub one_end : (payload : List ℕ) (pos width top : ℕ) → ℕ
one_end payload pos width top = pick (eqb (got payload pos width) top) 0 (pos + width)

-- behind three of one width
unfoldable pub three_end : (payload : List ℕ) (pos width top : ℕ) → ℕ
three_end payload pos width top =
    let three : ℕ = got payload pos (3 * width) in
    pick (eqb (three / 2 ^ (2 * width)) top) 0 (
    pick (eqb (bit_and (three / 2 ^ width) top) top) 0 (
    pick (eqb (bit_and three top) top) 0
    (pos + 3 * width)))

-- the constant and, in models 1 and 2, the slopes
unfoldable pub linear_end : (payload : List ℕ) (pos equation width top : ℕ) → ℕ
linear_end payload pos equation width top = pick (eqb equation 0) (one_end payload pos width top) (three_end payload pos width top)

-- in model 2 the product behind them
unfoldable pub product_end : (payload : List ℕ) (pos equation width top : ℕ) → ℕ
product_end payload pos equation width top = pick (eqb pos 0) 0 (pick (ltb equation 2) pos (one_end payload pos width top))

unfoldable pub t_polynomial_end : (payload : List ℕ) (pos equation size : ℕ) → ℕ
t_polynomial_end payload pos equation size =
    pick (eqb size 0) (product_end payload (linear_end payload pos equation 7 127) equation 9 511)
    (product_end payload (linear_end payload pos equation 9 511) equation 11 2047)

unfoldable pub i_polynomial_end : (payload : List ℕ) (pos equation size : ℕ) → ℕ
i_polynomial_end payload pos equation size =
    pick (eqb size 0) (product_end payload (linear_end payload pos equation 12 4095) equation 13 8191)
    (product_end payload (linear_end payload pos equation 14 16383) equation 15 32767)

-- how many coefficients a model has, and how many entries a grid
unfoldable pub coefficient_count : ℕ → ℕ
coefficient_count equation = pick (eqb equation 0) 1 (equation + 2)

unfoldable pub grid_entries : (grids : Bool) (points : ℕ) → ℕ
grid_entries grids points = pick grids (points + 1) 0

-- ---- the blocks of an area

unfoldable pub slant_end : (payload : List ℕ) (pos equation : ℕ) (grids : Bool) (points : ℕ) → ℕ
slant_end payload pos equation grids points =
    let end : ℕ = i_polynomial_end payload (pos + 5) equation (got payload (pos + 4) 1) in
    pick (eqb end 0) 0 (pick grids (end + 2 + (ionosphere_residual (got payload end 2)).width * points) end)

-- n satellites
unfoldable pub slants_end : (payload : List ℕ) (n pos equation : ℕ) (grids : Bool) (points : ℕ) → ℕ
slants_end payload zero pos equation grids points = pos
slants_end payload (suc n) pos equation grids points =
    pick (eqb (slant_end payload pos equation grids points) 0) 0 (slants_end payload n (slant_end payload pos equation grids points) equation grids points)

abbrev pub nowhere : Behind
nowhere = record { end = 0; entries = 0 }

unfoldable pub satellites_behind : (payload : List ℕ) (pos mask equation : ℕ) (grids : Bool) (points : ℕ) → Behind
satellites_behind payload pos mask equation grids points =
    pick (eqb mask 0) nowhere
    (record {
      end = slants_end payload (ones mask) pos equation grids points;
      entries = 3 + ones mask * (2 + coefficient_count equation + grid_entries grids points);
    })

unfoldable pub ionosphere_behind : Constellation → (payload : List ℕ) (pos blocks points : ℕ) → Behind
ionosphere_behind constellation payload pos blocks points =
    let head : ℕ = got payload pos 5 in
    let width : ℕ = mask_size constellation (bit_and head 3) in
    pick (eqb blocks 0) (record { end = pos; entries = 0 }) (
    pick (ltb 2 (head / 2 ^ 2)) nowhere
    (satellites_behind payload (pos + 5 + width) (got payload (pos + 5) width) (head / 2 ^ 2) (leb 2 blocks) points))

unfoldable pub t_grid_behind : (payload : List ℕ) (pos equation : ℕ) (grids : Bool) (points : ℕ) → Behind
t_grid_behind payload pos equation grids points =
    pick (eqb pos 0) nowhere (
    pick grids (record { end = pos + 1 + (troposphere_residual (got payload pos 1)).width * points; entries = 4 + coefficient_count equation + (points + 1) })
    (record { end = pos; entries = 4 + coefficient_count equation }))

unfoldable pub troposphere_behind : (payload : List ℕ) (pos blocks points : ℕ) → Behind
troposphere_behind payload pos blocks points =
    let head : ℕ = got payload pos 15 in
    pick (eqb blocks 0) (record { end = pos; entries = 0 }) (
    pick (ltb 2 (head / 2 ^ 12)) nowhere (
    pick (eqb (bit_and (head / 2 ^ 1) 255) 255) nowhere
    (t_grid_behind payload (t_polynomial_end payload (pos + 15) (head / 2 ^ 12) (bit_and head 1)) (head / 2 ^ 12) (leb 2 blocks) points)))

-- ---- areas

-- both blocks, the ionosphere's from where the troposphere's ends
unfoldable pub ionosphere_after : Constellation → (payload : List ℕ) (troposphere : Behind) (blocks points : ℕ) → Behind
ionosphere_after constellation payload troposphere blocks points =
    let ionosphere : Behind = ionosphere_behind constellation payload troposphere.end blocks points in
    pick (eqb troposphere.end 0) nowhere
    (record { end = ionosphere.end; entries = 4 + troposphere.entries + ionosphere.entries })

unfoldable pub area_behind : Constellation → (payload : List ℕ) (pos : ℕ) → Behind
area_behind constellation payload pos =
    let head : ℕ = got payload pos 19 in
    let points : ℕ = bit_and (head / 2 ^ 4) 127 in
    pick (eqb (bit_and (head / 2 ^ 2) 3) 3) nowhere (
    pick (eqb (bit_and head 3) 3) nowhere
    (ionosphere_after constellation payload (troposphere_behind payload (pos + 19) (bit_and (head / 2 ^ 2) 3) points) (bit_and head 3) points))

-- n areas, with so many entries before them
unfoldable pub areas_behind : Constellation → (payload : List ℕ) (n pos entries : ℕ) → Behind
areas_behind constellation payload zero pos entries = record { end = pos; entries = entries }
areas_behind constellation payload (suc n) pos entries =
    let area : Behind = area_behind constellation payload pos in
    pick (eqb area.end 0) nowhere (areas_behind constellation payload n area.end (entries + area.entries))

-- it passes if its bits are there
unfoldable pub reads_by : (bytes : ℕ) → Behind → Quick
reads_by bytes behind =
    pick (eqb behind.end 0) None (
    pick (ltb bytes ((behind.end + 7) / 8)) None
    (Some (record { bits = behind.end; entries = behind.entries })))

unfoldable pub hpac_quick : Constellation → List ℕ → Quick
hpac_quick constellation payload = reads_by (length payload) (areas_behind constellation payload (got payload 14 5 + 1) 19 4)
