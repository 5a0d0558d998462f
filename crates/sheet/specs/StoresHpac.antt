-- Serves proofs: what the functions of store.rt must come to, by the parts of the HPAC layout (document 000, tables 6.13 to 6.22). `Kept` and `Moved` serve the other
-- messages too.
use Rattle.std.specs.Prelude.{◌≡◌, List, ℕ, suc, ◌+◌, ◌≤◌, leb, length, set}
use Rattle.bits.specs.Bits.{to_bits, got}
use Rattle.layout.specs.declared.Field.{Field}
use Rattle.layout.specs.Layout.{Layout, field}
use Rattle.layout.specs.Parts.{optional, times, each}
use Rattle.layout.specs.Run.{finished, run_l}
use Rattle.codes.specs.declared.Constellation.{Constellation}
use Rattle.fields.specs.Fields.{sf}
use Rattle.hpac.specs.Hpac.{Troposphere, Area, polynomial, grid, troposphere_constant, troposphere_linear, troposphere_product, troposphere_residual, troposphere, ionosphere, slant, area}
use Rattle.message.specs.Messages.{Message, hpac_layout}
use Rattle.sheet.specs.declared.store.Here.{Here}
use Rattle.sheet.specs.Stores.{Finishes, Stores}

-- a code that is stored
pub record Kept (payload : List ℕ) (pos at width : ℕ) (sheet : List ℕ) (r : ℕ) (sheet' : List ℕ) : Type 0 where
  pub code : r ≡ got payload pos width
  pub stored : sheet' ≡ set sheet at r

-- a part that is stored, of no more bits and no more entries than so many
pub record Moved {B : Type 0} (payload : List ℕ) (part : (B → Layout Message) → Layout Message) (pos at : ℕ) (sheet : List ℕ) (most : ℕ) (r : Here) (sheet' : List ℕ) : Type 0 where
  pub stores : Stores payload part pos at sheet r.pos r.at sheet'
  pub few : r.pos ≤ pos + most
  pub light : r.at ≤ at + most

-- a polynomial whose fields have these widths
pub record PolynomialStored (payload : List ℕ) (equation width product pos at : ℕ) (sheet : List ℕ) (r : Here) (sheet' : List ℕ) : Type 0 where
  pub moved : (f g h : Field) → f.width ≡ width → g.width ≡ width → h.width ≡ product → Moved payload (polynomial f g h equation) pos at sheet 64 r sheet'

-- a satellite, whatever its number, and satellites, as many as are said
pub record SlantStored (payload : List ℕ) (blocks points equation pos at : ℕ) (sheet : List ℕ) (r : Here) (sheet' : List ℕ) : Type 0 where
  pub moved : (number : ℕ) → Moved payload (slant blocks points equation number) pos at sheet 2200 r sheet'

pub record SlantsStored (payload : List ℕ) (n blocks points equation pos at : ℕ) (sheet : List ℕ) (r : Here) (sheet' : List ℕ) : Type 0 where
  pub moved : (ms : List ℕ) → length ms ≡ n → Moved payload (each ms (slant blocks points equation)) pos at sheet 140800 r sheet'

-- the troposphere behind its model and its quality, whatever that is
abbrev pub troposphere_behind : (equation quality blocks points : ℕ) → (Troposphere → Layout Message) → Layout Message
troposphere_behind equation quality blocks points k =
    field (sf 43) (λ delay.
    field (sf 44) (λ size.
    polynomial (troposphere_constant size) (troposphere_linear size) (troposphere_product size) equation (λ polynomial.
    optional (leb 2 blocks) (grid (sf 51) troposphere_residual points) (λ grid.
    k (record { equation = equation; quality = quality; delay = delay; coefficient_size = size; polynomial = polynomial; grid = grid })))))

pub record TroposphereStored (payload : List ℕ) (equation blocks points pos at : ℕ) (sheet : List ℕ) (r : Here) (sheet' : List ℕ) : Type 0 where
  pub moved : (quality : ℕ) → Moved payload (troposphere_behind equation quality blocks points) pos at sheet 2190 r sheet'

-- an area behind its ID, whatever that is, and its count of points
abbrev pub area_behind : Constellation → (id points : ℕ) → (Area → Layout Message) → Layout Message
area_behind c id points k =
    field (sf 40) (λ t.
    field (sf 40) (λ i.
    optional (leb 1 t) (troposphere t points) (λ troposphere.
    optional (leb 1 i) (ionosphere c i points) (λ ionosphere.
    k (record { id = id; points = points; troposphere_blocks = t; ionosphere_blocks = i; troposphere = troposphere; ionosphere = ionosphere })))))

pub record BlocksStored (c : Constellation) (payload : List ℕ) (points pos at : ℕ) (sheet : List ℕ) (r : Here) (sheet' : List ℕ) : Type 0 where
  pub moved : (id : ℕ) → Moved payload (area_behind c id points) pos at sheet 143900 r sheet'

-- areas, from the end of the message's head on
pub record AreasStored (c : Constellation) (payload : List ℕ) (n : ℕ) (sheet sheet' : List ℕ) : Type 0 where
  pub end : ℕ
  pub entries : ℕ
  pub stores : Stores payload (times n (area c)) 19 4 sheet end entries sheet'

-- with their count before them
pub record CountedStored (c : Constellation) (payload sheet sheet' : List ℕ) : Type 0 where
  pub end : ℕ
  pub entries : ℕ
  pub stores : Stores payload (λ k. field (sf 30) (λ count. times (suc count) (area c) k)) 14 3 sheet end entries sheet'

-- the message
pub record HpacStored (c : Constellation) (payload sheet sheet' : List ℕ) : Type 0 where
  pub count : ℕ
  pub used : ℕ
  pub is : Finishes (run_l (hpac_layout c) (to_bits payload) 0 0 sheet) → run_l (hpac_layout c) (to_bits payload) 0 0 sheet ≡ finished count used sheet'
