-- The returns and the turns of store.rt over plain variables: what the proofs of its functions cite.
use mathlib.Core.Path.{◌≡◌, refl, ap, sym, ◌∙◌, subst}
use mathlib.Core.Bool.{Bool, true, false}
use mathlib.Core.List.{List, [], ◌∷◌}
use Prim.Native.Nat.{ℕ, suc, ◌+◌, ◌-◌, ◌*◌, ◌^◌, ◌≤◌, ◌<◌}
use native.Mathlib.Nat.{mul-le-mul_right}
use native.Mathlib.Numerals.{add-one}
use native.Mathlib.Omega.{arith}
use borrow.Author.Tests.{eq-eqb, ne_eqb, le-leb, lt-leb}
use lib.Count.{ones}
use lib.Dec.{eqb, leb, lit<, lit≤}
use lib.ListN.{length, set, length-set}
use Rattle.bits.specs.Bits.{got}
use Rattle.layout.specs.declared.Field.{Field}
use Rattle.layout.specs.Layout.{Layout, done, field, pick}
use Rattle.layout.specs.Parts.{absent, present, optional, times, each}
use Rattle.layout.specs.Run.{Ended, run_l}
use Rattle.layout.specs.Tests.{one_less}
use Rattle.fields.specs.Fields.{table, find, line_of, sf}
use Rattle.codes.specs.declared.Constellation.{Constellation}
use Rattle.codes.specs.Tables.{mask_size, first_satellite}
use Rattle.codes.specs.Fields.{satellites_of}
use Rattle.codes.specs.Sizes.{mask_word, mask-size-width}
use Rattle.hpac.specs.Hpac.{Polynomial, Slant, Area, slopes, polynomial, grid, troposphere_constant, troposphere_linear, troposphere_product, troposphere_residual, troposphere, ionosphere_constant, ionosphere_linear, ionosphere_product, ionosphere_residual, slant, ionosphere, area, hpac}
use Rattle.message.specs.Messages.{Message, hpac_message}
use Rattle.quick.specs.Passes.{got-small}
use Rattle.codes.specs.Stepping.{counted}
use Rattle.sheet.specs.declared.store.Here.{Here}
use Rattle.sheet.specs.Stores.{run_at, Finishes, Stores, stores-end, stores-field, stores-then, stores-with, stores_as, stretched, stores-stretch}
use Rattle.sheet.specs.StoresHpac.{Kept, Moved, PolynomialStored, SlantStored, SlantsStored, TroposphereStored, BlocksStored, AreasStored, CountedStored, HpacStored}

pub kept : (payload : List ℕ) (pos at width : ℕ) (sheet : List ℕ) (r : ℕ) (sheet' : List ℕ) → r ≡ got payload pos width → sheet' ≡ set sheet at r
    → Kept payload pos at width sheet r sheet'
kept payload pos at width sheet r sheet' e s = record { code = e; stored = s }

-- ---- a stretch

pub record Stretching (payload : List ℕ) (width n pos₀ at₀ : ℕ) (sheet₀ : List ℕ) (left pos at : ℕ) (sheet : List ℕ) : Type 0 where
  pub on : stretched payload width left pos at sheet ≡ stretched payload width n pos₀ at₀ sheet₀
  pub few : pos + 16 * left ≤ pos₀ + 16 * n
  pub light : at + left ≤ at₀ + n
  pub same : length sheet ≡ length sheet₀

pub stretch-start : (payload : List ℕ) (width n pos at : ℕ) (sheet : List ℕ) → Stretching payload width n pos at sheet n pos at sheet
stretch-start payload width n pos at sheet = record { on = refl; few = omega arith; light = omega arith; same = refl }

module _ {payload : List ℕ} {width n pos₀ at₀ : ℕ} {sheet₀ : List ℕ} {left pos at : ℕ} {sheet : List ℕ} (t : Stretching payload width n pos₀ at₀ sheet₀ left pos at sheet) where
  pub stretch-near : pos₀ < 2 ^ 37 → n ≤ 127 → width ≤ 16 → pos + width < 2 ^ 64
  stretch-near h k w = omega (arith, t.few)

  pub stretch-next : at₀ < 2 ^ 37 → n ≤ 127 → at + 1 < 2 ^ 64
  stretch-next h k = omega (arith, t.light)

  pub stretch-again : (c : ℕ) (sheet' : List ℕ) → 0 < left → width ≤ 16 → c ≡ got payload pos width → sheet' ≡ set sheet at c
      → Stretching payload width n pos₀ at₀ sheet₀ (left - 1) (pos + width) (at + 1) sheet'
  unfolding stretched
  stretch-again c sheet' h w e s =
      record {
        on = ap (stretched payload width (left - 1) (pos + width) (at + 1)) (s ∙ ap (set sheet at) e)
            ∙ one_less (λ (x : ℕ). stretched payload width x pos at sheet) left (λ z. omega arith) ∙ t.on;
        few = omega (arith, t.few);
        light = omega (arith, t.light);
        same = ap length s ∙ length-set sheet at c ∙ t.same;
      }

  pub stretch-done : left ≤ 0 → sheet ≡ stretched payload width n pos₀ at₀ sheet₀
  unfolding stretched
  stretch-done h = let z : 0 ≡ left = omega arith in ap (λ (x : ℕ). stretched payload width x pos at sheet) z ∙ t.on

-- ---- fields

-- a field whose code the code kept
pub stores-kept : {B : Type 0} {payload : List ℕ} {f : Field} {part : ℕ → (B → Layout Message) → Layout Message} {pos at : ℕ} {sheet : List ℕ} {pos' at' : ℕ} {sheet' : List ℕ}
    (w c : ℕ) (filled : List ℕ) → f.width ≡ w → 0 < w → w ≤ 64 → Kept payload pos at w sheet c filled → Stores payload (part c) (pos + w) (at + 1) filled pos' at' sheet'
    → Stores payload (λ k. field f (λ x. part x k)) pos at sheet pos' at' sheet'
stores-kept {payload = payload} {f = f} {part = part} {pos = pos} {at = at} {sheet = sheet} {pos' = pos'} {at' = at'} {sheet' = sheet'} w c filled e some word p rest =
    let code : c ≡ got payload pos f.width = p.code ∙ ap (got payload pos) (sym e) in
    let same : filled ≡ set sheet at (got payload pos f.width) = p.stored ∙ ap (set sheet at) code in
    stores-field (omega arith) (omega arith)
    (subst (λ (x : ℕ). Stores payload (part (got payload pos f.width)) (pos + x) (at + 1) (set sheet at (got payload pos f.width)) pos' at' sheet') (sym e)
    (subst (λ (x : List ℕ). Stores payload (part (got payload pos f.width)) (pos + w) (at + 1) x pos' at' sheet') same
    (subst (λ (x : ℕ). Stores payload (part x) (pos + w) (at + 1) filled pos' at' sheet') code rest)))

-- a part that a test says is there, or is not
pub stores-present : {B : Type 0} {payload : List ℕ} {part : (B → Layout Message) → Layout Message} {pos at : ℕ} {sheet : List ℕ} {pos' at' : ℕ} {sheet' : List ℕ} (b : Bool) → b ≡ true
    → Stores payload part pos at sheet pos' at' sheet' → Stores payload (optional b part) pos at sheet pos' at' sheet'
stores-present true e p = stores-with present p
stores-present false e p = let z : ◌≡◌ {A = ℕ} 0 1 = cc in absurd (omega arith)

pub stores-absent : {B : Type 0} {payload : List ℕ} (part : (B → Layout Message) → Layout Message) (pos at : ℕ) (sheet : List ℕ) (b : Bool) → b ≡ false
    → Stores payload (optional b part) pos at sheet pos at sheet
stores-absent part pos at sheet false e = stores-end absent pos at sheet
stores-absent part pos at sheet true e = let z : ◌≡◌ {A = ℕ} 0 1 = cc in absurd (omega arith)

-- ---- polynomials

abbrev polynomial_by : (slopes' product' : Bool) → (constant linear product : Field) → (Polynomial → Layout Message) → Layout Message
polynomial_by a b constant linear product k =
    field constant (λ c00.
    optional a (slopes linear) (λ c01-c10.
    optional b (field product) (λ c11.
    k (record { constant = c00; slopes = c01-c10; product = c11 }))))

module _ (payload : List ℕ) (equation w v pos at : ℕ) (sheet : List ℕ) (c0 : ℕ) (s1 : List ℕ) (some : 0 < w) (few : w ≤ 16) (p0 : Kept payload pos at w sheet c0 s1) where
  pub model-0 : equation ≡ 0 → PolynomialStored payload equation w v pos at sheet (record { pos = pos + w; at = at + 1 }) s1
  model-0 z =
      record {
        moved = λ f g h ef eg eh. record {
          stores = subst (λ (b : Bool). Stores payload (polynomial_by b (leb 2 equation) f g h) pos at sheet (pos + w) (at + 1) s1) (sym (lt-leb 1 equation (omega arith)))
              (subst (λ (b : Bool). Stores payload (polynomial_by false b f g h) pos at sheet (pos + w) (at + 1) s1) (sym (lt-leb 2 equation (omega arith)))
              (stores-kept w c0 s1 ef some (omega arith) p0 (stores-end (record { constant = c0; slopes = absent; product = absent }) (pos + w) (at + 1) s1)));
          few = omega arith;
          light = omega arith;
        };
      }

  module _ (c1 c2 : ℕ) (s2 s3 : List ℕ) (p1 : Kept payload (pos + w) (at + 1) w s1 c1 s2) (p2 : Kept payload (pos + w + w) (at + 1 + 1) w s2 c2 s3) (other : equation ≡ 0 → ⊥) where
    pub model-1 : equation ≡ 1 → PolynomialStored payload equation w v pos at sheet (record { pos = pos + w + w + w; at = at + 1 + 1 + 1 }) s3
    model-1 z =
        record {
          moved = λ f g h ef eg eh. record {
            stores = subst (λ (b : Bool). Stores payload (polynomial_by b (leb 2 equation) f g h) pos at sheet (pos + w + w + w) (at + 1 + 1 + 1) s3) (sym (le-leb 1 equation (omega arith)))
                (subst (λ (b : Bool). Stores payload (polynomial_by true b f g h) pos at sheet (pos + w + w + w) (at + 1 + 1 + 1) s3) (sym (lt-leb 2 equation (omega arith)))
                (stores-kept w c0 s1 ef some (omega arith) p0
                (stores-kept w c1 s2 eg some (omega arith) p1
                (stores-kept w c2 s3 eg some (omega arith) p2
                (stores-end (record { constant = c0; slopes = present (record { latitude = c1; longitude = c2 }); product = absent }) (pos + w + w + w) (at + 1 + 1 + 1) s3)))));
            few = omega arith;
            light = omega arith;
          };
        }

    pub model-2 : (c3 : ℕ) (s4 : List ℕ) → (equation ≡ 1 → ⊥) → 0 < v → v ≤ 16 → Kept payload (pos + w + w + w) (at + 1 + 1 + 1) v s3 c3 s4
        → PolynomialStored payload equation w v pos at sheet (record { pos = pos + w + w + w + v; at = at + 1 + 1 + 1 + 1 }) s4
    model-2 c3 s4 z many small p3 =
        record {
          moved = λ f g h ef eg eh. record {
            stores = subst (λ (b : Bool). Stores payload (polynomial_by b (leb 2 equation) f g h) pos at sheet (pos + w + w + w + v) (at + 1 + 1 + 1 + 1) s4) (sym (le-leb 1 equation (omega arith)))
                (subst (λ (b : Bool). Stores payload (polynomial_by true b f g h) pos at sheet (pos + w + w + w + v) (at + 1 + 1 + 1 + 1) s4) (sym (le-leb 2 equation (omega arith)))
                (stores-kept w c0 s1 ef some (omega arith) p0
                (stores-kept w c1 s2 eg some (omega arith) p1
                (stores-kept w c2 s3 eg some (omega arith) p2
                (stores-kept v c3 s4 eh many (omega arith) p3
                (stores-end (record { constant = c0; slopes = present (record { latitude = c1; longitude = c2 }); product = present c3 }) (pos + w + w + w + v) (at + 1 + 1 + 1 + 1) s4))))));
            few = omega arith;
            light = omega arith;
          };
        }

-- the fields by the size code
pick-width : (size x y w : ℕ) (b : Bool) → eqb size 0 ≡ b → (pick b (sf x) (sf y)).width ≡ w → (pick (eqb size 0) (sf x) (sf y)).width ≡ w
pick-width size x y w b e q = ap (λ (z : Bool). (pick z (sf x) (sf y)).width) e ∙ q

module _ {payload : List ℕ} (equation size : ℕ) {pos at : ℕ} {sheet : List ℕ} {r : Here} {sheet' : List ℕ} where
  pub t-small : size ≡ 0 → PolynomialStored payload equation 7 9 pos at sheet r sheet'
      → Moved payload (polynomial (troposphere_constant size) (troposphere_linear size) (troposphere_product size) equation) pos at sheet 64 r sheet'
  unfolding sf line_of find table
  t-small z p =
      let e : eqb size 0 ≡ true = eq-eqb size 0 z in
      p.moved (troposphere_constant size) (troposphere_linear size) (troposphere_product size)
      (pick-width size 45 48 7 true e refl) (pick-width size 46 49 7 true e refl) (pick-width size 47 50 9 true e refl)

  pub t-large : (size ≡ 0 → ⊥) → PolynomialStored payload equation 9 11 pos at sheet r sheet'
      → Moved payload (polynomial (troposphere_constant size) (troposphere_linear size) (troposphere_product size) equation) pos at sheet 64 r sheet'
  unfolding sf line_of find table
  t-large z p =
      let e : eqb size 0 ≡ false = ne_eqb size 0 z in
      p.moved (troposphere_constant size) (troposphere_linear size) (troposphere_product size)
      (pick-width size 45 48 9 false e refl) (pick-width size 46 49 9 false e refl) (pick-width size 47 50 11 false e refl)

  pub i-small : size ≡ 0 → PolynomialStored payload equation 12 13 pos at sheet r sheet'
      → Moved payload (polynomial (ionosphere_constant size) (ionosphere_linear size) (ionosphere_product size) equation) pos at sheet 64 r sheet'
  unfolding sf line_of find table
  i-small z p =
      let e : eqb size 0 ≡ true = eq-eqb size 0 z in
      p.moved (ionosphere_constant size) (ionosphere_linear size) (ionosphere_product size)
      (pick-width size 57 60 12 true e refl) (pick-width size 58 61 12 true e refl) (pick-width size 59 62 13 true e refl)

  pub i-large : (size ≡ 0 → ⊥) → PolynomialStored payload equation 14 15 pos at sheet r sheet'
      → Moved payload (polynomial (ionosphere_constant size) (ionosphere_linear size) (ionosphere_product size) equation) pos at sheet 64 r sheet'
  unfolding sf line_of find table
  i-large z p =
      let e : eqb size 0 ≡ false = ne_eqb size 0 z in
      p.moved (ionosphere_constant size) (ionosphere_linear size) (ionosphere_product size)
      (pick-width size 57 60 14 false e refl) (pick-width size 58 61 14 false e refl) (pick-width size 59 62 15 false e refl)

-- ---- grids

-- 1 to 16 bits
record Narrow (w : ℕ) : Type 0 where
  some : 0 < w
  few : w ≤ 16

narrow-pick : (b : Bool) (f g : Field) → Narrow f.width → Narrow g.width → Narrow (pick b f g).width
narrow-pick true f g p q = p
narrow-pick false f g p q = q

i-narrow : (size : ℕ) → Narrow (ionosphere_residual size).width
unfolding sf line_of find table
i-narrow size =
    let two : Field = pick (eqb size 2) (sf 66) (sf 67) in
    let one : Field = pick (eqb size 1) (sf 65) two in
    narrow-pick (eqb size 0) (sf 64) one (record { some = lit< tt; few = lit≤ tt })
    (narrow-pick (eqb size 1) (sf 65) two (record { some = lit< tt; few = lit≤ tt })
    (narrow-pick (eqb size 2) (sf 66) (sf 67) (record { some = lit< tt; few = lit≤ tt }) (record { some = lit< tt; few = lit≤ tt })))

t-narrow : (size : ℕ) → Narrow (troposphere_residual size).width
unfolding sf line_of find table
t-narrow size = narrow-pick (eqb size 0) (sf 52) (sf 53) (record { some = lit< tt; few = lit≤ tt }) (record { some = lit< tt; few = lit≤ tt })

narrow-mul : (points w : ℕ) → points ≤ 127 → w ≤ 16 → points * w ≤ 2032
narrow-mul points w h k = omega (arith, mul-le-mul_right w h)

stores-grid : {payload : List ℕ} {f : Field} (residual : ℕ → Field) (points bits w pos at : ℕ) (sheet : List ℕ) (c : ℕ) (s1 s2 : List ℕ) → f.width ≡ bits → Narrow bits
    → Kept payload pos at bits sheet c s1 → w ≡ (residual c).width → Narrow w → s2 ≡ stretched payload w points (pos + bits) (at + 1) s1
    → Stores payload (grid f residual points) pos at sheet (pos + bits + points * w) (at + 1 + points) s2
stores-grid {payload} residual points bits w pos at sheet c s1 s2 e n p q m s =
    stores-kept bits c s1 e n.some (omega (arith, n.few)) p
    (stores-with (λ residuals. record { size = c; residuals = residuals })
    (stores_as (pos + bits + points * w) (at + 1 + points) s2 refl refl (sym s)
    (stores-stretch (residual c) w (sym q) m.some (omega (arith, m.few)) points (pos + bits) (at + 1) s1)))

module _ (size points w : ℕ) (few : points ≤ 127) where
  pub i-mul : w ≡ (ionosphere_residual size).width → points * w < 2 ^ 64
  i-mul e = omega (arith, narrow-mul points w few (omega (arith, (i-narrow size).few)))

  pub t-mul : w ≡ (troposphere_residual size).width → points * w < 2 ^ 64
  t-mul e = omega (arith, narrow-mul points w few (omega (arith, (t-narrow size).few)))

  pub i-add : (end : ℕ) → w ≡ (ionosphere_residual size).width → end < 2 ^ 36 → end + 2 + points * w < 2 ^ 64
  i-add end e h = omega (arith, narrow-mul points w few (omega (arith, (i-narrow size).few)))

  pub t-add : (end : ℕ) → w ≡ (troposphere_residual size).width → end < 2 ^ 36 → end + 1 + points * w < 2 ^ 64
  t-add end e h = omega (arith, narrow-mul points w few (omega (arith, (t-narrow size).few)))

pub i-few : (size w : ℕ) → w ≡ (ionosphere_residual size).width → w ≤ 16
i-few size w e = omega (arith, (i-narrow size).few)

pub t-few : (size w : ℕ) → w ≡ (troposphere_residual size).width → w ≤ 16
t-few size w e = omega (arith, (t-narrow size).few)

-- where a part ends
module _ {B : Type 0} {payload : List ℕ} {part : (B → Layout Message) → Layout Message} (pos at : ℕ) {sheet : List ℕ} {here : Here} {sheet' : List ℕ} where
  pub ends-near : Moved payload part (pos + 4 + 1) (at + 1 + 1) sheet 64 here sheet' → pos < 2 ^ 35 → here.pos < 2 ^ 36
  ends-near p h = omega (arith, p.few)

  pub ends_next : Moved payload part (pos + 4 + 1) (at + 1 + 1) sheet 64 here sheet' → at < 2 ^ 35 → here.at < 2 ^ 36
  ends_next p h = omega (arith, p.light)

  pub t-near : Moved payload part (pos + 8 + 1) (at + 1 + 1) sheet 64 here sheet' → pos < 2 ^ 34 → here.pos < 2 ^ 36
  t-near p h = omega (arith, p.few)

  pub t-next : Moved payload part (pos + 8 + 1) (at + 1 + 1) sheet 64 here sheet' → at < 2 ^ 34 → here.at < 2 ^ 36
  t-next p h = omega (arith, p.light)

  pub a-near : Moved payload part (pos + 2 + 2) (at + 1 + 1) sheet 2200 here sheet' → pos < 2 ^ 32 → here.pos < 2 ^ 33
  a-near p h = omega (arith, p.few)

  pub a-next : Moved payload part (pos + 2 + 2) (at + 1 + 1) sheet 2200 here sheet' → at < 2 ^ 32 → here.at < 2 ^ 33
  a-next p h = omega (arith, p.light)

module _ (payload : List ℕ) (from : Here) (blocks points : ℕ) (sheet : List ℕ) where
  pub t-plain : blocks < 2 → Moved payload (optional (leb 2 blocks) (grid (sf 51) troposphere_residual points)) from.pos from.at sheet 2100 from sheet
  t-plain h =
      record {
        stores = stores-absent (grid (sf 51) troposphere_residual points) from.pos from.at sheet (leb 2 blocks) (lt-leb 2 blocks h);
        few = omega arith;
        light = omega arith;
      }

  pub t-gridded : (c w : ℕ) (s1 s2 : List ℕ) → 2 ≤ blocks → points ≤ 127 → Kept payload from.pos from.at 1 sheet c s1 → w ≡ (troposphere_residual c).width
      → s2 ≡ stretched payload w points (from.pos + 1) (from.at + 1) s1
      → Moved payload (optional (leb 2 blocks) (grid (sf 51) troposphere_residual points)) from.pos from.at sheet 2100
      (record { pos = from.pos + 1 + points * w; at = from.at + 1 + points }) s2
  unfolding sf line_of find table
  t-gridded c w s1 s2 h few p e s =
      let n : Narrow w = subst Narrow (sym e) (t-narrow c) in
      let size : points * w ≤ 2032 = narrow-mul points w few n.few in
      record {
        stores = stores-present (leb 2 blocks) (le-leb 2 blocks h)
            (stores-grid troposphere_residual points 1 w from.pos from.at sheet c s1 s2 refl (record { some = lit< tt; few = lit≤ tt }) p e n s);
        few = omega arith;
        light = omega arith;
      }

module _ (payload : List ℕ) (from : Here) (blocks points : ℕ) (sheet : List ℕ) where
  pub i-plain : blocks < 2 → Moved payload (optional (leb 2 blocks) (grid (sf 63) ionosphere_residual points)) from.pos from.at sheet 2100 from sheet
  i-plain h =
      record {
        stores = stores-absent (grid (sf 63) ionosphere_residual points) from.pos from.at sheet (leb 2 blocks) (lt-leb 2 blocks h);
        few = omega arith;
        light = omega arith;
      }

  pub i-gridded : (c w : ℕ) (s1 s2 : List ℕ) → 2 ≤ blocks → points ≤ 127 → Kept payload from.pos from.at 2 sheet c s1 → w ≡ (ionosphere_residual c).width
      → s2 ≡ stretched payload w points (from.pos + 2) (from.at + 1) s1
      → Moved payload (optional (leb 2 blocks) (grid (sf 63) ionosphere_residual points)) from.pos from.at sheet 2100
      (record { pos = from.pos + 2 + points * w; at = from.at + 1 + points }) s2
  unfolding sf line_of find table
  i-gridded c w s1 s2 h few p e s =
      let n : Narrow w = subst Narrow (sym e) (i-narrow c) in
      let size : points * w ≤ 2032 = narrow-mul points w few n.few in
      record {
        stores = stores-present (leb 2 blocks) (le-leb 2 blocks h)
            (stores-grid ionosphere_residual points 2 w from.pos from.at sheet c s1 s2 refl (record { some = lit< tt; few = lit≤ tt }) p e n s);
        few = omega arith;
        light = omega arith;
      }

-- ---- satellites

module _ (payload : List ℕ) (blocks points equation pos at : ℕ) (sheet : List ℕ) (q : ℕ) (s1 : List ℕ) (size : ℕ) (s2 : List ℕ) (here : Here) (s3 : List ℕ)
    (p1 : Kept payload pos at 4 sheet q s1) (p2 : Kept payload (pos + 4) (at + 1) 1 s1 size s2)
    (p3 : Moved payload (polynomial (ionosphere_constant size) (ionosphere_linear size) (ionosphere_product size) equation) (pos + 4 + 1) (at + 1 + 1) s2 64 here s3) where
  pub slant-stored : (r : Here) (filled : List ℕ) → Moved payload (optional (leb 2 blocks) (grid (sf 63) ionosphere_residual points)) here.pos here.at s3 2100 r filled
      → SlantStored payload blocks points equation pos at sheet r filled
  unfolding sf line_of find table
  slant-stored r filled g =
      record {
        moved = λ number. record {
          stores = stores-kept 4 q s1 refl (lit< tt) (lit≤ tt) p1
              (stores-kept 1 size s2 refl (lit< tt) (lit≤ tt) p2
              (stores-then
              {rest = λ polynomial k. optional (leb 2 blocks) (grid (sf 63) ionosphere_residual points) (λ grid.
              k (record { number = number; quality = q; coefficient_size = size; polynomial = polynomial; grid = grid }))}
              p3.stores
              (stores-with (λ grid. record { number = number; quality = q; coefficient_size = size; polynomial = p3.stores.value; grid = grid }) g.stores)));
          few = omega (arith, p3.few, g.few);
          light = omega (arith, p3.light, g.light);
        };
      }

-- what is still to be stored of a list of satellites, and what is before it
record SlantsLeft (payload : List ℕ) (blocks points equation : ℕ) (ms : List ℕ) (pos₀ at₀ : ℕ) (sheet₀ : List ℕ) (left pos at : ℕ) (sheet : List ℕ) : Type 0 where
  rest : List ℕ
  many : length rest ≡ left
  before : List Slant → List Slant
  goes : (k : List Slant → Layout Message) → Finishes (run_at payload (each ms (slant blocks points equation) k) pos₀ at₀ sheet₀)
      → run_at payload (each ms (slant blocks points equation) k) pos₀ at₀ sheet₀ ≡ run_at payload (each rest (slant blocks points equation) (λ xs. k (before xs))) pos at sheet

pub record Slanting (payload : List ℕ) (n blocks points equation pos₀ at₀ : ℕ) (sheet₀ : List ℕ) (left pos at : ℕ) (sheet : List ℕ) : Type 0 where
  on : (ms : List ℕ) → length ms ≡ n → SlantsLeft payload blocks points equation ms pos₀ at₀ sheet₀ left pos at sheet
  pub few : pos + 2200 * left ≤ pos₀ + 140800
  pub light : at + 2200 * left ≤ at₀ + 140800
  pub same : length sheet ≡ length sheet₀

pub slants-start : (payload : List ℕ) (n blocks points equation pos at : ℕ) (sheet : List ℕ) → n ≤ 64 → Slanting payload n blocks points equation pos at sheet n pos at sheet
slants-start payload n blocks points equation pos at sheet h =
    record { on = λ ms e. record { rest = ms; many = e; before = λ xs. xs; goes = λ k f. refl }; few = omega arith; light = omega arith; same = refl }

pub onward : {e f : Ended} → e ≡ f → Finishes e → Finishes f
onward q h = record { count = h.count; used = h.used; filled = h.filled; is = sym q ∙ h.is }

module _ {payload : List ℕ} {n blocks points equation pos₀ at₀ : ℕ} {sheet₀ : List ℕ} {left pos at : ℕ} {sheet : List ℕ}
    (t : Slanting payload n blocks points equation pos₀ at₀ sheet₀ left pos at sheet) where
  pub slants-near : pos₀ < 2 ^ 34 → pos < 2 ^ 35
  slants-near h = omega (arith, t.few)

  pub slants-next : at₀ < 2 ^ 34 → at < 2 ^ 35
  slants-next h = omega (arith, t.light)

  pub slants-again : (here : Here) (sheet' : List ℕ) → 0 < left → length sheet' ≡ length sheet → SlantStored payload blocks points equation pos at sheet here sheet'
      → Slanting payload n blocks points equation pos₀ at₀ sheet₀ (left - 1) here.pos here.at sheet'
  slants-again here sheet' h same p =
      record { on = λ ms e. step ms (t.on ms e); few = omega (arith, t.few, (p.moved 0).few); light = omega (arith, t.light, (p.moved 0).light); same = same ∙ t.same }
    where
      step : (ms : List ℕ) → SlantsLeft payload blocks points equation ms pos₀ at₀ sheet₀ left pos at sheet
          → SlantsLeft payload blocks points equation ms pos₀ at₀ sheet₀ (left - 1) here.pos here.at sheet'
      step ms l = go l.rest l.many l.goes
        where
          go : (rest : List ℕ) → length rest ≡ left
              → ((k : List Slant → Layout Message) → Finishes (run_at payload (each ms (slant blocks points equation) k) pos₀ at₀ sheet₀)
              → run_at payload (each ms (slant blocks points equation) k) pos₀ at₀ sheet₀ ≡ run_at payload (each rest (slant blocks points equation) (λ xs. k (l.before xs))) pos at sheet)
              → SlantsLeft payload blocks points equation ms pos₀ at₀ sheet₀ (left - 1) here.pos here.at sheet'
          go [] many goes = absurd (omega (arith, many))
          go (m ∷ rest) many goes =
              let s = (p.moved m).stores in
              record {
                rest = rest;
                many = omega (arith, many);
                before = λ xs. l.before (s.value ∷ xs);
                goes = λ k f.
                    let e = goes k f in
                    e ∙ s.goes (λ x. each rest (slant blocks points equation) (λ xs. k (l.before (x ∷ xs)))) (onward e f);
              }

  pub slants-done : left ≤ 0 → SlantsStored payload n blocks points equation pos₀ at₀ sheet₀ (record { pos = pos; at = at }) sheet
  slants-done h =
      record { moved = λ ms e. record { stores = end ms (t.on ms e); few = omega (arith, t.few); light = omega (arith, t.light) } }
    where
      end : (ms : List ℕ) → SlantsLeft payload blocks points equation ms pos₀ at₀ sheet₀ left pos at sheet
          → Stores payload (each ms (slant blocks points equation)) pos₀ at₀ sheet₀ pos at sheet
      end ms l = go l.rest l.many l.goes
        where
          go : (rest : List ℕ) → length rest ≡ left
              → ((k : List Slant → Layout Message) → Finishes (run_at payload (each ms (slant blocks points equation) k) pos₀ at₀ sheet₀)
              → run_at payload (each ms (slant blocks points equation) k) pos₀ at₀ sheet₀ ≡ run_at payload (each rest (slant blocks points equation) (λ xs. k (l.before xs))) pos at sheet)
              → Stores payload (each ms (slant blocks points equation)) pos₀ at₀ sheet₀ pos at sheet
          go [] many goes = record { value = l.before []; goes = goes }
          go (m ∷ rest) many goes = absurd (omega (arith, many))

-- ---- the ionosphere's block

module _ (c : Constellation) (payload : List ℕ) (pos at blocks points : ℕ) (sheet : List ℕ) where
  pub ionosphere-absent : blocks < 1 → Moved payload (optional (leb 1 blocks) (ionosphere c blocks points)) pos at sheet 141000 (record { pos = pos; at = at }) sheet
  ionosphere-absent h =
      record {
        stores = stores-absent (ionosphere c blocks points) pos at sheet (leb 1 blocks) (lt-leb 1 blocks h);
        few = omega arith;
        light = omega arith;
      }

  pub ionosphere-there : (equation size width mask n : ℕ) (s1 s2 s3 : List ℕ) (r : Here) (s4 : List ℕ) → 1 ≤ blocks → Kept payload pos at 3 sheet equation s1
      → Kept payload (pos + 3) (at + 1) 2 s1 size s2 → width ≡ mask_size c size → Kept payload (pos + 3 + 2) (at + 1 + 1) width s2 mask s3 → n ≡ ones mask
      → SlantsStored payload n blocks points equation (pos + 3 + 2 + width) (at + 1 + 1 + 1) s3 r s4
      → Moved payload (optional (leb 1 blocks) (ionosphere c blocks points)) pos at sheet 141000 r s4
  unfolding sf line_of find table
  ionosphere-there equation size width mask n s1 s2 s3 r s4 h p1 p2 w p3 count p4 =
      let word = mask_word c size in
      let small : mask < 2 ^ mask_size c size = subst (λ (x : ℕ). mask < 2 ^ x) w (subst (λ (x : ℕ). x < 2 ^ width) (sym p3.code) (got-small payload (pos + 3 + 2) width)) in
      let all_set : length (satellites_of c size mask) ≡ n = counted (first_satellite c) (mask_size c size) mask small ∙ sym count in
      let slants = p4.moved (satellites_of c size mask) all_set in
      record {
        stores = stores-present (leb 1 blocks) (le-leb 1 blocks h)
            (stores-kept 3 equation s1 refl (lit< tt) (lit≤ tt) p1
            (stores-kept 2 size s2 (mask-size-width c) (lit< tt) (lit≤ tt) p2
            (stores-kept width mask s3 (sym w) (omega (arith, word.some)) (omega (arith, word.most)) p3
            (stores-with (λ satellites. record { equation = equation; satellites = satellites }) slants.stores))));
        few = omega (arith, slants.few, word.most);
        light = omega (arith, slants.light);
      }

-- ---- the troposphere's block

module _ (payload : List ℕ) (pos at blocks points : ℕ) (sheet : List ℕ) where
  pub troposphere-absent : blocks < 1 → Moved payload (optional (leb 1 blocks) (troposphere blocks points)) pos at sheet 2200 (record { pos = pos; at = at }) sheet
  troposphere-absent h =
      record {
        stores = stores-absent (troposphere blocks points) pos at sheet (leb 1 blocks) (lt-leb 1 blocks h);
        few = omega arith;
        light = omega arith;
      }

  pub t-stored : (equation delay size : ℕ) (s1 s2 : List ℕ) (here : Here) (s3 : List ℕ) (r : Here) (s4 : List ℕ) → Kept payload pos at 8 sheet delay s1
      → Kept payload (pos + 8) (at + 1) 1 s1 size s2
      → Moved payload (polynomial (troposphere_constant size) (troposphere_linear size) (troposphere_product size) equation) (pos + 8 + 1) (at + 1 + 1) s2 64 here s3
      → Moved payload (optional (leb 2 blocks) (grid (sf 51) troposphere_residual points)) here.pos here.at s3 2100 r s4
      → TroposphereStored payload equation blocks points pos at sheet r s4
  unfolding sf line_of find table
  t-stored equation delay size s1 s2 here s3 r s4 p1 p2 p3 p4 =
      record {
        moved = λ quality. record {
          stores =
              stores-kept 8 delay s1 refl (lit< tt) (lit≤ tt) p1
              (stores-kept 1 size s2 refl (lit< tt) (lit≤ tt) p2
              (stores-then
              {rest = λ polynomial k. optional (leb 2 blocks) (grid (sf 51) troposphere_residual points) (λ grid.
              k (record { equation = equation; quality = quality; delay = delay; coefficient_size = size; polynomial = polynomial; grid = grid }))}
              p3.stores
              (stores-with (λ grid. record { equation = equation; quality = quality; delay = delay; coefficient_size = size; polynomial = p3.stores.value; grid = grid }) p4.stores)));
          few = omega (arith, p3.few, p4.few);
          light = omega (arith, p3.light, p4.light);
        };
      }

  pub troposphere-there : (equation quality : ℕ) (s1 s2 : List ℕ) (r : Here) (s3 : List ℕ) → 1 ≤ blocks → Kept payload pos at 3 sheet equation s1
      → Kept payload (pos + 3) (at + 1) 3 s1 quality s2 → TroposphereStored payload equation blocks points (pos + 3 + 3) (at + 1 + 1) s2 r s3
      → Moved payload (optional (leb 1 blocks) (troposphere blocks points)) pos at sheet 2200 r s3
  unfolding sf line_of find table
  troposphere-there equation quality s1 s2 r s3 h p1 p2 p3 =
      let m = p3.moved quality in
      record {
        stores = stores-present (leb 1 blocks) (le-leb 1 blocks h)
            (stores-kept 3 equation s1 refl (lit< tt) (lit≤ tt) p1 (stores-kept 3 quality s2 refl (lit< tt) (lit≤ tt) p2 m.stores));
        few = omega (arith, m.few);
        light = omega (arith, m.light);
      }

-- ---- areas

pub blocks-stored : (c : Constellation) (payload : List ℕ) (points pos at : ℕ) (sheet : List ℕ) (t i : ℕ) (s1 s2 : List ℕ) (here : Here) (s3 : List ℕ) (r : Here) (s4 : List ℕ)
    → Kept payload pos at 2 sheet t s1 → Kept payload (pos + 2) (at + 1) 2 s1 i s2
    → Moved payload (optional (leb 1 t) (troposphere t points)) (pos + 2 + 2) (at + 1 + 1) s2 2200 here s3
    → Moved payload (optional (leb 1 i) (ionosphere c i points)) here.pos here.at s3 141000 r s4 → BlocksStored c payload points pos at sheet r s4
unfolding sf line_of find table
blocks-stored c payload points pos at sheet t i s1 s2 here s3 r s4 p1 p2 p3 p4 =
    record {
      moved = λ id. record {
        stores =
            stores-kept 2 t s1 refl (lit< tt) (lit≤ tt) p1
            (stores-kept 2 i s2 refl (lit< tt) (lit≤ tt) p2
            (stores-then
            {rest = λ troposphere k. optional (leb 1 i) (ionosphere c i points) (λ ionosphere.
            k (record { id = id; points = points; troposphere_blocks = t; ionosphere_blocks = i; troposphere = troposphere; ionosphere = ionosphere }))}
            p3.stores
            (stores-with (λ ionosphere. record { id = id; points = points; troposphere_blocks = t; ionosphere_blocks = i; troposphere = p3.stores.value; ionosphere = ionosphere }) p4.stores)));
        few = omega (arith, p3.few, p4.few);
        light = omega (arith, p3.light, p4.light);
      };
    }

pub area-stored : (c : Constellation) (payload : List ℕ) (pos at : ℕ) (sheet : List ℕ) (id points : ℕ) (s1 s2 : List ℕ) (r : Here) (s3 : List ℕ)
    → Kept payload pos at 8 sheet id s1 → Kept payload (pos + 8) (at + 1) 7 s1 points s2 → BlocksStored c payload points (pos + 8 + 7) (at + 1 + 1) s2 r s3
    → Moved payload (area c) pos at sheet 144000 r s3
unfolding sf line_of find table
area-stored c payload pos at sheet id points s1 s2 r s3 p1 p2 p3 =
    let m = p3.moved id in
    record {
      stores = stores-kept 8 id s1 refl (lit< tt) (lit≤ tt) p1 (stores-kept 7 points s2 refl (lit< tt) (lit≤ tt) p2 m.stores);
      few = omega (arith, m.few);
      light = omega (arith, m.light);
    }

pub points-few : (payload : List ℕ) (pos at points : ℕ) (s1 s2 : List ℕ) → Kept payload pos at 7 s1 points s2 → points ≤ 127
points-few payload pos at points s1 s2 p = omega (arith, p.code, got-small payload pos 7)

pub record Areas (c : Constellation) (payload : List ℕ) (n : ℕ) (sheet₀ : List ℕ) (left pos at : ℕ) (sheet : List ℕ) : Type 0 where
  before : List Area → List Area
  goes : (k : List Area → Layout Message) → Finishes (run_at payload (times n (area c) k) 19 4 sheet₀)
      → run_at payload (times n (area c) k) 19 4 sheet₀ ≡ run_at payload (times left (area c) (λ xs. k (before xs))) pos at sheet
  pub few : pos + 144000 * left ≤ 4608019
  pub light : at + 144000 * left ≤ 4608004
  pub same : length sheet ≡ length sheet₀

pub areas-start : (c : Constellation) (payload : List ℕ) (n : ℕ) (sheet : List ℕ) → n ≤ 32 → Areas c payload n sheet n 19 4 sheet
areas-start c payload n sheet h = record { before = λ xs. xs; goes = λ k f. refl; few = omega arith; light = omega arith; same = refl }

module _ {c : Constellation} {payload : List ℕ} {n : ℕ} {sheet₀ : List ℕ} {left pos at : ℕ} {sheet : List ℕ} (t : Areas c payload n sheet₀ left pos at sheet) where
  pub areas-near : pos < 2 ^ 31
  areas-near = omega (arith, t.few)

  pub areas-next : at < 2 ^ 31
  areas-next = omega (arith, t.light)

  pub areas-again : (here : Here) (sheet' : List ℕ) → 0 < left → length sheet' ≡ length sheet → Moved payload (area c) pos at sheet 144000 here sheet'
      → Areas c payload n sheet₀ (left - 1) here.pos here.at sheet'
  areas-again here sheet' h same p =
      let s = p.stores in
      record {
        before = λ xs. t.before (s.value ∷ xs);
        goes = λ k f.
            let e = t.goes k f ∙ sym (one_less (λ (x : ℕ). run_at payload (times x (area c) (λ xs. k (t.before xs))) pos at sheet) left (λ z. omega arith)) in
            e ∙ s.goes (λ x. times (left - 1) (area c) (λ xs. k (t.before (x ∷ xs)))) (onward e f);
        few = omega (arith, t.few, p.few);
        light = omega (arith, t.light, p.light);
        same = same ∙ t.same;
      }

  pub areas-done : left ≤ 0 → AreasStored c payload n sheet₀ sheet
  areas-done h =
      let z : left ≡ 0 = omega arith in
      record {
        end = pos;
        entries = at;
        stores = record {
          value = t.before [];
          goes = λ k f. t.goes k f ∙ ap (λ (x : ℕ). run_at payload (times x (area c) (λ xs. k (t.before xs))) pos at sheet) z;
        };
      }

-- ---- the message

pub counted-stored : (c : Constellation) (payload sheet : List ℕ) (count : ℕ) (s1 s2 : List ℕ) → Kept payload 14 3 5 sheet count s1 → AreasStored c payload (count + 1) s1 s2
    → CountedStored c payload sheet s2
unfolding sf line_of find table
counted-stored c payload sheet count s1 s2 p1 p2 =
    let areas : Stores payload (times (suc count) (area c)) 19 4 s1 p2.end p2.entries s2
    = subst (λ (x : ℕ). Stores payload (times x (area c)) 19 4 s1 p2.end p2.entries s2) (add-one count) p2.stores in
    record { end = p2.end; entries = p2.entries; stores = stores-kept {part = λ count k. times (suc count) (area c) k} 5 count s1 refl (lit< tt) (lit≤ tt) p1 areas }

pub hpac-stored : (c : Constellation) (payload sheet : List ℕ) (siou aiou reserved : ℕ) (s1 s2 s3 s4 : List ℕ) → Kept payload 0 0 9 sheet siou s1 → Kept payload 9 1 4 s1 aiou s2
    → Kept payload 13 2 1 s2 reserved s3 → CountedStored c payload s3 s4 → HpacStored c payload sheet s4
unfolding run_l sf line_of find table
hpac-stored c payload sheet siou aiou reserved s1 s2 s3 s4 p1 p2 p3 p4 =
    let all : Stores payload (hpac c) 0 0 sheet p4.end p4.entries s4
    = stores-kept 9 siou s1 refl (lit< tt) (lit≤ tt) p1
    (stores-kept 4 aiou s2 refl (lit< tt) (lit≤ tt) p2
    (stores-kept 1 reserved s3 refl (lit< tt) (lit≤ tt) p3
    (stores-with (λ areas. record { siou = siou; aiou = aiou; areas = areas }) p4.stores))) in
    record { count = p4.entries; used = p4.end; is = λ h. all.goes (λ body. done (hpac_message c body)) h }

pub count-few : (payload : List ℕ) (count : ℕ) (s3 s4 : List ℕ) → Kept payload 14 3 5 s3 count s4 → count + 1 ≤ 32
count-few payload count s3 s4 p = omega (arith, p.code, got-small payload 14 5)

pub count_add : (payload : List ℕ) (count : ℕ) (s3 s4 : List ℕ) → Kept payload 14 3 5 s3 count s4 → count + 1 < 2 ^ 64
count_add payload count s3 s4 p = omega (arith, p.code, got-small payload 14 5)

pub mask-near : (c : Constellation) (size pos width : ℕ) → width ≡ mask_size c size → pos < 2 ^ 33 → pos + 3 + 2 + width < 2 ^ 34
mask-near c size pos width e h = omega (arith, (mask_word c size).most)
