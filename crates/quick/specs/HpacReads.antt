-- Serves proofs, and is proved: an HPAC that for_hpac.rt passes reads by its layout, to that bit and in so many entries.
use Rattle.std.specs.Prelude.{◌≡◌, Bool, eqb, ltb, leb, Some}
use Rattle.std.proofs.Math.Path.{refl, ap, subst}
use Rattle.std.proofs.Common.{ap, ap₂, sym, ◌∙◌, zero-mul, suc-mul, mul_comm, div-one}
use Rattle.std.proofs.Math.Bool.{true, false}
use mathlib.Core.List.{List, [], ◌∷◌}
use Prim.Native.Nat.{ℕ, zero, suc, ◌+◌, ◌-◌, ◌*◌, ◌/◌, ◌%◌, ◌^◌, ◌≤◌, ◌<◌}
use Rattle.std.proofs.Math.Numerals.{add-one}
use native.Mathlib.Omega.{arith}
use borrow.Author.Tests.{eqb-true, eqb-false, ltb-false, le-leb, lt-leb}
use Rattle.std.specs.Int.Bits.{bit_and, and_mask}
use Rattle.std.specs.Int.Count.{ones}
use Rattle.std.proofs.Math.Dec.{lit≤}
use Rattle.std.proofs.Math.ListN.{length}
use Rattle.std.proofs.Math.Pow.{shr_mod}
use Rattle.answer.specs.Pairs.{some-value}
use Rattle.quick.specs.declared.Extent.{Extent}
use Rattle.bits.specs.Bits.{to_bits, got}
use Rattle.layout.specs.declared.Field.{Field}
use Rattle.layout.specs.Layout.{Layout, field, pick}
use Rattle.layout.specs.Parts.{absent, present, optional, times, each}
use Rattle.layout.specs.Run.{finished, run_l}
use Rattle.fields.specs.Fields.{table, find, line_of, sf}
use Rattle.codes.specs.declared.Constellation.{Constellation}
use Rattle.codes.specs.declared.Constellation.TheVariants.{Gps, Glonass, Galileo, BeiDou, Qzss}
use Rattle.codes.specs.Tables.{mask_sf, mask_size, first_satellite}
use Rattle.codes.specs.Fields.{mask_field, satellites_of}
use Rattle.codes.specs.Sizes.{mask_word, mask-size-width}
use Rattle.hpac.specs.Hpac.{Slopes, Ionosphere, Area, slopes, polynomial, grid, troposphere_constant, troposphere_linear, troposphere_product, troposphere_residual, troposphere, ionosphere_constant, ionosphere_linear, ionosphere_product, ionosphere_residual, slant, ionosphere, area, hpac}
use Rattle.message.specs.Messages.{Message, hpac_message, hpac_layout}
use Rattle.quick.specs.declared.for_hpac.Behind.{Behind}
use Rattle.quick.specs.Passes.{Full, Has, Passes, has-full, taken-up-to, taken-full, got-small, got-part, passes-end, passes-field, passes_then, passes-with, passes-as, passes-optional, passes-stretch, times_none, times_more, each_none, each_more, passes-whole}
use Rattle.quick.specs.Codes.{unless, Ranged, ranged, full}
use Rattle.quick.specs.Passed.{passes-wide, passes-from}
use Rattle.codes.specs.Stepping.{counted}
use Rattle.quick.specs.Hpac.{one_end, three_end, linear_end, product_end, t_polynomial_end, i_polynomial_end, coefficient_count, grid_entries, slant_end, slants_end, nowhere, satellites_behind, ionosphere_behind, t_grid_behind, troposphere_behind, ionosphere_after, area_behind, areas_behind, reads_by, hpac_quick}

-- ---- tests that a part which passes has met

record Past (b : Bool) (x : ℕ) : Type 0 where
  no : b ≡ false
  some : x ≡ 0 → ⊥
  is : x ≡ pick b 0 x

past : (b : Bool) (x : ℕ) → (pick b 0 x ≡ 0 → ⊥) → Past b x
past true x h = absurd (h refl)
past false x h = record { no = refl; some = h; is = refl }

record Beyond (b : Bool) (x : Behind) : Type 0 where
  no : b ≡ false
  some : x.end ≡ 0 → ⊥
  is : x ≡ pick b nowhere x

beyond : (b : Bool) (x : Behind) → ((pick b nowhere x).end ≡ 0 → ⊥) → Beyond b x
beyond true x h = absurd (h refl)
beyond false x h = record { no = refl; some = h; is = refl }

-- ---- coefficients

-- a field of so many bits that takes all codes but the top one
record Symmetric (f : Field) (width top : ℕ) : Type 0 where
  range : Ranged f
  bits : f.width ≡ width
  most : f.most + 1 ≡ top
  all : top + 1 ≡ 2 ^ width

module _ {payload : List ℕ} {f : Field} {width top : ℕ} (s : Symmetric f width top) where
  has-symmetric : (pos end c : ℕ) → (end ≤ 8 * length payload → c ≡ got payload pos width) → (end ≤ 8 * length payload → c ≡ top → ⊥) → Has payload f pos end c
  has-symmetric pos end c e n =
      record {
        word = s.range.word;
        code = λ h. e h ∙ ap (got payload pos) (sym s.bits);
        taken = λ h.
            let other : c ≡ top → ⊥ = n h in
            let same : c ≡ got payload pos width = e h in
            taken-up-to f c (omega (arith, s.range.least)) s.range.except (omega (arith, s.most, s.all, got-small payload pos width));
      }

  -- a field, and what follows
  passes-symmetric : {A B : Type 0} {part : ℕ → (B → Layout A) → Layout A} {pos end n : ℕ} (c : ℕ)
      → (end ≤ 8 * length payload → c ≡ got payload pos width) → (end ≤ 8 * length payload → c ≡ top → ⊥)
      → Passes payload (part c) (pos + width) end n → Passes payload (λ k. field f (λ x. part x k)) pos end (suc n)
  passes-symmetric {part = part} {pos = pos} {end = end} {n = n} c e t rest =
      passes-field {part = part} c (has-symmetric pos end c e t) (subst (λ x. Passes payload (part c) (pos + x) end n) (sym s.bits) rest)

  one_passes : {A : Type 0} (pos : ℕ) → (one_end payload pos width top ≡ 0 → ⊥) → Passes {A = A} payload (field f) pos (one_end payload pos width top) 1
  unfolding one_end
  one_passes pos h =
      let p = past (eqb (got payload pos width) top) (pos + width) h in
      let c : ℕ = got payload pos width in
      passes-as _ 1 p.is refl
      (passes-symmetric {part = λ c k. k c} c (λ _. refl) (λ _. eqb-false c top p.no) (passes-end c (pos + width)))

record Linear : Type 0 where
  constant : ℕ
  slopes : Slopes

module _ (payload : List ℕ) (pos w : ℕ) (small : 3 * w ≤ 64) (there : pos + 3 * w ≤ 8 * length payload) where
  three-first : got payload pos w ≡ got payload pos (3 * w) / 2 ^ (2 * w)
  three-first =
      let z : pos + 0 ≡ pos = omega arith in
      let e : 0 + (w + 2 * w) ≡ 3 * w = omega arith in
      let d : w + 2 * w ≡ 3 * w = omega arith in
      ap (λ (x : ℕ). got payload x w) (sym z) ∙ got-part payload pos 0 w (2 * w) (omega arith) (omega arith)
      ∙ ap (λ (x : ℕ). got payload pos x / 2 ^ (2 * w) % 2 ^ w) e
      ∙ shr_mod w (2 * w) (subst (λ (x : ℕ). got payload pos (3 * w) < 2 ^ x) (sym d) (got-small payload pos (3 * w)))

  three-second : got payload (pos + w) w ≡ got payload pos (3 * w) / 2 ^ w % 2 ^ w
  three-second =
      let e : w + (w + w) ≡ 3 * w = omega arith in
      got-part payload pos w w w (omega arith) (omega arith) ∙ ap (λ (x : ℕ). got payload pos x / 2 ^ w % 2 ^ w) e

  three_third : got payload (pos + w + w) w ≡ got payload pos (3 * w) % 2 ^ w
  three_third =
      let z : pos + w + w ≡ pos + (w + w) = omega arith in
      let e : w + w + (w + 0) ≡ 3 * w = omega arith in
      ap (λ (x : ℕ). got payload x w) z ∙ got-part payload pos (w + w) w 0 (omega arith) (omega arith)
      ∙ ap (λ (x : ℕ). got payload pos x / 2 ^ 0 % 2 ^ w) e ∙ ap (λ (x : ℕ). x % 2 ^ w) (div-one (got payload pos (3 * w)))

masked : (x w top : ℕ) → top + 1 ≡ 2 ^ w → bit_and x top ≡ x % 2 ^ w
masked x w top e =
    let t : top ≡ 2 ^ w - 1 = omega arith in
    ap (bit_and x) t ∙ and_mask x w

-- the constant and the slopes
three-passes : {A : Type 0} {payload : List ℕ} {constant linear : Field} {w top : ℕ} → Symmetric constant w top → Symmetric linear w top → 3 * w ≤ 64 → (pos : ℕ)
    → (three_end payload pos w top ≡ 0 → ⊥)
    → Passes {A = A} {B = Linear} payload (λ k. field constant (λ c00. slopes linear (λ s. k (record { constant = c00; slopes = s })))) pos (three_end payload pos w top) 3
unfolding three_end
three-passes {payload = payload} {w = w} {top = top} s t small pos h =
    let x : ℕ = got payload pos (3 * w) in
    let p1 = past (eqb (x / 2 ^ (2 * w)) top) _ h in
    let p2 = past (eqb (bit_and (x / 2 ^ w) top) top) _ p1.some in
    let p3 = past (eqb (bit_and x top) top) (pos + 3 * w) p2.some in
    let n1 : x / 2 ^ (2 * w) ≡ top → ⊥ = eqb-false (x / 2 ^ (2 * w)) top p1.no in
    let n2 : bit_and (x / 2 ^ w) top ≡ top → ⊥ = eqb-false (bit_and (x / 2 ^ w) top) top p2.no in
    let n3 : bit_and x top ≡ top → ⊥ = eqb-false (bit_and x top) top p3.no in
    let m2 : bit_and (x / 2 ^ w) top ≡ x / 2 ^ w % 2 ^ w = masked (x / 2 ^ w) w top s.all in
    let m3 : bit_and x top ≡ x % 2 ^ w = masked x w top s.all in
    let end : ℕ = pos + w + w + w in
    let e : end ≡ pos + 3 * w = omega arith in
    let a : ℕ = got payload pos w in
    let b : ℕ = got payload (pos + w) w in
    let c : ℕ = got payload (pos + w + w) w in
    passes-as _ 3 (e ∙ p3.is ∙ p2.is ∙ p1.is) refl
    (passes-symmetric s a (λ _. refl) (λ i q. n1 (sym (three-first payload pos w small (omega arith)) ∙ q))
    (passes-symmetric t b (λ _. refl) (λ i q. n2 (m2 ∙ sym (three-second payload pos w small (omega arith)) ∙ q))
    (passes-symmetric t c (λ _. refl) (λ i q. n3 (m3 ∙ sym (three_third payload pos w small (omega arith)) ∙ q))
    (passes-end (record { constant = a; slopes = record { latitude = b; longitude = c } }) end))))

-- ---- polynomials

module _ {A : Type 0} {payload : List ℕ} {constant linear product : Field} {w top v above : ℕ} (s : Symmetric constant w top) (t : Symmetric linear w top)
    (u : Symmetric product v above) (small : 3 * w ≤ 64) where
  polynomial-passes : (equation pos : ℕ) → equation ≤ 2 → (product_end payload (linear_end payload pos equation w top) equation v above ≡ 0 → ⊥)
      → Passes {A = A} payload (polynomial constant linear product equation) pos (product_end payload (linear_end payload pos equation w top) equation v above)
      (coefficient_count equation)
  unfolding product_end linear_end coefficient_count
  polynomial-passes zero pos m h =
      let p = past (eqb (one_end payload pos w top) 0) (one_end payload pos w top) h in
      passes-as _ 1 p.is refl (passes-with (λ c. record { constant = c; slopes = absent; product = absent }) (one_passes s pos p.some))
  polynomial-passes (suc zero) pos m h =
      let p = past (eqb (three_end payload pos w top) 0) (three_end payload pos w top) h in
      passes-as _ 3 p.is refl
      (passes-with (λ (x : Linear). record { constant = x.constant; slopes = present x.slopes; product = absent }) (three-passes s t small pos p.some))
  polynomial-passes (suc (suc zero)) pos m h =
      let p = past (eqb (three_end payload pos w top) 0) (one_end payload (three_end payload pos w top) v above) h in
      let first = three-passes {A = A} s t small pos (eqb-false (three_end payload pos w top) 0 p.no) in
      passes-as _ 4 p.is refl
      (passes_then {rest = λ (x : Linear) k. field product (λ c. k (record { constant = x.constant; slopes = present x.slopes; product = present c }))} first
      (passes-with (λ c. record { constant = first.value.constant; slopes = present first.value.slopes; product = present c })
      (one_passes u (three_end payload pos w top) p.some)))
  polynomial-passes (suc (suc (suc equation))) pos m h = absurd (omega arith)

module _ {A : Type 0} (payload : List ℕ) (pos equation : ℕ) (m : equation ≤ 2) where
  t-polynomial-passes : (size : ℕ) → (t_polynomial_end payload pos equation size ≡ 0 → ⊥)
      → Passes {A = A} payload (polynomial (troposphere_constant size) (troposphere_linear size) (troposphere_product size) equation) pos
      (t_polynomial_end payload pos equation size) (coefficient_count equation)
  unfolding t_polynomial_end sf line_of find table
  t-polynomial-passes size h = go (eqb size 0) h
    where
      go : (b : Bool) → (pick b (product_end payload (linear_end payload pos equation 7 127) equation 9 511)
          (product_end payload (linear_end payload pos equation 9 511) equation 11 2047) ≡ 0 → ⊥)
          → Passes {A = A} payload (polynomial (pick b (sf 45) (sf 48)) (pick b (sf 46) (sf 49)) (pick b (sf 47) (sf 50)) equation) pos
          (pick b (product_end payload (linear_end payload pos equation 7 127) equation 9 511)
          (product_end payload (linear_end payload pos equation 9 511) equation 11 2047)) (coefficient_count equation)
      go true h =
          polynomial-passes
          (record { range = ranged refl; bits = refl; most = refl; all = refl })
          (record { range = ranged refl; bits = refl; most = refl; all = refl })
          (record { range = ranged refl; bits = refl; most = refl; all = refl }) (lit≤ tt) equation pos m h
      go false h =
          polynomial-passes
          (record { range = ranged refl; bits = refl; most = refl; all = refl })
          (record { range = ranged refl; bits = refl; most = refl; all = refl })
          (record { range = ranged refl; bits = refl; most = refl; all = refl }) (lit≤ tt) equation pos m h

  i-polynomial-passes : (size : ℕ) → (i_polynomial_end payload pos equation size ≡ 0 → ⊥)
      → Passes {A = A} payload (polynomial (ionosphere_constant size) (ionosphere_linear size) (ionosphere_product size) equation) pos
      (i_polynomial_end payload pos equation size) (coefficient_count equation)
  unfolding i_polynomial_end sf line_of find table
  i-polynomial-passes size h = go (eqb size 0) h
    where
      go : (b : Bool) → (pick b (product_end payload (linear_end payload pos equation 12 4095) equation 13 8191)
          (product_end payload (linear_end payload pos equation 14 16383) equation 15 32767) ≡ 0 → ⊥)
          → Passes {A = A} payload (polynomial (pick b (sf 57) (sf 60)) (pick b (sf 58) (sf 61)) (pick b (sf 59) (sf 62)) equation) pos
          (pick b (product_end payload (linear_end payload pos equation 12 4095) equation 13 8191)
          (product_end payload (linear_end payload pos equation 14 16383) equation 15 32767)) (coefficient_count equation)
      go true h =
          polynomial-passes
          (record { range = ranged refl; bits = refl; most = refl; all = refl })
          (record { range = ranged refl; bits = refl; most = refl; all = refl })
          (record { range = ranged refl; bits = refl; most = refl; all = refl }) (lit≤ tt) equation pos m h
      go false h =
          polynomial-passes
          (record { range = ranged refl; bits = refl; most = refl; all = refl })
          (record { range = ranged refl; bits = refl; most = refl; all = refl })
          (record { range = ranged refl; bits = refl; most = refl; all = refl }) (lit≤ tt) equation pos m h

-- ---- grids

full-pick : (b : Bool) {f g : Field} → Full f → Full g → Full (pick b f g)
full-pick true p q = p
full-pick false p q = q

i-full : (size : ℕ) → Full (ionosphere_residual size)
unfolding sf line_of find table
i-full size = full-pick (eqb size 0) (full refl) (full-pick (eqb size 1) (full refl) (full-pick (eqb size 2) (full refl) (full refl)))

t-full : (size : ℕ) → Full (troposphere_residual size)
unfolding sf line_of find table
t-full size = full-pick (eqb size 0) (full refl) (full refl)

-- a size field of so many bits, and a residual for each point
grid-passes : {A : Type 0} {payload : List ℕ} {f : Field} (bits : ℕ) → Full f → f.width ≡ bits → (residual : ℕ → Field) → ((size : ℕ) → Full (residual size)) → (points pos : ℕ)
    → Passes {A = A} payload (grid f residual points) pos (pos + bits + (residual (got payload pos bits)).width * points) (points + 1)
grid-passes {payload = payload} {f = f} bits w e residual each points pos =
    let size : ℕ = got payload pos f.width in
    let same : size ≡ got payload pos bits = ap (got payload pos) e in
    let swap : points * (residual size).width ≡ (residual size).width * points = mul_comm points (residual size).width in
    let end : pos + f.width + points * (residual size).width ≡ pos + bits + (residual (got payload pos bits)).width * points
    = ap (λ (x : ℕ). pos + f.width + x) swap ∙ ap₂ (λ (x y : ℕ). pos + x + (residual y).width * points) e same in
    passes-as _ (points + 1) end (omega arith)
    (passes-field size (has-full w pos _)
    (passes-with (λ residuals. record { size = size; residuals = residuals }) (passes-stretch (each size) points (pos + f.width))))

-- ---- the ionosphere's block

-- an end and how many entries there are to it, as a pass hands them on
abbrev Goes : {A B : Type 0} → (payload : List ℕ) → ((B → Layout A) → Layout A) → ℕ → Behind → Type 0
Goes payload part pos b = Passes payload part pos b.end b.entries

slant-passes : {A : Type 0} (payload : List ℕ) (pos equation blocks points number : ℕ) → equation ≤ 2 → (slant_end payload pos equation (leb 2 blocks) points ≡ 0 → ⊥)
    → Passes {A = A} payload (slant blocks points equation number) pos (slant_end payload pos equation (leb 2 blocks) points)
    (2 + coefficient_count equation + grid_entries (leb 2 blocks) points)
unfolding slant_end grid_entries sf line_of find table
slant-passes {A} payload pos equation blocks points number m h =
    let quality : ℕ = got payload pos 4 in
    let size : ℕ = got payload (pos + 4) 1 in
    let five : pos + 4 + 1 ≡ pos + 5 = omega arith in
    let end : ℕ = i_polynomial_end payload (pos + 5) equation size in
    let p = past (eqb end 0) _ h in
    let poly : Passes {A = A} payload (polynomial (ionosphere_constant size) (ionosphere_linear size) (ionosphere_product size) equation) (pos + 4 + 1) end (coefficient_count equation)
    = subst (λ x. Passes {A = A} payload (polynomial (ionosphere_constant size) (ionosphere_linear size) (ionosphere_product size) equation) x end (coefficient_count equation))
    (sym five) (i-polynomial-passes payload (pos + 5) equation m size (eqb-false end 0 p.no)) in
    let grids = passes-optional (grid-passes {A = A} {payload = payload} 2 (full refl) refl ionosphere_residual i-full points end) (leb 2 blocks) in
    passes-as _ _ p.is (omega arith)
    (passes-field quality (has-full (full refl) pos _)
    (passes-field size (has-full (full refl) (pos + 4) _)
    (passes_then
    {rest = λ polynomial k. optional (leb 2 blocks) (grid (sf 63) ionosphere_residual points) (λ grid.
    k (record { number = number; quality = quality; coefficient_size = size; polynomial = polynomial; grid = grid }))}
    poly
    (passes-with (λ grid. record { number = number; quality = quality; coefficient_size = size; polynomial = poly.value; grid = grid }) grids))))

slants-pass : {A : Type 0} (payload : List ℕ) (equation blocks points : ℕ) → equation ≤ 2 → (ms : List ℕ) (pos : ℕ)
    → (slants_end payload (length ms) pos equation (leb 2 blocks) points ≡ 0 → ⊥)
    → Passes {A = A} payload (each ms (slant blocks points equation)) pos (slants_end payload (length ms) pos equation (leb 2 blocks) points)
    (length ms * (2 + coefficient_count equation + grid_entries (leb 2 blocks) points))
unfolding slants_end
slants-pass payload equation blocks points m [] pos h =
    passes-as pos _ refl (omega (arith, zero-mul (2 + coefficient_count equation + grid_entries (leb 2 blocks) points))) (each_none (slant blocks points equation) pos)
slants-pass payload equation blocks points m (number ∷ ms) pos h =
    let end : ℕ = slant_end payload pos equation (leb 2 blocks) points in
    let p = past (eqb end 0) (slants_end payload (length ms) end equation (leb 2 blocks) points) h in
    let n : ℕ = 2 + coefficient_count equation + grid_entries (leb 2 blocks) points in
    passes-as _ _ p.is (omega (arith, suc-mul (length ms) n))
    (each_more (slant blocks points equation) number ms
    (slant-passes payload pos equation blocks points number m (eqb-false end 0 p.no))
    (slants-pass payload equation blocks points m ms end p.some))

mask_full : (c : Constellation) → Full (sf (mask_sf c))
unfolding sf line_of find table
mask_full Gps = full refl
mask_full Glonass = full refl
mask_full Galileo = full refl
mask_full BeiDou = full refl
mask_full Qzss = full refl

-- a mask that is not empty
has-mask : {payload : List ℕ} (c : Constellation) (size pos end : ℕ) → (got payload pos (mask_size c size) ≡ 0 → ⊥)
    → Has payload (mask_field (mask_sf c) (mask_size c size)) pos end (got payload pos (mask_size c size))
has-mask {payload} c size pos end some =
    let mask : ℕ = got payload pos (mask_size c size) in
    let least : 1 ≤ mask = omega arith in
    let most : mask ≤ 2 ^ mask_size c size - 1 = omega (arith, got-small payload pos (mask_size c size)) in
    record { word = (mask_word c size).most; code = λ h. refl; taken = λ h. taken-up-to (mask_field (mask_sf c) (mask_size c size)) mask least refl most }

-- a part that a test says is there, or is not
passes-present : {A B : Type 0} {payload : List ℕ} {part : (B → Layout A) → Layout A} {pos end n : ℕ} (b : Bool) → b ≡ true → Passes payload part pos end n
    → Passes payload (optional b part) pos end n
passes-present true e p = passes-with present p
passes-present false e p = let z : ◌≡◌ {A = ℕ} 0 1 = cc in absurd (omega arith)

passes-absent : {A B : Type 0} {payload : List ℕ} (part : (B → Layout A) → Layout A) (pos : ℕ) (b : Bool) → b ≡ false → Passes payload (optional b part) pos pos 0
passes-absent part pos false e = passes-end absent pos
passes-absent part pos true e = let z : ◌≡◌ {A = ℕ} 0 1 = cc in absurd (omega arith)

-- a field of w bits out of the bits that were read in one, with o of them before it and n after it
head-part : (payload : List ℕ) (pos o w n whole head : ℕ) → o + (w + n) ≡ whole → whole ≤ 64 → pos + whole ≤ 8 * length payload → head ≡ got payload pos whole
    → got payload (pos + o) w ≡ head / 2 ^ n % 2 ^ w
head-part payload pos o w n whole head e s h q =
    got-part payload pos o w n (omega arith) (omega arith) ∙ ap (λ (x : ℕ). got payload pos x / 2 ^ n % 2 ^ w) e ∙ ap (λ (x : ℕ). x / 2 ^ n % 2 ^ w) (sym q)

module _ (payload : List ℕ) (pos head : ℕ) (e : head ≡ got payload pos 5) (h : pos + 5 ≤ 8 * length payload) where
  i-model : head / 2 ^ 2 ≡ got payload pos 3
  i-model =
      let z : pos + 0 ≡ pos = omega arith in
      omega (arith, head-part payload pos 0 3 2 5 head refl (lit≤ tt) h e, got-small payload pos 5, ap (λ (x : ℕ). got payload x 3) z)

  i-size : bit_and head 3 ≡ got payload (pos + 3) 2
  i-size = omega (arith, head-part payload pos 3 2 0 5 head refl (lit≤ tt) h e, and_mask head 2)

module _ {A : Type 0} (c : Constellation) (payload : List ℕ) (pos blocks points : ℕ) where
  ionosphere-passes : (head : ℕ) → head ≡ got payload pos 5 → head / 2 ^ 2 ≤ 2
      → (b : Behind) → satellites_behind payload (pos + 5 + mask_size c (bit_and head 3)) (got payload (pos + 5) (mask_size c (bit_and head 3))) (head / 2 ^ 2) (leb 2 blocks) points ≡ b
      → (b.end ≡ 0 → ⊥) → Goes {A = A} payload (ionosphere c blocks points) pos b
  unfolding satellites_behind sf line_of find table
  ionosphere-passes head e m b q h =
      let equation : ℕ = head / 2 ^ 2 in
      let size : ℕ = bit_and head 3 in
      let width : ℕ = mask_size c size in
      let mask : ℕ = got payload (pos + 5) width in
      let start : ℕ = pos + 5 + width in
      let ms : List ℕ = satellites_of c size mask in
      let many : ℕ = 2 + coefficient_count equation + grid_entries (leb 2 blocks) points in
      let s : (satellites_behind payload start mask equation (leb 2 blocks) points).end ≡ 0 → ⊥ = λ z. h (ap (λ (x : Behind). x.end) (sym q) ∙ z) in
      let p = beyond (eqb mask 0) (record { end = slants_end payload (ones mask) start equation (leb 2 blocks) points; entries = 3 + ones mask * many }) s in
      let all_set : length ms ≡ ones mask = counted (first_satellite c) width mask (got-small payload (pos + 5) width) in
      let end : ℕ = slants_end payload (ones mask) start equation (leb 2 blocks) points in
      let slants : Passes {A = A} payload (each ms (slant blocks points equation)) start end (ones mask * many)
      = subst (λ (x : ℕ). Passes {A = A} payload (each ms (slant blocks points equation)) start (slants_end payload x start equation (leb 2 blocks) points) (x * many)) all_set
      (slants-pass payload equation blocks points m ms start
      (λ z. p.some (ap (λ (x : ℕ). slants_end payload x start equation (leb 2 blocks) points) (sym all_set) ∙ z))) in
      let long : start ≤ end = slants.onward in
      let five : pos + 3 + 2 ≡ pos + 5 = omega arith in
      subst (λ d. Goes {A = A} payload (ionosphere c blocks points) pos d) (p.is ∙ q)
      (passes-as {n = suc (suc (suc (ones mask * many)))} end (3 + ones mask * many) refl (omega arith)
      (passes-field equation
      (record {
        word = lit≤ tt;
        code = λ i. i-model payload pos head e (omega arith);
        taken = λ i. taken-up-to (sf 54) equation (omega arith) refl m;
      })
      (passes-wide 2 (mask-size-width c) size
      (record {
        word = (mask_full c).word;
        code = λ i. i-size payload pos head e (omega arith) ∙ ap (got payload (pos + 3)) (sym (mask-size-width c));
        taken = λ i. taken-full size (mask_full c) (subst (λ (x : ℕ). size < 2 ^ x) (sym (mask-size-width c)) (omega (arith, and_mask head 2)));
      })
      (subst (λ (x : ℕ). Passes {A = A} {B = Ionosphere} payload
      (λ k. field (mask_field (mask_sf c) width) (λ mask. each (satellites_of c size mask) (slant blocks points equation) (λ satellites.
      k (record { equation = equation; satellites = satellites })))) x end (suc (ones mask * many)))
      (sym five)
      (passes-field mask (has-mask c size (pos + 5) end (eqb-false mask 0 p.no))
      (passes-with (λ satellites. record { equation = equation; satellites = satellites }) slants))))))

  -- the block, if there is one
  ionosphere-there : ((ionosphere_behind c payload pos blocks points).end ≡ 0 → ⊥)
      → Goes {A = A} payload (optional (leb 1 blocks) (ionosphere c blocks points)) pos (ionosphere_behind c payload pos blocks points)
  unfolding ionosphere_behind
  ionosphere-there h = go (eqb blocks 0) refl h
    where
      head : ℕ
      head = got payload pos 5

      there : Behind
      there = satellites_behind payload (pos + 5 + mask_size c (bit_and head 3)) (got payload (pos + 5) (mask_size c (bit_and head 3))) (head / 2 ^ 2) (leb 2 blocks) points

      go : (b : Bool) → eqb blocks 0 ≡ b → ((pick b (record { end = pos; entries = 0 }) (pick (ltb 2 (head / 2 ^ 2)) nowhere there)).end ≡ 0 → ⊥)
          → Goes {A = A} payload (optional (leb 1 blocks) (ionosphere c blocks points)) pos
          (pick b (record { end = pos; entries = 0 }) (pick (ltb 2 (head / 2 ^ 2)) nowhere there))
      go true e h =
          let z : blocks ≡ 0 = eqb-true blocks 0 e in
          passes-absent (ionosphere c blocks points) pos (leb 1 blocks) (lt-leb 1 blocks (omega arith))
      go false e h =
          let z : blocks ≡ 0 → ⊥ = eqb-false blocks 0 e in
          let p = beyond (ltb 2 (head / 2 ^ 2)) there h in
          subst (λ d. Goes {A = A} payload (optional (leb 1 blocks) (ionosphere c blocks points)) pos d) p.is
          (passes-present (leb 1 blocks) (le-leb 1 blocks (omega arith))
          (ionosphere-passes head refl (ltb-false 2 (head / 2 ^ 2) p.no) there refl p.some))

-- ---- the troposphere's block

module _ (payload : List ℕ) (pos head : ℕ) (e : head ≡ got payload pos 15) (h : pos + 15 ≤ 8 * length payload) where
  t-model : head / 2 ^ 12 ≡ got payload pos 3
  t-model =
      let z : pos + 0 ≡ pos = omega arith in
      omega (arith, head-part payload pos 0 3 12 15 head refl (lit≤ tt) h e, got-small payload pos 15, ap (λ (x : ℕ). got payload x 3) z)

  t-delay : bit_and (head / 2 ^ 1) 255 ≡ got payload (pos + 3 + 3) 8
  t-delay =
      let z : pos + 6 ≡ pos + 3 + 3 = omega arith in
      omega (arith, head-part payload pos 6 8 1 15 head refl (lit≤ tt) h e, and_mask (head / 2 ^ 1) 8, ap (λ (x : ℕ). got payload x 8) z)

  t-size : bit_and head 1 ≡ got payload (pos + 3 + 3 + 8) 1
  t-size =
      let z : pos + 14 ≡ pos + 3 + 3 + 8 = omega arith in
      omega (arith, head-part payload pos 14 1 0 15 head refl (lit≤ tt) h e, and_mask head 1, ap (λ (x : ℕ). got payload x 1) z)

pick_end : (g : Bool) (x y : Behind) → pick g x.end y.end ≡ (pick g x y).end
pick_end true x y = refl
pick_end false x y = refl

pick-count : (g : Bool) (n w : ℕ) (x y : Behind) → x.entries ≡ 4 + n + w → y.entries ≡ 4 + n → suc (suc (suc (suc (n + pick g w 0)))) ≡ (pick g x y).entries
pick-count true n w x y p q = omega (arith, p)
pick-count false n w x y p q = omega (arith, q)

module _ {A : Type 0} (payload : List ℕ) (pos blocks points : ℕ) where
  troposphere-passes : (head : ℕ) → head ≡ got payload pos 15 → head / 2 ^ 12 ≤ 2 → (bit_and (head / 2 ^ 1) 255 ≡ 255 → ⊥)
      → (b : Behind) → t_grid_behind payload (t_polynomial_end payload (pos + 15) (head / 2 ^ 12) (bit_and head 1)) (head / 2 ^ 12) (leb 2 blocks) points ≡ b
      → (b.end ≡ 0 → ⊥) → Goes {A = A} payload (troposphere blocks points) pos b
  unfolding t_grid_behind sf line_of find table
  troposphere-passes head e m n b q h =
      let equation : ℕ = head / 2 ^ 12 in
      let quality : ℕ = got payload (pos + 3) 3 in
      let delay : ℕ = bit_and (head / 2 ^ 1) 255 in
      let size : ℕ = bit_and head 1 in
      let mid : ℕ = t_polynomial_end payload (pos + 15) equation size in
      let s : (t_grid_behind payload mid equation (leb 2 blocks) points).end ≡ 0 → ⊥ = λ z. h (ap (λ (x : Behind). x.end) (sym q) ∙ z) in
      let whole : Behind = record { end = mid + 1 + (troposphere_residual (got payload mid 1)).width * points; entries = 4 + coefficient_count equation + (points + 1) } in
      let plain : Behind = record { end = mid; entries = 4 + coefficient_count equation } in
      let p = beyond (eqb mid 0) (pick (leb 2 blocks) whole plain) s in
      let fifteen : pos + 3 + 3 + 8 + 1 ≡ pos + 15 = omega arith in
      let poly : Passes {A = A} payload (polynomial (troposphere_constant size) (troposphere_linear size) (troposphere_product size) equation) (pos + 3 + 3 + 8 + 1) mid (coefficient_count equation)
      = subst (λ x. Passes {A = A} payload (polynomial (troposphere_constant size) (troposphere_linear size) (troposphere_product size) equation) x mid (coefficient_count equation))
      (sym fifteen) (t-polynomial-passes payload (pos + 15) equation m size (eqb-false mid 0 p.no)) in
      let grids = passes-optional (grid-passes {A = A} {payload = payload} 1 (full refl) refl troposphere_residual t-full points mid) (leb 2 blocks) in
      let end : ℕ = pick (leb 2 blocks) (mid + 1 + (troposphere_residual (got payload mid 1)).width * points) mid in
      let low : pos + 3 + 3 + 8 + 1 ≤ mid = poly.onward in
      let high : mid ≤ end = grids.onward in
      subst (λ d. Goes {A = A} payload (troposphere blocks points) pos d) (p.is ∙ q)
      (passes-as {n = suc (suc (suc (suc (coefficient_count equation + pick (leb 2 blocks) (points + 1) 0))))} _ _ (pick_end (leb 2 blocks) whole plain) (pick-count (leb 2 blocks) (coefficient_count equation) (points + 1) whole plain refl refl)
      (passes-field equation
      (record {
        word = lit≤ tt;
        code = λ i. t-model payload pos head e (omega arith);
        taken = λ i. taken-up-to (sf 41) equation (omega arith) refl m;
      })
      (passes-field quality (has-full (full refl) (pos + 3) end)
      (passes-field delay
      (record {
        word = lit≤ tt;
        code = λ i. t-delay payload pos head e (omega arith);
        taken = λ i. taken-up-to (sf 43) delay (omega arith) refl (omega (arith, and_mask (head / 2 ^ 1) 8));
      })
      (passes-field size
      (record {
        word = lit≤ tt;
        code = λ i. t-size payload pos head e (omega arith);
        taken = λ i. taken-up-to (sf 44) size (omega arith) refl (omega (arith, and_mask head 1));
      })
      (passes_then
      {rest = λ polynomial k. optional (leb 2 blocks) (grid (sf 51) troposphere_residual points) (λ grid.
      k (record { equation = equation; quality = quality; delay = delay; coefficient_size = size; polynomial = polynomial; grid = grid }))}
      poly
      (passes-with (λ grid. record { equation = equation; quality = quality; delay = delay; coefficient_size = size; polynomial = poly.value; grid = grid }) grids)))))))

  troposphere-there : ((troposphere_behind payload pos blocks points).end ≡ 0 → ⊥)
      → Goes {A = A} payload (optional (leb 1 blocks) (troposphere blocks points)) pos (troposphere_behind payload pos blocks points)
  unfolding troposphere_behind
  troposphere-there h = go (eqb blocks 0) refl h
    where
      head : ℕ
      head = got payload pos 15

      there : Behind
      there = t_grid_behind payload (t_polynomial_end payload (pos + 15) (head / 2 ^ 12) (bit_and head 1)) (head / 2 ^ 12) (leb 2 blocks) points

      tested : Behind
      tested = pick (ltb 2 (head / 2 ^ 12)) nowhere (pick (eqb (bit_and (head / 2 ^ 1) 255) 255) nowhere there)

      go : (b : Bool) → eqb blocks 0 ≡ b → ((pick b (record { end = pos; entries = 0 }) tested).end ≡ 0 → ⊥)
          → Goes {A = A} payload (optional (leb 1 blocks) (troposphere blocks points)) pos (pick b (record { end = pos; entries = 0 }) tested)
      go true e h =
          let z : blocks ≡ 0 = eqb-true blocks 0 e in
          passes-absent (troposphere blocks points) pos (leb 1 blocks) (lt-leb 1 blocks (omega arith))
      go false e h =
          let z : blocks ≡ 0 → ⊥ = eqb-false blocks 0 e in
          let p = beyond (ltb 2 (head / 2 ^ 12)) (pick (eqb (bit_and (head / 2 ^ 1) 255) 255) nowhere there) h in
          let r = beyond (eqb (bit_and (head / 2 ^ 1) 255) 255) there p.some in
          subst (λ d. Goes {A = A} payload (optional (leb 1 blocks) (troposphere blocks points)) pos d) (r.is ∙ p.is)
          (passes-present (leb 1 blocks) (le-leb 1 blocks (omega arith))
          (troposphere-passes head refl (ltb-false 2 (head / 2 ^ 12) p.no) (eqb-false (bit_and (head / 2 ^ 1) 255) 255 r.no) there refl r.some))

-- ---- areas

module _ (payload : List ℕ) (pos head : ℕ) (e : head ≡ got payload pos 19) (h : pos + 19 ≤ 8 * length payload) where
  a-points : bit_and (head / 2 ^ 4) 127 ≡ got payload (pos + 8) 7
  a-points = omega (arith, head-part payload pos 8 7 4 19 head refl (lit≤ tt) h e, and_mask (head / 2 ^ 4) 7)

  a-troposphere : bit_and (head / 2 ^ 2) 3 ≡ got payload (pos + 8 + 7) 2
  a-troposphere =
      let z : pos + 15 ≡ pos + 8 + 7 = omega arith in
      omega (arith, head-part payload pos 15 2 2 19 head refl (lit≤ tt) h e, and_mask (head / 2 ^ 2) 2, ap (λ (x : ℕ). got payload x 2) z)

  a-ionosphere : bit_and head 3 ≡ got payload (pos + 8 + 7 + 2) 2
  a-ionosphere =
      let z : pos + 17 ≡ pos + 8 + 7 + 2 = omega arith in
      omega (arith, head-part payload pos 17 2 0 19 head refl (lit≤ tt) h e, and_mask head 2, ap (λ (x : ℕ). got payload x 2) z)

module _ {A : Type 0} (c : Constellation) (payload : List ℕ) where
  area-passes : (pos : ℕ) → ((area_behind c payload pos).end ≡ 0 → ⊥) → Goes {A = A} payload (area c) pos (area_behind c payload pos)
  unfolding area_behind ionosphere_after sf line_of find table
  area-passes pos h =
      let head : ℕ = got payload pos 19 in
      let id : ℕ = got payload pos 8 in
      let points : ℕ = bit_and (head / 2 ^ 4) 127 in
      let t_blocks : ℕ = bit_and (head / 2 ^ 2) 3 in
      let i_blocks : ℕ = bit_and head 3 in
      let t : Behind = troposphere_behind payload (pos + 19) t_blocks points in
      let i : Behind = ionosphere_behind c payload t.end i_blocks points in
      let whole : Behind = record { end = i.end; entries = 4 + t.entries + i.entries } in
      let p1 = beyond (eqb t_blocks 3) (pick (eqb i_blocks 3) nowhere (pick (eqb t.end 0) nowhere whole)) h in
      let p2 = beyond (eqb i_blocks 3) (pick (eqb t.end 0) nowhere whole) p1.some in
      let p3 = beyond (eqb t.end 0) whole p2.some in
      let n1 : t_blocks ≡ 3 → ⊥ = eqb-false t_blocks 3 p1.no in
      let n2 : i_blocks ≡ 3 → ⊥ = eqb-false i_blocks 3 p2.no in
      let nineteen : pos + 19 ≡ pos + 8 + 7 + 2 + 2 = omega arith in
      let first = troposphere-there {A = A} payload (pos + 19) t_blocks points (eqb-false t.end 0 p3.no) in
      let second = ionosphere-there {A = A} c payload t.end i_blocks points p3.some in
      let low : pos + 19 ≤ t.end = first.onward in
      let high : t.end ≤ i.end = second.onward in
      let rest : Passes {A = A} {B = Area} payload
      (λ k. optional (leb 1 t_blocks) (troposphere t_blocks points) (λ troposphere. optional (leb 1 i_blocks) (ionosphere c i_blocks points) (λ ionosphere.
      k (record { id = id; points = points; troposphere_blocks = t_blocks; ionosphere_blocks = i_blocks; troposphere = troposphere; ionosphere = ionosphere }))))
      (pos + 19) i.end (t.entries + i.entries)
      = passes_then
      {rest = λ troposphere k. optional (leb 1 i_blocks) (ionosphere c i_blocks points) (λ ionosphere.
      k (record { id = id; points = points; troposphere_blocks = t_blocks; ionosphere_blocks = i_blocks; troposphere = troposphere; ionosphere = ionosphere }))}
      first
      (passes-with (λ ionosphere. record { id = id; points = points; troposphere_blocks = t_blocks; ionosphere_blocks = i_blocks; troposphere = first.value; ionosphere = ionosphere }) second) in
      subst (λ d. Goes {A = A} payload (area c) pos d) (p3.is ∙ p2.is ∙ p1.is)
      (passes-as {n = suc (suc (suc (suc (t.entries + i.entries))))} i.end (4 + t.entries + i.entries) refl (omega arith)
      (passes-field id (has-full (full refl) pos i.end)
      (passes-field points
      (record {
        word = lit≤ tt;
        code = λ i. a-points payload pos head refl (omega arith);
        taken = λ i. taken-up-to (sf 39) points (omega arith) refl (omega (arith, and_mask (head / 2 ^ 4) 7));
      })
      (passes-field t_blocks
      (record {
        word = lit≤ tt;
        code = λ i. a-troposphere payload pos head refl (omega arith);
        taken = λ i. taken-up-to (sf 40) t_blocks (omega arith) refl (omega (arith, and_mask (head / 2 ^ 2) 2));
      })
      (passes-field i_blocks
      (record {
        word = lit≤ tt;
        code = λ i. a-ionosphere payload pos head refl (omega arith);
        taken = λ i. taken-up-to (sf 40) i_blocks (omega arith) refl (omega (arith, and_mask head 2));
      })
      (passes-from (pos + 8 + 7 + 2 + 2) nineteen rest))))))

  areas-pass : (n pos entries : ℕ) → ((areas_behind c payload n pos entries).end ≡ 0 → ⊥)
      → (count : ℕ) × (entries + count ≡ (areas_behind c payload n pos entries).entries)
      × Passes {A = A} payload (times n (area c)) pos (areas_behind c payload n pos entries).end count
  unfolding areas_behind
  areas-pass zero pos entries h = (0, omega arith, times_none (area c) pos)
  areas-pass (suc n) pos entries h =
      let a : Behind = area_behind c payload pos in
      let p = beyond (eqb a.end 0) (areas_behind c payload n a.end (entries + a.entries)) h in
      let rest = areas-pass n a.end (entries + a.entries) p.some in
      let first = area-passes pos (eqb-false a.end 0 p.no) in (
        a.entries + rest.0,
        omega (arith, rest.1, ap (λ (x : Behind). x.entries) p.is),
        passes-as _ _ (ap (λ (x : Behind). x.end) p.is) refl (times_more (area c) n first rest.2),
      )

  -- ---- the message

  hpac-passes : (n : ℕ) → n ≡ got payload 14 5 + 1 → (end count : ℕ) → Passes {A = A} payload (times n (area c)) 19 end count
      → Passes {A = A} payload (hpac c) 0 end (suc (suc (suc (suc count))))
  unfolding sf line_of find table
  hpac-passes n e end count p =
      passes-field _ (has-full (full refl) _ _)
      (passes-field _ (has-full (full refl) _ _)
      (passes-field _ (has-full (full refl) _ _)
      (passes-field _ (has-full (full refl) _ _)
      (passes-with (λ areas. record { siou = got payload 0 9; aiou = got payload 9 4; areas = areas })
      (subst (λ x. Passes {A = A} payload (times x (area c)) 19 end count) (e ∙ add-one (got payload 14 5)) p)))))

record Whole (bytes : ℕ) (b : Behind) (bits entries : ℕ) : Type 0 where
  some : b.end ≡ 0 → ⊥
  there : b.end ≤ 8 * bytes
  bit : b.end ≡ bits
  entry : b.entries ≡ entries

whole : (bytes : ℕ) (b : Behind) (bits entries : ℕ) → reads_by bytes b ≡ Some (record { bits = bits; entries = entries }) → Whole bytes b bits entries
unfolding reads_by
whole bytes b bits entries e =
    let p = unless (eqb b.end 0) _ bits entries e in
    let q = unless (ltb bytes ((b.end + 7) / 8)) _ bits entries p.1 in
    let long : (b.end + 7) / 8 ≤ bytes = ltb-false bytes ((b.end + 7) / 8) q.0 in
    record { some = eqb-false b.end 0 p.0; there = omega arith; bit = ap (λ (x : Extent). x.bits) (some-value q.1); entry = ap (λ (x : Extent). x.entries) (some-value q.1) }

pub hpac-reads : (c : Constellation) (payload : List ℕ) (bits entries : ℕ) → hpac_quick c payload ≡ Some (record { bits = bits; entries = entries })
    → run_l (hpac_layout c) (to_bits payload) 0 0 [] ≡ finished entries bits []
unfolding hpac_quick
hpac-reads c payload bits entries e =
    let n : ℕ = got payload 14 5 + 1 in
    let b : Behind = areas_behind c payload n 19 4 in
    let w = whole (length payload) b bits entries e in
    let p = areas-pass {A = Message} c payload n 19 4 w.some in
    let count : suc (suc (suc (suc p.0))) ≡ entries = omega (arith, p.1, w.entry) in
    passes-whole (hpac-passes c payload n refl b.end p.0 p.2) w.there (hpac_message c) ∙ ap₂ (λ (x y : ℕ). finished x y []) count w.bit
