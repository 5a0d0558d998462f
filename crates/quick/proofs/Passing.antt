-- The returns and the turns of the code in for_hpac.rt over plain variables, as it makes its tests: what the proofs of its functions cite.
use Rattle.std.specs.Prelude.{Some, None}
use mathlib.Core.Path.{◌≡◌, refl, ap, ap₂, sym, ◌∙◌}
use mathlib.Core.Bool.{Bool, true, false}
use mathlib.Core.List.{List}
use Prim.Native.Nat.{ℕ, zero, suc, ◌+◌, ◌-◌, ◌*◌, ◌/◌, ◌^◌, ◌≤◌, ◌<◌}
use native.Mathlib.Nat.{mul-le-mul_right}
use native.Mathlib.Omega.{arith}
use borrow.Author.Tests.{eq-eqb, ne_eqb, lt-ltb, le-ltb}
use lib.Bits.{bit_and, and_le_r}
use lib.Count.{ones}
use lib.Dec.{eqb, leb}
use lib.ListN.{length}
use Rattle.bits.specs.Bits.{got}
use Rattle.layout.specs.declared.Field.{Field}
use Rattle.layout.specs.Layout.{pick}
use Rattle.fields.specs.Columns.{width_small}
use Rattle.fields.specs.Fields.{sf}
use Rattle.codes.specs.declared.Constellation.{Constellation}
use Rattle.codes.specs.Tables.{mask_size}
use Rattle.codes.specs.Sizes.{mask_word}
use Rattle.hpac.specs.Hpac.{troposphere_residual, ionosphere_residual}
use Rattle.quick.specs.Results.{Quick}
use Rattle.quick.specs.declared.for_hpac.Behind.{Behind}
use Rattle.quick.specs.Passes.{got-small}
use Rattle.quick.specs.Hpac.{Within, within, Spans, spans, one_end, three_end, linear_end, product_end, t_polynomial_end, i_polynomial_end, coefficient_count, grid_entries, slant_end, slants_end, nowhere, satellites_behind, ionosphere_behind, t_grid_behind, troposphere_behind, ionosphere_after, area_behind, areas_behind, reads_by, hpac_quick}

-- ---- coefficients

module _ (payload : List ℕ) (pos width top x : ℕ) where
  pub one-top : x ≡ got payload pos width → x ≡ top → Within (one_end payload pos width top) (pos + 16) 0
  unfolding one_end
  one-top e h = within (rw (eq-eqb (got payload pos width) top (sym e ∙ h))) (omega arith)

  pub one-passed : x ≡ got payload pos width → (x ≡ top → ⊥) → width ≤ 16 → Within (one_end payload pos width top) (pos + 16) (pos + width)
  unfolding one_end
  one-passed e h w = within (rw (ne_eqb (got payload pos width) top (λ q. h (e ∙ q)))) (omega arith)

  module _ (e : x ≡ got payload pos (3 * width)) where
    pub three-first : x / 2 ^ (2 * width) ≡ top → Within (three_end payload pos width top) (pos + 48) 0
    unfolding three_end
    three-first h = within (rw (sym e, eq-eqb (x / 2 ^ (2 * width)) top h)) (omega arith)

    module _ (m : x / 2 ^ (2 * width) ≡ top → ⊥) where
      pub three-second : bit_and (x / 2 ^ width) top ≡ top → Within (three_end payload pos width top) (pos + 48) 0
      unfolding three_end
      three-second h = within (rw (sym e, ne_eqb (x / 2 ^ (2 * width)) top m, eq-eqb (bit_and (x / 2 ^ width) top) top h)) (omega arith)

      module _ (n : bit_and (x / 2 ^ width) top ≡ top → ⊥) where
        pub three_third : bit_and x top ≡ top → Within (three_end payload pos width top) (pos + 48) 0
        unfolding three_end
        three_third h = within (rw (sym e, ne_eqb (x / 2 ^ (2 * width)) top m, ne_eqb (bit_and (x / 2 ^ width) top) top n, eq-eqb (bit_and x top) top h)) (omega arith)

        pub three-passed : (bit_and x top ≡ top → ⊥) → width ≤ 16 → Within (three_end payload pos width top) (pos + 48) (pos + 3 * width)
        unfolding three_end
        three-passed h w =
            within (rw (sym e, ne_eqb (x / 2 ^ (2 * width)) top m, ne_eqb (bit_and (x / 2 ^ width) top) top n, ne_eqb (bit_and x top) top h)) (omega arith)

module _ (payload : List ℕ) (pos equation width top r : ℕ) where
  pub linear-one : equation ≡ 0 → r ≡ one_end payload pos width top → r ≤ pos + 16 → Within (linear_end payload pos equation width top) (pos + 48) r
  unfolding linear_end
  linear-one z e h = within (rw (eq-eqb equation 0 z) e) (omega arith)

  pub linear-three : (equation ≡ 0 → ⊥) → r ≡ three_end payload pos width top → r ≤ pos + 48
      → Within (linear_end payload pos equation width top) (pos + 48) r
  unfolding linear_end
  linear-three z e h = within (rw (ne_eqb equation 0 z) e) h

module _ (payload : List ℕ) (pos equation width top : ℕ) where
  pub product-none : pos ≡ 0 → Within (product_end payload pos equation width top) (pos + 16) 0
  unfolding product_end
  product-none z = within (rw (eq-eqb pos 0 z)) (omega arith)

  pub product-absent : (pos ≡ 0 → ⊥) → equation < 2 → Within (product_end payload pos equation width top) (pos + 16) pos
  unfolding product_end
  product-absent z h = within (rw (ne_eqb pos 0 z, lt-ltb equation 2 h)) (omega arith)

  pub product-there : (r : ℕ) → (pos ≡ 0 → ⊥) → 2 ≤ equation → r ≡ one_end payload pos width top → r ≤ pos + 16
      → Within (product_end payload pos equation width top) (pos + 16) r
  unfolding product_end
  product-there r z h e few = within (rw (ne_eqb pos 0 z, le-ltb equation 2 h) e) few

module _ (payload : List ℕ) (pos equation size a r : ℕ) (near : a ≤ pos + 48) (few : r ≤ a + 16) where
  pub t-small : size ≡ 0 → a ≡ linear_end payload pos equation 7 127 → r ≡ product_end payload a equation 9 511
      → Within (t_polynomial_end payload pos equation size) (pos + 64) r
  unfolding t_polynomial_end
  t-small z e q = within (rw (eq-eqb size 0 z, sym e) q) (omega arith)

  pub t-large : (size ≡ 0 → ⊥) → a ≡ linear_end payload pos equation 9 511 → r ≡ product_end payload a equation 11 2047
      → Within (t_polynomial_end payload pos equation size) (pos + 64) r
  unfolding t_polynomial_end
  t-large z e q = within (rw (ne_eqb size 0 z, sym e) q) (omega arith)

  pub i-small : size ≡ 0 → a ≡ linear_end payload pos equation 12 4095 → r ≡ product_end payload a equation 13 8191
      → Within (i_polynomial_end payload pos equation size) (pos + 64) r
  unfolding i_polynomial_end
  i-small z e q = within (rw (eq-eqb size 0 z, sym e) q) (omega arith)

  pub i-large : (size ≡ 0 → ⊥) → a ≡ linear_end payload pos equation 14 16383 → r ≡ product_end payload a equation 15 32767
      → Within (i_polynomial_end payload pos equation size) (pos + 64) r
  unfolding i_polynomial_end
  i-large z e q = within (rw (ne_eqb size 0 z, sym e) q) (omega arith)

pub count-one : (equation : ℕ) → equation ≡ 0 → Within (coefficient_count equation) 4 1
unfolding coefficient_count
count-one equation z = within (rw (eq-eqb equation 0 z)) (omega arith)

pub count-more : (equation : ℕ) → (equation ≡ 0 → ⊥) → equation ≤ 2 → Within (coefficient_count equation) 4 (equation + 2)
unfolding coefficient_count
count-more equation z h = within (rw (ne_eqb equation 0 z)) (omega arith)

pub grid-there : (grids : Bool) (points : ℕ) → grids ≡ true → points ≤ 127 → Within (grid_entries grids points) 128 (points + 1)
unfolding grid_entries
grid-there grids points e h = within (rw e) (omega arith)

pub grid-absent : (grids : Bool) (points : ℕ) → grids ≡ false → Within (grid_entries grids points) 128 0
unfolding grid_entries
grid-absent grids points e = within (rw e) (omega arith)

-- ---- residuals have 16 bits at most

width-pick : (b : Bool) (x : ℕ) (f : Field) → f.width ≤ 16 → (pick b (sf x) f).width ≤ 16
width-pick true x f h = width_small x
width-pick false x f h = h

i-narrow : (size : ℕ) → (ionosphere_residual size).width ≤ 16
i-narrow size =
    let two : Field = pick (eqb size 2) (sf 66) (sf 67) in
    let one : Field = pick (eqb size 1) (sf 65) two in
    width-pick (eqb size 0) 64 one (width-pick (eqb size 1) 65 two (width-pick (eqb size 2) 66 (sf 67) (width_small 67)))

t-narrow : (size : ℕ) → (troposphere_residual size).width ≤ 16
t-narrow size = width-pick (eqb size 0) 52 (sf 53) (width_small 53)

narrow-mul : (w points : ℕ) → w ≤ 16 → points ≤ 127 → w * points ≤ 2032
narrow-mul w points h k = omega (arith, mul-le-mul_right points h)

module _ (size points w : ℕ) (few : points ≤ 127) where
  pub i-mul : w ≡ (ionosphere_residual size).width → w * points < 2 ^ 64
  i-mul e = omega (arith, narrow-mul w points (omega (arith, i-narrow size)) few)

  pub t-mul : w ≡ (troposphere_residual size).width → w * points < 2 ^ 64
  t-mul e = omega (arith, narrow-mul w points (omega (arith, t-narrow size)) few)

  pub i-add : (pos value end : ℕ) → w ≡ (ionosphere_residual size).width → Within value (pos + 5 + 64) end → pos < 2 ^ 34 → end + 2 + w * points < 2 ^ 64
  i-add pos value end e p h = omega (arith, p.few, narrow-mul w points (omega (arith, i-narrow size)) few)

  pub t-add : (end : ℕ) → w ≡ (troposphere_residual size).width → end < 2 ^ 33 → end + 1 + w * points < 2 ^ 64
  t-add end e h = omega (arith, narrow-mul w points (omega (arith, t-narrow size)) few)

-- ---- satellites

module _ (payload : List ℕ) (pos equation : ℕ) (grids : Bool) (points size end : ℕ) (s : size ≡ got payload (pos + 4) 1)
    (p : Within (i_polynomial_end payload (pos + 5) equation size) (pos + 5 + 64) end) where
  i-end : i_polynomial_end payload (pos + 5) equation (got payload (pos + 4) 1) ≡ end
  i-end = sym (p.same ∙ ap (i_polynomial_end payload (pos + 5) equation) s)

  pub slant-none : end ≡ 0 → Within (slant_end payload pos equation grids points) (pos + 2200) 0
  unfolding slant_end
  slant-none z = within (rw (i-end, eq-eqb end 0 z)) (omega arith)

  module _ (some : end ≡ 0 → ⊥) where
    pub slant-grid : (residual w : ℕ) → grids ≡ true → residual ≡ got payload end 2 → w ≡ (ionosphere_residual residual).width → points ≤ 127
        → Within (slant_end payload pos equation grids points) (pos + 2200) (end + 2 + w * points)
    unfolding slant_end
    slant-grid residual w g e q few =
        let k : w ≡ (ionosphere_residual (got payload end 2)).width = q ∙ ap (λ (x : ℕ). (ionosphere_residual x).width) e in
        within (rw (i-end, ne_eqb end 0 some, g) (ap (λ (x : ℕ). end + 2 + x * points) k))
        (omega (arith, p.few, narrow-mul w points (omega (arith, i-narrow residual)) few))

    pub slant-plain : grids ≡ false → Within (slant_end payload pos equation grids points) (pos + 2200) end
    unfolding slant_end
    slant-plain g = within (rw (i-end, ne_eqb end 0 some, g)) (omega (arith, p.few))

-- at the loop's head: the satellites that are left pass from here as all do from the start
pub record Slants (payload : List ℕ) (n start equation : ℕ) (grids : Bool) (points left pos : ℕ) : Type 0 where
  pub on : slants_end payload left pos equation grids points ≡ slants_end payload n start equation grids points
  pub few : pos + 2200 * left ≤ start + 140800
  pub near : start < 2 ^ 33

pub slants-start : (payload : List ℕ) (n start equation : ℕ) (grids : Bool) (points : ℕ) → n ≤ 64 → start < 2 ^ 33
    → Slants payload n start equation grids points n start
slants-start payload n start equation grids points h k = record { on = refl; few = omega arith; near = k }

slants-one : (payload : List ℕ) (left pos equation : ℕ) (grids : Bool) (points : ℕ) → 0 < left
    → slants_end payload left pos equation grids points
    ≡ pick (eqb (slant_end payload pos equation grids points) 0) 0 (slants_end payload (left - 1) (slant_end payload pos equation grids points) equation grids points)
unfolding slants_end
slants-one payload zero pos equation grids points h = absurd (omega arith)
slants-one payload (suc left) pos equation grids points h =
    let e : left ≡ suc left - 1 = omega arith in
    let end : ℕ = slant_end payload pos equation grids points in
    ap (λ (x : ℕ). pick (eqb end 0) 0 (slants_end payload x end equation grids points)) e

module _ {payload : List ℕ} {n start equation : ℕ} {grids : Bool} {points left pos : ℕ} (t : Slants payload n start equation grids points left pos) where
  pub slants-near : pos < 2 ^ 34
  slants-near = omega (arith, t.few, t.near)

  pub slants-done : left ≤ 0 → Within (slants_end payload n start equation grids points) (start + 140800) pos
  unfolding slants_end
  slants-done h =
      let z : 0 ≡ left = omega arith in
      within (ap (λ (x : ℕ). slants_end payload x pos equation grids points) z ∙ t.on) (omega (arith, t.few))

  module _ (next : ℕ) (some : 0 < left) (p : Within (slant_end payload pos equation grids points) (pos + 2200) next) where
    slants-on : pick (eqb next 0) 0 (slants_end payload (left - 1) next equation grids points) ≡ slants_end payload n start equation grids points
    slants-on = ap (λ (x : ℕ). pick (eqb x 0) 0 (slants_end payload (left - 1) x equation grids points)) p.same
        ∙ sym (slants-one payload left pos equation grids points some) ∙ t.on

    pub slants-none : next ≡ 0 → Within (slants_end payload n start equation grids points) (start + 140800) 0
    slants-none z = within (rw (eq-eqb next 0 z) at slants-on) (omega arith)

    pub slants-again : (next ≡ 0 → ⊥) → Slants payload n start equation grids points (left - 1) next
    slants-again z = record { on = rw (ne_eqb next 0 z) at slants-on; few = omega (arith, t.few, p.few); near = t.near }

-- ---- the ionosphere's block

each-few : (n each : ℕ) → n ≤ 64 → each ≤ 134 → n * each ≤ 8576
each-few n each h k = omega (arith, mul-le-mul_right each h)

module _ (n count grid a b : ℕ) (h : n ≤ 64) (p : Within a 4 count) (q : Within b 128 grid) where
  pub each-mul : n * (2 + count + grid) < 2 ^ 64
  each-mul = omega (arith, each-few n (2 + count + grid) h (omega (arith, p.few, q.few)))

  pub each-add : 3 + n * (2 + count + grid) < 2 ^ 64
  each-add = omega (arith, each-few n (2 + count + grid) h (omega (arith, p.few, q.few)))

module _ (payload : List ℕ) (pos mask equation : ℕ) (grids : Bool) (points : ℕ) where
  pub satellites-none : (r : Behind) → mask ≡ 0 → r ≡ nowhere → Spans (satellites_behind payload pos mask equation grids points) (pos + 140800) 9000 r
  unfolding satellites_behind
  satellites-none r z e =
      spans (rw (eq-eqb mask 0 z) e) (omega (arith, ap (λ (x : Behind). x.end) e)) (omega (arith, ap (λ (x : Behind). x.entries) e))

  pub satellites-there : (n count grid end : ℕ) → (mask ≡ 0 → ⊥) → n ≡ ones mask → n ≤ 64 → Within (coefficient_count equation) 4 count
      → Within (grid_entries grids points) 128 grid → Within (slants_end payload n pos equation grids points) (pos + 140800) end
      → Spans (satellites_behind payload pos mask equation grids points) (pos + 140800) 9000 (record { end = end; entries = 3 + n * (2 + count + grid) })
  unfolding satellites_behind
  satellites-there n count grid end some e h p q s =
      let a : end ≡ slants_end payload (ones mask) pos equation grids points = s.same ∙ ap (λ (x : ℕ). slants_end payload x pos equation grids points) e in
      let b : 2 + count + grid ≡ 2 + coefficient_count equation + grid_entries grids points = ap₂ (λ (x y : ℕ). 2 + x + y) p.same q.same in
      spans (rw (ne_eqb mask 0 some) (ap₂ (λ (x y : ℕ). record { end = x; entries = y }) a (ap₂ (λ (x y : ℕ). 3 + x * y) e b)))
      s.few (omega (arith, each-few n (2 + count + grid) h (omega (arith, p.few, q.few))))

module _ (constellation : Constellation) (payload : List ℕ) (pos blocks points : ℕ) where
  pub ionosphere-absent : blocks ≡ 0 → Spans (ionosphere_behind constellation payload pos blocks points) (pos + 141000) 9000 (record { end = pos; entries = 0 })
  unfolding ionosphere_behind
  ionosphere-absent z = spans (rw (eq-eqb blocks 0 z)) (omega arith) (omega arith)

  module _ (head : ℕ) (r : Behind) (there : blocks ≡ 0 → ⊥) (e : head ≡ got payload pos 5) where
    pub ionosphere-model : 2 < head / 2 ^ 2 → r ≡ nowhere → Spans (ionosphere_behind constellation payload pos blocks points) (pos + 141000) 9000 r
    unfolding ionosphere_behind
    ionosphere-model h q =
        spans (rw (ne_eqb blocks 0 there, sym e, lt-ltb 2 (head / 2 ^ 2) h) q)
        (omega (arith, ap (λ (x : Behind). x.end) q)) (omega (arith, ap (λ (x : Behind). x.entries) q))

    pub ionosphere-passed : (width mask : ℕ) → head / 2 ^ 2 ≤ 2 → width ≡ mask_size constellation (bit_and head 3) → mask ≡ got payload (pos + 5) width
        → Spans (satellites_behind payload (pos + 5 + width) mask (head / 2 ^ 2) (leb 2 blocks) points) (pos + 5 + width + 140800) 9000 r
        → Spans (ionosphere_behind constellation payload pos blocks points) (pos + 141000) 9000 r
    unfolding ionosphere_behind
    ionosphere-passed width mask h w m g =
        spans (rw (ne_eqb blocks 0 there, sym e, le-ltb 2 (head / 2 ^ 2) h, sym w, sym m) g.same)
        (omega (arith, g.few, (mask_word constellation (bit_and head 3)).most)) g.light

pub mask-near : (constellation : Constellation) (size pos width : ℕ) → width ≡ mask_size constellation size → pos < 2 ^ 32 → pos + 5 + width < 2 ^ 33
mask-near constellation size pos width e h = omega (arith, (mask_word constellation size).most)

-- ---- the troposphere's block

module _ (payload : List ℕ) (pos equation : ℕ) (grids : Bool) (points : ℕ) where
  pub t-none : (r : Behind) → pos ≡ 0 → r ≡ nowhere → Spans (t_grid_behind payload pos equation grids points) (pos + 2100) 200 r
  unfolding t_grid_behind
  t-none r z e = spans (rw (eq-eqb pos 0 z) e) (omega (arith, ap (λ (x : Behind). x.end) e)) (omega (arith, ap (λ (x : Behind). x.entries) e))

  module _ (n : ℕ) (some : pos ≡ 0 → ⊥) (p : Within (coefficient_count equation) 4 n) where
    pub t-grid : (residual w : ℕ) → grids ≡ true → residual ≡ got payload pos 1 → w ≡ (troposphere_residual residual).width → points ≤ 127
        → Spans (t_grid_behind payload pos equation grids points) (pos + 2100) 200 (record { end = pos + 1 + w * points; entries = 4 + n + (points + 1) })
    unfolding t_grid_behind
    t-grid residual w g e q few =
        let k : w ≡ (troposphere_residual (got payload pos 1)).width = q ∙ ap (λ (x : ℕ). (troposphere_residual x).width) e in
        spans (rw (ne_eqb pos 0 some, g) (ap₂ (λ (x y : ℕ). record { end = pos + 1 + x * points; entries = 4 + y + (points + 1) }) k p.same))
        (omega (arith, narrow-mul w points (omega (arith, t-narrow residual)) few)) (omega (arith, p.few))

    pub t-plain : grids ≡ false → Spans (t_grid_behind payload pos equation grids points) (pos + 2100) 200 (record { end = pos; entries = 4 + n })
    unfolding t_grid_behind
    t-plain g = spans (rw (ne_eqb pos 0 some, g) (ap (λ (y : ℕ). record { end = pos; entries = 4 + y }) p.same)) (omega arith) (omega (arith, p.few))

module _ (payload : List ℕ) (pos blocks points : ℕ) where
  pub troposphere-absent : blocks ≡ 0 → Spans (troposphere_behind payload pos blocks points) (pos + 2200) 200 (record { end = pos; entries = 0 })
  unfolding troposphere_behind
  troposphere-absent z = spans (rw (eq-eqb blocks 0 z)) (omega arith) (omega arith)

  module _ (head : ℕ) (r : Behind) (there : blocks ≡ 0 → ⊥) (e : head ≡ got payload pos 15) where
    pub troposphere-model : 2 < head / 2 ^ 12 → r ≡ nowhere → Spans (troposphere_behind payload pos blocks points) (pos + 2200) 200 r
    unfolding troposphere_behind
    troposphere-model h q =
        spans (rw (ne_eqb blocks 0 there, sym e, lt-ltb 2 (head / 2 ^ 12) h) q)
        (omega (arith, ap (λ (x : Behind). x.end) q)) (omega (arith, ap (λ (x : Behind). x.entries) q))

    module _ (model : head / 2 ^ 12 ≤ 2) where
      pub troposphere-delay : bit_and (head / 2 ^ 1) 255 ≡ 255 → r ≡ nowhere → Spans (troposphere_behind payload pos blocks points) (pos + 2200) 200 r
      unfolding troposphere_behind
      troposphere-delay h q =
          spans (rw (ne_eqb blocks 0 there, sym e, le-ltb 2 (head / 2 ^ 12) model, eq-eqb (bit_and (head / 2 ^ 1) 255) 255 h) q)
          (omega (arith, ap (λ (x : Behind). x.end) q)) (omega (arith, ap (λ (x : Behind). x.entries) q))

      pub troposphere-passed : (end : ℕ) → (bit_and (head / 2 ^ 1) 255 ≡ 255 → ⊥)
          → Within (t_polynomial_end payload (pos + 15) (head / 2 ^ 12) (bit_and head 1)) (pos + 15 + 64) end
          → Spans (t_grid_behind payload end (head / 2 ^ 12) (leb 2 blocks) points) (end + 2100) 200 r
          → Spans (troposphere_behind payload pos blocks points) (pos + 2200) 200 r
      unfolding troposphere_behind
      troposphere-passed end h p g =
          spans (rw (ne_eqb blocks 0 there, sym e, le-ltb 2 (head / 2 ^ 12) model, ne_eqb (bit_and (head / 2 ^ 1) 255) 255 h, sym p.same) g.same)
          (omega (arith, p.few, g.few)) g.light

-- ---- areas

module _ (constellation : Constellation) (payload : List ℕ) (t : Behind) (blocks points : ℕ) where
  pub after_none : (r : Behind) → t.end ≡ 0 → r ≡ nowhere → Spans (ionosphere_after constellation payload t blocks points) (t.end + 141000) 10000 r
  unfolding ionosphere_after
  after_none r z e =
      spans (rw (eq-eqb t.end 0 z) e) (omega (arith, ap (λ (x : Behind). x.end) e)) (omega (arith, ap (λ (x : Behind). x.entries) e))

  pub after-passed : (i : Behind) → (t.end ≡ 0 → ⊥) → t.entries ≤ 200 → Spans (ionosphere_behind constellation payload t.end blocks points) (t.end + 141000) 9000 i
      → Spans (ionosphere_after constellation payload t blocks points) (t.end + 141000) 10000 (record { end = i.end; entries = 4 + t.entries + i.entries })
  unfolding ionosphere_after
  after-passed i z h p =
      spans (rw (ne_eqb t.end 0 z) (ap (λ (x : Behind). record { end = x.end; entries = 4 + t.entries + x.entries }) p.same))
      p.few (omega (arith, p.light))

pub points-few : (head : ℕ) → bit_and (head / 2 ^ 4) 127 ≤ 127
points-few head = and_le_r (head / 2 ^ 4) 127

module _ (constellation : Constellation) (payload : List ℕ) (pos head : ℕ) (r : Behind) (e : head ≡ got payload pos 19) where
  pub area-troposphere : bit_and (head / 2 ^ 2) 3 ≡ 3 → r ≡ nowhere → Spans (area_behind constellation payload pos) (pos + 144000) 10000 r
  unfolding area_behind
  area-troposphere h q =
      spans (rw (sym e, eq-eqb (bit_and (head / 2 ^ 2) 3) 3 h) q)
      (omega (arith, ap (λ (x : Behind). x.end) q)) (omega (arith, ap (λ (x : Behind). x.entries) q))

  module _ (t : bit_and (head / 2 ^ 2) 3 ≡ 3 → ⊥) where
    pub area-ionosphere : bit_and head 3 ≡ 3 → r ≡ nowhere → Spans (area_behind constellation payload pos) (pos + 144000) 10000 r
    unfolding area_behind
    area-ionosphere h q =
        spans (rw (sym e, ne_eqb (bit_and (head / 2 ^ 2) 3) 3 t, eq-eqb (bit_and head 3) 3 h) q)
        (omega (arith, ap (λ (x : Behind). x.end) q)) (omega (arith, ap (λ (x : Behind). x.entries) q))

    pub area-passed : (behind : Behind) → (bit_and head 3 ≡ 3 → ⊥)
        → Spans (troposphere_behind payload (pos + 19) (bit_and (head / 2 ^ 2) 3) (bit_and (head / 2 ^ 4) 127)) (pos + 19 + 2200) 200 behind
        → Spans (ionosphere_after constellation payload behind (bit_and head 3) (bit_and (head / 2 ^ 4) 127)) (behind.end + 141000) 10000 r
        → Spans (area_behind constellation payload pos) (pos + 144000) 10000 r
    unfolding area_behind
    area-passed behind i p q =
        spans (rw (sym e, ne_eqb (bit_and (head / 2 ^ 2) 3) 3 t, ne_eqb (bit_and head 3) 3 i, sym p.same) q.same)
        (omega (arith, p.few, q.few)) q.light

-- at the loop's head: the areas that are left pass from here as all do from the start
pub record Areas (constellation : Constellation) (payload : List ℕ) (n left pos entries : ℕ) : Type 0 where
  pub on : areas_behind constellation payload left pos entries ≡ areas_behind constellation payload n 19 4
  pub few : pos + 144000 * left ≤ 4608019
  pub light : entries + 10000 * left ≤ 320004

pub areas-start : (constellation : Constellation) (payload : List ℕ) (n : ℕ) → n ≤ 32 → Areas constellation payload n n 19 4
areas-start constellation payload n h = record { on = refl; few = omega arith; light = omega arith }

areas-one : (constellation : Constellation) (payload : List ℕ) (left pos entries : ℕ) → 0 < left
    → areas_behind constellation payload left pos entries
    ≡ pick (eqb (area_behind constellation payload pos).end 0) nowhere
    (areas_behind constellation payload (left - 1) (area_behind constellation payload pos).end (entries + (area_behind constellation payload pos).entries))
unfolding areas_behind
areas-one constellation payload zero pos entries h = absurd (omega arith)
areas-one constellation payload (suc left) pos entries h =
    let e : left ≡ suc left - 1 = omega arith in
    let area : Behind = area_behind constellation payload pos in
    ap (λ (x : ℕ). pick (eqb area.end 0) nowhere (areas_behind constellation payload x area.end (entries + area.entries))) e

module _ {constellation : Constellation} {payload : List ℕ} {n left pos entries : ℕ} (t : Areas constellation payload n left pos entries) where
  pub areas-near : pos < 2 ^ 31
  areas-near = omega (arith, t.few)

  pub areas-done : left ≤ 0 → Spans (areas_behind constellation payload n 19 4) 5000000 400000 (record { end = pos; entries = entries })
  unfolding areas_behind
  areas-done h =
      let z : 0 ≡ left = omega arith in
      spans (ap (λ (x : ℕ). areas_behind constellation payload x pos entries) z ∙ t.on) (omega (arith, t.few)) (omega (arith, t.light))

  module _ (area : Behind) (some : 0 < left) (p : Spans (area_behind constellation payload pos) (pos + 144000) 10000 area) where
    areas-on : pick (eqb area.end 0) nowhere (areas_behind constellation payload (left - 1) area.end (entries + area.entries))
        ≡ areas_behind constellation payload n 19 4
    areas-on =
        ap (λ (x : Behind). pick (eqb x.end 0) nowhere (areas_behind constellation payload (left - 1) x.end (entries + x.entries))) p.same
        ∙ sym (areas-one constellation payload left pos entries some) ∙ t.on

    pub areas-none : (r : Behind) → area.end ≡ 0 → r ≡ nowhere → Spans (areas_behind constellation payload n 19 4) 5000000 400000 r
    areas-none r z e =
        spans (e ∙ (rw (eq-eqb area.end 0 z) at areas-on)) (omega (arith, ap (λ (x : Behind). x.end) e)) (omega (arith, ap (λ (x : Behind). x.entries) e))

    pub areas-add : entries + area.entries < 2 ^ 64
    areas-add = omega (arith, t.light, p.light)

    pub areas-again : (area.end ≡ 0 → ⊥) → Areas constellation payload n (left - 1) area.end (entries + area.entries)
    areas-again z =
        record {
          on = rw (ne_eqb area.end 0 z) at areas-on;
          few = omega (arith, t.few, p.few);
          light = omega (arith, t.light, p.light);
        }

-- ---- a message

module _ (bytes : ℕ) (behind : Behind) where
  pub reads_none : behind.end ≡ 0 → None ≡ reads_by bytes behind
  unfolding reads_by
  reads_none z = rw (eq-eqb behind.end 0 z)

  module _ (some : behind.end ≡ 0 → ⊥) where
    pub reads_short : bytes < (behind.end + 7) / 8 → None ≡ reads_by bytes behind
    unfolding reads_by
    reads_short h = rw (ne_eqb behind.end 0 some, lt-ltb bytes ((behind.end + 7) / 8) h)

    pub reads_whole : (behind.end + 7) / 8 ≤ bytes → Some (record { bits = behind.end; entries = behind.entries }) ≡ reads_by bytes behind
    unfolding reads_by
    reads_whole h = rw (ne_eqb behind.end 0 some, le-ltb bytes ((behind.end + 7) / 8) h)

pub judge-areas : (constellation : Constellation) (payload : List ℕ) (x : ℕ) (behind : Behind) (r : Quick) → x ≡ got payload 14 5
    → Spans (areas_behind constellation payload (x + 1) 19 4) 5000000 400000 behind → r ≡ reads_by (length payload) behind → r ≡ hpac_quick constellation payload
unfolding hpac_quick
judge-areas constellation payload x behind r e p q =
    q ∙ ap (reads_by (length payload)) (p.same ∙ ap (λ (n : ℕ). areas_behind constellation payload (n + 1) 19 4) e)

pub count-few : (payload : List ℕ) (x : ℕ) → x ≡ got payload 14 5 → x + 1 ≤ 32
count-few payload x e = omega (arith, got-small payload 14 5)

pub count_add : (payload : List ℕ) (x : ℕ) → x ≡ got payload 14 5 → x + 1 < 2 ^ 64
count_add payload x e = omega (arith, got-small payload 14 5)
