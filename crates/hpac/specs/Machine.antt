-- Mirror: the machine of lib.rt. It serves proofs, and it is proved that it walks the layouts.
use Rattle.std.specs.Prelude.{◌≡◌, Bool, true, false, ℕ, zero, suc, ◌-◌, eqb, leb, length}
use Rattle.std.proofs.Math.Path.{refl}
use Rattle.std.proofs.Common.{ap, sym, ◌∙◌}
use Rattle.layout.specs.declared.Field.{Field}
use Rattle.layout.specs.Layout.{field, pick}
use Rattle.layout.specs.Parts.{up_to}
use Rattle.layout.specs.Walks.{Fine, fine, fine-pick, goes, Leads, leads-optional, leads-times, leads-each}
use Rattle.layout.specs.Tests.{one_less}
use Rattle.fields.specs.Fields.{table, find, line_of, sf}
use Rattle.codes.specs.declared.Constellation.{Constellation}
use Rattle.hpac.specs.declared.Head.{Head}
use Rattle.hpac.specs.declared.Area.{Area}
use Rattle.hpac.specs.declared.Walk.{Walk}
use Rattle.hpac.specs.declared.State.{State}
use Rattle.hpac.specs.declared.State.TheVariants.{Siou, Aiou, Reserved, Count, Id, Points, TroposphereBlocks, IonosphereBlocks, TroposphereEquation, TroposphereQuality, Delay, TroposphereSize, T00, T01, T10, T11, TroposphereResidualSize, TroposphereResidual, IonosphereEquation, MaskSize, Mask, Quality, Size, C00, C01, C10, C11, ResidualSize, Residual, Done}
use Rattle.codes.specs.Tables.{mask_sf, mask_size}
use Rattle.codes.specs.Sizes.{fine-mask-size, fine-mask}
use Rattle.codes.specs.Fields.{mask_field, satellites_of}
use Rattle.hpac.specs.Hpac.{polynomial, troposphere_constant, troposphere_linear, troposphere_product, troposphere_residual, troposphere, ionosphere_constant, ionosphere_linear, ionosphere_product, ionosphere_residual, slant, ionosphere, area, hpac}

-- ---- the field at hand

-- the number of a residual's field, by SF063
abbrev pub residual_number : ℕ → ℕ
residual_number size = pick (eqb size 0) 64 (pick (eqb size 1) 65 (pick (eqb size 2) 66 67))

abbrev pub hpac_field : State → Field
hpac_field (Siou c) = sf 5
hpac_field (Aiou c siou) = sf 68
hpac_field (Reserved c siou aiou) = sf 69
hpac_field (Count c siou aiou) = sf 30
hpac_field (Id head) = sf 31
hpac_field (Points head id) = sf 39
hpac_field (TroposphereBlocks head id points) = sf 40
hpac_field (IonosphereBlocks head id points troposphere) = sf 40
hpac_field (TroposphereEquation area) = sf 41
hpac_field (TroposphereQuality area equation) = sf 42
hpac_field (Delay area equation) = sf 43
hpac_field (TroposphereSize area equation) = sf 44
hpac_field (T00 area equation size) = troposphere_constant size
hpac_field (T01 area equation size) = troposphere_linear size
hpac_field (T10 area equation size) = troposphere_linear size
hpac_field (T11 area equation size) = troposphere_product size
hpac_field (TroposphereResidualSize area) = sf 51
hpac_field (TroposphereResidual area size more) = troposphere_residual size
hpac_field (IonosphereEquation area) = sf 54
hpac_field (MaskSize area equation) = sf (mask_sf area.constellation)
hpac_field (Mask area equation size) = mask_field (mask_sf area.constellation) (mask_size area.constellation size)
hpac_field (Quality area walk) = sf 55
hpac_field (Size area walk) = sf 56
hpac_field (C00 area walk size) = ionosphere_constant size
hpac_field (C01 area walk size) = ionosphere_linear size
hpac_field (C10 area walk size) = ionosphere_linear size
hpac_field (C11 area walk size) = ionosphere_product size
hpac_field (ResidualSize area walk) = sf 63
hpac_field (Residual area walk size more) = ionosphere_residual size
hpac_field Done = up_to 0 0 0

-- ---- the next state

-- where n areas are still to come
abbrev pub areas_from : Constellation → (siou aiou n : ℕ) → State
areas_from c siou aiou zero = Done
areas_from c siou aiou (suc more) = Id (record { constellation = c; siou = siou; aiou = aiou; more = more })

abbrev pub area_end : Area → State
area_end area = areas_from area.constellation area.siou area.aiou area.more

-- where n satellites of a mask are still to come
abbrev pub slants_from : Area → (equation size mask n : ℕ) → State
slants_from area equation size mask zero = area_end area
slants_from area equation size mask (suc more) = Quality area (record { equation = equation; size = size; mask = mask; more = more })

abbrev pub slant_end : Area → Walk → State
slant_end area walk = slants_from area walk.equation walk.size walk.mask walk.more

-- where n residuals of a satellite are still to come
abbrev pub residuals_from : Area → Walk → (size n : ℕ) → State
residuals_from area walk size zero = slant_end area walk
residuals_from area walk size (suc more) = Residual area walk size more

abbrev pub grid_from : Area → Walk → State
grid_from area walk = pick (leb 2 area.ionosphere) (ResidualSize area walk) (slant_end area walk)

abbrev pub product_from : Area → Walk → ℕ → State
product_from area walk size = pick (leb 2 walk.equation) (C11 area walk size) (grid_from area walk)

abbrev pub slopes_from : Area → Walk → ℕ → State
slopes_from area walk size = pick (leb 1 walk.equation) (C01 area walk size) (product_from area walk size)

abbrev pub ionosphere_from : Area → State
ionosphere_from area = pick (leb 1 area.ionosphere) (IonosphereEquation area) (area_end area)

-- where n residuals of the troposphere are still to come
abbrev pub t_residuals_from : Area → (size n : ℕ) → State
t_residuals_from area size zero = ionosphere_from area
t_residuals_from area size (suc more) = TroposphereResidual area size more

abbrev pub t_grid_from : Area → State
t_grid_from area = pick (leb 2 area.troposphere) (TroposphereResidualSize area) (ionosphere_from area)

abbrev pub t_product_from : Area → (equation size : ℕ) → State
t_product_from area equation size = pick (leb 2 equation) (T11 area equation size) (t_grid_from area)

abbrev pub t_slopes_from : Area → (equation size : ℕ) → State
t_slopes_from area equation size = pick (leb 1 equation) (T01 area equation size) (t_product_from area equation size)

abbrev pub troposphere_from : Area → State
troposphere_from area = pick (leb 1 area.troposphere) (TroposphereEquation area) (ionosphere_from area)

-- the area's head is complete
abbrev pub area_of : Head → (id points troposphere ionosphere : ℕ) → Area
area_of head id points troposphere ionosphere =
    record {
      constellation = head.constellation;
      siou = head.siou;
      aiou = head.aiou;
      more = head.more;
      id = id;
      points = points;
      troposphere = troposphere;
      ionosphere = ionosphere;
    }

abbrev pub hpac_step : State → ℕ → State
hpac_step (Siou c) code = Aiou c code
hpac_step (Aiou c siou) code = Reserved c siou code
hpac_step (Reserved c siou aiou) code = Count c siou aiou
hpac_step (Count c siou aiou) code = areas_from c siou aiou (suc code)
hpac_step (Id head) code = Points head code
hpac_step (Points head id) code = TroposphereBlocks head id code
hpac_step (TroposphereBlocks head id points) code = IonosphereBlocks head id points code
hpac_step (IonosphereBlocks head id points troposphere) code = troposphere_from (area_of head id points troposphere code)
hpac_step (TroposphereEquation area) code = TroposphereQuality area code
hpac_step (TroposphereQuality area equation) code = Delay area equation
hpac_step (Delay area equation) code = TroposphereSize area equation
hpac_step (TroposphereSize area equation) code = T00 area equation code
hpac_step (T00 area equation size) code = t_slopes_from area equation size
hpac_step (T01 area equation size) code = T10 area equation size
hpac_step (T10 area equation size) code = t_product_from area equation size
hpac_step (T11 area equation size) code = t_grid_from area
hpac_step (TroposphereResidualSize area) code = t_residuals_from area code area.points
hpac_step (TroposphereResidual area size more) code = t_residuals_from area size more
hpac_step (IonosphereEquation area) code = MaskSize area code
hpac_step (MaskSize area equation) code = Mask area equation code
hpac_step (Mask area equation size) code = slants_from area equation size code (length (satellites_of area.constellation size code))
hpac_step (Quality area walk) code = Size area walk
hpac_step (Size area walk) code = C00 area walk code
hpac_step (C00 area walk size) code = slopes_from area walk size
hpac_step (C01 area walk size) code = C10 area walk size
hpac_step (C10 area walk size) code = product_from area walk size
hpac_step (C11 area walk size) code = grid_from area walk
hpac_step (ResidualSize area walk) code = residuals_from area walk code area.points
hpac_step (Residual area walk size more) code = residuals_from area walk size more
hpac_step Done code = Done

-- ---- a test of the code's helpers, and what an inner call gave them

sf-pick : (b : Bool) (m n : ℕ) → sf (pick b m n) ≡ pick b (sf m) (sf n)
sf-pick true m n = refl
sf-pick false m n = refl

-- a field by a size code, by its number
pub sized : (size small large : ℕ) {n : ℕ} {r : Field} → n ≡ pick (eqb size 0) small large → r ≡ sf n → r ≡ pick (eqb size 0) (sf small) (sf large)
sized size small large e h = h ∙ ap sf e ∙ sf-pick (eqb size 0) small large

pub residual-sized : (size : ℕ) {n : ℕ} {r : Field} → n ≡ residual_number size → r ≡ sf n → r ≡ ionosphere_residual size
residual-sized size e h = h ∙ ap sf e ∙ go (eqb size 0) (eqb size 1) (eqb size 2)
  where
    go : (a b c : Bool) → sf (pick a 64 (pick b 65 (pick c 66 67))) ≡ pick a (sf 64) (pick b (sf 65) (pick c (sf 66) (sf 67)))
    go true b c = refl
    go false true c = refl
    go false false true = refl
    go false false false = refl

pub areas-more : (c : Constellation) (siou aiou n : ℕ) → (n ≡ 0 → ⊥)
    → Id (record { constellation = c; siou = siou; aiou = aiou; more = n - 1 }) ≡ areas_from c siou aiou n
areas-more c siou aiou n h = one_less (areas_from c siou aiou) n h

pub slants-none : (area : Area) (equation size mask n : ℕ) {r : State} → n ≡ 0 → r ≡ area_end area → r ≡ slants_from area equation size mask n
slants-none area equation size mask n e h = h ∙ ap (slants_from area equation size mask) (sym e)

pub slants-more : (area : Area) (equation size mask n : ℕ) → (n ≡ 0 → ⊥)
    → Quality area (record { equation = equation; size = size; mask = mask; more = n - 1 }) ≡ slants_from area equation size mask n
slants-more area equation size mask n h = one_less (slants_from area equation size mask) n h

pub slants-of : (area : Area) (equation size mask : ℕ) {n m : ℕ} {r : State}
    → r ≡ slants_from area equation size mask n → n ≡ m → r ≡ slants_from area equation size mask m
slants-of area equation size mask p q = p ∙ ap (slants_from area equation size mask) q

pub residuals-none : (area : Area) (walk : Walk) (size n : ℕ) {r : State} → n ≡ 0 → r ≡ slant_end area walk → r ≡ residuals_from area walk size n
residuals-none area walk size n e h = h ∙ ap (residuals_from area walk size) (sym e)

pub residuals-more : (area : Area) (walk : Walk) (size n : ℕ) → (n ≡ 0 → ⊥) → Residual area walk size (n - 1) ≡ residuals_from area walk size n
residuals-more area walk size n h = one_less (residuals_from area walk size) n h

pub t-residuals-none : (area : Area) (size n : ℕ) {r : State} → n ≡ 0 → r ≡ ionosphere_from area → r ≡ t_residuals_from area size n
t-residuals-none area size n e h = h ∙ ap (t_residuals_from area size) (sym e)

pub t-residuals-more : (area : Area) (size n : ℕ) → (n ≡ 0 → ⊥) → TroposphereResidual area size (n - 1) ≡ t_residuals_from area size n
t-residuals-more area size n h = one_less (t_residuals_from area size) n h

-- ---- the machine walks the layouts

fine-residual : (size : ℕ) → Fine (ionosphere_residual size)
unfolding sf line_of find table
fine-residual size = fine-pick (eqb size 0) (fine tt) (fine-pick (eqb size 1) (fine tt) (fine-pick (eqb size 2) (fine tt) (fine tt)))

module _ {A : Type 0} where
  -- a polynomial of the troposphere or the ionosphere, by the states of its four coefficients
  leads-polynomial : (equation : ℕ) {constant linear product : Field} {c00 c01 c10 c11 end : State}
      → Leads {A = A} hpac_field hpac_step c00 (field constant) (pick (leb 1 equation) c01 (pick (leb 2 equation) c11 end))
      → Leads {A = A} hpac_field hpac_step c01 (field linear) c10
      → Leads {A = A} hpac_field hpac_step c10 (field linear) (pick (leb 2 equation) c11 end)
      → Leads {A = A} hpac_field hpac_step c11 (field product) end
      → Leads {A = A} hpac_field hpac_step c00 (polynomial constant linear product equation) end
  leads-polynomial equation p00 p01 p10 p11 k rest =
      p00 _ (λ constant.
      leads-optional hpac_field hpac_step (leb 1 equation) (λ k rest. p01 _ (λ latitude. p10 _ (λ longitude. rest _))) _ (λ slopes.
      leads-optional hpac_field hpac_step (leb 2 equation) p11 _ (λ product.
      rest (record { constant = constant; slopes = slopes; product = product }))))

  leads-t-polynomial : (area : Area) (equation size : ℕ)
      → Leads {A = A} hpac_field hpac_step (T00 area equation size)
      (polynomial (troposphere_constant size) (troposphere_linear size) (troposphere_product size) equation) (t_grid_from area)
  unfolding sf line_of find table
  leads-t-polynomial area equation size =
      leads-polynomial equation {c01 = T01 area equation size} {c10 = T10 area equation size} {c11 = T11 area equation size}
      (λ k rest. goes refl (fine-pick (eqb size 0) (fine tt) (fine tt)) (λ x _. rest x))
      (λ k rest. goes refl (fine-pick (eqb size 0) (fine tt) (fine tt)) (λ x _. rest x))
      (λ k rest. goes refl (fine-pick (eqb size 0) (fine tt) (fine tt)) (λ x _. rest x))
      (λ k rest. goes refl (fine-pick (eqb size 0) (fine tt) (fine tt)) (λ x _. rest x))

  leads-troposphere : (area : Area)
      → Leads {A = A} hpac_field hpac_step (TroposphereEquation area) (troposphere area.troposphere area.points) (ionosphere_from area)
  unfolding sf line_of find table
  leads-troposphere area k rest =
      goes refl (fine tt) (λ equation _. goes refl (fine tt) (λ quality _. goes refl (fine tt) (λ delay _. goes refl (fine tt) (λ size _.
      leads-t-polynomial area equation size _ (λ polynomial.
      leads-optional hpac_field hpac_step (leb 2 area.troposphere)
      (λ k rest. goes refl (fine tt) (λ size _.
      leads-times hpac_field hpac_step (t_residuals_from area size)
      (λ n k rest. goes refl (fine-pick (eqb size 0) (fine tt) (fine tt)) (λ x _. rest x)) area.points _ (λ residuals.
      rest (record { size = size; residuals = residuals })))) _ (λ grid.
      rest (record { equation = equation; quality = quality; delay = delay; coefficient_size = size; polynomial = polynomial; grid = grid })))))))

  leads-i-polynomial : (area : Area) (walk : Walk) (size : ℕ)
      → Leads {A = A} hpac_field hpac_step (C00 area walk size)
      (polynomial (ionosphere_constant size) (ionosphere_linear size) (ionosphere_product size) walk.equation) (grid_from area walk)
  unfolding sf line_of find table
  leads-i-polynomial area walk size =
      leads-polynomial walk.equation {c01 = C01 area walk size} {c10 = C10 area walk size} {c11 = C11 area walk size}
      (λ k rest. goes refl (fine-pick (eqb size 0) (fine tt) (fine tt)) (λ x _. rest x))
      (λ k rest. goes refl (fine-pick (eqb size 0) (fine tt) (fine tt)) (λ x _. rest x))
      (λ k rest. goes refl (fine-pick (eqb size 0) (fine tt) (fine tt)) (λ x _. rest x))
      (λ k rest. goes refl (fine-pick (eqb size 0) (fine tt) (fine tt)) (λ x _. rest x))

  leads-slant : (area : Area) (walk : Walk) (number : ℕ)
      → Leads {A = A} hpac_field hpac_step (Quality area walk) (slant area.ionosphere area.points walk.equation number) (slant_end area walk)
  unfolding sf line_of find table
  leads-slant area walk number k rest =
      goes refl (fine tt) (λ quality _. goes refl (fine tt) (λ coefficients _.
      leads-i-polynomial area walk coefficients _ (λ polynomial.
      leads-optional hpac_field hpac_step (leb 2 area.ionosphere)
      (λ k rest. goes refl (fine tt) (λ size _.
      leads-times hpac_field hpac_step (residuals_from area walk size)
      (λ n k rest. goes refl (fine-residual size) (λ x _. rest x)) area.points _ (λ residuals.
      rest (record { size = size; residuals = residuals })))) _ (λ grid.
      rest (record { number = number; quality = quality; coefficient_size = coefficients; polynomial = polynomial; grid = grid })))))

  leads-ionosphere : (area : Area)
      → Leads {A = A} hpac_field hpac_step (IonosphereEquation area) (ionosphere area.constellation area.ionosphere area.points) (area_end area)
  unfolding sf line_of find table
  leads-ionosphere area k rest =
      let c : Constellation = area.constellation in
      goes refl (fine tt) (λ equation _. goes refl (fine-mask-size c) (λ size _. goes refl (fine-mask c size) (λ mask _.
      leads-each hpac_field hpac_step (slants_from area equation size mask)
      (λ n. leads-slant area (record { equation = equation; size = size; mask = mask; more = n })) (satellites_of c size mask) _ (λ satellites.
      rest (record { equation = equation; satellites = satellites })))))

  leads-area : (c : Constellation) (siou aiou n : ℕ) → Leads {A = A} hpac_field hpac_step (areas_from c siou aiou (suc n)) (area c) (areas_from c siou aiou n)
  unfolding sf line_of find table
  leads-area c siou aiou n k rest =
      goes refl (fine tt) (λ id _. goes refl (fine tt) (λ points _. goes refl (fine tt) (λ t _. goes refl (fine tt) (λ i _.
      let here : Area = area_of (record { constellation = c; siou = siou; aiou = aiou; more = n }) id points t i in
      leads-optional hpac_field hpac_step (leb 1 t) (leads-troposphere here) _ (λ troposphere.
      leads-optional hpac_field hpac_step (leb 1 i) (leads-ionosphere here) _ (λ ionosphere.
      rest (record { id = id; points = points; troposphere_blocks = t; ionosphere_blocks = i; troposphere = troposphere; ionosphere = ionosphere })))))))

  pub leads-hpac : (c : Constellation) → Leads {A = A} hpac_field hpac_step (Siou c) (hpac c) Done
  unfolding sf line_of find table
  leads-hpac c k rest =
      goes refl (fine tt) (λ siou _. goes refl (fine tt) (λ aiou _. goes refl (fine tt) (λ _ _. goes refl (fine tt) (λ count _.
      leads-times hpac_field hpac_step (areas_from c siou aiou) (leads-area c siou aiou) (suc count) _ (λ areas.
      rest (record { siou = siou; aiou = aiou; areas = areas }))))))
