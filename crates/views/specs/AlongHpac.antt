-- Serves proofs, and is proved: facts of an HPAC sheet, from what follows an area to the area.
use Rattle.std.specs.Prelude.{◌≡◌, false, List, eqb, leb, length, Ok, Some, None}
use Rattle.std.proofs.Math.Path.{refl}
use Prim.Native.Nat.{ℕ, suc, ◌+◌}
use Rattle.std.proofs.Common.{arith}
use Rattle.std.proofs.Math.ListN.{get_or}
use Rattle.codes.specs.declared.Constellation.{Constellation}
use Rattle.codes.specs.declared.Constellation.TheVariants.{Gps, Glonass, Galileo, BeiDou, Qzss}
use Rattle.codes.specs.Fields.{satellites_of}
use Rattle.codes.specs.Tables.{mask_sf}
use Rattle.hpac.specs.Hpac as hpac
use Rattle.fields.specs.Fields.{sf}
use Rattle.layout.specs.declared.Field.{Field}
use Rattle.layout.specs.Layout.{Layout, done, field}
use Rattle.layout.specs.Parts.{Part, optional, times}
use Rattle.layout.specs.Holds.{Holds}
use Rattle.layout.specs.Record.{record_from, record_of}
use Rattle.views.specs.declared.hpacarea.HpacArea.{HpacArea}
use Rattle.views.specs.Results.{HpacAnswer}
use Rattle.views.specs.Results.{Found}
use Rattle.views.specs.Along.{Other, apart, other_pick, Goes, First, Over, over-optional, over-times, over-each, total, Ends, goes-ends, first_ends, code_in, answered}
use Rattle.views.specs.Hpacs.{polynomial_entries, grid_entries, troposphere_entries, slant_entries, slants_entries, ionosphere_entries, hpac_entries, hpac_area}
use Rattle.views.specs.Places.{code_at}

-- the view of an area that starts at an entry, by the codes of its fields
abbrev pub hpac_seen : (start : ℕ) (code : (sf before : ℕ) → ℕ) → HpacArea
hpac_seen start code =
    record { start = start; points = code 39 0; troposphere_blocks = code 40 0; ionosphere_blocks = code 40 1 }

abbrev pub hpac_found : (sheet : List ℕ) → Found → HpacAnswer
hpac_found sheet f = answered (Ok None) (λ p. Ok (Some (hpac_seen p.at (code_at sheet p)))) f

-- no mask has the number of an area's ID
mask-other : (c : Constellation) → eqb (mask_sf c) 31 ≡ false
mask-other Gps = refl
mask-other Glonass = refl
mask-other Galileo = refl
mask-other BeiDou = refl
mask-other Qzss = refl

-- the grids of both parts
abbrev troposphere_grid : {A : Type 0} → ℕ → (hpac.Grid → Layout A) → Layout A
troposphere_grid points k = hpac.grid (sf 51) hpac.troposphere_residual points k

abbrev ionosphere_grid : {A : Type 0} → ℕ → (hpac.Grid → Layout A) → Layout A
ionosphere_grid points k = hpac.grid (sf 63) hpac.ionosphere_residual points k

abbrev Any : {B : Type 0} → B → Type 0
Any x = Unit {0}

module _ {A A' : Type 0} {sheet : List ℕ} {Q : Layout A → Layout A' → ℕ → Type 0} (g : Goes sheet 31 Q) where
  abbrev HpacOver : {B : Type 0} → ((B → Layout A) → Layout A) → ((B → Layout A') → Layout A') → (B → ℕ) → Type 0
  HpacOver part part' entries = Over sheet 31 Q part part' entries Any

  over-field : (f : Field) → Other 31 f → HpacOver (field f) (field f) (λ c. 1)
  over-field f o k k' at rest = g.on o (λ _. rest _ _ (omega arith) tt)

  over-slopes : (linear : Field) → Other 31 linear → HpacOver (hpac.slopes linear) (hpac.slopes linear) (λ s. 2)
  over-slopes linear o k k' at rest = g.on o (λ _. g.on o (λ _. rest _ _ (omega arith) tt))

  over-polynomial : (constant linear product : Field) (equation : ℕ) → Other 31 constant → Other 31 linear → Other 31 product
      → HpacOver (hpac.polynomial constant linear product equation) (hpac.polynomial constant linear product equation) polynomial_entries
  over-polynomial constant linear product equation o1 o2 o3 k k' at rest =
      g.on o1 (λ _.
      over-optional sheet 31 Q (λ s. 2) Any (leb 1 equation) (over-slopes linear o2) _ _ _ (λ slopes to e _.
      over-optional sheet 31 Q (λ c. 1) Any (leb 2 equation) (over-field product o3) _ _ to (λ c11 end e' _.
      rest _ _ (omega arith) tt)))

  over-grid : (size : Field) (residual : ℕ → Field) (points : ℕ) → Other 31 size → ((n : ℕ) → Other 31 (residual n))
      → HpacOver (hpac.grid size residual points) (hpac.grid size residual points) grid_entries
  over-grid size residual points o1 o2 k k' at rest =
      g.on o1 (λ _.
      over-times sheet 31 Q (λ r. 1) Any (λ (rs : List ℕ). length rs) refl (λ r rs. omega arith) (over-field (residual (get_or sheet at 0)) (o2 (get_or sheet at 0))) points _ _ _ (λ residuals to e _.
      rest _ _ (omega arith) tt))

  over-troposphere : (indicator points : ℕ) → HpacOver (hpac.troposphere indicator points) (hpac.troposphere indicator points) troposphere_entries
  unfolding sf
  over-troposphere indicator points k k' at rest =
      let q : ℕ = get_or sheet (suc (suc (suc at))) 0 in
      let body : hpac.Polynomial → Part hpac.Grid → hpac.Troposphere
      = λ p g. record { equation = get_or sheet at 0; quality = get_or sheet (suc at) 0; delay = get_or sheet (suc (suc at)) 0; coefficient_size = q; polynomial = p; grid = g } in
      g.on (apart refl) (λ _. g.on (apart refl) (λ _. g.on (apart refl) (λ _. g.on (apart refl) (λ _.
      over-polynomial (hpac.troposphere_constant q) (hpac.troposphere_linear q) (hpac.troposphere_product q) (get_or sheet at 0)
      (other_pick (eqb q 0) (apart refl) (apart refl)) (other_pick (eqb q 0) (apart refl) (apart refl)) (other_pick (eqb q 0) (apart refl) (apart refl))
      (λ p. optional (leb 2 indicator) (troposphere_grid points) (λ grid. k (body p grid)))
      (λ p. optional (leb 2 indicator) (troposphere_grid points) (λ grid. k' (body p grid))) _ (λ p to e _.
      over-optional sheet 31 Q grid_entries Any (leb 2 indicator)
      (over-grid (sf 51) hpac.troposphere_residual points (apart refl) (λ n. other_pick (eqb n 0) (apart refl) (apart refl))) (λ grid. k (body p grid)) (λ grid. k' (body p grid)) to (λ grid end e' _.
      rest (body p grid) end (omega arith) tt))))))

  over-slant : (indicator points equation number : ℕ) → HpacOver (hpac.slant indicator points equation number) (hpac.slant indicator points equation number) slant_entries
  unfolding sf
  over-slant indicator points equation number k k' at rest =
      let q : ℕ = get_or sheet (suc at) 0 in
      let body : hpac.Polynomial → Part hpac.Grid → hpac.Slant
      = λ p g. record { number = number; quality = get_or sheet at 0; coefficient_size = q; polynomial = p; grid = g } in
      g.on (apart refl) (λ _. g.on (apart refl) (λ _.
      over-polynomial (hpac.ionosphere_constant q) (hpac.ionosphere_linear q) (hpac.ionosphere_product q) equation
      (other_pick (eqb q 0) (apart refl) (apart refl)) (other_pick (eqb q 0) (apart refl) (apart refl)) (other_pick (eqb q 0) (apart refl) (apart refl))
      (λ p. optional (leb 2 indicator) (ionosphere_grid points) (λ grid. k (body p grid)))
      (λ p. optional (leb 2 indicator) (ionosphere_grid points) (λ grid. k' (body p grid))) _ (λ p to e _.
      over-optional sheet 31 Q grid_entries Any (leb 2 indicator)
      (over-grid (sf 63) hpac.ionosphere_residual points (apart refl) (λ n.
      other_pick (eqb n 0) (apart refl) (other_pick (eqb n 1) (apart refl) (other_pick (eqb n 2) (apart refl) (apart refl))))) (λ grid. k (body p grid)) (λ grid. k' (body p grid)) to (λ grid end e' _.
      rest (body p grid) end (omega arith) tt))))

  over-ionosphere : (c : Constellation) (indicator points : ℕ) → HpacOver (hpac.ionosphere c indicator points) (hpac.ionosphere c indicator points) ionosphere_entries
  unfolding sf
  over-ionosphere c indicator points k k' at rest =
      g.on (apart refl) (λ _. g.on (apart (mask-other c)) (λ _. g.on (apart (mask-other c)) (λ _.
      over-each sheet 31 Q slant_entries Any slants_entries refl (λ s ss. refl) (over-slant indicator points (get_or sheet at 0))
      (satellites_of c (get_or sheet (suc at) 0) (get_or sheet (suc (suc at)) 0)) (λ ss. k (record { equation = get_or sheet at 0; satellites = ss })) (λ ss. k' (record { equation = get_or sheet at 0; satellites = ss })) _ (λ satellites to e _.
      rest _ to (omega arith) tt))))

  pub over-area : (c : Constellation) (k : hpac.Area → Layout A) (k' : hpac.Area → Layout A') (at : ℕ) → First sheet 31 Q at
      → ((x : hpac.Area) (to : ℕ) → x.id ≡ get_or sheet at 0 → to ≡ at + hpac_entries x → hpac_area at x ≡ hpac_seen at (code_in sheet (hpac.area c k) at) → Q (k x) (k' x) to)
      → Q (hpac.area c k) (hpac.area c k') at
  unfolding sf code_in
  over-area c k k' at id rest =
      let points : ℕ = get_or sheet (suc at) 0 in
      let t : ℕ = get_or sheet (suc (suc at)) 0 in
      let i : ℕ = get_or sheet (suc (suc (suc at))) 0 in
      id.on refl (λ _. g.on (apart refl) (λ _. g.on (apart refl) (λ _. g.on (apart refl) (λ _.
      over-optional sheet 31 Q troposphere_entries Any (leb 1 t) (over-troposphere t points) _ _ _ (λ troposphere to e _.
      over-optional sheet 31 Q ionosphere_entries Any (leb 1 i) (over-ionosphere c i points) _ _ to (λ ionosphere end e' _.
      rest _ _ refl (omega arith) refl))))))

  -- to the first area
  pub over-head : (c : Constellation) (k : hpac.Hpac → Layout A) (k' : hpac.Hpac → Layout A')
      → ((n : ℕ) (body : List hpac.Area → hpac.Hpac) → ((areas : List hpac.Area) → (body areas).areas ≡ areas)
      → Q (times n (hpac.area c) (λ areas. k (body areas))) (times n (hpac.area c) (λ areas. k' (body areas))) 4)
      → Q (hpac.hpac c k) (hpac.hpac c k') 0
  unfolding sf
  over-head c k k' rest =
      g.on (apart refl) (λ _. g.on (apart refl) (λ _. g.on (apart refl) (λ _. g.on (apart refl) (λ _. rest (suc (get_or sheet 3 0))
      (λ areas. record { siou = get_or sheet 0 0; aiou = get_or sheet 1 0; areas = areas }) (λ areas. refl)))))

-- What follows from the record's ends is so of the message: of what a layout makes of it, and of the record alone.
pub hpac-ends : {M : Type 0} (c : Constellation) (sheet : List ℕ) (f : hpac.Hpac → M) (R : M → hpac.Hpac → Type 0)
    → ((b : hpac.Hpac) → R (f b) b)
    → Holds (hpac.hpac c (λ b. done (f b))) sheet 0 → R (record_of (hpac.hpac c (λ b. done (f b))) sheet) (record_of (hpac.hpac c (λ b. done b)) sheet)
unfolding record_from
hpac-ends c sheet f R h =
    over-head (goes-ends sheet R 31) c (λ b. done (f b)) (λ b. done b) (λ n body e.
    over-times sheet 31 (Ends sheet R) hpac_entries Any (total hpac_entries) refl (λ x xs. refl)
    (λ k k' at rest. over-area (goes-ends sheet R 31) c k k' at (first_ends sheet R 31 at) (λ x to i e v. rest x to e tt)) n (λ xs. done (f (body xs))) (λ xs. done (body xs)) 4 (λ xs to q ms _.
    h (body xs)))
