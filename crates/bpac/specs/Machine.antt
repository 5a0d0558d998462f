-- Mirror: the machine of lib.rt. It serves proofs, and it is proved that it walks the layout.
use Rattle.std.specs.Prelude.{◌≡◌, eqb, ltb}
use Rattle.std.proofs.Math.Path.{refl, ap₂, subst}
use Rattle.std.proofs.Common.{ap, sym, ◌∙◌, mod-eq_of_lt, mod-lt, zero-add, arith, lt-ltb, le-ltb}
use mathlib.Core.List.{List, [], ◌∷◌, ◌++◌}
use Prim.Native.Nat.{ℕ, zero, suc, ◌+◌, ◌-◌, ◌*◌, ◌/◌, ◌%◌, ◌^◌, ◌≤◌, ◌<◌}
use Rattle.std.proofs.Math.Nat.{mul-le-mul}
use Rattle.std.specs.Int.Count.{ones}
use Rattle.std.proofs.lemmas.Nat.{ones-le}
use Rattle.layout.specs.declared.Field.{Field}
use Rattle.layout.specs.Layout.{Layout, field, pick}
use Rattle.layout.specs.Parts.{up_to, free, times}
use Rattle.layout.specs.Walks.{Walks, goes, fine, fine-free, fine-pick, Leads, leads-times}
use Rattle.layout.specs.Tests.{one_less}
use Rattle.fields.specs.Fields.{table, find, line_of, sf}
use Rattle.bpac.specs.declared.State.{State}
use Rattle.bpac.specs.declared.State.TheVariants.{Siou, Reserved, Height, Count, Id, Latitude, Longitude, Rows, Columns, LatitudeSpacing, LongitudeSpacing, Average, Nodes, Quality, Size, Residual, Done}
use Rattle.bpac.specs.Bpac.{Vtec, Area, node_mask, set_bits, vtec_residual, vtec, area, bpac}

-- ---- the field at hand

-- a group of the node mask: the last one has what is left
abbrev pub group_field : (last groups : ℕ) → Field
group_field last zero = free 79 (last % 64 + 1)
group_field last (suc groups) = free 79 64

abbrev pub bpac_field : State → Field
bpac_field Siou = sf 5
bpac_field Reserved = sf 69
bpac_field Height = sf 70
bpac_field Count = sf 71
bpac_field (Id more) = sf 72
bpac_field (Latitude more) = sf 73
bpac_field (Longitude more) = sf 74
bpac_field (Rows more) = sf 75
bpac_field (Columns more rows) = sf 76
bpac_field (LatitudeSpacing more last) = sf 77
bpac_field (LongitudeSpacing more last) = sf 78
bpac_field (Average more last) = sf 80
bpac_field (Nodes more last groups seen) = group_field last groups
bpac_field (Quality more left) = sf 55
bpac_field (Size more left) = sf 81
bpac_field (Residual more left size) = vtec_residual size
bpac_field Done = up_to 0 0 0

-- ---- the next state

-- where n areas are still to come
abbrev pub areas_from : ℕ → State
areas_from zero = Done
areas_from (suc more) = Id more

-- where n VTEC blocks are still to come
abbrev pub blocks_from : (more n : ℕ) → State
blocks_from more zero = areas_from more
blocks_from more (suc left) = Quality more left

-- where so many groups are still to come
abbrev pub groups_from : (more last groups seen : ℕ) → State
groups_from more last zero seen = blocks_from more seen
groups_from more last (suc groups) seen = Nodes more last groups seen

abbrev pub counted : (seen mask : ℕ) → ℕ
counted seen mask = pick (ltb seen 4294967296) (seen + ones mask) seen

-- the number of the last node, from the codes of rows and columns
abbrev pub last_node : ℕ → ℕ → ℕ
last_node rows columns = suc rows * suc columns - 1

abbrev pub bpac_step : State → ℕ → State
bpac_step Siou c = Reserved
bpac_step Reserved c = Height
bpac_step Height c = Count
bpac_step Count c = areas_from (suc c)
bpac_step (Id more) c = Latitude more
bpac_step (Latitude more) c = Longitude more
bpac_step (Longitude more) c = Rows more
bpac_step (Rows more) c = Columns more (c % 256)
bpac_step (Columns more rows) c = LatitudeSpacing more (last_node rows (c % 256))
bpac_step (LatitudeSpacing more last) c = LongitudeSpacing more last
bpac_step (LongitudeSpacing more last) c = Average more last
bpac_step (Average more last) c = Nodes more last (last / 64) 0
bpac_step (Nodes more last groups seen) c = groups_from more last groups (counted seen c)
bpac_step (Quality more left) c = Size more left
bpac_step (Size more left) c = Residual more left c
bpac_step (Residual more left size) c = blocks_from more left
bpac_step Done c = Done

-- ---- an arm of the code's `match`, and a test of its helpers

pub areas-more : (n : ℕ) → (n ≡ 0 → ⊥) → Id (n - 1) ≡ areas_from n
areas-more n h = one_less areas_from n h

pub blocks_more : (more n : ℕ) → (n ≡ 0 → ⊥) → Quality more (n - 1) ≡ blocks_from more n
blocks_more more n h = one_less (blocks_from more) n h

pub groups-more : (more last n seen : ℕ) → (n ≡ 0 → ⊥) → Nodes more last (n - 1) seen ≡ groups_from more last n seen
groups-more more last n seen h = one_less (λ g. groups_from more last g seen) n h

pub groups_none : (more last n seen : ℕ) {r : State} → n ≡ 0 → r ≡ blocks_from more seen → r ≡ groups_from more last n seen
groups_none more last n seen e h = h ∙ ap (λ g. groups_from more last g seen) (sym e)

pub group-last : (last n : ℕ) {f : Field} → n ≡ 0 → f ≡ free 79 (last % 64 + 1) → f ≡ group_field last n
group-last last n e h = h ∙ ap (group_field last) (sym e)

pub group-more : (last n : ℕ) {f : Field} → (n ≡ 0 → ⊥) → f ≡ free 79 64 → f ≡ group_field last n
group-more last n h e = e ∙ one_less (group_field last) n h

counted-on : (seen mask : ℕ) → seen < 4294967296 → counted seen mask ≡ seen + ones mask
counted-on seen mask h = rw (lt-ltb seen 4294967296 h)

pub counts : (seen mask r : ℕ) → seen < 4294967296 → r ≡ ones mask → seen + r ≡ counted seen mask
counts seen mask r h e = ap (λ x. seen + x) e ∙ sym (counted-on seen mask h)

pub counts-not : (seen mask : ℕ) → 4294967296 ≤ seen → seen ≡ counted seen mask
counts-not seen mask h = rw (le-ltb seen 4294967296 h)

pub node-fits : (rows columns : ℕ) → rows < 256 → columns < 256 → (rows + 1) * (columns + 1) < 2 ^ 64
node-fits rows columns r c = let h : (rows + 1) * (columns + 1) ≤ 256 * 256 = mul-le-mul {n₂ = 256} {m₂ = 256} (omega arith) (omega arith) in omega arith

-- ---- the machine walks the layout

module _ {A : Type 0} where
  leads-vtec : (more n : ℕ) → Leads {A = A} bpac_field bpac_step (blocks_from more (suc n)) vtec (blocks_from more n)
  unfolding sf line_of find table
  leads-vtec more n k rest =
      goes refl (fine tt) (λ _ _. goes refl (fine tt) (λ size _. goes refl (fine-pick (eqb size 0) (fine tt) (fine tt)) (λ _ _. rest _)))

  -- the groups of a node mask, after others in which `seen` bits were set
  walks-groups : (more last groups seen : ℕ) (k : List ℕ → Layout A) → seen + 64 * groups < 4294967296
      → ((ms : List ℕ) → Walks bpac_field bpac_step (blocks_from more (seen + set_bits ms)) (k ms))
      → Walks bpac_field bpac_step (Nodes more last groups seen)
      (times groups (field (free 79 64)) (λ gs. field (free 79 (last % 64 + 1)) (λ g. k (gs ++ (g ∷ [])))))
  walks-groups more last zero seen k small rest =
      let part : last % 64 < 64 = mod-lt last (omega arith) in
      goes refl (fine-free 79 (last % 64 + 1) (record { some = omega arith; small = omega arith }) (omega arith) (omega arith)) (λ c _.
      let one : counted seen c ≡ seen + ones c = counted-on seen c (omega arith) in
      subst (λ x. Walks bpac_field bpac_step (blocks_from more x) (k (c ∷ []))) {x = seen + set_bits (c ∷ [])} {y = counted seen c} (omega arith) (rest (c ∷ [])))
  walks-groups more last (suc groups) seen k small rest =
      goes refl (fine tt) (λ c fits.
      let one : counted seen c ≡ seen + ones c = counted-on seen c (omega arith) in
      walks-groups more last groups (counted seen c) (λ ms. k (c ∷ ms)) (omega (arith, ones-le 64 c fits)) (λ ms.
      subst (λ x. Walks bpac_field bpac_step (blocks_from more x) (k (c ∷ ms))) {x = seen + set_bits (c ∷ ms)} {y = counted seen c + set_bits ms} (omega arith) (rest (c ∷ ms))))

  leads-area : (n : ℕ) → Leads {A = A} bpac_field bpac_step (areas_from (suc n)) area (areas_from n)
  unfolding sf line_of find table
  leads-area n k rest =
      goes refl (fine tt) (λ id _. goes refl (fine tt) (λ latitude _. goes refl (fine tt) (λ longitude _. goes refl (fine tt) (λ rows hr.
      goes refl (fine tt) (λ columns hc. goes refl (fine tt) (λ latitude_spacing _. goes refl (fine tt) (λ longitude_spacing _. goes refl (fine tt) (λ average _.
      let r : rows < 16 = hr in
      let q : columns < 16 = hc in
      let same : last_node rows columns ≡ last_node (rows % 256) (columns % 256)
      = ap₂ last_node (sym (mod-eq_of_lt {n = rows} {m = 256} (omega arith))) (sym (mod-eq_of_lt {n = columns} {m = 256} (omega arith))) in
      let few : suc rows * suc columns ≤ 16 * 16 = mul-le-mul {n₂ = 16} {m₂ = 16} (omega arith) (omega arith) in
      let body : List ℕ → List Vtec → Area
      = λ mask nodes.
      record {
        id = id;
        latitude = latitude;
        longitude = longitude;
        rows = rows;
        columns = columns;
        latitude_spacing = latitude_spacing;
        longitude_spacing = longitude_spacing;
        average = average;
        node_mask = mask;
        nodes = nodes;
      } in
      let blocks : List ℕ → Layout A = λ mask. times (set_bits mask) vtec (λ nodes. k (body mask nodes)) in
      subst (λ x. Walks bpac_field bpac_step (Nodes n x (x / 64) 0) (node_mask (suc rows * suc columns) blocks)) same
      (walks-groups n (last_node rows columns) (last_node rows columns / 64) 0 blocks (omega arith) (λ mask.
      subst (λ x. Walks bpac_field bpac_step (blocks_from n x) (blocks mask)) (sym (zero-add (set_bits mask)))
      (leads-times bpac_field bpac_step (blocks_from n) (leads-vtec n) (set_bits mask) _ (λ nodes. rest (body mask nodes)))))))))))))

  pub leads-bpac : Leads {A = A} bpac_field bpac_step Siou bpac Done
  unfolding sf line_of find table
  leads-bpac k rest =
      goes refl (fine tt) (λ siou _. goes refl (fine tt) (λ _ _. goes refl (fine tt) (λ height _. goes refl (fine tt) (λ count _.
      leads-times bpac_field bpac_step areas_from leads-area (suc count) _ (λ areas. rest (record { siou = siou; height = height; areas = areas }))))))
