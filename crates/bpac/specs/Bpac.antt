-- Definitions to believe: the basic precision atmosphere message, 3-0 (document 000, tables 6.25 to 6.28).
use Rattle.std.specs.Prelude.{List, [], ◌∷◌, ◌++◌, ℕ, suc, ◌+◌, ◌-◌, ◌*◌, ◌/◌, ◌%◌, eqb}
use Rattle.std.specs.Int.Count.{ones}
use Rattle.layout.specs.declared.Field.{Field}
use Rattle.layout.specs.Layout.{Layout, field, pick}
use Rattle.layout.specs.Parts.{free, times}
use Rattle.fields.specs.Fields.{sf}

pub record Vtec : Type 0 where
  pub quality : ℕ
  pub size : ℕ
  pub residual : ℕ

pub record Area : Type 0 where
  pub id : ℕ
  pub latitude : ℕ
  pub longitude : ℕ
  pub rows : ℕ
  pub columns : ℕ
  pub latitude_spacing : ℕ
  pub longitude_spacing : ℕ
  pub average : ℕ
  pub node_mask : List ℕ
  pub nodes : List Vtec

pub record Bpac : Type 0 where
  pub siou : ℕ
  pub height : ℕ
  pub areas : List Area

-- SF079 of n nodes "in groups of 64 from the left": the last group has n mod 64 bits, or 64
abbrev pub node_mask : {A : Type 0} → ℕ → (List ℕ → Layout A) → Layout A
node_mask n k =
    times ((n - 1) / 64) (field (free 79 64)) (λ groups.
    field (free 79 ((n - 1) % 64 + 1)) (λ last.
    k (groups ++ (last ∷ []))))

-- the set bits of all groups
abbrev pub set_bits : List ℕ → ℕ
set_bits [] = 0
set_bits (m ∷ ms) = ones m + set_bits ms

-- by SF081
abbrev pub vtec_residual : ℕ → Field
vtec_residual size = pick (eqb size 0) (sf 82) (sf 83)

-- table 6.28
abbrev pub vtec : {A : Type 0} → (Vtec → Layout A) → Layout A
vtec k =
    field (sf 55) (λ quality.
    field (sf 81) (λ size.
    field (vtec_residual size) (λ residual.
    k (record { quality = quality; size = size; residual = residual }))))

-- tables 6.26 and 6.27: "average VTEC before the node mask, one VTEC block per set mask bit"; SF075 and SF076 mean code plus one
abbrev pub area : {A : Type 0} → (Area → Layout A) → Layout A
area k =
    field (sf 72) (λ id.
    field (sf 73) (λ latitude.
    field (sf 74) (λ longitude.
    field (sf 75) (λ rows.
    field (sf 76) (λ columns.
    field (sf 77) (λ latitude_spacing.
    field (sf 78) (λ longitude_spacing.
    field (sf 80) (λ average.
    node_mask (suc rows * suc columns) (λ mask.
    times (set_bits mask) vtec (λ nodes.
    k (record {
      id = id;
      latitude = latitude;
      longitude = longitude;
      rows = rows;
      columns = columns;
      latitude_spacing = latitude_spacing;
      longitude_spacing = longitude_spacing;
      average = average;
      node_mask = mask;
      nodes = nodes;
    })))))))))))

-- table 6.25; SF071 means code plus one
abbrev pub bpac : {A : Type 0} → (Bpac → Layout A) → Layout A
bpac k =
    field (sf 5) (λ siou.
    field (sf 69) (λ reserved.
    field (sf 70) (λ height.
    field (sf 71) (λ count.
    times (suc count) area (λ areas.
    k (record { siou = siou; height = height; areas = areas }))))))
