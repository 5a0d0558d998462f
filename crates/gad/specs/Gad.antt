-- Definitions to believe: the geographic area definition message, 2-0 (document 000, tables 6.23 and 6.24).
use Rattle.std.specs.Prelude.{List, ℕ, suc}
use Rattle.layout.specs.Layout.{Layout, field}
use Rattle.layout.specs.Parts.{times}
use Rattle.fields.specs.Fields.{sf}

-- an area's block, as codes
pub record Block : Type 0 where
  pub id : ℕ
  pub latitude : ℕ
  pub longitude : ℕ
  pub rows : ℕ
  pub columns : ℕ
  pub latitude_spacing : ℕ
  pub longitude_spacing : ℕ

pub record Gad : Type 0 where
  pub siou : ℕ
  pub aiou : ℕ
  pub blocks : List Block

-- table 6.24
abbrev pub block : {A : Type 0} → (Block → Layout A) → Layout A
block k =
    field (sf 31) (λ id.
    field (sf 32) (λ latitude.
    field (sf 33) (λ longitude.
    field (sf 34) (λ rows.
    field (sf 35) (λ columns.
    field (sf 36) (λ latitude_spacing.
    field (sf 37) (λ longitude_spacing.
    k (record {
      id = id;
      latitude = latitude;
      longitude = longitude;
      rows = rows;
      columns = columns;
      latitude_spacing = latitude_spacing;
      longitude_spacing = longitude_spacing;
    }))))))))

-- table 6.23; SF030 means code plus one
abbrev pub gad : {A : Type 0} → (Gad → Layout A) → Layout A
gad k =
    field (sf 5) (λ siou.
    field (sf 68) (λ aiou.
    field (sf 69) (λ reserved.
    field (sf 30) (λ count.
    times (suc count) block (λ blocks.
    k (record { siou = siou; aiou = aiou; blocks = blocks }))))))
