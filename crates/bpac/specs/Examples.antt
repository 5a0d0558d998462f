-- Computed and proved: a worked message.
use Rattle.std.specs.Prelude.{◌≡◌, refl, [], ◌∷◌}
use Rattle.std.specs.Int.Count.{ones, ones_in}
use Rattle.bits.specs.Bits.{bits_of, to_bits, number}
use Rattle.fields.specs.Fields.{table, find, line_of, sf}
use Rattle.layout.specs.Layout.{done, judge, accepted, read_l}
use Rattle.bpac.specs.Bpac.{bpac}

-- an area of 9 by 8 nodes: a node mask of 64 and 8 bits, and two VTEC blocks
nodes-72 : read_l (bpac done)
    (to_bits (2 ∷ 147 ∷ 85 ∷ 90 ∷ 67 ∷ 139 ∷ 255 ∷ 128 ∷ 0 ∷ 0 ∷ 0 ∷ 0 ∷ 0 ∷ 0 ∷ 0 ∷ 192 ∷ 11 ∷ 249 ∷ 127 ∷ 248 ∷ []))
    ≡ accepted
    (record {
      siou = 5;
      height = 1;
      areas = record {
        id = 3;
        latitude = 85;
        longitude = 180;
        rows = 8;
        columns = 7;
        latitude_spacing = 0;
        longitude_spacing = 1;
        average = 2047;
        node_mask = 1 ∷ 128 ∷ [];
        nodes = record { quality = 1; size = 0; residual = 127 } ∷ record { quality = 2; size = 1; residual = 2047 } ∷ [];
      } ∷ [];
    })
    (5 ∷ 0 ∷ 1 ∷ 0 ∷ 3 ∷ 85 ∷ 180 ∷ 8 ∷ 7 ∷ 0 ∷ 1 ∷ 2047 ∷ 1 ∷ 128 ∷ 1 ∷ 0 ∷ 127 ∷ 2 ∷ 1 ∷ 2047 ∷ [])
    157
unfolding read_l judge table find line_of sf to_bits bits_of number ones ones_in
nodes-72 = refl
