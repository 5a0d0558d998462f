-- Computed and proved: a worked message.
use Rattle.std.specs.Prelude.{◌≡◌, refl, [], ◌∷◌}
use Rattle.bits.specs.Bits.{bits_of, to_bits, number}
use Rattle.layout.specs.Layout.{done, judge, accepted, read_l}
use Rattle.layout.specs.Parts.{absent, present}
use Rattle.fields.specs.Fields.{table, find, line_of, sf}
use Rattle.codes.specs.declared.Constellation.TheVariants.{Qzss}
use Rattle.codes.specs.Tables.{mask_sizes, mask_size}
use Rattle.codes.specs.Fields.{numbered}
use Rattle.hpac.specs.Hpac.{hpac}

-- QZSS, one area of two points: a troposphere grid with one residual invalid, and satellite 195
qzss-area : read_l (hpac Qzss done) (to_bits (2 ∷ 152 ∷ 1 ∷ 32 ∷ 168 ∷ 135 ∷ 243 ∷ 240 ∷ 32 ∷ 159 ∷ 190 ∷ 2 ∷ 0 ∷ 207 ∷ 254 ∷ 255 ∷ 126 ∷ []))
    ≡ accepted
    (record {
      siou = 5;
      aiou = 3;
      areas = record {
        id = 9;
        points = 2;
        troposphere_blocks = 2;
        ionosphere_blocks = 2;
        troposphere = present (record {
          equation = 1;
          quality = 0;
          delay = 127;
          coefficient_size = 0;
          polynomial = record { constant = 63; slopes = present (record { latitude = 1; longitude = 2 }); product = absent };
          grid = present (record { size = 0; residuals = 63 ∷ 31 ∷ [] });
        });
        ionosphere = present (record {
          equation = 0;
          satellites = record {
            number = 195;
            quality = 3;
            coefficient_size = 0;
            polynomial = record { constant = 2047; slopes = absent; product = absent };
            grid = present (record { size = 1; residuals = 127 ∷ 63 ∷ [] });
          } ∷ [];
        });
      } ∷ [];
    })
    (5 ∷ 3 ∷ 0 ∷ 0 ∷ 9 ∷ 2 ∷ 2 ∷ 2 ∷ 1 ∷ 0 ∷ 127 ∷ 0 ∷ 63 ∷ 1 ∷ 2 ∷ 0 ∷ 63 ∷ 31 ∷ 0 ∷ 0 ∷ 128 ∷ 3 ∷ 0 ∷ 2047 ∷ 1 ∷ 127 ∷ 63 ∷ [])
    135
unfolding sf line_of find table read_l judge to_bits bits_of number numbered mask_size mask_sizes
qzss-area = refl
