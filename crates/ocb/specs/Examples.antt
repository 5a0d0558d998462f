-- Computed and proved: worked messages.
use Rattle.std.specs.Prelude.{◌≡◌, refl, [], ◌∷◌}
use Rattle.std.specs.Int.Count.{ones, ones_in}
use Rattle.answer.specs.Place.{fault_at}
use Rattle.answer.specs.declared.Refusal.TheVariants as refusal
use Rattle.bits.specs.Bits.{bits_of, to_bits, number}
use Rattle.layout.specs.Layout.{done, judge, accepted, refused, read_l}
use Rattle.fields.specs.Fields.{table, find, line_of, sf}
use Rattle.layout.specs.Parts.{present}
use Rattle.codes.specs.declared.Constellation.TheVariants.{Gps, Glonass}
use Rattle.codes.specs.Tables.{mask_sizes, mask_size, bias_mask_sizes, bias_size}
use Rattle.codes.specs.Fields.{numbered}
use Rattle.ocb.specs.Ocb.{out_of_use, in_use, ocb}

-- a mask without a satellite: SF011 is at fault where its bits begin, behind its size
no-satellite : read_l (ocb Gps done) (to_bits (2 ∷ 192 ∷ 0 ∷ 0 ∷ 0 ∷ 0 ∷ 64 ∷ [])) ≡ refused (fault_at refusal.MaskEmpty 11 17)
unfolding read_l judge table find line_of sf to_bits bits_of number numbered mask_size mask_sizes
no-satellite = refl

-- GLONASS satellite 1 with every block, its yaw invalid, and satellite 24 out of use
glonass-blocks : read_l (ocb Glonass done)
    (to_bits (2 ∷ 208 ∷ 64 ∷ 0 ∷ 0 ∷ 186 ∷ 198 ∷ 255 ∷ 248 ∷ 0 ∷ 31 ∷ 255 ∷ 126 ∷ 96 ∷ 8 ∷ 136 ∷ 115 ∷ 232 ∷ 4 ∷ 63 ∷ 248 ∷ []))
    ≡ accepted
    (record {
      siou = 5;
      end_of_set = 1;
      datum = 0;
      ephemeris = 0;
      satellites = record {
        number = 1;
        state = in_use (record {
          continuity = 2;
          orbit = present (record { iode = 99; radial = 8191; along = 0; cross = 16382; yaw = present 63 });
          clock = present (record { continuity = 1; correction = 8200; error = 4 });
          bias = present (record {
            phase_mask = record { size = 0; bits = 16 };
            phases = record { fix = 1; continuity = 6; correction = 8000 } ∷ [];
            code_mask = record { size = 0; bits = 8 };
            codes = 1023 ∷ [];
          });
        });
      } ∷ record { number = 24; state = out_of_use } ∷ [];
    })
    (5 ∷ 1 ∷ 0 ∷ 1 ∷ 0 ∷ 0 ∷ 0 ∷ 8388609 ∷ 0 ∷ 7 ∷ 2 ∷ 99 ∷ 8191 ∷ 0 ∷ 16382 ∷ 63 ∷ 1 ∷ 8200 ∷ 4 ∷ 0 ∷ 16 ∷ 1 ∷ 6 ∷ 8000 ∷ 0 ∷ 8 ∷ 1023 ∷ 1 ∷ [])
    165
unfolding read_l judge table find line_of sf to_bits bits_of number numbered mask_size mask_sizes bias_size bias_mask_sizes ones ones_in
glonass-blocks = refl
