-- Computed and proved: worked sheets and what the calls answer of them.
use Rattle.std.specs.Prelude.{◌≡◌, refl, List, [], ◌∷◌, ℕ, Ok, Err, Some, None}
use Rattle.std.specs.Int.Count.{ones, ones_in}
use Rattle.answer.specs.Place.{nowhere, fault_at}
use Rattle.answer.specs.declared.Refusal.TheVariants as refusal
use Rattle.bits.specs.Bits.{bits_of}
use Rattle.codes.specs.Fields.{numbered}
use Rattle.codes.specs.Tables.{mask_sizes, mask_size, bias_mask_sizes, bias_size}
use Rattle.layout.specs.Layout.{judge, write_l}
use Rattle.layout.specs.Record.{record_from}
use Rattle.sheet.specs.Sheet.{judging_sheet, judged_sheet}
use Rattle.values.specs.declared.Yaw.TheVariants as yaw
use Rattle.fields.specs.Fields.{table, find, line_of, sf}
use Rattle.values.specs.Values.{value_of, count_of, yaw_of}
use Rattle.views.specs.First.{first}
use Rattle.views.specs.Gads.{gad_answer_of}
use Rattle.views.specs.Bpacs.{bpac_answer_of}
use Rattle.views.specs.Satellites.{nth_from, satellite_answer_of}
use Rattle.views.specs.Units.{in_unit, count_in, yaw_in}
use Rattle.views.specs.declared.satellites.Satellite.TheVariants.{OutOfUse, InUse}

-- GLONASS satellite 1 with every block, its yaw invalid, and satellite 24 out of use
abbrev glonass : List ℕ
glonass =
    5 ∷ 1 ∷ 0 ∷ 1 ∷ 0 ∷ 0 ∷ 0 ∷ 8388609 ∷ 0 ∷ 7 ∷ 2 ∷ 99 ∷ 8191 ∷ 0 ∷ 16382 ∷ 63 ∷ 1 ∷ 8200 ∷ 4 ∷ 0 ∷ 16 ∷ 1 ∷ 6 ∷ 8000 ∷ 0 ∷ 8 ∷ 1023 ∷ 1 ∷ []

-- its phase bias is the three entries from 21 on, 1, 6 and 8000; its code bias is entry 26, 1023
first-satellite : satellite_answer_of 1 glonass 0
    ≡ Ok (
      1,
      InUse (record {
        continuity = 2;
        orbit = Some (99, record { radial = in_unit 20 8191; along_track = in_unit 20 0; cross_track = in_unit 20 16382 });
        yaw = yaw.Invalid;
        clock = Some (1, in_unit 20 8200, 4);
        bias = Some (record { phases_at = 21; phases = 1; codes_at = 26; codes = 1 });
      }),
    )
unfolding satellite_answer_of nth_from judged_sheet judging_sheet write_l judge bits_of numbered mask_size mask_sizes bias_size bias_mask_sizes ones ones_in record_from yaw_in yaw_of value_of sf line_of find table
first-satellite = refl

second-satellite : satellite_answer_of 1 glonass 1 ≡ Ok (24, OutOfUse)
unfolding satellite_answer_of nth_from judged_sheet judging_sheet write_l judge bits_of numbered mask_size mask_sizes bias_size bias_mask_sizes ones ones_in record_from sf line_of find table
second-satellite = refl

-- past the last
third-satellite : satellite_answer_of 1 glonass 2 ≡ Err (nowhere refusal.Field)
unfolding satellite_answer_of nth_from judged_sheet judging_sheet write_l judge bits_of numbered mask_size mask_sizes bias_size bias_mask_sizes ones ones_in record_from sf line_of find table
third-satellite = refl

-- a GAD of area 7, latitude code 1234
abbrev seven : List ℕ
seven = 5 ∷ 3 ∷ 0 ∷ 0 ∷ 7 ∷ 1234 ∷ 2000 ∷ 3 ∷ 4 ∷ 9 ∷ 9 ∷ []

area-seven : gad_answer_of 7 seven
    ≡ Ok (Some (record {
      latitude = in_unit 32 1234;
      longitude = in_unit 33 2000;
      rows = 4;
      columns = 5;
      latitude_spacing = in_unit 36 9;
      longitude_spacing = in_unit 37 9;
    }))
unfolding gad_answer_of first judged_sheet judging_sheet write_l judge bits_of record_from count_in count_of value_of sf line_of find table
area-seven = refl

no-area-eight : gad_answer_of 8 seven ≡ Ok None
unfolding gad_answer_of first judged_sheet judging_sheet write_l judge bits_of record_from sf line_of find table
no-area-eight = refl

-- the sheet ends an entry early: SF037 is not there
cut_short : gad_answer_of 7 (5 ∷ 3 ∷ 0 ∷ 0 ∷ 7 ∷ 1234 ∷ 2000 ∷ 3 ∷ 4 ∷ 9 ∷ []) ≡ Err (fault_at refusal.Short 37 10)
unfolding gad_answer_of judged_sheet judging_sheet write_l judge sf line_of find table
cut_short = refl

-- a GAD's sheet is none of BPAC: its second entry is no reserved bit
not-bpac : bpac_answer_of 3 seven ≡ Err (fault_at refusal.Field 69 1)
unfolding bpac_answer_of judged_sheet judging_sheet write_l judge bits_of sf line_of find table
not-bpac = refl

-- a BPAC of area 3, one node without a VTEC block
abbrev three : List ℕ
three = 5 ∷ 0 ∷ 1 ∷ 0 ∷ 3 ∷ 85 ∷ 180 ∷ 0 ∷ 0 ∷ 0 ∷ 1 ∷ 2047 ∷ 0 ∷ []

area-three : bpac_answer_of 3 three
    ≡ Ok (Some (record {
      start = 4;
      latitude = in_unit 73 85;
      longitude = in_unit 74 180;
      rows = 1;
      columns = 1;
      latitude_spacing = in_unit 77 0;
      longitude_spacing = in_unit 78 1;
      average = in_unit 80 2047;
    }))
unfolding bpac_answer_of first judged_sheet judging_sheet write_l judge bits_of record_from ones ones_in count_in count_of value_of sf line_of find table
area-three = refl

no-area-two : bpac_answer_of 2 three ≡ Ok None
unfolding bpac_answer_of first judged_sheet judging_sheet write_l judge bits_of record_from ones ones_in sf line_of find table
no-area-two = refl

-- SF072 has no 4
area-four : bpac_answer_of 4 three ≡ Err (nowhere refusal.Field)
unfolding bpac_answer_of judged_sheet judging_sheet write_l judge bits_of ones ones_in sf line_of find table
area-four = refl

-- the sheet is judged before the ID: it ends an entry early, before SF079
cut-before-four : bpac_answer_of 4 (5 ∷ 0 ∷ 1 ∷ 0 ∷ 3 ∷ 85 ∷ 180 ∷ 0 ∷ 0 ∷ 0 ∷ 1 ∷ 2047 ∷ []) ≡ Err (fault_at refusal.Short 79 12)
unfolding bpac_answer_of judged_sheet judging_sheet write_l judge ones ones_in sf line_of find table
cut-before-four = refl
