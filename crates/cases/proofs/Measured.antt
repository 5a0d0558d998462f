-- The table of document 01's measured cases holds, with a single proof, and at every second. Proved.
use Rattle.std.specs.Prelude.{◌≡◌, refl, List, [], ◌∷◌, map, ℕ, None}
use Rattle.std.proofs.Common.{ap, ap₂, sym, ◌∙◌}
use Rattle.std.specs.Float.Ieee.{round, div, of_int}
use Rattle.area.specs.Area.{area_off}
use Rattle.bits.specs.Bits.{bits_of, to_bits, number, field}
use Rattle.book.specs.Book.{no_book, areas_in, sound, siou_sound, head_sound, areas_sound}
use Rattle.book.specs.Take.{lookup, insert, take_block, take_all, is_under, before, outcome}
use Rattle.checks.specs.Crc.{shift, crc_bits, crc, low_first, reversed4, frame_crc, message_crc}
use Rattle.codes.specs.declared.Constellation.TheVariants.{Gps}
use Rattle.codes.specs.Fields.{numbered}
use Rattle.codes.specs.Tables.{mask_sizes, mask_size}
use Rattle.desk.specs.Desk.{new_desk, desk_sound}
use Rattle.desk.specs.Take.{hands, by_header, is_gap, lacks_room, verdict, logged_by, frame_taken}
use Rattle.desk.specs.Gap.{plain_verdict, plain_taken, no-gap-logged, no-gap-run}
use Rattle.desk.specs.declared.Desk.{Desk}
use Rattle.frame.specs.Fields.{authenticated, authentication}
use Rattle.frame.specs.Check.{frame_of, bad_message_crc, bad_frame_crc, checked, payload_in}
use Rattle.frame.specs.Write.{bytes_of, start, description, body, check_over, plain}
use Rattle.groups.specs.Groups.{groups, groups_of, groups_of_all}
use Rattle.layout.specs.Layout.{judge, read_l, write_l}
use Rattle.entrylog.specs.Log.{reason_for, entries_of, log_of}
use Rattle.sheet.specs.Sheet.{judging, judging_sheet, judged_sheet}
use Rattle.fields.specs.Fields.{table, find, line_of, sf}
use Rattle.values.specs.Values.{quotient, value_of}
use Rattle.cases.specs.Cases.{Question, value_at, payload_of, into_book, in_groups, run_after, log_after, opens, bytes, book, log, said, Case, decimal, measured}

pub measured-hold : map (λ (c : Case). said 0 c.asked) measured ≡ map (λ (c : Case). c.answer) measured
unfolding measured decimal value_of sf line_of find table quotient div of_int round judged_sheet judging_sheet write_l judge bits_of numbered mask_size mask_sizes area_off groups_of groups groups_of_all new_desk frame_taken logged_by verdict is_gap lacks_room by_header desk_sound sound siou_sound head_sound areas_sound plain body start description check_over bytes_of checked bad_frame_crc bad_message_crc frame_of payload_in authenticated authentication frame_crc message_crc crc crc_bits shift low_first reversed4 to_bits number field judging read_l log_of entries_of reason_for outcome before is_under areas_in take_all take_block lookup insert
measured-hold = refl

-- a new desk for solution 0, processor 0 and GPS; document 01's definitions do not look at the second
abbrev first : Desk
first = record { solution = 0; processor = 0; constellation = Gps; book = no_book; run = None; last = None }

first_run : (second : ℕ) (frame : List ℕ) → (plain_taken (hands first frame second book book log)).answer.desk.run ≡ (plain_taken (hands first frame 0 book book log)).answer.desk.run
unfolding plain_taken plain_verdict
first_run second frame = refl

first-logged : (second : ℕ) (frame : List ℕ) → logged_by first book book (plain_verdict (hands first frame second book book log)) ≡ logged_by first book book (plain_verdict (hands first frame 0 book book log))
unfolding plain_verdict
first-logged second frame = refl

-- Cases 9 and 10 stand (document 02, request 1): at the first frame no time counts as passed, so each question has the same answer at every second.
pub any-second : (second : ℕ) (asked : Question) → said second asked ≡ said 0 asked
unfolding new_desk is_gap
any-second second (value_at sf code) = refl
any-second second (payload_of kind subtype sheet) = refl
any-second second (into_book payload) = refl
any-second second (in_groups number) = refl
any-second second (run_after frame) =
    ap opens (no-gap-run (hands first frame second book book log) refl ∙ first_run second frame ∙ sym (no-gap-run (hands first frame 0 book book log) refl))
any-second second (log_after frame) =
    ap bytes (no-gap-logged (hands first frame second book book log) refl ∙ first-logged second frame ∙ sym (no-gap-logged (hands first frame 0 book book log) refl))

-- So the table holds at every second.
pub hold-at-any-second : (second : ℕ) → map (λ (c : Case). said second c.asked) measured ≡ map (λ (c : Case). c.answer) measured
hold-at-any-second second = go measured ∙ measured-hold
  where
    go : (cases : List Case) → map (λ (c : Case). said second c.asked) cases ≡ map (λ (c : Case). said 0 c.asked) cases
    go [] = refl
    go (c ∷ cases) = ap₂ (λ x xs. x ∷ xs) (any-second second c.asked) (go cases)
