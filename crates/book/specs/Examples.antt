-- Computed and proved: a GAD of one area and a book without areas.
use Rattle.std.specs.Prelude.{◌≡◌, refl, List, [], ◌∷◌, ℕ, take, replicate, Ok, Err}
use Rattle.answer.specs.Place.{nowhere, fault_at}
use Rattle.answer.specs.declared.Refusal.TheVariants as refusal
use Rattle.bits.specs.Bits.{bits_of, to_bits, number}
use Rattle.fields.specs.Fields.{table, find, line_of, sf}
use Rattle.layout.specs.Layout.{judge, read_l}
use Rattle.sheet.specs.Sheet.{judging}
use Rattle.area.specs.Area.{area_off, is_area}
use Rattle.sizes.specs.Sizes.{book_bytes}
use Rattle.book.specs.Book.{book_of, no_book, areas_in, bytes_of_all, siou_sound, head_sound, areas_sound, sound, place_of, found}
use Rattle.book.specs.Take.{lookup, insert, take_block, take_all, is_under, before, outcome, taken_of, bytes_after}

abbrev lent : List ℕ
lent = replicate book_bytes 0

-- SIOU 5, AIOU 3 and area 7, with a latitude of 1234
abbrev one_area : List ℕ
one_area = 2 ∷ 152 ∷ 0 ∷ 243 ∷ 73 ∷ 244 ∷ 28 ∷ 74 ∷ 64 ∷ []

pub one-taken : taken_of no_book lent one_area ≡ Ok (book_of 4 6 1)
unfolding outcome judging read_l sf line_of find table judge to_bits bits_of number sound head_sound siou_sound areas_sound before is_under areas_in take_all take_block area_off lookup insert
one-taken = refl

-- its six bytes lie first, and what is behind them is as lent
pub one_left : take 8 (bytes_after no_book lent one_area) ≡ 7 ∷ 154 ∷ 79 ∷ 160 ∷ 226 ∷ 82 ∷ 0 ∷ 0 ∷ []
unfolding outcome judging read_l sf line_of find table judge to_bits bits_of number sound head_sound siou_sound areas_sound before is_under areas_in take_all take_block area_off lookup insert bytes_of_all
one_left = refl

pub one_found : found (book_of 4 6 1) (bytes_after no_book lent one_area) (record { 0 = 7 }) ≡ 7 ∷ 154 ∷ 79 ∷ 160 ∷ 226 ∷ 82 ∷ []
unfolding found place_of is_area outcome judging read_l sf line_of find table judge to_bits bits_of number sound head_sound siou_sound areas_sound before is_under areas_in take_all take_block area_off lookup insert bytes_of_all
one_found = refl

-- the first fault in reading order: a latitude of 1801, SF032 from bit 27 on, is FIELD there, though the payload ends before its block does
pub range-first : taken_of no_book lent (2 ∷ 152 ∷ 0 ∷ 252 ∷ 37 ∷ []) ≡ Err (fault_at refusal.Field 32 27)
unfolding outcome judging read_l sf line_of find table judge to_bits bits_of number sound head_sound siou_sound areas_sound
range-first = refl

-- another definition of area 7 in the same GAD is CONFLICT
pub other-definition : taken_of no_book lent (2 ∷ 152 ∷ 32 ∷ 243 ∷ 73 ∷ 244 ∷ 28 ∷ 74 ∷ 65 ∷ 230 ∷ 155 ∷ 232 ∷ 56 ∷ 148 ∷ 128 ∷ []) ≡ Err (nowhere refusal.Conflict)
unfolding outcome judging read_l sf line_of find table judge to_bits bits_of number sound head_sound siou_sound areas_sound before is_under areas_in take_all take_block area_off lookup insert
other-definition = refl
