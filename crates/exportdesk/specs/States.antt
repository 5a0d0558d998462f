-- Definitions to believe: a desk as thirteen numbers.
use Rattle.std.specs.Prelude.{cond, ◌&&◌, List, [], ◌∷◌, ℕ, ◌-◌, leb, eqb, get_or, Some, None}
use Rattle.codes.specs.Tables.{row_of}
use Rattle.codes.specs.declared.Constellation.{Constellation}
use Rattle.codes.specs.declared.Constellation.TheVariants.{Gps}
use Rattle.message.specs.Messages.{constellation_for}
use Rattle.message.specs.Results.{Subtype}
use Rattle.book.specs.declared.Book.{Book}
use Rattle.book.specs.Book.{no_book}
use Rattle.desk.specs.declared.Desk.{Desk}
use Rattle.desk.specs.Results.{Last}
use Rattle.desk.specs.Results.{Run}
use Rattle.export.specs.Numbers.{at_most}
use Rattle.export.specs.Books.{book_in}

-- solution, processor, constellation; AIOU, SIOU + 1 and count of the live book; 1 if a run is open, else 0; the run's tag, and AIOU, SIOU + 1 and count of its book; 1 if a frame was
-- accepted, else 0, and the second of the last one
abbrev pub desk_room : ℕ
desk_room = 13

-- ---- the desk that thirteen numbers say

-- constellations are 0 to 4, as the subtypes of HPAC; any other number is none (`solution_in`)
abbrev pub known : Subtype → Constellation
known (Some constellation) = constellation
known None = Gps

unfoldable pub constellation_in : ℕ → Constellation
constellation_in x = known (constellation_for (at_most 5 x))

-- "Solution, processor, constellation, AIOU and tag are in range": a number out of its range is not sound, whatever it is. "A flag out of range is
-- STATE". A desk whose constellation or one of whose flags is out of range is read as one of solution 128, which no desk has.
unfoldable pub solution_in : (solution constellation running dated : ℕ) → ℕ
solution_in solution constellation running dated = cond (leb constellation 4 && (leb running 1 && leb dated 1)) (at_most 128 solution) 128

-- "Numbers that a flag makes meaningless (the tag of a closed run, ..) do not count."
unfoldable pub run_in : (flag tag aiou siou-plus-one areas : ℕ) → Run
run_in flag tag aiou siou-plus-one areas = cond (eqb flag 0) None (Some (record { tag = tag; book = book_in (aiou ∷ siou-plus-one ∷ areas ∷ []) }))

-- "with flag 0 the second does not count"; every second is sound
unfoldable pub last_in : (dated second : ℕ) → Last
last_in dated second = cond (eqb dated 0) None (Some second)

unfoldable pub desk_in : List ℕ → Desk
desk_in s =
    record {
      solution = solution_in (get_or s 0 0) (get_or s 2 0) (get_or s 6 0) (get_or s 11 0);
      processor = at_most 16 (get_or s 1 0);
      constellation = constellation_in (get_or s 2 0);
      book = book_in (get_or s 3 0 ∷ get_or s 4 0 ∷ get_or s 5 0 ∷ []);
      run = run_in (get_or s 6 0) (get_or s 7 0) (get_or s 8 0) (get_or s 9 0) (get_or s 10 0);
      last = last_in (get_or s 11 0) (get_or s 12 0);
    }

-- ---- a desk said in thirteen numbers; what does not count is 0

abbrev pub is_open : Run → ℕ
is_open None = 0
is_open (Some p) = 1

abbrev pub tag_of : Run → ℕ
tag_of None = 0
tag_of (Some p) = p.tag

abbrev pub run_book : Run → Book
run_book None = no_book
run_book (Some p) = p.book

abbrev pub is_dated : Last → ℕ
is_dated None = 0
is_dated (Some second) = 1

abbrev pub second_of : Last → ℕ
second_of None = 0
second_of (Some second) = second

unfoldable pub desk_of : Desk → List ℕ
desk_of desk =
    desk.solution
    ∷ desk.processor
    ∷ row_of desk.constellation
    ∷ (desk.book.aiou_plus_one - 1)
    ∷ desk.book.siou_plus_one
    ∷ desk.book.count
    ∷ is_open desk.run
    ∷ tag_of desk.run
    ∷ ((run_book desk.run).aiou_plus_one - 1)
    ∷ (run_book desk.run).siou_plus_one
    ∷ (run_book desk.run).count
    ∷ is_dated desk.last
    ∷ second_of desk.last
    ∷ []
