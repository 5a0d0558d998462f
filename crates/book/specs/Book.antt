-- Definitions to believe: the area book in its lent bytes, when it is sound, and finding an ID in it (document 01, "Book and run"; document 02, request 5, "One solution update per book").
use Rattle.std.specs.Prelude.{Bool, true, cond, not, ◌&&◌, ◌||◌, List, [], ◌∷◌, ◌++◌, ℕ, zero, suc, ◌*◌, ◌/◌, ◌%◌, leb, ltb, eqb, length, get_or, take, drop}
use Rattle.std.specs.Bool.{beq}
use Rattle.sizes.specs.Sizes.{most_areas, book_bytes}
use Rattle.area.specs.Area.{sf031, is_area, bytes_of, number_in}
use Rattle.area.specs.declared.AreaId.{AreaId}
use Rattle.book.specs.declared.Book.{Book}

-- A book says AIOU + 1, and 0 where it has none; SIOU + 1, and 0 where it is unknown; a book without areas says 0, 0 and 0.
abbrev pub book_of : (aiou-plus-one siou-plus-one count : ℕ) → Book
book_of aiou-plus-one siou-plus-one count = record { aiou_plus_one = aiou-plus-one; siou_plus_one = siou-plus-one; count = count }

abbrev pub no_book : Book
no_book = book_of 0 0 0

-- ".. ascending by ID, six bytes each: the 47 bits of the GAD block and a zero bit": the area that the first six bytes hold, and the areas that the first n times six bytes hold
abbrev pub area_in : List ℕ → ℕ
area_in s = number_in s / 2

unfoldable pub areas_in : ℕ → List ℕ → List ℕ
areas_in zero s = []
areas_in (suc n) s = area_in s ∷ areas_in n (drop 6 s)

-- the bytes of areas, one behind the other
unfoldable pub bytes_of_all : List ℕ → List ℕ
bytes_of_all [] = []
bytes_of_all (a ∷ l) = bytes_of a ++ bytes_of_all l

-- "In a sound book the SIOU is 0 to 511 or unknown, and unknown where there is no AIOU." (document 02, request 5)
unfoldable pub siou_sound : (aiou-plus-one siou-plus-one : ℕ) → Bool
siou_sound aiou-plus-one siou-plus-one = leb siou-plus-one 512 && (not (eqb aiou-plus-one 0) || eqb siou-plus-one 0)

-- "A book has an AIOU exactly when it has an area, at most 32, .." AIOU is 0 to 15. A book says AIOU + 1, and 0 where it has none.
unfoldable pub head_sound : Book → Bool
head_sound book =
    beq (eqb book.aiou_plus_one 0) (eqb book.count 0)
    && (siou_sound book.aiou_plus_one book.siou_plus_one && (leb book.aiou_plus_one 16 && leb book.count most_areas))

-- ".. ascending, each with fields in range, the last bit zero and no AREA_OFF": n areas whose IDs are `least` and more
unfoldable pub areas_sound : ℕ → ℕ → List ℕ → Bool
areas_sound zero least s = true
areas_sound (suc n) least s =
    eqb (number_in s % 2) 0 && (leb least (sf031 (area_in s)) && (is_area (area_in s) && areas_sound n (suc (sf031 (area_in s))) (drop 6 s)))

-- "bytes past them do not count". Fewer bytes than those of a book hold no sound one.
unfoldable pub sound : Book → List ℕ → Bool
sound book s = leb book_bytes (length s) && (head_sound book && areas_sound book.count 0 s)

-- how many of n areas come before the first with this ID: n where none has it
unfoldable pub place_of : ℕ → ℕ → List ℕ → ℕ
place_of id zero s = zero
place_of id (suc n) s = cond (eqb (get_or s 0 0) id) zero (suc (place_of id n (drop 6 s)))

-- "Looking up an area gives its six bytes ..; an absent ID, either book short, or a state or book not sound, give the empty part at the .. book's
-- start." Here the one book that is looked into.
abbrev pub is_held : Book → List ℕ → AreaId → Bool
is_held book s id = sound book s && ltb (place_of id.0 book.count s) book.count

unfoldable pub found : Book → List ℕ → AreaId → List ℕ
found book s id = cond (is_held book s id) (take 6 (drop (6 * place_of id.0 book.count s) s)) []

-- and how many bytes of the lent ones are before that part
unfoldable pub found_at : Book → List ℕ → AreaId → ℕ
found_at book s id = cond (is_held book s id) (6 * place_of id.0 book.count s) 0
