-- Definitions to believe: the kept book (document 01, "Log and kept book"; document 02, request 5, "One solution update per book").
use Rattle.std.specs.Prelude.{Bool, cond, not, ◌&&◌, ◌||◌, List, [], ◌∷◌, ◌++◌, ℕ, zero, suc, ◌+◌, ◌*◌, leb, ltb, eqb, length, drop, Ok, Err}
use Rattle.answer.specs.Number.{number_of}
use Rattle.answer.specs.Stop.{stop}
use Rattle.answer.specs.declared.Refusal.{Refusal}
use Rattle.answer.specs.declared.Refusal.TheVariants.{Room, State, Form, Leftover}
use Rattle.area.specs.Area.{sf031, is_area}
use Rattle.sizes.specs.Sizes.{book_bytes, kept_room}
use Rattle.book.specs.Book.{book_of, areas_in, bytes_of_all, siou_sound, head_sound, sound}
use Rattle.book.specs.declared.Book.{Book}
use Rattle.groups.specs.Groups.{groups_of_all, read_groups}
use Rattle.groups.specs.Results.{Read}
use Rattle.kept.specs.Results.{Written}
use Rattle.kept.specs.Results.{ReadKept}

-- ---- the forms of a kept book, by their numbers

-- "The kept book gets form 2 ..": it is the one that is written, and the highest that is read
abbrev pub newest_form : ℕ
newest_form = 2

-- ".. Form 1 is still read"
abbrev pub is_form : (form : ℕ) → Bool
is_form form = leb 1 form && leb form newest_form

-- "form 2 with SIOU + 1 after AIOU + 1, 0 for unknown or no book"
abbrev pub has_siou : (form : ℕ) → Bool
has_siou form = leb 2 form

-- the heads of sound books that a form can say: "Form 1 is still read, its SIOU unknown"
unfoldable pub head_in : (form : ℕ) → Book → Bool
head_in form book = head_sound book && (has_siou form || eqb book.siou_plus_one 0)

-- the numbers of a kept book: "form number .., AIOU + 1, count, areas as numbers, ascending", with "SIOU + 1 after AIOU + 1" from form 2 on
unfoldable pub numbers_in : (form : ℕ) → Book → (areas : List ℕ) → List ℕ
numbers_in form book areas = form ∷ book.aiou_plus_one ∷ cond (has_siou form) (book.siou_plus_one ∷ book.count ∷ areas) (book.count ∷ areas)

-- its bytes in a form, and in the one that is written
abbrev pub kept_in : (form : ℕ) → Book → (areas : List ℕ) → List ℕ
kept_in form book areas = groups_of_all (numbers_in form book areas)

abbrev pub kept_bytes : Book → List ℕ → List ℕ
kept_bytes book s = kept_in newest_form book (areas_in book.count s)

-- "Writing checks ROOM (..), STATE.", "(229 bytes of room)"
abbrev pub lacks_room : List ℕ → List ℕ → Bool
lacks_room s out = ltb (length s) book_bytes || ltb (length out) kept_room

unfoldable pub written : Book → List ℕ → List ℕ → Written
written book s out =
    stop (lacks_room s out) (Err Room)
    (stop (not (sound book s)) (Err State)
    (Ok (length (kept_bytes book s))))

unfoldable pub out_after : Book → List ℕ → List ℕ → List ℕ
out_after book s out =
    stop (lacks_room s out) out
    (stop (not (sound book s)) out
    (kept_bytes book s ++ drop (length (kept_bytes book s)) out))

-- ---- reading

-- what some bytes say first, and the bytes behind it; or the refusal
pub data Said (A : Type 0) : Type 0 where
  said : (value : A) (rest : List ℕ) → Said A
  refused : Refusal → Said A

-- the first number, and what is to be read behind it: "SHORT or FORM (a number not in shortest form, ..)"
abbrev pub behind : {A : Type 0} → Read → List ℕ → (ℕ → List ℕ → Said A) → Said A
behind (Ok (x, n)) s next = next x (drop n s)
behind (Err r) s next = refused r

abbrev pub number : {A : Type 0} → List ℕ → (ℕ → List ℕ → Said A) → Said A
number s next = behind (read_groups s) s next

-- ".. or one after which no sound book can follow": an area with so many others behind it, whose ID is to be `least` or more
abbrev pub fits : ℕ → ℕ → ℕ → Bool
fits others least a = leb least (sf031 a) && (leb (sf031 a + others) 255 && is_area a)

abbrev pub with_area : ℕ → Said (List ℕ) → Said (List ℕ)
with_area a (said l rest) = said (a ∷ l) rest
with_area a (refused r) = refused r

unfoldable pub read_areas : ℕ → ℕ → List ℕ → Said (List ℕ)
read_areas zero least s = said [] s
read_areas (suc n) least s = number s (λ a rest. stop (not (fits n least a)) (refused Form) (with_area a (read_areas n (suc (sf031 a)) rest)))

-- form number, AIOU + 1, from form 2 on SIOU + 1, count: a head that the form can say
unfoldable pub read_count : (form aiou siou : ℕ) → List ℕ → Said Book
read_count form aiou siou s =
    number s (λ count s. stop (not (head_in form (book_of aiou siou count))) (refused Form)
    (said (book_of aiou siou count) s))

unfoldable pub read_siou : (form aiou : ℕ) → List ℕ → Said Book
read_siou form aiou s =
    cond (has_siou form)
    (number s (λ siou s. stop (not (siou_sound aiou siou)) (refused Form) (read_count form aiou siou s)))
    (read_count form aiou 0 s)

unfoldable pub read_aiou : (form : ℕ) → List ℕ → Said Book
read_aiou form s = number s (λ aiou s. stop (ltb 16 aiou) (refused Form) (read_siou form aiou s))

unfoldable pub read_head : List ℕ → Said Book
read_head s = number s (λ form s. stop (not (is_form form)) (refused Form) (read_aiou form s))

-- a book and its areas, and then LEFTOVER
pub data Outcome : Type 0 where
  kept : Book → List ℕ → Outcome
  not-kept : Refusal → Outcome

abbrev pub whole : Book → Said (List ℕ) → Outcome
whole book (said l []) = kept book l
whole book (said l (b ∷ rest)) = not-kept Leftover
whole book (refused r) = not-kept r

abbrev pub behind_head : Said Book → Outcome
behind_head (said book s) = whole book (read_areas book.count 0 s)
behind_head (refused r) = not-kept r

-- "Reading checks ROOM, then the first fault in reading order, SHORT or FORM .., then LEFTOVER."
unfoldable pub read_kept : List ℕ → List ℕ → Outcome
read_kept s bytes = stop (ltb (length bytes) book_bytes) (not-kept Room) (behind_head (read_head s))

-- what `read_kept` answers, and what it leaves of the lent bytes: six bytes an area
abbrev pub answer_of : Outcome → ReadKept
answer_of (kept book l) = Ok book
answer_of (not-kept r) = Err r

abbrev pub left_by : Outcome → List ℕ → List ℕ
left_by (kept book l) bytes = bytes_of_all l ++ drop (6 * length l) bytes
left_by (not-kept r) bytes = bytes
