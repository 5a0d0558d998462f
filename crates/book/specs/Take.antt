-- Definitions to believe: what a GAD does to the book (document 01, "Book and run"; document 02, request 5, "One solution update per book").
use Rattle.std.specs.Prelude.{Bool, cond, not, ◌&&◌, List, [], ◌∷◌, ◌++◌, map, ℕ, ◌+◌, ◌*◌, ◌^◌, ltb, eqb, length, drop, Ok, Err, Some, None}
use Rattle.answer.specs.Number.{number_of}
use Rattle.answer.specs.Stop.{stop}
use Rattle.answer.specs.Place.{nowhere}
use Rattle.answer.specs.declared.Fault as answer
use Rattle.answer.specs.declared.Refusal.TheVariants.{Room, NotOurs, AreaOff, Conflict, BookFull, State}
use Rattle.layout.specs.Layout as layout
use Rattle.gad.specs.Gad.{Block, Gad}
use Rattle.message.specs.Messages.{Message, ocb_message, hpac_message, gad_message, bpac_message}
use Rattle.sheet.specs.Sheet.{judging}
use Rattle.area.specs.Area.{sf031, area_off}
use Rattle.sizes.specs.Sizes.{most_areas, book_bytes}
use Rattle.book.specs.Book.{book_of, areas_in, bytes_of_all, sound}
use Rattle.book.specs.declared.Book.{Book}
use Rattle.book.specs.Results.{Found}
use Rattle.book.specs.Results.{Taken}

-- what follows from the GAD that was read, and what from a refusal; nothing else is read from a payload of type 2-0
abbrev pub reading : {B : Type 0} → layout.Outcome Message → (Gad → B) → (answer.Fault → B) → B
reading (layout.accepted (gad_message body) codes bits) next fault = next body
reading (layout.accepted (ocb_message constellation body) codes bits) next fault = fault (nowhere NotOurs)
reading (layout.accepted (hpac_message constellation body) codes bits) next fault = fault (nowhere NotOurs)
reading (layout.accepted (bpac_message body) codes bits) next fault = fault (nowhere NotOurs)
reading (layout.refused why) next fault = fault why

-- a block as an area, "the 47 bits of the GAD block": SF031 8 bits, SF032 11, SF033 12, SF034 3, SF035 3, SF036 5, SF037 5
abbrev pub area_of : Block → ℕ
area_of b =
    (((((b.id * 2 ^ 11 + b.latitude) * 2 ^ 12 + b.longitude) * 2 ^ 3 + b.rows) * 2 ^ 3 + b.columns) * 2 ^ 5 + b.latitude_spacing) * 2 ^ 5 + b.longitude_spacing

abbrev pub areas_of : List Block → List ℕ
areas_of blocks = map area_of blocks

-- the first area with this ID
unfoldable pub lookup : ℕ → List ℕ → Found
lookup id [] = None
lookup id (a ∷ l) = cond (eqb (sf031 a) id) (Some a) (lookup id l)

-- the same among the first n areas in a book's bytes; bytes that are too few for them hold none
unfoldable pub looked : (id n : ℕ) → (s : List ℕ) → Found
looked id n s = cond (ltb (length s) (6 * n)) None (lookup id (areas_in n s))

-- an area takes its place by ID
unfoldable pub insert : ℕ → List ℕ → List ℕ
insert a [] = a ∷ []
insert a (b ∷ l) = cond (ltb (sf031 a) (sf031 b)) (a ∷ b ∷ l) (b ∷ insert a l)

-- the areas held afterwards, or the refusal; a payload's own comes with its place, as the reader gives it
pub data Outcome : Type 0 where
  taken : List ℕ → Outcome
  refused : answer.Fault → Outcome

-- "An identical repeat changes nothing." CONFLICT: "same area ID and AIOU, other definition", and the same SIOU, since another begins a new book. BOOK_FULL: "a 33rd area ID".
abbrev pub placed : ℕ → List ℕ → Found → Outcome
placed a l (Some b) = cond (eqb a b) (taken l) (refused (nowhere Conflict))
placed a l None = cond (ltb (length l) most_areas) (taken (insert a l)) (refused (nowhere BookFull))

-- a block, in the order AREA_OFF, CONFLICT, BOOK_FULL
unfoldable pub take_block : ℕ → List ℕ → Outcome
take_block a l = stop (area_off a) (refused (nowhere AreaOff)) (placed a l (lookup (sf031 a) l))

-- "It is taken whole or refused at its first faulty block": each block is judged against the areas with the earlier ones added
abbrev pub and_then : Outcome → (List ℕ → Outcome) → Outcome
and_then (taken l) next = next l
and_then (refused r) next = refused r

unfoldable pub take_all : List ℕ → List ℕ → Outcome
take_all [] l = taken l
take_all (a ∷ blocks) l = and_then (take_block a l) (λ l. take_all blocks l)

-- whether a book is one of this AIOU and this SIOU, each said plus one. `no_book` has neither; an unknown SIOU, which a book says as 0, equals no SIOU.
unfoldable pub is_under : Book → (aiou-plus-one siou-plus-one : ℕ) → Bool
is_under book aiou-plus-one siou-plus-one = eqb book.aiou_plus_one aiou-plus-one && eqb book.siou_plus_one siou-plus-one

-- "A GAD with another AIOU begins a new book; with the same one it adds." "A GAD with another SIOU begins a new book, as another AIOU does." (document 02, request 5) With no book, every AIOU is another.
unfoldable pub before : Book → List ℕ → (aiou siou : ℕ) → List ℕ
before book s aiou siou = cond (is_under book (aiou + 1) (siou + 1)) (areas_in book.count s) []

-- "Order: ROOM, STATE, .. payload refusals, .. for GAD the book's refusals"; a payload's own are the reader's, LENGTH and then the first fault in reading order
unfoldable pub outcome : Book → List ℕ → List ℕ → Outcome
outcome book s payload =
    stop (ltb (length s) book_bytes) (refused (nowhere Room))
    (stop (not (sound book s)) (refused (nowhere State))
    (reading (judging 2 0 payload) (λ m. take_all (areas_of m.blocks) (before book s m.aiou m.siou)) (λ why. refused why)))

-- what `take` answers, "The book now also holds the SIOU of the GAD that filled it.", and what it leaves of the lent bytes: "only bytes of areas held are written", and a refusal changes nothing
abbrev pub answer_of : Outcome → (aiou siou : ℕ) → Taken
answer_of (taken l) aiou siou = Ok (book_of (aiou + 1) (siou + 1) (length l))
answer_of (refused r) aiou siou = Err r

abbrev pub left_by : Outcome → List ℕ → List ℕ
left_by (taken l) s = bytes_of_all l ++ drop (6 * length l) s
left_by (refused r) s = s

abbrev pub taken_of : Book → List ℕ → List ℕ → Taken
taken_of book s payload = answer_of (outcome book s payload) (reading (judging 2 0 payload) (λ m. m.aiou) (λ why. 0)) (reading (judging 2 0 payload) (λ m. m.siou) (λ why. 0))

abbrev pub bytes_after : Book → List ℕ → List ℕ → List ℕ
bytes_after book s payload = left_by (outcome book s payload) s
