-- Theorems: calls for other languages in a row are calls of `stream`, `book` and `kept` in a row. The numbers and bytes which a call leaves, refused ones included, the next call reads as the
-- tray (`next-call`, `next-finish`) or the book (`next-take`, `next-read`) that the call below answered; step by step they are those calls. A kept book that was written is the book again when it is read
-- (`kept_back`, `kept-back-areas`). The theorems on whole streams are lifted for the calls of `prepare` (crate exportprepare). Proved; assumes nothing.
use Rattle.std.specs.Prelude.{◌≡◌, refl, Bool, true, false, cond, not, List, ◌∷◌, ◌++◌, ℕ, ◌*◌, ◌≤◌, ◌<◌, ltb, length, take, drop, Ok, Err}
use Rattle.std.proofs.Math.Path.{ap, subst}
use Rattle.std.proofs.Common.{◌∙◌, arith, le-ltb, ltb-false}
use Rattle.answer.specs.Stop.{stop}
use Rattle.answer.specs.Place.{nowhere}
use Rattle.answer.specs.declared.Refusal.TheVariants.{Room, State}
use Rattle.bits.specs.Bits.{Bytes}
use Rattle.sizes.specs.Sizes.{longest_frame, most_noise, book_bytes}
use Rattle.stream.specs.declared.Tray.{Tray}
use Rattle.stream.specs.Scan.{frame, noise}
use Rattle.stream.specs.Tray.{sound, Outcome, feed, close, close_end, called, finished, fresh_tray, call_answer, finish_answer}
use Rattle.stream.specs.Tray as stream
use Rattle.stream.specs.Driver.{Ready}
use Rattle.stream.specs.Kept.{Good}
use Rattle.stream.specs.Steps.{live_of, called_is, finished-is, call_kept, end_kept}
use Rattle.book.specs.Book.{no_book, head_sound}
use Rattle.book.specs.Book as book
use Rattle.book.specs.Laws.{sound-head}
use Rattle.book.specs.Take.{taken_of, bytes_after}
use Rattle.book.specs.Take as taken
use Rattle.book.specs.Theorems.{stays-sound}
use Rattle.book.specs.declared.Book.{Book}
use Rattle.book.specs.Results.{Taken}
use Rattle.kept.specs.Kept.{read_kept, answer_of, left_by}
use Rattle.kept.specs.Theorems.{reads-sound, write_read, write-read-bytes}
use Rattle.kept.specs.Results.{ReadKept}
use Rattle.export.specs.Numbers.{room_for, laid, lent_after, at_most}
use Rattle.export.specs.Frames.{header_room}
use Rattle.export.specs.Streams.{tray_room, told_room, rooms, tray_in, tray_of, call_of, finish_of, tray_said, tray_told}
use Rattle.export.specs.Books.{book_room, book_in, take_of, told_taken, kept_of, kept_leaves, read_of, read_leaves, told_read}
use Rattle.export.specs.Back.{tray-back, event-noise, book-laid}

-- what is asked of one answer or the other is asked of both
room-ap : {A B C : Type 0} (f : A → B) (size : ℕ) (lent : List C) (x y : A) → f (room_for size lent x y) ≡ room_for size lent (f x) (f y)
unfolding room_for
room-ap f size lent x y = go (ltb (length lent) size)
  where
    go : (b : Bool) → f (cond b x y) ≡ cond b (f x) (f y)
    go true = refl
    go false = refl

rooms-ap : {A B : Type 0} (f : A → B) (tray told header : List ℕ) (x y : A) → f (rooms tray told header x y) ≡ rooms tray told header (f x) (f y)
unfolding rooms
rooms-ap f tray told header x y =
    room-ap f tray_room tray x _
    ∙ ap (room_for tray_room tray (f x)) (room-ap f told_room told x _ ∙ ap (room_for told_room told (f x)) (room-ap f header_room header x y))

-- ---- a tray

-- A fresh tray is three zeros, whatever lies behind them.
pub fresh : (lent : List ℕ) → tray_in (0 ∷ 0 ∷ 0 ∷ lent) ≡ fresh_tray
unfolding tray_in at_most
fresh lent = refl

pub fresh-laid : (lent : List ℕ) → tray_in (laid (tray_of fresh_tray) lent) ≡ fresh_tray
fresh-laid lent = tray-back fresh_tray lent (omega arith)

-- unless it was refused, it leaves a noise that is not told
abbrev Under : Outcome → Type 0
Under (stream.refused r) = Unit {0}
Under (stream.told e c n) = c.noise < most_noise
Under (stream.hungry c n) = c.noise < most_noise
Under (stream.done c) = c.noise < most_noise

good-under : (o : Outcome) → Good o → Under o
good-under (stream.refused r) g = absurd g
good-under (stream.told e c n) g = event-noise e c g
good-under (stream.hungry c n) g = g.noise-less
good-under (stream.done c) g = omega (arith, ap (λ c. c.noise) g)

module _ (bytes : List ℕ) (tray : Tray) where
  under-by : (o : Outcome) → (Ready bytes tray → Good o) → Under (stop (ltb (length bytes) longest_frame) (stream.refused Room) (stop (not (sound bytes tray)) (stream.refused State) o))
  under-by o g = go (ltb (length bytes) longest_frame) refl (sound bytes tray) refl
    where
      go : (a : Bool) → ltb (length bytes) longest_frame ≡ a → (b : Bool) → sound bytes tray ≡ b → Under (stop a (stream.refused Room) (stop (not b) (stream.refused State) o))
      go true p b q = tt
      go false p false q = tt
      go false p true q = good-under o (g (record { room = ltb-false _ _ p; is-sound = q }))

  call-under : (input : List ℕ) → Under (called bytes tray input)
  unfolding called
  call-under input = under-by (feed input (live_of bytes tray) tray.noise) (λ r. subst (λ o. Good o) (called_is bytes tray input r) (call_kept bytes tray input r))

  finish-under : Under (finished bytes tray)
  unfolding finished
  finish-under = under-by (close_end (close (live_of bytes tray) tray.noise)) (λ r. subst (λ o. Good o) (finished-is bytes tray r) (end_kept bytes tray r))

next-tray : (tray : List ℕ) (o : Outcome) → Under o → tray_in (laid (tray_told (stream.answer_of (tray_in tray) o)) tray) ≡ (stream.answer_of (tray_in tray) o).tray
unfolding tray_told tray_said laid
next-tray tray (stream.refused r) h = refl
next-tray tray (stream.told (frame f bytes) c n) h = tray-back _ tray h
next-tray tray (stream.told (noise k) c n) h = tray-back _ tray h
next-tray tray (stream.hungry c n) h = tray-back _ tray h
next-tray tray (stream.done c) h = tray-back _ tray h

-- The next call reads the tray that `stream::call` answered; where a slice of numbers is short, the one that there was. (The bytes are those that it left: `call_leaves`.)
module _ (bytes tray told header : List ℕ) where
  pub next-call : (input : List ℕ)
      → tray_in (rooms tray told header tray (laid (tray_told (call_of bytes tray input)) tray)) ≡ rooms tray told header (tray_in tray) (call_answer bytes (tray_in tray) input).tray
  unfolding call_of
  next-call input =
      rooms-ap tray_in tray told header tray (laid (tray_told (call_of bytes tray input)) tray)
      ∙ ap (rooms tray told header (tray_in tray)) (next-tray tray (called bytes (tray_in tray) input) (call-under bytes (tray_in tray) input))

  -- and so after finish
  pub next-finish : tray_in (rooms tray told header tray (laid (tray_told (finish_of bytes tray)) tray)) ≡ rooms tray told header (tray_in tray) (finish_answer bytes (tray_in tray)).tray
  unfolding finish_of
  next-finish =
      rooms-ap tray_in tray told header tray (laid (tray_told (finish_of bytes tray)) tray)
      ∙ ap (rooms tray told header (tray_in tray)) (next-tray tray (finished bytes (tray_in tray)) (finish-under bytes (tray_in tray)))

-- ---- a book

-- An empty book is a count of 0, whatever stands beside it.
pub empty : (aiou siou-plus-one : ℕ) (lent : List ℕ) → book_in (aiou ∷ siou-plus-one ∷ 0 ∷ lent) ≡ no_book
unfolding book_in
empty aiou siou-plus-one lent = refl

-- the book after a GAD, and after a kept book was read: the one that is answered, and with a refusal the old one
abbrev pub after_taken : Book → Taken → Book
after_taken old (Ok book) = book
after_taken old (Err refusal) = old

abbrev pub after_read : Book → ReadKept → Book
after_read old (Ok book) = book
after_read old (Err refusal) = old

-- a GAD is taken into a sound book only, and makes one
was-sound : (old : Book) (s payload : List ℕ) (new : Book) → taken_of old s payload ≡ Ok new → book.sound old s ≡ true
unfolding taken.outcome
was-sound old s payload new = go (ltb (length s) book_bytes) (book.sound old s) _ _ _
  where
    go : (a b : Bool) (o : taken.Outcome) (aiou siou : ℕ)
        → taken.answer_of (stop a (taken.refused (nowhere Room)) (stop (not b) (taken.refused (nowhere State)) o)) aiou siou ≡ Ok new → b ≡ true
    go true b o aiou siou e = let w : ◌≡◌ {A = ℕ} 0 1 = cc in absurd (omega arith)
    go false false o aiou siou e = let w : ◌≡◌ {A = ℕ} 0 1 = cc in absurd (omega arith)
    go false true o aiou siou e = refl

made-sound : (old : Book) (s payload : List ℕ) (new : Book) → taken_of old s payload ≡ Ok new → head_sound new ≡ true
made-sound old s payload new e = sound-head new (bytes_after old s payload) (stays-sound old s payload new (was-sound old s payload new e) e)

next-taken : (book : List ℕ) (t : Taken) → ((new : Book) → t ≡ Ok new → head_sound new ≡ true) → book_in (laid (told_taken t).numbers book) ≡ after_taken (book_in book) t
unfolding told_taken laid
next-taken book (Ok new) h = book-laid new book (h new refl)
next-taken book (Err refusal) h = refl

next-kept : (book : List ℕ) (r : ReadKept) → ((new : Book) → r ≡ Ok new → head_sound new ≡ true) → book_in (laid (told_read r).numbers book) ≡ after_read (book_in book) r
unfolding told_read laid
next-kept book (Ok new) h = book-laid new book (h new refl)
next-kept book (Err refusal) h = refl

-- The next call reads the book that `book::take` answered,
pub next-take : (book bytes payload : List ℕ)
    → book_in (lent_after book_room book (told_taken (take_of book bytes payload))) ≡ room_for book_room book (book_in book) (after_taken (book_in book) (taken_of (book_in book) bytes payload))
unfolding lent_after take_of
next-take book bytes payload =
    room-ap book_in book_room book book (laid (told_taken (take_of book bytes payload)).numbers book)
    ∙ ap (room_for book_room book (book_in book)) (next-taken book (taken_of (book_in book) bytes payload) (made-sound (book_in book) bytes payload))

-- and the one that `kept::read_kept` answered.
pub next-read : (kept book bytes : List ℕ)
    → book_in (lent_after book_room book (told_read (read_of kept bytes))) ≡ room_for book_room book (book_in book) (after_read (book_in book) (answer_of (read_kept kept bytes)))
unfolding lent_after read_of
next-read kept book bytes =
    room-ap book_in book_room book book (laid (told_read (read_of kept bytes)).numbers book)
    ∙ ap (room_for book_room book (book_in book))
    (next-kept book (answer_of (read_kept kept bytes)) (λ new e. sound-head new (left_by (read_kept kept bytes) bytes) (reads-sound kept bytes new e)))

-- So a book that was written as a kept book has its AIOU, SIOU and count again when that is read, whatever numbers and bytes are lent for it,
pub kept_back : (book bytes out lent areas : List ℕ) (n : ℕ) → Bytes bytes → kept_of book bytes out ≡ Ok n → book_room ≤ length lent → book_bytes ≤ length areas
    → book_in (lent_after book_room lent (told_read (read_of (take n (kept_leaves book bytes out)) areas))) ≡ book_in book
unfolding kept_of kept_leaves room_for
kept_back book bytes out lent areas n b e h k =
    let z : ltb (length lent) book_room ≡ false = le-ltb _ _ h in
    next-read (take n (kept_leaves book bytes out)) lent areas
    ∙ ap (λ t. cond t (book_in lent) (after_read (book_in lent) (answer_of (read_kept (take n (kept_leaves book bytes out)) areas)))) z
    ∙ ap (after_read (book_in lent)) (write_read (book_in book) bytes out areas b n e k)

-- and its areas: into the bytes that are lent come those of the areas held, and the others stay.
pub kept-back-areas : (book bytes out areas : List ℕ) (n : ℕ) → Bytes bytes → kept_of book bytes out ≡ Ok n → book_bytes ≤ length areas
    → read_leaves (take n (kept_leaves book bytes out)) areas ≡ take (6 * (book_in book).count) bytes ++ drop (6 * (book_in book).count) areas
unfolding kept_of kept_leaves read_leaves
kept-back-areas book bytes out areas n b e k = write-read-bytes (book_in book) bytes out areas b n e k
