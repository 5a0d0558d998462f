-- Theorems: the kept book, in the words of the calls `write_kept` and `read_kept`. What reads is sound (`reads-sound`), and is said by the form whose number the bytes begin with
-- (`reads-form`, `form-can-say`); a book of form 1 reads with its SIOU unknown (`form-1-unknown`).
-- Both round trips, in each form: what a form says of a sound book reads back as that book (`kept-reads`, `form-1-reads`), and bytes that read are what their form says of it
-- (`reads_kept`). So what was written, which is of form 2 (`write-form`), reads back (`write_read`); bytes of form 2 that were read are written back (`read-write`); of bytes of form 1
-- the form 2 is written, with 0 for SIOU + 1 (`form-1-write-bytes`); and what was read and is then written reads back as the same book (`read_again`). No second byte string of the same
-- form reads as the same book (`no_second`).
-- Reading is SHORT exactly when, with room lent, the finished numbers properly begin a kept book of a sound book (`short-only`, `short-if`); it reads, is LEFTOVER, is FORM exactly when
-- Ends.antt says so (`holds-`, `leftover-`, `form-`). Proved; assumes nothing.
use Rattle.std.specs.Prelude.{◌≡◌, refl, ◌⊎◌, Bool, true, false, not, ◌&&◌, ◌||◌, ltb, length, take, drop, Ok, Err}
use Rattle.std.proofs.Math.Path.{ap, ap₂, sym}
use Rattle.std.proofs.Common.{◌∙◌, subst, inl, inr, ⊎_elim, arith, take_at, le-ltb, eq-eqb}
use mathlib.Core.List.{List, [], ◌∷◌, ◌++◌}
use Prim.Native.Nat.{ℕ, suc, ◌*◌, ◌≤◌, ◌<◌}
use Rattle.answer.specs.Stop.{stop}
use Rattle.answer.specs.declared.Refusal.{Refusal}
use Rattle.answer.specs.declared.Refusal.TheVariants.{Room, State, Short, Form, Leftover}
use Rattle.bits.specs.Bits.{Bytes}
use Rattle.bits.specs.Laws.{bytes-append, bytes_drop}
use Rattle.sizes.specs.Sizes.{book_bytes, kept_room}
use Rattle.book.specs.Book.{areas_in, bytes_of_all, sound}
use Rattle.book.specs.Laws.{Sound, head-parts, sound-head, sound-lists, sound-room, length-areas, length-bytes}
use Rattle.book.specs.declared.Book.{Book}
use Rattle.groups.specs.Groups.{groups_of, groups_of_all, value}
use Rattle.groups.specs.Laws.{groups-last, value-groups}
use Rattle.groups.specs.Rows.{once}
use Rattle.kept.specs.Kept.{newest_form, is_form, head_in, numbers_in, kept_in, kept_bytes, lacks_room, written, out_after, Outcome, kept, not-kept, read_head, behind_head, read_kept, answer_of, left_by}
use Rattle.kept.specs.Ends.{OfForm, IsBook, GoesOn, Finished, EndsEarly, BreaksForm}
use Rattle.kept.specs.RoundTrip.{in-sound, in-siou, unsaid, form-says, no_room, with-room, had-room, sound-reads, ReadWas, read-writes}
use Rattle.kept.specs.ReadLaws.{IsKept, kept-sound, kept-areas, left-length}
use Rattle.kept.specs.EndsLaws.{bytes-areas, book-reads, over-leftover}
use Rattle.kept.specs.StopLaws.{Stops, stops-early, early-stops, stops-breaks, breaks-stops, Fault, stops-fault, stops-only, stops-if, Ending, ending}

-- ---- what reads

-- the areas that were read, and that they are a sound book's
record Was (s bytes : List ℕ) (book : Book) : Type 0 where
  areas : List ℕ
  is : read_kept s bytes ≡ kept book areas
  from : ReadWas s bytes book areas
  good : IsKept book areas

was : (s bytes : List ℕ) (book : Book) → answer_of (read_kept s bytes) ≡ Ok book → Was s bytes book
was s bytes book = go (read_kept s bytes) refl
  where
    go : (o : Outcome) → read_kept s bytes ≡ o → answer_of o ≡ Ok book → Was s bytes book
    go (kept b l) p q =
        let e : b ≡ book = cc in
        let is : read_kept s bytes ≡ kept book l = p ∙ ap (λ b. kept b l) e in
        let w : ReadWas s bytes book l = read-writes s bytes book l is in
        record { areas = l; is = is; from = w; good = record { head = in-sound w.number book w.says.in-form; row = w.row } }
    go (not-kept r) p q = let w : ◌≡◌ {A = ℕ} 0 1 = cc in absurd (omega arith)

module _ (s bytes : List ℕ) (book : Book) (e : answer_of (read_kept s bytes) ≡ Ok book) where
  abbrev read : Was s bytes book
  read = was s bytes book e

  left_is : left_by (read_kept s bytes) bytes ≡ bytes_of_all read.areas ++ drop (6 * length read.areas) bytes
  left_is = ap (λ o. left_by o bytes) read.is

  -- What reads is a sound book.
  pub reads-sound : sound book (left_by (read_kept s bytes) bytes) ≡ true
  reads-sound =
      ap (sound book) left_is
      ∙ kept-sound book read.areas (drop (6 * length read.areas) bytes) read.good
      (omega (arith, left-length book read.areas bytes read.good read.from.room, read.from.room))

  left-areas : areas_in book.count (left_by (read_kept s bytes) bytes) ≡ read.areas
  left-areas = ap (areas_in book.count) left_is ∙ kept-areas book read.areas (drop (6 * length read.areas) bytes) read.good

  left-first : take (6 * book.count) (left_by (read_kept s bytes) bytes) ≡ bytes_of_all read.areas
  left-first =
      ap (take (6 * book.count)) left_is
      ∙ take_at (bytes_of_all read.areas) (drop (6 * length read.areas) bytes) (6 * book.count) (length-bytes read.areas ∙ ap (λ n. 6 * n) read.good.row.count)

  left-bytes : Bytes bytes → Bytes (left_by (read_kept s bytes) bytes)
  left-bytes lent = subst (λ l. Bytes l) (sym left_is) (bytes-append (bytes-areas read.areas) (bytes_drop (6 * length read.areas) lent))

-- ---- the form of what reads

-- The bytes decide of which form they are.
pub form-once : (s : List ℕ) (f g : ℕ) → OfForm f s → OfForm g s → f ≡ g
form-once s f g o p = sym (value-groups o.rest f) ∙ ap value (sym o.is ∙ p.is) ∙ value-groups p.rest g

-- Bytes of a form that is read.
pub record OfSomeForm (s : List ℕ) : Type 0 where
  pub number : ℕ
  pub is-form : is_form number ≡ true
  pub of-form : OfForm number s

module _ (s bytes : List ℕ) (book : Book) (b : Bytes s) (e : answer_of (read_kept s bytes) ≡ Ok book) where
  begins-form : OfForm (read s bytes book e).from.number s
  unfolding numbers_in groups_of_all
  begins-form = record { rest = _; is = sym ((read s bytes book e).from.is b) }

  -- What reads is of a form,
  pub reads-form : OfSomeForm s
  reads-form = record { number = (read s bytes book e).from.number; is-form = (read s bytes book e).from.says.is-form; of-form = begins-form }

  module _ (f : ℕ) (o : OfForm f s) where
    same-form : (read s bytes book e).from.number ≡ f
    same-form = form-once s (read s bytes book e).from.number f begins-form o

    -- which can say the book,
    pub form-can-say : head_in f book ≡ true
    form-can-say = ap (λ f. head_in f book) (sym same-form) ∙ (read s bytes book e).from.says.in-form

    -- and the bytes are what it says of the book.
    pub reads_kept : s ≡ kept_in f book (areas_in book.count (left_by (read_kept s bytes) bytes))
    reads_kept = sym (ap₂ (λ f l. kept_in f book l) (sym same-form) (left-areas s bytes book e) ∙ (read s bytes book e).from.is b)

  -- "Form 1 is still read, its SIOU unknown"
  pub form-1-unknown : OfForm 1 s → book.siou_plus_one ≡ 0
  form-1-unknown o = unsaid 1 book.siou_plus_one (in-siou 1 book (form-can-say 1 o)) refl

-- ---- what is written

has_room : (s out : List ℕ) → book_bytes ≤ length s → kept_room ≤ length out → lacks_room s out ≡ false
has_room s out h k =
    let y : ltb (length s) book_bytes ≡ false = le-ltb _ _ h in
    let z : ltb (length out) kept_room ≡ false = le-ltb _ _ k in
    ap₂ (λ x y. x || y) y z

module _ (book : Book) (s out : List ℕ) (r : lacks_room s out ≡ false) (e : sound book s ≡ true) where
  written_is : written book s out ≡ Ok (length (kept_bytes book s))
  unfolding written
  written_is = rw (r, e)

  out-is : out_after book s out ≡ kept_bytes book s ++ drop (length (kept_bytes book s)) out
  unfolding out_after
  out-is = rw (r, e)

-- only a sound book is written
wrote : (book : Book) (s out : List ℕ) (n : ℕ) → written book s out ≡ Ok n → (lacks_room s out ≡ false) × (sound book s ≡ true)
unfolding written
wrote book s out n = go (lacks_room s out) (sound book s)
  where
    go : (a b : Bool) → stop a (Err Room) (stop (not b) (Err State) (Ok (length (kept_bytes book s)))) ≡ Ok n → (a ≡ false) × (b ≡ true)
    go true b q = let w : ◌≡◌ {A = ℕ} 0 1 = cc in absurd (omega arith)
    go false false q = let w : ◌≡◌ {A = ℕ} 0 1 = cc in absurd (omega arith)
    go false true q = (refl, refl)

-- ---- what a form says, then read (s are bytes, as those of every slice of u8 are)

module _ (f : ℕ) (book : Book) (s bytes : List ℕ) (i : is_form f ≡ true) (k : head_in f book ≡ true) (e : sound book s ≡ true) (h : book_bytes ≤ length bytes) where
  said-again : read_kept (kept_in f book (areas_in book.count s)) bytes ≡ kept book (areas_in book.count s)
  said-again = sound-reads f book s bytes e (record { is-form = i; in-form = k }) h

  -- What a form says of a sound book that it can say reads back as the book, whatever bytes it is read into,
  pub kept-reads : answer_of (read_kept (kept_in f book (areas_in book.count s)) bytes) ≡ Ok book
  kept-reads = ap answer_of said-again

  -- and into these come the bytes of its areas; the others stay as lent.
  pub kept-reads-bytes : Bytes s → left_by (read_kept (kept_in f book (areas_in book.count s)) bytes) bytes ≡ take (6 * book.count) s ++ drop (6 * book.count) bytes
  kept-reads-bytes b =
      let p : Sound book.count 0 s = sound-lists book s e b in
      ap (λ o. left_by o bytes) said-again
      ∙ ap₂ (λ x n. x ++ drop (6 * n) bytes) (sym p.image) (length-areas book.count s)

-- So form 1 is still read, of every sound book whose SIOU is unknown.
pub form-1-reads : (book : Book) (s bytes : List ℕ) → sound book s ≡ true → book.siou_plus_one ≡ 0 → book_bytes ≤ length bytes
    → answer_of (read_kept (kept_in 1 book (areas_in book.count s)) bytes) ≡ Ok book
unfolding head_in
form-1-reads book s bytes e u h =
    kept-reads 1 book s bytes refl (ap₂ (λ x y. x && y) (sound-head book s e) (eq-eqb book.siou_plus_one 0 u)) e h

-- ---- written, then read

module _ (book : Book) (s out : List ℕ) (n : ℕ) (e : written book s out ≡ Ok n) where
  wrote_kept : take n (out_after book s out) ≡ kept_bytes book s
  wrote_kept =
      let w = wrote book s out n e in
      let z : Ok (length (kept_bytes book s)) ≡ Ok n = sym (written_is book s out w.0 w.1) ∙ e in
      let size : length (kept_bytes book s) ≡ n = cc in
      ap (take n) (out-is book s out w.0 w.1) ∙ take_at (kept_bytes book s) _ n size

  -- The n bytes that were written are of form 2,
  pub write-form : OfForm newest_form (take n (out_after book s out))
  unfolding numbers_in groups_of_all
  write-form = record { rest = _; is = wrote_kept }

module _ (book : Book) (s out bytes : List ℕ) (b : Bytes s) (n : ℕ) (e : written book s out ≡ Ok n) (h : book_bytes ≤ length bytes) where
  abbrev was-sound : sound book s ≡ true
  was-sound = (wrote book s out n e).1

  abbrev can-say : head_in newest_form book ≡ true
  can-say = (form-says book (sound-head book s was-sound)).in-form

  -- they read back as the book, whatever bytes it is read into,
  pub write_read : answer_of (read_kept (take n (out_after book s out)) bytes) ≡ Ok book
  write_read = ap (λ t. answer_of (read_kept t bytes)) (wrote_kept book s out n e) ∙ kept-reads newest_form book s bytes refl can-say was-sound h

  -- and into these come the bytes of its areas; the others stay as lent.
  pub write-read-bytes : left_by (read_kept (take n (out_after book s out)) bytes) bytes ≡ take (6 * book.count) s ++ drop (6 * book.count) bytes
  write-read-bytes = ap (λ t. left_by (read_kept t bytes) bytes) (wrote_kept book s out n e) ∙ kept-reads-bytes newest_form book s bytes refl can-say was-sound h b

-- ---- read, then written

-- Bytes of form 1, and what is then written of the book that they read as: another form number, and 0 for SIOU + 1; all else stays.
pub record Raised (s t : List ℕ) : Type 0 where
  pub aiou : ℕ
  pub others : List ℕ
  pub was : s ≡ 1 ∷ aiou ∷ others
  pub is : t ≡ newest_form ∷ aiou ∷ 0 ∷ others

module _ (s bytes : List ℕ) (book : Book) (b : Bytes s) (e : answer_of (read_kept s bytes) ≡ Ok book) where
  abbrev left : List ℕ
  left = left_by (read_kept s bytes) bytes

  same_bytes : OfForm newest_form s → kept_bytes book left ≡ s
  same_bytes o = sym (reads_kept s bytes book b e newest_form o)

  -- of bytes of form 1 the SIOU is unknown, and is written as 0
  raised : OfForm 1 s → Raised s (kept_bytes book left)
  unfolding numbers_in groups_of_all
  raised o =
      let t : List ℕ = groups_of book.count ++ groups_of_all (areas_in book.count left) in
      let aiou : groups_of book.aiou_plus_one ≡ book.aiou_plus_one ∷ []
      = groups-last book.aiou_plus_one (omega (arith, (head-parts book (read s bytes book e).good.head).0)) in
      let siou : groups_of book.siou_plus_one ≡ 0 ∷ [] = ap groups_of (form-1-unknown s bytes book b e o) ∙ groups-last 0 (omega arith) in
      record {
        aiou = book.aiou_plus_one;
        others = t;
        was = reads_kept s bytes book b e 1 o ∙ ap₂ (λ x y. x ++ (y ++ t)) (groups-last 1 (omega arith)) aiou;
        is = ap₂ (λ x y. x ++ (y ++ (groups_of book.siou_plus_one ++ t))) (groups-last newest_form (omega arith)) aiou ∙ ap (λ y. newest_form ∷ book.aiou_plus_one ∷ (y ++ t)) siou;
      }

  module _ (out : List ℕ) (h : kept_room ≤ length out) where
    room-left : lacks_room left out ≡ false
    room-left = has_room left out (sound-room book left (reads-sound s bytes book e)) h

    rewritten : written book left out ≡ Ok (length (kept_bytes book left))
    rewritten = written_is book left out room-left (reads-sound s bytes book e)

    rewritten-bytes : out_after book left out ≡ kept_bytes book left ++ drop (length (kept_bytes book left)) out
    rewritten-bytes = out-is book left out room-left (reads-sound s bytes book e)

    module _ (o : OfForm newest_form s) where
      -- Bytes of form 2: what was read is written in as many bytes,
      pub read-write : written book (left_by (read_kept s bytes) bytes) out ≡ Ok (length s)
      read-write = rewritten ∙ ap (λ t. Ok (length t)) (same_bytes o)

      -- and they are the bytes that were read.
      pub read-write-bytes : out_after book (left_by (read_kept s bytes) bytes) out ≡ s ++ drop (length s) out
      read-write-bytes = rewritten-bytes ∙ ap (λ t. t ++ drop (length t) out) (same_bytes o)

    module _ (o : OfForm 1 s) where
      one_more : length (kept_bytes book left) ≡ suc (length s)
      one_more = let w : Raised s (kept_bytes book left) = raised o in ap length w.is ∙ ap (λ t. suc (length t)) (sym w.was)

      -- Bytes of form 1: what was read is written in one byte more,
      pub form-1-write : written book (left_by (read_kept s bytes) bytes) out ≡ Ok (suc (length s))
      form-1-write = rewritten ∙ ap Ok one_more

      -- and they are the bytes that were read, raised to form 2.
      pub form-1-write-bytes : Raised s (take (suc (length s)) (out_after book (left_by (read_kept s bytes) bytes) out))
      form-1-write-bytes = subst (λ t. Raised s t) (sym (wrote_kept book left out (suc (length s)) form-1-write)) (raised o)

    -- Bytes of either form: what is then written, in n bytes, reads back as the same book, whatever bytes it is read into,
    module _ (n : ℕ) (w : written book (left_by (read_kept s bytes) bytes) out ≡ Ok n) (lent : List ℕ) (c : Bytes bytes) (k : book_bytes ≤ length lent) where
      pub read_again : answer_of (read_kept (take n (out_after book (left_by (read_kept s bytes) bytes) out)) lent) ≡ Ok book
      read_again = write_read book left out lent (left-bytes s bytes book e c) n w k

      -- with the same areas.
      pub read-again-bytes : left_by (read_kept (take n (out_after book (left_by (read_kept s bytes) bytes) out)) lent) lent
          ≡ take (6 * book.count) (left_by (read_kept s bytes) bytes) ++ drop (6 * book.count) lent
      read-again-bytes = write-read-bytes book left out lent (left-bytes s bytes book e c) n w k

-- No second byte string of the same form reads as the same book with the same areas.
pub no_second : (f : ℕ) (s t bytes lent : List ℕ) (book : Book) → OfForm f s → OfForm f t → Bytes s → Bytes t
    → answer_of (read_kept s bytes) ≡ Ok book → answer_of (read_kept t lent) ≡ Ok book
    → take (6 * book.count) (left_by (read_kept s bytes) bytes) ≡ take (6 * book.count) (left_by (read_kept t lent) lent) → s ≡ t
no_second f s t bytes lent book o p b c e g q =
    let l : List ℕ = (read s bytes book e).areas in
    let m : List ℕ = (read t lent book g).areas in
    let same : bytes_of_all l ≡ bytes_of_all m = sym (left-first s bytes book e) ∙ q ∙ left-first t lent book g in
    let areas : l ≡ m
    = sym (kept-areas book l [] (read s bytes book e).good) ∙ ap (λ z. areas_in book.count (z ++ [])) same ∙ kept-areas book m [] (read t lent book g).good in
    reads_kept s bytes book b e f o ∙ ap (kept_in f book) (left-areas s bytes book e ∙ areas ∙ sym (left-areas t lent book g)) ∙ sym (reads_kept t lent book c g f p)

-- ---- SHORT

-- a refusal other than ROOM is what was read
refused-by : (s bytes : List ℕ) (r : Refusal) → answer_of (read_kept s bytes) ≡ Err r → (r ≡ Room → ⊥) → (book_bytes ≤ length bytes) × (behind_head (read_head s) ≡ not-kept r)
refused-by s bytes r e n = go (read_kept s bytes) refl e
  where
    go : (o : Outcome) → read_kept s bytes ≡ o → answer_of o ≡ Err r → (book_bytes ≤ length bytes) × (behind_head (read_head s) ≡ not-kept r)
    go (kept book l) p q = let w : ◌≡◌ {A = ℕ} 0 1 = cc in absurd (omega arith)
    go (not-kept v) p q =
        let same : v ≡ r = cc in
        had-room s bytes (not-kept r) (p ∙ ap not-kept same) (λ z. n (let w : r ≡ Room = cc in w))

-- Which numbers are finished, and what is left, the bytes decide.
pub finished-once : (s m n t u : List ℕ) → Finished s m t → Finished s n u → (m ≡ n) × (t ≡ u)
finished-once s m n t u f g = once m n t u f.unended g.unended (sym f.is ∙ g.is)

-- Only with room lent, and where the finished numbers properly begin a kept book of a sound book, is it SHORT,
pub short-only : (s bytes : List ℕ) → Bytes s → answer_of (read_kept s bytes) ≡ Err Short → (book_bytes ≤ length bytes) × EndsEarly s
short-only s bytes b e =
    let r = refused-by s bytes Short e (λ q. let w : ◌≡◌ {A = ℕ} 0 1 = cc in absurd (omega arith)) in
    (r.0, stops-early s (stops-only s b Short r.1 (λ q. let w : ◌≡◌ {A = ℕ} 0 1 = cc in omega arith)))

-- and there it is.
pub short-if : (s bytes : List ℕ) → book_bytes ≤ length bytes → EndsEarly s → answer_of (read_kept s bytes) ≡ Err Short
short-if s bytes h early = ap answer_of (with-room s bytes h ∙ stops-if s Short (early-stops s early))

-- ---- the other answers

-- It reads exactly where, with room lent, it is the kept book of a sound book,
pub holds-only : (s bytes : List ℕ) (book : Book) → Bytes s → answer_of (read_kept s bytes) ≡ Ok book → (book_bytes ≤ length bytes) × IsBook s
holds-only s bytes book b e =
    let w : Was s bytes book = was s bytes book e in
    (w.from.room, subst (λ o. Ending s o) (sym (with-room s bytes w.from.room) ∙ w.is) (ending s b))

pub holds-if : (s bytes : List ℕ) → book_bytes ≤ length bytes → (k : IsBook s) → answer_of (read_kept s bytes) ≡ Ok k.of.book
holds-if s bytes h k = ap answer_of (with-room s bytes h ∙ book-reads s k)

-- it is LEFTOVER exactly where that goes on,
pub leftover-only : (s bytes : List ℕ) → Bytes s → answer_of (read_kept s bytes) ≡ Err Leftover → (book_bytes ≤ length bytes) × GoesOn s
leftover-only s bytes b e =
    let r = refused-by s bytes Leftover e (λ q. let w : ◌≡◌ {A = ℕ} 0 1 = cc in absurd (omega arith)) in
    (r.0, ⊎_elim (λ w. w.1) (λ f. absurd (other (stops-fault s Leftover f))) (subst (λ o. Ending s o) r.1 (ending s b)))
  where
    other : Fault Leftover → ⊥
    other (inl q) = let w : ◌≡◌ {A = ℕ} 0 1 = cc in omega arith
    other (inr q) = let w : ◌≡◌ {A = ℕ} 0 1 = cc in omega arith

pub leftover-if : (s bytes : List ℕ) → book_bytes ≤ length bytes → GoesOn s → answer_of (read_kept s bytes) ≡ Err Leftover
leftover-if s bytes h g = ap answer_of (with-room s bytes h ∙ over-leftover s g)

-- it is FORM exactly where, with room lent, there is "a number not in shortest form, or one after which no sound book can follow", and such a book could follow the numbers before it,
pub form-only : (s bytes : List ℕ) → Bytes s → answer_of (read_kept s bytes) ≡ Err Form → (book_bytes ≤ length bytes) × BreaksForm s
form-only s bytes b e =
    let r = refused-by s bytes Form e (λ q. let w : ◌≡◌ {A = ℕ} 0 1 = cc in absurd (omega arith)) in
    (r.0, stops-breaks s (stops-only s b Form r.1 (λ q. let w : ◌≡◌ {A = ℕ} 0 1 = cc in omega arith)))

pub form-if : (s bytes : List ℕ) → book_bytes ≤ length bytes → BreaksForm s → answer_of (read_kept s bytes) ≡ Err Form
form-if s bytes h w = ap answer_of (with-room s bytes h ∙ stops-if s Form (breaks-stops s w))

-- and ROOM without room. There is no other answer: all bytes are one of these four.
pub room-if : (s bytes : List ℕ) → length bytes < book_bytes → answer_of (read_kept s bytes) ≡ Err Room
room-if s bytes h = ap answer_of (no_room s bytes h)

pub one_of : (s : List ℕ) → Bytes s → IsBook s ⊎ (GoesOn s ⊎ (EndsEarly s ⊎ BreaksForm s))
one_of s b = go (behind_head (read_head s)) (ending s b)
  where
    fault : (r : Refusal) → Stops s r → Fault r → IsBook s ⊎ (GoesOn s ⊎ (EndsEarly s ⊎ BreaksForm s))
    fault r w (inl q) = inr (inr (inl (stops-early s (subst (λ r. Stops s r) q w))))
    fault r w (inr q) = inr (inr (inr (stops-breaks s (subst (λ r. Stops s r) q w))))

    go : (o : Outcome) → Ending s o → IsBook s ⊎ (GoesOn s ⊎ (EndsEarly s ⊎ BreaksForm s))
    go (kept book l) k = inl k
    go (not-kept r) (inl w) = inr (inl w.1)
    go (not-kept r) (inr w) = fault r w (stops-fault s r w)
