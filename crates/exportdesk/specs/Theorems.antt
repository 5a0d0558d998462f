-- Theorems on a desk as thirteen numbers. A number out of its range makes a desk unsound; numbers that a flag makes meaningless do not count. A sound desk
-- that is written and read again is the same desk, so calls in a row are what they are to `desk`. Proved; assumes nothing.
use Rattle.std.specs.Prelude.{◌≡◌, Bool, ◌&&◌, List, [], ◌∷◌, ℕ, ◌-◌, ◌≤◌, ◌<◌, get_or, Ok, Err, Some, None}
use Rattle.std.proofs.Math.Path.{refl, ap, sym}
use Rattle.std.proofs.Common.{◌∙◌, arith}
use Rattle.std.proofs.Math.Bool.{true, false, cond}
use Rattle.std.proofs.Math.Dec.{ltb, leb, eqb}
use borrow.Author.Tests.{le-ltb, ltb-true, le-leb, lt-leb, ne_eqb}
use Rattle.answer.specs.declared.Fault.{Fault}
use Rattle.desk.specs.Results.{Said}
use Rattle.desk.specs.declared.Taken.{Taken}
use Rattle.area.specs.Laws.{both_left, both_right}
use Rattle.codes.specs.Tables.{row_of}
use Rattle.codes.specs.declared.Constellation.{Constellation}
use Rattle.codes.specs.declared.Constellation.TheVariants.{Gps, Glonass, Galileo, BeiDou, Qzss}
use Rattle.sizes.specs.Sizes.{tags, most_areas}
use Rattle.book.specs.Book.{sound}
use Rattle.book.specs.Laws.{sound-head, head-parts, siou-most}
use Rattle.book.specs.declared.Book.{Book}
use Rattle.desk.specs.Desk.{source_in_range, run_sound, desk_sound}
use Rattle.desk.specs.Take.{Verdict, refused, defines, continues, opens, copied, desk_by, taken_by, leaving, frame_taken, book_taken}
use Rattle.desk.specs.Fits.{sound-source, sound-live, sound-run, Fits, new-areas, same-run, new-run}
use Rattle.desk.specs.History.{Held, Given, frame_with, kept_book, verdict_on, handled}
use Rattle.desk.specs.Theorems.{fits_on, sound-by}
use Rattle.desk.specs.declared.Desk.{Desk}
use Rattle.desk.specs.Results.{Last}
use Rattle.desk.specs.Results.{Run}
use Rattle.export.specs.Numbers.{laid, at_most}
use Rattle.export.specs.Books.{book_in}
use Rattle.export.specs.Back.{most-under, book-back}
use Rattle.exportdesk.specs.States.{constellation_in, solution_in, run_in, last_in, desk_in, is_open, tag_of, run_book, is_dated, second_of, desk_of}
use Rattle.exportdesk.specs.Desks.{told_said, told_taken, told_book_said, told_book_taken, take_of, take_book_of}

-- ---- a number out of its range

most-over : (most x : ℕ) → most ≤ x → at_most most x ≡ most
unfolding at_most
most-over most x h = let z : ltb x most ≡ false = le-ltb _ _ h in rw z

never : (b : Bool) → (b && false) ≡ false
never true = refl
never false = refl

no-solution : (desk : Desk) (live run : List ℕ) → desk.solution ≡ 128 → desk_sound desk live run ≡ false
unfolding desk_sound
no-solution desk live run e = rw e

no-processor : (desk : Desk) (live run : List ℕ) → desk.processor ≡ 16 → desk_sound desk live run ≡ false
unfolding desk_sound
no-processor desk live run e = rw (e, never (ltb desk.solution 128))

no_run : (desk : Desk) (live run : List ℕ) → run_sound desk.run run ≡ false → desk_sound desk live run ≡ false
unfolding desk_sound
no_run desk live run e = rw (e, never (sound desk.book live), never (source_in_range desk.solution desk.processor))

no-live : (desk : Desk) (live run : List ℕ) → sound desk.book live ≡ false → desk_sound desk live run ≡ false
unfolding desk_sound
no-live desk live run e = rw (e, never (source_in_range desk.solution desk.processor))

-- of a book with areas: its AIOU is over 15, its SIOU over 511, or it has too many of them
module _ (aiou siou-plus-one areas : ℕ) (bytes : List ℕ) where
  abbrev said : Book
  said = book_in (aiou ∷ siou-plus-one ∷ areas ∷ [])

  said-aiou : 15 < aiou → 0 < areas → said.aiou_plus_one ≡ 17
  unfolding book_in
  said-aiou h k =
      let z : eqb areas 0 ≡ false = ne_eqb areas 0 (λ q. omega arith) in
      let m : at_most 16 aiou ≡ 16 = most-over 16 aiou (omega arith) in
      rw (z, m)

  said-siou : 512 < siou-plus-one → 0 < areas → said.siou_plus_one ≡ 513
  unfolding book_in
  said-siou h k =
      let z : eqb areas 0 ≡ false = ne_eqb areas 0 (λ q. omega arith) in
      let m : at_most 513 siou-plus-one ≡ 513 = most-over 513 siou-plus-one (omega arith) in
      rw (z, m)

  said-areas : 0 < areas → said.count ≡ areas
  unfolding book_in
  said-areas k = let z : eqb areas 0 ≡ false = ne_eqb areas 0 (λ q. omega arith) in rw z

  aiou-over : 15 < aiou → 0 < areas → sound said bytes ≡ false
  aiou-over h k = go (sound said bytes) refl
    where
      go : (b : Bool) → sound said bytes ≡ b → b ≡ false
      go true e = absurd (omega (arith, said-aiou h k, head-parts said (sound-head said bytes e)))
      go false e = refl

  siou-over : 512 < siou-plus-one → 0 < areas → sound said bytes ≡ false
  siou-over h k = go (sound said bytes) refl
    where
      go : (b : Bool) → sound said bytes ≡ b → b ≡ false
      go true e =
          let n : said.siou_plus_one ≤ 512 = siou-most said.aiou_plus_one said.siou_plus_one (head-parts said (sound-head said bytes e)).2 in
          absurd (omega (arith, said-siou h k))
      go false e = refl

  areas-over : most_areas < areas → sound said bytes ≡ false
  areas-over h = go (sound said bytes) refl
    where
      go : (b : Bool) → sound said bytes ≡ b → b ≡ false
      go true e = absurd (omega (arith, said-areas (omega arith), head-parts said (sound-head said bytes e)))
      go false e = refl

open-book : (flag tag aiou siou-plus-one areas : ℕ) (bytes : List ℕ) → flag ≡ 1 → sound (book_in (aiou ∷ siou-plus-one ∷ areas ∷ [])) bytes ≡ false
    → run_sound (run_in flag tag aiou siou-plus-one areas) bytes ≡ false
unfolding run_in
open-book flag tag aiou siou-plus-one areas bytes f e =
    let y : eqb flag 0 ≡ false = ne_eqb flag 0 (λ q. omega arith) in
    rw (y, e, never (ltb tag tags))

module _ (s live run : List ℕ) where
  pub solution-out : 127 < get_or s 0 0 → desk_sound (desk_in s) live run ≡ false
  unfolding desk_in solution_in
  solution-out h = no-solution (desk_in s) live run (go (leb (get_or s 2 0) 4 && (leb (get_or s 6 0) 1 && leb (get_or s 11 0) 1)))
    where
      go : (b : Bool) → cond b (at_most 128 (get_or s 0 0)) 128 ≡ 128
      go true = most-over 128 (get_or s 0 0) (omega arith)
      go false = refl

  pub processor-out : 15 < get_or s 1 0 → desk_sound (desk_in s) live run ≡ false
  unfolding desk_in
  processor-out h = no-processor (desk_in s) live run (most-over 16 (get_or s 1 0) (omega arith))

  pub constellation-out : 4 < get_or s 2 0 → desk_sound (desk_in s) live run ≡ false
  unfolding desk_in solution_in
  constellation-out h = no-solution (desk_in s) live run (ap (λ b. cond (b && (leb (get_or s 6 0) 1 && leb (get_or s 11 0) 1)) (at_most 128 (get_or s 0 0)) 128) (lt-leb (get_or s 2 0) 4 h))

  pub flag-out : 1 < get_or s 6 0 → desk_sound (desk_in s) live run ≡ false
  unfolding desk_in solution_in
  flag-out h =
      no-solution (desk_in s) live run
      (ap (λ b. cond (leb (get_or s 2 0) 4 && (b && leb (get_or s 11 0) 1)) (at_most 128 (get_or s 0 0)) 128) (lt-leb (get_or s 6 0) 1 h)
      ∙ ap (λ b. cond b (at_most 128 (get_or s 0 0)) 128) (never (leb (get_or s 2 0) 4)))

  -- the flag of the last accepted frame
  pub dated-out : 1 < get_or s 11 0 → desk_sound (desk_in s) live run ≡ false
  unfolding desk_in solution_in
  dated-out h =
      no-solution (desk_in s) live run
      (ap (λ b. cond (leb (get_or s 2 0) 4 && (leb (get_or s 6 0) 1 && b)) (at_most 128 (get_or s 0 0)) 128) (lt-leb (get_or s 11 0) 1 h)
      ∙ ap (λ b. cond (leb (get_or s 2 0) 4 && b) (at_most 128 (get_or s 0 0)) 128) (never (leb (get_or s 6 0) 1))
      ∙ ap (λ b. cond b (at_most 128 (get_or s 0 0)) 128) (never (leb (get_or s 2 0) 4)))

  pub tag-out : get_or s 6 0 ≡ 1 → tags ≤ get_or s 7 0 → desk_sound (desk_in s) live run ≡ false
  unfolding desk_in run_in
  tag-out f h =
      let y : eqb (get_or s 6 0) 0 ≡ false = ne_eqb (get_or s 6 0) 0 (λ q. omega arith) in
      let z : ltb (get_or s 7 0) tags ≡ false = le-ltb (get_or s 7 0) tags h in
      no_run (desk_in s) live run (rw (y, z))

  -- AIOU, SIOU and count of the live book
  pub aiou-out : 0 < get_or s 5 0 → 15 < get_or s 3 0 → desk_sound (desk_in s) live run ≡ false
  unfolding desk_in
  aiou-out k h = no-live (desk_in s) live run (aiou-over (get_or s 3 0) (get_or s 4 0) (get_or s 5 0) live h k)

  pub siou-out : 0 < get_or s 5 0 → 512 < get_or s 4 0 → desk_sound (desk_in s) live run ≡ false
  unfolding desk_in
  siou-out k h = no-live (desk_in s) live run (siou-over (get_or s 3 0) (get_or s 4 0) (get_or s 5 0) live h k)

  pub areas-out : most_areas < get_or s 5 0 → desk_sound (desk_in s) live run ≡ false
  unfolding desk_in
  areas-out h = no-live (desk_in s) live run (areas-over (get_or s 3 0) (get_or s 4 0) (get_or s 5 0) live h)

  -- and of the run's, if a run is open
  module _ (f : get_or s 6 0 ≡ 1) where
    no-open : sound (book_in (get_or s 8 0 ∷ get_or s 9 0 ∷ get_or s 10 0 ∷ [])) run ≡ false → desk_sound (desk_in s) live run ≡ false
    unfolding desk_in
    no-open e = no_run (desk_in s) live run (open-book (get_or s 6 0) (get_or s 7 0) (get_or s 8 0) (get_or s 9 0) (get_or s 10 0) run f e)

    pub run-aiou-out : 0 < get_or s 10 0 → 15 < get_or s 8 0 → desk_sound (desk_in s) live run ≡ false
    run-aiou-out k h = no-open (aiou-over (get_or s 8 0) (get_or s 9 0) (get_or s 10 0) run h k)

    pub run-siou-out : 0 < get_or s 10 0 → 512 < get_or s 9 0 → desk_sound (desk_in s) live run ≡ false
    run-siou-out k h = no-open (siou-over (get_or s 8 0) (get_or s 9 0) (get_or s 10 0) run h k)

    pub run-areas-out : most_areas < get_or s 10 0 → desk_sound (desk_in s) live run ≡ false
    run-areas-out h = no-open (areas-over (get_or s 8 0) (get_or s 9 0) (get_or s 10 0) run h)

-- ---- numbers that do not count

module _ (solution processor constellation : ℕ) where
  -- AIOU and SIOU of an empty book
  pub empty-book : (a x b y flag tag aiou siou-plus-one areas dated second : ℕ)
      → desk_in (solution ∷ processor ∷ constellation ∷ a ∷ x ∷ 0 ∷ flag ∷ tag ∷ aiou ∷ siou-plus-one ∷ areas ∷ dated ∷ second ∷ [])
      ≡ desk_in (solution ∷ processor ∷ constellation ∷ b ∷ y ∷ 0 ∷ flag ∷ tag ∷ aiou ∷ siou-plus-one ∷ areas ∷ dated ∷ second ∷ [])
  unfolding desk_in book_in
  empty-book a x b y flag tag aiou siou-plus-one areas dated second = refl

  pub empty-run-book : (aiou siou-plus-one areas flag tag a x b y dated second : ℕ)
      → desk_in (solution ∷ processor ∷ constellation ∷ aiou ∷ siou-plus-one ∷ areas ∷ flag ∷ tag ∷ a ∷ x ∷ 0 ∷ dated ∷ second ∷ [])
      ≡ desk_in (solution ∷ processor ∷ constellation ∷ aiou ∷ siou-plus-one ∷ areas ∷ flag ∷ tag ∷ b ∷ y ∷ 0 ∷ dated ∷ second ∷ [])
  unfolding desk_in run_in book_in
  empty-run-book aiou siou-plus-one areas flag tag a x b y dated second = refl

  -- tag and book of a closed run
  pub closed_run : (aiou siou-plus-one areas t a x n u b y m dated second : ℕ)
      → desk_in (solution ∷ processor ∷ constellation ∷ aiou ∷ siou-plus-one ∷ areas ∷ 0 ∷ t ∷ a ∷ x ∷ n ∷ dated ∷ second ∷ [])
      ≡ desk_in (solution ∷ processor ∷ constellation ∷ aiou ∷ siou-plus-one ∷ areas ∷ 0 ∷ u ∷ b ∷ y ∷ m ∷ dated ∷ second ∷ [])
  unfolding desk_in run_in
  closed_run aiou siou-plus-one areas t a x n u b y m dated second = refl

  -- the second of no accepted frame
  pub no_second : (aiou siou-plus-one areas flag tag a i n x y : ℕ)
      → desk_in (solution ∷ processor ∷ constellation ∷ aiou ∷ siou-plus-one ∷ areas ∷ flag ∷ tag ∷ a ∷ i ∷ n ∷ 0 ∷ x ∷ [])
      ≡ desk_in (solution ∷ processor ∷ constellation ∷ aiou ∷ siou-plus-one ∷ areas ∷ flag ∷ tag ∷ a ∷ i ∷ n ∷ 0 ∷ y ∷ [])
  unfolding desk_in last_in
  no_second aiou siou-plus-one areas flag tag a i n x y = refl

-- ---- a desk that is written and read again

constellation-back : (c : Constellation) → constellation_in (row_of c) ≡ c
unfolding constellation_in at_most
constellation-back Gps = refl
constellation-back Glonass = refl
constellation-back Galileo = refl
constellation-back BeiDou = refl
constellation-back Qzss = refl

solution-back : (solution : ℕ) (c : Constellation) (run : Run) (last : Last) → solution < 128 → solution_in solution (row_of c) (is_open run) (is_dated last) ≡ solution
unfolding solution_in
solution-back solution c run last h =
    let y : leb (row_of c) 4 ≡ true = le-leb _ _ (row c) in
    let z : leb (is_open run) 1 ≡ true = le-leb _ _ (flag run) in
    let x : leb (is_dated last) 1 ≡ true = le-leb _ _ (dated last) in
    rw (y, z, x) (most-under 128 solution h)
  where
    row : (c : Constellation) → row_of c ≤ 4
    row Gps = omega arith
    row Glonass = omega arith
    row Galileo = omega arith
    row BeiDou = omega arith
    row Qzss = omega arith

    flag : (run : Run) → is_open run ≤ 1
    flag None = omega arith
    flag (Some p) = omega arith

    dated : (last : Last) → is_dated last ≤ 1
    dated None = omega arith
    dated (Some second) = omega arith

last-back : (last : Last) → last_in (is_dated last) (second_of last) ≡ last
unfolding last_in
last-back None = refl
last-back (Some second) = refl

run-back : (run : Run) (bytes : List ℕ) → run_sound run bytes ≡ true
    → run_in (is_open run) (tag_of run) ((run_book run).aiou_plus_one - 1) (run_book run).siou_plus_one (run_book run).count ≡ run
unfolding run_in
run-back None bytes e = refl
run-back (Some p) bytes e = ap (λ (b : Book). Some (record { tag = p.tag; book = b })) (book-back p.book (sound-head p.book bytes (both_right (ltb p.tag tags) (sound p.book bytes) e)))

-- whatever lies behind the thirteen numbers
pub reads-back : (desk : Desk) (live run lent : List ℕ) → desk_sound desk live run ≡ true → desk_in (laid (desk_of desk) lent) ≡ desk
unfolding desk_in desk_of laid
reads-back desk live run lent e =
    let source = sound-source desk live run e in
    let a = solution-back desk.solution desk.constellation desk.run desk.last (ltb-true desk.solution 128 (both_left (ltb desk.solution 128) (ltb desk.processor 16) source)) in
    let b = most-under 16 desk.processor (ltb-true desk.processor 16 (both_right (ltb desk.solution 128) (ltb desk.processor 16) source)) in
    let c = constellation-back desk.constellation in
    let d = book-back desk.book (sound-head desk.book live (sound-live desk live run e)) in
    let f = run-back desk.run run (sound-run desk live run e) in
    rw (a, b, c, d, f, last-back desk.last)

-- ---- calls one after the other

module _ (s live run : List ℕ) where
  abbrev held : Desk → Held
  held desk = record { desk = desk; live = live; run = run }

  -- by the desk that handles what is given; a refusal is by the desk that the numbers say
  next-by : (desk : Desk) (v : Verdict) → Fits desk live run v → ((why : Fault) → v ≡ refused why → desk ≡ desk_in s)
      → desk_in (laid (told_taken (taken_by desk live run v)).numbers s) ≡ desk_by desk v
  unfolding told_taken told_said laid
  next-by desk (refused why) f q = sym (q why refl)
  next-by desk (defines book bytes) (new-areas r w) q =
      reads-back (desk_by desk (defines book bytes)) bytes run s (sound-by (held desk) r.state (defines book bytes) (new-areas r w))
  next-by desk (continues book message) (same-run r e) q =
      reads-back (desk_by desk (continues book message)) live run s (sound-by (held desk) r.state (continues book message) (same-run r e))
  next-by desk (opens tag message) (new-run r t) q =
      reads-back (desk_by desk (opens tag message)) live (copied desk.book live run) s (sound-by (held desk) r.state (opens tag message) (new-run r t))

-- The next call reads the desk that `desk::take` answered, refused frames included: step by step, calls in a row are calls of `desk` in a row.
pub next-desk : (frame : List ℕ) (second : ℕ) (desk live run log : List ℕ)
    → desk_in (laid (told_taken (take_of frame second desk live run log)).numbers desk) ≡ (take_of frame second desk live run log).desk
unfolding take_of frame_taken
next-desk frame second desk live run log =
    let given : Given = frame_with frame second log in
    let start : Held = held desk live run (desk_in desk) in
    next-by desk live run (handled start given).desk (verdict_on start given) (fits_on start given) (λ why e. ap (leaving (desk_in desk) second) e)

-- the desk's numbers are told of a book as of a frame
numbers-alike : (s : Said) (desk : Desk) → (told_said s desk).numbers ≡ (told_book_said s desk).numbers
unfolding told_said told_book_said
numbers-alike (Ok log) desk = refl
numbers-alike (Err fault) desk = refl

book-told : (t : Taken) → (told_taken t).numbers ≡ (told_book_taken t).numbers
unfolding told_taken told_book_taken
book-told t = numbers-alike t.said t.desk

-- and the one that `desk::take_book` answered
pub next-desk-book : (desk live run book bytes : List ℕ) → desk_in (laid (told_book_taken (take_book_of desk live run book bytes)).numbers desk) ≡ (take_book_of desk live run book bytes).desk
unfolding take_book_of book_taken
next-desk-book desk live run book bytes =
    let given : Given = kept_book (book_in book) bytes in
    let start : Held = held desk live run (desk_in desk) in
    ap (λ l. desk_in (laid l desk)) (sym (book-told (take_book_of desk live run book bytes)))
    ∙ next-by desk live run (desk_in desk) (verdict_on start given) (fits_on start given) (λ why e. refl)
