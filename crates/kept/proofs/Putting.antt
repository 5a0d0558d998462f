-- One lemma for each turn and each answer of the functions that write, in plain variables, premises worded as the code makes them. Assumes nothing.
use Rattle.std.specs.Prelude.{Ok, Err}
use mathlib.Core.Path.{◌≡◌, refl, ap, ap₂, sym, ◌∙◌, subst}
use mathlib.Core.Bool.{Bool, true, false, not}
use mathlib.Core.List.{List, [], ◌∷◌, ◌++◌, append_assoc, append-nil}
use Prim.Native.Nat.{ℕ, ◌+◌, ◌-◌, ◌*◌, ◌/◌, ◌^◌, ◌≤◌, ◌<◌}
use native.Mathlib.Omega.{arith}
use native.Mathlib.Numerals.{add-one}
use lib.Dec.{ltb}
use lib.ListN.{length, get_or, take, drop, length-append, length-drop, take-append-drop}
use lib.Seq.{take_all, length-take-le, take-suc}
use borrow.Author.Tests.{lt-ltb, le-ltb, not-true, not-false}
use mir.Syntax.{w8}
use mir.Val.{Fits}
use Rattle.answer.specs.declared.Refusal.TheVariants.{Room, State}
use Rattle.sizes.specs.Sizes.{most_areas, book_bytes, kept_room}
use Rattle.area.specs.Area.{number_at}
use Rattle.book.specs.Book.{areas_in, head_sound, sound}
use Rattle.book.specs.Laws.{head-parts, siou-most, sound-head, length-areas, small_at, areas-at}
use Rattle.book.proofs.Reading.{number-there, sound-count, sound-image}
use Rattle.book.specs.Judge.{Image}
use Rattle.book.specs.declared.Book.{Book}
use Rattle.groups.specs.Groups.{groups_of, groups_of_all, bytes_put, put_into}
use Rattle.groups.proofs.Behind.{room-behind, lay-behind, lay-on, lay-to}
use Rattle.groups.specs.Laws.{groups-all-append, length-le, length_last, put_some, left-some}
use Rattle.kept.specs.Walk.{issue_bytes, head_bytes}
use Rattle.kept.specs.Kept.{newest_form, numbers_in, kept_bytes, written, out_after}

-- a number put behind at bytes
module _ (x at : ℕ) (out : List ℕ) (h : at + length (groups_of x) ≤ length out) where
  number-room : length (groups_of x) ≤ length (take (length out - at) (drop at out))
  number-room = room-behind at out (groups_of x) h

  module _ (r : ℕ) (put : r ≡ bytes_put (groups_of x) (take (length out - at) (drop at out))) where
    count : r ≡ length (groups_of x)
    count = put ∙ put_some (groups_of x) (take (length out - at) (drop at out)) number-room

    pub number_fits : length out < 2 ^ 64 → at + r < 2 ^ 64
    number_fits k = omega (arith, count)

    pub number-ends : at + r ≡ at + length (groups_of x)
    number-ends = omega (arith, count)

    pub number-laid : (part : List ℕ) → part ≡ put_into (groups_of x) (take (length out - at) (drop at out))
        → take at out ++ (part ++ drop (length out - at) (drop at out)) ≡ take at out ++ (groups_of x ++ drop (at + r) out)
    number-laid part ep =
        lay-behind at r out (groups_of x) part h count
        (ep ∙ left-some (groups_of x) (take (length out - at) (drop at out)) number-room
        ∙ ap (λ k. groups_of x ++ drop k (take (length out - at) (drop at out))) (sym count))

-- the areas before the i-th are laid behind at bytes
pub record Laying (out₀ l : List ℕ) (at n i e : ℕ) (out : List ℕ) : Type 0 where
  pub inside : i ≤ n
  pub room : at + 7 * n ≤ length out₀
  pub ends : length (take at out₀ ++ groups_of_all (take i l)) ≡ e
  pub near : e ≤ at + 7 * i
  pub laid : out ≡ (take at out₀ ++ groups_of_all (take i l)) ++ drop e out₀

pub lay-start : (out : List ℕ) (s : List ℕ) (at n : ℕ) → at + 7 * n ≤ length out → Laying out (areas_in n s) at n 0 at out
unfolding groups_of_all
lay-start out s at n h =
    record {
      inside = omega arith;
      room = h;
      ends = ap length (append-nil (take at out)) ∙ length-take-le at out (omega arith);
      near = omega arith;
      laid = sym (ap (λ l. l ++ drop at out) (append-nil (take at out)) ∙ take-append-drop at out);
    }

module _ (out₀ s : List ℕ) (at n i e : ℕ) (out : List ℕ) (q : Laying out₀ (areas_in n s) at n i e out) where
  pub lay-length : length out ≡ length out₀
  lay-length =
      ap length q.laid ∙ length-append (take at out₀ ++ groups_of_all (take i (areas_in n s))) (drop e out₀)
      ∙ omega (arith, q.ends, q.near, q.inside, q.room, length-drop e out₀)

  module _ (h : n ≤ i) where
    lay-all : take i (areas_in n s) ≡ areas_in n s
    lay-all = take_all i (areas_in n s) (omega (arith, length-areas n s))

    pub lay-count : e ≡ at + length (groups_of_all (areas_in n s))
    lay-count =
        sym q.ends ∙ length-append (take at out₀) (groups_of_all (take i (areas_in n s)))
        ∙ ap₂ (λ x y. x + y) (length-take-le at out₀ (omega (arith, q.room))) (ap (λ l. length (groups_of_all l)) lay-all)

    pub lay-end : out ≡ take at out₀ ++ (groups_of_all (areas_in n s) ++ drop e out₀)
    lay-end =
        q.laid ∙ append_assoc (take at out₀) _ (drop e out₀)
        ∙ ap (λ l. take at out₀ ++ (groups_of_all l ++ drop e out₀)) lay-all

  module _ (image : Image n s) (fits : 6 * n ≤ length s) (h : i < n) (x : ℕ) (ex : x ≡ number_at s (6 * i)) where
    area-is : x / 2 ≡ get_or (areas_in n s) i 0
    area-is = ap (λ x. x / 2) (number-there s n i x h fits ex) ∙ sym (areas-at n i s h)

    pub area-seven : length (groups_of (x / 2)) ≤ 7
    area-seven =
        let k : x / 2 < 2 ^ 47 = subst (λ x. x < 2 ^ 47) (sym area-is) (small_at (areas_in n s) 0 i image.ascending (omega (arith, length-areas n s))) in
        length-le 6 (x / 2) (omega arith)

    pub lay-room : e + length (groups_of (x / 2)) ≤ length out
    lay-room = omega (arith, area-seven, lay-length, q.near, q.room)

    pub lay-turn : (r : ℕ) (new : List ℕ) → r ≡ e + length (groups_of (x / 2)) → new ≡ take e out ++ (groups_of (x / 2) ++ drop r out) → Laying out₀ (areas_in n s) at n (i + 1) r new
    unfolding groups_of_all
    lay-turn r new er en =
        let l : List ℕ = areas_in n s in
        let p : List ℕ = take at out₀ ++ groups_of_all (take i l) in
        let more : groups_of_all (take (i + 1) l) ≡ groups_of_all (take i l) ++ groups_of (x / 2)
        = ap (λ k. groups_of_all (take k l)) (add-one i) ∙ ap groups_of_all (take-suc l i 0 (omega (arith, length-areas n s))) ∙ groups-all-append (take i l) (get_or l i 0 ∷ [])
        ∙ ap (λ z. groups_of_all (take i l) ++ z) (append-nil (groups_of (get_or l i 0)) ∙ ap groups_of (sym area-is)) in
        let join : p ++ groups_of (x / 2) ≡ take at out₀ ++ groups_of_all (take (i + 1) l)
        = append_assoc (take at out₀) (groups_of_all (take i l)) (groups_of (x / 2)) ∙ ap (λ z. take at out₀ ++ z) (sym more) in
        record {
          inside = omega arith;
          room = q.room;
          ends = ap length (sym join) ∙ length-append p (groups_of (x / 2)) ∙ ap (λ k. k + length (groups_of (x / 2))) q.ends ∙ sym er;
          near = omega (arith, area-seven, q.near);
          laid = lay-on out₀ out p (groups_of (x / 2)) new e q.laid q.ends (en ∙ ap (λ k. take e out ++ (groups_of (x / 2) ++ drop k out)) er)
              ∙ ap₂ (λ z k. z ++ drop k out₀) join (sym er);
        }

-- ---- the whole book

module _ (book : Book) (s out : List ℕ) where
  module _ (h : length s < book_bytes) where
    no-book : ltb (length s) book_bytes ≡ true
    no-book = lt-ltb _ _ h

    pub write-no-book : Err Room ≡ written book s out
    unfolding written
    write-no-book = rw no-book

    pub left-no-book : out ≡ out_after book s out
    unfolding out_after
    left-no-book = rw no-book

  module _ (h : book_bytes ≤ length s) where
    has-book : ltb (length s) book_bytes ≡ false
    has-book = le-ltb _ _ h

    module _ (k : length out < kept_room) where
      no_room : ltb (length out) kept_room ≡ true
      no_room = lt-ltb _ _ k

      pub write-no-room : Err Room ≡ written book s out
      unfolding written
      write-no-room = rw (has-book, no_room)

      pub left-no-room : out ≡ out_after book s out
      unfolding out_after
      left-no-room = rw (has-book, no_room)

    module _ (k : kept_room ≤ length out) (b : Bool) (eb : b ≡ sound book s) where
      has_room : ltb (length out) kept_room ≡ false
      has_room = le-ltb _ _ k

      module _ (l : not b ≡ true) where
        unsound : sound book s ≡ false
        unsound = sym eb ∙ not-true b l

        pub write-state : Err State ≡ written book s out
        unfolding written
        write-state = rw (has-book, has_room, unsound)

        pub left-state : out ≡ out_after book s out
        unfolding out_after
        left-state = rw (has-book, has_room, unsound)

      module _ (l : not b ≡ false) where
        is-sound : sound book s ≡ true
        is-sound = sym eb ∙ not-false b l

        module _ (e₃ e₄ : ℕ) (q₃ : e₃ ≡ length (head_bytes book)) (q₄ : e₄ ≡ e₃ + length (groups_of_all (areas_in book.count s))) where
          kept-is : head_bytes book ++ groups_of_all (areas_in book.count s) ≡ kept_bytes book s
          unfolding numbers_in
          kept-is = sym (groups-all-append (newest_form ∷ book.aiou_plus_one ∷ book.siou_plus_one ∷ book.count ∷ []) (areas_in book.count s))

          kept-ends : e₄ ≡ length (kept_bytes book s)
          kept-ends =
              q₄ ∙ ap (λ k. k + length (groups_of_all (areas_in book.count s))) q₃
              ∙ sym (length-append (head_bytes book) (groups_of_all (areas_in book.count s))) ∙ ap length kept-is

          pub write-book : Ok e₄ ≡ written book s out
          unfolding written
          write-book = rw (has-book, has_room, is-sound) (ap Ok kept-ends)

          pub left-book : (o₃ o₄ : List ℕ) → o₃ ≡ head_bytes book ++ drop e₃ out
              → o₄ ≡ take e₃ o₃ ++ (groups_of_all (areas_in book.count s) ++ drop e₄ o₃) → o₄ ≡ out_after book s out
          unfolding out_after
          left-book o₃ o₄ r₃ r₄ =
              rw (has-book, has_room, is-sound)
              (lay-to out o₃ (head_bytes book) (groups_of_all (areas_in book.count s)) o₄ e₃ e₄ r₃ (sym q₃) q₄ r₄
              ∙ ap₂ (λ p k. p ++ drop k out) kept-is kept-ends)

module _ (book : Book) (s : List ℕ) (b : Bool) (eb : b ≡ sound book s) (l : not b ≡ false) where
  pub book-head : head_sound book ≡ true
  book-head = sound-head book s (sym eb ∙ not-false b l)

  pub book-count : book.count ≤ most_areas
  book-count = sound-count book s (sym eb ∙ not-false b l)

  pub book-fits : book_bytes ≤ length s → 6 * book.count ≤ length s
  book-fits h = omega (arith, book-count)

  pub book-image : ((i : ℕ) → Fits w8 (get_or s i 0)) → Image book.count s
  book-image known = sound-image book s (sym eb ∙ not-false b l) (record { byte = λ i. (known i).fits })

  pub book-room : (e : ℕ) (out o : List ℕ) → e ≤ 5 → length o ≡ length out → kept_room ≤ length out → e + 7 * book.count ≤ length o
  book-room e out o h n k = omega (arith, book-count)

-- ---- the numbers before the areas

-- numbers laid one behind the other from the start
record Laid (out numbers : List ℕ) (e : ℕ) (o : List ℕ) : Type 0 where
  ends : length (groups_of_all numbers) ≡ e
  is : o ≡ groups_of_all numbers ++ drop e out

laid_none : (out : List ℕ) → Laid out [] 0 out
unfolding groups_of_all
laid_none out = record { ends = refl; is = refl }

laid_more : (out numbers o new : List ℕ) (e f x : ℕ) → Laid out numbers e o → f ≡ e + length (groups_of x) → new ≡ take e o ++ (groups_of x ++ drop f o) → Laid out (numbers ++ (x ∷ [])) f new
unfolding groups_of_all
laid_more out numbers o new e f x p q n =
    let all : groups_of_all numbers ++ groups_of x ≡ groups_of_all (numbers ++ (x ∷ []))
    = ap (λ g. groups_of_all numbers ++ g) (sym (append-nil (groups_of x))) ∙ sym (groups-all-append numbers (x ∷ [])) in
    record {
      ends = ap length (sym all) ∙ length-append (groups_of_all numbers) (groups_of x) ∙ ap (λ k. k + length (groups_of x)) p.ends ∙ sym q;
      is = lay-to out o (groups_of_all numbers) (groups_of x) new e f p.is p.ends q n ∙ ap (λ l. l ++ drop f out) all;
    }

-- The form number and AIOU + 1 take one group of seven bits, and SIOU + 1 two at most.
pub room-form : (out : List ℕ) → 4 ≤ length out → 0 + length (groups_of newest_form) ≤ length out
room-form out k = omega (arith, length_last newest_form (omega arith))

module _ (book : Book) (h : head_sound book ≡ true) (e₁ : ℕ) (q₁ : e₁ ≡ 0 + length (groups_of newest_form)) where
  form-one : e₁ ≡ 1
  form-one = omega (arith, length_last newest_form (omega arith))

  aiou-one : length (groups_of book.aiou_plus_one) ≡ 1
  aiou-one = length_last book.aiou_plus_one (omega (arith, (head-parts book h).0))

  pub room-aiou : (o₁ out : List ℕ) → length o₁ ≡ length out → 4 ≤ length out → e₁ + length (groups_of book.aiou_plus_one) ≤ length o₁
  room-aiou o₁ out n k = omega (arith, form-one, aiou-one)

  module _ (e₂ : ℕ) (q₂ : e₂ ≡ e₁ + length (groups_of book.aiou_plus_one)) where
    siou-two : length (groups_of book.siou_plus_one) ≤ 2
    siou-two = length-le 1 book.siou_plus_one (omega (arith, siou-most book.aiou_plus_one book.siou_plus_one (head-parts book h).2))

    pub room-siou : (o₁ o₂ out : List ℕ) → length o₂ ≡ length o₁ → length o₁ ≡ length out → 4 ≤ length out → e₂ + length (groups_of book.siou_plus_one) ≤ length o₂
    room-siou o₁ o₂ out m n k = omega (arith, form-one, aiou-one, siou-two)

    module _ (e₃ : ℕ) (q₃ : e₃ ≡ e₂ + length (groups_of book.siou_plus_one)) where
      pub issues-four : e₃ ≤ 4
      issues-four = omega (arith, form-one, aiou-one, siou-two)

      module _ (out o₁ o₂ o₃ : List ℕ) (r₁ : o₁ ≡ take 0 out ++ (groups_of newest_form ++ drop e₁ out)) (r₂ : o₂ ≡ take e₁ o₁ ++ (groups_of book.aiou_plus_one ++ drop e₂ o₁))
          (r₃ : o₃ ≡ take e₂ o₂ ++ (groups_of book.siou_plus_one ++ drop e₃ o₂)) where
        all_laid : Laid out (newest_form ∷ book.aiou_plus_one ∷ book.siou_plus_one ∷ []) e₃ o₃
        all_laid =
            let p₁ : Laid out (newest_form ∷ []) e₁ o₁ = laid_more out [] out o₁ 0 e₁ newest_form (laid_none out) q₁ r₁ in
            let p₂ : Laid out (newest_form ∷ book.aiou_plus_one ∷ []) e₂ o₂ = laid_more out (newest_form ∷ []) o₁ o₂ e₁ e₂ book.aiou_plus_one p₁ q₂ r₂ in
            laid_more out (newest_form ∷ book.aiou_plus_one ∷ []) o₂ o₃ e₂ e₃ book.siou_plus_one p₂ q₃ r₃

        pub issues-end : e₃ ≡ length (issue_bytes book)
        issues-end = sym all_laid.ends

        pub issues-laid : o₃ ≡ issue_bytes book ++ drop e₃ out
        issues-laid = all_laid.is

-- The count takes one group, since a book holds fewer than 128 areas.
module _ (book : Book) (h : head_sound book ≡ true) (e₃ : ℕ) (k : e₃ ≤ 4) where
  count-one : length (groups_of book.count) ≡ 1
  count-one = length_last book.count (omega (arith, (head-parts book h).1))

  pub room-count : (o₃ out : List ℕ) → length o₃ ≡ length out → 5 ≤ length out → e₃ + length (groups_of book.count) ≤ length o₃
  room-count o₃ out n l = omega (arith, count-one)

  module _ (e₄ : ℕ) (q₄ : e₄ ≡ e₃ + length (groups_of book.count)) where
    pub head-five : e₄ ≤ 5
    head-five = omega (arith, count-one)

    module _ (q₃ : e₃ ≡ length (issue_bytes book)) (out o₃ o₄ : List ℕ) (r₃ : o₃ ≡ issue_bytes book ++ drop e₃ out) (r₄ : o₄ ≡ take e₃ o₃ ++ (groups_of book.count ++ drop e₄ o₃)) where
      with-count : Laid out (newest_form ∷ book.aiou_plus_one ∷ book.siou_plus_one ∷ book.count ∷ []) e₄ o₄
      with-count =
          laid_more out (newest_form ∷ book.aiou_plus_one ∷ book.siou_plus_one ∷ []) o₃ o₄ e₃ e₄ book.count (record { ends = sym q₃; is = r₃ }) q₄ r₄

      pub head-ends : e₄ ≡ length (head_bytes book)
      head-ends = sym with-count.ends

      pub head-laid : o₄ ≡ head_bytes book ++ drop e₄ out
      head-laid = with-count.is
