-- Laws: a book and a tray taken out of numbers and put back, and what is told of a stream's answer, worded as the code makes them.
use mathlib.Core.Path.{◌≡◌, sym, ap, ◌∙◌}
use mathlib.Core.Bool.{true, false}
use mathlib.Core.List.{List}
use Prim.Native.Nat.{ℕ, ◌+◌, ◌≤◌, ◌<◌, min}
use lib.Dec.{eqb}
use lib.ListN.{length, get_or}
use borrow.Author.Tests.{eq-eqb, ne_eqb}
use Rattle.sizes.specs.Sizes.{most_noise}
use Rattle.stream.specs.declared.Said.{Said}
use Rattle.stream.specs.declared.Answer.{Answer}
use Rattle.book.specs.declared.Book.{Book}
use Rattle.book.specs.Book.{no_book, book_of as book_with}
use Rattle.export.specs.Numbers.{laid, at_most}
use Rattle.export.specs.Frames.{header_room}
use Rattle.export.specs.Streams.{tray_room, told_room, rooms, tray_in, told_said, told_answer, tray_said, tray_told, header_said, header_told}
use Rattle.export.specs.Books.{book_in}
use Rattle.export.proofs.Laws.{most-is, short-is, enough-is}

-- ---- a book as numbers

pub aiou-is : (x m : ℕ) → m ≡ min x 16 → m + 1 ≡ at_most 16 x + 1
aiou-is x m e = ap (λ y. y + 1) (most-is 16 x m e)

module _ (s : List ℕ) where
  pub book-empty : (b : Book) (n : ℕ) → n ≡ get_or s 2 0 → n ≡ 0 → b ≡ no_book → b ≡ book_in s
  unfolding book_in
  book-empty b n m h e = let z : eqb (get_or s 2 0) 0 ≡ true = eq-eqb _ _ (sym m ∙ h) in rw z e

  pub book-areas : (b : Book) (x y a i n : ℕ) → n ≡ get_or s 2 0 → (n ≡ 0 → ⊥) → a ≡ get_or s 0 0 → x ≡ at_most 16 a + 1 → i ≡ get_or s 1 0 → y ≡ at_most 513 i
      → b ≡ book_with x y n → b ≡ book_in s
  unfolding book_in
  book-areas b x y a i n m h l p k o e =
      let u : eqb (get_or s 2 0) 0 ≡ false = ne_eqb _ _ (λ w. h (m ∙ w)) in
      let v : b ≡ book_with (at_most 16 (get_or s 0 0) + 1) (at_most 513 (get_or s 1 0)) (get_or s 2 0) = cc in
      rw u v

-- ---- a tray as numbers

pub tray-in : (s : List ℕ) (a b n z : ℕ) → a ≡ get_or s 0 0 → b ≡ get_or s 1 0 → n ≡ get_or s 2 0 → z ≡ at_most most_noise n → record { held = a; shown = b; noise = z } ≡ tray_in s
unfolding tray_in
tray-in s a b n z e f g r = cc

-- ---- three slices that have room, and one that has not

module _ {A : Type 0} (tray told header : List ℕ) (a b : A) where
  pub no-tray : length tray < tray_room → a ≡ rooms tray told header a b
  unfolding rooms
  no-tray h = short-is _ _ _ _ h

  pub no-told : tray_room ≤ length tray → length told < told_room → a ≡ rooms tray told header a b
  unfolding rooms
  no-told g h = enough-is _ _ _ _ _ g (short-is _ _ _ _ h)

  pub no_header : tray_room ≤ length tray → told_room ≤ length told → length header < header_room → a ≡ rooms tray told header a b
  unfolding rooms
  no_header f g h = enough-is _ _ _ _ _ f (enough-is _ _ _ _ _ g (short-is _ _ _ _ h))

  pub rooms-are : (r : A) → tray_room ≤ length tray → told_room ≤ length told → header_room ≤ length header → r ≡ b → r ≡ rooms tray told header a b
  unfolding rooms
  rooms-are r f g h e = enough-is _ _ _ _ _ f (enough-is _ _ _ _ _ g (enough-is _ _ _ _ _ h e))

-- ---- what is told of a stream's answer, where it says s

module _ (a : Answer) (s : Said) (e : a.said ≡ s) where
  pub said-number : (n : ℕ) → n ≡ (told_said s a.used).number → n ≡ (told_answer a).number
  unfolding told_answer
  said-number n p = rw e p

  pub said-tray : (lent now : List ℕ) → now ≡ laid (tray_said s a.tray) lent → now ≡ laid (tray_told a) lent
  unfolding tray_told
  said-tray lent now p = rw e p

  pub said-told : (lent now : List ℕ) → now ≡ laid (told_said s a.used).numbers lent → now ≡ laid (told_answer a).numbers lent
  unfolding told_answer
  said-told lent now p = rw e p

  pub said-header : (lent now : List ℕ) → now ≡ laid (header_said s) lent → now ≡ laid (header_told a) lent
  unfolding header_told
  said-header lent now p = rw e p
