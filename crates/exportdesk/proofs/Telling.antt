-- Laws: what is told of an answer of `desk`, worded as the code makes it.
use mathlib.Core.Path.{◌≡◌, sym, ap, ap₂, ◌∙◌}
use mathlib.Core.Bool.{Bool, true, false, cond}
use mathlib.Core.List.{List}
use Prim.Native.Nat.{ℕ, ◌≤◌, ◌<◌}
use lib.ListN.{length}
use Rattle.sizes.specs.Sizes.{book_bytes}
use Rattle.book.specs.declared.Book.{Book}
use Rattle.desk.specs.Desk.{desk_sound}
use Rattle.desk.specs.Take.{hands, results, frame_taken, hands_book, results_book, book_taken}
use Rattle.desk.specs.declared.Desk.{Desk}
use Rattle.desk.specs.Results.{Said}
use Rattle.desk.specs.declared.Taken.{Taken}
use Rattle.export.specs.Numbers.{laid}
use Rattle.export.specs.Books.{book_in}
use Rattle.export.proofs.Laws.{short-is, enough-is}
use Rattle.exportdesk.specs.States.{desk_room, desk_in}
use Rattle.exportdesk.specs.Desks.{sound_of, told_said, told_taken, told_book_said, told_book_taken, take_of, take_live, take_run, take_log, take_book_of, take_book_live}

-- ---- whether a desk is sound

module _ (desk live run : List ℕ) where
  pub sound-no-desk : length desk < desk_room → 9 ≡ sound_of desk live run
  unfolding sound_of
  sound-no-desk h = short-is _ _ _ _ h

  pub sound-no-live : desk_room ≤ length desk → length live < book_bytes → 9 ≡ sound_of desk live run
  unfolding sound_of
  sound-no-live g h = enough-is _ _ _ _ _ g (short-is _ _ _ _ h)

  pub sound-no-run : desk_room ≤ length desk → book_bytes ≤ length live → length run < book_bytes → 9 ≡ sound_of desk live run
  unfolding sound_of
  sound-no-run f g h = enough-is _ _ _ _ _ f (enough-is _ _ _ _ _ g (short-is _ _ _ _ h))

  module _ (f : desk_room ≤ length desk) (g : book_bytes ≤ length live) (h : book_bytes ≤ length run) (d : Desk) (e : d ≡ desk_in desk) (b : Bool) (p : b ≡ desk_sound d live run) where
    whole : (r : ℕ) → r ≡ cond (desk_sound (desk_in desk) live run) 0 17 → r ≡ sound_of desk live run
    unfolding sound_of
    whole r q = enough-is _ _ _ _ _ f (enough-is _ _ _ _ _ g (enough-is _ _ _ _ _ h q))

    same : b ≡ desk_sound (desk_in desk) live run
    same = p ∙ ap (λ (d : Desk). desk_sound d live run) e

    pub sound-is : b ≡ true → 0 ≡ sound_of desk live run
    sound-is q = whole 0 (rw (sym same, q))

    pub sound-not : b ≡ false → 17 ≡ sound_of desk live run
    sound-not q = whole 17 (rw (sym same, q))

-- ---- a frame or a book taken

-- what is told, where the answer says s
module _ (a : Taken) (s : Said) (e : a.said ≡ s) where
  pub said-number : (n : ℕ) → n ≡ (told_said s a.desk).number → n ≡ (told_taken a).number
  unfolding told_taken
  said-number n p = rw e p

  pub said-numbers : (lent now : List ℕ) → now ≡ laid (told_said s a.desk).numbers lent → now ≡ laid (told_taken a).numbers lent
  unfolding told_taken
  said-numbers lent now p = rw e p

  pub book-number : (n : ℕ) → n ≡ (told_book_said s a.desk).number → n ≡ (told_book_taken a).number
  unfolding told_book_taken
  book-number n p = rw e p

  pub book-numbers : (lent now : List ℕ) → now ≡ laid (told_book_said s a.desk).numbers lent → now ≡ laid (told_book_taken a).numbers lent
  unfolding told_book_taken
  book-numbers lent now p = rw e p

module _ (d : Desk) (desk : List ℕ) (e : d ≡ desk_in desk) (live run : List ℕ) where
  module _ (frame : List ℕ) (second : ℕ) (log : List ℕ) (a : Taken) (live' run' log' : List ℕ)
      (p : results a live' run' log' ≡ frame_taken (hands d frame second live run log)) where
    all_of : results a live' run' log' ≡ frame_taken (hands (desk_in desk) frame second live run log)
    all_of = p ∙ ap (λ (x : Desk). frame_taken (hands x frame second live run log)) e

    pub take-of : a ≡ take_of frame second desk live run log
    unfolding take_of
    take-of = ap (λ r. r.answer) all_of

    pub take-live : live' ≡ take_live frame second desk live run log
    unfolding take_live
    take-live = ap (λ r. r.live) all_of

    pub take-run : run' ≡ take_run frame second desk live run log
    unfolding take_run
    take-run = ap (λ r. r.run) all_of

    pub take-log : log' ≡ take_log frame second desk live run log
    unfolding take_log
    take-log = ap (λ r. r.log) all_of

  module _ (b : Book) (book bytes : List ℕ) (f : b ≡ book_in book) (a : Taken) (live' : List ℕ)
      (p : results_book a live' ≡ book_taken (hands_book d b bytes live run)) where
    all-of-book : results_book a live' ≡ book_taken (hands_book (desk_in desk) (book_in book) bytes live run)
    all-of-book = p ∙ ap₂ (λ (x : Desk) (y : Book). book_taken (hands_book x y bytes live run)) e f

    pub take-book-of : a ≡ take_book_of desk live run book bytes
    unfolding take_book_of
    take-book-of = ap (λ r. r.answer) all-of-book

    pub take-book-live : live' ≡ take_book_live desk live run book bytes
    unfolding take_book_live
    take-book-live = ap (λ r. r.live) all-of-book
