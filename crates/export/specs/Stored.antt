-- Serves proofs, and is proved: numbers that are stored where there is room for them.
use Rattle.std.specs.Prelude.{◌≡◌, List, ℕ, ◌≤◌, ◌<◌, length}
use Rattle.std.proofs.Common.{sym, ◌∙◌, lt-ltb, le-ltb}
use Rattle.std.proofs.Math.Path.{ap}
use Rattle.std.proofs.Math.Bool.{cond}
use Rattle.frame.specs.declared.Frame.{Frame}
use Rattle.stream.specs.declared.Tray.{Tray}
use Rattle.book.specs.declared.Book.{Book}
use Rattle.export.specs.Numbers.{room_for, laid, stored}
use Rattle.export.specs.Frames.{header_room, header_of}
use Rattle.export.specs.Streams.{tray_room, tray_of}
use Rattle.export.specs.Books.{book_room, book_of}

module _ {A : Type 0} (numbers lent : List A) where
  pub stored-none : length lent < length numbers → lent ≡ stored numbers lent
  unfolding stored room_for
  stored-none h = ap (λ b. cond b lent (laid numbers lent)) (sym (lt-ltb (length lent) (length numbers) h))

  pub stored-all : (now : List A) → length numbers ≤ length lent → now ≡ laid numbers lent → now ≡ stored numbers lent
  unfolding stored room_for
  stored-all now h e = e ∙ ap (λ b. cond b lent (laid numbers lent)) (sym (le-ltb (length lent) (length numbers) h))

  pub stored_there : (now : List A) → now ≡ stored numbers lent → length numbers ≤ length lent → now ≡ laid numbers lent
  unfolding stored room_for
  stored_there now e h = e ∙ ap (λ b. cond b lent (laid numbers lent)) (le-ltb (length lent) (length numbers) h)

pub stored-as : {A : Type 0} (xs ys lent now : List A) → now ≡ stored xs lent → xs ≡ ys → now ≡ stored ys lent
stored-as xs ys lent now p e = p ∙ ap (λ l. stored l lent) e

-- the numbers that the code has, one by one, where there is room for those that are meant
pub laid-there : {A : Type 0} (xs ys lent now : List A) → now ≡ stored xs lent → xs ≡ ys → length ys ≤ length lent → now ≡ laid ys lent
laid-there xs ys lent now p e h = stored_there ys lent now (stored-as xs ys lent now p e) h

-- a tray, a header and a book, where the slice has room

pub tray-there : (held : Tray) (lent now : List ℕ) → tray_room ≤ length lent → now ≡ stored (tray_of held) lent → now ≡ laid (tray_of held) lent
unfolding tray_of
tray-there held lent now h e = stored_there (tray_of held) lent now e h

pub header-there : (frame : Frame) (lent now : List ℕ) → header_room ≤ length lent → now ≡ stored (header_of frame) lent → now ≡ laid (header_of frame) lent
unfolding header_of
header-there frame lent now h e = stored_there (header_of frame) lent now e h

pub book-there : (held : Book) (lent now : List ℕ) → book_room ≤ length lent → now ≡ stored (book_of held) lent → now ≡ laid (book_of held) lent
unfolding book_of
book-there held lent now h e = stored_there (book_of held) lent now e h
