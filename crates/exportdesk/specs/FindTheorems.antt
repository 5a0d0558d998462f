-- Theorems on looking an area up: six bytes are found, or none. Proved; assumes nothing.
use Rattle.std.specs.Prelude.{◌≡◌, refl, Bool, cond, not, ◌||◌, List, [], ℕ, ◌*◌, length, take, drop, Some, None}
use Rattle.std.proofs.Common.{sym}
use Rattle.std.proofs.Math.Path.{subst}
use Rattle.std.proofs.Math.Bool.{true, false}
use Rattle.std.proofs.Math.Dec.{ltb}
use Rattle.bits.specs.Bits.{Bytes}
use Rattle.area.specs.declared.AreaId.{AreaId}
use Rattle.sizes.specs.Sizes.{book_bytes}
use Rattle.book.specs.Book.{areas_in, sound, place_of, is_held, found}
use Rattle.book.specs.Take.{lookup}
use Rattle.book.specs.FindLaws.{bytes_of_found, found-is}
use Rattle.book.specs.declared.Book.{Book}
use Rattle.book.specs.Results.{Found}
use Rattle.desk.specs.Desk.{desk_sound}
use Rattle.desk.specs.Lookup.{in_live, in_run, nowhere, by_run, spot_of, bytes_at}
use Rattle.desk.specs.declared.Desk.{Desk}
use Rattle.desk.specs.Results.{Run}
use Rattle.export.specs.Numbers.{room_for}
use Rattle.export.specs.Books.{book_room, book_in}
use Rattle.exportdesk.specs.States.{desk_room, desk_in}
use Rattle.exportdesk.specs.Finds.{desk_found, book_found}

pub data SixOrNone : List ℕ → Type 0 where
  six : {l : List ℕ} → length l ≡ 6 → SixOrNone l
  none : SixOrNone []

unsound-none : (book : Book) (s : List ℕ) (id : AreaId) → sound book s ≡ false → found book s id ≡ []
unfolding found
unsound-none book s id e = rw e

found-six : (book : Book) (s : List ℕ) (id : AreaId) → Bytes s → SixOrNone (found book s id)
found-six book s id b = go (sound book s) refl
  where
    by : (f : Found) → SixOrNone (bytes_of_found f)
    by (Some a) = six refl
    by None = none

    go : (w : Bool) → sound book s ≡ w → SixOrNone (found book s id)
    go true e = subst SixOrNone (sym (found-is book s e b id)) (by (lookup id.0 (areas_in book.count s)))
    go false e = subst SixOrNone (sym (unsound-none book s id e)) none

module _ (live run : List ℕ) (b : Bytes live) (c : Bytes run) (id : AreaId) where
  live-six : (book : Book) (h : Bool) → is_held book live id ≡ h → SixOrNone (found book live id) → SixOrNone (bytes_at live run (cond h (in_live (6 * place_of id.0 book.count live)) nowhere))
  unfolding found
  live-six book true e f = subst (λ h. SixOrNone (cond h (take 6 (drop (6 * place_of id.0 book.count live) live)) [])) e f
  live-six book false e f = none

  run-six : (book : Book) (h : Bool) → is_held book run id ≡ h → SixOrNone (found book run id) → SixOrNone (bytes_at live run (cond h (in_run (6 * place_of id.0 book.count run)) nowhere))
  unfolding found
  run-six book true e f = subst (λ h. SixOrNone (cond h (take 6 (drop (6 * place_of id.0 book.count run) run)) [])) e f
  run-six book false e f = none

  by-run : (r : Run) (book : Book) → SixOrNone (bytes_at live run (by_run r book live run id))
  by-run None book = live-six book (is_held book live id) refl (found-six book live id b)
  by-run (Some p) book = run-six p.book (is_held p.book run id) refl (found-six p.book run id c)

  spot-six : (desk : Desk) → SixOrNone (bytes_at live run (spot_of desk live run id))
  unfolding spot_of
  spot-six desk = go (ltb (length live) book_bytes || ltb (length run) book_bytes) (not (desk_sound desk live run))
    where
      go : (x y : Bool) → SixOrNone (bytes_at live run (cond x nowhere (cond y nowhere (by_run desk.run desk.book live run id))))
      go true y = none
      go false true = none
      go false false = by-run desk.run desk.book

-- in a desk, and in a book
pub desk-six : (desk live run : List ℕ) (id : ℕ) → Bytes live → Bytes run → SixOrNone (desk_found desk live run id)
unfolding desk_found room_for
desk-six desk live run id b c = go (ltb (length desk) desk_room)
  where
    go : (x : Bool) → SixOrNone (cond x [] (bytes_at live run (spot_of (desk_in desk) live run (record { 0 = id }))))
    go true = none
    go false = spot-six live run b c (record { 0 = id }) (desk_in desk)

pub book-six : (book bytes : List ℕ) (id : ℕ) → Bytes bytes → SixOrNone (book_found book bytes id)
unfolding book_found room_for
book-six book bytes id b = go (ltb (length book) book_room)
  where
    go : (x : Bool) → SixOrNone (cond x [] (found (book_in book) bytes (record { 0 = id })))
    go true = none
    go false = found-six (book_in book) bytes (record { 0 = id }) b
