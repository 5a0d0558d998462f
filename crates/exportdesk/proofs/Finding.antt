-- Laws: the bytes that are found, at most six, worded as the code makes them.
use mathlib.Core.Path.{◌≡◌, ap, ◌∙◌}
use mathlib.Core.Bool.{Bool, true, false, cond}
use mathlib.Core.List.{List, [], ◌∷◌}
use Prim.Native.Nat.{ℕ, zero, suc, ◌*◌, ◌≤◌, ◌<◌}
use native.Mathlib.Omega.{arith}
use lib.ListN.{length, take, drop}
use Rattle.area.specs.declared.AreaId.{AreaId}
use Rattle.book.specs.Book.{is_held, place_of, found}
use Rattle.book.specs.declared.Book.{Book}
use Rattle.desk.specs.Lookup.{Spot, in_live, in_run, nowhere, spot_of, bytes_at}
use Rattle.desk.specs.declared.Desk.{Desk}
use Rattle.export.specs.Books.{book_room, book_in}
use Rattle.export.proofs.Laws.{short-is, enough-is}
use Rattle.exportdesk.specs.States.{desk_room, desk_in}
use Rattle.exportdesk.specs.Finds.{area_room, desk_found, book_found}

few : (n : ℕ) (l : List ℕ) → length (take n l) ≤ n
few zero l = omega arith
few (suc n) [] = omega arith
few (suc n) (x ∷ l) = let h : length (take n l) ≤ n = few n l in omega arith

few-at : (live run : List ℕ) (spot : Spot) → length (bytes_at live run spot) ≤ 6
few-at live run (in_live at) = few 6 (drop at live)
few-at live run (in_run at) = few 6 (drop at run)
few-at live run nowhere = omega arith

few-found : (book : Book) (s : List ℕ) (id : AreaId) → length (found book s id) ≤ 6
unfolding found
few-found book s id = go (is_held book s id) (drop (6 * place_of id.0 book.count s) s)
  where
    go : (b : Bool) (l : List ℕ) → length (cond b (take 6 l) []) ≤ 6
    go true l = few 6 l
    go false l = omega arith

-- ---- in a desk

module _ (desk live run : List ℕ) (id : ℕ) where
  pub no-desk-found : length desk < desk_room → [] ≡ desk_found desk live run id
  unfolding desk_found
  no-desk-found h = short-is _ _ _ _ h

  module _ (d : Desk) (e : d ≡ desk_in desk) (part : List ℕ) (p : part ≡ bytes_at live run (spot_of d live run (record { 0 = id }))) where
    pub desk-fits : (area : List ℕ) → area_room ≤ length area → length part ≤ length area
    desk-fits area h = let k : length part ≤ 6 = rw p (few-at live run (spot_of d live run (record { 0 = id }))) in omega arith

    pub desk-found : desk_room ≤ length desk → part ≡ desk_found desk live run id
    unfolding desk_found
    desk-found h = enough-is _ _ _ _ _ h (p ∙ ap (λ (x : Desk). bytes_at live run (spot_of x live run (record { 0 = id }))) e)

-- ---- in a book

module _ (book bytes : List ℕ) (id : ℕ) where
  pub no-book-found : length book < book_room → [] ≡ book_found book bytes id
  unfolding book_found
  no-book-found h = short-is _ _ _ _ h

  module _ (b : Book) (e : b ≡ book_in book) (part : List ℕ) (p : part ≡ found b bytes (record { 0 = id })) where
    pub book-fits : (area : List ℕ) → area_room ≤ length area → length part ≤ length area
    book-fits area h = let k : length part ≤ 6 = rw p (few-found b bytes (record { 0 = id })) in omega arith

    pub book-found : book_room ≤ length book → part ≡ book_found book bytes id
    unfolding book_found
    book-found h = enough-is _ _ _ _ _ h (p ∙ ap (λ (x : Book). found x bytes (record { 0 = id })) e)
