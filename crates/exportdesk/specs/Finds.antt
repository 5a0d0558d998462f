-- Definitions to believe: the six bytes of an area, as a call for C hands them out.
use Rattle.std.specs.Prelude.{List, [], ◌∷◌, ℕ}
use Rattle.sizes.specs.Sizes.{area_bytes}
use Rattle.book.specs.Book.{found}
use Rattle.desk.specs.Lookup.{spot_of, bytes_at}
use Rattle.export.specs.Numbers.{room_for}
use Rattle.export.specs.Books.{book_room, book_in}
use Rattle.exportdesk.specs.States.{desk_room, desk_in}

-- the bytes of an area
abbrev pub area_room : ℕ
area_room = area_bytes

-- the bytes found, none where the numbers of desk or book are too few
unfoldable pub desk_found : (desk live run : List ℕ) → (id : ℕ) → List ℕ
desk_found desk live run id = room_for desk_room desk [] (bytes_at live run (spot_of (desk_in desk) live run (record { 0 = id })))

unfoldable pub book_found : (book bytes : List ℕ) → (id : ℕ) → List ℕ
book_found book bytes id = room_for book_room book [] (found (book_in book) bytes (record { 0 = id }))

-- how many they are
unfoldable pub count_of : ℕ → List ℕ
count_of size = size ∷ []
