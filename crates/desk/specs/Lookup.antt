-- Definitions to believe: looking an area up (document 01, "Book and run").
use Rattle.std.specs.Prelude.{cond, not, ◌||◌, ◌≡◌, List, [], ℕ, ◌*◌, ltb, length, take, drop, Some, None}
use Rattle.std.specs.Borrow.{Bor}
use Rattle.bits.specs.Part.{PartOf, part-determined}
use Rattle.area.specs.declared.AreaId.{AreaId}
use Rattle.sizes.specs.Sizes.{book_bytes}
use Rattle.book.specs.Book.{is_held, place_of}
use Rattle.book.specs.declared.Book.{Book}
use Rattle.desk.specs.Desk.{desk_sound}
use Rattle.desk.specs.declared.Desk.{Desk}
use Rattle.desk.specs.Results.{Run}

-- where an area's six bytes are: so many bytes behind the start of the live book or of the run's, or nowhere
pub data Spot : Type 0 where
  in_live : (at : ℕ) → Spot
  in_run : (at : ℕ) → Spot
  nowhere : Spot

abbrev pub spot_in : (ℕ → Spot) → Book → (bytes : List ℕ) → AreaId → Spot
spot_in spot book bytes id = cond (is_held book bytes id) (spot (6 * place_of id.0 book.count bytes)) nowhere

-- "Looking up an area gives its six bytes out of the run's book if a run is open, else out of the live book;"
abbrev pub by_run : Run → Book → (live run : List ℕ) → AreaId → Spot
by_run None book live run id = spot_in in_live book live id
by_run (Some p) book live run id = spot_in in_run p.book run id

-- "an absent ID, either book short, or a state or book not sound, give the empty part at the live book's start."
unfoldable pub spot_of : Desk → (live run : List ℕ) → AreaId → Spot
spot_of desk live run id =
    cond (ltb (length live) book_bytes || ltb (length run) book_bytes) nowhere
    (cond (not (desk_sound desk live run)) nowhere
    (by_run desk.run desk.book live run id))

-- the bytes of the part that is handed back,
abbrev pub bytes_at : (live run : List ℕ) → Spot → List ℕ
bytes_at live run (in_live at) = take 6 (drop at live)
bytes_at live run (in_run at) = take 6 (drop at run)
bytes_at live run nowhere = []

-- and what it is a part of, and where it starts
pub data Lies {X : Type 0} (r live run : Bor X) : Spot → Type 0 where
  live-part : {at : ℕ} → PartOf r live at → Lies r live run (in_live at)
  run-part : {at : ℕ} → PartOf r run at → Lies r live run (in_run at)
  empty-part : PartOf r live 0 → Lies r live run nowhere

-- two parts that lie there start at the same byte of the same book; proved
pub spot-determined : {X : Type 0} {r r' live run : Bor X} {spot : Spot} → Lies r live run spot → Lies r' live run spot
    → (r.ref_ptr.0 ≡ r'.ref_ptr.0) × (r.ref_ptr.1 ≡ r'.ref_ptr.1)
spot-determined (live-part p) (live-part q) = part-determined p q
spot-determined (run-part p) (run-part q) = part-determined p q
spot-determined (empty-part p) (empty-part q) = part-determined p q
