-- Definitions to believe: the answers of `desk` in numbers.
use Rattle.std.specs.Prelude.{cond, List, [], ◌∷◌, ℕ, Ok, Err}
use Rattle.answer.specs.Number.{number_of}
use Rattle.answer.specs.declared.Refusal.TheVariants as refusal
use Rattle.sizes.specs.Sizes.{book_bytes}
use Rattle.desk.specs.Desk.{desk_sound}
use Rattle.desk.specs.Take.{hands, frame_taken, hands_book, book_taken}
use Rattle.desk.specs.declared.Desk.{Desk}
use Rattle.desk.specs.Results.{NewDesk}
use Rattle.desk.specs.Results.{Said}
use Rattle.desk.specs.declared.Taken.{Taken}
use Rattle.export.specs.Numbers.{Told, refused, refused_at, room, room_for}
use Rattle.export.specs.Books.{book_in}
use Rattle.exportdesk.specs.States.{desk_room, desk_in, desk_of}

-- a new desk
unfoldable pub told_new : NewDesk → Told
told_new (Ok desk) = record { number = 0; numbers = desk_of desk }
told_new (Err why) = refused why

-- ROOM of each lent buffer, then STATE
unfoldable pub sound_of : (desk live run : List ℕ) → ℕ
sound_of desk live run =
    room_for desk_room desk room
    (room_for book_bytes live room
    (room_for book_bytes run room
    (cond (desk_sound (desk_in desk) live run) 0 (number_of refusal.State))))

-- the desk afterwards; a refusal leaves the old one
unfoldable pub told_said : Said → Desk → Told
told_said (Ok log) desk = record { number = 0; numbers = desk_of desk }
told_said (Err fault) desk = refused_at fault

unfoldable pub told_taken : Taken → Told
told_taken taken = told_said taken.said taken.desk

-- the same of a book, whose refusals have no place
unfoldable pub told_book_said : Said → Desk → Told
told_book_said (Ok log) desk = record { number = 0; numbers = desk_of desk }
told_book_said (Err fault) desk = refused fault.refusal

unfoldable pub told_book_taken : Taken → Told
told_book_taken taken = told_book_said taken.said taken.desk

-- the bytes of log written
unfoldable pub log_told : Said → List ℕ
log_told (Ok log) = log ∷ []
log_told (Err why) = []

-- a frame and its second taken, and the two books and the log afterwards
unfoldable pub take_of : (frame : List ℕ) → (second : ℕ) → (desk live run log : List ℕ) → Taken
take_of frame second desk live run log = (frame_taken (hands (desk_in desk) frame second live run log)).answer

unfoldable pub take_live : (frame : List ℕ) → (second : ℕ) → (desk live run log : List ℕ) → List ℕ
take_live frame second desk live run log = (frame_taken (hands (desk_in desk) frame second live run log)).live

unfoldable pub take_run : (frame : List ℕ) → (second : ℕ) → (desk live run log : List ℕ) → List ℕ
take_run frame second desk live run log = (frame_taken (hands (desk_in desk) frame second live run log)).run

unfoldable pub take_log : (frame : List ℕ) → (second : ℕ) → (desk live run log : List ℕ) → List ℕ
take_log frame second desk live run log = (frame_taken (hands (desk_in desk) frame second live run log)).log

-- a book that was read from its kept form taken, and the live book afterwards
unfoldable pub take_book_of : (desk live run book bytes : List ℕ) → Taken
take_book_of desk live run book bytes = (book_taken (hands_book (desk_in desk) (book_in book) bytes live run)).answer

unfoldable pub take_book_live : (desk live run book bytes : List ℕ) → List ℕ
take_book_live desk live run book bytes = (book_taken (hands_book (desk_in desk) (book_in book) bytes live run)).live
