-- Two results of a public call of this crate cannot differ: for equal inputs, answers and lent buffers that meet the contract are equal. Proved.
-- Written by tests/determined from the contracts in src/.
use Rattle.std.specs.Prelude.{ℕ, length, List, ◌≡◌}
use Rattle.desk.specs.Desk.{new_desk}
use Rattle.desk.specs.declared.Desk.{Desk}
use Rattle.export.specs.Books.{book_room}
use Rattle.export.specs.Numbers.{answered, laid, lent_after, room, stored}
use Rattle.exportdesk.specs.Desks.{log_told, sound_of, take_book_live, take_book_of, take_live, take_log, take_of, take_run, told_book_taken, told_new, told_taken}
use Rattle.exportdesk.specs.Finds.{area_room, book_found, count_of, desk_found}
use Rattle.exportdesk.specs.Rooms.{both_rooms}
use Rattle.exportdesk.specs.States.{desk_in, desk_of, desk_room}
use Rattle.std.proofs.Common.{◌∙◌, sym}

pub desk-new-determined : (solution processor constellation : ℕ) (desk : List ℕ) (r₁ r₂ : ℕ) (desk₁ desk₂ : List ℕ)
    → r₁ ≡ answered desk_room desk (told_new (new_desk solution processor constellation))
    → r₂ ≡ answered desk_room desk (told_new (new_desk solution processor constellation))
    → desk₁ ≡ lent_after desk_room desk (told_new (new_desk solution processor constellation))
    → desk₂ ≡ lent_after desk_room desk (told_new (new_desk solution processor constellation))
    → (r₁ ≡ r₂) × (desk₁ ≡ desk₂)
desk-new-determined solution processor constellation desk r₁ r₂ desk₁ desk₂ e0₁ e0₂ e1₁ e1₂ = (e0₁ ∙ sym e0₂, e1₁ ∙ sym e1₂)

pub desk-is-sound-determined : (desk live run : List ℕ) (r₁ r₂ : ℕ)
    → r₁ ≡ sound_of desk live run
    → r₂ ≡ sound_of desk live run
    → r₁ ≡ r₂
desk-is-sound-determined desk live run r₁ r₂ e0₁ e0₂ = e0₁ ∙ sym e0₂

pub desk-take-determined : (frame : List ℕ) (second : ℕ) (desk live run log written : List ℕ) (r₁ r₂ : ℕ) (desk₁ desk₂ : List ℕ) (live₁ live₂ : List ℕ) (run₁ run₂ : List ℕ) (log₁ log₂ : List ℕ) (written₁ written₂ : List ℕ)
    → r₁ ≡ both_rooms desk_room desk 1 written room (told_taken (take_of frame second desk live run log)).number
    → r₂ ≡ both_rooms desk_room desk 1 written room (told_taken (take_of frame second desk live run log)).number
    → desk₁ ≡ both_rooms desk_room desk 1 written desk (laid (told_taken (take_of frame second desk live run log)).numbers desk)
    → desk₂ ≡ both_rooms desk_room desk 1 written desk (laid (told_taken (take_of frame second desk live run log)).numbers desk)
    → live₁ ≡ both_rooms desk_room desk 1 written live (take_live frame second desk live run log)
    → live₂ ≡ both_rooms desk_room desk 1 written live (take_live frame second desk live run log)
    → run₁ ≡ both_rooms desk_room desk 1 written run (take_run frame second desk live run log)
    → run₂ ≡ both_rooms desk_room desk 1 written run (take_run frame second desk live run log)
    → log₁ ≡ both_rooms desk_room desk 1 written log (take_log frame second desk live run log)
    → log₂ ≡ both_rooms desk_room desk 1 written log (take_log frame second desk live run log)
    → written₁ ≡ both_rooms desk_room desk 1 written written (laid (log_told (take_of frame second desk live run log).said) written)
    → written₂ ≡ both_rooms desk_room desk 1 written written (laid (log_told (take_of frame second desk live run log).said) written)
    → (r₁ ≡ r₂) × (desk₁ ≡ desk₂) × (live₁ ≡ live₂) × (run₁ ≡ run₂) × (log₁ ≡ log₂) × (written₁ ≡ written₂)
desk-take-determined frame second desk live run log written r₁ r₂ desk₁ desk₂ live₁ live₂ run₁ run₂ log₁ log₂ written₁ written₂ e0₁ e0₂ e1₁ e1₂ e2₁ e2₂ e3₁ e3₂ e4₁ e4₂ e5₁ e5₂ = (e0₁ ∙ sym e0₂, e1₁ ∙ sym e1₂, e2₁ ∙ sym e2₂, e3₁ ∙ sym e3₂, e4₁ ∙ sym e4₂, e5₁ ∙ sym e5₂)

pub desk-take-book-determined : (desk live run book bytes : List ℕ) (r₁ r₂ : ℕ) (desk₁ desk₂ : List ℕ) (live₁ live₂ : List ℕ)
    → r₁ ≡ both_rooms desk_room desk book_room book room (told_book_taken (take_book_of desk live run book bytes)).number
    → r₂ ≡ both_rooms desk_room desk book_room book room (told_book_taken (take_book_of desk live run book bytes)).number
    → desk₁ ≡ both_rooms desk_room desk book_room book desk (laid (told_book_taken (take_book_of desk live run book bytes)).numbers desk)
    → desk₂ ≡ both_rooms desk_room desk book_room book desk (laid (told_book_taken (take_book_of desk live run book bytes)).numbers desk)
    → live₁ ≡ both_rooms desk_room desk book_room book live (take_book_live desk live run book bytes)
    → live₂ ≡ both_rooms desk_room desk book_room book live (take_book_live desk live run book bytes)
    → (r₁ ≡ r₂) × (desk₁ ≡ desk₂) × (live₁ ≡ live₂)
desk-take-book-determined desk live run book bytes r₁ r₂ desk₁ desk₂ live₁ live₂ e0₁ e0₂ e1₁ e1₂ e2₁ e2₂ = (e0₁ ∙ sym e0₂, e1₁ ∙ sym e1₂, e2₁ ∙ sym e2₂)

pub desk-find-determined : (desk live run : List ℕ) (id : ℕ) (area found : List ℕ) (r₁ r₂ : ℕ) (area₁ area₂ : List ℕ) (found₁ found₂ : List ℕ)
    → r₁ ≡ both_rooms area_room area 1 found room 0
    → r₂ ≡ both_rooms area_room area 1 found room 0
    → area₁ ≡ both_rooms area_room area 1 found area (laid (desk_found desk live run id) area)
    → area₂ ≡ both_rooms area_room area 1 found area (laid (desk_found desk live run id) area)
    → found₁ ≡ both_rooms area_room area 1 found found (laid (count_of (length (desk_found desk live run id))) found)
    → found₂ ≡ both_rooms area_room area 1 found found (laid (count_of (length (desk_found desk live run id))) found)
    → (r₁ ≡ r₂) × (area₁ ≡ area₂) × (found₁ ≡ found₂)
desk-find-determined desk live run id area found r₁ r₂ area₁ area₂ found₁ found₂ e0₁ e0₂ e1₁ e1₂ e2₁ e2₂ = (e0₁ ∙ sym e0₂, e1₁ ∙ sym e1₂, e2₁ ∙ sym e2₂)

pub book-find-determined : (book bytes : List ℕ) (id : ℕ) (area found : List ℕ) (r₁ r₂ : ℕ) (area₁ area₂ : List ℕ) (found₁ found₂ : List ℕ)
    → r₁ ≡ both_rooms area_room area 1 found room 0
    → r₂ ≡ both_rooms area_room area 1 found room 0
    → area₁ ≡ both_rooms area_room area 1 found area (laid (book_found book bytes id) area)
    → area₂ ≡ both_rooms area_room area 1 found area (laid (book_found book bytes id) area)
    → found₁ ≡ both_rooms area_room area 1 found found (laid (count_of (length (book_found book bytes id))) found)
    → found₂ ≡ both_rooms area_room area 1 found found (laid (count_of (length (book_found book bytes id))) found)
    → (r₁ ≡ r₂) × (area₁ ≡ area₂) × (found₁ ≡ found₂)
book-find-determined book bytes id area found r₁ r₂ area₁ area₂ found₁ found₂ e0₁ e0₂ e1₁ e1₂ e2₁ e2₂ = (e0₁ ∙ sym e0₂, e1₁ ∙ sym e1₂, e2₁ ∙ sym e2₂)

pub desk-in-determined : (desk : List ℕ) (r₁ r₂ : Desk)
    → r₁ ≡ desk_in desk
    → r₂ ≡ desk_in desk
    → r₁ ≡ r₂
desk-in-determined desk r₁ r₂ e0₁ e0₂ = e0₁ ∙ sym e0₂

pub put-desk-determined : (held : Desk) (desk : List ℕ) (desk₁ desk₂ : List ℕ)
    → desk₁ ≡ stored (desk_of held) desk
    → desk₂ ≡ stored (desk_of held) desk
    → desk₁ ≡ desk₂
put-desk-determined held desk desk₁ desk₂ e0₁ e0₂ = e0₁ ∙ sym e0₂
