-- Two results of a public call of this crate cannot differ: for equal inputs, answers and lent buffers that meet the contract are equal. Proved.
-- Written by tests/determined from the contracts in src/.
use Rattle.area.specs.declared.AreaId.{AreaId}
use Rattle.book.specs.declared.Book.{Book}
use Rattle.codes.specs.Tables.{row_of}
use Rattle.codes.specs.declared.Constellation.{Constellation}
use Rattle.desk.specs.Desk.{desk_sound, new_desk}
use Rattle.desk.specs.Lookup.{Lies, bytes_at, spot-determined, spot_of}
use Rattle.desk.specs.Results.{NewDesk}
use Rattle.desk.specs.Take.{book_taken, by_header, frame_taken, handling, hands, hands_book, results, results_book, settled_by}
use Rattle.desk.specs.declared.Desk.{Desk}
use Rattle.desk.specs.declared.Taken.{Taken}
use Rattle.frame.specs.declared.Frame.{Frame}
use Rattle.std.proofs.Common.{ap, sym, ◌∙◌}
use Rattle.std.specs.Borrow.{Bor}
use Rattle.std.specs.Prelude.{Bool, List, ℕ, ◌≡◌}

pub new-desk-determined : (solution processor constellation : ℕ) (r₁ r₂ : NewDesk)
    → r₁ ≡ new_desk solution processor constellation
    → r₂ ≡ new_desk solution processor constellation
    → r₁ ≡ r₂
new-desk-determined solution processor constellation r₁ r₂ e0₁ e0₂ = e0₁ ∙ sym e0₂

pub is-sound-determined : (desk : Desk) (live run : List ℕ) (r₁ r₂ : Bool)
    → r₁ ≡ desk_sound desk live run
    → r₂ ≡ desk_sound desk live run
    → r₁ ≡ r₂
is-sound-determined desk live run r₁ r₂ e0₁ e0₂ = e0₁ ∙ sym e0₂

pub find-determined : {X : Type 0} {live-part part₁ part₂ run-part : Bor X} → (desk : Desk) (live run : List ℕ) (id : AreaId) (r₁ r₂ : List ℕ)
    → r₁ ≡ bytes_at live run (spot_of desk live run id)
    → r₂ ≡ bytes_at live run (spot_of desk live run id)
    → Lies part₁ live-part run-part (spot_of desk live run id)
    → Lies part₂ live-part run-part (spot_of desk live run id)
    → (r₁ ≡ r₂) × (part₁.ref_ptr.0 ≡ part₂.ref_ptr.0) × (part₁.ref_ptr.1 ≡ part₂.ref_ptr.1)
find-determined desk live run id r₁ r₂ e0₁ e0₂ e1₁ e1₂ = (e0₁ ∙ sym e0₂, (spot-determined e1₁ e1₂).0, (spot-determined e1₁ e1₂).1)

pub take-book-determined : (desk : Desk) (book : Book) (bytes live run : List ℕ) (r₁ r₂ : Taken) (live₁ live₂ : List ℕ)
    → results_book r₁ live₁ ≡ book_taken (hands_book desk book bytes live run)
    → results_book r₂ live₂ ≡ book_taken (hands_book desk book bytes live run)
    → (r₁ ≡ r₂) × (live₁ ≡ live₂)
take-book-determined desk book bytes live run r₁ r₂ live₁ live₂ e0₁ e0₂ = (ap (λ x. x.answer) (e0₁ ∙ sym e0₂), ap (λ x. x.live) (e0₁ ∙ sym e0₂))

pub subtype-of-determined : (constellation : Constellation) (r₁ r₂ : ℕ)
    → r₁ ≡ row_of constellation
    → r₂ ≡ row_of constellation
    → r₁ ≡ r₂
subtype-of-determined constellation r₁ r₂ e0₁ e0₂ = e0₁ ∙ sym e0₂

pub take-header-determined : (desk : Desk) (header : Frame) (payload : List ℕ) (second : ℕ) (live run log : List ℕ) (r₁ r₂ : Taken) (live₁ live₂ : List ℕ) (run₁ run₂ : List ℕ) (log₁ log₂ : List ℕ)
    → results r₁ live₁ run₁ log₁ ≡ settled_by desk second live run log (by_header (handling desk second) live header payload)
    → results r₂ live₂ run₂ log₂ ≡ settled_by desk second live run log (by_header (handling desk second) live header payload)
    → (r₁ ≡ r₂) × (live₁ ≡ live₂) × (run₁ ≡ run₂) × (log₁ ≡ log₂)
take-header-determined desk header payload second live run log r₁ r₂ live₁ live₂ run₁ run₂ log₁ log₂ e0₁ e0₂ = (ap (λ x. x.answer) (e0₁ ∙ sym e0₂), ap (λ x. x.live) (e0₁ ∙ sym e0₂), ap (λ x. x.run) (e0₁ ∙ sym e0₂), ap (λ x. x.log) (e0₁ ∙ sym e0₂))

pub take-determined : (desk : Desk) (frame : List ℕ) (second : ℕ) (live run log : List ℕ) (r₁ r₂ : Taken) (live₁ live₂ : List ℕ) (run₁ run₂ : List ℕ) (log₁ log₂ : List ℕ)
    → results r₁ live₁ run₁ log₁ ≡ frame_taken (hands desk frame second live run log)
    → results r₂ live₂ run₂ log₂ ≡ frame_taken (hands desk frame second live run log)
    → (r₁ ≡ r₂) × (live₁ ≡ live₂) × (run₁ ≡ run₂) × (log₁ ≡ log₂)
take-determined desk frame second live run log r₁ r₂ live₁ live₂ run₁ run₂ log₁ log₂ e0₁ e0₂ = (ap (λ x. x.answer) (e0₁ ∙ sym e0₂), ap (λ x. x.live) (e0₁ ∙ sym e0₂), ap (λ x. x.run) (e0₁ ∙ sym e0₂), ap (λ x. x.log) (e0₁ ∙ sym e0₂))
