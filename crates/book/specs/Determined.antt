-- Two results of a public call of this crate cannot differ: for equal inputs, answers and lent buffers that meet the contract are equal. Proved.
-- Written by tests/determined from the contracts in src/.
use Rattle.area.specs.declared.AreaId.{AreaId}
use Rattle.bits.specs.Part.{PartOf, part-determined}
use Rattle.book.specs.Book.{book_of, found, found_at, head_sound, no_book, siou_sound, sound}
use Rattle.book.specs.Results.{Found, Taken}
use Rattle.book.specs.Take.{bytes_after, looked, taken_of}
use Rattle.book.specs.declared.Book.{Book}
use Rattle.std.proofs.Common.{sym, ◌∙◌}
use Rattle.std.specs.Borrow.{Bor}
use Rattle.std.specs.Prelude.{Bool, List, ℕ, ◌≡◌}

pub book-of-determined : (aiou_plus_one siou_plus_one count : ℕ) (r₁ r₂ : Book)
    → r₁ ≡ book_of aiou_plus_one siou_plus_one count
    → r₂ ≡ book_of aiou_plus_one siou_plus_one count
    → r₁ ≡ r₂
book-of-determined aiou_plus_one siou_plus_one count r₁ r₂ e0₁ e0₂ = e0₁ ∙ sym e0₂

pub no-book-determined : (r₁ r₂ : Book)
    → r₁ ≡ no_book
    → r₂ ≡ no_book
    → r₁ ≡ r₂
no-book-determined r₁ r₂ e0₁ e0₂ = e0₁ ∙ sym e0₂

pub siou-is-sound-determined : (aiou_plus_one siou_plus_one : ℕ) (r₁ r₂ : Bool)
    → r₁ ≡ siou_sound aiou_plus_one siou_plus_one
    → r₂ ≡ siou_sound aiou_plus_one siou_plus_one
    → r₁ ≡ r₂
siou-is-sound-determined aiou_plus_one siou_plus_one r₁ r₂ e0₁ e0₂ = e0₁ ∙ sym e0₂

pub head-is-sound-determined : (book : Book) (r₁ r₂ : Bool)
    → r₁ ≡ head_sound book
    → r₂ ≡ head_sound book
    → r₁ ≡ r₂
head-is-sound-determined book r₁ r₂ e0₁ e0₂ = e0₁ ∙ sym e0₂

pub is-sound-determined : (book : Book) (bytes : List ℕ) (r₁ r₂ : Bool)
    → r₁ ≡ sound book bytes
    → r₂ ≡ sound book bytes
    → r₁ ≡ r₂
is-sound-determined book bytes r₁ r₂ e0₁ e0₂ = e0₁ ∙ sym e0₂

pub find-determined : {X : Type 0} {bytes-part part₁ part₂ : Bor X} → (book : Book) (bytes : List ℕ) (id : AreaId) (r₁ r₂ : List ℕ)
    → r₁ ≡ found book bytes id
    → r₂ ≡ found book bytes id
    → PartOf part₁ bytes-part (found_at book bytes id)
    → PartOf part₂ bytes-part (found_at book bytes id)
    → (r₁ ≡ r₂) × (part₁.ref_ptr.0 ≡ part₂.ref_ptr.0) × (part₁.ref_ptr.1 ≡ part₂.ref_ptr.1)
find-determined book bytes id r₁ r₂ e0₁ e0₂ e1₁ e1₂ = (e0₁ ∙ sym e0₂, (part-determined e1₁ e1₂).0, (part-determined e1₁ e1₂).1)

pub look-determined : (bytes : List ℕ) (count id : ℕ) (r₁ r₂ : Found)
    → r₁ ≡ looked id count bytes
    → r₂ ≡ looked id count bytes
    → r₁ ≡ r₂
look-determined bytes count id r₁ r₂ e0₁ e0₂ = e0₁ ∙ sym e0₂

pub take-determined : (book : Book) (bytes payload : List ℕ) (r₁ r₂ : Taken) (bytes₁ bytes₂ : List ℕ)
    → r₁ ≡ taken_of book bytes payload
    → r₂ ≡ taken_of book bytes payload
    → bytes₁ ≡ bytes_after book bytes payload
    → bytes₂ ≡ bytes_after book bytes payload
    → (r₁ ≡ r₂) × (bytes₁ ≡ bytes₂)
take-determined book bytes payload r₁ r₂ bytes₁ bytes₂ e0₁ e0₂ e1₁ e1₂ = (e0₁ ∙ sym e0₂, e1₁ ∙ sym e1₂)
