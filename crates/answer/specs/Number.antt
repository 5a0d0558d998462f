-- Definitions to believe: document 01, "Answer numbers", each refusal's number.
use Rattle.std.specs.Prelude.{◌≡◌, ℕ, Result, Ok, Err}
use Rattle.std.proofs.Common.{◌∙◌, sym}
use Rattle.answer.specs.declared.Refusal.{Refusal}
use Rattle.answer.specs.declared.Refusal.TheVariants.{Short, Preamble, FrameCrc, Length, MessageCrc, UnknownType, MaskEmpty, Field, Room, Sealed, Tag, NotOurs, AreaOff, Conflict, BookFull, Leftover, State, Form}

abbrev pub number_of : Refusal → ℕ
number_of Short = 1
number_of Preamble = 2
number_of FrameCrc = 3
number_of Length = 4
number_of MessageCrc = 5
number_of UnknownType = 6
number_of MaskEmpty = 7
number_of Field = 8
number_of Room = 9
number_of Sealed = 10
number_of Tag = 11
number_of NotOurs = 12
number_of AreaOff = 13
number_of Conflict = 14
number_of BookFull = 15
number_of Leftover = 16
number_of State = 17
number_of Form = 18

-- The number of what a call answers: "0 OK", or that of its refusal, which is in what it refuses with.
abbrev pub number_of_answer : {T E : Type 0} → (E → Refusal) → Result T E → ℕ
number_of_answer refusal_of (Ok value) = 0
number_of_answer refusal_of (Err why) = number_of (refusal_of why)

-- Two numbers of an answer cannot differ. Proved.
pub number-of-determined : {T E : Type 0} (refusal_of : E → Refusal) (answer : Result T E) (r₁ r₂ : ℕ)
    → r₁ ≡ number_of_answer refusal_of answer
    → r₂ ≡ number_of_answer refusal_of answer
    → r₁ ≡ r₂
number-of-determined refusal_of answer r₁ r₂ e₁ e₂ = e₁ ∙ sym e₂
