-- Definitions to believe: document 02, request 2, "Say where it went wrong": "SHORT, FIELD and MASK_EMPTY from the readers now carry the SF number and the bit where that
-- entry begins; from the writer, the SF number and the sheet entry." A place is counted from where reading or writing began.
use Rattle.std.specs.Prelude.{Bool, true, false, ℕ, ◌+◌, Option, Some, None}
use Rattle.answer.specs.declared.Refusal.{Refusal}
use Rattle.answer.specs.declared.Refusal.TheVariants.{Short, Preamble, FrameCrc, Length, MessageCrc, UnknownType, MaskEmpty, Field, Room, Sealed, Tag, NotOurs, AreaOff, Conflict, BookFull, Leftover, State, Form}
use Rattle.answer.specs.declared.Place.{Place}
use Rattle.answer.specs.declared.Fault.{Fault}

-- a refusal without a place
abbrev pub nowhere : Refusal → Fault
nowhere why = record { refusal = why; place = None }

-- one at the field with this number, whose entry begins there
abbrev pub fault_at : Refusal → (sf at : ℕ) → Fault
fault_at why sf at = record { refusal = why; place = Some (record { sf = sf; at = at }) }

-- the refusals that have a place where a payload or a sheet gives them: "SHORT, FIELD and MASK_EMPTY"
abbrev pub has_place : Refusal → Bool
has_place Short = true
has_place Preamble = false
has_place FrameCrc = false
has_place Length = false
has_place MessageCrc = false
has_place UnknownType = false
has_place MaskEmpty = true
has_place Field = true
has_place Room = false
has_place Sealed = false
has_place Tag = false
has_place NotOurs = false
has_place AreaOff = false
has_place Conflict = false
has_place BookFull = false
has_place Leftover = false
has_place State = false
has_place Form = false

-- those of them by which a field refuses a code
abbrev pub of_code : Refusal → Bool
of_code MaskEmpty = true
of_code Field = true
of_code Short = false
of_code Preamble = false
of_code FrameCrc = false
of_code Length = false
of_code MessageCrc = false
of_code UnknownType = false
of_code Room = false
of_code Sealed = false
of_code Tag = false
of_code NotOurs = false
of_code AreaOff = false
of_code Conflict = false
of_code BookFull = false
of_code Leftover = false
of_code State = false
of_code Form = false

-- the same place, where so many bits or entries come before
abbrev pub moved : ℕ → (Option Place) → (Option Place)
moved n None = None
moved n (Some p) = Some (record { sf = p.sf; at = n + p.at })

abbrev pub further : ℕ → Fault → Fault
further n fault = record { refusal = fault.refusal; place = moved n fault.place }

-- in two numbers: "SF number 0 where there is no place", and then the other is 0 too
abbrev pub sf_in : (Option Place) → ℕ
sf_in None = 0
sf_in (Some p) = p.sf

abbrev pub at_in : (Option Place) → ℕ
at_in None = 0
at_in (Some p) = p.at
