-- Definitions to believe: the refusals by which alone a desk answers a frame, and their places. Not among them: UNKNOWN_TYPE, since another payload type is NOT_OURS before;
-- LEFTOVER and FORM, which are of sheets and kept books. A payload's SHORT, FIELD and MASK_EMPTY have a place; the frame's own SHORT and all others have none.
use Rattle.std.specs.Prelude.{Bool, true, false, ◌&&◌, ◌*◌, ◌^◌, ltb, leb, Option, Some, None}
use Rattle.sizes.specs.Sizes.{longest_payload}
use Rattle.answer.specs.Place.{has_place}
use Rattle.answer.specs.declared.Refusal.{Refusal}
use Rattle.answer.specs.declared.Place.{Place}
use Rattle.answer.specs.declared.Fault.{Fault}
use Rattle.answer.specs.declared.Refusal.TheVariants.{Short, Preamble, FrameCrc, Length, MessageCrc, UnknownType, MaskEmpty, Field, Room, Sealed, Tag, NotOurs, AreaOff, Conflict, BookFull, Leftover, State, Form}

-- those without a place
abbrev pub answers_nowhere : Refusal → Bool
answers_nowhere Short = true
answers_nowhere Preamble = true
answers_nowhere FrameCrc = true
answers_nowhere Length = true
answers_nowhere MessageCrc = true
answers_nowhere UnknownType = false
answers_nowhere MaskEmpty = false
answers_nowhere Field = false
answers_nowhere Room = true
answers_nowhere Sealed = true
answers_nowhere Tag = true
answers_nowhere NotOurs = true
answers_nowhere AreaOff = true
answers_nowhere Conflict = true
answers_nowhere BookFull = true
answers_nowhere Leftover = false
answers_nowhere State = true
answers_nowhere Form = false

-- those at a place: a field's number, of which answers for other languages have 24 bits, and a bit that the longest payload has, or the one right behind it
abbrev pub answers_at : (Option Place) → Refusal → Bool
answers_at None why = answers_nowhere why
answers_at (Some p) why = has_place why && (ltb 0 p.sf && (ltb p.sf (2 ^ 24) && leb p.at (8 * longest_payload)))

abbrev pub answers : Fault → Bool
answers fault = answers_at fault.place fault.refusal
