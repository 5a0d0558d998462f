-- Definitions to believe: document 01, "Book and run": a desk, a new one, and when a desk is sound.
use Rattle.std.specs.Prelude.{Bool, true, cond, ◌&&◌, List, ℕ, ltb, Ok, Err, Some, None}
use Rattle.sizes.specs.Sizes.{tags}
use Rattle.answer.specs.declared.Refusal.TheVariants.{Field}
use Rattle.message.specs.Messages.{constellation_for}
use Rattle.message.specs.Results.{Subtype}
use Rattle.book.specs.Book.{no_book, sound}
use Rattle.book.specs.declared.Book.{Book}
use Rattle.desk.specs.declared.Desk.{Desk}
use Rattle.desk.specs.Results.{Run}
use Rattle.desk.specs.Results.{NewDesk}

-- "A desk is made for one solution, processor and constellation." TF010 has 7 bits, TF011 4.
abbrev pub source_in_range : (solution processor : ℕ) → Bool
source_in_range solution processor = ltb solution 128 && ltb processor 16

-- the same desk with another live book or run
abbrev pub desk_with : Desk → Book → Run → Desk
desk_with desk book run =
    record { solution = desk.solution; processor = desk.processor; constellation = desk.constellation; book = book; run = run; last = desk.last }

-- "A new desk with an argument out of range: FIELD." Constellations are 0 to 4, as the subtypes of HPAC.
abbrev pub made_for : (solution processor : ℕ) → Subtype → NewDesk
made_for solution processor (Some constellation) =
    Ok (record { solution = solution; processor = processor; constellation = constellation; book = no_book; run = None; last = None })
made_for solution processor None = Err Field

unfoldable pub new_desk : (solution processor constellation : ℕ) → NewDesk
new_desk solution processor constellation =
    cond (source_in_range solution processor) (made_for solution processor (constellation_for constellation)) (Err Field)

-- "With no run open the run's book does not count." An open run has its tag and its book.
abbrev pub run_sound : Run → List ℕ → Bool
run_sound None bytes = true
run_sound (Some p) bytes = ltb p.tag tags && sound p.book bytes

-- "Solution, processor, constellation, AIOU and tag are in range", and the books are sound. A constellation is in range by its type. Every second is sound.
unfoldable pub desk_sound : Desk → (live run : List ℕ) → Bool
desk_sound desk live run = source_in_range desk.solution desk.processor && (sound desk.book live && run_sound desk.run run)
