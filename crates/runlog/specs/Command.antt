-- Definitions to believe: the words of the command line, SOLUTION PROCESSOR CONSTELLATION [raw], and the desk that they ask for.
use Rattle.std.specs.Prelude.{Bool, true, false, cond, ◌&&◌, List, [], ◌∷◌, ℕ, ◌+◌, ◌*◌, ◌-◌, leb, eqb, length, get_or, Ok, Err, Some, None}
use Rattle.runlog.specs.Results.{Byte}
use Rattle.runlog.specs.declared.command.Form.{Form}
use Rattle.runlog.specs.declared.command.Form.TheVariants as form
use Rattle.runlog.specs.Results.{Wanted}
use Rattle.runlog.specs.Results.{Job}
use Rattle.desk.specs.Results.{NewDesk}
use Rattle.desk.specs.Desk.{new_desk}

-- a digit 0 to 9
abbrev pub is_digit : ℕ → Bool
is_digit x = leb 48 x && leb x 57

-- digits behind the number n, up to 255
unfoldable pub byte_from : List ℕ → (n : ℕ) → Byte
byte_from [] n = Some n
byte_from (x ∷ rest) n = cond (is_digit x && leb (10 * n + (x - 48)) 255) (byte_from rest (10 * n + (x - 48))) None

-- a number in decimal digits, up to 255
unfoldable pub byte_of : (word : List ℕ) → Byte
byte_of [] = None
byte_of (x ∷ rest) = byte_from (x ∷ rest) 0

-- the word `raw`
unfoldable pub is_raw : (word : List ℕ) → Bool
is_raw word = eqb (length word) 3 && (eqb (get_or word 0 0) 114 && (eqb (get_or word 1 0) 97 && eqb (get_or word 2 0) 119))

-- the form: in words, if nothing stands behind the three numbers; the program's own name is counted too
unfoldable pub form_of : (count : ℕ) (word : List ℕ) → Form
form_of count word = cond (eqb count 4) form.Words (cond (eqb count 5) (cond (is_raw word) form.Raw form.Unknown) form.Unknown)

abbrev pub logged_in : Form → (solution processor constellation : ℕ) → Wanted
logged_in form.Words solution processor constellation = Some (record { solution = solution; processor = processor; constellation = constellation; raw = false })
logged_in form.Raw solution processor constellation = Some (record { solution = solution; processor = processor; constellation = constellation; raw = true })
logged_in form.Unknown solution processor constellation = None

-- a number, or nothing is wanted
abbrev pub numbered : Byte → (ℕ → Wanted) → Wanted
numbered (Some n) next = next n
numbered None next = None

-- what a command line of so many words asks for, by the four behind the program's name: SOLUTION PROCESSOR CONSTELLATION [raw]
abbrev pub wanted_by : (count : ℕ) (first second third fourth : List ℕ) → Wanted
wanted_by count first second third fourth =
    numbered (byte_of first) (λ solution.
    numbered (byte_of second) (λ processor.
    numbered (byte_of third) (λ constellation.
    logged_in (form_of count fourth) solution processor constellation)))

-- the desk that is wanted, in the form of its log; if there is none, the usage is to be said
abbrev pub job_by : NewDesk → (raw : Bool) → Job
job_by (Ok desk) raw = Some (record { desk = desk; raw = raw })
job_by (Err why) raw = None

abbrev pub job_of : Wanted → Job
job_of (Some p) = job_by (new_desk p.solution p.processor p.constellation) p.raw
job_of None = None
