-- Definitions to believe: a message layout as a tree of fields; reading bits and writing codes by it, most significant bit first.
-- Nothing here knows a format: a field carries its number in its document, its width and the codes it takes.
use Rattle.std.specs.Prelude.{Bool, true, false, List, [], ◌∷◌, ◌++◌, ℕ, ◌+◌, ◌^◌, eqb, ltb, leb, length, take, drop, Ok, Err}
use Rattle.bits.specs.Bits.{bits_of, number}
use Rattle.answer.specs.declared.Refusal.TheVariants as refusal
use Rattle.answer.specs.declared.Fault as answer
use Rattle.answer.specs.Place.{nowhere, fault_at, further}
use Rattle.layout.specs.declared.Field.{Field}
use Rattle.layout.specs.Results.{Verdict}

-- The end of a message holds what was read; a field says what follows each of its codes.
pub data Layout (A : Type 0) : Type 0 where
  done : (value : A) → Layout A
  field : (here : Field) (next : ℕ → Layout A) → Layout A

abbrev pub pick : {A : Type 0} → Bool → A → A → A
pick true a b = a
pick false a b = b

-- ---- the codes a field takes

-- the one code `extra`, and least to most without the one code `except`, which is FIELD; below and above the field's own refusals
unfoldable pub judge : Field → ℕ → Verdict
judge f c =
    pick (eqb c f.extra) (Ok tt) (
    pick (ltb c f.least) (Err f.under) (
    pick (ltb f.most c) (Err f.over) (
    pick (eqb c f.except) (Err refusal.Field)
    (Ok tt))))

-- ---- reading

-- what was read, the codes in reading order, and the count of bits read; or the refusal with its place, a field's number and the bit where its entry begins
pub data Outcome (A : Type 0) : Type 0 where
  accepted : (value : A) (codes : List ℕ) (used : ℕ) → Outcome A
  refused : (why : answer.Fault) → Outcome A

-- refuse here if there are too few bits for the field with this number
abbrev pub enough : {A : Type 0} → (sf : ℕ) → Bool → Outcome A → Outcome A
enough sf true o = o
enough sf false o = refused (fault_at refusal.Short sf 0)

-- refuse here by the field's verdict on the code
abbrev pub judged : {A : Type 0} → (sf : ℕ) → Verdict → Outcome A → Outcome A
judged sf (Ok _) o = o
judged sf (Err why) o = refused (fault_at why sf 0)

-- a code of w bits was read before
abbrev pub before : {A : Type 0} → ℕ → ℕ → Outcome A → Outcome A
before c w (accepted v cs n) = accepted v (c ∷ cs) (w + n)
before c w (refused why) = refused (further w why)

-- at each field SHORT, then its verdict, both with the field's number and where its bits begin; after the last field no bit is looked at
unfoldable pub read_l : {A : Type 0} → Layout A → List ℕ → Outcome A
read_l (done v) bits = accepted v [] 0
read_l (field f next) bits =
    let c : ℕ = number (take f.width bits) in
    enough f.sf (leb f.width (length bits)) (
    judged f.sf (judge f c) (
    before c f.width (read_l (next c) (drop f.width bits))))

-- ---- writing

-- the bits of the message; or the refusal with its place, a field's number and its entry of the sheet
pub data Written : Type 0 where
  written : (bits : List ℕ) → Written
  unwritten : (why : answer.Fault) → Written

-- refuse here if the code is too wide for the field with this number
abbrev pub fitting : (sf : ℕ) → Bool → Written → Written
fitting sf true o = o
fitting sf false o = unwritten (fault_at refusal.Field sf 0)

abbrev pub judged_w : (sf : ℕ) → Verdict → Written → Written
judged_w sf (Ok _) o = o
judged_w sf (Err why) o = unwritten (fault_at why sf 0)

-- the bits of an entry come before
abbrev pub behind : List ℕ → Written → Written
behind bs (written cs) = written (bs ++ cs)
behind bs (unwritten why) = unwritten (further 1 why)

-- at each field SHORT if the sheet has ended, then its verdict, then FIELD for a code too wide, all with the field's number and its entry; at the end LEFTOVER, which has no
-- place, for a sheet that goes on
unfoldable pub write_l : {A : Type 0} → Layout A → List ℕ → Written
write_l (done v) [] = written []
write_l (done v) (c ∷ cs) = unwritten (nowhere refusal.Leftover)
write_l (field f next) [] = unwritten (fault_at refusal.Short f.sf 0)
write_l (field f next) (c ∷ cs) =
    judged_w f.sf (judge f c) (
    fitting f.sf (ltb c (2 ^ f.width)) (
    behind (bits_of f.width c) (write_l (next c) cs)))
