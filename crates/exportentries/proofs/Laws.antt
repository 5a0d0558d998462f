-- Laws: an arm of a `match` on what was read, and what was read is small. Assumes nothing.
use Rattle.std.specs.Prelude.{Ok, Some}
use mathlib.Core.Path.{◌≡◌, refl, ap, ap₂, sym, ◌∙◌, subst}
use mathlib.Core.List.{List, [], ◌∷◌}
use Prim.Native.Nat.{ℕ, ◌+◌, ◌^◌, ◌≤◌, ◌<◌}
use native.Mathlib.Omega.{arith}
use lib.Ieee.{Float}
use lib.ListN.{length, get_or}
use mir.Syntax.{w8}
use mir.Val.{Fits}
use Rattle.area.specs.Area.{nodes}
use Rattle.values.specs.declared.Residual.{Residual}
use Rattle.entries.specs.Read.{read_entry}
use Rattle.entries.specs.Answers.{read_answer}
use Rattle.entries.specs.Results.{Aiou}
use Rattle.entries.specs.declared.Opened.{Opened}
use Rattle.entries.specs.declared.Placed.{Placed}
use Rattle.entries.specs.declared.LeftOut.{LeftOut}
use Rattle.entries.specs.declared.Entry.{Entry}
use Rattle.entries.specs.declared.Entry.TheVariants as entry
use Rattle.entries.specs.Results.{EntryRead}
use Rattle.export.specs.Numbers.{laid, stored}
use Rattle.export.specs.Stored.{stored_there}
use Rattle.export.proofs.Laws.{arm}
use Rattle.exportentries.specs.Entries.{entry_room, aiou_plus_one, count_in, size_in, numbers_of_opened, numbers_of_placed, numbers_of_left_out, numbers_of_entry, numbers_of_residual, floats_of_residual}
use Rattle.exportentries.specs.Ranges.{AiouIn, EntryIn, AnswerIn, read-in}

-- ---- AIOU + 1

pub aiou-fits : (a : Aiou) (n : ℕ) → AiouIn a → a ≡ Some n → n + 1 < 2 ^ 64
aiou-fits a n h e = let k : n < 16 = subst AiouIn e h in omega arith

pub aiou-is : (a : Aiou) (n : ℕ) → a ≡ Some n → n + 1 ≡ aiou_plus_one a
aiou-is a n e = sym (subst (λ a. aiou_plus_one a ≡ n + 1) (sym e) refl)

-- ---- what is small

pub opened_in : (a : Entry) (run : Opened) → EntryIn a → a ≡ entry.Opened run → AiouIn run.aiou
opened_in a run h e = subst EntryIn e h

pub answer-in : (a : EntryRead) (told : Entry) (used : ℕ) → AnswerIn a → a ≡ Ok (told, used) → EntryIn told
answer-in a told used h e = subst AnswerIn e h

-- of the bytes that the call was lent
pub in-read : (s : List ℕ) (a : EntryRead) → ((i : ℕ) → Fits w8 (get_or s i 0)) → a ≡ read_answer (read_entry s) → AnswerIn a
in-read s a known e = subst AnswerIn (sym e) (read-in s (record { byte = λ i. (known i).fits }))

-- ---- an arm of a `match` on an entry or a residual a, which is v there

pub entry_of : (a v : Entry) (used : ℕ) (lent now : List ℕ) → a ≡ v → now ≡ laid (numbers_of_entry v used) lent → now ≡ laid (numbers_of_entry a used) lent
entry_of a v used lent now e p = arm (λ x. laid (numbers_of_entry x used) lent) a v now e p

module _ (a v : Residual) where
  pub residual-numbers : (code : ℕ) (lent now : List ℕ) → a ≡ v → now ≡ laid (numbers_of_residual code v) lent → now ≡ laid (numbers_of_residual code a) lent
  residual-numbers code lent now e p = arm (λ x. laid (numbers_of_residual code x) lent) a v now e p

  pub residual-floats : (lent now : List Float) → a ≡ v → now ≡ laid (floats_of_residual v) lent → now ≡ laid (floats_of_residual a) lent
  residual-floats lent now e p = arm (λ x. laid (floats_of_residual x) lent) a v now e p

-- ---- an entry's numbers, as the code has them, in a slice that has room for eight

there : (xs lent now : List ℕ) → length xs ≤ entry_room → entry_room ≤ length lent → now ≡ stored xs lent → now ≡ laid xs lent
there xs lent now k h e = stored_there xs lent now e (omega arith)

module _ (lent now : List ℕ) (h : entry_room ≤ length lent) (used u : ℕ) (eu : u ≡ used) where
  pub opened-there : (run : Opened) (a : ℕ) → a ≡ aiou_plus_one run.aiou → now ≡ stored (1 ∷ u ∷ run.tag ∷ a ∷ run.count ∷ []) lent
      → now ≡ laid (numbers_of_opened run used) lent
  unfolding numbers_of_opened
  opened-there run a ea e = there (numbers_of_opened run used) lent now (omega arith) h (e ∙ ap₂ (λ u a. stored (1 ∷ u ∷ run.tag ∷ a ∷ run.count ∷ []) lent) eu ea)

  pub placed-there : (area : Placed) (d t size points : ℕ) → d ≡ area.id.0 → t ≡ count_in area.troposphere → size ≡ size_in area.troposphere → points ≡ nodes area.bits
      → now ≡ stored (2 ∷ u ∷ d ∷ area.bits ∷ t ∷ size ∷ area.satellites ∷ points ∷ []) lent → now ≡ laid (numbers_of_placed area used) lent
  unfolding numbers_of_placed
  placed-there area d t size points ed et es ep e =
      there (numbers_of_placed area used) lent now (omega arith) h
      (e ∙ ap₂ (λ u d. stored (2 ∷ u ∷ d ∷ area.bits ∷ t ∷ size ∷ area.satellites ∷ points ∷ []) lent) eu ed
      ∙ ap₂ (λ t size. stored (2 ∷ used ∷ area.id.0 ∷ area.bits ∷ t ∷ size ∷ area.satellites ∷ points ∷ []) lent) et es
      ∙ ap (λ points. stored (2 ∷ used ∷ area.id.0 ∷ area.bits ∷ count_in area.troposphere ∷ size_in area.troposphere ∷ area.satellites ∷ points ∷ []) lent) ep)

  pub left-out-there : (area : LeftOut) (d : ℕ) → d ≡ area.id.0 → now ≡ stored (3 ∷ u ∷ d ∷ area.reason ∷ []) lent → now ≡ laid (numbers_of_left_out area used) lent
  unfolding numbers_of_left_out
  left-out-there area d ed e = there (numbers_of_left_out area used) lent now (omega arith) h (e ∙ ap₂ (λ u d. stored (3 ∷ u ∷ d ∷ area.reason ∷ []) lent) eu ed)
