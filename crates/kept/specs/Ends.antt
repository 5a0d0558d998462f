-- Definitions to believe: bytes that are a kept book, that go on after its end, that end before it does, that break its form (document 01, "Log and kept book"; document 02, request 5).
use Rattle.std.specs.Prelude.{◌≡◌, true, List, [], ◌∷◌, ◌++◌, ℕ, Ok, Err}
use Rattle.answer.specs.declared.Refusal.TheVariants.{Form}
use Rattle.bits.specs.Bits.{Bytes}
use Rattle.book.specs.Book.{areas_in, sound}
use Rattle.book.specs.declared.Book.{Book}
use Rattle.groups.specs.Groups.{groups_of, groups_of_all, size, read_groups}
use Rattle.kept.specs.Kept.{is_form, head_in, numbers_in, kept_in}

-- Bytes of a form: they begin with its number.
pub record OfForm (number : ℕ) (s : List ℕ) : Type 0 where
  pub rest : List ℕ
  pub is : s ≡ groups_of number ++ rest

-- a sound book, in its bytes, and a form that can say it
pub record SoundBook : Type 0 where
  pub book : Book
  pub bytes : List ℕ
  pub are-bytes : Bytes bytes
  pub is-sound : sound book bytes ≡ true
  pub form : ℕ
  pub is-form : is_form form ≡ true
  pub in-form : head_in form book ≡ true

-- its kept book in that form, and the numbers of that
abbrev pub kept_book : SoundBook → List ℕ
kept_book b = kept_in b.form b.book (areas_in b.book.count b.bytes)

abbrev pub numbers_of : SoundBook → List ℕ
numbers_of b = numbers_in b.form b.book (areas_in b.book.count b.bytes)

-- Bytes are the kept book of a sound book.
pub record IsBook (s : List ℕ) : Type 0 where
  pub of : SoundBook
  pub is : s ≡ kept_book of

-- Bytes go on after the kept book of a sound book: LEFTOVER.
pub record GoesOn (s : List ℕ) : Type 0 where
  pub of : SoundBook
  pub next : ℕ
  pub others : List ℕ
  pub is : s ≡ kept_book of ++ (next ∷ others)

-- ---- SHORT

-- Numbers properly begin those of some sound book: with one more and others behind it they are that book's.
pub record Begins (numbers : List ℕ) : Type 0 where
  pub of : SoundBook
  pub next : ℕ
  pub others : List ℕ
  pub goes_on : numbers ++ (next ∷ others) ≡ numbers_of of

-- Bytes are finished numbers, each in shortest form, and then a number that does not end, or nothing.
pub record Finished (s numbers rest : List ℕ) : Type 0 where
  pub is : s ≡ groups_of_all numbers ++ rest
  pub unended : size rest ≡ 0

-- The finished numbers of some bytes properly begin a kept book of a sound book.
pub record EndsEarly (s : List ℕ) : Type 0 where
  pub numbers : List ℕ
  pub rest : List ℕ
  pub finished : Finished s numbers rest
  pub begins : Begins numbers

-- ---- "FORM (a number not in shortest form, or one after which no sound book can follow)"

-- After these numbers a sound book can follow: with others, or with none, they are its.
pub record CanFollow (numbers : List ℕ) : Type 0 where
  pub of : SoundBook
  pub others : List ℕ
  pub goes_on : numbers ++ others ≡ numbers_of of

-- The first number of the rest is one of those (as `read_groups` has it, "not in shortest form" takes in a number beyond 64 bits).
pub data Breaks (numbers rest : List ℕ) : Type 0 where
  ill-formed : read_groups rest ≡ Err Form → Breaks numbers rest
  no-book : (x n : ℕ) → read_groups rest ≡ Ok (x, n) → (CanFollow (numbers ++ (x ∷ [])) → ⊥) → Breaks numbers rest

-- Some bytes begin well, and then comes such a number.
pub record BreaksForm (s : List ℕ) : Type 0 where
  pub numbers : List ℕ
  pub rest : List ℕ
  pub is : s ≡ groups_of_all numbers ++ rest
  pub begins : Begins numbers
  pub breaks : Breaks numbers rest
