-- A word of the command line, digit by digit: what is still to be read from here is what was to be read at the start.
use Rattle.std.specs.Prelude.{Some, None}
use mathlib.Core.Path.{◌≡◌, refl, sym, ◌∙◌}
use mathlib.Core.Bool.{false}
use mathlib.Core.List.{List, [], ◌∷◌}
use Prim.Native.Nat.{ℕ, suc, ◌+◌, ◌*◌, ◌-◌, ◌≤◌, ◌<◌}
use native.Mathlib.Numerals.{add-one}
use native.Mathlib.Omega.{arith}
use lib.ListN.{length, drop, get_or, drop_of_length-le}
use lib.Dec.{eqb}
use lib.Seq.{drop-cons}
use borrow.Author.Tests.{le-leb, lt-leb, eq-eqb, ne_eqb}
use Rattle.runlog.specs.Command.{byte_from, byte_of, is_raw}

module _ (x : ℕ) (rest : List ℕ) (n : ℕ) where
  below : x < 48 → byte_from (x ∷ rest) n ≡ None
  unfolding byte_from
  below h = rw (lt-leb 48 x h)

  above : 48 ≤ x → 57 < x → byte_from (x ∷ rest) n ≡ None
  unfolding byte_from
  above l h = rw (le-leb 48 x l, lt-leb x 57 h)

  over : 48 ≤ x → x ≤ 57 → 255 < 10 * n + (x - 48) → byte_from (x ∷ rest) n ≡ None
  unfolding byte_from
  over l m h = rw (le-leb 48 x l, le-leb x 57 m, lt-leb (10 * n + (x - 48)) 255 h)

  digit : 48 ≤ x → x ≤ 57 → 10 * n + (x - 48) ≤ 255 → byte_from (x ∷ rest) n ≡ byte_from rest (10 * n + (x - 48))
  unfolding byte_from
  digit l m h = rw (le-leb 48 x l, le-leb x 57 m, le-leb (10 * n + (x - 48)) 255 h)

-- what holds from digit to digit
pub record Reading (word : List ℕ) (n i : ℕ) : Type 0 where
  pub small : n ≤ 255
  pub reads : byte_from (drop i word) n ≡ byte_of word

pub empty-word : (word : List ℕ) → length word ≡ 0 → None ≡ byte_of word
unfolding byte_of
empty-word [] h = refl
empty-word (x ∷ rest) h = absurd (omega arith)

pub first-digit : (word : List ℕ) → (length word ≡ 0 → ⊥) → Reading word 0 0
unfolding byte_of
first-digit [] h = absurd (h refl)
first-digit (x ∷ rest) h = record { small = omega arith; reads = refl }

module _ (word : List ℕ) (n i : ℕ) (r : Reading word n i) (inside : i < length word) where
  here : byte_from (get_or word i 0 ∷ drop (suc i) word) n ≡ byte_of word
  here = rw (drop-cons word i 0 inside) at r.reads

  pub digit-below : get_or word i 0 < 48 → None ≡ byte_of word
  digit-below h = sym (below (get_or word i 0) (drop (suc i) word) n h) ∙ here

  module _ (l : 48 ≤ get_or word i 0) where
    pub digit-above : 57 < get_or word i 0 → None ≡ byte_of word
    digit-above h = sym (above (get_or word i 0) (drop (suc i) word) n l h) ∙ here

    module _ (m : get_or word i 0 ≤ 57) where
      pub number-over : 255 < 10 * n + (get_or word i 0 - 48) → None ≡ byte_of word
      number-over h = sym (over (get_or word i 0) (drop (suc i) word) n l m h) ∙ here

      pub next-digit : 10 * n + (get_or word i 0 - 48) ≤ 255 → Reading word (10 * n + (get_or word i 0 - 48)) (i + 1)
      next-digit h = record { small = h; reads = rw (add-one i) (sym (digit (get_or word i 0) (drop (suc i) word) n l m h) ∙ here) }

pub last-digit : (word : List ℕ) (n i : ℕ) → Reading word n i → length word ≤ i → Some n ≡ byte_of word
unfolding byte_from
last-digit word n i r h = rw (drop_of_length-le word h) at r.reads

-- ---- the word `raw`

module _ (word : List ℕ) where
  pub other_length : (length word ≡ 3 → ⊥) → false ≡ is_raw word
  unfolding is_raw
  other_length h = rw (ne_eqb (length word) 3 h)

  module _ (l : length word ≡ 3) where
    pub other-first : (get_or word 0 0 ≡ 114 → ⊥) → false ≡ is_raw word
    unfolding is_raw
    other-first h = rw (eq-eqb (length word) 3 l, ne_eqb (get_or word 0 0) 114 h)

    module _ (f : get_or word 0 0 ≡ 114) where
      pub other-second : (get_or word 1 0 ≡ 97 → ⊥) → false ≡ is_raw word
      unfolding is_raw
      other-second h = rw (eq-eqb (length word) 3 l, eq-eqb (get_or word 0 0) 114 f, ne_eqb (get_or word 1 0) 97 h)

      pub by-third : get_or word 1 0 ≡ 97 → eqb (get_or word 2 0) 119 ≡ is_raw word
      unfolding is_raw
      by-third h = rw (eq-eqb (length word) 3 l, eq-eqb (get_or word 0 0) 114 f, eq-eqb (get_or word 1 0) 97 h)
