-- The second in a text, digit by digit: what is still to be read from here is what was to be read at the start.
use mathlib.Core.Path.{◌≡◌, refl, sym, ◌∙◌}
use mathlib.Core.List.{List, ◌∷◌}
use Prim.Native.Nat.{ℕ, suc, ◌+◌, ◌*◌, ◌-◌, ◌≤◌, ◌<◌}
use native.Mathlib.Numerals.{add-one}
use lib.ListN.{length, drop, get_or, drop_of_length-le}
use lib.Seq.{drop-cons}
use borrow.Author.Tests.{le-leb, lt-leb, lt-ltb, le-ltb}
use Rattle.runlog.specs.Clock.{second_from, second_in}

module _ (x : ℕ) (rest : List ℕ) (n : ℕ) where
  below : x < 48 → second_from (x ∷ rest) n ≡ n
  unfolding second_from
  below h = rw (lt-leb 48 x h)

  above : 48 ≤ x → 57 < x → second_from (x ∷ rest) n ≡ n
  unfolding second_from
  above l h = rw (le-leb 48 x l, lt-leb x 57 h)

  over : 48 ≤ x → x ≤ 57 → 100000000000000000 ≤ n → second_from (x ∷ rest) n ≡ n
  unfolding second_from
  over l m h = rw (le-leb 48 x l, le-leb x 57 m, le-ltb n 100000000000000000 h)

  digit : 48 ≤ x → x ≤ 57 → n < 100000000000000000 → second_from (x ∷ rest) n ≡ second_from rest (10 * n + (x - 48))
  unfolding second_from
  digit l m h = rw (le-leb 48 x l, le-leb x 57 m, lt-ltb n 100000000000000000 h)

-- what holds from digit to digit
pub record Ticks (text : List ℕ) (n i : ℕ) : Type 0 where
  pub reads : second_from (drop i text) n ≡ second_in text

pub first-tick : (text : List ℕ) → Ticks text 0 0
first-tick text = record { reads = refl }

module _ (text : List ℕ) (n i : ℕ) (r : Ticks text n i) (inside : i < length text) where
  here : second_from (get_or text i 0 ∷ drop (suc i) text) n ≡ second_in text
  here = rw (drop-cons text i 0 inside) at r.reads

  pub tick-below : get_or text i 0 < 48 → n ≡ second_in text
  tick-below h = sym (below (get_or text i 0) (drop (suc i) text) n h) ∙ here

  module _ (l : 48 ≤ get_or text i 0) where
    pub tick-above : 57 < get_or text i 0 → n ≡ second_in text
    tick-above h = sym (above (get_or text i 0) (drop (suc i) text) n l h) ∙ here

    module _ (m : get_or text i 0 ≤ 57) where
      pub tick-over : 100000000000000000 ≤ n → n ≡ second_in text
      tick-over h = sym (over (get_or text i 0) (drop (suc i) text) n l m h) ∙ here

      pub next-tick : n < 100000000000000000 → Ticks text (10 * n + (get_or text i 0 - 48)) (i + 1)
      next-tick h = record { reads = rw (add-one i) (sym (digit (get_or text i 0) (drop (suc i) text) n l m h) ∙ here) }

pub last-tick : (text : List ℕ) (n i : ℕ) → Ticks text n i → length text ≤ i → n ≡ second_in text
unfolding second_from
last-tick text n i r h = rw (drop_of_length-le text h) at r.reads
