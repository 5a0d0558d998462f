-- Laws: numbers, or floats, laid into a lent slice one by one; an answer when a slice has room, and when it has not.
use mathlib.Core.Path.{◌≡◌, refl, sym, ap, ap₂, ◌∙◌}
use mathlib.Core.List.{List, [], ◌∷◌, ◌++◌}
use mathlib.Core.Bool.{Bool, true, false, cond}
use Prim.Native.Nat.{ℕ, zero, suc, ◌+◌, ◌*◌, ◌≤◌, ◌<◌, min}
use native.Mathlib.Nat.{le_antisymm, le_of_suc-le-suc, not-suc-le-zero}
use native.Mathlib.Numerals.{add-one}
use native.Mathlib.Omega.{arith}
use lib.Dec.{ltb}
use lib.ListN.{length, take, drop, get_or, set, length-set}
use lib.Seq.{take_all}
use borrow.Author.Tests.{lt-ltb, le-ltb, ltb-true, ltb-false}
use Rattle.answer.specs.Number.{number_of}
use Rattle.answer.specs.Place.{sf_in, at_in}
use Rattle.answer.specs.declared.Fault.{Fault}
use Rattle.export.specs.Numbers.{Told, room_for, laid, answered, lent_after, at_most, most_sf, most_place, answer_of}

-- ---- numbers, or floats, laid into a slice

store : {A : Type 0} (src dst : List A) (d : A) (i : ℕ) → i < length src → i < length dst → set (take i src ++ drop i dst) i (get_or src i d) ≡ take (suc i) src ++ drop (suc i) dst
store [] dst d i h k = absurd (not-suc-le-zero h)
store (x ∷ xs) [] d i h k = absurd (not-suc-le-zero k)
store (x ∷ xs) (y ∷ ys) d zero h k = refl
store (x ∷ xs) (y ∷ ys) d (suc i) h k = ap (λ l. x ∷ l) (store xs ys d i (le_of_suc-le-suc h) (le_of_suc-le-suc k))

module _ {A : Type 0} (numbers out₀ out : List A) (i : ℕ) (m : length numbers ≤ length out₀) (inv : out ≡ take i numbers ++ drop i out₀) where
  pub put-more : (d : A) → i < length numbers → set out i (get_or numbers i d) ≡ take (i + 1) numbers ++ drop (i + 1) out₀
  put-more d h =
      ap (λ l. set l i (get_or numbers i d)) inv
      ∙ store numbers out₀ d i h (omega arith)
      ∙ ap (λ (n : ℕ). take n numbers ++ drop n out₀) (sym (add-one i))

  pub put_all : length numbers ≤ i → i ≤ length numbers → out ≡ laid numbers out₀
  unfolding laid
  put_all h k = inv ∙ ap (λ (n : ℕ). take n numbers ++ drop n out₀) (le_antisymm k h) ∙ ap (λ l. l ++ drop (length numbers) out₀) (take_all (length numbers) numbers (omega arith))

pub length-put : {A : Type 0} (out out₀ : List A) (i : ℕ) (x : A) → length out ≡ length out₀ → length (set out i x) ≡ length out₀
length-put out out₀ i x h = length-set out i x ∙ h

-- ---- a slice that has room, and one that has not

pub short-is : {A B : Type 0} (size : ℕ) (lent : List B) (a b : A) → length lent < size → a ≡ room_for size lent a b
unfolding room_for
short-is size lent a b h = let z : ltb (length lent) size ≡ true = lt-ltb _ _ h in rw z

pub enough-is : {A B : Type 0} (size : ℕ) (lent : List B) (a b r : A) → size ≤ length lent → r ≡ b → r ≡ room_for size lent a b
unfolding room_for
enough-is size lent a b r h e = let z : ltb (length lent) size ≡ false = le-ltb _ _ h in rw z e

-- what is told of an answer v, which is the answer w; the same with what is lent, and of a state v with two things more
pub is-told : {S A : Type 0} (f : S → A) (v w : S) (r : A) → v ≡ w → r ≡ f v → r ≡ f w
is-told f v w r e p = p ∙ ap f e

pub is-left : {S A B : Type 0} (f : S → B → A) (v w : S) (lent : B) (r : A) → v ≡ w → r ≡ f v lent → r ≡ f w lent
is-left f v w lent r e p = is-told (λ x. f x lent) v w r e p

pub is-done : {S A B C : Type 0} (f : S → B → C → A) (v w : S) (b : B) (c : C) (r : A) → v ≡ w → r ≡ f v b c → r ≡ f w b c
is-done f v w b c r e p = is-told (λ x. f x b c) v w r e p

module _ (size : ℕ) (lent : List ℕ) (told : Told) (h : length lent < size) where
  pub answered-short : 9 ≡ answered size lent told
  unfolding answered
  answered-short = short-is size lent 9 told.number h

  pub lent-short : lent ≡ lent_after size lent told
  unfolding lent_after
  lent-short = short-is size lent lent (laid told.numbers lent) h

module _ {S : Type 0} (f : S → Told) (size : ℕ) (lent : List ℕ) (v w : S) where
  pub answered-by : (r : ℕ) → size ≤ length lent → v ≡ w → r ≡ (f v).number → r ≡ answered size lent (f w)
  unfolding answered
  answered-by r h e p = enough-is size lent 9 (f w).number r h (is-told (λ x. (f x).number) v w r e p)

  pub lent_by : (now : List ℕ) → size ≤ length lent → v ≡ w → now ≡ laid (f v).numbers lent → now ≡ lent_after size lent (f w)
  unfolding lent_after
  lent_by now h e p = enough-is size lent lent (laid (f w).numbers lent) now h (is-told (λ x. laid (f x).numbers lent) v w now e p)

-- ---- an arm of a `match` on a, which is v there

pub arm : {S A : Type 0} (f : S → A) (a v : S) (r : A) → a ≡ v → r ≡ f v → r ≡ f a
arm f a v r e p = p ∙ ap f (sym e)

-- what is said of a with what is lent
pub arm-of : {S A B : Type 0} (f : S → B → A) (a v : S) (lent : B) (r : A) → a ≡ v → r ≡ f v lent → r ≡ f a lent
arm-of f a v lent r e p = arm (λ x. f x lent) a v r e p

-- the number and the numbers told of a
module _ {S : Type 0} (told : S → Told) (a v : S) where
  pub number_in : (n : ℕ) → a ≡ v → n ≡ (told v).number → n ≡ (told a).number
  number_in n e p = arm (λ x. (told x).number) a v n e p

  pub numbers-in : (lent now : List ℕ) → a ≡ v → now ≡ laid (told v).numbers lent → now ≡ laid (told a).numbers lent
  numbers-in lent now e p = arm (λ x. laid (told x).numbers lent) a v now e p

-- ---- numbers that are others, one by one

pub cons-as : (x y : ℕ) (xs ys : List ℕ) → x ≡ y → xs ≡ ys → x ∷ xs ≡ y ∷ ys
cons-as x y xs ys e f = ap₂ (λ (x : ℕ) (xs : List ℕ). x ∷ xs) e f

-- ---- numbers that took the first places, and nothing that is laid

pub laid-behind : {A : Type 0} (numbers lent part : List A) → part ≡ numbers → part ++ drop (length numbers) lent ≡ laid numbers lent
unfolding laid
laid-behind numbers lent part e = ap (λ l. l ++ drop (length numbers) lent) e

pub laid_none : {A : Type 0} (lent : List A) → lent ≡ laid [] lent
unfolding laid
laid_none lent = refl

-- ---- a number, or the highest that counts

min-is : (most x : ℕ) → min x most ≡ at_most most x
unfolding at_most
min-is most x = go (ltb x most) refl
  where
    go : (b : Bool) → ltb x most ≡ b → min x most ≡ cond b x most
    go true e = omega (arith, ltb-true x most e)
    go false e = omega (arith, ltb-false x most e)

pub most-is : (most x m : ℕ) → m ≡ min x most → m ≡ at_most most x
most-is most x m e = e ∙ min-is most x

-- ---- a refusal and its place in one number

pub answer-made : (fault : Fault) (number sf m at n : ℕ) → number ≡ number_of fault.refusal → sf ≡ sf_in fault.place → m ≡ min sf most_sf → at ≡ at_in fault.place → n ≡ min at most_place
    → number + (256 * m + 4294967296 * n) ≡ answer_of fault
unfolding answer_of
answer-made fault number sf m at n e s p a q =
    ap₂ (λ x y. x + y) e
    (ap₂ (λ x y. 256 * x + 4294967296 * y) (most-is most_sf sf m p ∙ ap (at_most most_sf) s) (most-is most_place at n q ∙ ap (at_most most_place) a))
