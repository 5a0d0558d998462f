-- Laws: what is told of a view, in numbers and floats.
use mathlib.Core.Path.{◌≡◌}
use mathlib.Core.List.{List, [], ◌∷◌}
use Prim.Native.Nat.{ℕ, ◌≤◌, ◌<◌}
use native.Mathlib.Omega.{arith}
use lib.Ieee.{Float}
use lib.ListN.{length}
use Rattle.export.specs.Numbers.{laid, stored}
use Rattle.export.specs.Stored.{stored_there}
use Rattle.export.proofs.Laws.{short-is, enough-is, is-told, arm}
use Rattle.views.specs.declared.satellites.Satellite.{Satellite}
use Rattle.exportviews.specs.Satellites.{satellite_room, use_numbers, use_floats}
use Rattle.exportviews.specs.Views.{Told, rooms, number_told, view_after, floats_after}

-- ---- an arm of a `match` on the answer a, which is v there

module _ {S : Type 0} (told : S → Told) (a v : S) where
  pub number_of : (n : ℕ) → a ≡ v → n ≡ (told v).number → n ≡ (told a).number
  number_of n e p = arm (λ x. (told x).number) a v n e p

  pub numbers_of : (lent now : List ℕ) → a ≡ v → now ≡ laid (told v).numbers lent → now ≡ laid (told a).numbers lent
  numbers_of lent now e p = arm (λ x. laid (told x).numbers lent) a v now e p

  pub floats-of : (lent now : List Float) → a ≡ v → now ≡ laid (told v).floats lent → now ≡ laid (told a).floats lent
  floats-of lent now e p = arm (λ x. laid (told x).floats lent) a v now e p

-- a satellite a, which is v there: out of use, or in use
module _ (a v : Satellite) where
  pub use-numbers : (number : ℕ) (lent now : List ℕ) → a ≡ v → now ≡ laid (use_numbers number v) lent → now ≡ laid (use_numbers number a) lent
  use-numbers number lent now e p = arm (λ x. laid (use_numbers number x) lent) a v now e p

  pub use-floats : (lent now : List Float) → a ≡ v → now ≡ laid (use_floats v) lent → now ≡ laid (use_floats a) lent
  use-floats lent now e p = arm (λ x. laid (use_floats x) lent) a v now e p

-- ---- slices that have room, and one that has not

module _ {A : Type 0} (m : ℕ) (view : List ℕ) (n : ℕ) (floats : List Float) (a b : A) where
  view-short : length view < m → a ≡ rooms m view n floats a b
  unfolding rooms
  view-short h = short-is _ _ _ _ h

  floats-short : m ≤ length view → length floats < n → a ≡ rooms m view n floats a b
  unfolding rooms
  floats-short g h = enough-is _ _ _ _ _ g (short-is _ _ _ _ h)

  both-are : (r : A) → m ≤ length view → n ≤ length floats → r ≡ b → r ≡ rooms m view n floats a b
  unfolding rooms
  both-are r g h e = enough-is _ _ _ _ _ g (enough-is _ _ _ _ _ h e)

module _ (m : ℕ) (view : List ℕ) (n : ℕ) (floats : List Float) (told : Told) where
  module _ (h : length view < m) where
    pub number-no-view : 9 ≡ number_told m view n floats told
    unfolding number_told
    number-no-view = view-short m view n floats 9 told.number h

    pub view-no-view : view ≡ view_after m view n floats told
    unfolding view_after
    view-no-view = view-short m view n floats view (laid told.numbers view) h

    pub floats-no-view : floats ≡ floats_after m view n floats told
    unfolding floats_after
    floats-no-view = view-short m view n floats floats (laid told.floats floats) h

  module _ (g : m ≤ length view) (h : length floats < n) where
    pub number-no-floats : 9 ≡ number_told m view n floats told
    unfolding number_told
    number-no-floats = floats-short m view n floats 9 told.number g h

    pub view-no-floats : view ≡ view_after m view n floats told
    unfolding view_after
    view-no-floats = floats-short m view n floats view (laid told.numbers view) g h

    pub floats-no-floats : floats ≡ floats_after m view n floats told
    unfolding floats_after
    floats-no-floats = floats-short m view n floats floats (laid told.floats floats) g h

-- what is told of an answer v, which is the answer w
module _ {S : Type 0} (told : S → Told) (m : ℕ) (view : List ℕ) (n : ℕ) (floats : List Float) (v w : S) where
  pub number_by : (r : ℕ) → m ≤ length view → n ≤ length floats → v ≡ w → r ≡ (told v).number → r ≡ number_told m view n floats (told w)
  unfolding number_told
  number_by r g h e p = both-are m view n floats 9 (told w).number r g h (is-told (λ x. (told x).number) v w r e p)

  pub view-by : (now : List ℕ) → m ≤ length view → n ≤ length floats → v ≡ w → now ≡ laid (told v).numbers view → now ≡ view_after m view n floats (told w)
  unfolding view_after
  view-by now g h e p = both-are m view n floats view (laid (told w).numbers view) now g h (is-told (λ x. laid (told x).numbers view) v w now e p)

  pub floats-by : (now : List Float) → m ≤ length view → n ≤ length floats → v ≡ w → now ≡ laid (told v).floats floats → now ≡ floats_after m view n floats (told w)
  unfolding floats_after
  floats-by now g h e p = both-are m view n floats floats (laid (told w).floats floats) now g h (is-told (λ x. laid (told x).floats floats) v w now e p)

-- ---- two numbers in a slice that has room for a satellite

pub two-there : (x y : ℕ) (lent now : List ℕ) → satellite_room ≤ length lent → now ≡ stored (x ∷ y ∷ []) lent → now ≡ laid (x ∷ y ∷ []) lent
two-there x y lent now h e = stored_there (x ∷ y ∷ []) lent now e (omega (arith, h))
