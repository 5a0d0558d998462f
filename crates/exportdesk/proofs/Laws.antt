-- Laws: two slices that have room, and one that has not.
use mathlib.Core.Path.{◌≡◌}
use mathlib.Core.List.{List}
use Prim.Native.Nat.{ℕ, ◌≤◌, ◌<◌}
use lib.ListN.{length}
use Rattle.export.proofs.Laws.{short-is, enough-is}
use Rattle.exportdesk.specs.Rooms.{both_rooms}

module _ {A : Type 0} (m : ℕ) (first : List ℕ) (n : ℕ) (second : List ℕ) (a b : A) where
  pub first_short : length first < m → a ≡ both_rooms m first n second a b
  unfolding both_rooms
  first_short h = short-is _ _ _ _ h

  pub second_short : m ≤ length first → length second < n → a ≡ both_rooms m first n second a b
  unfolding both_rooms
  second_short g h = enough-is _ _ _ _ _ g (short-is _ _ _ _ h)

  pub both-are : (r : A) → m ≤ length first → n ≤ length second → r ≡ b → r ≡ both_rooms m first n second a b
  unfolding both_rooms
  both-are r g h e = enough-is _ _ _ _ _ g (enough-is _ _ _ _ _ h e)
