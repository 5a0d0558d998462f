-- The returns of the functions that move a place, in plain values.
use mathlib.Core.Path.{◌≡◌}
use mathlib.Core.Logic.{⊎_elim}
use mathlib.Core.List.{List}
use Prim.Native.Nat.{ℕ, ◌+◌, ◌-◌, ◌*◌, ◌≤◌, ◌<◌}
use native.Mathlib.Omega.{arith}
use lib.ListN.{length, take}
use lib.Seq.{length-take-le}
use Rattle.frame.specs.Laws.{accepted-length}
use Rattle.stream.specs.declared.Tray.{Tray}
use Rattle.stream.specs.declared.Place.{Place}
use Rattle.stream.specs.Driver.{Ready}
use Rattle.stream.specs.Sound.{sound-parts}
use Rattle.stream.specs.Walk.{to_go, noised}

-- ---- drop_shown

pub held_in : (bytes : List ℕ) (tray : Tray) → Ready bytes tray → tray.held ≤ length bytes
held_in bytes tray r = let s = sound-parts bytes tray r.is-sound in omega (arith, s.held-most, r.room)

pub shown-in : (bytes : List ℕ) (tray : Tray) → Ready bytes tray → tray.shown ≤ tray.held
shown-in bytes tray r =
    ⊎_elim
    (λ e. omega arith)
    (λ w.
    let l : length (take tray.held bytes) ≡ tray.held = length-take-le tray.held bytes (held_in bytes tray r) in
    omega (arith, accepted-length (take tray.held bytes) w.0 w.1, w.2))
    (sound-parts bytes tray r.is-sound).shown-fits

-- ---- noisy

module _ (place place' : Place) (s : place' ≡ noised place) where
  pub noised-start : place.start < place.held → place'.start ≤ place'.held
  noised-start h = rw s (omega arith)

  pub noised-old : place.start < place.held → place'.start ≤ place.held
  noised-old h = rw s (omega arith)

  pub noised-nearer : (input : List ℕ) → place.start < place.held → to_go place' input < to_go place input
  noised-nearer input h = rw s (nearer (3 * (length input - place.used)) place.held place.start h)
    where
      nearer : (n h b : ℕ) → b < h → n + (h - (b + 1)) + h < n + (h - b) + h
      nearer n h b l = omega arith
