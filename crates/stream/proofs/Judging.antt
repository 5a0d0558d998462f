-- The returns of `is_sound`, in plain values: each test is one part of the definition.
use mathlib.Core.Path.{◌≡◌, sym, ap, ◌∙◌}
use mathlib.Core.List.{List}
use mathlib.Core.Bool.{Bool, true, false, not, ◌&&◌, ◌||◌, and-false}
use Prim.Native.Nat.{ℕ, ◌-◌, ◌≤◌, ◌<◌}
use lib.ListN.{take, drop}
use lib.Dec.{leb, eqb}
use borrow.Author.Tests.{lt-ltb, le-ltb, lt-leb, le-leb, eq-eqb, ne_eqb, not-true, not-false}
use Rattle.sizes.specs.Sizes.{longest_frame, most_noise}
use Rattle.frame.specs.declared.Frame.{Frame}
use Rattle.frame.specs.declared.Checked.{Checked}
use Rattle.frame.specs.declared.Checked.TheVariants.{Accepted}
use Rattle.frame.specs.Check.{checked}
use Rattle.stream.specs.declared.Tray.{Tray}
use Rattle.stream.specs.Tray.{zeros, is_frame, sound}
use Rattle.stream.proofs.Parts.{part-is}

module _ (bytes : List ℕ) (tray : Tray) where
  pub unsound-held : longest_frame < tray.held → false ≡ sound bytes tray
  unfolding sound
  unsound-held h = rw (lt-leb tray.held longest_frame h)

  pub unsound-noise : most_noise ≤ tray.noise → false ≡ sound bytes tray
  unfolding sound
  unsound-noise h = rw (le-ltb tray.noise most_noise h, and-false (leb tray.held longest_frame && zeros (drop tray.held (take longest_frame bytes))))

  module _ (r : Bool) (q : r ≡ zeros (take (longest_frame - tray.held) (drop tray.held bytes))) where
    pub unsound-zeros : not r ≡ true → false ≡ sound bytes tray
    unfolding sound
    unsound-zeros e =
        let z : zeros (drop tray.held (take longest_frame bytes)) ≡ false = sym (ap zeros (part-is bytes tray.held longest_frame)) ∙ sym q ∙ not-true r e in
        rw (z, and-false (leb tray.held longest_frame))

    module _ (e : not r ≡ false) (h : tray.held ≤ longest_frame) (n : tray.noise < most_noise) where
      pub so_far : sound bytes tray ≡ (eqb tray.shown 0 || is_frame tray.shown (checked (take tray.held bytes)))
      unfolding sound
      so_far =
          let z : zeros (drop tray.held (take longest_frame bytes)) ≡ true = sym (ap zeros (part-is bytes tray.held longest_frame)) ∙ sym q ∙ not-false r e in
          rw (z, le-leb tray.held longest_frame h, lt-ltb tray.noise most_noise n)

      pub sound_none : tray.shown ≡ 0 → true ≡ sound bytes tray
      sound_none s = sym (so_far ∙ rw (eq-eqb tray.shown 0 s))

      pub sound-shown : (v : Checked) (s : Bool) → v ≡ checked (take tray.held bytes) → s ≡ is_frame tray.shown v → (tray.shown ≡ 0 → ⊥) → s ≡ sound bytes tray
      sound-shown v s w a n = sym (so_far ∙ rw (ne_eqb tray.shown 0 n, ← w) (sym a))

pub frame-case : (n : ℕ) (v : Checked) (f : Frame) → v ≡ Accepted f → eqb f.length n ≡ is_frame n v
frame-case n v f e = rw e
