-- What the two returns of `counted` say.
use Rattle.std.specs.Prelude.{◌≡◌, ℕ, ◌+◌, ◌^◌, ◌≤◌, ◌<◌}
use Rattle.std.proofs.Common.{arith, lt-ltb, le-ltb}
use Rattle.sizes.specs.Sizes.{sheet_room}
use Rattle.rows.specs.Puts.{onward}

pub onward-over : (count width : ℕ) → sheet_room < count → (count ≡ onward count width) × (count < 2 ^ 33 → count < 2 ^ 33)
onward-over count width h = (rw (lt-ltb sheet_room count h), λ k. k)

pub onward-more : (count width : ℕ) → count ≤ sheet_room → width < 2 ^ 32 → (count + width ≡ onward count width) × (count < 2 ^ 33 → count + width < 2 ^ 33)
onward-more count width h k = (rw (le-ltb sheet_room count h), λ _. omega arith)
