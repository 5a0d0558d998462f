-- Serves proofs, and is proved: of each ID an area, the one with all other fields 0. Assumes nothing.
use Rattle.std.specs.Prelude.{◌≡◌, true, false, not, ◌&&◌, ℕ, ◌*◌, ◌^◌, ◌<◌, leb, ltb}
use Rattle.std.proofs.Common.{ap, ap₂, ◌∙◌, zero-mul, arith, lt-ltb}
use Rattle.area.specs.Area.{sf031, sf032, sf033, sf034, latitude_spacing, in_range, area_off, is_area}

unfoldable pub plain : ℕ → ℕ
plain id = id * 2 ^ 39

pub plain-id : (id : ℕ) → id < 256 → sf031 (plain id) ≡ id
unfolding plain
plain-id id h = omega arith

pub plain-on : (id : ℕ) → area_off (plain id) ≡ false
unfolding plain area_off
plain-on id =
    let z₀ : sf032 (id * 2 ^ 39) ≡ 0 = omega arith in
    let z₁ : sf034 (id * 2 ^ 39) ≡ 0 = omega arith in
    ap₂ ltb z₀ (ap (λ x. x * latitude_spacing (id * 2 ^ 39)) z₁ ∙ zero-mul (latitude_spacing (id * 2 ^ 39)))

pub plain-area : (id : ℕ) → id < 256 → is_area (plain id) ≡ true
unfolding is_area plain
plain-area id h =
    let z₀ : ltb (id * 2 ^ 39) (2 ^ 47) ≡ true = lt-ltb (id * 2 ^ 39) (2 ^ 47) (omega arith) in
    let z₁ : sf032 (id * 2 ^ 39) ≡ 0 = omega arith in
    let z₂ : sf033 (id * 2 ^ 39) ≡ 0 = omega arith in
    let z₃ : in_range (id * 2 ^ 39) ≡ true = ap₂ (λ x y. leb x 1800 && leb y 3600) z₁ z₂ in
    ap₂ (λ x y. x && y) z₀ (ap₂ (λ x y. x && not y) z₃ (plain-on id))
