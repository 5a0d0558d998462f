-- Serves proofs, and is proved: an area and its six bytes say the same. Assumes nothing.
use Rattle.std.specs.Prelude.{◌≡◌, refl, Bool, true, false, ◌&&◌, List, [], ◌∷◌, ◌++◌, ℕ, ◌+◌, ◌*◌, ◌/◌, ◌%◌, ◌^◌, ◌≤◌, ◌<◌, length, take}
use Rattle.std.proofs.Common.{ap, ap₂, ◌∙◌, mul-le-mul, arith, le-ltb, ltb-true}
use Rattle.std.proofs.lemmas.Bool.{false≢true}
use Rattle.bits.specs.Bits.{Bytes}
use Rattle.bits.specs.Laws.{bytes-none, bytes-cons}
use Rattle.area.specs.Area.{sf032, sf034, rows, columns, latitude_spacing, nodes, area_off, is_area, bytes_of, number_in}

pub bytes-area : (a : ℕ) → Bytes (bytes_of a)
bytes-area a =
    bytes-cons (omega arith) (bytes-cons (omega arith) (bytes-cons (omega arith) (bytes-cons (omega arith) (bytes-cons (omega arith) (bytes-cons (omega arith) bytes-none)))))

pub number-bytes : (a : ℕ) (t : List ℕ) → a < 2 ^ 47 → number_in (bytes_of a ++ t) ≡ 2 * a
number-bytes a t h =
    let b₁ : ℕ = a / 2 ^ 31 % 256 in
    let b₂ : ℕ = a / 2 ^ 23 % 256 in
    let b₃ : ℕ = a / 2 ^ 15 % 256 in
    let b₄ : ℕ = a / 2 ^ 7 % 256 in
    let b₅ : ℕ = a % 2 ^ 7 * 2 in
    ap (λ x. ((((x * 256 + b₁) * 256 + b₂) * 256 + b₃) * 256 + b₄) * 256 + b₅) (first a h)
    ∙ ap (λ x. (((x * 256 + b₂) * 256 + b₃) * 256 + b₄) * 256 + b₅) (next₁ a)
    ∙ ap (λ x. ((x * 256 + b₃) * 256 + b₄) * 256 + b₅) (next₂ a)
    ∙ ap (λ x. (x * 256 + b₄) * 256 + b₅) (next₃ a)
    ∙ ap (λ x. x * 256 + b₅) (next₄ a)
    ∙ last a
  where
    first : (a : ℕ) → a < 2 ^ 47 → a / 2 ^ 39 % 256 ≡ a / 2 ^ 39
    first a h = omega arith

    next₁ : (a : ℕ) → a / 2 ^ 39 * 256 + a / 2 ^ 31 % 256 ≡ a / 2 ^ 31
    next₁ a = omega arith

    next₂ : (a : ℕ) → a / 2 ^ 31 * 256 + a / 2 ^ 23 % 256 ≡ a / 2 ^ 23
    next₂ a = omega arith

    next₃ : (a : ℕ) → a / 2 ^ 23 * 256 + a / 2 ^ 15 % 256 ≡ a / 2 ^ 15
    next₃ a = omega arith

    next₄ : (a : ℕ) → a / 2 ^ 15 * 256 + a / 2 ^ 7 % 256 ≡ a / 2 ^ 7
    next₄ a = omega arith

    last : (a : ℕ) → a / 2 ^ 7 * 256 + a % 2 ^ 7 * 2 ≡ 2 * a
    last a = omega arith

pub half-number : (a : ℕ) → 2 * a / 2 ≡ a
half-number a = omega arith

-- six bytes whose last bit is zero are those of half the number that they say
pub bytes-number : (s : List ℕ) → Bytes s → 6 ≤ length s → number_in s % 2 ≡ 0 → bytes_of (number_in s / 2) ≡ take 6 s
bytes-number [] b h e = absurd (omega arith)
bytes-number (x₀ ∷ []) b h e = absurd (omega arith)
bytes-number (x₀ ∷ x₁ ∷ []) b h e = absurd (omega arith)
bytes-number (x₀ ∷ x₁ ∷ x₂ ∷ []) b h e = absurd (omega arith)
bytes-number (x₀ ∷ x₁ ∷ x₂ ∷ x₃ ∷ []) b h e = absurd (omega arith)
bytes-number (x₀ ∷ x₁ ∷ x₂ ∷ x₃ ∷ x₄ ∷ []) b h e = absurd (omega arith)
bytes-number (x₀ ∷ x₁ ∷ x₂ ∷ x₃ ∷ x₄ ∷ x₅ ∷ s) b h e =
    six x₀ x₁ x₂ x₃ x₄ x₅ (b.byte 0) (b.byte 1) (b.byte 2) (b.byte 3) (b.byte 4) (b.byte 5) e
  where
    six : (x₀ x₁ x₂ x₃ x₄ x₅ : ℕ) → x₀ < 256 → x₁ < 256 → x₂ < 256 → x₃ < 256 → x₄ < 256 → x₅ < 256
        → (((((x₀ * 256 + x₁) * 256 + x₂) * 256 + x₃) * 256 + x₄) * 256 + x₅) % 2 ≡ 0
        → bytes_of ((((((x₀ * 256 + x₁) * 256 + x₂) * 256 + x₃) * 256 + x₄) * 256 + x₅) / 2) ≡ x₀ ∷ x₁ ∷ x₂ ∷ x₃ ∷ x₄ ∷ x₅ ∷ []
    six x₀ x₁ x₂ x₃ x₄ x₅ h₀ h₁ h₂ h₃ h₄ h₅ e =
        let n : ℕ = ((((x₀ * 256 + x₁) * 256 + x₂) * 256 + x₃) * 256 + x₄) * 256 + x₅ in
        let e₀ : n / 2 / 2 ^ 39 % 256 ≡ x₀ = omega arith in
        let e₁ : n / 2 / 2 ^ 31 % 256 ≡ x₁ = omega arith in
        let e₂ : n / 2 / 2 ^ 23 % 256 ≡ x₂ = omega arith in
        let e₃ : n / 2 / 2 ^ 15 % 256 ≡ x₃ = omega arith in
        let e₄ : n / 2 / 2 ^ 7 % 256 ≡ x₄ = omega arith in
        let e₅ : n / 2 % 2 ^ 7 * 2 ≡ x₅ = omega arith in
        ap₂ (λ x l. x ∷ l) e₀ (ap₂ (λ x l. x ∷ l) e₁ (ap₂ (λ x l. x ∷ l) e₂ (ap₂ (λ x l. x ∷ l) e₃ (ap₂ (λ x l. x ∷ l) e₄ (ap (λ x. x ∷ []) e₅)))))

-- both of two tests hold
pub both_left : (a b : Bool) → (a && b) ≡ true → a ≡ true
both_left true b e = refl
both_left false b e = e

pub both_right : (a b : Bool) → (a && b) ≡ true → b ≡ true
both_right true b e = e
both_right false b e = absurd (false≢true e)

-- an area has 47 bits
pub area-lt : (a : ℕ) → is_area a ≡ true → a < 2 ^ 47
unfolding is_area
area-lt a e = ltb-true a (2 ^ 47) (both_left _ _ e)

-- no grid reaches further south than 7 times 32 tenths of a degree
pub not-off : (a : ℕ) → 224 ≤ sf032 a → area_off a ≡ false
unfolding area_off
not-off a h =
    let m : sf034 a * latitude_spacing a ≤ 224 = mul-le-mul {n₁ = sf034 a} {m₁ = latitude_spacing a} {n₂ = 7} {m₂ = 32} (omega arith) (omega arith) in
    le-ltb (sf032 a) (sf034 a * latitude_spacing a) (omega arith)

-- an area has one node or more, and at most 64
pub nodes-some : (a : ℕ) → 1 ≤ nodes a
nodes-some a = mul-le-mul {n₁ = 1} {m₁ = 1} {n₂ = rows a} {m₂ = columns a} (omega arith) (omega arith)

pub nodes-few : (a : ℕ) → nodes a ≤ 64
nodes-few a = mul-le-mul {n₁ = rows a} {m₁ = columns a} {n₂ = 8} {m₂ = 8} (omega arith) (omega arith)
