-- Laws of bits as bytes, and of the bytes that a put leaves. They serve proofs and are proved.
use Rattle.std.specs.Prelude.{◌≡◌, refl, List, [], ◌∷◌, ◌++◌, ℕ, zero, suc, ◌+◌, ◌*◌, ◌/◌, ◌%◌, ◌^◌, ◌≤◌, ◌<◌, length, take, drop}
use Rattle.std.proofs.Common.{sym, ap, ap₂, ◌∙◌, append_assoc, lt_of_lt_of_le, arith, length-take, length-drop, take-append-drop, length-take-le, take_at, drop_at, drop-drop, pow_mono}
use Rattle.std.proofs.Math.Pow.{high}
use Rattle.bits.specs.Bits.{bits_of, to_bits, number, Bits, none, more, Bytes, put_to}
use Rattle.bits.specs.Laws.{length-bits_of, bits_of-add, bits_of-low, number_lt, number-bits_of, bits_of_number, length-to_bits, to_bits-append, to_bits-take, to_bits-drop, to_bits-injective, bits-bits_of, bits-to_bits, bits-take, bits-drop, bytes-none, bytes-cons, bytes-append, bytes_take, bytes_drop}
use Rattle.frame.specs.Write.{bytes_of}

-- ---- bits as bytes

pub length-bytes_of : (n : ℕ) (bits : List ℕ) → length (bytes_of n bits) ≡ n
unfolding bytes_of
length-bytes_of zero bits = refl
length-bytes_of (suc n) bits = ap suc (length-bytes_of n (drop 8 bits))

pub bytes-bytes_of : (n : ℕ) {bits : List ℕ} → Bits bits → Bytes (bytes_of n bits)
unfolding bytes_of
bytes-bytes_of zero h = bytes-none
bytes-bytes_of (suc n) {bits} h =
    bytes-cons (lt_of_lt_of_le (number_lt (bits-take 8 h)) (pow_mono {i = length (take 8 bits)} {j = 8} (omega (arith, length-take 8 bits)))) (bytes-bytes_of n (bits-drop 8 h))

pub to_bits-bytes_of : (n : ℕ) {bits : List ℕ} → Bits bits → length bits ≡ 8 * n → to_bits (bytes_of n bits) ≡ bits
unfolding bytes_of to_bits
to_bits-bytes_of zero none e = refl
to_bits-bytes_of zero (more h r) e = absurd (omega arith)
to_bits-bytes_of (suc n) {bits} h e =
    let len : length (take 8 bits) ≡ 8 = length-take-le 8 bits (omega arith) in
    ap₂ (λ (a b : List ℕ). a ++ b)
    (ap (λ (w : ℕ). bits_of w (number (take 8 bits))) (sym len) ∙ bits_of_number (bits-take 8 h))
    (to_bits-bytes_of n (bits-drop 8 h) (omega (arith, length-drop 8 bits)))
    ∙ take-append-drop 8 bits

pub bytes_of-to_bits : {s : List ℕ} → Bytes s → bytes_of (length s) (to_bits s) ≡ s
bytes_of-to_bits {s} r = to_bits-injective (bytes-bytes_of (length s) (bits-to_bits s)) r (to_bits-bytes_of (length s) (bits-to_bits s) (length-to_bits s))

-- two codes side by side are one
pub join : (a b x y : ℕ) → y < 2 ^ b → bits_of (a + b) (x * 2 ^ b + y) ≡ bits_of a x ++ bits_of b y
join a b x y h = bits_of-add a b (x * 2 ^ b + y) ∙ ap₂ (λ (u v : List ℕ). u ++ v) (ap (bits_of a) (high x b h)) (bits_of-low b x y)

-- a code put at whole bytes
pub put-bytes : {s t : List ℕ} (a k code : ℕ) → Bytes s → Bytes t → a + k ≤ length s → to_bits t ≡ put_to (to_bits s) (8 * a) (8 * k) code
    → t ≡ take a s ++ (bytes_of k (bits_of (8 * k) code) ++ drop (a + k) s)
put-bytes {s} {t} a k code bs bt h e =
    let new : List ℕ = bytes_of k (bits_of (8 * k) code) in
    let at : 8 * (a + k) ≡ 8 * a + 8 * k = omega arith in
    to_bits-injective bt (bytes-append (bytes_take a bs) (bytes-append (bytes-bytes_of k (bits-bits_of (8 * k) code)) (bytes_drop (a + k) bs)))
    (e
    ∙ sym
    (to_bits-append (take a s) (new ++ drop (a + k) s)
    ∙ ap₂ (λ (u v : List ℕ). u ++ v) (to_bits-take a s (omega arith))
    (to_bits-append new (drop (a + k) s)
    ∙ ap₂ (λ (u v : List ℕ). u ++ v) (to_bits-bytes_of k (bits-bits_of (8 * k) code) (length-bits_of (8 * k) code))
    (to_bits-drop (a + k) s h ∙ ap (λ (z : ℕ). drop z (to_bits s)) at))))

-- the bytes of a code, from the first
pub first_byte : (n x : ℕ) → bytes_of (suc n) (bits_of (8 + 8 * n) x) ≡ (x / 2 ^ (8 * n) % 256) ∷ bytes_of n (bits_of (8 * n) x)
unfolding bytes_of
first_byte n x =
    let a : List ℕ = bits_of 8 (x / 2 ^ (8 * n)) in
    let b : List ℕ = bits_of (8 * n) x in
    ap (λ (l : List ℕ). number (take 8 l) ∷ bytes_of n (drop 8 l)) (bits_of-add 8 (8 * n) x)
    ∙ ap₂ (λ (u v : List ℕ). number u ∷ bytes_of n v) (take_at a b 8 (length-bits_of 8 _)) (drop_at a b 8 (length-bits_of 8 _))
    ∙ ap (λ (u : ℕ). u ∷ bytes_of n b) (number-bits_of 8 (x / 2 ^ (8 * n)))

pub four_bytes : (x : ℕ) → bytes_of 4 (bits_of 32 x) ≡ (x / 2 ^ 24 % 256) ∷ (x / 2 ^ 16 % 256) ∷ (x / 2 ^ 8 % 256) ∷ (x / 1 % 256) ∷ []
unfolding bytes_of
four_bytes x =
    first_byte 3 x
    ∙ ap (λ (l : List ℕ). (x / 2 ^ 24 % 256) ∷ l)
    (first_byte 2 x ∙ ap (λ (l : List ℕ). (x / 2 ^ 16 % 256) ∷ l) (first_byte 1 x ∙ ap (λ (l : List ℕ). (x / 2 ^ 8 % 256) ∷ l) (first_byte 0 x)))

-- what was done is kept, and new bytes are laid behind it
pub over : (done new o out out' : List ℕ) (a b : ℕ) → a ≡ length done → b ≡ a + length new → out ≡ done ++ drop a o → b ≤ length o
    → out' ≡ take a out ++ (new ++ drop b out) → out' ≡ (done ++ new) ++ drop b o
over done new o out out' a b ea eb e h q =
    let n : ℕ = length new in
    let rest : drop b out ≡ drop b o
    = ap (λ (z : ℕ). drop z out) eb ∙ sym (drop-drop n a out) ∙ ap (drop n) (ap (drop a) e ∙ drop_at done (drop a o) a (sym ea)) ∙ drop-drop n a o
    ∙ ap (λ (z : ℕ). drop z o) (sym eb) in
    q ∙ ap₂ (λ (u v : List ℕ). u ++ (new ++ v)) (ap (take a) e ∙ take_at done (drop a o) a (sym ea)) rest ∙ sym (append_assoc done new (drop b o))
