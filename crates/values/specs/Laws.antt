-- What the definitions of Values.antt come to, each law once over the table or over all step counts. They are proved.
use Rattle.std.specs.Prelude.{◌≡◌, refl, List, [], ◌∷◌, Bool, true, false, cond, ◌&&◌, ℕ, zero, suc, ◌-◌, ◌*◌, ◌^◌, ◌≤◌, ◌<◌, T, leb, ltb, eqb, ℤ, pos, negsuc, ◌-ℤ◌, Float}
use Rattle.std.proofs.Common.{sym, ap, ap₂, subst, ◌∙◌, mul-one, mul_assoc, mul_comm, mul-pos, lt_of_lt_of_le, le_of_lt, arith, leb→le, ltb→lt, lit<, lit≤, shl_lt, ne_eqb, le-leb}
use Rattle.std.proofs.Math.IntN.{+ℤ_invr}
use Rattle.std.specs.Float.{nan, inf, fin, Format, binary64}
use Rattle.std.specs.Float.Ieee.{up, down, round, div, of_int, unlike}
use Rattle.std.specs.Float.Ieee.Fits.{down_pos, and_l, and_r}
use Rattle.std.specs.Float.Ieee.Exact.{HasValue, round_exact}
use Rattle.std.specs.Float.Ieee.Back.{round_whole}
use Rattle.std.specs.Float.Ieee.Scale.{round_same}
use Rattle.fields.specs.Fields.{Meaning, tecu, residual_tecu, Steps, about, one_more_of, sixfold, spacings, Means, nothing, counts, Line, table, or_else, find, line_of}
use Rattle.fields.specs.Columns.{middle_of}
use Rattle.values.specs.Values.{half_degrees, step_count, quotient, meant, value_by, value_of}
use Rattle.values.specs.declared.Residual.TheVariants as Residual
use Rattle.values.specs.declared.Value.TheVariants.{Tecu, OfResidual}

-- a step count's sign and size
abbrev pub negative : ℤ → Bool
negative (pos n) = false
negative (negsuc n) = true

abbrev pub steps : ℤ → ℕ
steps (pos n) = n
steps (negsuc n) = suc n

-- an integer up to 2 ^ 53 is exact as a float
pub exact : (z : ℤ) → steps z ≤ 2 ^ 53 → HasValue (of_int binary64 z) (negative z) (steps z) 1
unfolding of_int
exact (pos n) h = round_whole binary64 false n h
exact (negsuc n) h = round_whole binary64 true (suc n) h

zero-rounded : round binary64 false 0 1 ≡ fin false 0 (pos 0)
unfolding round
zero-rounded = refl

-- two floats that are a and c, divided
cross_product : (M N a c E D : ℕ) → M ≡ a * E → N ≡ c * D → M * D * c ≡ a * (N * E)
cross_product M N a c E D p q =
    ap (λ (x : ℕ). x * D * c) p
    ∙ mul_assoc (a * E) D c
    ∙ mul_assoc a E (D * c)
    ∙ ap (λ (x : ℕ). a * x) (mul_comm E (D * c) ∙ ap (λ (x : ℕ). x * E) (mul_comm D c ∙ sym q))

like-positive : (s : Bool) → unlike s false ≡ s
like-positive true = refl
like-positive false = refl

above_zero : (n : ℕ) (d : ℤ) (c : ℕ) → 0 < c → n * up d ≡ c * down d → 0 < n * up d
above_zero n d c h q = subst (λ (x : ℕ). 0 < x) (sym q) (mul-pos h (down_pos d))

not-zero : (n : ℕ) (d : ℤ) → 0 < n * up d → eqb n 0 ≡ false
not-zero zero d h = absurd (omega arith)
not-zero (suc n) d h = ne_eqb (suc n) 0 (λ e. omega arith)

finite : (f : Format) (t u : Bool) (m n : ℕ) (e d : ℤ) → eqb n 0 ≡ false → div f (fin t m e) (fin u n d) ≡ round f (unlike t u) (m * up e * down d) (n * up d * down e)
unfolding div
finite f t u m n e d z = rw z refl

divided : (f : Format) (x y : Float) (s : Bool) (a c : ℕ) → 0 < c → HasValue x s a 1 → HasValue y false c 1 → div f x y ≡ round f s a c
divided f nan y s a c h v w = absurd v
divided f (inf t) y s a c h v w = absurd v
divided f (fin t m e) nan s a c h v w = absurd w
divided f (fin t m e) (inf u) s a c h v w = absurd w
divided f (fin t m e) (fin u n d) s a c h v w =
    let p : m * up e ≡ a * down e = sym (mul-one (m * up e)) ∙ v.1 in
    let q : n * up d ≡ c * down d = sym (mul-one (n * up d)) ∙ w.1 in
    let l : 0 < n * up d = above_zero n d c h q in
    finite f t u m n e d (not-zero n d l)
    ∙ ap (λ (b : Bool). round f b (m * up e * down d) (n * up d * down e)) (ap₂ unlike v.0 w.0 ∙ like-positive s)
    ∙ round_same f s (m * up e * down d) (n * up d * down e) a c (mul-pos l (down_pos e)) h (cross_product (m * up e) (n * up d) a c (down e) (down d) p q)

-- "divided once": the quotient is the exact fraction, rounded once
pub rounded-once : (z : ℤ) (n : ℕ) → steps z ≤ 2 ^ 53 → 0 < n → n ≤ 2 ^ 53 → quotient z n ≡ round binary64 (negative z) (steps z) n
unfolding quotient
rounded-once z n h k l = divided binary64 (of_int binary64 z) (of_int binary64 (pos n)) (negative z) (steps z) n k (exact z h) (exact (pos n) l)

-- zero is +0.0 (DECISIONS)
pub zero-over : (n : ℕ) → 0 < n → n ≤ 2 ^ 53 → quotient (pos 0) n ≡ fin false 0 (pos 0)
zero-over n h k = rounded-once (pos 0) n (lit≤ tt) h k ∙ round_same binary64 false 0 n 0 1 h (lit< tt) (omega arith) ∙ zero-rounded

-- "its middle code means zero"
pub middle-means-zero : (middle n : ℕ) → 0 < n → n ≤ 2 ^ 53 → quotient (step_count (about middle) middle) n ≡ fin false 0 (pos 0)
middle-means-zero middle n h k = ap (λ (z : ℤ). quotient z n) (+ℤ_invr (pos middle)) ∙ zero-over n h k

-- "VTEC is exact in quarters": the float is n / 4 itself
fourfold : (n : ℕ) → n * 2 ^ 1074 ≡ n * 2 ^ 1072 * 4
fourfold n = sym (mul_assoc n (2 ^ 1072) 4)

pub quarters : (z : ℤ) → steps z < 2 ^ 53 → HasValue (quotient z 4) (negative z) (steps z) 4
quarters z h =
    subst (λ (x : Float). HasValue x (negative z) (steps z) 4) (sym (rounded-once z 4 (omega arith) (lit< tt) (lit≤ tt)))
    (round_exact binary64 (negative z) (steps z) 4 (steps z) 1072 (lit< tt) h (lt_of_lt_of_le (shl_lt 53 1072 h) (lit≤ tt)) (fourfold (steps z)))

-- ---- over the table

-- every line that has a value divides by at least 1, and its codes and steps are small
abbrev small_means : Means → Bool
small_means nothing = true
small_means (counts s per_unit meaning) = leb (middle_of s) 65535 && (ltb 0 per_unit && leb per_unit 65535)

abbrev small : Line → Bool
small line = leb line.most 65535 && small_means line.means

unfoldable all_small : List Line → Bool
all_small [] = true
all_small (line ∷ lines) = small line && all_small lines

find-small : (lines : List Line) (sf : ℕ) → T (all_small lines) → T (small (find lines sf))
unfolding all_small find
find-small [] sf t = tt
find-small (line ∷ lines) sf t = go (eqb sf line.number) (and_l (small line) (all_small lines) t) (find-small lines sf (and_r (small line) (all_small lines) t))
  where
    go : (b : Bool) → T (small line) → T (small (find lines sf)) → T (small (or_else b line (find lines sf)))
    go true here later = here
    go false here later = later

line_small : (sf : ℕ) → T (small (line_of sf))
unfolding line_of table all_small
line_small sf = find-small table sf tt

-- so few steps are exact
difference : (a b : ℕ) → a ≤ 65535 → b ≤ 65535 → steps (pos a -ℤ pos b) < 2 ^ 53
difference a zero h k = omega arith
difference a (suc b) h k = go (ltb a (suc b))
  where
    go : (t : Bool) → steps (cond t (negsuc (suc b - suc a)) (pos (a - suc b))) < 2 ^ 53
    go true = omega arith
    go false = omega arith

few : (s : Steps) (code : ℕ) → code ≤ 65535 → middle_of s ≤ 65535 → steps (step_count s code) ≤ 2 ^ 53
few (about middle) code h k = le_of_lt (difference code middle h k)
few one_more_of code h k = omega arith
few sixfold code h k = omega arith
few spacings code h k = listed code
  where
    listed : (code : ℕ) → half_degrees code ≤ 2 ^ 53
    listed zero = lit≤ tt
    listed (suc zero) = lit≤ tt
    listed (suc (suc zero)) = lit≤ tt
    listed (suc (suc (suc zero))) = lit≤ tt
    listed (suc (suc (suc (suc n)))) = lit≤ tt

-- the value of every code in a field's range is one exact fraction, rounded once
pub value-rounded-once : (sf : ℕ) (s : Steps) (per_unit : ℕ) (meaning : Meaning) → (line_of sf).means ≡ counts s per_unit meaning → (code : ℕ) → code ≤ (line_of sf).most
    → quotient (step_count s code) per_unit ≡ round binary64 (negative (step_count s code)) (steps (step_count s code)) per_unit
value-rounded-once sf s per_unit meaning e code h =
    let t = line_small sf in
    let c : (line_of sf).most ≤ 65535 = leb→le _ 65535 (and_l (leb (line_of sf).most 65535) (small_means (line_of sf).means) t) in
    let u : T (leb (middle_of s) 65535 && (ltb 0 per_unit && leb per_unit 65535))
    = subst (λ (m : Means). T (small_means m)) e (and_r (leb (line_of sf).most 65535) (small_means (line_of sf).means) t) in
    let d : middle_of s ≤ 65535 = leb→le (middle_of s) 65535 (and_l (leb (middle_of s) 65535) (ltb 0 per_unit && leb per_unit 65535) u) in
    let v = and_r (leb (middle_of s) 65535) (ltb 0 per_unit && leb per_unit 65535) u in
    let f : 0 < per_unit = ltb→lt 0 per_unit (and_l (ltb 0 per_unit) (leb per_unit 65535) v) in
    let g : per_unit ≤ 65535 = leb→le per_unit 65535 (and_r (ltb 0 per_unit) (leb per_unit 65535) v) in
    rounded-once (step_count s code) per_unit (few s code (omega arith) d) f (omega arith)

-- a code in a field's range means its value
pub taken-means : (sf : ℕ) (s : Steps) (per_unit : ℕ) (meaning : Meaning) → (line_of sf).means ≡ counts s per_unit meaning → (code : ℕ) → code ≤ (line_of sf).most
    → value_of sf code ≡ meant meaning s per_unit code
unfolding value_of
taken-means sf s per_unit meaning e code h = ap (λ (m : Means). value_by (line_of sf).most (line_of sf).invalid m code) e ∙ rw (le-leb code (line_of sf).most h) refl

-- ---- VTEC: SF080, SF082 and SF083 are exact in quarters

abbrev pub quarter : ℕ → ℕ → Float
quarter code middle = quotient (pos code -ℤ pos middle) 4

pub quarter-exact : (code middle : ℕ) → code ≤ 65535 → middle ≤ 65535
    → HasValue (quarter code middle) (negative (pos code -ℤ pos middle)) (steps (pos code -ℤ pos middle)) 4
quarter-exact code middle h k = quarters (pos code -ℤ pos middle) (difference code middle h k)

pub vtec-average : (code : ℕ) → code ≤ 4094 → value_of 80 code ≡ Tecu (quarter code 2047)
unfolding line_of table find
vtec-average code h = taken-means 80 (about 2047) 4 tecu refl code h

pub vtec-small : (code : ℕ) → code ≤ 126 → value_of 82 code ≡ OfResidual (Residual.Tecu (quarter code 63))
unfolding line_of table find
vtec-small code h = taken-means 82 (about 63) 4 residual_tecu refl code h

pub vtec-large : (code : ℕ) → code ≤ 2046 → value_of 83 code ≡ OfResidual (Residual.Tecu (quarter code 1023))
unfolding line_of table find
vtec-large code h = taken-means 83 (about 1023) 4 residual_tecu refl code h
