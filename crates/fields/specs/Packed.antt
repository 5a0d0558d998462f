-- Mirror of src/packed.rt, over the table of Fields.antt: a field's bits and the codes that it takes in one number; and the law that the number refuses what the field refuses.
use Rattle.std.specs.Prelude.{◌≡◌, List, [], ◌∷◌, Bool, ◌&&◌, not, ℕ, zero, suc, ◌+◌, ◌*◌, ◌/◌, ◌%◌, ◌≤◌, ◌<◌, T, eqb, ltb, leb, get_or, Ok, Err}
use Rattle.std.proofs.Math.Path.{refl}
use Rattle.std.proofs.Common.{sym, ap, ◌∙◌, arith, leb→le, le-ltb, lt-ltb}
use Rattle.std.proofs.Math.Bool.{true, false}
use Rattle.std.specs.Float.Ieee.Fits.{and_l, and_r}
use Rattle.answer.specs.declared.Refusal.TheVariants as refusal
use Rattle.layout.specs.declared.Field.{Field}
use Rattle.layout.specs.Layout.{pick, judge}
use Rattle.fields.specs.Fields.{Line, table, no_line, or_else, find, line_of, field_of, sf}
use Rattle.fields.specs.Columns.{no_field, width_small}

-- in base 16 two digits for the bits, six for `most`, `invalid` in front
abbrev pub packed : (width most invalid : ℕ) → ℕ
packed width most invalid = width + 256 * most + 4294967296 * invalid

unfoldable pub packed_line : ℕ → ℕ
packed_line number = packed (sf number).width (sf number).most (sf number).extra

-- it takes 0 to `most`, and `invalid`
unfoldable pub refuses : (line code : ℕ) → Bool
refuses line code = ltb (line / 256 % 16777216) code && not (eqb code (line / 4294967296))

-- ---- the code's table is the table

-- f k, f (k + 1), .. to n of them
unfoldable pub lines : {A : Type 0} → (ℕ → A) → ℕ → ℕ → List A
lines f zero k = []
lines f (suc n) k = f k ∷ lines f n (suc k)

pub line_at : {A : Type 0} (f : ℕ → A) (d : A) (n k i : ℕ) → i < n → get_or (lines f n k) i d ≡ f (k + i)
unfolding lines
line_at f d zero k i h = absurd (omega arith)
line_at f d (suc n) k zero h = let e : k ≡ k + 0 = omega arith in ap f e
line_at f d (suc n) k (suc i) h = let e : suc k + i ≡ k + suc i = omega arith in line_at f d n (suc k) i (omega arith) ∙ ap f e

pub packed_there : (l : List ℕ) → l ≡ lines packed_line 108 0 → (number : ℕ) → number < 108 → get_or l number 0 ≡ packed_line number
packed_there l is number h = let e : 0 + number ≡ number = omega arith in ap (λ x. get_or x number 0) is ∙ line_at packed_line 0 108 0 number h ∙ ap packed_line e

pub packed_none : (number : ℕ) → 107 < number → 0 ≡ packed_line number
unfolding packed_line
packed_none number h = ap (λ (f : Field). packed f.width f.most f.extra) (no_field number h refl)

-- ---- a packed line by its number, and what it refuses

-- the line of a number that is n
pub packed-at : (n : ℕ) {number r : ℕ} → number ≡ n → r ≡ packed_line n → r ≡ packed_line number
packed-at n e q = q ∙ ap packed_line (sym e)

-- a number from `low` on that is none of so many is behind all of them
abbrev pub Others : (low k number : ℕ) → Type 0
Others low zero number = Unit
Others low (suc k) number = Others low k number × (number ≡ low + k → ⊥)

pub past-others : (low k : ℕ) {number : ℕ} → low ≤ number → Others low k number → low + k ≤ number
past-others low zero h others = omega arith
past-others low (suc k) h others = go (past-others low k h others.0) others.1
  where
    go : {number : ℕ} → low + k ≤ number → (number ≡ low + k → ⊥) → low + suc k ≤ number
    go p n = omega arith

pub refuses-low : (line code : ℕ) → code ≤ line / 256 % 16777216 → false ≡ refuses line code
unfolding refuses
refuses-low line code h = rw (le-ltb (line / 256 % 16777216) code h)

pub refuses-high : (line code : ℕ) → line / 256 % 16777216 < code → not (eqb code (line / 4294967296)) ≡ refuses line code
unfolding refuses
refuses-high line code h = rw (lt-ltb (line / 256 % 16777216) code h)

-- ---- a field by its packed line

-- `f` of every line, and of the line of no field, has 16 bits at most
unfoldable pub all_low : (Line → ℕ) → List Line → Bool
all_low f [] = leb (f no_line) 0xFFFF
all_low f (line ∷ lines) = leb (f line) 0xFFFF && all_low f lines

pub find-low : (f : Line → ℕ) (lines : List Line) → T (all_low f lines) → (number : ℕ) → f (find lines number) ≤ 0xFFFF
unfolding find all_low
find-low f [] t number = leb→le _ 0xFFFF t
find-low f (line ∷ lines) t number =
    go (eqb number line.number) (leb→le _ 0xFFFF (and_l (leb (f line) 0xFFFF) (all_low f lines) t)) (find-low f lines (and_r (leb (f line) 0xFFFF) (all_low f lines) t) number)
  where
    go : (b : Bool) → f line ≤ 0xFFFF → f (find lines number) ≤ 0xFFFF → f (or_else b line (find lines number)) ≤ 0xFFFF
    go true here later = here
    go false here later = later

-- no field has a code of more than 16 bits
pub most-small : (number : ℕ) → (sf number).most ≤ 0xFFFF
unfolding sf line_of table all_low
most-small number = find-low (λ line. line.most) table tt number

pub packed-width : (width most invalid : ℕ) → width < 256 → packed width most invalid % 256 ≡ width
packed-width width most invalid small = omega arith

module _ (number width most invalid code : ℕ) (small : width < 256) (low : most ≤ 0xFFFF) where
  most-in : packed width most invalid / 256 % 16777216 ≡ most
  most-in = omega arith

  invalid-in : packed width most invalid / 4294967296 ≡ invalid
  invalid-in = omega arith

  by_parts : refuses (packed width most invalid) code ≡ (ltb most code && not (eqb code invalid))
  unfolding refuses
  by_parts = rw (most-in, invalid-in) refl

  judged-by : (x y : Bool) → ltb most code ≡ x → eqb code invalid ≡ y → ltb code 0 ≡ false
      → judge (field_of number width most invalid) code ≡ pick (x && not y) (Err refusal.Field) (Ok tt)
  unfolding judge
  judged-by true true p q z = rw q
  judged-by false true p q z = rw q
  judged-by true false p q z = rw (q, z, p)
  judged-by false false p q z = rw (q, z, p)

  -- the field's verdict
  pub packed-judges : judge (field_of number width most invalid) code ≡ pick (refuses (packed width most invalid) code) (Err refusal.Field) (Ok tt)
  packed-judges = rw by_parts (judged-by (ltb most code) (eqb code invalid) refl refl (le-ltb code 0 (omega arith)))

-- ---- the field by its packed line

pub invalid-small : (number : ℕ) → (sf number).extra ≤ 0xFFFF
unfolding sf line_of table all_low
invalid-small number = find-low (λ line. line.invalid) table tt number

unpacked-field : (number line bits width most invalid : ℕ) → width < 256 → most ≤ 0xFFFF → invalid ≤ 0xFFFF → line ≡ packed width most invalid → bits ≡ line % 256
    → field_of number bits (line / 256 % 16777216) (line / 4294967296) ≡ field_of number width most invalid
unpacked-field number line bits width most invalid w m i e q =
    let b : bits ≡ width = omega arith in
    let c : line / 256 % 16777216 ≡ most = omega arith in
    let d : line / 4294967296 ≡ invalid = omega arith in
    rw (b, c, d) refl

pub field-is : (number line bits : ℕ) → line ≡ packed_line number → bits ≡ line % 256 → field_of number bits (line / 256 % 16777216) (line / 4294967296) ≡ sf number
unfolding packed_line sf
field-is number line bits e q =
    let l : Line = line_of number in
    unpacked-field number line bits l.width l.most l.invalid (omega (arith, width_small number)) (most-small number) (invalid-small number) e q
