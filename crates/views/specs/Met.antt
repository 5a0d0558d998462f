-- Theorems: each field that has a value takes exactly the codes that have one (crate values). So on a sheet that the writer accepts every code has its value, and
-- the last cases of Units.antt are not met.
use Rattle.std.specs.Prelude.{◌≡◌, refl, Bool, true, false, List, [], ◌∷◌, ℕ, ◌≤◌, T, eqb, leb, ltb, Ok, Err}
use Rattle.std.proofs.Common.{ap, sym, ◌∙◌, subst, arith, eqb-true, leb-true, leb-false, lt-ltb, le-ltb, leb→le}
use Rattle.answer.specs.declared.Refusal.TheVariants as refusal
use Rattle.fields.specs.Fields.{Meaning, metres, degrees, tecu, coefficient, count, residual_metres, residual_tecu, yaw, Steps, Means, nothing, counts, Line, table, or_else, find, line_of, sf}
use Rattle.layout.specs.Results.{Verdict}
use Rattle.layout.specs.Layout.{pick, judge}
use Rattle.values.specs.declared.Value.{Value}
use Rattle.values.specs.declared.Value.TheVariants.{Metres, Degrees, Tecu, Coefficient, Count, OfResidual, OfYaw, Refused}
use Rattle.values.specs.Values as values
use Rattle.values.specs.Values.{meant, meant_by_invalid, value_by, value_of}

abbrev pub has_value : Value → Bool
has_value (Metres x) = true
has_value (Degrees x) = true
has_value (Tecu x) = true
has_value (Coefficient x) = true
has_value (Count n) = true
has_value (OfResidual r) = true
has_value (OfYaw y) = true
has_value (Refused why) = false

abbrev pub is_taken : Verdict → Bool
is_taken (Ok _) = true
is_taken (Err why) = false

-- a code is taken just where it has a value
abbrev pub Agree : ℕ → Type 0
Agree number = (code : ℕ) → is_taken (judge (sf number) code) ≡ has_value (value_of number code)

-- ---- both sides by the code's tests

-- the one code besides the range means "invalid"
abbrev pub invalid_means : Meaning → Bool
invalid_means metres = false
invalid_means degrees = false
invalid_means tecu = false
invalid_means coefficient = false
invalid_means count = false
invalid_means residual_metres = true
invalid_means residual_tecu = true
invalid_means yaw = true

meant-has : (m : Meaning) (s : Steps) (per_unit code : ℕ) → has_value (meant m s per_unit code) ≡ true
meant-has metres s per_unit code = refl
meant-has degrees s per_unit code = refl
meant-has tecu s per_unit code = refl
meant-has coefficient s per_unit code = refl
meant-has count s per_unit code = refl
meant-has residual_metres s per_unit code = refl
meant-has residual_tecu s per_unit code = refl
meant-has yaw s per_unit code = refl

invalid-has : (m : Meaning) → has_value (meant_by_invalid m) ≡ invalid_means m
invalid-has metres = refl
invalid-has degrees = refl
invalid-has tecu = refl
invalid-has coefficient = refl
invalid-has count = refl
invalid-has residual_metres = refl
invalid-has residual_tecu = refl
invalid-has yaw = refl

abbrev pub either : Bool → Bool → Bool
either true b = true
either false b = b

abbrev pub both : Bool → Bool → Bool
both true b = b
both false b = false

taken_is : (number code : ℕ) → is_taken (judge (sf number) code) ≡ either (eqb code (line_of number).invalid) (leb code (line_of number).most)
unfolding judge sf
taken_is number code =
    let low : ltb code 0 ≡ false = le-ltb code 0 (omega arith) in
    rw low (go (eqb code (line_of number).invalid) refl (leb code (line_of number).most) refl)
  where
    go : (x : Bool) → eqb code (line_of number).invalid ≡ x → (y : Bool) → leb code (line_of number).most ≡ y
        → is_taken (pick x (Ok tt) (pick (ltb (line_of number).most code) (Err refusal.Field) (pick x (Err refusal.Field) (Ok tt)))) ≡ either x y
    go true p y q = refl
    go false p true q = rw (le-ltb (line_of number).most code (leb-true code (line_of number).most q))
    go false p false q = rw (lt-ltb (line_of number).most code (leb-false code (line_of number).most q))

pub value-is : (most invalid : ℕ) (s : Steps) (per_unit : ℕ) (m : Meaning) (code : ℕ)
    → has_value (value_by most invalid (counts s per_unit m) code) ≡ either (leb code most) (both (eqb code invalid) (invalid_means m))
value-is most invalid s per_unit m code = go (leb code most) (eqb code invalid)
  where
    go : (x y : Bool) → has_value (values.pick x (meant m s per_unit code) (values.pick y (meant_by_invalid m) (Refused refusal.Field))) ≡ either x (both y (invalid_means m))
    go true y = meant-has m s per_unit code
    go false true = invalid-has m
    go false false = refl

-- ---- over the table: where a field takes a code besides its range, it means "invalid"

abbrev besides : Line → Means → Bool
besides line nothing = true
besides line (counts s per_unit m) = either (leb line.invalid line.most) (invalid_means m)

unfoldable all_besides : List Line → Bool
all_besides [] = true
all_besides (line ∷ lines) = both (besides line line.means) (all_besides lines)

both_first : (a b : Bool) → T (both a b) → T a
both_first true b t = tt
both_first false b t = t

both-second : (a b : Bool) → T (both a b) → T b
both-second true b t = t
both-second false b t = absurd t

find-besides : (lines : List Line) (number : ℕ) → T (all_besides lines) → T (besides (find lines number) (find lines number).means)
unfolding all_besides find
find-besides [] number t = tt
find-besides (line ∷ lines) number t =
    go (eqb number line.number) (both_first (besides line line.means) (all_besides lines) t)
    (find-besides lines number (both-second (besides line line.means) (all_besides lines) t))
  where
    go : (b : Bool) → T (besides line line.means) → T (besides (find lines number) (find lines number).means)
        → T (besides (or_else b line (find lines number)) (or_else b line (find lines number)).means)
    go true here later = here
    go false here later = later

line-besides : (number : ℕ) → T (besides (line_of number) (line_of number).means)
unfolding line_of table all_besides
line-besides number = find-besides table number tt

-- ---- each field that has a value

-- A code that the field takes is one that `value_of` takes, and back.
pub agree : (number : ℕ) {s : Steps} {per_unit : ℕ} {m : Meaning} → (line_of number).means ≡ counts s per_unit m → Agree number
unfolding value_of
agree number {s} {per_unit} {m} is code =
    taken_is number code
    ∙ go (eqb code (line_of number).invalid) refl (leb code (line_of number).most) refl (invalid_means m) (subst (λ x. T (besides (line_of number) x)) is (line-besides number))
    ∙ sym (ap (λ x. has_value (value_by (line_of number).most (line_of number).invalid x code)) is
    ∙ value-is (line_of number).most (line_of number).invalid s per_unit m code)
  where
    go : (x : Bool) → eqb code (line_of number).invalid ≡ x → (y : Bool) → leb code (line_of number).most ≡ y
        → (z : Bool) → T (either (leb (line_of number).invalid (line_of number).most) z) → either x y ≡ either y (both x z)
    go true p true q z t = refl
    go true p false q true t = refl
    go true p false q false t =
        let low : (line_of number).invalid ≤ (line_of number).most = leb→le _ _ (one (leb (line_of number).invalid (line_of number).most) t) in
        absurd (omega (arith, eqb-true code (line_of number).invalid p, leb-false code (line_of number).most q))
      where
        one : (a : Bool) → T (either a false) → T a
        one true t = tt
        one false t = t
    go false p true q z t = refl
    go false p false q z t = refl
