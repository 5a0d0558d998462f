-- Definitions to believe: a field's line in the code's types (`numbers_of`). Behind them, proved: no field over SF107 has a line, and no line more than 16 bits.
use Rattle.std.specs.Prelude.{◌≡◌, refl, List, [], ◌∷◌, Bool, true, false, ◌&&◌, ℕ, ◌≤◌, ◌<◌, T, eqb, leb, Option, Some, None}
use Rattle.std.proofs.Common.{sym, ap, ◌∙◌, arith, leb→le, ne_eqb}
use Rattle.std.specs.Float.Ieee.Fits.{and_l, and_r}
use Rattle.layout.specs.declared.Field as F
use Rattle.fields.specs.declared.Meaning as code_meaning
use Rattle.fields.specs.declared.Meaning.TheVariants as M
use Rattle.fields.specs.declared.Steps as code_steps
use Rattle.fields.specs.declared.Steps.TheVariants as S
use Rattle.fields.specs.declared.Numbers.{Numbers}
use Rattle.fields.specs.Fields.{Meaning, metres, degrees, tecu, coefficient, count, residual_metres, residual_tecu, yaw}
use Rattle.fields.specs.Fields.{Steps, about, one_more_of, sixfold, spacings, Means, nothing, counts, Line, table, no_line, or_else, find, line_of, field_of, sf}

abbrev pub meaning_of : Meaning → code_meaning.Meaning
meaning_of metres = M.Metres
meaning_of degrees = M.Degrees
meaning_of tecu = M.Tecu
meaning_of coefficient = M.Coefficient
meaning_of count = M.Count
meaning_of residual_metres = M.ResidualMetres
meaning_of residual_tecu = M.ResidualTecu
meaning_of yaw = M.Yaw

abbrev pub steps_of : Steps → code_steps.Steps
steps_of (about middle) = S.About
steps_of one_more_of = S.OneMore
steps_of sixfold = S.Sixfold
steps_of spacings = S.Spacings

abbrev pub middle_of : Steps → ℕ
middle_of (about middle) = middle
middle_of one_more_of = 0
middle_of sixfold = 0
middle_of spacings = 0

-- a line's parts; of one whose codes mean nothing, a meaning that is none, and zeros
abbrev pub steps_by : Means → code_steps.Steps
steps_by nothing = S.About
steps_by (counts steps per_unit meaning) = steps_of steps

abbrev pub middle_by : Means → ℕ
middle_by nothing = 0
middle_by (counts steps per_unit meaning) = middle_of steps

abbrev pub per_unit_by : Means → ℕ
per_unit_by nothing = 0
per_unit_by (counts steps per_unit meaning) = per_unit

abbrev pub meaning_by : Means → Option code_meaning.Meaning
meaning_by nothing = None
meaning_by (counts steps per_unit meaning) = Some (meaning_of meaning)

abbrev pub numbers_by : (width most invalid : ℕ) → Means → Numbers
numbers_by width most invalid means =
    record {
      width = width;
      most = most;
      invalid = invalid;
      steps = steps_by means;
      middle = middle_by means;
      per_unit = per_unit_by means;
      meaning = meaning_by means;
    }

abbrev pub numbers_of : Line → Numbers
numbers_of line = numbers_by line.width line.most line.invalid line.means

abbrev pub field_by : ℕ → Numbers → F.Field
field_by number line = field_of number line.width line.most line.invalid

-- ---- no line is of a field over SF107

-- every line of the table is of a field up to SF107
unfoldable all_among : List Line → Bool
all_among [] = true
all_among (line ∷ lines) = leb line.number 107 && all_among lines

none-outside : (lines : List Line) → T (all_among lines) → (number : ℕ) → 107 < number → find lines number ≡ no_line
unfolding find all_among
none-outside [] t number h = refl
none-outside (line ∷ lines) t number h =
    let low : line.number ≤ 107 = leb→le _ 107 (and_l (leb line.number 107) (all_among lines) t) in
    rw (ne_eqb number line.number (λ e. omega arith)) (none-outside lines (and_r (leb line.number 107) (all_among lines) t) number h)

pub none_over : (number : ℕ) → 107 < number → line_of number ≡ no_line
unfolding line_of table all_among
none_over number h = none-outside table tt number h

-- ---- every field has 16 bits at most

unfoldable all_small : List Line → Bool
all_small [] = true
all_small (line ∷ lines) = leb line.width 16 && all_small lines

find-small : (lines : List Line) → T (all_small lines) → (number : ℕ) → (find lines number).width ≤ 16
unfolding find all_small
find-small [] t number = omega arith
find-small (line ∷ lines) t number =
    go (eqb number line.number) (leb→le _ 16 (and_l (leb line.width 16) (all_small lines) t)) (find-small lines (and_r (leb line.width 16) (all_small lines) t) number)
  where
    go : (b : Bool) → line.width ≤ 16 → (find lines number).width ≤ 16 → (or_else b line (find lines number)).width ≤ 16
    go true here later = here
    go false here later = later

pub width_small : (number : ℕ) → (sf number).width ≤ 16
unfolding sf line_of table all_small
width_small number = find-small table tt number

pub no_field : (number : ℕ) {r : F.Field} → 107 < number → r ≡ field_of number 0 0 0 → r ≡ sf number
unfolding sf
no_field number h e = e ∙ ap (λ (l : Line). field_of number l.width l.most l.invalid) (sym (none_over number h))

-- ---- the field by its line

pub field-there : (number : ℕ) {line : Numbers} {r : F.Field} → r ≡ field_by number line → line ≡ numbers_of (line_of number) → r ≡ sf number
unfolding sf
field-there number q e = q ∙ ap (field_by number) e

-- the field of a number that is n
pub arm_at : (n : ℕ) {number : ℕ} {r : F.Field} → number ≡ n → r ≡ sf n → r ≡ sf number
arm_at n e q = q ∙ ap sf (sym e)
