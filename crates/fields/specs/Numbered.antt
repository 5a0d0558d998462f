-- Serves readers, and is proved: a field's line as seven numbers, its steps and its meaning numbered. From them the code's line comes back (`numbers-are`), and a list of such lines, SF000 to SF107, has
-- each field's (`line-of`, `numbers-there`, `no-numbers`).
use Rattle.std.specs.Prelude.{◌≡◌, refl, List, [], ◌∷◌, ℕ, zero, suc, ◌+◌, ◌≤◌, ◌<◌, get_or, Option, Some, None}
use Rattle.std.proofs.Common.{sym, ap, ap₂, ◌∙◌, arith}
use Rattle.fields.specs.declared.Meaning as code_meaning
use Rattle.fields.specs.declared.Meaning.TheVariants as M
use Rattle.fields.specs.declared.Steps as code_steps
use Rattle.fields.specs.declared.Steps.TheVariants as S
use Rattle.fields.specs.declared.Numbers.{Numbers}
use Rattle.fields.specs.Fields.{Meaning, metres, degrees, tecu, coefficient, count, residual_metres, residual_tecu, yaw}
use Rattle.fields.specs.Fields.{Steps, about, one_more_of, sixfold, spacings, Means, nothing, counts, Line, no_line, line_of}
use Rattle.fields.specs.Columns.{steps_of, meaning_of, middle_of, numbers_by, numbers_of, none_over}
use Rattle.fields.specs.Packed.{lines, line_at}

abbrev pub meaning_number : Meaning → ℕ
meaning_number metres = 1
meaning_number degrees = 2
meaning_number tecu = 3
meaning_number coefficient = 4
meaning_number count = 5
meaning_number residual_metres = 6
meaning_number residual_tecu = 7
meaning_number yaw = 8

abbrev pub steps_number : Steps → ℕ
steps_number (about middle) = 0
steps_number one_more_of = 1
steps_number sixfold = 2
steps_number spacings = 3

abbrev pub means_columns : Means → List ℕ
means_columns nothing = 0 ∷ 0 ∷ 0 ∷ 0 ∷ []
means_columns (counts steps per_unit meaning) = steps_number steps ∷ middle_of steps ∷ per_unit ∷ meaning_number meaning ∷ []

abbrev pub columns : Line → List ℕ
columns line = line.width ∷ line.most ∷ line.invalid ∷ means_columns line.means

-- ---- back from the numbers

abbrev pub steps_numbered : ℕ → code_steps.Steps
steps_numbered zero = S.About
steps_numbered (suc zero) = S.OneMore
steps_numbered (suc (suc zero)) = S.Sixfold
steps_numbered (suc (suc (suc n))) = S.Spacings

abbrev pub meaning_numbered : ℕ → Option code_meaning.Meaning
meaning_numbered zero = None
meaning_numbered (suc zero) = Some M.Metres
meaning_numbered (suc (suc zero)) = Some M.Degrees
meaning_numbered (suc (suc (suc zero))) = Some M.Tecu
meaning_numbered (suc (suc (suc (suc zero)))) = Some M.Coefficient
meaning_numbered (suc (suc (suc (suc (suc zero))))) = Some M.Count
meaning_numbered (suc (suc (suc (suc (suc (suc zero)))))) = Some M.ResidualMetres
meaning_numbered (suc (suc (suc (suc (suc (suc (suc zero))))))) = Some M.ResidualTecu
meaning_numbered (suc (suc (suc (suc (suc (suc (suc (suc n)))))))) = Some M.Yaw

abbrev pub struct : List ℕ → Numbers
struct l =
    record {
      width = get_or l 0 0;
      most = get_or l 1 0;
      invalid = get_or l 2 0;
      steps = steps_numbered (get_or l 3 0);
      middle = get_or l 4 0;
      per_unit = get_or l 5 0;
      meaning = meaning_numbered (get_or l 6 0);
    }

steps-are : (steps : Steps) → steps_of steps ≡ steps_numbered (steps_number steps)
steps-are (about middle) = refl
steps-are one_more_of = refl
steps-are sixfold = refl
steps-are spacings = refl

meaning-is : (meaning : Meaning) → Some (meaning_of meaning) ≡ meaning_numbered (meaning_number meaning)
meaning-is metres = refl
meaning-is degrees = refl
meaning-is tecu = refl
meaning-is coefficient = refl
meaning-is count = refl
meaning-is residual_metres = refl
meaning-is residual_tecu = refl
meaning-is yaw = refl

means-are : (width most invalid : ℕ) (means : Means) → numbers_by width most invalid means ≡ struct (width ∷ most ∷ invalid ∷ means_columns means)
means-are width most invalid nothing = refl
means-are width most invalid (counts steps per_unit meaning) =
    ap₂ (λ s m. record { width = width; most = most; invalid = invalid; steps = s; middle = middle_of steps; per_unit = per_unit; meaning = m }) (steps-are steps) (meaning-is meaning)

pub numbers-are : (line : Line) → numbers_of line ≡ struct (columns line)
numbers-are line = means-are line.width line.most line.invalid line.means

-- ---- a list of such lines

unfoldable pub columns_of : ℕ → List ℕ
columns_of number = columns (line_of number)

pub line-of : (l : List (List ℕ)) → l ≡ lines columns_of 108 0 → (number : ℕ) → number ≤ 107 → get_or l number [] ≡ columns_of number
line-of l is number h = let e : 0 + number ≡ number = omega arith in
    ap (λ x. get_or x number []) is ∙ line_at columns_of [] 108 0 number (omega arith) ∙ ap columns_of e

pub no-numbers : (number : ℕ) {r : Numbers} → 107 < number → r ≡ numbers_of no_line → r ≡ numbers_of (line_of number)
no-numbers number h e = e ∙ ap numbers_of (sym (none_over number h))

pub numbers-there : (l : List (List ℕ)) → l ≡ lines columns_of 108 0 → (number : ℕ) {r : Numbers} → number ≤ 107 → r ≡ struct (get_or l number [])
    → r ≡ numbers_of (line_of number)
unfolding columns_of
numbers-there l is number h e = e ∙ ap struct (line-of l is number h) ∙ sym (numbers-are (line_of number))
