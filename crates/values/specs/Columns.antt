-- The definitions of Values.antt by a field's line in the code's types. These serve the proofs and are proved to say what Values.antt says.
use Rattle.std.specs.Prelude.{◌≡◌, refl, ℕ, ◌+◌, ◌≤◌, ◌<◌, ℤ, Float, Some, None}
use Rattle.std.proofs.Math.Path.{ap}
use Rattle.std.proofs.Common.{◌∙◌, arith, le-leb, ne_eqb, eq-eqb}
use Rattle.std.proofs.lemmas.Bool.{lt-leb}
use Rattle.answer.specs.declared.Refusal.TheVariants.{Field}
use Rattle.fields.specs.declared.Meaning as code_meaning
use Rattle.fields.specs.declared.Meaning.TheVariants as M
use Rattle.fields.specs.declared.Steps as code_steps
use Rattle.fields.specs.declared.Steps.TheVariants as S
use Rattle.fields.specs.declared.Numbers.{Numbers}
use Rattle.fields.specs.Fields.{Meaning, metres, degrees, tecu, coefficient, count, residual_metres, residual_tecu, yaw, Steps, about, one_more_of, sixfold, spacings, Means, nothing, counts, line_of}
use Rattle.fields.specs.Columns.{meaning_of, steps_of, middle_of, numbers_by, numbers_of}
use Rattle.fields.specs.Numbered.{meaning_number}
use Rattle.values.specs.Values.{step_count, quotient, meant, meant_by_invalid, value_by, value_of}
use Rattle.values.specs.declared.Residual.TheVariants as Residual
use Rattle.values.specs.declared.Yaw.TheVariants as Yaw
use Rattle.values.specs.declared.Value.{Value}
use Rattle.values.specs.declared.Value.TheVariants.{Metres, Degrees, Tecu, Coefficient, Count, OfResidual, OfYaw, Refused}

abbrev pub steps_in : code_steps.Steps → ℕ → ℕ → ℤ
steps_in S.About middle code = step_count (about middle) code
steps_in S.OneMore middle code = step_count one_more_of code
steps_in S.Sixfold middle code = step_count sixfold code
steps_in S.Spacings middle code = step_count spacings code

abbrev pub number_in : Numbers → ℕ → Float
number_in r code = quotient (steps_in r.steps r.middle code) r.per_unit

abbrev pub meant_at : code_meaning.Meaning → ℕ → Float → Value
meant_at M.Metres code x = Metres x
meant_at M.Degrees code x = Degrees x
meant_at M.Tecu code x = Tecu x
meant_at M.Coefficient code x = Coefficient x
meant_at M.Count code x = Count (code + 1)
meant_at M.ResidualMetres code x = OfResidual (Residual.Metres x)
meant_at M.ResidualTecu code x = OfResidual (Residual.Tecu x)
meant_at M.Yaw code x = OfYaw (Yaw.Degrees x)

abbrev pub meant_in : code_meaning.Meaning → Numbers → ℕ → Value
meant_in meaning r code = meant_at meaning code (number_in r code)

abbrev pub invalid_in : code_meaning.Meaning → Value
invalid_in M.Metres = Refused Field
invalid_in M.Degrees = Refused Field
invalid_in M.Tecu = Refused Field
invalid_in M.Coefficient = Refused Field
invalid_in M.Count = Refused Field
invalid_in M.ResidualMetres = OfResidual Residual.Invalid
invalid_in M.ResidualTecu = OfResidual Residual.Invalid
invalid_in M.Yaw = OfYaw Yaw.Invalid

-- they are those of Values.antt
pub steps-in : (s : Steps) (code : ℕ) → steps_in (steps_of s) (middle_of s) code ≡ step_count s code
steps-in (about middle) code = refl
steps-in one_more_of code = refl
steps-in sixfold code = refl
steps-in spacings code = refl

meant-at : (m : Meaning) (s : Steps) (per_unit code : ℕ) → meant_at (meaning_of m) code (quotient (step_count s code) per_unit) ≡ meant m s per_unit code
meant-at metres s per_unit code = refl
meant-at degrees s per_unit code = refl
meant-at tecu s per_unit code = refl
meant-at coefficient s per_unit code = refl
meant-at count s per_unit code = refl
meant-at residual_metres s per_unit code = refl
meant-at residual_tecu s per_unit code = refl
meant-at yaw s per_unit code = refl

pub meant-in : (m : Meaning) (s : Steps) (per_unit code : ℕ)
    → meant_at (meaning_of m) code (quotient (steps_in (steps_of s) (middle_of s) code) per_unit) ≡ meant m s per_unit code
meant-in m s per_unit code = ap (λ (z : ℤ). meant_at (meaning_of m) code (quotient z per_unit)) (steps-in s code) ∙ meant-at m s per_unit code

pub invalid-in : (m : Meaning) → invalid_in (meaning_of m) ≡ meant_by_invalid m
invalid-in metres = refl
invalid-in degrees = refl
invalid-in tecu = refl
invalid-in coefficient = refl
invalid-in count = refl
invalid-in residual_metres = refl
invalid-in residual_tecu = refl
invalid-in yaw = refl

-- ---- the value by the line: the four answers of the call

-- a meaning has a number of its own, which is not 0
meant-some : (m : Meaning) → meaning_number m ≡ 0 → ⊥
meant-some metres e = omega arith
meant-some degrees e = omega arith
meant-some tecu e = omega arith
meant-some coefficient e = omega arith
meant-some count e = omega arith
meant-some residual_metres e = omega arith
meant-some residual_tecu e = omega arith
meant-some yaw e = omega arith

module _ (most invalid code : ℕ) where
  abbrev numbers : ℕ → Means → Numbers
  numbers width means = numbers_of (record { number = 0; width = width; most = most; invalid = invalid; means = means })

  none-meant : (means : Means) (width : ℕ) → (numbers_by width most invalid means).meaning ≡ None → Refused Field ≡ value_by most invalid means code
  none-meant nothing width e = refl
  none-meant (counts steps per_unit meaning) width e = absurd cc

  taken-meant : (means : Means) (width : ℕ) (m : code_meaning.Meaning) → (numbers_by width most invalid means).meaning ≡ Some m → code ≤ most
      → meant_in m (numbers_by width most invalid means) code ≡ value_by most invalid means code
  taken-meant nothing width m e h = absurd cc
  taken-meant (counts steps per_unit meaning) width m e h =
      let q : m ≡ meaning_of meaning = cc in
      rw (q, le-leb code most h) (meant-in meaning steps per_unit code)

  invalid-meant : (means : Means) (width : ℕ) (m : code_meaning.Meaning) → (numbers_by width most invalid means).meaning ≡ Some m → most < code → code ≡ invalid
      → invalid_in m ≡ value_by most invalid means code
  invalid-meant nothing width m e h z = absurd cc
  invalid-meant (counts steps per_unit meaning) width m e h z =
      let q : m ≡ meaning_of meaning = cc in
      rw (q, lt-leb code most h, eq-eqb code invalid z) (invalid-in meaning)

  outside-meant : (means : Means) → most < code → (code ≡ invalid → ⊥) → Refused Field ≡ value_by most invalid means code
  outside-meant nothing h e = refl
  outside-meant (counts steps per_unit meaning) h e = rw (lt-leb code most h, ne_eqb code invalid e) refl

module _ (sf code : ℕ) (r : Numbers) (is : r ≡ numbers_of (line_of sf)) where
  pub value_none : r.meaning ≡ None → Refused Field ≡ value_of sf code
  unfolding value_of
  value_none e = none-meant (line_of sf).most (line_of sf).invalid code (line_of sf).means (line_of sf).width (rw is at e)

  pub value_taken : (v : Value) (m : code_meaning.Meaning) → r.meaning ≡ Some m → code ≤ r.most → v ≡ meant_in m r code → v ≡ value_of sf code
  unfolding value_of
  value_taken v m n h q =
      q ∙ ap (λ (x : Numbers). meant_in m x code) is
      ∙ taken-meant (line_of sf).most (line_of sf).invalid code (line_of sf).means (line_of sf).width m (rw is at n) (rw is at h)

  pub value-invalid : (v : Value) (m : code_meaning.Meaning) → r.meaning ≡ Some m → r.most < code → code ≡ r.invalid → v ≡ invalid_in m → v ≡ value_of sf code
  unfolding value_of
  value-invalid v m n h e q =
      q ∙ invalid-meant (line_of sf).most (line_of sf).invalid code (line_of sf).means (line_of sf).width m (rw is at n) (rw is at h) (rw is at e)

  pub value-outside : r.most < code → (code ≡ r.invalid → ⊥) → Refused Field ≡ value_of sf code
  unfolding value_of
  value-outside h e = outside-meant (line_of sf).most (line_of sf).invalid code (line_of sf).means (rw is at h) (rw is at e)
