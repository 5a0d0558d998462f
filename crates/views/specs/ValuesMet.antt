-- Serves proofs, and is proved: a code that has a value, as a view has it; and how a fact of each block goes along a sheet.
use Rattle.std.specs.Prelude.{◌≡◌, Bool, true, false, List, [], ◌∷◌, eqb, leb, get_or, Ok}
use Rattle.std.proofs.Math.Path.{refl, ap, sym}
use Rattle.std.proofs.Common.{◌∙◌, arith}
use Prim.Native.Nat.{ℕ}
use Rattle.layout.specs.Layout.{Layout, judge}
use Rattle.layout.specs.Parts.{each}
use Rattle.layout.specs.Holds.{Holds}
use Rattle.layout.specs.Reaches.{Reaches, reaches-holds, many_of}
use Rattle.values.specs.declared.Value.TheVariants.{Metres, Degrees, Tecu}
use Rattle.fields.specs.Fields as fields
use Rattle.fields.specs.Fields.{Meaning, metres, degrees, tecu, Steps, Means, counts, line_of, sf}
use Rattle.values.specs.declared.Value.{Value}
use Rattle.values.specs.Values.{meant, value_by, value_of, count_by, count_of, yaw_of}
use Rattle.views.specs.Along.{Takes, EachOf, no_more, one_more}
use Rattle.views.specs.Met.{has_value, is_taken, either, both, invalid_means, value-is, agree}
use Rattle.views.specs.Units.{float_of, in_unit, number_in, count_in, yaw_in}

-- ---- a code that has a value

module _ (number : ℕ) (s : Steps) (per_unit : ℕ) (m : Meaning) (code : ℕ) where
  -- of a field that has no "invalid"
  value-met : (line_of number).means ≡ counts s per_unit m → invalid_means m ≡ false → has_value (value_of number code) ≡ true
      → value_of number code ≡ meant m s per_unit code
  unfolding value_of
  value-met is t h =
      ap (value_in code) is
      ∙ go (leb code most) refl (sym (value-is most invalid s per_unit m code) ∙ sym (ap (λ x. has_value (value_in code x)) is) ∙ h)
    where
      most : ℕ
      most = (line_of number).most

      invalid : ℕ
      invalid = (line_of number).invalid

      value_in : ℕ → Means → Value
      value_in code means = value_by most invalid means code

      go : (x : Bool) → leb code most ≡ x → either (leb code most) (both (eqb code invalid) (invalid_means m)) ≡ true
          → value_by most invalid (counts s per_unit m) code ≡ meant m s per_unit code
      go true p e = rw p
      go false p e = absurd (no (eqb code invalid) (ap (λ x. either x (both (eqb code invalid) (invalid_means m))) (sym p) ∙ e))
        where
          no : (z : Bool) → both z (invalid_means m) ≡ true → ⊥
          no true e = let b : false ≡ true = sym t ∙ e in let z : ◌≡◌ {A = ℕ} 0 1 = cc in omega arith
          no false e = let z : ◌≡◌ {A = ℕ} 0 1 = cc in omega arith

-- "value_of 32 code is Degrees of the view's number", and its like
abbrev pub InMetres : (sf code : ℕ) → Type 0
InMetres sf code = value_of sf code ≡ Metres (in_unit sf code)

abbrev pub InDegrees : (sf code : ℕ) → Type 0
InDegrees sf code = value_of sf code ≡ Degrees (in_unit sf code)

abbrev pub InTecu : (sf code : ℕ) → Type 0
InTecu sf code = value_of sf code ≡ Tecu (in_unit sf code)

abbrev pub Counts : (sf code : ℕ) → Type 0
Counts sf code = count_of sf code ≡ Ok (count_in sf code)

abbrev pub IsYaw : ℕ → Type 0
IsYaw code = yaw_of code ≡ Ok (yaw_in code)

module _ (number : ℕ) {s : Steps} {per_unit : ℕ} (code : ℕ) where
  pub metres-met : (line_of number).means ≡ counts s per_unit metres → has_value (value_of number code) ≡ true → InMetres number code
  unfolding in_unit
  metres-met is h =
      let e : value_of number code ≡ meant metres s per_unit code = value-met number s per_unit metres code is refl h in
      e ∙ ap Metres (sym (ap float_of e))

  pub degrees-met : (line_of number).means ≡ counts s per_unit degrees → has_value (value_of number code) ≡ true → InDegrees number code
  unfolding in_unit
  degrees-met is h =
      let e : value_of number code ≡ meant degrees s per_unit code = value-met number s per_unit degrees code is refl h in
      e ∙ ap Degrees (sym (ap float_of e))

  pub tecu-met : (line_of number).means ≡ counts s per_unit tecu → has_value (value_of number code) ≡ true → InTecu number code
  unfolding in_unit
  tecu-met is h =
      let e : value_of number code ≡ meant tecu s per_unit code = value-met number s per_unit tecu code is refl h in
      e ∙ ap Tecu (sym (ap float_of e))

  pub count-met : (line_of number).means ≡ counts s per_unit fields.count → has_value (value_of number code) ≡ true → Counts number code
  unfolding count_in count_of
  count-met is h =
      let e : value_of number code ≡ meant fields.count s per_unit code = value-met number s per_unit fields.count code is refl h in
      ap count_by e ∙ ap (λ x. Ok (number_in x)) (sym (ap count_by e))

-- a code that a field with a value takes
pub taken-has : (number code : ℕ) {s : Steps} {per_unit : ℕ} {m : Meaning} → (line_of number).means ≡ counts s per_unit m → judge (sf number) code ≡ Ok tt
    → has_value (value_of number code) ≡ true
taken-has number code is j = sym (agree number is code) ∙ ap is_taken j

module _ (number : ℕ) {s : Steps} {per_unit : ℕ} where
  pub degrees-of : (line_of number).means ≡ counts s per_unit degrees → {code : ℕ} → Takes (sf number) code → InDegrees number code
  degrees-of is {code} j = degrees-met number code is (taken-has number code is j.is)

  pub tecu-of : (line_of number).means ≡ counts s per_unit tecu → {code : ℕ} → Takes (sf number) code → InTecu number code
  tecu-of is {code} j = tecu-met number code is (taken-has number code is j.is)

  pub count-of : (line_of number).means ≡ counts s per_unit fields.count → {code : ℕ} → Takes (sf number) code → Counts number code
  count-of is {code} j = count-met number code is (taken-has number code is j.is)

-- ---- lists of blocks

-- at a place by the code's counting
abbrev pub At : (P : ℕ → Type 0) (sheet : List ℕ) (at : ℕ) → Type 0
At P sheet at = P (get_or sheet at 0)

-- of each block, if of the one at hand
module _ {A B : Type 0} {sheet : List ℕ} (P : B → Type 0) where
  pub each-met : {part : ℕ → (B → Layout A) → Layout A} (what : ℕ → ℕ → B) (next : ℕ → ℕ)
      → ((m : ℕ) (k : B → Layout A) (at : ℕ) → Reaches sheet (k (what m at)) (next at) (part m k) at)
      → ((m : ℕ) (k : B → Layout A) (at : ℕ) → Holds (part m k) sheet at → P (what m at))
      → (ms : List ℕ) (k : List B → Layout A) (at : ℕ) → Holds (each ms part k) sheet at → EachOf P (many_of what next ms at)
  each-met what next walks met [] k at h = no_more
  each-met {part} what next walks met (m ∷ ms) k at h =
      let after : B → Layout A = λ x. each ms part (λ xs. k (x ∷ xs)) in
      one_more (met m after at h) (each-met what next walks met ms (λ xs. k (what m at ∷ xs)) (next at) (reaches-holds (walks m after at) h))
