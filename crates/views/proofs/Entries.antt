-- One lemma for each answer of the functions of units.rt, over plain variables, worded as the code makes its tests.
use Rattle.std.specs.Prelude.{Ok, Err}
use mathlib.Core.Path.{◌≡◌, ap, sym, ◌∙◌}
use Prim.Native.Nat.{ℕ}
use lib.IntN.{pos}
use lib.Ieee.{Float, binary64, of_int}
use Rattle.answer.specs.declared.Refusal.{Refusal}
use Rattle.values.specs.Values.{value_of, count_of, yaw_of}
use Rattle.values.specs.declared.Value.{Value}
use Rattle.values.specs.declared.Value.TheVariants.{Metres, Degrees, Tecu, Coefficient, Count, OfResidual, OfYaw, Refused}
use Rattle.values.specs.declared.Residual.{Residual}
use Rattle.values.specs.Results.{CountAnswer}
use Rattle.values.specs.declared.Yaw.{Yaw}
use Rattle.values.specs.declared.Yaw.TheVariants as yaw
use Rattle.values.specs.Results.{YawAnswer}
use Rattle.views.specs.Units.{float_of, in_unit, number_in, count_in, yaw_said, yaw_in}

module _ (sf code : ℕ) {v : Value} (e : v ≡ value_of sf code) where
  unit-is : (u : Value) → v ≡ u → float_of u ≡ in_unit sf code
  unfolding in_unit
  unit-is u q = ap float_of (sym q ∙ e)

  pub unit-metres : (x : Float) → v ≡ Metres x → x ≡ in_unit sf code
  unit-metres x q = unit-is (Metres x) q

  pub unit-degrees : (x : Float) → v ≡ Degrees x → x ≡ in_unit sf code
  unit-degrees x q = unit-is (Degrees x) q

  pub unit-tecu : (x : Float) → v ≡ Tecu x → x ≡ in_unit sf code
  unit-tecu x q = unit-is (Tecu x) q

  pub unit-coefficient : (x : Float) → v ≡ Coefficient x → x ≡ in_unit sf code
  unit-coefficient x q = unit-is (Coefficient x) q

  module _ {z : Float} (h : z ≡ of_int binary64 (pos 0)) where
    pub unit-count : (n : ℕ) → v ≡ Count n → z ≡ in_unit sf code
    unit-count n q = h ∙ unit-is (Count n) q

    pub unit-residual : (r : Residual) → v ≡ OfResidual r → z ≡ in_unit sf code
    unit-residual r q = h ∙ unit-is (OfResidual r) q

    pub unit-yaw : (y : Yaw) → v ≡ OfYaw y → z ≡ in_unit sf code
    unit-yaw y q = h ∙ unit-is (OfYaw y) q

    pub unit-refused : (why : Refusal) → v ≡ Refused why → z ≡ in_unit sf code
    unit-refused why q = h ∙ unit-is (Refused why) q

module _ (sf code : ℕ) {a : CountAnswer} (e : a ≡ count_of sf code) where
  pub count-is : (n : ℕ) → a ≡ Ok n → n ≡ count_in sf code
  unfolding count_in
  count-is n q = ap number_in (sym q ∙ e)

  pub count-refused : (why : Refusal) → a ≡ Err why → 0 ≡ count_in sf code
  unfolding count_in
  count-refused why q = ap number_in (sym q ∙ e)

module _ (code : ℕ) {a : YawAnswer} (e : a ≡ yaw_of code) where
  pub yaw-is : (y : Yaw) → a ≡ Ok y → y ≡ yaw_in code
  unfolding yaw_in
  yaw-is y q = ap yaw_said (sym q ∙ e)

  pub yaw-refused : (why : Refusal) → a ≡ Err why → yaw.Invalid ≡ yaw_in code
  unfolding yaw_in
  yaw-refused why q = ap yaw_said (sym q ∙ e)
