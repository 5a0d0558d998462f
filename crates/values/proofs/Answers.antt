-- One lemma for each answer of the functions, in plain variables, its premises worded as the code makes them. Assumes nothing.
use Rattle.std.specs.Prelude.{Ok, Err}
use mathlib.Core.Path.{◌≡◌, refl, sym, ap, ap₂, subst, ◌∙◌}
use mathlib.Core.List.{[], ◌∷◌}
use mathlib.Core.Bool.{Bool, true, false, cond}
use Prim.Native.Nat.{ℕ, zero, suc, ◌-◌, ◌^◌, ◌<◌}
use native.Mathlib.Omega.{arith}
use lib.Dec.{ltb}
use lib.IntN.{ℤ, pos, negsuc, ◌-ℤ◌}
use lib.Signed.{mag}
use lib.Ieee.{Float, binary64, div, of_int}
use mir.Syntax.{w16, w32}
use mir.Val.{Fits, SFits, to_z, of_z}
use mir.ValLaws.{to_z_pos, to_z-of_z}
use Rattle.answer.specs.declared.Refusal.TheVariants.{Field}
use Rattle.values.specs.Values.{half_degrees, quotient, value_of, residual_by, residual_of, yaw_by, yaw_of, count_by, count_of, in_metres, orbit_with, orbit_from, orbit_of, number_of_value}
use Rattle.values.specs.declared.Value.{Value}
use Rattle.values.specs.declared.Value.TheVariants.{Metres, Degrees, Tecu, Coefficient, Count, OfResidual, OfYaw, Refused}
use Rattle.values.specs.declared.Residual.{Residual}
use Rattle.values.specs.declared.Yaw.{Yaw}
use Rattle.values.specs.Results.{ResidualAnswer}
use Rattle.values.specs.Results.{YawAnswer}
use Rattle.values.specs.Results.{CountAnswer}
use Rattle.values.specs.Results.{OrbitAnswer}
use Rattle.values.specs.contracts.Value.{the_type}
use types.Run.{OneOf, miss}
use denote.Enum.Declared.{tag_of}

-- ---- a difference of two numbers of 16 bits, in 32 bits with a sign

small : (a b : ℕ) → a < 65536 → b < 65536 → mag (pos a -ℤ pos b) < 2 ^ 31
small a zero h k = omega arith
small a (suc b) h k = go (ltb a (suc b)) refl
  where
    go : (t : Bool) → ltb a (suc b) ≡ t → mag (cond t (negsuc (suc b - suc a)) (pos (a - suc b))) < 2 ^ 31
    go true e = omega arith
    go false e = omega arith

module _ (a b : ℕ) (h : Fits w16 a) (k : Fits w16 b) where
  as-signed : (to_z w32 a -ℤ to_z w32 b) ≡ (pos a -ℤ pos b)
  as-signed = ap₂ (λ (x y : ℤ). x -ℤ y) (to_z_pos w32 a (omega (arith, h.fits))) (to_z_pos w32 b (omega (arith, k.fits)))

  pub difference-fits : SFits w32 (to_z w32 a -ℤ to_z w32 b)
  difference-fits = subst (λ (z : ℤ). SFits w32 z) (sym as-signed) (record { sfits = small a b h.fits k.fits })

  difference-is : to_z w32 (of_z w32 (to_z w32 a -ℤ to_z w32 b)) ≡ (pos a -ℤ pos b)
  difference-is = to_z-of_z w32 (to_z w32 a -ℤ to_z w32 b) difference-fits ∙ as-signed

  pub about-is : (n : ℕ) → div binary64 (of_int binary64 (to_z w32 (of_z w32 (to_z w32 a -ℤ to_z w32 b)))) (of_int binary64 (pos n)) ≡ quotient (pos a -ℤ pos b) n
  unfolding quotient
  about-is n = ap (λ (z : ℤ). div binary64 (of_int binary64 z) (of_int binary64 (pos n))) difference-is

-- ---- the number

pub spacing-past : (code : ℕ) → (code ≡ 0 → ⊥) → (code ≡ 1 → ⊥) → (code ≡ 2 → ⊥) → (code ≡ 3 → ⊥) → ◌≡◌ {A = ℕ} 0 (half_degrees code)
spacing-past zero a b c d = absurd (a refl)
spacing-past (suc zero) a b c d = absurd (b refl)
spacing-past (suc (suc zero)) a b c d = absurd (c refl)
spacing-past (suc (suc (suc zero))) a b c d = absurd (d refl)
spacing-past (suc (suc (suc (suc n)))) a b c d = refl

-- ---- one variant of the value, and any other

-- what the code knows past the arm of `OfResidual`
abbrev pub NoResidual : Value → Type 0
NoResidual v = OneOf (0 ∷ 1 ∷ 2 ∷ 3 ∷ 4 ∷ 6 ∷ 7 ∷ []) (tag_of the_type v)

-- what the code knows past the arm of `OfYaw`
abbrev pub NoYaw : Value → Type 0
NoYaw v = OneOf (0 ∷ 1 ∷ 2 ∷ 3 ∷ 4 ∷ 5 ∷ 7 ∷ []) (tag_of the_type v)

-- what the code knows past the arm of `Count`
abbrev pub NoCount : Value → Type 0
NoCount v = OneOf (0 ∷ 1 ∷ 2 ∷ 3 ∷ 5 ∷ 6 ∷ 7 ∷ []) (tag_of the_type v)

-- what the code knows past the arm of `Metres`
abbrev pub NoMetres : Value → Type 0
NoMetres v = OneOf (1 ∷ 2 ∷ 3 ∷ 4 ∷ 5 ∷ 6 ∷ 7 ∷ []) (tag_of the_type v)

-- what the code knows past the arm of `Refused`
abbrev pub NotRefused : Value → Type 0
NotRefused v = OneOf (0 ∷ 1 ∷ 2 ∷ 3 ∷ 4 ∷ 5 ∷ 6 ∷ []) (tag_of the_type v)

pub number-if-not-refused : (v : Value) → NotRefused v → ◌≡◌ {A = ℕ} 0 (number_of_value v)
number-if-not-refused (Metres x) o = refl
number-if-not-refused (Degrees x) o = refl
number-if-not-refused (Tecu x) o = refl
number-if-not-refused (Coefficient x) o = refl
number-if-not-refused (Count n) o = refl
number-if-not-refused (OfResidual r) o = refl
number-if-not-refused (OfYaw y) o = refl
number-if-not-refused (Refused refusal) o = absurd (miss (0 ∷ 1 ∷ 2 ∷ 3 ∷ 4 ∷ 5 ∷ 6 ∷ []) 7 tt o)

no-residual : (v : Value) → NoResidual v → Err Field ≡ residual_by v
no-residual (Metres x) o = refl
no-residual (Degrees x) o = refl
no-residual (Tecu x) o = refl
no-residual (Coefficient x) o = refl
no-residual (Count n) o = refl
no-residual (OfResidual r) o = absurd (miss (0 ∷ 1 ∷ 2 ∷ 3 ∷ 4 ∷ 6 ∷ 7 ∷ []) 5 tt o)
no-residual (OfYaw y) o = refl
no-residual (Refused refusal) o = refl

no-yaw : (v : Value) → NoYaw v → Err Field ≡ yaw_by v
no-yaw (Metres x) o = refl
no-yaw (Degrees x) o = refl
no-yaw (Tecu x) o = refl
no-yaw (Coefficient x) o = refl
no-yaw (Count n) o = refl
no-yaw (OfResidual r) o = refl
no-yaw (OfYaw y) o = absurd (miss (0 ∷ 1 ∷ 2 ∷ 3 ∷ 4 ∷ 5 ∷ 7 ∷ []) 6 tt o)
no-yaw (Refused refusal) o = refl

no-count : (v : Value) → NoCount v → Err Field ≡ count_by v
no-count (Metres x) o = refl
no-count (Degrees x) o = refl
no-count (Tecu x) o = refl
no-count (Coefficient x) o = refl
no-count (Count n) o = absurd (miss (0 ∷ 1 ∷ 2 ∷ 3 ∷ 5 ∷ 6 ∷ 7 ∷ []) 4 tt o)
no-count (OfResidual r) o = refl
no-count (OfYaw y) o = refl
no-count (Refused refusal) o = refl

no-metres : (v : Value) (next : Float → OrbitAnswer) → NoMetres v → Err Field ≡ in_metres v next
no-metres (Metres x) next o = absurd (miss (1 ∷ 2 ∷ 3 ∷ 4 ∷ 5 ∷ 6 ∷ 7 ∷ []) 0 tt o)
no-metres (Degrees x) next o = refl
no-metres (Tecu x) next o = refl
no-metres (Coefficient x) next o = refl
no-metres (Count n) next o = refl
no-metres (OfResidual r) next o = refl
no-metres (OfYaw y) next o = refl
no-metres (Refused refusal) next o = refl

module _ (sf code : ℕ) (v : Value) (is : v ≡ value_of sf code) where
  pub residual-is : (x : Residual) → v ≡ OfResidual x → Ok x ≡ residual_of sf code
  unfolding residual_of
  residual-is x e = ap residual_by (sym e ∙ is)

  pub residual-field : NoResidual v → Err Field ≡ residual_of sf code
  unfolding residual_of
  residual-field o = no-residual v o ∙ ap residual_by is

module _ (code : ℕ) (v : Value) (is : v ≡ value_of 21 code) where
  pub yaw-is : (x : Yaw) → v ≡ OfYaw x → Ok x ≡ yaw_of code
  unfolding yaw_of
  yaw-is x e = ap yaw_by (sym e ∙ is)

  pub yaw-field : NoYaw v → Err Field ≡ yaw_of code
  unfolding yaw_of
  yaw-field o = no-yaw v o ∙ ap yaw_by is

module _ (sf code : ℕ) (v : Value) (is : v ≡ value_of sf code) where
  pub count-is : (x : ℕ) → v ≡ Count x → Ok x ≡ count_of sf code
  unfolding count_of
  count-is x e = ap count_by (sym e ∙ is)

  pub count-field : NoCount v → Err Field ≡ count_of sf code
  unfolding count_of
  count-field o = no-count v o ∙ ap count_by is

module _ (code : ℕ) (v : Value) (is : v ≡ value_of 20 code) (next : Float → OrbitAnswer) where
  in-metres : (x : Float) (r : OrbitAnswer) → v ≡ Metres x → r ≡ next x → r ≡ in_metres (value_of 20 code) next
  in-metres x r e q = q ∙ ap (λ (w : Value). in_metres w next) (sym e ∙ is)

  not-metres : NoMetres v → Err Field ≡ in_metres (value_of 20 code) next
  not-metres o = no-metres v next o ∙ ap (λ (w : Value). in_metres w next) is

module _ (radial along cross : ℕ) (v : Value) (is : v ≡ value_of 20 radial) where
  pub orbit-is : (x : Float) (r : OrbitAnswer) → v ≡ Metres x → r ≡ orbit_from x along cross → r ≡ orbit_of radial along cross
  unfolding orbit_of
  orbit-is x r e q = in-metres radial v is (λ y. orbit_from y along cross) x r e q

  pub orbit-field : NoMetres v → Err Field ≡ orbit_of radial along cross
  unfolding orbit_of
  orbit-field o = not-metres radial v is (λ y. orbit_from y along cross) o

module _ (radial : Float) (along cross : ℕ) (v : Value) (is : v ≡ value_of 20 along) where
  pub along-is : (x : Float) (r : OrbitAnswer) → v ≡ Metres x → r ≡ orbit_with radial x cross → r ≡ orbit_from radial along cross
  along-is x r e q = in-metres along v is (λ y. orbit_with radial y cross) x r e q

  pub along-field : NoMetres v → Err Field ≡ orbit_from radial along cross
  along-field o = not-metres along v is (λ y. orbit_with radial y cross) o

module _ (radial along : Float) (cross : ℕ) (v : Value) (is : v ≡ value_of 20 cross) where
  abbrev whole : Float → OrbitAnswer
  whole x = Ok (record { radial = radial; along_track = along; cross_track = x })

  pub cross-is : (x : Float) → v ≡ Metres x → Ok (record { radial = radial; along_track = along; cross_track = x }) ≡ orbit_with radial along cross
  cross-is x e = in-metres cross v is (λ y. whole y) x (whole x) e refl

  pub cross-field : NoMetres v → Err Field ≡ orbit_with radial along cross
  cross-field o = not-metres cross v is (λ y. whole y) o
