-- Serves proofs, and is proved: of equal answers that hold a pair, the parts are equal.
use Rattle.std.specs.Prelude.{◌≡◌, Option, Some, None, Result, Ok, Err}
use Rattle.std.proofs.Common.{ap}

first_or : {A B E : Type 0} → A → Result (A × B) E → A
first_or a (Ok p) = p.0
first_or a (Err why) = a

second_or : {A B E : Type 0} → B → Result (A × B) E → B
second_or b (Ok p) = p.1
second_or b (Err why) = b

pub ok-first : {A B E : Type 0} {a c : A} {b d : B} → ◌≡◌ {A = Result (A × B) E} (Ok (a, b)) (Ok (c, d)) → a ≡ c
unfolding first_or
ok-first {a = a} e = ap (first_or a) e

pub ok-second : {A B E : Type 0} {a c : A} {b d : B} → ◌≡◌ {A = Result (A × B) E} (Ok (a, b)) (Ok (c, d)) → b ≡ d
unfolding second_or
ok-second {b = b} e = ap (second_or b) e

-- and of equal answers what they hold is equal
value_or : {A E : Type 0} → A → Result A E → A
value_or a (Ok b) = b
value_or a (Err why) = a

pub ok-value : {A E : Type 0} {a b : A} → ◌≡◌ {A = Result A E} (Ok a) (Ok b) → a ≡ b
unfolding value_or
ok-value {a = a} e = ap (value_or a) e

some_or : {A : Type 0} → A → Option A → A
some_or a (Some b) = b
some_or a None = a

pub some-value : {A : Type 0} {a b : A} → ◌≡◌ {A = Option A} (Some a) (Some b) → a ≡ b
unfolding some_or
some-value {a = a} e = ap (some_or a) e
