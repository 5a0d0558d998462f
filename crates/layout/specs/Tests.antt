-- Serves proofs, and is proved: a test of the code where a definition picks, and a count that goes down.
use Rattle.std.specs.Prelude.{◌≡◌, ℕ, suc, ◌-◌, ◌≤◌, ◌<◌, eqb, ltb, leb}
use Rattle.std.proofs.Common.{ap, ◌∙◌, arith, eq-eqb, ne_eqb, lt-ltb, le-ltb, le-leb}
use Rattle.std.proofs.lemmas.Bool.{lt-leb}
use Rattle.layout.specs.declared.Field.{Field}
use Rattle.layout.specs.Layout.{pick}
use Rattle.layout.specs.Parts.{free}

-- what the code makes of n - 1, with n not 0, is what the definition makes of n
pub one_less : {B : Type 0} (f : ℕ → B) (n : ℕ) → (n ≡ 0 → ⊥) → f (suc (n - 1)) ≡ f n
one_less f n h = ap f (omega arith)

-- `if a == b`, taken and not
pub if-same : {B : Type 0} (a b : ℕ) {x r : B} (y : B) → a ≡ b → r ≡ x → r ≡ pick (eqb a b) x y
if-same a b y e h = rw (eq-eqb a b e) h

pub if-other : {B : Type 0} (a b : ℕ) (x : B) {y r : B} → (a ≡ b → ⊥) → r ≡ y → r ≡ pick (eqb a b) x y
if-other a b x e h = rw (ne_eqb a b e) h

-- `if a <= b`, taken and not
pub if-least : {B : Type 0} (a b : ℕ) {x r : B} (y : B) → a ≤ b → r ≡ x → r ≡ pick (leb a b) x y
if-least a b y e h = rw (le-leb a b e) h

pub if-below : {B : Type 0} (a b : ℕ) (x : B) {y r : B} → b < a → r ≡ y → r ≡ pick (leb a b) x y
if-below a b x e h = rw (lt-leb a b e) h

-- `if a < b`, taken and not
pub if-less : {B : Type 0} (a b : ℕ) {x r : B} (y : B) → a < b → r ≡ x → r ≡ pick (ltb a b) x y
if-less a b y e h = rw (lt-ltb a b e) h

pub if-from : {B : Type 0} (a b : ℕ) (x : B) {y r : B} → b ≤ a → r ≡ y → r ≡ pick (ltb a b) x y
if-from a b x e h = rw (le-ltb a b e) h

-- a field whose number an inner call gave
pub sf-free : (w : ℕ) {sf sf' : ℕ} {r : Field} → r ≡ free sf w → sf ≡ sf' → r ≡ free sf' w
sf-free w p q = p ∙ ap (λ (x : ℕ). free x w) q
