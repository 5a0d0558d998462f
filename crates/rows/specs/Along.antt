-- Laws: what it is for a machine to go along a row's cells, and how it goes along parts that may be absent or repeat.
use Rattle.std.specs.Prelude.{◌≡◌, Bool, true, false, List, [], ◌∷◌, ◌++◌, ℕ, zero, suc}
use Rattle.std.proofs.Common.{ap, ap₂, sym, ◌∙◌, subst}
use Rattle.layout.specs.declared.Field.{Field}
use Rattle.layout.specs.Layout.{pick, judge}
use Rattle.rows.specs.declared.Row.{Row}
use Rattle.rows.specs.Rows.{width_in, field_in, cells_in, again}

pub data In : Field → ℕ → Type 0 where
  is : {f : Field} {cell : ℕ} → f ≡ field_in cell → In f cell

pub width_is : {f : Field} {cell : ℕ} → In f cell → f.width ≡ width_in cell
width_is (is e) = ap (λ (x : Field). x.width) e

pub sf-is : {f : Field} {cell : ℕ} → In f cell → f.sf ≡ (field_in cell).sf
sf-is (is e) = ap (λ (x : Field). x.sf) e

pub judge-is : {f : Field} {cell : ℕ} (c : ℕ) → In f cell → judge f c ≡ judge (field_in cell) c
judge-is c (is e) = ap (λ (x : Field). judge x c) e

pub in-pick : (b : Bool) {f g : Field} {x y : ℕ} → In f x → In g y → In (pick b f g) (pick b x y)
in-pick true p q = p
in-pick false p q = q

-- From each state the machine's field is the cell's, whatever the codes before were; after the last cell it is where `after` says, by the last code alone.
pub data Along {S : Type 0} (field_of : S → Field) (step_of : S → ℕ → S) : S → List ℕ → (after : ℕ → S) → Type 0 where
  stays : {s : S} {after : ℕ → S} → ((c : ℕ) → s ≡ after c) → Along field_of step_of s [] after
  decides : {s : S} {cell : ℕ} {after : ℕ → S} → In (field_of s) cell → ((c : ℕ) → step_of s c ≡ after c) → Along field_of step_of s (cell ∷ []) after
  passes : {s : S} {cell : ℕ} {cs : List ℕ} {after : ℕ → S} → In (field_of s) cell
      → ((c : ℕ) → Along field_of step_of (step_of s c) cs after) → Along field_of step_of s (cell ∷ cs) after

module _ {S : Type 0} (field_of : S → Field) (step_of : S → ℕ → S) where
  -- either of two ends of a row
  pub along-either : (b : Bool) {s t x y : S} (m n : ℕ) → Along field_of step_of s (cells_in m) (step_of x) → Along field_of step_of t (cells_in n) (step_of y)
      → Along field_of step_of (pick b s t) (cells_in (pick b m n)) (step_of (pick b x y))
  along-either true m n p q = p
  along-either false m n p q = q

  -- there if the test holds, then the rest
  pub along-optional : (b : Bool) {s t : S} (cs : List ℕ) {ds : List ℕ} {k : ℕ → S} → (Along field_of step_of t ds k → Along field_of step_of s (cs ++ ds) k)
      → Along field_of step_of t ds k → Along field_of step_of (pick b s t) (pick b cs [] ++ ds) k
  along-optional true cs h rest = h rest
  along-optional false cs h rest = rest

  -- one cell, from s to t
  abbrev pub Passes : (s : S) (cell : ℕ) (t : S) → Type 0
  Passes s cell t = (cs : List ℕ) (after : ℕ → S) → Along field_of step_of t cs after → Along field_of step_of s (cell ∷ cs) after

  -- the same cell n times; state n is where n of them are still to come
  pub along-again : (state : ℕ → S) (cell : ℕ) {tail : List ℕ} {after : ℕ → S} → cells_in cell ≡ cell ∷ [] → ((n : ℕ) → Passes (state (suc n)) cell (state n))
      → Along field_of step_of (state 0) tail after → (n : ℕ) → Along field_of step_of (state n) (again n (cells_in cell) tail) after
  along-again state cell alone h rest zero = rest
  along-again state cell {tail} {after} alone h rest (suc n) =
      subst (λ cs. Along field_of step_of (state (suc n)) (cs ++ again n (cells_in cell) tail) after) (sym alone) (h n _ _ (along-again state cell alone h rest n))

-- a word of one cell, by its number
pub alone-pick : (b : Bool) {x y : ℕ} → cells_in x ≡ x ∷ [] → cells_in y ≡ y ∷ [] → cells_in (pick b x y) ≡ pick b x y ∷ []
alone-pick true p q = p
alone-pick false p q = q

-- a row whose words inner calls gave
pub row_made : (more : ℕ) {group group' tail tail' : ℕ} → group ≡ group' → tail ≡ tail'
    → ◌≡◌ {A = Row} (record { group = group; more = more; tail = tail }) (record { group = group'; more = more; tail = tail' })
row_made more p q = ap₂ (λ (g t : ℕ). record { group = g; more = more; tail = t }) p q

-- A machine within a machine goes along what the inner one goes along.
pub along-within : {S U : Type 0} {field_s : S → Field} {step_s : S → ℕ → S} {field_u : U → Field} {step_u : U → ℕ → U} (inside : S → U)
    → ((s : S) → field_u (inside s) ≡ field_s s) → ((s : S) (c : ℕ) → step_u (inside s) c ≡ inside (step_s s c))
    → {s : S} {cs : List ℕ} {k : ℕ → S} → Along field_s step_s s cs k → Along field_u step_u (inside s) cs (λ c. inside (k c))
along-within inside p q {s} (stays e) = stays (λ c. ap inside (e c))
along-within {field_u} inside p q {s} (decides {cell} e h) = decides (subst (λ f. In f cell) (sym (p s)) e) (λ c. q s c ∙ ap inside (h c))
along-within {field_u} {step_u} inside p q {s} {k} (passes {cell} {cs} e h) =
    passes (subst (λ f. In f cell) (sym (p s)) e)
    (λ c. subst (λ x. Along field_u step_u x cs (λ d. inside (k d))) (sym (q s c)) (along-within inside p q (h c)))
