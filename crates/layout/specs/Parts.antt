-- Definitions to believe: fields that take the codes from 0 on, and parts of a message that may be absent or repeat.
use Rattle.std.specs.Prelude.{Bool, true, false, List, [], ◌∷◌, ℕ, zero, suc, ◌-◌, ◌^◌}
use Rattle.answer.specs.declared.Refusal.TheVariants as refusal
use Rattle.layout.specs.declared.Field.{Field}
use Rattle.layout.specs.Layout.{Layout}

-- 0 to most
abbrev pub up_to : (sf width most : ℕ) → Field
up_to sf width most = record { sf = sf; width = width; least = 0; most = most; extra = most; except = most; under = refusal.Field; over = refusal.Field }

-- every code of its width
abbrev pub free : (sf width : ℕ) → Field
free sf width = up_to sf width (2 ^ width - 1)

-- A part reads its fields and hands what it read to what follows: it is a function of type (B → Layout A) → Layout A.

pub data Part (B : Type 0) : Type 0 where
  absent : Part B
  present : (value : B) → Part B

-- there if the test holds
abbrev pub optional : {A B : Type 0} → Bool → ((B → Layout A) → Layout A) → (Part B → Layout A) → Layout A
optional true part k = part (λ x. k (present x))
optional false part k = k absent

-- one after the other, n times
abbrev pub times : {A B : Type 0} → ℕ → ((B → Layout A) → Layout A) → (List B → Layout A) → Layout A
times zero part k = k []
times (suc n) part k = part (λ x. times n part (λ xs. k (x ∷ xs)))

-- one for each of a list of numbers
abbrev pub each : {A B : Type 0} → List ℕ → (ℕ → (B → Layout A) → Layout A) → (List B → Layout A) → Layout A
each [] part k = k []
each (m ∷ ms) part k = part m (λ x. each ms part (λ xs. k (x ∷ xs)))
