-- Serves proofs, and is proved: of an iterator that hands out a list from its first item on, two calls cannot differ in the item nor in what is still to come.
use Rattle.std.specs.Prelude.{◌≡◌, refl, List, [], ◌∷◌, Option, Some, None}
use Rattle.std.specs.Iterator.{YieldsFirst}
use Rattle.std.proofs.Common.{sym, ◌∙◌}

pub yields-determined : {S A : Type 0} (rest : S → List A) (s t₁ t₂ : S) (r₁ r₂ : Option A)
    → YieldsFirst rest s r₁ t₁ → YieldsFirst rest s r₂ t₂ → (r₁ ≡ r₂) × (rest t₁ ≡ rest t₂)
yields-determined rest s t₁ t₂ None None a b = (refl, a.1 ∙ sym b.1)
yields-determined rest s t₁ t₂ None (Some y) a b = let e : [] ≡ y ∷ rest t₂ = sym a.0 ∙ b in (cc, cc)
yields-determined rest s t₁ t₂ (Some x) None a b = let e : x ∷ rest t₁ ≡ [] = sym a ∙ b.0 in (cc, cc)
yields-determined rest s t₁ t₂ (Some x) (Some y) a b = let e : x ∷ rest t₁ ≡ y ∷ rest t₂ = sym a ∙ b in (cc, cc)
