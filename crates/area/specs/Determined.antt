-- Two results of a public call of this crate cannot differ: for equal inputs, answers and lent buffers that meet the contract are equal. Proved.
-- Written by tests/determined from the contracts in src/.
use Rattle.std.specs.Prelude.{ℕ, Bool, List, ◌≡◌}
use Rattle.area.specs.Area.{area_off, is_area, nodes, number_at, put_at, sf031}
use Rattle.std.proofs.Common.{◌∙◌, sym}

pub id-determined : (area : ℕ) (r₁ r₂ : ℕ)
    → r₁ ≡ sf031 area
    → r₂ ≡ sf031 area
    → r₁ ≡ r₂
id-determined area r₁ r₂ e0₁ e0₂ = e0₁ ∙ sym e0₂

pub nodes-determined : (area : ℕ) (r₁ r₂ : ℕ)
    → r₁ ≡ nodes area
    → r₂ ≡ nodes area
    → r₁ ≡ r₂
nodes-determined area r₁ r₂ e0₁ e0₂ = e0₁ ∙ sym e0₂

pub is-off-determined : (area : ℕ) (r₁ r₂ : Bool)
    → r₁ ≡ area_off area
    → r₂ ≡ area_off area
    → r₁ ≡ r₂
is-off-determined area r₁ r₂ e0₁ e0₂ = e0₁ ∙ sym e0₂

pub is-area-determined : (area : ℕ) (r₁ r₂ : Bool)
    → r₁ ≡ is_area area
    → r₂ ≡ is_area area
    → r₁ ≡ r₂
is-area-determined area r₁ r₂ e0₁ e0₂ = e0₁ ∙ sym e0₂

pub number-at-determined : (bytes : List ℕ) (at : ℕ) (r₁ r₂ : ℕ)
    → r₁ ≡ number_at bytes at
    → r₂ ≡ number_at bytes at
    → r₁ ≡ r₂
number-at-determined bytes at r₁ r₂ e0₁ e0₂ = e0₁ ∙ sym e0₂

pub put-at-determined : (bytes : List ℕ) (at area : ℕ) (bytes₁ bytes₂ : List ℕ)
    → bytes₁ ≡ put_at bytes at area
    → bytes₂ ≡ put_at bytes at area
    → bytes₁ ≡ bytes₂
put-at-determined bytes at area bytes₁ bytes₂ e0₁ e0₂ = e0₁ ∙ sym e0₂
