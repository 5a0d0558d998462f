-- Definitions to believe: where a part of lent bytes starts. And, proved, that this leaves no choice.
use Rattle.std.specs.Prelude.{◌≡◌, ℕ, ◌+◌}
use Rattle.std.proofs.Common.{sym, ◌∙◌}
use Rattle.std.specs.Borrow.{Bor}

-- r is a part of the bytes lent as s, and starts so many bytes behind their start
pub record PartOf {X : Type 0} (r s : Bor X) (place : ℕ) : Type 0 where
  pub same_bytes : r.ref_ptr.0 ≡ s.ref_ptr.0
  pub starts-at : r.ref_ptr.1 ≡ s.ref_ptr.1 + place

-- two parts that meet it start at the same byte
pub part-determined : {X : Type 0} {r r' s : Bor X} {place : ℕ} → PartOf r s place → PartOf r' s place → (r.ref_ptr.0 ≡ r'.ref_ptr.0) × (r.ref_ptr.1 ≡ r'.ref_ptr.1)
part-determined p q = (p.same_bytes ∙ sym q.same_bytes, p.starts-at ∙ sym q.starts-at)
