-- Serves proofs, and is proved: a walk along a layout by the entries of a sheet. It keeps the record that is built, and that the sheet is accepted; so what the
-- code finds at a place is what the record says.
use Rattle.std.proofs.Math.Path.{◌≡◌, refl, ap, sym}
use Rattle.std.proofs.Common.{◌∙◌, subst, arith}
use Rattle.std.specs.Prelude.{Bool, leb, take, Ok}
use Rattle.std.proofs.Math.Bool.{true, false}
use mathlib.Core.List.{List, [], ◌∷◌, ◌++◌}
use Prim.Native.Nat.{ℕ, zero, suc, ◌+◌, ◌*◌, ◌^◌, ◌≤◌, ◌<◌}
use borrow.Author.Tests.{ltb-true, ltb-false}
use Rattle.std.proofs.Math.Dec.{ltb}
use Rattle.std.proofs.Math.ListN.{length, drop, get_or, length-drop}
use Rattle.std.proofs.Math.Seq.{drop-cons, drop-length}
use Rattle.bits.specs.Bits.{bits_of, number}
use Rattle.layout.specs.declared.Field.{Field}
use Rattle.layout.specs.Layout.{Layout, done, field, pick, judge, Outcome, accepted, read_l, Written, written, fitting, judged_w, behind, write_l}
use Rattle.layout.specs.Holds.{Holds}
use Rattle.layout.specs.Parts.{Part, absent, present, times, each}
use Rattle.layout.specs.Record.{record_from, record_of}
use Rattle.layout.specs.RoundTrip.{read-write, fitting-acc, judged_w-acc, behind-acc, enough-acc, judged-acc, before_acc}

-- ---- accepted from a place on

pub holds-inside : {A : Type 0} (l : Layout A) (sheet : List ℕ) (at : ℕ) → Holds l sheet at → at ≤ length sheet
unfolding Holds
holds-inside (done v) sheet at h = omega arith
holds-inside (field f next) sheet at h = omega (arith, h.0)

-- ---- a walk from one layout and place to another

pub data Reaches {A : Type 0} (sheet : List ℕ) (m : Layout A) (to : ℕ) : Layout A → ℕ → Type 0 where
  here : Reaches sheet m to m to
  on : {f : Field} {next : ℕ → Layout A} {at : ℕ} (then : ℕ) → then ≡ suc at → Reaches sheet m to (next (get_or sheet at 0)) then → Reaches sheet m to (field f next) at

module _ {A : Type 0} {sheet : List ℕ} where
  pub reaches-record : {m : Layout A} {to : ℕ} {l : Layout A} {at : ℕ} → Reaches sheet m to l at → record_from l sheet at ≡ record_from m sheet to
  unfolding record_from
  reaches-record here = refl
  reaches-record (on {next} {at} then e r) = ap (record_from (next (get_or sheet at 0)) sheet) (sym e) ∙ reaches-record r

  pub reaches-holds : {m : Layout A} {to : ℕ} {l : Layout A} {at : ℕ} → Reaches sheet m to l at → Holds l sheet at → Holds m sheet to
  unfolding Holds
  reaches-holds here h = h
  reaches-holds (on {next} {at} then e r) h = reaches-holds r (subst (Holds (next (get_or sheet at 0)) sheet) (sym e) h.2)

  pub reaches_then : {m : Layout A} {to : ℕ} {n : Layout A} {way : ℕ} {l : Layout A} {at : ℕ} → Reaches sheet n way l at → Reaches sheet m to n way → Reaches sheet m to l at
  reaches_then here q = q
  reaches_then (on then e r) q = on then e (reaches_then r q)

-- ---- what the writer accepts

module _ {A : Type 0} where
  -- from a place on, so that the induction goes along the layout
  holds-from : (l : Layout A) (sheet : List ℕ) (at : ℕ) (bits : List ℕ) → at ≤ length sheet → write_l l (drop at sheet) ≡ written bits → Holds l sheet at
  unfolding Holds write_l
  holds-from (done v) sheet at bits h e = go (drop at sheet) refl e
    where
      go : (cs : List ℕ) → drop at sheet ≡ cs → write_l (done v) cs ≡ written bits → at ≡ length sheet
      go [] p e = omega (arith, ap length p, length-drop at sheet)
      go (c ∷ cs) p e = let z : ◌≡◌ {A = ℕ} 0 1 = cc in absurd (omega arith)
  holds-from (field f next) sheet at bits h e = go (ltb at (length sheet)) refl (λ c cs. holds-from (next c) sheet (suc at) cs)
    where
      go : (b : Bool) → ltb at (length sheet) ≡ b
          → ((c : ℕ) (bs : List ℕ) → suc at ≤ length sheet → write_l (next c) (drop (suc at) sheet) ≡ written bs → Holds (next c) sheet (suc at))
          → (at < length sheet) × (judge f (get_or sheet at 0) ≡ Ok tt) × Holds (next (get_or sheet at 0)) sheet (suc at)
      go true p ih =
          let inside : at < length sheet = ltb-true at (length sheet) p in
          let c : ℕ = get_or sheet at 0 in
          let o : Written = write_l (next c) (drop (suc at) sheet) in
          let e' : judged_w f.sf (judge f c) (fitting f.sf (ltb c (2 ^ f.width)) (behind (bits_of f.width c) o)) ≡ written bits
          = ap (write_l (field f next)) (sym (drop-cons sheet at 0 inside)) ∙ e in
          let h1 = judged_w-acc f.sf (judge f c) _ e' in
          let h2 = fitting-acc f.sf (ltb c (2 ^ f.width)) _ h1.1 in
          let h3 = behind-acc (bits_of f.width c) o h2.1 in
          (inside, h1.0, ih c h3.0 (omega arith) h3.1)
      go false p ih =
          let all : at ≡ length sheet = omega (arith, ltb-false at (length sheet) p) in
          let e' : write_l (field f next) [] ≡ written bits = ap (write_l (field f next)) (sym (ap (λ x. drop x sheet) all ∙ drop-length sheet)) ∙ e in
          let z : ◌≡◌ {A = ℕ} 0 1 = cc in absurd (omega arith)

  pub written-holds : (l : Layout A) (sheet bits : List ℕ) → write_l l sheet ≡ written bits → Holds l sheet 0
  written-holds l sheet bits e = holds-from l sheet 0 bits (omega arith) e

  -- Reading the written bits gives the record.
  record-from : (l : Layout A) (sheet : List ℕ) (at : ℕ) (bits : List ℕ) (v : A) (cs : List ℕ) (n : ℕ) → Holds l sheet at → read_l l bits ≡ accepted v cs n
      → cs ≡ drop at sheet → record_from l sheet at ≡ v
  unfolding Holds read_l record_from
  record-from (done u) sheet at bits v cs n h e q = cc
  record-from (field f next) sheet at bits v cs n h e q =
      let w : ℕ = f.width in
      let c : ℕ = number (take w bits) in
      let o : Outcome A = read_l (next c) (drop w bits) in
      let h1 = enough-acc f.sf (leb w (length bits)) _ e in
      let h2 = judged-acc f.sf (judge f c) _ h1.1 in
      let h3 = before_acc c w o h2.1 in
      let both : c ∷ h3.0 ≡ get_or sheet at 0 ∷ drop (suc at) sheet = sym h3.3 ∙ q ∙ drop-cons sheet at 0 h.0 in
      let same : c ≡ get_or sheet at 0 = cc in
      let rest : h3.0 ≡ drop (suc at) sheet = cc in
      ap (λ x. record_from (next x) sheet (suc at)) (sym same)
      ∙ record-from (next c) sheet (suc at) (drop w bits) v h3.0 h3.1 (subst (λ x. Holds (next x) sheet (suc at)) (sym same) h.2) h3.2 rest

  -- What a sheet's bits read back as, whatever follows them, is the record that the layout builds of the sheet.
  pub record-reads : (l : Layout A) (sheet bits : List ℕ) → write_l l sheet ≡ written bits
      → (rest : List ℕ) → read_l l (bits ++ rest) ≡ accepted (record_of l sheet) sheet (length bits)
  record-reads l sheet bits e rest =
      let r = read-write l sheet bits e in
      let same : record_of l sheet ≡ r.0
      = record-from l sheet 0 (bits ++ rest) r.0 sheet (length bits) (written-holds l sheet bits e) (r.1 rest) refl in
      r.1 rest ∙ ap (λ x. accepted x sheet (length bits)) (sym same)

-- ---- parts: a part leads from a place to another, and hands on what stands there

-- n of them one after the other; `next` says where the one at a place ends
abbrev pub many : {B : Type 0} → (what : ℕ → B) (next : ℕ → ℕ) (n at : ℕ) → List B
many what next zero at = []
many what next (suc n) at = what at ∷ many what next n (next at)

abbrev pub many_end : (next : ℕ → ℕ) (n at : ℕ) → ℕ
many_end next zero at = at
many_end next (suc n) at = many_end next n (next at)

-- one for each of some numbers
abbrev pub many_of : {B : Type 0} → (what : ℕ → ℕ → B) (next : ℕ → ℕ) (ms : List ℕ) (at : ℕ) → List B
many_of what next [] at = []
many_of what next (m ∷ ms) at = what m at ∷ many_of what next ms (next at)

pub length-many : {B : Type 0} (what : ℕ → B) (next : ℕ → ℕ) (n at : ℕ) → length (many what next n at) ≡ n
length-many what next zero at = refl
length-many what next (suc n) at = ap suc (length-many what next n (next at))

-- each with as many entries
pub many-end : (w n at : ℕ) → many_end (λ x. x + w) n at ≡ at + w * n
many-end w zero at = omega arith
many-end w (suc n) at = many-end w n (at + w) ∙ omega arith

abbrev pub part_if : {B : Type 0} → Bool → B → Part B
part_if b x = pick b (present x) absent

module _ {A : Type 0} {sheet : List ℕ} where
  pub reaches-to : {m l : Layout A} {at : ℕ} (to to' : ℕ) → to ≡ to' → Reaches sheet m to l at → Reaches sheet m to' l at
  reaches-to {m} {l} {at} to to' e r = subst (λ x. Reaches sheet m x l at) e r

  pub reaches-times : {B : Type 0} {part : (B → Layout A) → Layout A} (what : ℕ → B) (next : ℕ → ℕ)
      → ((k : B → Layout A) (at : ℕ) → Reaches sheet (k (what at)) (next at) (part k) at)
      → (n : ℕ) (k : List B → Layout A) (at : ℕ) → Reaches sheet (k (many what next n at)) (many_end next n at) (times n part k) at
  reaches-times what next h zero k at = here
  reaches-times {part} what next h (suc n) k at =
      reaches_then (h (λ x. times n part (λ xs. k (x ∷ xs))) at) (reaches-times what next h n (λ xs. k (what at ∷ xs)) (next at))

  pub reaches-each : {B : Type 0} {part : ℕ → (B → Layout A) → Layout A} (what : ℕ → ℕ → B) (next : ℕ → ℕ)
      → ((m : ℕ) (k : B → Layout A) (at : ℕ) → Reaches sheet (k (what m at)) (next at) (part m k) at)
      → (ms : List ℕ) (k : List B → Layout A) (at : ℕ) → Reaches sheet (k (many_of what next ms at)) (many_end next (length ms) at) (each ms part k) at
  reaches-each what next h [] k at = here
  reaches-each {part} what next h (m ∷ ms) k at =
      reaches_then (h m (λ x. each ms part (λ xs. k (x ∷ xs))) at) (reaches-each what next h ms (λ xs. k (what m at ∷ xs)) (next at))
