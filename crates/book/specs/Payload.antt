-- Mirror: a GAD payload at its bits, as the code reads it; and, proved, that where a payload is accepted these are what its layout reads (`gad-at-bits`).
use Rattle.std.specs.Prelude.{◌≡◌, refl, Bool, false, ◌&&◌, take, Ok}
use Rattle.std.proofs.Math.Path.{ap, ap₂, subst}
use Rattle.std.proofs.Common.{sym, ◌∙◌, add_assoc, arith, drop-drop}
use Rattle.std.proofs.Math.Bool.{true}
use mathlib.Core.List.{List, [], ◌∷◌}
use Prim.Native.Nat.{ℕ, zero, suc, ◌+◌, ◌*◌, ◌^◌, ◌≤◌}
use Rattle.std.proofs.Math.Dec.{leb}
use Rattle.std.proofs.Math.ListN.{length, drop, length-drop}
use borrow.Author.Tests.{le-leb, leb-true}
use Rattle.answer.specs.Stop.{stop}
use Rattle.answer.specs.Place.{nowhere}
use Rattle.answer.specs.declared.Refusal.TheVariants as refusal
use Rattle.bits.specs.Bits.{to_bits, number}
use Rattle.bits.specs.Bits as bits
use Rattle.bits.specs.Laws.{length-to_bits, field_lt, field-split, field-part}
use Rattle.layout.specs.declared.Field.{Field}
use Rattle.layout.specs.Layout.{Layout, done, field, judge, accepted, refused, read_l}
use Rattle.layout.specs.Parts.{times}
use Rattle.layout.specs.RoundTrip.{enough-acc, judged-acc, before_acc}
use Rattle.layout.specs.Run.{taken-most}
use Rattle.fields.specs.Fields.{table, find, line_of, sf}
use Rattle.gad.specs.Gad.{Block, Gad, block, gad}
use Rattle.message.specs.Messages.{Message, gad_message, gad_layout}
use Rattle.sheet.specs.Sheet.{bad_length, judging}
use Rattle.area.specs.Area.{sf032, sf033, in_range}
use Rattle.book.specs.Take.{area_of, areas_of, Outcome, take_all, before}
use Rattle.book.specs.TakeLaws.{InRange}
use Rattle.book.specs.declared.Book.{Book}

-- SF005 SIOU; SF068 AIOU; SF030, which means code plus one; and so many blocks
abbrev pub siou_of : List ℕ → ℕ
siou_of payload = bits.field payload 0 9

abbrev pub aiou_of : List ℕ → ℕ
aiou_of payload = bits.field payload 9 4

abbrev pub block_count : List ℕ → ℕ
block_count payload = suc (bits.field payload 14 5)

-- what those 5 bits can count: a fact of the layout, whatever a book can hold
abbrev pub most_blocks : ℕ
most_blocks = 2 ^ 5

-- where block i begins
abbrev pub block_start : ℕ → ℕ
block_start i = 19 + 47 * i

abbrev pub block_at : List ℕ → ℕ → ℕ
block_at payload i = bits.field payload (block_start i) 47

unfoldable pub blocks_from : ℕ → ℕ → List ℕ → List ℕ
blocks_from zero i payload = []
blocks_from (suc n) i payload = block_at payload i ∷ blocks_from n (suc i) payload

abbrev pub blocks_of : List ℕ → List ℕ
blocks_of payload = blocks_from (block_count payload) 0 payload

-- the areas held after a payload that is accepted, or the first refusal of a block
abbrev pub take_bits : Book → List ℕ → List ℕ → Outcome
take_bits book s payload = take_all (blocks_of payload) (before book s (aiou_of payload) (siou_of payload))

-- the GAD m stands at those bits, and all of them are there
pub record AtBits (payload : List ℕ) (m : Gad) : Type 0 where
  pub siou : m.siou ≡ siou_of payload
  pub aiou : m.aiou ≡ aiou_of payload
  pub areas : areas_of m.blocks ≡ blocks_of payload
  pub in-range : InRange (blocks_of payload)
  pub there : block_start (block_count payload) ≤ 8 * length payload

-- ---- along the layout: each field stands where the one before it ends

module _ {A : Type 0} (s : List ℕ) (v : A) where
  -- from bit pos on the layout reads v
  record From (l : Layout A) (pos : ℕ) : Type 0 where
    inside : pos ≤ 8 * length s
    codes : List ℕ
    used : ℕ
    reads : read_l l (drop pos (to_bits s)) ≡ accepted v codes used

  past : {f : Field} {next : ℕ → Layout A} {pos : ℕ} → From (field f next) pos
      → (judge f (bits.field s pos f.width) ≡ Ok tt) × From (next (bits.field s pos f.width)) (pos + f.width)
  unfolding read_l bits.field
  past {f} {next} {pos} r =
      let w : ℕ = f.width in
      let l : List ℕ = drop pos (to_bits s) in
      let c : ℕ = number (take w l) in
      let e₁ = enough-acc f.sf (leb w (length l)) _ r.reads in
      let e₂ = judged-acc f.sf (judge f c) _ e₁.1 in
      let e₃ = before_acc c w (read_l (next c) (drop w l)) e₂.1 in (
        e₂.0,
        record {
          inside = omega (arith, leb-true w (length l) e₁.0, length-drop pos (to_bits s), length-to_bits s, r.inside);
          codes = e₃.0;
          used = e₃.1;
          reads = ap (read_l (next c)) (sym (drop-drop w pos (to_bits s))) ∙ e₃.2;
        },
      )

  -- the same behind n bits from pos on, which say x
  record Behind (pos n x : ℕ) (l : Layout A) : Type 0 where
    says : x ≡ bits.field s pos n
    here : From l (pos + n)

  first : {f : Field} {next : ℕ → Layout A} {pos : ℕ} → From (field f next) pos → Behind pos f.width (bits.field s pos f.width) (next (bits.field s pos f.width))
  first r = record { says = refl; here = (past r).1 }

  further : {f : Field} {next : ℕ → Layout A} {pos n x : ℕ} → Behind pos n x (field f next)
      → (judge f (bits.field s (pos + n) f.width) ≡ Ok tt)
      × Behind pos (n + f.width) (x * 2 ^ f.width + bits.field s (pos + n) f.width) (next (bits.field s (pos + n) f.width))
  further {f} {next} {pos} {n} {x} b =
      let p = past b.here in
      let w : ℕ = f.width in
      let c : ℕ = bits.field s (pos + n) w in (
        p.0,
        record {
          says = ap (λ x. x * 2 ^ w + c) b.says ∙ sym (field-split s pos n w (omega (arith, p.1.inside)));
          here = subst (From (next c)) (add_assoc pos n w) p.1;
        },
      )

  -- ---- a block, and blocks

  record BlockAt (k : Block → Layout A) (pos : ℕ) : Type 0 where
    code : Block
    rest : From (k code) (pos + 47)
    area : area_of code ≡ bits.field s pos 47
    range : in_range (bits.field s pos 47) ≡ true

  block-stands : (k : Block → Layout A) (pos : ℕ) → From (block k) pos → BlockAt k pos
  unfolding sf line_of find table
  block-stands k pos r =
      let latitude = further (first r) in
      let longitude = further latitude.1 in
      let rows = further longitude.1 in
      let columns = further rows.1 in
      let latitude_spacing = further columns.1 in
      let longitude_spacing = further latitude_spacing.1 in
      let there : pos + 47 ≤ 8 * length s = longitude_spacing.1.here.inside in
      let y : leb (sf032 (bits.field s pos 47)) 1800 ≡ true
      = ap (λ x. leb x 1800) (sym (field-part s pos 8 11 28 there)) ∙ le-leb _ _ (taken-most (sf 32) _ (omega arith) latitude.0) in
      let z : leb (sf033 (bits.field s pos 47)) 3600 ≡ true
      = ap (λ x. leb x 3600) (sym (field-part s pos 19 12 16 there)) ∙ le-leb _ _ (taken-most (sf 33) _ (omega arith) longitude.0) in
      record { code = _; rest = longitude_spacing.1.here; area = longitude_spacing.1.says; range = ap₂ (λ a b. a && b) y z }

  record BlocksAt (k : List Block → Layout A) (n i : ℕ) : Type 0 where
    codes : List Block
    rest : From (k codes) (block_start (i + n))
    areas : areas_of codes ≡ blocks_from n i s
    range : InRange (blocks_from n i s)

  blocks-stand : (k : List Block → Layout A) (n i : ℕ) → From (times n block k) (block_start i) → BlocksAt k n i
  unfolding blocks_from
  blocks-stand k zero i r = record { codes = []; rest = subst (From (k [])) (omega arith) r; areas = refl; range = InRange.none }
  blocks-stand k (suc n) i r =
      let b = block-stands (λ x. times n block (λ xs. k (x ∷ xs))) (block_start i) r in
      let l = blocks-stand (λ xs. k (b.code ∷ xs)) n (suc i) (subst (From (times n block (λ xs. k (b.code ∷ xs)))) (omega arith) b.rest) in
      record {
        codes = b.code ∷ l.codes;
        rest = subst (From (k (b.code ∷ l.codes))) (omega arith) l.rest;
        areas = ap₂ (λ a l. a ∷ l) b.area l.areas;
        range = InRange.more (field_lt s (block_start i) 47) b.range l.range;
      }

-- ---- the payload

-- what is accepted by a GAD's layout is the GAD that stands at those bits
gad-accepted : {A : Type 0} (f : Gad → A) (payload : List ℕ) (v : A) (codes : List ℕ) (used : ℕ) → read_l (gad (λ m. done (f m))) (to_bits payload) ≡ accepted v codes used
    → (m : Gad) × (v ≡ f m) × AtBits payload m
unfolding read_l sf line_of find table
gad-accepted f payload v codes used e =
    let start : From payload v (gad (λ m. done (f m))) 0 = record { inside = omega arith; codes = codes; used = used; reads = e } in
    let siou = past payload v start in
    let aiou = past payload v siou.1 in
    let reserved = past payload v aiou.1 in
    let count = past payload v reserved.1 in
    let b = blocks-stand payload v (λ blocks. done (f (record { siou = siou_of payload; aiou = aiou_of payload; blocks = blocks }))) (block_count payload) 0 count.1 in
    let end : accepted (f (record { siou = siou_of payload; aiou = aiou_of payload; blocks = b.codes })) [] 0 ≡ accepted v b.rest.codes b.rest.used = b.rest.reads in (
      record { siou = siou_of payload; aiou = aiou_of payload; blocks = b.codes },
      cc,
      record { siou = refl; aiou = refl; areas = b.areas; in-range = b.range; there = omega (arith, b.rest.inside) },
    )

-- so what is read from a payload of type 2-0 is a GAD,
pub gad-only : (payload : List ℕ) (v : Message) (codes : List ℕ) (used : ℕ) → judging 2 0 payload ≡ accepted v codes used → (m : Gad) × (v ≡ gad_message m) × AtBits payload m
unfolding judging
gad-only payload v codes used e = go (bad_length (length payload)) e
  where
    go : (b : Bool) → stop b (refused (nowhere refusal.Length)) (read_l gad_layout (to_bits payload)) ≡ accepted v codes used → (m : Gad) × (v ≡ gad_message m) × AtBits payload m
    go true e = let z : ◌≡◌ {A = ℕ} 0 1 = cc in absurd (omega arith)
    go false e = gad-accepted gad_message payload v codes used e

-- and stands there.
pub gad-at-bits : (payload : List ℕ) (m : Gad) (codes : List ℕ) (used : ℕ) → judging 2 0 payload ≡ accepted (gad_message m) codes used → AtBits payload m
gad-at-bits payload m codes used e =
    let r = gad-only payload (gad_message m) codes used e in
    let same : gad_message m ≡ gad_message r.0 = r.1 in
    let z : r.0 ≡ m = cc in
    subst (AtBits payload) z r.2
