-- The returns and the turns of store_gad.rt over plain variables: what the proofs of its functions cite. Before them, for BPAC too: fields whose bits are got as one
-- word, and a part that is stored n times.
use mathlib.Core.Path.{◌≡◌, refl, ap, sym, ◌∙◌, subst}
use mathlib.Core.Bool.{Bool, true, false}
use mathlib.Core.List.{List, [], ◌∷◌}
use Prim.Native.Nat.{ℕ, suc, ◌+◌, ◌-◌, ◌*◌, ◌/◌, ◌%◌, ◌^◌, ◌≤◌, ◌<◌}
use native.Mathlib.Numerals.{add-one}
use native.Mathlib.Omega.{arith}
use borrow.Author.Tests.{leb-true, leb-false}
use lib.Dec.{eqb, leb, lit<, lit≤}
use lib.ListN.{length, set}
use Rattle.bits.specs.Bits.{got}
use Rattle.layout.specs.declared.Field.{Field}
use Rattle.layout.specs.Layout.{Layout, done, field}
use Rattle.layout.specs.Parts.{times}
use Rattle.layout.specs.Run.{run_l}
use Rattle.layout.specs.Tests.{one_less}
use Rattle.fields.specs.Fields.{table, find, line_of, sf}
use Rattle.gad.specs.Gad.{block, gad}
use Rattle.message.specs.Messages.{Message, gad_message, gad_layout}
use Rattle.quick.specs.Passes.{got-part}
use Rattle.sheet.specs.Passes.{Filled}
use Rattle.sheet.specs.Stores.{run_at, Finishes, run-there, Stores, stores-end, stores-field, stores-with, stores_as}
use Rattle.sheet.specs.StoresHpac.{Kept}
use Rattle.sheet.specs.StoresGad.{head_on, place_on, grid_on, BlocksStored, GadStored}
use Rattle.sheet.proofs.Reading.{filled-only, filled-kind}
use Rattle.sheet.proofs.Storing.{stores-kept, onward}

-- ---- fields got as one word

module _ {B : Type 0} {payload : List ℕ} where
  -- a field without its bits: no message is accepted with it, so that it may come to anything
  pub stores-short : {f : Field} {part : ℕ → (B → Layout Message) → Layout Message} {pos at : ℕ} {sheet : List ℕ} {pos' at' : ℕ} {sheet' : List ℕ} (some : B) → 0 < f.width
      → 8 * length payload < pos + f.width → Stores payload (λ k. field f (λ x. part x k)) pos at sheet pos' at' sheet'
  stores-short {f} {part} {pos} {at} {sheet} some wide short =
      record { value = some; goes = λ k h. absurd (omega (arith, run-there payload f (λ x. part x k) pos at sheet wide h, short)) }

  pub stores-either : {part : (B → Layout Message) → Layout Message} {pos at : ℕ} {sheet : List ℕ} {pos' at' : ℕ} {sheet' : List ℕ} (end : ℕ)
      → (end ≤ 8 * length payload → Stores payload part pos at sheet pos' at' sheet') → (8 * length payload < end → Stores payload part pos at sheet pos' at' sheet')
      → Stores payload part pos at sheet pos' at' sheet'
  stores-either {part} {pos} {at} {sheet} {pos'} {at'} {sheet'} end there short = go (leb end (8 * length payload)) refl
    where
      go : (b : Bool) → leb end (8 * length payload) ≡ b → Stores payload part pos at sheet pos' at' sheet'
      go true e = there (leb-true end (8 * length payload) e)
      go false e = short (leb-false end (8 * length payload) e)

-- a code of w bits, out of a word that has o bits before it and m after it
pub kept-part : (payload : List ℕ) (pos o w m word : ℕ) → word ≡ got payload pos (o + (w + m)) → o + (w + m) ≤ 64 → pos + (o + (w + m)) ≤ 8 * length payload
    → (here at entry code : ℕ) (sheet sheet' : List ℕ) → pos + o ≡ here → entry ≡ at → code ≡ word / 2 ^ m % 2 ^ w → sheet' ≡ set sheet entry code
    → Kept payload here at w sheet code sheet'
kept-part payload pos o w m word e s h here at entry code sheet sheet' p q c f =
    record {
      code = c ∙ ap (λ (x : ℕ). x / 2 ^ m % 2 ^ w) e ∙ sym (got-part payload pos o w m s h) ∙ ap (λ (x : ℕ). got payload x w) p;
      stored = f ∙ ap (λ (x : ℕ). set sheet x code) q;
    }

-- ---- a part n times

-- what is left is stored from here as all was to be from the start
pub record Row {B : Type 0} (payload : List ℕ) (part : (B → Layout Message) → Layout Message) (n pos₀ at₀ : ℕ) (sheet₀ : List ℕ) (left pos at : ℕ) (sheet : List ℕ) : Type 0 where
  pub before : List B → List B
  pub goes : (k : List B → Layout Message) → Finishes (run_at payload (times n part k) pos₀ at₀ sheet₀)
      → run_at payload (times n part k) pos₀ at₀ sheet₀ ≡ run_at payload (times left part (λ xs. k (before xs))) pos at sheet

module _ {B : Type 0} {payload : List ℕ} {part : (B → Layout Message) → Layout Message} where
  unfoldable pub row-start : (n pos at : ℕ) (sheet : List ℕ) → Row payload part n pos at sheet n pos at sheet
  row-start n pos at sheet = record { before = λ xs. xs; goes = λ k f. refl }

  module _ {n pos₀ at₀ : ℕ} {sheet₀ : List ℕ} {left pos at : ℕ} {sheet : List ℕ} (t : Row payload part n pos₀ at₀ sheet₀ left pos at sheet) where
    unfoldable pub row-again : {pos' at' : ℕ} {sheet' : List ℕ} → 0 < left → Stores payload part pos at sheet pos' at' sheet' → Row payload part n pos₀ at₀ sheet₀ (left - 1) pos' at' sheet'
    row-again h s =
        record {
          before = λ xs. t.before (s.value ∷ xs);
          goes = λ k f.
              let e = t.goes k f ∙ sym (one_less (λ (x : ℕ). run_at payload (times x part (λ xs. k (t.before xs))) pos at sheet) left (λ z. omega arith)) in
              e ∙ s.goes (λ x. times (left - 1) part (λ xs. k (t.before (x ∷ xs)))) (onward e f);
        }

    unfoldable pub row_done : left ≤ 0 → Stores payload (times n part) pos₀ at₀ sheet₀ pos at sheet
    row_done h =
        let z : left ≡ 0 = omega arith in
        record {
          value = t.before [];
          goes = λ k f. t.goes k f ∙ ap (λ (x : ℕ). run_at payload (times x part (λ xs. k (t.before xs))) pos at sheet) z;
        }

-- ---- a block

module _ (payload : List ℕ) (pos at : ℕ) (sheet : List ℕ) where
  block-short : (pos' at' : ℕ) (sheet' : List ℕ) → 8 * length payload < pos + 47 → Stores payload block pos at sheet pos' at' sheet'
  unfolding sf line_of find table
  block-short pos' at' sheet' h =
      stores-field (lit< tt) (lit≤ tt)
      (stores-field (lit< tt) (lit≤ tt)
      (stores-field (lit< tt) (lit≤ tt)
      (stores-field (lit< tt) (lit≤ tt)
      (stores-field (lit< tt) (lit≤ tt)
      (stores-field (lit< tt) (lit≤ tt)
      (stores-short (record { id = 0; latitude = 0; longitude = 0; rows = 0; columns = 0; latitude_spacing = 0; longitude_spacing = 0 }) (lit< tt) (omega arith)))))))

  pub block-stored : (word : ℕ) (s3 s7 : List ℕ) → word ≡ got payload pos 47 → s3 ≡ place_on word at sheet → s7 ≡ grid_on word (at + 3) s3
      → Stores payload block pos at sheet (pos + 47) (at + 7) s7
  unfolding place_on grid_on sf line_of find table
  block-stored word s3 s7 e f3 f7 =
      stores-either (pos + 47) (λ h.
      let c1 : ℕ = word / 549755813888 % 256 in
      let c2 : ℕ = word / 268435456 % 2048 in
      let c3 : ℕ = word / 65536 % 0x1000 in
      let c4 : ℕ = word / 8192 % 8 in
      let c5 : ℕ = word / 1024 % 8 in
      let c6 : ℕ = word / 32 % 32 in
      let c7 : ℕ = word % 32 in
      let s1 : List ℕ = set sheet at c1 in
      let s2 : List ℕ = set s1 (at + 1) c2 in
      let s4 : List ℕ = set s3 (at + 3) c4 in
      let s5 : List ℕ = set s4 (at + 3 + 1) c5 in
      let s6 : List ℕ = set s5 (at + 3 + 2) c6 in
      let p1 : Kept payload pos at 8 sheet c1 s1 = kept-part payload pos 0 8 39 word e (lit≤ tt) h pos at at c1 sheet s1 (omega arith) refl refl refl in
      let p2 : Kept payload (pos + 8) (at + 1) 11 s1 c2 s2 = kept-part payload pos 8 11 28 word e (lit≤ tt) h (pos + 8) (at + 1) (at + 1) c2 s1 s2 refl refl refl refl in
      let p3 = kept-part payload pos 19 12 16 word e (lit≤ tt) h (pos + 8 + 11) (at + 1 + 1) (at + 2) c3 s2 s3 (omega arith) (omega arith) refl f3 in
      let p4 = kept-part payload pos 31 3 13 word e (lit≤ tt) h (pos + 8 + 11 + 12) (at + 1 + 1 + 1) (at + 3) c4 s3 s4 (omega arith) (omega arith) refl refl in
      let p5 = kept-part payload pos 34 3 10 word e (lit≤ tt) h (pos + 8 + 11 + 12 + 3) (at + 1 + 1 + 1 + 1) (at + 3 + 1) c5 s4 s5 (omega arith) (omega arith) refl refl in
      let p6 = kept-part payload pos 37 5 5 word e (lit≤ tt) h (pos + 8 + 11 + 12 + 3 + 3) (at + 1 + 1 + 1 + 1 + 1) (at + 3 + 2) c6 s5 s6 (omega arith) (omega arith) refl refl in
      let p7 = kept-part payload pos 42 5 0 word e (lit≤ tt) h (pos + 8 + 11 + 12 + 3 + 3 + 5) (at + 1 + 1 + 1 + 1 + 1 + 1) (at + 3 + 3) c7 s6 s7 (omega arith) (omega arith) (omega arith) f7 in
      stores_as (pos + 47) (at + 7) s7 (omega arith) (omega arith) refl
      (stores-kept 8 c1 s1 refl (lit< tt) (lit≤ tt) p1
      (stores-kept 11 c2 s2 refl (lit< tt) (lit≤ tt) p2
      (stores-kept 12 c3 s3 refl (lit< tt) (lit≤ tt) p3
      (stores-kept 3 c4 s4 refl (lit< tt) (lit≤ tt) p4
      (stores-kept 3 c5 s5 refl (lit< tt) (lit≤ tt) p5
      (stores-kept 5 c6 s6 refl (lit< tt) (lit≤ tt) p6
      (stores-kept 5 c7 s7 refl (lit< tt) (lit≤ tt) p7
      (stores-end (record { id = c1; latitude = c2; longitude = c3; rows = c4; columns = c5; latitude_spacing = c6; longitude_spacing = c7 }) _ _ s7))))))))) (block-short (pos + 47) (at + 7) s7)

pub place-put : (word at : ℕ) (sheet s1 s2 s3 : List ℕ) → s1 ≡ set sheet at (word / 549755813888 % 256) → s2 ≡ set s1 (at + 1) (word / 268435456 % 2048)
    → s3 ≡ set s2 (at + 2) (word / 65536 % 0x1000) → s3 ≡ place_on word at sheet
unfolding place_on
place-put word at sheet s1 s2 s3 e1 e2 e3 = rw (e3, e2, e1)

pub grid-put : (word at : ℕ) (sheet s1 s2 s3 s4 : List ℕ) → s1 ≡ set sheet at (word / 8192 % 8) → s2 ≡ set s1 (at + 1) (word / 1024 % 8) → s3 ≡ set s2 (at + 2) (word / 32 % 32)
    → s4 ≡ set s3 (at + 3) (word % 32) → s4 ≡ grid_on word at sheet
unfolding grid_on
grid-put word at sheet s1 s2 s3 s4 e1 e2 e3 e4 = rw (e4, e3, e2, e1)

-- ---- the blocks

pub record Blocks (payload : List ℕ) (n : ℕ) (sheet₀ : List ℕ) (left pos at : ℕ) (sheet : List ℕ) : Type 0 where
  row : Row payload block n 19 4 sheet₀ left pos at sheet
  pub near : pos + 47 * left ≡ 19 + 47 * n
  pub next : at + 7 * left ≡ 4 + 7 * n
  pub same : length sheet ≡ length sheet₀

pub blocks_start : (payload : List ℕ) (n : ℕ) (sheet : List ℕ) → Blocks payload n sheet n 19 4 sheet
blocks_start payload n sheet = record { row = row-start n 19 4 sheet; near = refl; next = refl; same = refl }

module _ {payload : List ℕ} {n : ℕ} {sheet₀ : List ℕ} {left pos at : ℕ} {sheet : List ℕ} (t : Blocks payload n sheet₀ left pos at sheet) where
  pub blocks-near : n ≤ 32 → pos + 47 < 2 ^ 64
  blocks-near h = omega (arith, t.near)

  pub blocks-next : n ≤ 32 → at + 7 < 2 ^ 64
  blocks-next h = omega (arith, t.next)

  pub blocks-room : n ≤ 32 → at < 2 ^ 36
  blocks-room h = omega (arith, t.next)

  pub blocks-again : (sheet' : List ℕ) → 0 < left → length sheet' ≡ length sheet → Stores payload block pos at sheet (pos + 47) (at + 7) sheet'
      → Blocks payload n sheet₀ (left - 1) (pos + 47) (at + 7) sheet'
  blocks-again sheet' h same s = record { row = row-again t.row h s; near = omega (arith, t.near); next = omega (arith, t.next); same = same ∙ t.same }

  pub blocks-done : left ≤ 0 → BlocksStored payload n sheet₀ sheet
  blocks-done h = record { end = pos; entries = at; stores = row_done t.row h }

-- ---- the message

gad-short : (payload sheet : List ℕ) (pos' at' : ℕ) (sheet' : List ℕ) → 8 * length payload < 19 → Stores payload gad 0 0 sheet pos' at' sheet'
unfolding sf line_of find table
gad-short payload sheet pos' at' sheet' h =
    stores-field (lit< tt) (lit≤ tt)
    (stores-field (lit< tt) (lit≤ tt)
    (stores-field (lit< tt) (lit≤ tt)
    (stores-short (record { siou = 0; aiou = 0; blocks = [] }) (lit< tt) h)))

pub head-put : (head : ℕ) (sheet s1 s2 s3 s4 : List ℕ) → s1 ≡ set sheet 0 (head / 1024 % 512) → s2 ≡ set s1 1 (head / 64 % 16) → s3 ≡ set s2 2 (head / 32 % 2)
    → s4 ≡ set s3 3 (head % 32) → s4 ≡ head_on head sheet
unfolding head_on
head-put head sheet s1 s2 s3 s4 e1 e2 e3 e4 = rw (e4, e3, e2, e1)

pub gad-stored : (payload sheet : List ℕ) (head : ℕ) (s4 s5 : List ℕ) → head ≡ got payload 0 19 → s4 ≡ head_on head sheet → BlocksStored payload (head % 32 + 1) s4 s5
    → GadStored payload sheet s5
unfolding head_on run_l sf line_of find table
gad-stored payload sheet head s4 s5 e f4 b =
    let c1 : ℕ = head / 1024 % 512 in
    let c2 : ℕ = head / 64 % 16 in
    let c3 : ℕ = head / 32 % 2 in
    let c4 : ℕ = head % 32 in
    let s1 : List ℕ = set sheet 0 c1 in
    let s2 : List ℕ = set s1 1 c2 in
    let s3 : List ℕ = set s2 2 c3 in
    let blocks : Stores payload (times (suc c4) block) 19 4 s4 b.end b.entries s5
    = subst (λ (x : ℕ). Stores payload (times x block) 19 4 s4 b.end b.entries s5) (add-one c4) b.stores in
    let all : Stores payload gad 0 0 sheet b.end b.entries s5
    = stores-either 19 (λ h.
    stores-kept 9 c1 s1 refl (lit< tt) (lit≤ tt) (kept-part payload 0 0 9 10 head e (lit≤ tt) h 0 0 0 c1 sheet s1 refl refl refl refl)
    (stores-kept 4 c2 s2 refl (lit< tt) (lit≤ tt) (kept-part payload 0 9 4 6 head e (lit≤ tt) h 9 1 1 c2 s1 s2 refl refl refl refl)
    (stores-kept 1 c3 s3 refl (lit< tt) (lit≤ tt) (kept-part payload 0 13 1 5 head e (lit≤ tt) h 13 2 2 c3 s2 s3 refl refl refl refl)
    (stores-kept {part = λ count k. times (suc count) block (λ blocks. k (record { siou = c1; aiou = c2; blocks = blocks }))} 5 c4 s4 refl (lit< tt) (lit≤ tt)
    (kept-part payload 0 14 5 0 head e (lit≤ tt) h 14 3 3 c4 s3 s4 refl refl (omega arith) f4)
    (stores-with (λ blocks. record { siou = c1; aiou = c2; blocks = blocks }) blocks))))) (gad-short payload sheet b.end b.entries s5) in
    record { count = b.entries; used = b.end; is = λ h. all.goes (λ body. done (gad_message body)) h }

pub filled-gad : {payload sheet sheet' : List ℕ} (kind subtype : ℕ) → kind ≡ 2 → GadStored payload sheet sheet' → Filled kind subtype payload sheet sheet'
filled-gad kind subtype e p = filled-kind kind subtype 2 e (filled-only 2 subtype gad_layout p.count p.used (eqb subtype 0) refl p.is)
