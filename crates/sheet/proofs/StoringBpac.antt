-- The returns and the turns of store_bpac.rt over plain variables: what the proofs of its functions cite.
use mathlib.Core.Path.{◌≡◌, refl, ap, ap₂, sym, ◌∙◌, subst}
use mathlib.Core.Bool.{Bool, true, false}
use mathlib.Core.List.{List, [], ◌∷◌, ◌++◌}
use Prim.Native.Nat.{ℕ, suc, ◌+◌, ◌-◌, ◌*◌, ◌/◌, ◌%◌, ◌^◌, ◌≤◌, ◌<◌}
use native.Mathlib.Numerals.{add-one}
use native.Mathlib.Omega.{arith}
use borrow.Author.Tests.{eq-eqb, ne_eqb, eqb-true, eqb-false}
use lib.Count.{ones}
use lib.Dec.{eqb, lit<, lit≤}
use lib.ListN.{length, set}
use Rattle.bits.specs.Bits.{got}
use Rattle.layout.specs.Layout.{Layout, done, field, pick}
use Rattle.layout.specs.Parts.{free, times}
use Rattle.layout.specs.Run.{run_l}
use Rattle.fields.specs.Fields.{table, find, line_of, sf}
use Rattle.bpac.specs.Bpac.{set_bits, vtec_residual, vtec, area, bpac}
use Rattle.message.specs.Messages.{Message, bpac_message, bpac_layout}
use Rattle.quick.specs.Bpac.{last_node, product_small, product-some}
use Rattle.sheet.specs.declared.store.Here.{Here}
use Rattle.sheet.specs.Passes.{Filled}
use Rattle.sheet.specs.Stores.{run_at, run-next, Stores, stores-end, stores-field, stores-then, stores-with, stores_as}
use Rattle.sheet.specs.StoresHpac.{Kept, Moved}
use Rattle.sheet.specs.StoresBpac.{head_on, place_on, grid_on, residual_of, nodes_by, VtecStored, VtecsStored, GroupsStored, AreasStored, BpacStored}
use Rattle.sheet.proofs.Reading.{filled-only, filled-kind}
use Rattle.sheet.proofs.Storing.{stores-kept}
use Rattle.sheet.proofs.StoringGad.{stores-short, stores-either, kept-part, Row, row-start, row-again, row_done}

-- ---- a VTEC block

residual-width : (size w : ℕ) (b : Bool) → eqb size 0 ≡ b → (pick b (sf 82) (sf 83)).width ≡ w → (vtec_residual size).width ≡ w
residual-width size w b e q = ap (λ (z : Bool). (pick z (sf 82) (sf 83)).width) e ∙ q

residual-least : (b : Bool) → 7 ≤ (pick b (sf 82) (sf 83)).width
unfolding sf line_of find table
residual-least true = lit≤ tt
residual-least false = lit≤ tt

module _ (payload : List ℕ) (pos at : ℕ) (sheet : List ℕ) where
  vtec-short : (pos' at' : ℕ) (sheet' : List ℕ) → 8 * length payload < pos + 12 → Stores payload vtec pos at sheet pos' at' sheet'
  unfolding sf line_of find table
  vtec-short pos' at' sheet' h =
      let wide : 7 ≤ (vtec_residual (got payload (pos + 4) 1)).width = residual-least (eqb (got payload (pos + 4) 1) 0) in
      stores-field (lit< tt) (lit≤ tt)
      (stores-field (lit< tt) (lit≤ tt)
      (stores-short (record { quality = 0; size = 0; residual = 0 }) (omega (arith, wide)) (omega (arith, wide))))

  -- its quality and its size, and a residual of w bits
  vtec-by : (w c1 c2 c : ℕ) (s1 s2 s3 : List ℕ) → (vtec_residual c2).width ≡ w → 0 < w → w ≤ 64 → Kept payload pos at 4 sheet c1 s1 → Kept payload (pos + 4) (at + 1) 1 s1 c2 s2
      → Kept payload (pos + 4 + 1) (at + 1 + 1) w s2 c s3 → Stores payload vtec pos at sheet (pos + 4 + 1 + w) (at + 1 + 1 + 1) s3
  unfolding sf line_of find table
  vtec-by w c1 c2 c s1 s2 s3 q some word p1 p2 p3 =
      stores-kept 4 c1 s1 refl (lit< tt) (lit≤ tt) p1
      (stores-kept 1 c2 s2 refl (lit< tt) (lit≤ tt) p2
      (stores-kept w c s3 q some word p3
      (stores-end (record { quality = c1; size = c2; residual = c }) (pos + 4 + 1 + w) (at + 1 + 1 + 1) s3)))

  -- 12 bits, and a residual of 11 by itself
  module _ (word : ℕ) (s1 s2 : List ℕ) (e : word ≡ got payload pos 12) (f1 : s1 ≡ set sheet at (word / 256 % 16)) (f2 : s2 ≡ set s1 (at + 1) (word / 128 % 2)) where
    vtec-end : (w c : ℕ) (s3 : List ℕ) → (vtec_residual (word / 128 % 2)).width ≡ w → 0 < w → w ≤ 64
        → (pos + 12 ≤ 8 * length payload → Kept payload (pos + 4 + 1) (at + 1 + 1) w s2 c s3) → Stores payload vtec pos at sheet (pos + 4 + 1 + w) (at + 1 + 1 + 1) s3
    vtec-end w c s3 q some word64 p =
        let c1 : ℕ = word / 256 % 16 in
        let c2 : ℕ = word / 128 % 2 in
        stores-either (pos + 12) (λ h.
        vtec-by w c1 c2 c s1 s2 s3 q some word64
        (kept-part payload pos 0 4 8 word e (lit≤ tt) h pos at at c1 sheet s1 (omega arith) refl refl f1)
        (kept-part payload pos 4 1 7 word e (lit≤ tt) h (pos + 4) (at + 1) (at + 1) c2 s1 s2 refl refl refl f2) (p h)) (vtec-short (pos + 4 + 1 + w) (at + 1 + 1 + 1) s3)

    pub vtec-small : (s3 : List ℕ) → word / 128 % 2 ≡ 0 → s3 ≡ set s2 (at + 2) (word % 128) → VtecStored payload pos at sheet (pos + 12) s3
    unfolding sf line_of find table
    vtec-small s3 z f3 =
        record {
          stores = stores_as (pos + 12) (at + 3) s3 (omega arith) (omega arith) refl
              (vtec-end 7 (word % 128) s3 (residual-width (word / 128 % 2) 7 true (eq-eqb (word / 128 % 2) 0 z) refl) (lit< tt) (lit≤ tt)
              (λ h. kept-part payload pos 5 7 0 word e (lit≤ tt) h (pos + 4 + 1) (at + 1 + 1) (at + 2) (word % 128) s2 s3 (omega arith) (omega arith) (omega arith) f3));
          few = omega arith;
        }

    pub vtec-large : (c : ℕ) (s3 : List ℕ) → (word / 128 % 2 ≡ 0 → ⊥) → c ≡ got payload (pos + 5) 11 → s3 ≡ set s2 (at + 2) c → VtecStored payload pos at sheet (pos + 16) s3
    unfolding sf line_of find table
    vtec-large c s3 z g f3 =
        let here : pos + 5 ≡ pos + 4 + 1 = omega arith in
        let entry : at + 2 ≡ at + 1 + 1 = omega arith in
        let p : Kept payload (pos + 4 + 1) (at + 1 + 1) 11 s2 c s3 = record { code = g ∙ ap (λ (x : ℕ). got payload x 11) here; stored = f3 ∙ ap (λ (x : ℕ). set s2 x c) entry } in
        record {
          stores = stores_as (pos + 16) (at + 3) s3 (omega arith) (omega arith) refl
              (vtec-end 11 c s3 (residual-width (word / 128 % 2) 11 false (ne_eqb (word / 128 % 2) 0 z) refl) (lit< tt) (lit≤ tt) (λ h. p));
          few = omega arith;
        }

  -- 16 bits
  pub vtec-once : (word c : ℕ) (s1 s2 s3 : List ℕ) → pos + 16 ≤ 8 * length payload → word ≡ got payload pos 16 → s1 ≡ set sheet at (word / 0x1000 % 16)
      → s2 ≡ set s1 (at + 1) (word / 2048 % 2) → c ≡ residual_of word → s3 ≡ set s2 (at + 2) c → VtecStored payload pos at sheet (pos + 12 + 4 * (word / 2048 % 2)) s3
  unfolding residual_of sf line_of find table
  vtec-once word c s1 s2 s3 h e f1 f2 r f3 = record { stores = go (eqb size 0) refl r; few = omega arith }
    where
      size : ℕ
      size = word / 2048 % 2

      quality : ℕ
      quality = word / 0x1000 % 16

      p1 : Kept payload pos at 4 sheet quality s1
      p1 = kept-part payload pos 0 4 12 word e (lit≤ tt) h pos at at quality sheet s1 (omega arith) refl refl f1

      p2 : Kept payload (pos + 4) (at + 1) 1 s1 size s2
      p2 = kept-part payload pos 4 1 11 word e (lit≤ tt) h (pos + 4) (at + 1) (at + 1) size s1 s2 refl refl refl f2

      go : (b : Bool) → eqb size 0 ≡ b → c ≡ pick b (word / 16 % 128) (word % 2048) → Stores payload vtec pos at sheet (pos + 12 + 4 * size) (at + 3) s3
      go true z q =
          let none : size ≡ 0 = eqb-true size 0 z in
          let p3 : Kept payload (pos + 4 + 1) (at + 1 + 1) 7 s2 c s3 = kept-part payload pos 5 7 4 word e (lit≤ tt) h (pos + 4 + 1) (at + 1 + 1) (at + 2) c s2 s3 (omega arith) (omega arith) q f3 in
          stores_as (pos + 12 + 4 * size) (at + 3) s3 (omega (arith, none)) (omega arith) refl
          (vtec-by 7 quality size c s1 s2 s3 (residual-width size 7 true z refl) (lit< tt) (lit≤ tt) p1 p2 p3)
      go false z q =
          let some : size ≡ 0 → ⊥ = eqb-false size 0 z in
          let p3 : Kept payload (pos + 4 + 1) (at + 1 + 1) 11 s2 c s3
          = kept-part payload pos 5 11 0 word e (lit≤ tt) h (pos + 4 + 1) (at + 1 + 1) (at + 2) c s2 s3 (omega arith) (omega arith) (omega (arith, q)) f3 in
          stores_as (pos + 12 + 4 * size) (at + 3) s3 (omega (arith, some)) (omega arith) refl
          (vtec-by 11 quality size c s1 s2 s3 (residual-width size 11 false z refl) (lit< tt) (lit≤ tt) p1 p2 p3)

module _ (word : ℕ) where
  pub residual-small : word / 2048 % 2 ≡ 0 → word / 16 % 128 ≡ residual_of word
  unfolding residual_of
  residual-small z = rw (eq-eqb (word / 2048 % 2) 0 z)

  pub residual-large : (word / 2048 % 2 ≡ 0 → ⊥) → word % 2048 ≡ residual_of word
  unfolding residual_of
  residual-large z = rw (ne_eqb (word / 2048 % 2) 0 z)

-- ---- VTEC blocks

pub record Vtecs (payload : List ℕ) (n pos₀ at₀ : ℕ) (sheet₀ : List ℕ) (left pos at : ℕ) (sheet : List ℕ) : Type 0 where
  row : Row payload vtec n pos₀ at₀ sheet₀ left pos at sheet
  pub few : pos + 16 * left ≤ pos₀ + 16 * n
  pub light : at + 3 * left ≡ at₀ + 3 * n
  pub same : length sheet ≡ length sheet₀

pub vtecs-start : (payload : List ℕ) (n pos at : ℕ) (sheet : List ℕ) → Vtecs payload n pos at sheet n pos at sheet
vtecs-start payload n pos at sheet = record { row = row-start n pos at sheet; few = omega arith; light = refl; same = refl }

module _ {payload : List ℕ} {n pos₀ at₀ : ℕ} {sheet₀ : List ℕ} {left pos at : ℕ} {sheet : List ℕ} (t : Vtecs payload n pos₀ at₀ sheet₀ left pos at sheet) where
  pub vtecs-near : pos₀ < 2 ^ 36 → n ≤ 256 → pos < 2 ^ 37
  vtecs-near h k = omega (arith, t.few)

  pub vtecs-next : at₀ < 2 ^ 36 → n ≤ 256 → at < 2 ^ 37
  vtecs-next h k = omega (arith, t.light)

  pub vtecs-add : at₀ < 2 ^ 36 → n ≤ 256 → at + 3 < 2 ^ 64
  vtecs-add h k = omega (arith, t.light)

  pub vtecs-again : (end : ℕ) (sheet' : List ℕ) → 0 < left → length sheet' ≡ length sheet → VtecStored payload pos at sheet end sheet'
      → Vtecs payload n pos₀ at₀ sheet₀ (left - 1) end (at + 3) sheet'
  vtecs-again end sheet' h same p =
      record { row = row-again t.row h p.stores; few = omega (arith, t.few, p.few); light = omega (arith, t.light); same = same ∙ t.same }

  pub vtecs-done : left ≤ 0 → VtecsStored payload n pos₀ at₀ sheet₀ (record { pos = pos; at = at }) sheet
  vtecs-done h = record { stores = row_done t.row h; few = omega (arith, t.few); light = omega (arith, t.light) }

-- ---- the node mask

pub record Groups (payload : List ℕ) (n pos₀ at₀ : ℕ) (sheet₀ : List ℕ) (left pos at count : ℕ) (sheet : List ℕ) : Type 0 where
  row : Row payload (field (free 79 64)) n pos₀ at₀ sheet₀ left pos at sheet
  counts : (xs : List ℕ) → set_bits (row.before xs) ≡ count + set_bits xs
  pub near : pos + 64 * left ≡ pos₀ + 64 * n
  pub next : at + left ≡ at₀ + n
  pub few : count + 64 * left ≤ 64 * n
  pub same : length sheet ≡ length sheet₀

pub groups-start : (payload : List ℕ) (n pos at : ℕ) (sheet : List ℕ) → Groups payload n pos at sheet n pos at 0 sheet
unfolding row-start
groups-start payload n pos at sheet = record { row = row-start n pos at sheet; counts = λ xs. omega arith; near = refl; next = refl; few = omega arith; same = refl }

module _ {payload : List ℕ} {n pos₀ at₀ : ℕ} {sheet₀ : List ℕ} {left pos at count : ℕ} {sheet : List ℕ} (t : Groups payload n pos₀ at₀ sheet₀ left pos at count sheet) where
  pub groups-near : pos₀ < 2 ^ 36 → n ≤ 3 → pos + 64 < 2 ^ 64
  groups-near h k = omega (arith, t.near)

  pub groups-next : at₀ < 2 ^ 36 → n ≤ 3 → at + 1 < 2 ^ 64
  groups-next h k = omega (arith, t.next)

  pub groups-add : (o : ℕ) → n ≤ 3 → o ≤ 64 → count + o < 2 ^ 64
  groups-add o k h = omega (arith, t.few)

  pub groups-again : (mask o : ℕ) (sheet' : List ℕ) → 0 < left → length sheet' ≡ length sheet → Kept payload pos at 64 sheet mask sheet' → o ≡ ones mask → o ≤ 64
      → Groups payload n pos₀ at₀ sheet₀ (left - 1) (pos + 64) (at + 1) (count + o) sheet'
  unfolding row-again
  groups-again mask o sheet' h same p q small =
      let c : ℕ = got payload pos 64 in
      let is : sheet' ≡ set sheet at c = p.stored ∙ ap (set sheet at) p.code in
      let many : o ≡ ones c = q ∙ ap ones p.code in
      let s : Stores payload (field (free 79 64)) pos at sheet (pos + 64) (at + 1) sheet'
      = record { value = c; goes = λ k f. run-next payload (free 79 64) k pos at sheet (lit< tt) (lit≤ tt) f ∙ ap (run_at payload (k c) (pos + 64) (at + 1)) (sym is) } in
      record {
        row = row-again t.row h s;
        counts = λ xs. omega (arith, t.counts (c ∷ xs));
        near = omega (arith, t.near);
        next = omega (arith, t.next);
        few = omega (arith, t.few);
        same = same ∙ t.same;
      }

  pub groups-done : left ≤ 0 → GroupsStored payload n pos₀ at₀ sheet₀ count sheet
  unfolding row_done
  groups-done h =
      let v : List ℕ = t.row.before [] in
      let end : pos ≡ pos₀ + 64 * n = omega (arith, t.near) in
      let entries : at ≡ at₀ + n = omega (arith, t.next) in
      record {
        stores = record { value = v; goes = λ k f. (row_done t.row h).goes k f ∙ ap₂ (λ (x y : ℕ). run_at payload (k v) x y sheet) end entries };
        count = omega (arith, t.counts []);
        few = omega (arith, t.few);
      }

set_last : (ms : List ℕ) (m : ℕ) → set_bits (ms ++ (m ∷ [])) ≡ set_bits ms + ones m
set_last [] m = omega arith
set_last (x ∷ ms) m = omega (arith, set_last ms m)

pub nodes-stored : (payload : List ℕ) (last pos at : ℕ) (sheet : List ℕ) (some : ℕ) (s1 : List ℕ) (mask : ℕ) (s2 : List ℕ) (o : ℕ) (r : Here) (s3 : List ℕ) → last < 256
    → GroupsStored payload (last / 64) pos at sheet some s1 → Kept payload (pos + 64 * (last / 64)) (at + last / 64) (last % 64 + 1) s1 mask s2 → o ≡ ones mask → o ≤ 64
    → VtecsStored payload (some + o) (pos + 64 * (last / 64) + (last % 64 + 1)) (at + last / 64 + 1) s2 r s3 → Moved payload (nodes_by last) pos at sheet 4800 r s3
nodes-stored payload last pos at sheet some s1 mask s2 o r s3 l g p q small v =
    let codes : List ℕ = g.stores.value ++ (mask ∷ []) in
    let mid : ℕ = pos + 64 * (last / 64) in
    let width : ℕ = last % 64 + 1 in
    let all : some + o ≡ set_bits codes = omega (arith, set_last g.stores.value mask, g.count) in
    let blocks : Stores payload (times (set_bits codes) vtec) (mid + width) (at + last / 64 + 1) s2 r.pos r.at s3
    = subst (λ (x : ℕ). Stores payload (times x vtec) (mid + width) (at + last / 64 + 1) s2 r.pos r.at s3) all v.stores in
    record {
      stores =
          stores-then {first = times (last / 64) (field (free 79 64))}
          {rest = λ groups k. field (free 79 width) (λ x. times (set_bits (groups ++ (x ∷ []))) vtec (λ nodes. k (groups ++ (x ∷ []), nodes)))}
          g.stores
          (stores-kept width mask s2 refl (omega arith) (omega arith) p (stores-with (λ nodes. (codes, nodes)) blocks));
      few = omega (arith, v.few, g.few);
      light = omega (arith, v.light, g.few);
    }

pub nodes-few : (last some o : ℕ) → last < 256 → some ≤ 64 * (last / 64) → o ≤ 64 → some + o ≤ 256
nodes-few last some o l h k = omega arith

-- ---- an area

module _ (head : ℕ) where
  pub last_fits : (head / 1048576 % 16 + 1) * (head / 65536 % 16 + 1) < 2 ^ 64
  last_fits = omega (arith, product_small (head / 1048576 % 16 + 1) (head / 65536 % 16 + 1) (omega arith) (omega arith) (omega arith) (omega arith))

  pub last_some : 1 ≤ (head / 1048576 % 16 + 1) * (head / 65536 % 16 + 1)
  last_some = product-some (head / 1048576 % 16 + 1) (head / 65536 % 16 + 1) (omega arith) (omega arith) (omega arith) (omega arith)

  pub last-is : ((head / 1048576 % 16 + 1) * (head / 65536 % 16 + 1) - 1 ≡ last_node head) × ((head / 1048576 % 16 + 1) * (head / 65536 % 16 + 1) - 1 < 256)
  unfolding last_node
  last-is =
      (refl, omega (arith, last_some, product_small (head / 1048576 % 16 + 1) (head / 65536 % 16 + 1) (omega arith) (omega arith) (omega arith) (omega arith)))

stores-from : {B : Type 0} {payload : List ℕ} {part : (B → Layout Message) → Layout Message} {pos at : ℕ} {sheet : List ℕ} {pos' at' : ℕ} {sheet' : List ℕ} (start first : ℕ)
    → pos ≡ start → at ≡ first → Stores payload part pos at sheet pos' at' sheet' → Stores payload part start first sheet pos' at' sheet'
stores-from {payload = payload} {part = part} {at = at} {sheet = sheet} {pos' = pos'} {at' = at'} {sheet' = sheet'} start first p q s =
    subst (λ (x : ℕ). Stores payload part start x sheet pos' at' sheet') q (subst (λ (x : ℕ). Stores payload part x at sheet pos' at' sheet') p s)

module _ (payload : List ℕ) (pos at : ℕ) (sheet : List ℕ) where
  area-short : (pos' at' : ℕ) (sheet' : List ℕ) → 8 * length payload < pos + 43 → Stores payload area pos at sheet pos' at' sheet'
  unfolding sf line_of find table
  area-short pos' at' sheet' h =
      stores-field (lit< tt) (lit≤ tt)
      (stores-field (lit< tt) (lit≤ tt)
      (stores-field (lit< tt) (lit≤ tt)
      (stores-field (lit< tt) (lit≤ tt)
      (stores-field (lit< tt) (lit≤ tt)
      (stores-field (lit< tt) (lit≤ tt)
      (stores-field (lit< tt) (lit≤ tt)
      (stores-short
      (record { id = 0; latitude = 0; longitude = 0; rows = 0; columns = 0; latitude_spacing = 0; longitude_spacing = 0; average = 0; node_mask = []; nodes = [] })
      (lit< tt) (omega arith))))))))

  pub area-stored : (head : ℕ) (s3 s7 s8 : List ℕ) (last : ℕ) (r : Here) (s9 : List ℕ) → head ≡ got payload pos 43 → s3 ≡ place_on head at sheet → s7 ≡ grid_on head (at + 3) s3
      → s8 ≡ set s7 (at + 7) (head % 0x1000) → last ≡ last_node head → Moved payload (nodes_by last) (pos + 43) (at + 8) s8 4800 r s9 → Moved payload area pos at sheet 5000 r s9
  unfolding place_on grid_on last_node sf line_of find table
  area-stored head s3 s7 s8 last r s9 e f3 f7 f8 l m =
      record {
        stores = stores-either (pos + 43) (λ h.
            let c1 : ℕ = head / 2199023255552 % 4 in
            let c2 : ℕ = head / 8589934592 % 256 in
            let c3 : ℕ = head / 16777216 % 512 in
            let c4 : ℕ = head / 1048576 % 16 in
            let c5 : ℕ = head / 65536 % 16 in
            let c6 : ℕ = head / 16384 % 4 in
            let c7 : ℕ = head / 0x1000 % 4 in
            let c8 : ℕ = head % 0x1000 in
            let s1 : List ℕ = set sheet at c1 in
            let s2 : List ℕ = set s1 (at + 1) c2 in
            let s4 : List ℕ = set s3 (at + 3) c4 in
            let s5 : List ℕ = set s4 (at + 3 + 1) c5 in
            let s6 : List ℕ = set s5 (at + 3 + 2) c6 in
            let p1 : Kept payload pos at 2 sheet c1 s1 = kept-part payload pos 0 2 41 head e (lit≤ tt) h pos at at c1 sheet s1 (omega arith) refl refl refl in
            let p2 : Kept payload (pos + 2) (at + 1) 8 s1 c2 s2 = kept-part payload pos 2 8 33 head e (lit≤ tt) h (pos + 2) (at + 1) (at + 1) c2 s1 s2 refl refl refl refl in
            let p3 = kept-part payload pos 10 9 24 head e (lit≤ tt) h (pos + 2 + 8) (at + 1 + 1) (at + 2) c3 s2 s3 (omega arith) (omega arith) refl f3 in
            let p4 = kept-part payload pos 19 4 20 head e (lit≤ tt) h (pos + 2 + 8 + 9) (at + 1 + 1 + 1) (at + 3) c4 s3 s4 (omega arith) (omega arith) refl refl in
            let p5 = kept-part payload pos 23 4 16 head e (lit≤ tt) h (pos + 2 + 8 + 9 + 4) (at + 1 + 1 + 1 + 1) (at + 3 + 1) c5 s4 s5 (omega arith) (omega arith) refl refl in
            let p6 = kept-part payload pos 27 2 14 head e (lit≤ tt) h (pos + 2 + 8 + 9 + 4 + 4) (at + 1 + 1 + 1 + 1 + 1) (at + 3 + 2) c6 s5 s6 (omega arith) (omega arith) refl refl in
            let p7 = kept-part payload pos 29 2 12 head e (lit≤ tt) h (pos + 2 + 8 + 9 + 4 + 4 + 2) (at + 1 + 1 + 1 + 1 + 1 + 1) (at + 3 + 3) c7 s6 s7 (omega arith) (omega arith) refl f7 in
            let p8 = kept-part payload pos 31 12 0 head e (lit≤ tt) h (pos + 2 + 8 + 9 + 4 + 4 + 2 + 2) (at + 1 + 1 + 1 + 1 + 1 + 1 + 1) (at + 7) c8 s7 s8
            (omega arith) (omega arith) (omega arith) f8 in
            let n : last ≡ suc c4 * suc c5 - 1 = l ∙ ap₂ (λ (x y : ℕ). x * y - 1) (add-one c4) (add-one c5) in
            let nodes : Stores payload (nodes_by (suc c4 * suc c5 - 1)) (pos + 43) (at + 8) s8 r.pos r.at s9
            = subst (λ (x : ℕ). Stores payload (nodes_by x) (pos + 43) (at + 8) s8 r.pos r.at s9) n m.stores in
            stores-kept 2 c1 s1 refl (lit< tt) (lit≤ tt) p1
            (stores-kept 8 c2 s2 refl (lit< tt) (lit≤ tt) p2
            (stores-kept 9 c3 s3 refl (lit< tt) (lit≤ tt) p3
            (stores-kept 4 c4 s4 refl (lit< tt) (lit≤ tt) p4
            (stores-kept 4 c5 s5 refl (lit< tt) (lit≤ tt) p5
            (stores-kept 2 c6 s6 refl (lit< tt) (lit≤ tt) p6
            (stores-kept 2 c7 s7 refl (lit< tt) (lit≤ tt) p7
            (stores-kept 12 c8 s8 refl (lit< tt) (lit≤ tt) p8
            (stores-with (λ x. record {
              id = c1;
              latitude = c2;
              longitude = c3;
              rows = c4;
              columns = c5;
              latitude_spacing = c6;
              longitude_spacing = c7;
              average = c8;
              node_mask = x.0;
              nodes = x.1;
            }) (stores-from (pos + 2 + 8 + 9 + 4 + 4 + 2 + 2 + 12) (at + 1 + 1 + 1 + 1 + 1 + 1 + 1 + 1) (omega arith) (omega arith) nodes)))))))))) (area-short r.pos r.at s9);
        few = omega (arith, m.few);
        light = omega (arith, m.light);
      }

pub place-put : (head at : ℕ) (sheet s1 s2 s3 : List ℕ) → s1 ≡ set sheet at (head / 2199023255552 % 4) → s2 ≡ set s1 (at + 1) (head / 8589934592 % 256)
    → s3 ≡ set s2 (at + 2) (head / 16777216 % 512) → s3 ≡ place_on head at sheet
unfolding place_on
place-put head at sheet s1 s2 s3 e1 e2 e3 = rw (e3, e2, e1)

pub grid-put : (head at : ℕ) (sheet s1 s2 s3 s4 : List ℕ) → s1 ≡ set sheet at (head / 1048576 % 16) → s2 ≡ set s1 (at + 1) (head / 65536 % 16)
    → s3 ≡ set s2 (at + 2) (head / 16384 % 4) → s4 ≡ set s3 (at + 3) (head / 0x1000 % 4) → s4 ≡ grid_on head at sheet
unfolding grid_on
grid-put head at sheet s1 s2 s3 s4 e1 e2 e3 e4 = rw (e4, e3, e2, e1)

-- ---- areas

pub record Areas (payload : List ℕ) (n : ℕ) (sheet₀ : List ℕ) (left pos at : ℕ) (sheet : List ℕ) : Type 0 where
  row : Row payload area n 14 4 sheet₀ left pos at sheet
  pub few : pos + 5000 * left ≤ 20014
  pub light : at + 5000 * left ≤ 20004
  pub same : length sheet ≡ length sheet₀

pub areas-start : (payload : List ℕ) (n : ℕ) (sheet : List ℕ) → n ≤ 4 → Areas payload n sheet n 14 4 sheet
areas-start payload n sheet h = record { row = row-start n 14 4 sheet; few = omega arith; light = omega arith; same = refl }

module _ {payload : List ℕ} {n : ℕ} {sheet₀ : List ℕ} {left pos at : ℕ} {sheet : List ℕ} (t : Areas payload n sheet₀ left pos at sheet) where
  pub areas-near : pos < 2 ^ 34
  areas-near = omega (arith, t.few)

  pub areas-next : at < 2 ^ 34
  areas-next = omega (arith, t.light)

  pub areas-again : (here : Here) (sheet' : List ℕ) → 0 < left → length sheet' ≡ length sheet → Moved payload area pos at sheet 5000 here sheet'
      → Areas payload n sheet₀ (left - 1) here.pos here.at sheet'
  areas-again here sheet' h same p =
      record { row = row-again t.row h p.stores; few = omega (arith, t.few, p.few); light = omega (arith, t.light, p.light); same = same ∙ t.same }

  pub areas-done : left ≤ 0 → AreasStored payload n sheet₀ sheet
  areas-done h = record { end = pos; entries = at; stores = row_done t.row h }

-- ---- the message

pub head-put : (head : ℕ) (sheet s1 s2 s3 s4 : List ℕ) → s1 ≡ set sheet 0 (head / 32 % 512) → s2 ≡ set s1 1 (head / 16 % 2) → s3 ≡ set s2 2 (head / 4 % 4)
    → s4 ≡ set s3 3 (head % 4) → s4 ≡ head_on head sheet
unfolding head_on
head-put head sheet s1 s2 s3 s4 e1 e2 e3 e4 = rw (e4, e3, e2, e1)

bpac-short : (payload sheet : List ℕ) (pos' at' : ℕ) (sheet' : List ℕ) → 8 * length payload < 14 → Stores payload bpac 0 0 sheet pos' at' sheet'
unfolding sf line_of find table
bpac-short payload sheet pos' at' sheet' h =
    stores-field (lit< tt) (lit≤ tt)
    (stores-field (lit< tt) (lit≤ tt)
    (stores-field (lit< tt) (lit≤ tt)
    (stores-short (record { siou = 0; height = 0; areas = [] }) (lit< tt) h)))

pub bpac-stored : (payload sheet : List ℕ) (head : ℕ) (s4 s5 : List ℕ) → head ≡ got payload 0 14 → s4 ≡ head_on head sheet → AreasStored payload (head % 4 + 1) s4 s5
    → BpacStored payload sheet s5
unfolding head_on run_l sf line_of find table
bpac-stored payload sheet head s4 s5 e f4 a =
    let c1 : ℕ = head / 32 % 512 in
    let c2 : ℕ = head / 16 % 2 in
    let c3 : ℕ = head / 4 % 4 in
    let c4 : ℕ = head % 4 in
    let s1 : List ℕ = set sheet 0 c1 in
    let s2 : List ℕ = set s1 1 c2 in
    let s3 : List ℕ = set s2 2 c3 in
    let areas : Stores payload (times (suc c4) area) 14 4 s4 a.end a.entries s5
    = subst (λ (x : ℕ). Stores payload (times x area) 14 4 s4 a.end a.entries s5) (add-one c4) a.stores in
    let all : Stores payload bpac 0 0 sheet a.end a.entries s5
    = stores-either 14 (λ h.
    stores-kept 9 c1 s1 refl (lit< tt) (lit≤ tt) (kept-part payload 0 0 9 5 head e (lit≤ tt) h 0 0 0 c1 sheet s1 refl refl refl refl)
    (stores-kept 1 c2 s2 refl (lit< tt) (lit≤ tt) (kept-part payload 0 9 1 4 head e (lit≤ tt) h 9 1 1 c2 s1 s2 refl refl refl refl)
    (stores-kept 2 c3 s3 refl (lit< tt) (lit≤ tt) (kept-part payload 0 10 2 2 head e (lit≤ tt) h 10 2 2 c3 s2 s3 refl refl refl refl)
    (stores-kept {part = λ count k. times (suc count) area (λ areas. k (record { siou = c1; height = c3; areas = areas }))} 2 c4 s4 refl (lit< tt) (lit≤ tt)
    (kept-part payload 0 12 2 0 head e (lit≤ tt) h 12 3 3 c4 s3 s4 refl refl (omega arith) f4)
    (stores-with (λ areas. record { siou = c1; height = c3; areas = areas }) areas))))) (bpac-short payload sheet a.end a.entries s5) in
    record { count = a.entries; used = a.end; is = λ h. all.goes (λ body. done (bpac_message body)) h }

pub filled-bpac : {payload sheet sheet' : List ℕ} (kind subtype : ℕ) → kind ≡ 3 → BpacStored payload sheet sheet' → Filled kind subtype payload sheet sheet'
filled-bpac kind subtype e p = filled-kind kind subtype 3 e (filled-only 3 subtype bpac_layout p.count p.used (eqb subtype 0) refl p.is)
