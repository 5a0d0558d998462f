-- Mirror: for_bpac.rt, a BPAC judged by positions. It serves proofs, and BpacReads.antt proves what it finds.
use Rattle.std.specs.Prelude.{◌≡◌, refl, Bool, true, false, List, ℕ, zero, suc, ◌+◌, ◌-◌, ◌*◌, ◌/◌, ◌%◌, ◌^◌, ◌≤◌, ◌<◌, eqb, ltb}
use Rattle.std.proofs.Math.Path.{ap, sym}
use Rattle.std.proofs.Common.{◌∙◌, mul-le-mul}
use native.Mathlib.Omega.{arith}
use borrow.Author.Tests.{eq-eqb, ne_eqb, lt-ltb, le-ltb}
use Rattle.std.specs.Int.Count.{ones}
use Rattle.bits.specs.Bits.{got}
use Rattle.layout.specs.Layout.{pick}
use Rattle.layout.specs.Tests.{one_less}
use Rattle.quick.specs.Passes.{got-small}
use Rattle.quick.specs.Results.{Quick}
use Rattle.quick.specs.declared.behind.Behind.{Behind}
use Rattle.quick.specs.Behind.{nowhere, to, repeated, reads_to}

-- SF073, SF074 and SF080 of the 43 bits of an area's head
unfoldable pub head_fits : (head : ℕ) → Bool
head_fits head =
    pick (ltb 170 (head / 8589934592 % 256)) false (
    pick (ltb 360 (head / 16777216 % 512)) false (
    pick (eqb (head % 0x1000) 4095) false
    true))

unfoldable pub last_node : (head : ℕ) → ℕ
last_node head = (head / 1048576 % 16 + 1) * (head / 65536 % 16 + 1) - 1

-- the set bits of n groups of 64
unfoldable pub set_in : (payload : List ℕ) (n pos : ℕ) → ℕ
set_in payload zero pos = 0
set_in payload (suc n) pos = ones (got payload pos 64) + set_in payload n (pos + 64)

-- behind n VTEC blocks
unfoldable pub vtecs_end : (payload : List ℕ) (n pos : ℕ) → ℕ
vtecs_end payload zero pos = pos
vtecs_end payload (suc n) pos = vtecs_end payload n (pos + (12 + 4 * got payload (pos + 4) 1))

unfoldable pub vtecs_behind : (payload : List ℕ) (n pos at : ℕ) → Behind
vtecs_behind payload n pos at = to (vtecs_end payload n pos) (at + 3 * n)

-- the node mask, up to its node `last`, and the blocks that it says
unfoldable pub nodes_behind : (payload : List ℕ) (last pos at : ℕ) → Behind
nodes_behind payload last pos at =
    vtecs_behind payload (set_in payload (last / 64) pos + ones (got payload (pos + 64 * (last / 64)) (last % 64 + 1))) (pos + 64 * (last / 64) + (last % 64 + 1))
    (at + last / 64 + 1)

unfoldable pub area_behind : (payload : List ℕ) (pos at : ℕ) → Behind
area_behind payload pos at = pick (head_fits (got payload pos 43)) (nodes_behind payload (last_node (got payload pos 43)) (pos + 43) (at + 8)) nowhere

unfoldable pub bpac_of : List ℕ → Quick
bpac_of payload = reads_to payload (repeated (area_behind payload) (got payload 12 2 + 1) 14 4)

-- ---- the returns and the turns of the code

module _ (head : ℕ) where
  pub head-latitude : 170 < head / 8589934592 % 256 → false ≡ head_fits head
  unfolding head_fits
  head-latitude a = rw (lt-ltb 170 (head / 8589934592 % 256) a)

  pub head-longitude : head / 8589934592 % 256 ≤ 170 → 360 < head / 16777216 % 512 → false ≡ head_fits head
  unfolding head_fits
  head-longitude a b = rw (le-ltb 170 (head / 8589934592 % 256) a, lt-ltb 360 (head / 16777216 % 512) b)

  pub head-average : head / 8589934592 % 256 ≤ 170 → head / 16777216 % 512 ≤ 360 → head % 0x1000 ≡ 4095 → false ≡ head_fits head
  unfolding head_fits
  head-average a b c = rw (le-ltb 170 (head / 8589934592 % 256) a, le-ltb 360 (head / 16777216 % 512) b, eq-eqb (head % 0x1000) 4095 c)

  pub head-all : head / 8589934592 % 256 ≤ 170 → head / 16777216 % 512 ≤ 360 → (head % 0x1000 ≡ 4095 → ⊥) → true ≡ head_fits head
  unfolding head_fits
  head-all a b c = rw (le-ltb 170 (head / 8589934592 % 256) a, le-ltb 360 (head / 16777216 % 512) b, ne_eqb (head % 0x1000) 4095 c)

  pub last-is : (r : ℕ) → r ≡ (head / 1048576 % 16 + 1) * (head / 65536 % 16 + 1) → r - 1 ≡ last_node head
  unfolding last_node
  last-is r e = ap (λ (x : ℕ). x - 1) e

module _ (rows columns : ℕ) (a : 0 < rows) (b : rows ≤ 16) (c : 0 < columns) (d : columns ≤ 16) where
  pub product_small : rows * columns ≤ 256
  product_small = mul-le-mul b d

  pub product-some : 0 < rows * columns
  product-some =
      let p : 1 * 1 ≤ rows * columns = mul-le-mul a c in
      omega arith

  pub product-fits : rows * columns < 2 ^ 64
  product-fits = omega (arith, product_small)

-- what was counted, with what is left to be counted, is what is to be counted
pub record Counting (payload : List ℕ) (n start left pos set : ℕ) : Type 0 where
  pub same : set + set_in payload left pos ≡ set_in payload n start

pub counting-start : (payload : List ℕ) (n start : ℕ) → Counting payload n start n start 0
counting-start payload n start = record { same = omega arith }

module _ {payload : List ℕ} {n start left pos set : ℕ} (t : Counting payload n start left pos set) where
  pub counting-on : 0 < left → (m : ℕ) → m ≡ got payload pos 64 → (o : ℕ) → o ≡ ones m → Counting payload n start (left - 1) (pos + 64) (set + o)
  unfolding set_in
  counting-on h m p o q =
      let more : set_in payload left pos ≡ ones (got payload pos 64) + set_in payload (left - 1) (pos + 64)
      = sym (one_less (λ k. set_in payload k pos) left (λ z. omega arith)) in
      record { same = omega (arith, q ∙ ap ones p, more, t.same) }

  pub counting-end : left ≤ 0 → set ≡ set_in payload n start
  unfolding set_in
  counting-end h =
      let z : left ≡ 0 = omega arith in
      omega (arith, ap (λ k. set_in payload k pos) z, t.same)

pub size_is : (payload : List ℕ) (pos c : ℕ) → c ≡ got payload (pos + 4) 1 → (c ≡ got payload (pos + 4) 1) × (c ≤ 1)
size_is payload pos c e = (e, omega (arith, got-small payload (pos + 4) 1))

pub record Ending (payload : List ℕ) (n start left pos : ℕ) : Type 0 where
  pub same : vtecs_end payload left pos ≡ vtecs_end payload n start

pub ending-start : (payload : List ℕ) (n start : ℕ) → Ending payload n start n start
ending-start payload n start = record { same = refl }

module _ {payload : List ℕ} {n start left pos : ℕ} (t : Ending payload n start left pos) where
  pub ending-on : 0 < left → (c : ℕ) → c ≡ got payload (pos + 4) 1 → Ending payload n start (left - 1) (pos + (12 + 4 * c))
  unfolding vtecs_end
  ending-on h c e =
      record {
        same = ap (λ (x : ℕ). vtecs_end payload (left - 1) (pos + (12 + 4 * x))) e ∙ one_less (λ k. vtecs_end payload k pos) left (λ z. omega arith) ∙ t.same;
      }

  pub ending-end : left ≤ 0 → pos ≡ vtecs_end payload n start
  unfolding vtecs_end
  ending-end h =
      let z : left ≡ 0 = omega arith in
      ap (λ k. vtecs_end payload k pos) (sym z) ∙ t.same

module _ (payload : List ℕ) (pos at : ℕ) where
  pub nodes-is : (last s : ℕ) → s ≡ set_in payload (last / 64) pos → (m : ℕ) → m ≡ got payload (pos + 64 * (last / 64)) (last % 64 + 1)
      → (o : ℕ) → o ≡ ones m → (e : ℕ) → e ≡ vtecs_end payload (s + o) (pos + 64 * (last / 64) + (last % 64 + 1))
      → record { end = e; entries = at + last / 64 + 1 + 3 * (s + o) } ≡ nodes_behind payload last pos at
  unfolding nodes_behind vtecs_behind
  nodes-is last s p m q o f e g = rw (← p, ← q, ← f, ← g)

  pub area_in : (head : ℕ) → head ≡ got payload pos 43 → (t : Bool) → t ≡ head_fits head → t ≡ true → (last : ℕ) → last ≡ last_node head
      → (r : Behind) → r ≡ nodes_behind payload last (pos + 43) (at + 8) → r ≡ area_behind payload pos at
  unfolding area_behind
  area_in head p t f e last q r n = rw (← p, ← f, e, ← q) n

  pub area-out : (head : ℕ) → head ≡ got payload pos 43 → (t : Bool) → t ≡ head_fits head → t ≡ false → (r : Behind) → r ≡ nowhere → r ≡ area_behind payload pos at
  unfolding area_behind
  area-out head p t f e r n = rw (← p, ← f, e) n

-- SF071 has 2 bits
pub count_fits : (payload : List ℕ) (c : ℕ) → c ≡ got payload 12 2 → c + 1 < 2 ^ 64
count_fits payload c e = omega (arith, got-small payload 12 2)

pub count-is : (payload : List ℕ) (c : ℕ) → c ≡ got payload 12 2 → (c + 1 ≡ got payload 12 2 + 1) × (c + 1 ≤ 4)
count-is payload c e = (ap (λ (x : ℕ). x + 1) e, omega (arith, got-small payload 12 2))

pub bpac-is : (payload : List ℕ) (n : ℕ) → n ≡ got payload 12 2 + 1 → (b : Behind) → b ≡ repeated (area_behind payload) n 14 4
    → (r : Quick) → r ≡ reads_to payload b → r ≡ bpac_of payload
unfolding bpac_of
bpac-is payload n e b f r g = g ∙ ap (reads_to payload) (f ∙ ap (λ (x : ℕ). repeated (area_behind payload) x 14 4) e)
