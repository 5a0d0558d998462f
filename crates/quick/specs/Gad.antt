-- Mirror: for_gad.rt, a GAD judged by positions. It serves proofs, and GadReads.antt proves what it finds.
use Rattle.std.specs.Prelude.{◌≡◌, Bool, true, false, not, List, ℕ, zero, suc, ◌+◌, ◌-◌, ◌*◌, ◌/◌, ◌%◌, ◌^◌, ◌≤◌, ◌<◌, ltb, leb, length, Some, None}
use Rattle.std.proofs.Math.Path.{refl, ap, sym}
use Rattle.std.proofs.Common.{◌∙◌}
use native.Mathlib.Omega.{arith}
use Rattle.std.proofs.lemmas.Bool.{not-true, not-false}
use Rattle.bits.specs.Bits.{got}
use Rattle.layout.specs.Layout.{pick}
use Rattle.layout.specs.Tests.{one_less, if-less, if-from}
use Rattle.quick.specs.Passes.{got-small}
use Rattle.quick.specs.Results.{Quick}

-- SF032 and SF033 of a block of 47 bits
unfoldable pub block_fits : (block : ℕ) → Bool
block_fits block = pick (ltb 1800 (block / 268435456 % 2048)) false (leb (block / 65536 % 0x1000) 3600)

-- n blocks from bit pos on
unfoldable pub blocks_fit : List ℕ → (n pos : ℕ) → Bool
blocks_fit payload zero pos = true
blocks_fit payload (suc n) pos = pick (block_fits (got payload pos 47)) (blocks_fit payload n (pos + 47)) false

-- with n blocks
unfoldable pub gad_by : List ℕ → (n : ℕ) → Quick
gad_by payload n =
    pick (ltb (length payload) ((19 + 47 * n + 7) / 8)) None (
    pick (blocks_fit payload n 19) (Some (record { bits = 19 + 47 * n; entries = 4 + 7 * n }))
    None)

unfoldable pub gad_of : List ℕ → Quick
gad_of payload = gad_by payload (got payload 14 5 + 1)

-- ---- the returns and the turns of the code

pub block-high : (block : ℕ) → 1800 < block / 268435456 % 2048 → false ≡ block_fits block
unfolding block_fits
block-high block h = if-less 1800 (block / 268435456 % 2048) (leb (block / 65536 % 0x1000) 3600) h refl

pub block-rest : (block : ℕ) → block / 268435456 % 2048 ≤ 1800 → leb (block / 65536 % 0x1000) 3600 ≡ block_fits block
unfolding block_fits
block-rest block h = if-from 1800 (block / 268435456 % 2048) false h refl

-- what is left to be found out, at a turn, is what was to be found out
pub record Turn (payload : List ℕ) (n left pos : ℕ) : Type 0 where
  pub near : pos + 47 * left ≡ 19 + 47 * n
  pub same : blocks_fit payload left pos ≡ blocks_fit payload n 19

pub turn-starts : (payload : List ℕ) (n : ℕ) → Turn payload n n 19
turn-starts payload n = record { near = refl; same = refl }

module _ {payload : List ℕ} {n left pos : ℕ} (t : Turn payload n left pos) where
  one : 0 < left → blocks_fit payload left pos ≡ pick (block_fits (got payload pos 47)) (blocks_fit payload (left - 1) (pos + 47)) false
  unfolding blocks_fit
  one h = sym (one_less (λ k. blocks_fit payload k pos) left (λ z. omega arith))

  pub turn-stops : (block : ℕ) (r : Bool) → 0 < left → block ≡ got payload pos 47 → r ≡ block_fits block → not r ≡ true → false ≡ blocks_fit payload n 19
  turn-stops block r h b q e =
      let no : block_fits (got payload pos 47) ≡ false = ap block_fits (sym b) ∙ sym q ∙ not-true r e in
      sym (ap (λ x. pick x (blocks_fit payload (left - 1) (pos + 47)) false) no) ∙ sym (one h) ∙ t.same

  pub turn_on : (block : ℕ) (r : Bool) → 0 < left → block ≡ got payload pos 47 → r ≡ block_fits block → not r ≡ false → Turn payload n (left - 1) (pos + 47)
  turn_on block r h b q e =
      let yes : block_fits (got payload pos 47) ≡ true = ap block_fits (sym b) ∙ sym q ∙ not-false r e in
      record {
        near = omega (arith, t.near);
        same = sym (one h ∙ ap (λ x. pick x (blocks_fit payload (left - 1) (pos + 47)) false) yes) ∙ t.same;
      }

  pub turn-ends : left ≤ 0 → true ≡ blocks_fit payload n 19
  unfolding blocks_fit
  turn-ends h =
      let z : left ≡ 0 = omega arith in
      ap (λ k. blocks_fit payload k pos) (sym z) ∙ t.same

-- SF030 has 5 bits
pub count_fits : (payload : List ℕ) (c : ℕ) → c ≡ got payload 14 5 → c + 1 < 2 ^ 64
count_fits payload c e = omega (arith, got-small payload 14 5)

pub count-is : (payload : List ℕ) (c : ℕ) → c ≡ got payload 14 5 → (c + 1 ≡ got payload 14 5 + 1) × (c + 1 ≤ 32)
count-is payload c e = (ap (λ (x : ℕ). x + 1) e, omega (arith, got-small payload 14 5))

module _ (payload : List ℕ) (n : ℕ) (e : n ≡ got payload 14 5 + 1) where
  pub gad-short : length payload < (19 + 47 * n + 7) / 8 → None ≡ gad_of payload
  unfolding gad_of gad_by
  gad-short h = if-less (length payload) ((19 + 47 * n + 7) / 8) _ h refl ∙ ap (gad_by payload) e

  pub gad-fits : (19 + 47 * n + 7) / 8 ≤ length payload → (r : Bool) → r ≡ blocks_fit payload n 19 → r ≡ true → Some (record { bits = 19 + 47 * n; entries = 4 + 7 * n }) ≡ gad_of payload
  unfolding gad_of gad_by
  gad-fits h r q t =
      if-from (length payload) ((19 + 47 * n + 7) / 8) None h (sym (ap (λ b. pick b (Some (record { bits = 19 + 47 * n; entries = 4 + 7 * n })) None) (sym q ∙ t)))
      ∙ ap (gad_by payload) e

  pub gad-unfit : (19 + 47 * n + 7) / 8 ≤ length payload → (r : Bool) → r ≡ blocks_fit payload n 19 → r ≡ false → None ≡ gad_of payload
  unfolding gad_of gad_by
  gad-unfit h r q t =
      if-from (length payload) ((19 + 47 * n + 7) / 8) None h (sym (ap (λ b. pick b (Some (record { bits = 19 + 47 * n; entries = 4 + 7 * n })) None) (sym q ∙ t)))
      ∙ ap (gad_by payload) e
