-- Mirror: behind.rt, and parts in a row. It serves proofs.
use Rattle.std.specs.Prelude.{◌≡◌, refl, Bool, true, false, List, ℕ, zero, suc, ◌+◌, ◌-◌, ◌/◌, ◌≤◌, ◌<◌, eqb, ltb, length, Some, None}
use Rattle.std.proofs.Math.Path.{ap, sym}
use Rattle.std.proofs.Common.{◌∙◌}
use native.Mathlib.Omega.{arith}
use borrow.Author.Tests.{eq-eqb, ne_eqb, lt-ltb, le-ltb}
use Rattle.bits.specs.Bits.{got}
use Rattle.layout.specs.Layout.{pick}
use Rattle.layout.specs.Tests.{one_less}
use Rattle.quick.specs.Results.{Quick}
use Rattle.quick.specs.declared.behind.Behind.{Behind}

abbrev pub nowhere : Behind
nowhere = record { end = 0; entries = 0 }

abbrev pub to : (pos at : ℕ) → Behind
to pos at = record { end = pos; entries = at }

-- what follows a part that passes
abbrev pub after : Behind → (ℕ → ℕ → Behind) → Behind
after b rest = pick (eqb b.end 0) nowhere (rest b.end b.entries)

-- n parts in a row
unfoldable pub repeated : (ℕ → ℕ → Behind) → (n pos at : ℕ) → Behind
repeated part zero pos at = to pos at
repeated part (suc n) pos at = after (part pos at) (repeated part n)

-- n fields of a width, each so many bits after the one before it, of which none is the code `top`
unfoldable pub without : (payload : List ℕ) (step width top n pos : ℕ) → Bool
without payload step width top zero pos = true
without payload step width top (suc n) pos = pick (eqb (got payload pos width) top) false (without payload step width top n (pos + step))

-- the bits to there are there
unfoldable pub reads_to : (payload : List ℕ) → Behind → Quick
reads_to payload b =
    pick (eqb b.end 0) None (
    pick (ltb (length payload) ((b.end - 1) / 8 + 1)) None
    (Some (record { bits = b.end; entries = b.entries })))

-- ---- the returns of the code

module _ (payload : List ℕ) (b : Behind) where
  pub ends_nowhere : b.end ≡ 0 → None ≡ reads_to payload b
  unfolding reads_to
  ends_nowhere e = rw (eq-eqb b.end 0 e)

  pub ends-short : (b.end ≡ 0 → ⊥) → length payload < (b.end - 1) / 8 + 1 → None ≡ reads_to payload b
  unfolding reads_to
  ends-short n h = rw (ne_eqb b.end 0 n, lt-ltb (length payload) ((b.end - 1) / 8 + 1) h)

  pub ends_there : (b.end ≡ 0 → ⊥) → (b.end - 1) / 8 + 1 ≤ length payload → Some (record { bits = b.end; entries = b.entries }) ≡ reads_to payload b
  unfolding reads_to
  ends_there n h = rw (ne_eqb b.end 0 n, le-ltb (length payload) ((b.end - 1) / 8 + 1) h)

-- ---- a loop over parts: what is left to be found out, at a turn, is what was to be found out

pub record Repeats (part : ℕ → ℕ → Behind) (n start₁ start₂ left pos at : ℕ) : Type 0 where
  pub same : repeated part left pos at ≡ repeated part n start₁ start₂

module _ {part : ℕ → ℕ → Behind} {n start₁ start₂ left pos at : ℕ} (t : Repeats part n start₁ start₂ left pos at) (h : 0 < left) where
  more : repeated part left pos at ≡ after (part pos at) (repeated part (left - 1))
  unfolding repeated
  more = sym (one_less (λ k. repeated part k pos at) left (λ z. omega arith))

  pub repeats-stop : (b : Behind) → b ≡ part pos at → b.end ≡ 0 → (r : Behind) → r ≡ nowhere → r ≡ repeated part n start₁ start₂
  repeats-stop b q e r z =
      let none : (part pos at).end ≡ 0 = ap (λ (x : Behind). x.end) (sym q) ∙ e in
      z ∙ sym (rw (eq-eqb (part pos at).end 0 none) at more) ∙ t.same

  pub repeats-on : (b : Behind) → b ≡ part pos at → (b.end ≡ 0 → ⊥) → Repeats part n start₁ start₂ (left - 1) b.end b.entries
  repeats-on b q e =
      let some : (part pos at).end ≡ 0 → ⊥ = λ z. e (ap (λ (x : Behind). x.end) q ∙ z) in
      record {
        same = ap (λ (x : Behind). repeated part (left - 1) x.end x.entries) q ∙ sym (rw (ne_eqb (part pos at).end 0 some) at more) ∙ t.same;
      }

pub repeats-start : (part : ℕ → ℕ → Behind) (n start₁ start₂ : ℕ) → Repeats part n start₁ start₂ n start₁ start₂
repeats-start part n start₁ start₂ = record { same = refl }

pub repeats-end : {part : ℕ → ℕ → Behind} {n start₁ start₂ left pos at : ℕ} → Repeats part n start₁ start₂ left pos at → left ≤ 0
    → to pos at ≡ repeated part n start₁ start₂
unfolding repeated
repeats-end {part = part} {left = left} {pos = pos} {at = at} t h =
    let z : left ≡ 0 = omega arith in
    ap (λ k. repeated part k pos at) (sym z) ∙ t.same

-- ---- a loop over fields

pub record Withouts (payload : List ℕ) (step width top n start left pos : ℕ) : Type 0 where
  pub same : without payload step width top left pos ≡ without payload step width top n start

pub withouts-start : (payload : List ℕ) (step width top n start : ℕ) → Withouts payload step width top n start n start
withouts-start payload step width top n start = record { same = refl }

module _ {payload : List ℕ} {step width top n start left pos : ℕ} (t : Withouts payload step width top n start left pos) where
  next : 0 < left → without payload step width top left pos ≡ pick (eqb (got payload pos width) top) false (without payload step width top (left - 1) (pos + step))
  unfolding without
  next h = sym (one_less (λ k. without payload step width top k pos) left (λ z. omega arith))

  pub withouts-stop : 0 < left → (c : ℕ) → c ≡ got payload pos width → c ≡ top → false ≡ without payload step width top n start
  withouts-stop h c q e =
      let is : got payload pos width ≡ top = sym q ∙ e in
      sym (rw (eq-eqb (got payload pos width) top is) at (next h)) ∙ t.same

  pub withouts-on : 0 < left → (c : ℕ) → c ≡ got payload pos width → (c ≡ top → ⊥) → Withouts payload step width top n start (left - 1) (pos + step)
  withouts-on h c q e =
      let other : got payload pos width ≡ top → ⊥ = λ z. e (q ∙ z) in
      record { same = sym (rw (ne_eqb (got payload pos width) top other) at (next h)) ∙ t.same }

  pub withouts-end : left ≤ 0 → true ≡ without payload step width top n start
  unfolding without
  withouts-end h =
      let z : left ≡ 0 = omega arith in
      ap (λ k. without payload step width top k pos) (sym z) ∙ t.same
