-- Serves proofs, and is proved: a GAD that for_gad.rt passes reads by its layout, to that bit and in so many entries.
use Rattle.std.specs.Prelude.{◌≡◌, Bool, true, false, List, [], ltb, leb, length, Some}
use Rattle.std.proofs.Math.Path.{refl}
use Rattle.std.proofs.Common.{ap, ap₂, ◌∙◌, subst, arith, ltb-false, leb-true, lit≤}
use Rattle.std.proofs.lemmas.Bool.{false≢true}
use Prim.Native.Nat.{ℕ, zero, suc, ◌+◌, ◌*◌, ◌/◌, ◌%◌, ◌≤◌}
use Rattle.std.proofs.Math.Numerals.{add-one}
use Rattle.answer.specs.Pairs.{some-value}
use Rattle.quick.specs.declared.Extent.{Extent}
use Rattle.bits.specs.Bits.{to_bits, got}
use Rattle.layout.specs.Layout.{pick}
use Rattle.layout.specs.Parts.{times}
use Rattle.layout.specs.Run.{finished, run_l}
use Rattle.fields.specs.Fields.{table, find, line_of, sf}
use Rattle.gad.specs.Gad.{block, gad}
use Rattle.message.specs.Messages.{gad_message, gad_layout}
use Rattle.quick.specs.Passes.{Passes, has-full, got-part, passes-end, passes-field, passes-with, passes-as, times_none, times_more, passes-whole}
use Rattle.quick.specs.Codes.{both, unless, where-fit, full, ranged, has-up-to}
use Rattle.quick.specs.Gad.{block_fits, blocks_fit, gad_by, gad_of}

-- what the tests of a block say
record Fits (block : ℕ) : Type 0 where
  latitude : block / 268435456 % 2048 ≤ 1800
  longitude : block / 65536 % 0x1000 ≤ 3600

fits : (block : ℕ) → block_fits block ≡ true → Fits block
unfolding block_fits
fits block e = go (ltb 1800 (block / 268435456 % 2048)) (leb (block / 65536 % 0x1000) 3600) refl refl e
  where
    go : (a b : Bool) → ltb 1800 (block / 268435456 % 2048) ≡ a → leb (block / 65536 % 0x1000) 3600 ≡ b → pick a false b ≡ true → Fits block
    go true b p q r = absurd (false≢true r)
    go false b p q r = record { latitude = ltb-false 1800 _ p; longitude = leb-true _ 3600 (q ∙ r) }

module _ (payload : List ℕ) where
  latitude-small : (pos : ℕ) → Fits (got payload pos 47) → pos + 47 ≤ 8 * length payload → got payload (pos + 8) 11 ≤ 1800
  latitude-small pos f h = omega (arith, got-part payload pos 8 11 28 (lit≤ tt) h, f.latitude)

  longitude-small : (pos : ℕ) → Fits (got payload pos 47) → pos + 47 ≤ 8 * length payload → got payload (pos + 8 + 11) 12 ≤ 3600
  longitude-small pos f h =
      let p : pos + 19 ≡ pos + 8 + 11 = omega arith in
      omega (arith, got-part payload pos 19 12 16 (lit≤ tt) h, f.longitude, ap (λ (x : ℕ). got payload x 12) p)

  block-passes : {A : Type 0} (pos : ℕ) → Fits (got payload pos 47) → Passes {A = A} payload block pos (pos + 47) 7
  unfolding sf line_of find table
  block-passes pos f =
      passes-as (pos + 47) 7 (omega arith) refl
      (passes-field _ (has-full (full refl) pos _)
      (passes-field _ (has-up-to (pos + 8) _ (ranged refl) (λ h. latitude-small pos f (omega arith)))
      (passes-field _ (has-up-to (pos + 8 + 11) _ (ranged refl) (λ h. longitude-small pos f (omega arith)))
      (passes-field _ (has-full (full refl) _ _)
      (passes-field _ (has-full (full refl) _ _)
      (passes-field _ (has-full (full refl) _ _)
      (passes-field _ (has-full (full refl) _ _)
      (passes-end _ _))))))))

  blocks-pass : {A : Type 0} (n pos : ℕ) → blocks_fit payload n pos ≡ true → Passes {A = A} payload (times n block) pos (pos + 47 * n) (7 * n)
  unfolding blocks_fit
  blocks-pass zero pos e = passes-as (pos + 47 * 0) (7 * 0) (omega arith) (omega arith) (times_none block pos)
  blocks-pass (suc n) pos e =
      let b = both (block_fits (got payload pos 47)) (blocks_fit payload n (pos + 47)) e in
      passes-as (pos + 47 * suc n) (7 * suc n) (omega arith) (omega arith)
      (times_more block n (block-passes pos (fits (got payload pos 47) b.0)) (blocks-pass n (pos + 47) b.1))

  gad-passes : {A : Type 0} (n : ℕ) → n ≡ got payload 14 5 + 1 → blocks_fit payload n 19 ≡ true → Passes {A = A} payload gad 0 (19 + 47 * n) (suc (suc (suc (suc (7 * n)))))
  unfolding sf line_of find table
  gad-passes {A} n e b =
      passes-field _ (has-full (full refl) _ _)
      (passes-field _ (has-full (full refl) _ _)
      (passes-field _ (has-full (full refl) _ _)
      (passes-field _ (has-full (full refl) _ _)
      (passes-with (λ blocks. record { siou = got payload 0 9; aiou = got payload 9 4; blocks = blocks }) (subst (λ x. Passes {A = A} payload (times x block) 19 (19 + 47 * n) (7 * n)) (e ∙ add-one (got payload 14 5)) (blocks-pass n 19 b))))))

pub gad-reads : (payload : List ℕ) (bits entries : ℕ) → gad_of payload ≡ Some (record { bits = bits; entries = entries }) → run_l gad_layout (to_bits payload) 0 0 [] ≡ finished entries bits []
unfolding gad_of gad_by
gad-reads payload bits entries e =
    let n : ℕ = got payload 14 5 + 1 in
    let short = unless (ltb (length payload) ((19 + 47 * n + 7) / 8)) _ bits entries e in
    let fit = where-fit (blocks_fit payload n 19) _ bits entries short.1 in
    let long : 19 + 47 * n ≤ 8 * length payload = omega (arith, ltb-false (length payload) ((19 + 47 * n + 7) / 8) short.0) in
    let b : 19 + 47 * n ≡ bits = ap (λ (x : Extent). x.bits) (some-value fit.1) in
    let c : 4 + 7 * n ≡ entries = ap (λ (x : Extent). x.entries) (some-value fit.1) in
    let d : suc (suc (suc (suc (7 * n)))) ≡ entries = omega (arith, c) in
    passes-whole (gad-passes payload n refl fit.0) long gad_message ∙ ap₂ (λ (x y : ℕ). finished x y []) d b
