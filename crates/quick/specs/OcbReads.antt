-- Serves proofs, and is proved: an OCB that for_ocb.rt passes reads by its layout, to that bit and in so many entries.
use Rattle.std.specs.Prelude.{◌≡◌, Bool, eqb, ltb, leb, length, Some}
use Rattle.std.proofs.Math.Path.{refl}
use Rattle.std.proofs.Common.{ap, ap₂, sym, ◌∙◌, subst}
use Rattle.std.proofs.Math.Bool.{true, false}
use Rattle.std.proofs.lemmas.Bool.{false≢true}
use mathlib.Core.List.{List, [], ◌∷◌}
use Prim.Native.Nat.{ℕ, zero, suc, ◌+◌, ◌*◌, ◌/◌, ◌%◌, ◌^◌, ◌≤◌, ◌<◌}
use native.Mathlib.Omega.{arith}
use borrow.Author.Tests.{eqb-true, eqb-false, leb-true, ltb-false}
use Rattle.std.specs.Int.Count.{ones}
use Rattle.std.proofs.Math.Dec.{lit≤}
use Rattle.bits.specs.Bits.{to_bits, got}
use Rattle.layout.specs.declared.Field.{Field}
use Rattle.layout.specs.Layout.{Layout, field, pick}
use Rattle.layout.specs.Parts.{Part, optional, times, each}
use Rattle.layout.specs.Run.{finished, run_l}
use Rattle.fields.specs.Fields.{table, find, line_of, sf}
use Rattle.codes.specs.declared.Constellation.{Constellation}
use Rattle.codes.specs.declared.Constellation.TheVariants.{Gps, Glonass, Galileo, BeiDou, Qzss}
use Rattle.codes.specs.Tables.{mask_sf, mask_size, bias_size, first_satellite}
use Rattle.codes.specs.Sizes.{mask-size-width, mask_word, bias-word}
use Rattle.codes.specs.Fields.{mask_field, satellites_of}
use Rattle.ocb.specs.Tables.{ephemeris_sf, iode_sf, phase_sf, code_sf}
use Rattle.ocb.specs.Ocb as ocb
use Rattle.message.specs.Messages.{Message, ocb_message, ocb_layout}
use Rattle.quick.specs.Passes.{Full, Has, Passes, has-full, taken-up-to, taken-extra, got-small, got-part, passes-end, passes-field, passes-with, passes-as, times_none, times_more, each_none, passes-whole}
use Rattle.quick.specs.Codes.{Ranged, full, full-free, ranged, unless, has-up-to}
use Rattle.quick.specs.declared.behind.Behind.{Behind}
use Rattle.quick.specs.Behind.{to, after, repeated, without}
use Rattle.quick.specs.Passed.{Passed, Somewhere, some_after, passed-if, passed-unless, passed-optional, passed-after, passes-from, passes-wide, has-wide, has-below, reads_whole}
use Rattle.codes.specs.Stepping.{counted}
use Rattle.quick.specs.Ocb.{ephemeris_width, last_type, iode_width, three_fit, yaw_fits, yaw_if, orbit_behind, clock_behind, bias_mask, phases_after, codes_after, phases_behind, codes_behind, bias_if, clock_if, orbit_if, blocks_behind, satellite_behind, ocb_by, ocb_of}

-- ---- fields that go by the constellation

ranged-ephemeris : (c : Constellation) → Ranged (sf (ephemeris_sf c))
unfolding sf line_of find table
ranged-ephemeris Gps = ranged refl
ranged-ephemeris Glonass = ranged refl
ranged-ephemeris Galileo = ranged refl
ranged-ephemeris BeiDou = ranged refl
ranged-ephemeris Qzss = ranged refl

width-ephemeris : (c : Constellation) → (sf (ephemeris_sf c)).width ≡ ephemeris_width c
unfolding sf line_of find table
width-ephemeris Gps = refl
width-ephemeris Glonass = refl
width-ephemeris Galileo = refl
width-ephemeris BeiDou = refl
width-ephemeris Qzss = refl

most-ephemeris : (c : Constellation) → (sf (ephemeris_sf c)).most ≡ last_type c
unfolding sf line_of find table
most-ephemeris Gps = refl
most-ephemeris Glonass = refl
most-ephemeris Galileo = refl
most-ephemeris BeiDou = refl
most-ephemeris Qzss = refl

full-iode : (c : Constellation) → Full (sf (iode_sf c))
unfolding sf line_of find table
full-iode Gps = full refl
full-iode Glonass = full refl
full-iode Galileo = full refl
full-iode BeiDou = full refl
full-iode Qzss = full refl

width-iode : (c : Constellation) → (sf (iode_sf c)).width ≡ iode_width c
unfolding sf line_of find table
width-iode Gps = refl
width-iode Glonass = refl
width-iode Galileo = refl
width-iode BeiDou = refl
width-iode Qzss = refl

-- ---- an orbit

-- what the tests of three codes say
record Three (three : ℕ) : Type 0 where
  first : three / 268435456 ≡ 16383 → ⊥
  second : three / 16384 % 16384 ≡ 16383 → ⊥
  third : three % 16384 ≡ 16383 → ⊥

three-says : (three : ℕ) → three_fit three ≡ true → Three three
unfolding three_fit
three-says three e = go (eqb (three / 268435456) 16383) (eqb (three / 16384 % 16384) 16383) (eqb (three % 16384) 16383) refl refl refl e
  where
    go : (a b c : Bool) → eqb (three / 268435456) 16383 ≡ a → eqb (three / 16384 % 16384) 16383 ≡ b → eqb (three % 16384) 16383 ≡ c
        → pick a false (pick b false (pick c false true)) ≡ true → Three three
    go true b c p q r e = absurd (false≢true e)
    go false true c p q r e = absurd (false≢true e)
    go false false true p q r e = absurd (false≢true e)
    go false false false p q r e =
        record {
          first = eqb-false (three / 268435456) 16383 p;
          second = eqb-false (three / 16384 % 16384) 16383 q;
          third = eqb-false (three % 16384) 16383 r;
        }

-- SF021
data Yaw (yaw : ℕ) : Type 0 where
  degrees : yaw ≤ 59 → Yaw yaw
  invalid : yaw ≡ 63 → Yaw yaw

yaw-says : (yaw : ℕ) → yaw_fits yaw ≡ true → Yaw yaw
unfolding yaw_fits
yaw-says yaw e = go (leb yaw 59) refl e
  where
    go : (a : Bool) → leb yaw 59 ≡ a → pick a true (eqb yaw 63) ≡ true → Yaw yaw
    go true p e = degrees (leb-true yaw 59 p)
    go false p e = invalid (eqb-true yaw 63 e)

module _ (payload : List ℕ) where
  has-yaw : (pos end : ℕ) → Yaw (got payload pos 6) → Has payload (sf 21) pos end (got payload pos 6)
  unfolding sf line_of find table
  has-yaw pos end (degrees h) = record { word = lit≤ tt; code = λ k. refl; taken = λ k. taken-up-to (sf 21) (got payload pos 6) (omega arith) refl h }
  has-yaw pos end (invalid e) = record { word = lit≤ tt; code = λ k. refl; taken = λ k. taken-extra (sf 21) (got payload pos 6) e }

  -- SF020 at one of three places
  three-first : (pos : ℕ) → Three (got payload pos 42) → pos + 42 ≤ 8 * length payload → got payload pos 14 ≡ 16383 → ⊥
  three-first pos t h e =
      let none : pos + 0 ≡ pos = omega arith in
      let same : got payload pos 14 ≡ got payload pos 42 / 268435456 % 16384
      = ap (λ (x : ℕ). got payload x 14) (sym none) ∙ got-part payload pos 0 14 28 (lit≤ tt) h in
      t.first (omega (arith, got-small payload pos 42))

  three-second : (pos : ℕ) → Three (got payload pos 42) → pos + 42 ≤ 8 * length payload → got payload (pos + 14) 14 ≡ 16383 → ⊥
  three-second pos t h e = t.second (sym (got-part payload pos 14 14 14 (lit≤ tt) h) ∙ e)

  three_third : (pos : ℕ) → Three (got payload pos 42) → pos + 42 ≤ 8 * length payload → got payload (pos + 14 + 14) 14 ≡ 16383 → ⊥
  three_third pos t h e =
      let more : pos + 28 ≡ pos + 14 + 14 = omega arith in
      t.third (omega (arith, got-part payload pos 28 14 0 (lit≤ tt) h, ap (λ (x : ℕ). got payload x 14) more))

module _ {A : Type 0} (payload : List ℕ) where
  yaw-passed : (yaw pos at : ℕ) → Somewhere (yaw_if yaw payload pos at) → Passed {A = A} payload (optional (eqb yaw 1) (field (sf 21))) pos at (yaw_if yaw payload pos at)
  unfolding yaw_if sf line_of find table
  yaw-passed yaw pos at s =
      passed-optional (eqb yaw 1) _ s (λ t. passed-if (yaw_fits (got payload pos 6)) t (λ e u.
      record { entries = 1; count = refl; passes = passes-field _ (has-yaw payload pos _ (yaw-says _ e)) (passes-end _ _) }))

  orbit-passed : (c : Constellation) (yaw pos at : ℕ) → Somewhere (orbit_behind c yaw payload pos at)
      → Passed {A = A} payload (ocb.orbit c yaw) pos at (orbit_behind c yaw payload pos at)
  unfolding orbit_behind sf line_of find table
  orbit-passed c yaw pos at s =
      let p : ℕ = pos + iode_width c in
      passed-if (three_fit (got payload p 42)) s (λ e u.
      let t : Three (got payload p 42) = three-says (got payload p 42) e in
      let y = yaw-passed yaw (p + 42) (at + 4) u in
      let on = y.passes.onward in
      record {
        entries = suc (suc (suc (suc y.entries)));
        count = omega (arith, y.count);
        passes =
            passes-wide (iode_width c) (width-iode c) _ (has-wide (iode_width c) (width-iode c) (full-iode c) pos _)
            (passes-field _ (has-below p _ (ranged refl) refl (λ h. three-first payload p t (omega arith)))
            (passes-field _ (has-below (p + 14) _ (ranged refl) refl (λ h. three-second payload p t (omega arith)))
            (passes-field _ (has-below (p + 14 + 14) _ (ranged refl) refl (λ h. three_third payload p t (omega arith)))
            (passes-with (λ yaw. record {
              iode = got payload pos (iode_width c);
              radial = got payload p 14;
              along = got payload (p + 14) 14;
              cross = got payload (p + 14 + 14) 14;
              yaw = yaw;
            }) (passes-from (p + 14 + 14 + 14) (omega arith) y.passes)))));
      })

  -- ---- a clock

  clock-passed : (pos at : ℕ) → Somewhere (clock_behind payload pos at) → Passed {A = A} payload ocb.clock pos at (clock_behind payload pos at)
  unfolding clock_behind sf line_of find table
  clock-passed pos at s =
      passed-unless (eqb (got payload (pos + 3) 14) 16383) s (λ e u.
      record {
        entries = 3;
        count = refl;
        passes =
            passes-as (pos + 20) 3 (omega arith) refl
            (passes-field _ (has-full (full refl) pos _)
            (passes-field _ (has-below (pos + 3) _ (ranged refl) refl (λ h. eqb-false (got payload (pos + 3) 14) 16383 e))
            (passes-field _ (has-full (full refl) _ _)
            (passes-end _ _))));
      })

-- ---- biases

-- what a test of fields says of the first
record Without (payload : List ℕ) (step width top n pos : ℕ) : Type 0 where
  here : got payload pos width ≡ top → ⊥
  rest : without payload step width top n (pos + step) ≡ true

without-says : (payload : List ℕ) (step width top n pos : ℕ) → without payload step width top (suc n) pos ≡ true → Without payload step width top n pos
unfolding without
without-says payload step width top n pos e = go (eqb (got payload pos width) top) refl e
  where
    go : (b : Bool) → eqb (got payload pos width) top ≡ b → pick b false (without payload step width top n (pos + step)) ≡ true
        → Without payload step width top n pos
    go true p e = absurd (false≢true e)
    go false p e = record { here = eqb-false (got payload pos width) top p; rest = e }

module _ {A : Type 0} (payload : List ℕ) where
  phase-passes : (pos : ℕ) → (got payload (pos + 4) 14 ≡ 16383 → ⊥) → Passes {A = A} payload ocb.phase_bias pos (pos + 18) 3
  unfolding sf line_of find table
  phase-passes pos n =
      let q : pos + 4 ≡ pos + 1 + 3 = omega arith in
      passes-as (pos + 18) 3 (omega arith) refl
      (passes-field _ (has-full (full refl) pos _)
      (passes-field _ (has-full (full refl) (pos + 1) _)
      (passes-field _ (has-below (pos + 1 + 3) _ (ranged refl) refl (λ h e. n (ap (λ (x : ℕ). got payload x 14) q ∙ e)))
      (passes-end _ _))))

  phases-pass : (n pos : ℕ) → without payload 18 14 16383 n (pos + 4) ≡ true → Passes {A = A} payload (times n ocb.phase_bias) pos (pos + 18 * n) (3 * n)
  phases-pass zero pos e = passes-as (pos + 18 * 0) (3 * 0) (omega arith) (omega arith) (times_none ocb.phase_bias pos)
  phases-pass (suc n) pos e =
      let w = without-says payload 18 14 16383 n (pos + 4) e in
      let q : pos + 4 + 18 ≡ pos + 18 + 4 = omega arith in
      passes-as (pos + 18 * suc n) (3 * suc n) (omega arith) (omega arith)
      (times_more ocb.phase_bias n (phase-passes pos w.here)
      (phases-pass n (pos + 18) (ap (without payload 18 14 16383 n) (sym q) ∙ w.rest)))

  code-passes : (pos : ℕ) → (got payload pos 11 ≡ 2047 → ⊥) → Passes {A = A} payload (field (sf 29)) pos (pos + 11) 1
  unfolding sf line_of find table
  code-passes pos n = passes-field _ (has-below pos _ (ranged refl) refl (λ h. n)) (passes-end _ _)

  codes-pass : (n pos : ℕ) → without payload 11 11 2047 n pos ≡ true → Passes {A = A} payload (times n (field (sf 29))) pos (pos + 11 * n) n
  codes-pass zero pos e = passes-as (pos + 11 * 0) 0 (omega arith) refl (times_none (field (sf 29)) pos)
  codes-pass (suc n) pos e =
      let w = without-says payload 11 11 2047 n pos e in
      passes-as (pos + 11 * suc n) (suc n) (omega arith) (omega arith)
      (times_more (field (sf 29)) n (code-passes pos w.here) (codes-pass n (pos + 11) w.rest))

-- the sizes of bias masks have one bit
full-phase : (c : Constellation) → Full (sf (phase_sf c))
unfolding sf line_of find table
full-phase Gps = full refl
full-phase Glonass = full refl
full-phase Galileo = full refl
full-phase BeiDou = full refl
full-phase Qzss = full refl

width-phase : (c : Constellation) → (sf (phase_sf c)).width ≡ 1
unfolding sf line_of find table
width-phase Gps = refl
width-phase Glonass = refl
width-phase Galileo = refl
width-phase BeiDou = refl
width-phase Qzss = refl

full-code : (c : Constellation) → Full (sf (code_sf c))
unfolding sf line_of find table
full-code Gps = full refl
full-code Glonass = full refl
full-code Galileo = full refl
full-code BeiDou = full refl
full-code Qzss = full refl

width_code : (c : Constellation) → (sf (code_sf c)).width ≡ 1
unfolding sf line_of find table
width_code Gps = refl
width_code Glonass = refl
width_code Galileo = refl
width_code BeiDou = refl
width_code Qzss = refl

-- a mask, and the biases that it says
abbrev phases_part : {A : Type 0} → Constellation → (ocb.Mask × List ocb.PhaseBias → Layout A) → Layout A
phases_part c k = ocb.bias_mask (phase_sf c) c (λ mask. times (ones mask.bits) ocb.phase_bias (λ phases. k (mask, phases)))

abbrev codes_part : {A : Type 0} → Constellation → (ocb.Mask × List ℕ → Layout A) → Layout A
codes_part c k = ocb.bias_mask (code_sf c) c (λ mask. times (ones mask.bits) (field (sf 29)) (λ codes. k (mask, codes)))

module _ {A : Type 0} (payload : List ℕ) where
  phases-passed : (c : Constellation) (pos at : ℕ) → Somewhere (phases_behind c payload pos at) → Passed {A = A} payload (phases_part c) pos at (phases_behind c payload pos at)
  unfolding phases_behind phases_after bias_mask
  phases-passed c pos at s =
      let size : ℕ = got payload pos 1 in
      let width : ℕ = bias_size c size in
      let mask : ℕ = got payload (pos + 1) width in
      let start : ℕ = pos + 1 + width in
      passed-if (without payload 18 14 16383 (ones mask) (start + 4)) s (λ e u.
      record {
        entries = suc (suc (3 * ones mask));
        count = omega arith;
        passes =
            passes-wide 1 (width-phase c) _ (has-wide 1 (width-phase c) (full-phase c) pos _)
            (passes-field mask (has-full (full-free (phase_sf c) width (bias-word c size).most) (pos + 1) _)
            (passes-with (λ phases. (record { size = size; bits = mask }, phases)) (phases-pass payload (ones mask) start e)));
      })

  codes-passed : (c : Constellation) (pos at : ℕ) → Somewhere (codes_behind c payload pos at) → Passed {A = A} payload (codes_part c) pos at (codes_behind c payload pos at)
  unfolding codes_behind codes_after bias_mask
  codes-passed c pos at s =
      let size : ℕ = got payload pos 1 in
      let width : ℕ = bias_size c size in
      let mask : ℕ = got payload (pos + 1) width in
      let start : ℕ = pos + 1 + width in
      passed-if (without payload 11 11 2047 (ones mask) start) s (λ e u.
      record {
        entries = suc (suc (ones mask));
        count = omega arith;
        passes =
            passes-wide 1 (width_code c) _ (has-wide 1 (width_code c) (full-code c) pos _)
            (passes-field mask (has-full (full-free (code_sf c) width (bias-word c size).most) (pos + 1) _)
            (passes-with (λ codes. (record { size = size; bits = mask }, codes)) (codes-pass payload (ones mask) start e)));
      })

  bias-passed : (c : Constellation) (pos at : ℕ) → Somewhere (after (phases_behind c payload pos at) (codes_behind c payload))
      → Passed {A = A} payload (ocb.bias c) pos at (after (phases_behind c payload pos at) (codes_behind c payload))
  bias-passed c pos at s =
      let b : Behind = phases_behind c payload pos at in
      let t = some_after b (codes_behind c payload) s in
      let p = phases-passed c pos at t.0 in
      let q = codes-passed c b.end b.entries t.1 in
      passed-after {first = phases_part c}
      {rest = λ x k. codes_part c (λ y. k (record { phase_mask = x.0; phases = x.1; code_mask = y.0; codes = y.1 }))} b (codes_behind c payload) s p
      (record {
        entries = q.entries;
        count = q.count;
        passes = passes-with (λ y. record { phase_mask = p.passes.value.0; phases = p.passes.value.1; code_mask = y.0; codes = y.1 }) q.passes;
      })

-- ---- a satellite

-- what SF014 may leave out
abbrev blocks_part : {A : Type 0} → Constellation → (yaw present continuity : ℕ) → (ocb.Blocks → Layout A) → Layout A
blocks_part c yaw present continuity k =
    optional (eqb (present / 4 % 2) 1) (ocb.orbit c yaw) (λ orbit.
    optional (eqb (present / 2 % 2) 1) ocb.clock (λ clock.
    optional (eqb (present % 2) 1) (ocb.bias c) (λ bias.
    k (record { continuity = continuity; orbit = orbit; clock = clock; bias = bias }))))

module _ {A : Type 0} (payload : List ℕ) where
  bias-if : (c : Constellation) (present pos at : ℕ) → Somewhere (bias_if present c payload pos at)
      → Passed {A = A} payload (optional (eqb (present % 2) 1) (ocb.bias c)) pos at (bias_if present c payload pos at)
  unfolding bias_if
  bias-if c present pos at s = passed-optional (eqb (present % 2) 1) _ s (bias-passed payload c pos at)

  clock-if : (present pos at : ℕ) → Somewhere (clock_if present payload pos at)
      → Passed {A = A} payload (optional (eqb (present / 2 % 2) 1) ocb.clock) pos at (clock_if present payload pos at)
  unfolding clock_if
  clock-if present pos at s = passed-optional (eqb (present / 2 % 2) 1) _ s (clock-passed payload pos at)

  orbit-if : (c : Constellation) (yaw present pos at : ℕ) → Somewhere (orbit_if present c yaw payload pos at)
      → Passed {A = A} payload (optional (eqb (present / 4 % 2) 1) (ocb.orbit c yaw)) pos at (orbit_if present c yaw payload pos at)
  unfolding orbit_if
  orbit-if c yaw present pos at s = passed-optional (eqb (present / 4 % 2) 1) _ s (orbit-passed payload c yaw pos at)

  -- the clock and the bias behind an orbit
  clock-bias : (c : Constellation) (present continuity pos at : ℕ) (orbit : Part ocb.Orbit) → Somewhere (after (clock_if present payload pos at) (bias_if present c payload))
      → Passed {A = A} {B = ocb.Blocks} payload
      (λ k. optional (eqb (present / 2 % 2) 1) ocb.clock (λ clock. optional (eqb (present % 2) 1) (ocb.bias c) (λ bias.
      k (record { continuity = continuity; orbit = orbit; clock = clock; bias = bias }))))
      pos at (after (clock_if present payload pos at) (bias_if present c payload))
  clock-bias c present continuity pos at orbit s =
      let b : Behind = clock_if present payload pos at in
      let t = some_after b (bias_if present c payload) s in
      let p = clock-if present pos at t.0 in
      let q = bias-if c present b.end b.entries t.1 in
      passed-after {first = optional (eqb (present / 2 % 2) 1) ocb.clock}
      {rest = λ clock k. optional (eqb (present % 2) 1) (ocb.bias c) (λ bias. k (record { continuity = continuity; orbit = orbit; clock = clock; bias = bias }))}
      b (bias_if present c payload) s p
      (record {
        entries = q.entries;
        count = q.count;
        passes = passes-with (λ bias. record { continuity = continuity; orbit = orbit; clock = p.passes.value; bias = bias }) q.passes;
      })

  blocks-passed : (c : Constellation) (yaw present continuity pos at : ℕ) → Somewhere (blocks_behind present c yaw payload pos at)
      → Passed {A = A} payload (blocks_part c yaw present continuity) pos at (blocks_behind present c yaw payload pos at)
  unfolding blocks_behind
  blocks-passed c yaw present continuity pos at s =
      let b : Behind = orbit_if present c yaw payload pos at in
      let next : ℕ → ℕ → Behind = λ p a. after (clock_if present payload p a) (bias_if present c payload) in
      let t = some_after b next s in
      let p = orbit-if c yaw present pos at t.0 in
      passed-after {first = optional (eqb (present / 4 % 2) 1) (ocb.orbit c yaw)}
      {rest = λ orbit k. optional (eqb (present / 2 % 2) 1) ocb.clock (λ clock. optional (eqb (present % 2) 1) (ocb.bias c) (λ bias.
      k (record { continuity = continuity; orbit = orbit; clock = clock; bias = bias })))}
      b next s p (clock-bias c present continuity b.end b.entries p.passes.value t.1)

  -- by SF013
  use-passed : (c : Constellation) (yaw number pos at : ℕ) (out : Bool)
      → Somewhere (pick out (to (pos + 1) (at + 1)) (blocks_behind (got payload (pos + 1) 3) c yaw payload (pos + 7) (at + 3)))
      → Passed {A = A} {B = ocb.Satellite} payload
      (λ k. pick out (k (record { number = number; state = ocb.out_of_use })) (ocb.blocks c yaw (λ b. k (record { number = number; state = ocb.in_use b }))))
      (pos + 1) (at + 1)
      (pick out (to (pos + 1) (at + 1)) (blocks_behind (got payload (pos + 1) 3) c yaw payload (pos + 7) (at + 3)))
  unfolding sf line_of find table
  use-passed c yaw number pos at true s = record { entries = 0; count = omega arith; passes = passes-end _ (pos + 1) }
  use-passed c yaw number pos at false s =
      let b = blocks-passed c yaw (got payload (pos + 1) 3) (got payload (pos + 1 + 3) 3) (pos + 7) (at + 3) s in
      record {
        entries = suc (suc b.entries);
        count = omega (arith, b.count);
        passes =
            passes-field _ (has-full (full refl) (pos + 1) _)
            (passes-field _ (has-full (full refl) (pos + 1 + 3) _)
            (passes-with (λ x. record { number = number; state = ocb.in_use x }) (passes-from (pos + 1 + 3 + 3) (omega arith) b.passes)));
      }

  satellite-passed : (c : Constellation) (yaw number pos at : ℕ) → Somewhere (satellite_behind c yaw payload pos at)
      → Passed {A = A} payload (ocb.satellite c yaw number) pos at (satellite_behind c yaw payload pos at)
  unfolding satellite_behind sf line_of find table
  satellite-passed c yaw number pos at s =
      let u = use-passed c yaw number pos at (eqb (got payload pos 1) 1) s in
      record {
        entries = suc u.entries;
        count = omega (arith, u.count);
        passes = passes-field (got payload pos 1) (has-full (full refl) pos _) u.passes;
      }

  satellites-passed : (c : Constellation) (yaw : ℕ) (ms : List ℕ) (pos at : ℕ) → Somewhere (repeated (satellite_behind c yaw payload) (length ms) pos at)
      → Passed {A = A} payload (each ms (ocb.satellite c yaw)) pos at (repeated (satellite_behind c yaw payload) (length ms) pos at)
  unfolding repeated
  satellites-passed c yaw [] pos at s = record { entries = 0; count = omega arith; passes = each_none (ocb.satellite c yaw) pos }
  satellites-passed c yaw (m ∷ ms) pos at s =
      let b : Behind = satellite_behind c yaw payload pos at in
      let next : ℕ → ℕ → Behind = repeated (satellite_behind c yaw payload) (length ms) in
      let t = some_after b next s in
      let p = satellite-passed c yaw m pos at t.0 in
      let q = satellites-passed c yaw ms b.end b.entries t.1 in
      passed-after {first = ocb.satellite c yaw m} {rest = λ x k. each ms (ocb.satellite c yaw) (λ xs. k (x ∷ xs))} b next s p
      (record { entries = q.entries; count = q.count; passes = passes-with (λ xs. p.passes.value ∷ xs) q.passes })

-- ---- the whole message

module _ (payload : List ℕ) (c : Constellation) where
  has-ephemeris : (end : ℕ) → got payload 13 (ephemeris_width c) ≤ last_type c → Has payload (sf (ephemeris_sf c)) 13 end (got payload 13 (ephemeris_width c))
  has-ephemeris end t =
      let f : Field = sf (ephemeris_sf c) in
      let fits : got payload 13 f.width ≤ f.most = omega (arith, ap (got payload 13) (width-ephemeris c), most-ephemeris c) in
      subst (λ x. Has payload f 13 end (got payload 13 x)) (width-ephemeris c) (has-up-to 13 end (ranged-ephemeris c) (λ h. fits))

  has-mask : (size pos end : ℕ) → (got payload pos (mask_size c size) ≡ 0 → ⊥)
      → Has payload (mask_field (mask_sf c) (mask_size c size)) pos end (got payload pos (mask_size c size))
  has-mask size pos end n =
      let w : ℕ = mask_size c size in
      let m : ℕ = got payload pos w in
      record {
        word = (mask_word c size).most;
        code = λ h. refl;
        taken = λ h. taken-up-to (mask_field (mask_sf c) w) m (omega arith) refl (omega (arith, got-small payload pos w));
      }

full-mask-size : (c : Constellation) → Full (sf (mask_sf c))
unfolding sf line_of find table
full-mask-size Gps = full refl
full-mask-size Glonass = full refl
full-mask-size Galileo = full refl
full-mask-size BeiDou = full refl
full-mask-size Qzss = full refl

-- all satellites of a mask
masked-passed : {A : Type 0} (payload : List ℕ) (c : Constellation) (yaw size mask pos at : ℕ) → mask < 2 ^ mask_size c size
    → Somewhere (repeated (satellite_behind c yaw payload) (ones mask) pos at)
    → Passed {A = A} payload (each (satellites_of c size mask) (ocb.satellite c yaw)) pos at (repeated (satellite_behind c yaw payload) (ones mask) pos at)
masked-passed {A} payload c yaw size mask pos at h s =
    let ms : List ℕ = satellites_of c size mask in
    let part : ℕ → ℕ → Behind = satellite_behind c yaw payload in
    let e : length ms ≡ ones mask = counted (first_satellite c) (mask_size c size) mask h in
    subst (λ n. Passed {A = A} payload (each ms (ocb.satellite c yaw)) pos at (repeated part n pos at)) e
    (satellites-passed payload c yaw ms pos at (subst (λ n. Somewhere (repeated part n pos at)) (sym e) s))

-- the code from a satellite mask of so many bits on
abbrev ocb_behind : Constellation → (payload : List ℕ) (pos width : ℕ) → Behind
ocb_behind c payload pos width = repeated (satellite_behind c (got payload 11 1) payload) (ones (got payload pos width)) (pos + width) 8

module _ {A : Type 0} (payload : List ℕ) (c : Constellation) where
  ocb-passed : got payload 13 (ephemeris_width c) ≤ last_type c
      → (got payload (13 + ephemeris_width c + 2) (mask_size c (got payload (13 + ephemeris_width c) 2)) ≡ 0 → ⊥)
      → Somewhere (ocb_behind c payload (13 + ephemeris_width c + 2) (mask_size c (got payload (13 + ephemeris_width c) 2)))
      → Passed {A = A} payload (ocb.ocb c) 0 0 (ocb_behind c payload (13 + ephemeris_width c + 2) (mask_size c (got payload (13 + ephemeris_width c) 2)))
  unfolding sf line_of find table
  ocb-passed t n s =
      let pos : ℕ = 13 + ephemeris_width c in
      let size : ℕ = got payload pos 2 in
      let mask : ℕ = got payload (pos + 2) (mask_size c size) in
      let m = masked-passed {A = A} payload c (got payload 11 1) size mask (pos + 2 + mask_size c size) 8 (got-small payload (pos + 2) (mask_size c size)) s in
      record {
        entries = suc (suc (suc (suc (suc (suc (suc (suc m.entries)))))));
        count = omega (arith, m.count);
        passes =
            passes-field _ (has-full (full refl) 0 _)
            (passes-field _ (has-full (full refl) 9 _)
            (passes-field _ (has-full (full refl) 10 _)
            (passes-field _ (has-full (full refl) 11 _)
            (passes-field _ (has-full (full refl) 12 _)
            (passes-wide (ephemeris_width c) (width-ephemeris c) _ (has-ephemeris payload c _ t)
            (passes-wide 2 (mask-size-width c) size (has-wide 2 (mask-size-width c) (full-mask-size c) pos _)
            (passes-field mask (has-mask payload c size (pos + 2) _ n)
            (passes-with (λ satellites. record {
              siou = got payload 0 9;
              end_of_set = got payload 9 1;
              datum = got payload 12 1;
              ephemeris = got payload 13 (ephemeris_width c);
              satellites = satellites;
            }) m.passes))))))));
      }

pub ocb-reads : (c : Constellation) (payload : List ℕ) (bits entries : ℕ) → ocb_of c payload ≡ Some (record { bits = bits; entries = entries })
    → run_l (ocb_layout c) (to_bits payload) 0 0 [] ≡ finished entries bits []
unfolding ocb_of ocb_by
ocb-reads c payload bits entries e =
    let pos : ℕ = 13 + ephemeris_width c in
    let width : ℕ = mask_size c (got payload pos 2) in
    let f = unless (ltb (last_type c) (got payload 13 (ephemeris_width c))) _ bits entries e in
    let t = unless (eqb (got payload (pos + 2) width) 0) _ bits entries f.1 in
    let w = reads_whole payload (ocb_behind c payload (pos + 2) width) bits entries t.1 in
    let p = ocb-passed {A = Message} payload c (ltb-false (last_type c) (got payload 13 (ephemeris_width c)) f.0) (eqb-false (got payload (pos + 2) width) 0 t.0) w.some in
    passes-whole p.passes w.there (ocb_message c)
    ∙ ap₂ (λ (x y : ℕ). finished x y []) (omega (arith, p.count, w.entry)) w.bit
