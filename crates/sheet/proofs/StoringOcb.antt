-- The returns and the turns of store_ocb.rt over plain variables: what the proofs of its functions cite.
use Rattle.std.specs.Prelude.{Some, None}
use mathlib.Core.Path.{◌≡◌, refl, ap, sym, ◌∙◌, subst}
use mathlib.Core.Bool.{Bool}
use mathlib.Core.List.{List, [], ◌∷◌}
use Prim.Native.Nat.{ℕ, ◌+◌, ◌-◌, ◌*◌, ◌/◌, ◌%◌, ◌^◌, ◌≤◌, ◌<◌}
use native.Mathlib.Nat.{mod-eq_of_lt}
use native.Mathlib.Omega.{arith}
use borrow.Author.Tests.{eq-eqb, ne_eqb}
use lib.Count.{ones}
use lib.Dec.{eqb, lit<, lit≤}
use lib.ListN.{length, set}
use lib.Pow.{shr_lt}
use Rattle.bits.specs.Bits.{number, got}
use Rattle.layout.specs.declared.Field.{Field}
use Rattle.layout.specs.Layout.{Layout, done, field, pick}
use Rattle.layout.specs.Parts.{optional, times, each}
use Rattle.layout.specs.Run.{run_l}
use Rattle.layout.specs.Tests.{one_less}
use Rattle.fields.specs.Fields.{table, find, line_of, sf}
use Rattle.codes.specs.declared.Constellation.{Constellation}
use Rattle.codes.specs.declared.Constellation.TheVariants.{Gps, Glonass, Galileo, BeiDou, Qzss}
use Rattle.codes.specs.Tables.{mask_sf, mask_size, bias_size, first_satellite}
use Rattle.codes.specs.Fields.{mask_field, satellites_of}
use Rattle.codes.specs.Sizes.{mask_word, mask-size-width, bias-word}
use Rattle.codes.specs.Stepping.{counted}
use Rattle.ocb.specs.Tables.{ephemeris_sf, iode_sf, phase_sf, code_sf}
use Rattle.ocb.specs.Ocb as ocb
use Rattle.message.specs.Machine.{start_of, ocb_start}
use Rattle.message.specs.Results.{Subtype}
use Rattle.message.specs.Messages.{Message, ocb_message, ocb_layout, constellation_for, by_constellation}
use Rattle.quick.specs.Ocb.{ephemeris_width, iode_width}
use Rattle.quick.specs.Passes.{got-small, got-part}
use Rattle.sheet.specs.declared.store.Here.{Here}
use Rattle.sheet.specs.Passes.{Filled}
use Rattle.sheet.specs.Stores.{run_at, Finishes, run-next, run-there, Stores, stores-end, stores-then, stores-with, stores_as, stretched, stores-stretch}
use Rattle.sheet.specs.StoresHpac.{Kept, Moved}
use Rattle.sheet.specs.StoresOcb.{Cut, phases_part, codes_part, BlocksStored, SatelliteStored, SatellitesStored, MaskedStored, ocb_behind, BehindStored, OcbStored}
use Rattle.sheet.proofs.Reading.{not-started, subtype-known, filled-by, filled_none}
use Rattle.sheet.proofs.Storing.{stores-kept, stores-present, stores-absent, onward}

-- ---- three codes of one word

pub cut : (payload : List ℕ) (pos at a b c : ℕ) (sheet : List ℕ) (whole : ℕ) (s1 s2 s3 : List ℕ) → whole ≡ got payload pos (a + (b + c)) → s1 ≡ set sheet at (whole / 2 ^ (b + c))
    → s2 ≡ set s1 (at + 1) (whole / 2 ^ c % 2 ^ b) → s3 ≡ set s2 (at + 1 + 1) (whole % 2 ^ c) → Cut payload pos at a b c sheet s3
cut payload pos at a b c sheet whole s1 s2 s3 e p q r =
    record {
      whole = whole;
      is = e;
      stored = r ∙ ap (λ (x : List ℕ). set x (at + 1 + 1) (whole % 2 ^ c)) (q ∙ ap (λ (x : List ℕ). set x (at + 1) (whole / 2 ^ c % 2 ^ b)) p);
    }

module _ (payload : List ℕ) (pos a b c whole : ℕ) (word : a + (b + c) ≤ 64) (end : pos + (a + (b + c)) ≤ 8 * length payload) (is : whole ≡ got payload pos (a + (b + c))) where
  cut-first : got payload pos a ≡ whole / 2 ^ (b + c)
  cut-first =
      let none : pos ≡ pos + 0 = omega arith in
      let all : 0 + (a + (b + c)) ≡ a + (b + c) = omega arith in
      let small : whole / 2 ^ (b + c) < 2 ^ a = shr_lt {n = whole} a (b + c) (subst (λ (x : ℕ). x < 2 ^ (a + (b + c))) (sym is) (got-small payload pos (a + (b + c)))) in
      ap (λ (x : ℕ). got payload x a) none ∙ got-part payload pos 0 a (b + c) (omega arith) (omega arith)
      ∙ ap (λ (x : ℕ). got payload pos x / 2 ^ (b + c) % 2 ^ a) all ∙ ap (λ (x : ℕ). x / 2 ^ (b + c) % 2 ^ a) (sym is) ∙ mod-eq_of_lt small

  cut-second : got payload (pos + a) b ≡ whole / 2 ^ c % 2 ^ b
  cut-second = got-part payload pos a b c word end ∙ ap (λ (x : ℕ). x / 2 ^ c % 2 ^ b) (sym is)

  cut-third : got payload (pos + a + b) c ≡ whole % 2 ^ c
  cut-third =
      let here : pos + a + b ≡ pos + (a + b) = omega arith in
      let all : a + b + (c + 0) ≡ a + (b + c) = omega arith in
      let one : whole / 1 ≡ whole = omega arith in
      ap (λ (x : ℕ). got payload x c) here ∙ got-part payload pos (a + b) c 0 (omega arith) (omega arith)
      ∙ ap (λ (x : ℕ). got payload pos x / 1 % 2 ^ c) all ∙ ap (λ (x : ℕ). x / 1 % 2 ^ c) (sym is) ∙ ap (λ (x : ℕ). x % 2 ^ c) one

-- three fields whose codes the code cut out of one word: the run over them finishes, so the word is there
cut-run : (payload : List ℕ) (f g h : Field) (next : ℕ → ℕ → ℕ → Layout Message) (pos at : ℕ) (sheet filled : List ℕ) → 0 < f.width → 0 < g.width → 0 < h.width
    → f.width + (g.width + h.width) ≤ 64 → (p : Cut payload pos at f.width g.width h.width sheet filled)
    → Finishes (run_at payload (field f (λ x. field g (λ y. field h (next x y)))) pos at sheet)
    → run_at payload (field f (λ x. field g (λ y. field h (next x y)))) pos at sheet
    ≡ run_at payload (next (p.whole / 2 ^ (g.width + h.width)) (p.whole / 2 ^ h.width % 2 ^ g.width) (p.whole % 2 ^ h.width))
    (pos + (f.width + (g.width + h.width))) (at + 3) filled
cut-run payload f g h next pos at sheet filled sf sg sh word p fin =
    let a : ℕ = f.width in
    let b : ℕ = g.width in
    let c : ℕ = h.width in
    let x : ℕ = got payload pos a in
    let y : ℕ = got payload (pos + a) b in
    let z : ℕ = got payload (pos + a + b) c in
    let x' : ℕ = p.whole / 2 ^ (b + c) in
    let y' : ℕ = p.whole / 2 ^ c % 2 ^ b in
    let z' : ℕ = p.whole % 2 ^ c in
    let one = run-next payload f (λ u. field g (λ v. field h (next u v))) pos at sheet sf (omega arith) fin in
    let fin-1 = onward one fin in
    let two = run-next payload g (λ v. field h (next x v)) (pos + a) (at + 1) (set sheet at x) sg (omega arith) fin-1 in
    let fin-2 = onward two fin-1 in
    let three = run-next payload h (next x y) (pos + a + b) (at + 1 + 1) (set (set sheet at x) (at + 1) y) sh (omega arith) fin-2 in
    let there : pos + a + b + c ≤ 8 * length payload = run-there payload h (next x y) (pos + a + b) (at + 1 + 1) (set (set sheet at x) (at + 1) y) sh fin-2 in
    let end : pos + (a + (b + c)) ≤ 8 * length payload = omega arith in
    let first : x ≡ x' = cut-first payload pos a b c p.whole word end p.is in
    let second : y ≡ y' = cut-second payload pos a b c p.whole word end p.is in
    let third : z ≡ z' = cut-third payload pos a b c p.whole word end p.is in
    let near : pos + a + b + c ≡ pos + (a + (b + c)) = omega arith in
    let entry : at + 1 + 1 + 1 ≡ at + 3 = omega arith in
    one ∙ two ∙ three
    ∙ ap (λ (u : ℕ). run_at payload (next u y z) (pos + a + b + c) (at + 1 + 1 + 1) (set (set (set sheet at u) (at + 1) y) (at + 1 + 1) z)) first
    ∙ ap (λ (u : ℕ). run_at payload (next x' u z) (pos + a + b + c) (at + 1 + 1 + 1) (set (set (set sheet at x') (at + 1) u) (at + 1 + 1) z)) second
    ∙ ap (λ (u : ℕ). run_at payload (next x' y' u) (pos + a + b + c) (at + 1 + 1 + 1) (set (set (set sheet at x') (at + 1) y') (at + 1 + 1) u)) third
    ∙ ap (λ (u : List ℕ). run_at payload (next x' y' z') (pos + a + b + c) (at + 1 + 1 + 1) u) (sym p.stored)
    ∙ ap (λ (u : ℕ). run_at payload (next x' y' z') u (at + 1 + 1 + 1) filled) near
    ∙ ap (λ (u : ℕ). run_at payload (next x' y' z') (pos + (a + (b + c))) u filled) entry

stores-cut : {B : Type 0} {payload : List ℕ} {f g h : Field} {part : ℕ → ℕ → ℕ → (B → Layout Message) → Layout Message} {pos at : ℕ} {sheet : List ℕ} {pos' at' : ℕ} {sheet' : List ℕ}
    (filled : List ℕ) → 0 < f.width → 0 < g.width → 0 < h.width → f.width + (g.width + h.width) ≤ 64
    → (p : Cut payload pos at f.width g.width h.width sheet filled)
    → Stores payload (part (p.whole / 2 ^ (g.width + h.width)) (p.whole / 2 ^ h.width % 2 ^ g.width) (p.whole % 2 ^ h.width))
    (pos + (f.width + (g.width + h.width))) (at + 3) filled pos' at' sheet'
    → Stores payload (λ k. field f (λ x. field g (λ y. field h (λ z. part x y z k)))) pos at sheet pos' at' sheet'
stores-cut {payload = payload} {f = f} {g = g} {h = h} {part = part} {pos = pos} {at = at} {sheet = sheet} filled sf sg sh word p rest =
    record {
      value = rest.value;
      goes = λ k fin.
          let e = cut-run payload f g h (λ x y z. part x y z k) pos at sheet filled sf sg sh word p fin in
          e ∙ rest.goes k (onward e fin);
    }

-- ---- parts that a test says are there, or are not

moved-there : {B : Type 0} {payload : List ℕ} {part : (B → Layout Message) → Layout Message} {pos at : ℕ} {sheet : List ℕ} {most : ℕ} {r : Here} {sheet' : List ℕ} (x : ℕ) → x ≡ 1
    → Moved payload part pos at sheet most r sheet' → Moved payload (optional (eqb x 1) part) pos at sheet most r sheet'
moved-there x e p = record { stores = stores-present (eqb x 1) (eq-eqb x 1 e) p.stores; few = p.few; light = p.light }

moved-absent : {B : Type 0} {payload : List ℕ} (part : (B → Layout Message) → Layout Message) (pos at : ℕ) (sheet : List ℕ) (most x : ℕ) → (x ≡ 1 → ⊥)
    → Moved payload (optional (eqb x 1) part) pos at sheet most (record { pos = pos; at = at }) sheet
moved-absent part pos at sheet most x n = record { stores = stores-absent part pos at sheet (eqb x 1) (ne_eqb x 1 n); few = omega arith; light = omega arith }

-- ---- an orbit

width-iode : (c : Constellation) → (sf (iode_sf c)).width ≡ iode_width c
unfolding sf line_of find table
width-iode Gps = refl
width-iode Glonass = refl
width-iode Galileo = refl
width-iode BeiDou = refl
width-iode Qzss = refl

module _ (payload : List ℕ) (present pos at : ℕ) (sheet : List ℕ) where
  pub yaw-there : (yaw : ℕ) (s1 : List ℕ) → present ≡ 1 → Kept payload pos at 6 sheet yaw s1
      → Moved payload (optional (eqb present 1) (field (sf 21))) pos at sheet 6 (record { pos = pos + 6; at = at + 1 }) s1
  unfolding sf line_of find table
  yaw-there yaw s1 e p =
      moved-there present e (record { stores = stores-kept {part = λ x k. k x} 6 yaw s1 refl (lit< tt) (lit≤ tt) p (stores-end yaw (pos + 6) (at + 1) s1); few = omega arith; light = omega arith })

  pub yaw-absent : (present ≡ 1 → ⊥) → Moved payload (optional (eqb present 1) (field (sf 21))) pos at sheet 6 (record { pos = pos; at = at }) sheet
  yaw-absent n = moved-absent (field (sf 21)) pos at sheet 6 present n

pub orbit-stored : (c : Constellation) (yaw : ℕ) (payload : List ℕ) (pos at : ℕ) (sheet : List ℕ) (width iode : ℕ) (s1 s2 : List ℕ) (r : Here) (s3 : List ℕ)
    → width ≡ iode_width c → 0 < width → width ≤ 10 → Kept payload pos at width sheet iode s1 → Cut payload (pos + width) (at + 1) 14 14 14 s1 s2
    → Moved payload (optional (eqb yaw 1) (field (sf 21))) (pos + width + 42) (at + 1 + 3) s2 6 r s3 → Moved payload (ocb.orbit c yaw) pos at sheet 64 r s3
unfolding sf line_of find table
orbit-stored c yaw payload pos at sheet width iode s1 s2 r s3 e some small p1 p2 p3 =
    record {
      stores =
          stores-kept width iode s1 (width-iode c ∙ sym e) some (omega arith) p1
          (stores-cut s2 (lit< tt) (lit< tt) (lit< tt) (lit≤ tt) p2
          (stores-with (λ yaw. record { iode = iode; radial = p2.whole / 2 ^ 28; along = p2.whole / 2 ^ 14 % 2 ^ 14; cross = p2.whole % 2 ^ 14; yaw = yaw }) p3.stores));
      few = omega (arith, p3.few);
      light = omega (arith, p3.light);
    }

module _ (c : Constellation) (payload : List ℕ) (present yaw pos at : ℕ) (sheet : List ℕ) where
  pub orbit-there : (r : Here) (s1 : List ℕ) → present / 4 % 2 ≡ 1 → Moved payload (ocb.orbit c yaw) pos at sheet 64 r s1
      → Moved payload (optional (eqb (present / 4 % 2) 1) (ocb.orbit c yaw)) pos at sheet 64 r s1
  orbit-there r s1 e p = moved-there (present / 4 % 2) e p

  pub orbit-absent : (present / 4 % 2 ≡ 1 → ⊥) → Moved payload (optional (eqb (present / 4 % 2) 1) (ocb.orbit c yaw)) pos at sheet 64 (record { pos = pos; at = at }) sheet
  orbit-absent n = moved-absent (ocb.orbit c yaw) pos at sheet 64 (present / 4 % 2) n

-- ---- a clock

module _ (payload : List ℕ) (present pos at : ℕ) (sheet : List ℕ) where
  pub clock-there : (s1 : List ℕ) → present / 2 % 2 ≡ 1 → Cut payload pos at 3 14 3 sheet s1
      → Moved payload (optional (eqb (present / 2 % 2) 1) ocb.clock) pos at sheet 20 (record { pos = pos + 20; at = at + 3 }) s1
  unfolding sf line_of find table
  clock-there s1 e p =
      moved-there (present / 2 % 2) e
      (record {
        stores = stores-cut s1 (lit< tt) (lit< tt) (lit< tt) (lit≤ tt) p
            (stores-end (record { continuity = p.whole / 2 ^ 17; correction = p.whole / 2 ^ 3 % 2 ^ 14; error = p.whole % 2 ^ 3 }) (pos + 20) (at + 3) s1);
        few = omega arith;
        light = omega arith;
      })

  pub clock-absent : (present / 2 % 2 ≡ 1 → ⊥) → Moved payload (optional (eqb (present / 2 % 2) 1) ocb.clock) pos at sheet 20 (record { pos = pos; at = at }) sheet
  clock-absent n = moved-absent ocb.clock pos at sheet 20 (present / 2 % 2) n

-- ---- biases

phase-stores : {payload : List ℕ} {pos at : ℕ} {sheet sheet' : List ℕ} → Cut payload pos at 1 3 14 sheet sheet' → Stores payload ocb.phase_bias pos at sheet (pos + 18) (at + 3) sheet'
unfolding sf line_of find table
phase-stores {payload} {pos} {at} {sheet} {sheet'} p =
    stores-cut sheet' (lit< tt) (lit< tt) (lit< tt) (lit≤ tt) p
    (stores-end (record { fix = p.whole / 2 ^ 17; continuity = p.whole / 2 ^ 14 % 2 ^ 3; correction = p.whole % 2 ^ 14 }) (pos + 18) (at + 3) sheet')

pub record Phases (payload : List ℕ) (n pos₀ at₀ : ℕ) (sheet₀ : List ℕ) (left pos at : ℕ) (sheet : List ℕ) : Type 0 where
  before : List ocb.PhaseBias → List ocb.PhaseBias
  goes : (k : List ocb.PhaseBias → Layout Message) → Finishes (run_at payload (times n ocb.phase_bias k) pos₀ at₀ sheet₀)
      → run_at payload (times n ocb.phase_bias k) pos₀ at₀ sheet₀ ≡ run_at payload (times left ocb.phase_bias (λ xs. k (before xs))) pos at sheet
  pub few : pos + 18 * left ≤ pos₀ + 1152
  pub light : at + 3 * left ≤ at₀ + 3 * 64
  pub same : length sheet ≡ length sheet₀

pub phases-start : (payload : List ℕ) (n pos at : ℕ) (sheet : List ℕ) → n ≤ 64 → Phases payload n pos at sheet n pos at sheet
phases-start payload n pos at sheet h = record { before = λ xs. xs; goes = λ k f. refl; few = omega arith; light = omega arith; same = refl }

module _ {payload : List ℕ} {n pos₀ at₀ : ℕ} {sheet₀ : List ℕ} {left pos at : ℕ} {sheet : List ℕ} (t : Phases payload n pos₀ at₀ sheet₀ left pos at sheet) where
  pub phases-near : pos₀ < 2 ^ 36 → pos + 18 < 2 ^ 64
  phases-near h = omega (arith, t.few)

  pub phases-next : at₀ < 2 ^ 36 → at < 2 ^ 37
  phases-next h = omega (arith, t.light)

  pub phases-further : at₀ < 2 ^ 36 → at + 3 < 2 ^ 64
  phases-further h = omega (arith, t.light)

  pub phases-again : (sheet' : List ℕ) → 0 < left → length sheet' ≡ length sheet → Cut payload pos at 1 3 14 sheet sheet'
      → Phases payload n pos₀ at₀ sheet₀ (left - 1) (pos + 18) (at + 3) sheet'
  phases-again sheet' h same p =
      let s = phase-stores p in
      record {
        before = λ xs. t.before (s.value ∷ xs);
        goes = λ k f.
            let e = t.goes k f ∙ sym (one_less (λ (x : ℕ). run_at payload (times x ocb.phase_bias (λ xs. k (t.before xs))) pos at sheet) left (λ z. omega arith)) in
            e ∙ s.goes (λ x. times (left - 1) ocb.phase_bias (λ xs. k (t.before (x ∷ xs)))) (onward e f);
        few = omega (arith, t.few);
        light = omega (arith, t.light);
        same = same ∙ t.same;
      }

  pub phases-done : left ≤ 0 → Moved payload (times n ocb.phase_bias) pos₀ at₀ sheet₀ 1152 (record { pos = pos; at = at }) sheet
  phases-done h =
      let z : left ≡ 0 = omega arith in
      record {
        stores = record {
          value = t.before [];
          goes = λ k f. t.goes k f ∙ ap (λ (x : ℕ). run_at payload (times x ocb.phase_bias (λ xs. k (t.before xs))) pos at sheet) z;
        };
        few = omega (arith, t.few);
        light = omega (arith, t.light);
      }

-- the sizes of bias masks have one bit
width-phase : (c : Constellation) → (sf (phase_sf c)).width ≡ 1
unfolding sf line_of find table
width-phase Gps = refl
width-phase Glonass = refl
width-phase Galileo = refl
width-phase BeiDou = refl
width-phase Qzss = refl

width_code : (c : Constellation) → (sf (code_sf c)).width ≡ 1
unfolding sf line_of find table
width_code Gps = refl
width_code Glonass = refl
width_code Galileo = refl
width_code BeiDou = refl
width_code Qzss = refl

module _ (c : Constellation) (payload : List ℕ) (pos at : ℕ) (sheet : List ℕ) (size width mask n : ℕ) (s1 s2 : List ℕ) (w : width ≡ bias_size c size) where
  pub phases-stored : (r : Here) (s3 : List ℕ) → Kept payload pos at 1 sheet size s1 → Kept payload (pos + 1) (at + 1) width s1 mask s2 → n ≡ ones mask
      → Moved payload (times n ocb.phase_bias) (pos + 1 + width) (at + 1 + 1) s2 1152 r s3 → Moved payload (phases_part c) pos at sheet 1217 r s3
  phases-stored r s3 p1 p2 count p3 =
      let word = bias-word c size in
      record {
        stores =
            stores-kept 1 size s1 (width-phase c) (lit< tt) (lit≤ tt) p1
            (stores-kept width mask s2 (sym w) (omega (arith, word.some)) (omega (arith, word.most)) p2
            (stores-with (λ phases. (record { size = size; bits = mask }, phases))
            (subst (λ (x : ℕ). Stores payload (times x ocb.phase_bias) (pos + 1 + width) (at + 1 + 1) s2 r.pos r.at s3) count p3.stores)));
        few = omega (arith, p3.few, word.most);
        light = omega (arith, p3.light);
      }

  pub codes-stored : (r : Here) (s3 : List ℕ) → Kept payload pos at 1 sheet size s1 → Kept payload (pos + 1) (at + 1) width s1 mask s2 → n ≡ ones mask
      → Moved payload (times n (field (sf 29))) (pos + 1 + width) (at + 1 + 1) s2 704 r s3 → Moved payload (codes_part c) pos at sheet 769 r s3
  codes-stored r s3 p1 p2 count p3 =
      let word = bias-word c size in
      record {
        stores =
            stores-kept 1 size s1 (width_code c) (lit< tt) (lit≤ tt) p1
            (stores-kept width mask s2 (sym w) (omega (arith, word.some)) (omega (arith, word.most)) p2
            (stores-with (λ codes. (record { size = size; bits = mask }, codes))
            (subst (λ (x : ℕ). Stores payload (times x (field (sf 29))) (pos + 1 + width) (at + 1 + 1) s2 r.pos r.at s3) count p3.stores)));
        few = omega (arith, p3.few, word.most);
        light = omega (arith, p3.light);
      }

pub each-code-stored : (payload : List ℕ) (start first n : ℕ) (sheet s1 : List ℕ) → n ≤ 64 → s1 ≡ stretched payload 11 n start first sheet
    → Moved payload (times n (field (sf 29))) start first sheet 704 (record { pos = start + n * 11; at = first + n }) s1
unfolding sf line_of find table
each-code-stored payload start first n sheet s1 few e =
    record {
      stores = stores_as (start + n * 11) (first + n) s1 refl refl (sym e) (stores-stretch (sf 29) 11 refl (lit< tt) (lit≤ tt) n start first sheet);
      few = omega arith;
      light = omega arith;
    }

module _ (c : Constellation) (payload : List ℕ) (present pos at : ℕ) (sheet : List ℕ) where
  pub bias-there : (here : Here) (s1 : List ℕ) (r : Here) (s2 : List ℕ) → present % 2 ≡ 1 → Moved payload (phases_part c) pos at sheet 1217 here s1
      → Moved payload (codes_part c) here.pos here.at s1 769 r s2 → Moved payload (optional (eqb (present % 2) 1) (ocb.bias c)) pos at sheet 1986 r s2
  bias-there here s1 r s2 e p1 p2 =
      let x = p1.stores.value in
      moved-there (present % 2) e
      (record {
        stores = stores-then {first = phases_part c} {rest = λ x k. codes_part c (λ y. k (record { phase_mask = x.0; phases = x.1; code_mask = y.0; codes = y.1 }))} p1.stores
            (stores-with (λ y. record { phase_mask = x.0; phases = x.1; code_mask = y.0; codes = y.1 }) p2.stores);
        few = omega (arith, p1.few, p2.few);
        light = omega (arith, p1.light, p2.light);
      })

  pub bias-absent : (present % 2 ≡ 1 → ⊥) → Moved payload (optional (eqb (present % 2) 1) (ocb.bias c)) pos at sheet 1986 (record { pos = pos; at = at }) sheet
  bias-absent n = moved-absent (ocb.bias c) pos at sheet 1986 (present % 2) n

-- where a part ends
module _ {B : Type 0} {payload : List ℕ} {part : (B → Layout Message) → Layout Message} (pos at : ℕ) {sheet : List ℕ} {here : Here} {sheet' : List ℕ} where
  pub codes-near : Moved payload part pos at sheet 1217 here sheet' → pos < 2 ^ 34 → here.pos < 2 ^ 35
  codes-near p h = omega (arith, p.few)

  pub codes-next : Moved payload part pos at sheet 1217 here sheet' → at < 2 ^ 34 → here.at < 2 ^ 35
  codes-next p h = omega (arith, p.light)

  pub orbit-near : Moved payload part pos at sheet 64 here sheet' → pos < 2 ^ 33 → here.pos < 2 ^ 34
  orbit-near p h = omega (arith, p.few)

  pub orbit-next : Moved payload part pos at sheet 64 here sheet' → at < 2 ^ 33 → here.at < 2 ^ 34
  orbit-next p h = omega (arith, p.light)

  module _ {C : Type 0} {other : (C → Layout Message) → Layout Message} {behind : Here} {sheet'' : List ℕ} where
    pub clock-near : Moved payload part pos at sheet 64 here sheet' → Moved payload other here.pos here.at sheet' 20 behind sheet'' → pos < 2 ^ 33 → behind.pos < 2 ^ 34
    clock-near p q h = omega (arith, p.few, q.few)

    pub clock-next : Moved payload part pos at sheet 64 here sheet' → Moved payload other here.pos here.at sheet' 20 behind sheet'' → at < 2 ^ 33 → behind.at < 2 ^ 34
    clock-next p q h = omega (arith, p.light, q.light)

-- ---- satellites

pub blocks-stored : (c : Constellation) (yaw present : ℕ) (payload : List ℕ) (pos at : ℕ) (sheet : List ℕ) (orbit : Here) (s1 : List ℕ) (clock : Here) (s2 : List ℕ) (r : Here) (s3 : List ℕ)
    → Moved payload (optional (eqb (present / 4 % 2) 1) (ocb.orbit c yaw)) pos at sheet 64 orbit s1
    → Moved payload (optional (eqb (present / 2 % 2) 1) ocb.clock) orbit.pos orbit.at s1 20 clock s2
    → Moved payload (optional (eqb (present % 2) 1) (ocb.bias c)) clock.pos clock.at s2 1986 r s3 → BlocksStored c yaw present payload pos at sheet r s3
blocks-stored c yaw present payload pos at sheet orbit s1 clock s2 r s3 p1 p2 p3 =
    record {
      moved = λ continuity. record {
        stores =
            stores-then
            {rest = λ orbit k. optional (eqb (present / 2 % 2) 1) ocb.clock (λ clock. optional (eqb (present % 2) 1) (ocb.bias c) (λ bias.
            k (record { continuity = continuity; orbit = orbit; clock = clock; bias = bias })))}
            p1.stores
            (stores-then
            {rest = λ clock k. optional (eqb (present % 2) 1) (ocb.bias c) (λ bias. k (record { continuity = continuity; orbit = p1.stores.value; clock = clock; bias = bias }))}
            p2.stores
            (stores-with (λ bias. record { continuity = continuity; orbit = p1.stores.value; clock = p2.stores.value; bias = bias }) p3.stores));
        few = omega (arith, p1.few, p2.few, p3.few);
        light = omega (arith, p1.light, p2.light, p3.light);
      };
    }

-- a satellite behind SF013
abbrev use_by : (out : Bool) → Constellation → (yaw number : ℕ) → (ocb.Satellite → Layout Message) → Layout Message
use_by out c yaw number k = pick out (k (record { number = number; state = ocb.out_of_use })) (ocb.blocks c yaw (λ b. k (record { number = number; state = ocb.in_use b })))

module _ (c : Constellation) (yaw : ℕ) (payload : List ℕ) (pos at : ℕ) (sheet : List ℕ) (out : ℕ) (s1 : List ℕ) (p1 : Kept payload pos at 1 sheet out s1) where
  pub satellite-out : out ≡ 1 → SatelliteStored c yaw payload pos at sheet (record { pos = pos + 1; at = at + 1 }) s1
  unfolding sf line_of find table
  satellite-out e =
      record {
        moved = λ number. record {
          stores = stores-kept {part = λ x. use_by (eqb x 1) c yaw number} 1 out s1 refl (lit< tt) (lit≤ tt) p1
              (subst (λ (b : Bool). Stores payload (use_by b c yaw number) (pos + 1) (at + 1) s1 (pos + 1) (at + 1) s1) (sym (eq-eqb out 1 e))
              (stores-end (record { number = number; state = ocb.out_of_use }) (pos + 1) (at + 1) s1));
          few = omega arith;
          light = omega arith;
        };
      }

  pub satellite-in : (present continuity : ℕ) (s2 s3 : List ℕ) (r : Here) (s4 : List ℕ) → (out ≡ 1 → ⊥) → Kept payload (pos + 1) (at + 1) 3 s1 present s2
      → Kept payload (pos + 1 + 3) (at + 1 + 1) 3 s2 continuity s3 → BlocksStored c yaw present payload (pos + 1 + 3 + 3) (at + 1 + 1 + 1) s3 r s4
      → SatelliteStored c yaw payload pos at sheet r s4
  unfolding sf line_of find table
  satellite-in present continuity s2 s3 r s4 n p2 p3 p4 =
      let m = p4.moved continuity in
      record {
        moved = λ number. record {
          stores = stores-kept {part = λ x. use_by (eqb x 1) c yaw number} 1 out s1 refl (lit< tt) (lit≤ tt) p1
              (subst (λ (b : Bool). Stores payload (use_by b c yaw number) (pos + 1) (at + 1) s1 r.pos r.at s4) (sym (ne_eqb out 1 n))
              (stores-kept 3 present s2 refl (lit< tt) (lit≤ tt) p2
              (stores-kept 3 continuity s3 refl (lit< tt) (lit≤ tt) p3
              (stores-with (λ b. record { number = number; state = ocb.in_use b }) m.stores))));
          few = omega (arith, m.few);
          light = omega (arith, m.light);
        };
      }

-- what is still to be stored of a list of satellites, and what is before it
record SatellitesLeft (c : Constellation) (yaw : ℕ) (payload : List ℕ) (ms : List ℕ) (start : ℕ) (sheet₀ : List ℕ) (left pos at : ℕ) (sheet : List ℕ) : Type 0 where
  rest : List ℕ
  many : length rest ≡ left
  before : List ocb.Satellite → List ocb.Satellite
  goes : (k : List ocb.Satellite → Layout Message) → Finishes (run_at payload (each ms (ocb.satellite c yaw) k) start 8 sheet₀)
      → run_at payload (each ms (ocb.satellite c yaw) k) start 8 sheet₀ ≡ run_at payload (each rest (ocb.satellite c yaw) (λ xs. k (before xs))) pos at sheet

pub record Satellites (c : Constellation) (yaw : ℕ) (payload : List ℕ) (n start : ℕ) (sheet₀ : List ℕ) (left pos at : ℕ) (sheet : List ℕ) : Type 0 where
  on : (ms : List ℕ) → length ms ≡ n → SatellitesLeft c yaw payload ms start sheet₀ left pos at sheet
  pub few : pos + 2077 * left ≤ start + 132928
  pub light : at + 2077 * left ≤ 132936
  pub same : length sheet ≡ length sheet₀

pub satellites-start : (c : Constellation) (yaw : ℕ) (payload : List ℕ) (n start : ℕ) (sheet : List ℕ) → n ≤ 64 → Satellites c yaw payload n start sheet n start 8 sheet
satellites-start c yaw payload n start sheet h =
    record { on = λ ms e. record { rest = ms; many = e; before = λ xs. xs; goes = λ k f. refl }; few = omega arith; light = omega arith; same = refl }

module _ {c : Constellation} {yaw : ℕ} {payload : List ℕ} {n start : ℕ} {sheet₀ : List ℕ} {left pos at : ℕ} {sheet : List ℕ}
    (t : Satellites c yaw payload n start sheet₀ left pos at sheet) where
  pub satellites-near : start ≤ 100 → pos < 2 ^ 32
  satellites-near h = omega (arith, t.few)

  pub satellites-next : at < 2 ^ 32
  satellites-next = omega (arith, t.light)

  pub satellites-again : (here : Here) (sheet' : List ℕ) → 0 < left → length sheet' ≡ length sheet → SatelliteStored c yaw payload pos at sheet here sheet'
      → Satellites c yaw payload n start sheet₀ (left - 1) here.pos here.at sheet'
  satellites-again here sheet' h same p =
      record { on = λ ms e. step ms (t.on ms e); few = omega (arith, t.few, (p.moved 0).few); light = omega (arith, t.light, (p.moved 0).light); same = same ∙ t.same }
    where
      step : (ms : List ℕ) → SatellitesLeft c yaw payload ms start sheet₀ left pos at sheet → SatellitesLeft c yaw payload ms start sheet₀ (left - 1) here.pos here.at sheet'
      step ms l = go l.rest l.many l.goes
        where
          go : (rest : List ℕ) → length rest ≡ left
              → ((k : List ocb.Satellite → Layout Message) → Finishes (run_at payload (each ms (ocb.satellite c yaw) k) start 8 sheet₀)
              → run_at payload (each ms (ocb.satellite c yaw) k) start 8 sheet₀ ≡ run_at payload (each rest (ocb.satellite c yaw) (λ xs. k (l.before xs))) pos at sheet)
              → SatellitesLeft c yaw payload ms start sheet₀ (left - 1) here.pos here.at sheet'
          go [] many goes = absurd (omega (arith, many))
          go (m ∷ rest) many goes =
              let s = (p.moved m).stores in
              record {
                rest = rest;
                many = omega (arith, many);
                before = λ xs. l.before (s.value ∷ xs);
                goes = λ k f.
                    let e = goes k f in
                    e ∙ s.goes (λ x. each rest (ocb.satellite c yaw) (λ xs. k (l.before (x ∷ xs)))) (onward e f);
              }

  pub satellites-done : left ≤ 0 → SatellitesStored c yaw payload n start sheet₀ sheet
  satellites-done h =
      record { end = pos; entries = at; stores = λ ms e. end ms (t.on ms e) }
    where
      end : (ms : List ℕ) → SatellitesLeft c yaw payload ms start sheet₀ left pos at sheet → Stores payload (each ms (ocb.satellite c yaw)) start 8 sheet₀ pos at sheet
      end ms l = go l.rest l.many l.goes
        where
          go : (rest : List ℕ) → length rest ≡ left
              → ((k : List ocb.Satellite → Layout Message) → Finishes (run_at payload (each ms (ocb.satellite c yaw) k) start 8 sheet₀)
              → run_at payload (each ms (ocb.satellite c yaw) k) start 8 sheet₀ ≡ run_at payload (each rest (ocb.satellite c yaw) (λ xs. k (l.before xs))) pos at sheet)
              → Stores payload (each ms (ocb.satellite c yaw)) start 8 sheet₀ pos at sheet
          go [] many goes = record { value = l.before []; goes = goes }
          go (m ∷ rest) many goes = absurd (omega (arith, many))

-- ---- the satellite mask

module _ (c : Constellation) (yaw : ℕ) (payload : List ℕ) (pos : ℕ) (size width mask n : ℕ) (w : width ≡ mask_size c size) where
  pub masked-near : pos ≤ 23 → pos + 2 + width ≤ 100
  masked-near h = omega (arith, (mask_word c size).most)

  pub masked-stored : (sheet s1 s2 s3 : List ℕ) → Kept payload pos 6 2 sheet size s1 → Kept payload (pos + 2) 7 width s1 mask s2 → n ≡ ones mask
      → SatellitesStored c yaw payload n (pos + 2 + width) s2 s3 → MaskedStored c yaw payload pos sheet s3
  masked-stored sheet s1 s2 s3 p1 p2 count p3 =
      let word = mask_word c size in
      let small : mask < 2 ^ mask_size c size = subst (λ (x : ℕ). mask < 2 ^ x) w (subst (λ (x : ℕ). x < 2 ^ width) (sym p2.code) (got-small payload (pos + 2) width)) in
      let many : length (satellites_of c size mask) ≡ n = counted (first_satellite c) (mask_size c size) mask small ∙ sym count in
      record {
        end = p3.end;
        entries = p3.entries;
        stores =
            stores-kept {part = λ size k. field (mask_field (mask_sf c) (mask_size c size)) (λ mask. each (satellites_of c size mask) (ocb.satellite c yaw) k)} 2 size s1 (mask-size-width c) (lit< tt) (lit≤ tt) p1
            (stores-kept {part = λ mask. each (satellites_of c size mask) (ocb.satellite c yaw)} width mask s2 (sym w) (omega (arith, word.some)) (omega (arith, word.most)) p2
            (p3.stores (satellites_of c size mask) many));
      }

-- ---- the message

width-ephemeris : (c : Constellation) → (sf (ephemeris_sf c)).width ≡ ephemeris_width c
unfolding sf line_of find table
width-ephemeris Gps = refl
width-ephemeris Glonass = refl
width-ephemeris Galileo = refl
width-ephemeris BeiDou = refl
width-ephemeris Qzss = refl

pub behind-stored : (c : Constellation) (yaw : ℕ) (payload sheet : List ℕ) (datum width ephemeris : ℕ) (s1 s2 s3 : List ℕ) → Kept payload 12 4 1 sheet datum s1
    → width ≡ ephemeris_width c → 0 < width → width ≤ 10 → Kept payload 13 5 width s1 ephemeris s2 → MaskedStored c yaw payload (13 + width) s2 s3 → BehindStored c yaw payload sheet s3
unfolding sf line_of find table
behind-stored c yaw payload sheet datum width ephemeris s1 s2 s3 p1 e some small p2 p3 =
    record {
      end = p3.end;
      entries = p3.entries;
      stores = λ siou end_of_set.
          stores-kept 1 datum s1 refl (lit< tt) (lit≤ tt) p1
          (stores-kept width ephemeris s2 (width-ephemeris c ∙ sym e) some (omega arith) p2
          (stores-with (λ satellites. record { siou = siou; end_of_set = end_of_set; datum = datum; ephemeris = ephemeris; satellites = satellites }) p3.stores));
    }

pub ocb-stored : (c : Constellation) (payload sheet : List ℕ) (yaw : ℕ) (s1 s2 s3 : List ℕ) → Cut payload 0 0 9 1 1 sheet s1 → Kept payload 11 3 1 s1 yaw s2
    → BehindStored c yaw payload s2 s3 → OcbStored c payload sheet s3
unfolding run_l sf line_of find table
ocb-stored c payload sheet yaw s1 s2 s3 p1 p2 p3 =
    let all : Stores payload (ocb.ocb c) 0 0 sheet p3.end p3.entries s3
    = stores-cut {part = λ siou end_of_set reserved k. field (sf 8) (λ yaw. ocb_behind c siou end_of_set yaw k)} s1 (lit< tt) (lit< tt) (lit< tt) (lit≤ tt) p1
    (stores-kept 1 yaw s2 refl (lit< tt) (lit≤ tt) p2 (p3.stores (p1.whole / 2 ^ 2) (p1.whole / 2 ^ 1 % 2 ^ 1))) in
    record { count = p3.entries; used = p3.end; is = λ h. all.goes (λ body. done (ocb_message c body)) h }

-- ---- the codes of an accepted OCB

module _ {payload sheet sheet' : List ℕ} where
  pub filled-ocb : (subtype : ℕ) (x : Subtype) (c : Constellation) → x ≡ constellation_for subtype → x ≡ Some c → OcbStored c payload sheet sheet'
      → Filled 0 subtype payload sheet sheet'
  filled-ocb subtype x c e q p = filled-by 0 subtype (ocb_layout c) p.count p.used (ap (by_constellation ocb_layout) (subtype-known subtype c (sym e ∙ q))) p.is

  pub filled-no-ocb : (subtype : ℕ) (x : Subtype) → x ≡ constellation_for subtype → x ≡ None → Filled 0 subtype payload sheet sheet'
  filled-no-ocb subtype x e q =
      let none : start_of 0 subtype ≡ None = ap ocb_start (sym e ∙ q) in
      filled_none 0 subtype (not-started 0 subtype (start_of 0 subtype) refl none)
