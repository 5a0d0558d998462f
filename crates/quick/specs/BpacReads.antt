-- Serves proofs, and is proved: a BPAC that for_bpac.rt passes reads by its layout, to that bit and in so many entries.
use Rattle.std.specs.Prelude.{◌≡◌, Bool, true, false, List, [], ◌∷◌, ◌++◌, eqb, ltb, length, Some}
use Rattle.std.proofs.Math.Path.{refl, ap₂, subst}
use Rattle.std.proofs.Common.{ap, sym, ◌∙◌, arith, eqb-true, ltb-false, lit≤}
use Rattle.std.proofs.lemmas.Bool.{false≢true, eqb-false}
use Prim.Native.Nat.{ℕ, zero, suc, ◌+◌, ◌-◌, ◌*◌, ◌/◌, ◌%◌, ◌≤◌, ◌<◌}
use Rattle.std.proofs.Math.Numerals.{add-one}
use Rattle.std.specs.Int.Count.{ones}
use Rattle.bits.specs.Bits.{to_bits, got}
use Rattle.layout.specs.Layout.{Layout, field, pick}
use Rattle.layout.specs.Parts.{free, times}
use Rattle.layout.specs.Run.{finished, run_l}
use Rattle.fields.specs.Fields.{table, find, line_of, sf}
use Rattle.bpac.specs.Bpac as bpac
use Rattle.message.specs.Messages.{Message, bpac_message, bpac_layout}
use Rattle.quick.specs.Passes.{Full, Has, Passes, run_from, run-field, has-full, taken-full, got-small, got-part, passes-end, passes-field, passes-with, passes-as, passes_then, times_none, times_more, passes-whole}
use Rattle.quick.specs.Codes.{full, full-free, ranged, has-up-to}
use Rattle.quick.specs.declared.behind.Behind.{Behind}
use Rattle.quick.specs.Behind.{repeated}
use Rattle.quick.specs.Passed.{Passed, Somewhere, some_after, passed-if, passed-after, passes-from, passes-wide, has-wide, has-below, reads_whole}
use Rattle.quick.specs.Bpac.{head_fits, last_node, set_in, vtecs_end, vtecs_behind, nodes_behind, area_behind, bpac_of}

-- ---- VTEC blocks

full-residual : (b : Bool) → Full (pick b (sf 82) (sf 83))
unfolding sf line_of find table
full-residual true = full refl
full-residual false = full refl

width-residual : (size : ℕ) → size < 2 → (bpac.vtec_residual size).width ≡ 7 + 4 * size
unfolding sf line_of find table
width-residual size h = go (eqb size 0) refl
  where
    go : (b : Bool) → eqb size 0 ≡ b → (pick b (sf 82) (sf 83)).width ≡ 7 + 4 * size
    go true e = let z : size ≡ 0 = eqb-true size 0 e in omega arith
    go false e = let z : size ≡ 0 → ⊥ = eqb-false size 0 e in omega arith

module _ {A : Type 0} (payload : List ℕ) where
  vtec-passes : (pos : ℕ) → Passes {A = A} payload bpac.vtec pos (pos + (12 + 4 * got payload (pos + 4) 1)) 3
  unfolding sf line_of find table
  vtec-passes pos =
      let size : ℕ = got payload (pos + 4) 1 in
      let w : (bpac.vtec_residual size).width ≡ 7 + 4 * size = width-residual size (got-small payload (pos + 4) 1) in
      passes-as (pos + (12 + 4 * size)) 3 (omega arith) refl
      (passes-field _ (has-full (full refl) pos _)
      (passes-field size (has-full (full refl) (pos + 4) _)
      (passes-wide (7 + 4 * size) w _ (has-wide (7 + 4 * size) w (full-residual (eqb size 0)) (pos + 4 + 1) _)
      (passes-end _ _))))

  vtecs-pass : (n pos : ℕ) → Passes {A = A} payload (times n bpac.vtec) pos (vtecs_end payload n pos) (3 * n)
  unfolding vtecs_end
  vtecs-pass zero pos = passes-as pos (3 * 0) refl (omega arith) (times_none bpac.vtec pos)
  vtecs-pass (suc n) pos =
      let next : ℕ = pos + (12 + 4 * got payload (pos + 4) 1) in
      passes-as (vtecs_end payload n next) (3 * suc n) refl (omega arith)
      (times_more bpac.vtec n (vtec-passes pos) (vtecs-pass n next))

-- ---- the node mask

-- n groups of 64: their codes have as many bits set as the code counted
record Groups (A : Type 0) (payload : List ℕ) (n pos : ℕ) : Type 0 where
  codes : List ℕ
  set : bpac.set_bits codes ≡ set_in payload n pos
  goes : pos + 64 * n ≤ 8 * length payload → (k : List ℕ → Layout A) (at : ℕ)
      → run_from payload (times n (field (free 79 64)) k) pos at ≡ run_from payload (k codes) (pos + 64 * n) (at + n)

groups-go : (A : Type 0) (payload : List ℕ) (n pos : ℕ) → Groups A payload n pos
unfolding set_in
groups-go A payload zero pos =
    record {
      codes = [];
      set = refl;
      goes = λ h k at.
          let p : pos ≡ pos + 64 * 0 = omega arith in
          let q : at ≡ at + 0 = omega arith in
          ap₂ (λ (x y : ℕ). run_from payload (k []) x y) p q;
    }
groups-go A payload (suc n) pos =
    let c : ℕ = got payload pos 64 in
    let rest = groups-go A payload n (pos + 64) in
    record {
      codes = c ∷ rest.codes;
      set = ap (λ (x : ℕ). ones c + x) rest.set;
      goes = λ h k at.
          let p : pos + 64 + 64 * n ≡ pos + 64 * suc n = omega arith in
          let q : at + 1 + n ≡ at + suc n = omega arith in
          run-field payload (free 79 64) (λ x. times n (field (free 79 64)) (λ xs. k (x ∷ xs))) pos at c (omega arith) (lit≤ tt) refl
          (taken-full c (full-free 79 64 (lit≤ tt)) (got-small payload pos 64))
          ∙ rest.goes (omega arith) (λ xs. k (c ∷ xs)) (at + 1)
          ∙ ap₂ (λ (x y : ℕ). run_from payload (k (c ∷ rest.codes)) x y) p q;
    }

set_last : (ms : List ℕ) (m : ℕ) → bpac.set_bits (ms ++ (m ∷ [])) ≡ bpac.set_bits ms + ones m
set_last [] m = omega arith
set_last (x ∷ ms) m = omega (arith, set_last ms m)

-- the mask of n nodes and the blocks that it says
abbrev nodes_part : {A : Type 0} → ℕ → (List ℕ × List bpac.Vtec → Layout A) → Layout A
nodes_part n k = bpac.node_mask n (λ mask. times (bpac.set_bits mask) bpac.vtec (λ nodes. k (mask, nodes)))

nodes-passed : {A : Type 0} (payload : List ℕ) (n pos at : ℕ) → Passed {A = A} payload (nodes_part n) pos at (nodes_behind payload (n - 1) pos at)
unfolding nodes_behind vtecs_behind
nodes-passed {A} payload n pos at =
    let groups : ℕ = (n - 1) / 64 in
    let width : ℕ = (n - 1) % 64 + 1 in
    let mid : ℕ = pos + 64 * groups in
    let last : ℕ = got payload mid width in
    let set : ℕ = set_in payload groups pos + ones last in
    let g = groups-go A payload groups pos in
    let mask : List ℕ = g.codes ++ (last ∷ []) in
    let same : set ≡ bpac.set_bits mask = sym (set_last g.codes last ∙ ap (λ (x : ℕ). x + ones last) g.set) in
    let blocks : Passes {A = A} payload (times (bpac.set_bits mask) bpac.vtec) (mid + width) (vtecs_end payload set (mid + width)) (3 * set)
    = subst (λ x. Passes {A = A} payload (times x bpac.vtec) (mid + width) (vtecs_end payload set (mid + width)) (3 * set)) same (vtecs-pass payload set (mid + width)) in
    record {
      entries = groups + suc (3 * set);
      count = omega arith;
      passes =
          passes_then {first = times groups (field (free 79 64))}
          {rest = λ codes k. field (free 79 width) (λ x. times (bpac.set_bits (codes ++ (x ∷ []))) bpac.vtec (λ nodes. k (codes ++ (x ∷ []), nodes)))}
          (record { value = g.codes; onward = omega arith; goes = g.goes })
          (passes-field last (has-full (full-free 79 width (omega arith)) mid _) (passes-with (λ nodes. (mask, nodes)) blocks));
    }

-- ---- an area

-- what the tests of a head say
record Head (head : ℕ) : Type 0 where
  latitude : head / 8589934592 % 256 ≤ 170
  longitude : head / 16777216 % 512 ≤ 360
  average : head % 0x1000 ≡ 4095 → ⊥

head-says : (head : ℕ) → head_fits head ≡ true → Head head
unfolding head_fits
head-says head e = go (ltb 170 (head / 8589934592 % 256)) (ltb 360 (head / 16777216 % 512)) (eqb (head % 0x1000) 4095) refl refl refl e
  where
    go : (a b c : Bool) → ltb 170 (head / 8589934592 % 256) ≡ a → ltb 360 (head / 16777216 % 512) ≡ b → eqb (head % 0x1000) 4095 ≡ c
        → pick a false (pick b false (pick c false true)) ≡ true → Head head
    go true b c p q r e = absurd (false≢true e)
    go false true c p q r e = absurd (false≢true e)
    go false false true p q r e = absurd (false≢true e)
    go false false false p q r e =
        record {
          latitude = ltb-false 170 (head / 8589934592 % 256) p;
          longitude = ltb-false 360 (head / 16777216 % 512) q;
          average = eqb-false (head % 0x1000) 4095 r;
        }

module _ (payload : List ℕ) (pos : ℕ) (t : Head (got payload pos 43)) (h : pos + 43 ≤ 8 * length payload) where
  latitude-small : got payload (pos + 2) 8 ≤ 170
  latitude-small = omega (arith, got-part payload pos 2 8 33 (lit≤ tt) h, t.latitude)

  longitude-small : got payload (pos + 2 + 8) 9 ≤ 360
  longitude-small =
      let p : pos + 10 ≡ pos + 2 + 8 = omega arith in
      omega (arith, got-part payload pos 10 9 24 (lit≤ tt) h, t.longitude, ap (λ (x : ℕ). got payload x 9) p)

  average-below : got payload (pos + 2 + 8 + 9 + 4 + 4 + 2 + 2) 12 ≡ 4095 → ⊥
  average-below e =
      let p : pos + 31 ≡ pos + 2 + 8 + 9 + 4 + 4 + 2 + 2 = omega arith in
      t.average (omega (arith, got-part payload pos 31 12 0 (lit≤ tt) h, ap (λ (x : ℕ). got payload x 12) p))

-- SF075 and SF076 out of the head, if their bits are there
has-rows : (payload : List ℕ) (pos end : ℕ) → pos + 43 ≤ end → Has payload (sf 75) (pos + 2 + 8 + 9) end (got payload pos 43 / 1048576 % 16)
unfolding sf line_of find table
has-rows payload pos end on =
    let p : pos + 19 ≡ pos + 2 + 8 + 9 = omega arith in
    record {
      word = lit≤ tt;
      code = λ h. sym (ap (λ (x : ℕ). got payload x 4) (sym p) ∙ got-part payload pos 19 4 20 (lit≤ tt) (omega arith));
      taken = λ h. taken-full (got payload pos 43 / 1048576 % 16) (full refl) (omega arith);
    }

has-columns : (payload : List ℕ) (pos end : ℕ) → pos + 43 ≤ end → Has payload (sf 76) (pos + 2 + 8 + 9 + 4) end (got payload pos 43 / 65536 % 16)
unfolding sf line_of find table
has-columns payload pos end on =
    let p : pos + 23 ≡ pos + 2 + 8 + 9 + 4 = omega arith in
    record {
      word = lit≤ tt;
      code = λ h. sym (ap (λ (x : ℕ). got payload x 4) (sym p) ∙ got-part payload pos 23 4 16 (lit≤ tt) (omega arith));
      taken = λ h. taken-full (got payload pos 43 / 65536 % 16) (full refl) (omega arith);
    }

module _ {A : Type 0} (payload : List ℕ) where
  -- the mask and the blocks behind a head
  behind-head : (head pos at : ℕ)
      → Passed {A = A} payload (nodes_part (suc (head / 1048576 % 16) * suc (head / 65536 % 16))) pos at (nodes_behind payload (last_node head) pos at)
  unfolding last_node
  behind-head head pos at =
      let rows : ℕ = head / 1048576 % 16 in
      let columns : ℕ = head / 65536 % 16 in
      let e : suc rows * suc columns - 1 ≡ (rows + 1) * (columns + 1) - 1 = ap₂ (λ (x y : ℕ). x * y - 1) (sym (add-one rows)) (sym (add-one columns)) in
      subst (λ last. Passed {A = A} payload (nodes_part (suc rows * suc columns)) pos at (nodes_behind payload last pos at)) e
      (nodes-passed payload (suc rows * suc columns) pos at)

  area-passed : (pos at : ℕ) → Somewhere (area_behind payload pos at) → Passed {A = A} payload bpac.area pos at (area_behind payload pos at)
  unfolding area_behind sf line_of find table
  area-passed pos at s =
      let head : ℕ = got payload pos 43 in
      passed-if (head_fits head) s (λ e u.
      let t : Head head = head-says head e in
      let b = behind-head head (pos + 43) (at + 8) in
      let on = b.passes.onward in
      record {
        entries = suc (suc (suc (suc (suc (suc (suc (suc b.entries)))))));
        count = omega (arith, b.count);
        passes =
            passes-field _ (has-full (full refl) pos _)
            (passes-field _ (has-up-to (pos + 2) _ (ranged refl) (λ h. latitude-small payload pos t (omega arith)))
            (passes-field _ (has-up-to (pos + 2 + 8) _ (ranged refl) (λ h. longitude-small payload pos t (omega arith)))
            (passes-field (head / 1048576 % 16) (has-rows payload pos _ on)
            (passes-field (head / 65536 % 16) (has-columns payload pos _ on)
            (passes-field _ (has-full (full refl) (pos + 2 + 8 + 9 + 4 + 4) _)
            (passes-field _ (has-full (full refl) (pos + 2 + 8 + 9 + 4 + 4 + 2) _)
            (passes-field _ (has-below (pos + 2 + 8 + 9 + 4 + 4 + 2 + 2) _ (ranged refl) refl (λ h. average-below payload pos t (omega arith)))
            (passes-with (λ x. record {
              id = got payload pos 2;
              latitude = got payload (pos + 2) 8;
              longitude = got payload (pos + 2 + 8) 9;
              rows = head / 1048576 % 16;
              columns = head / 65536 % 16;
              latitude_spacing = got payload (pos + 2 + 8 + 9 + 4 + 4) 2;
              longitude_spacing = got payload (pos + 2 + 8 + 9 + 4 + 4 + 2) 2;
              average = got payload (pos + 2 + 8 + 9 + 4 + 4 + 2 + 2) 12;
              node_mask = x.0;
              nodes = x.1;
            }) (passes-from (pos + 2 + 8 + 9 + 4 + 4 + 2 + 2 + 12) (omega arith) b.passes)))))))));
      })

  areas-passed : (n pos at : ℕ) → Somewhere (repeated (area_behind payload) n pos at)
      → Passed {A = A} payload (times n bpac.area) pos at (repeated (area_behind payload) n pos at)
  unfolding repeated
  areas-passed zero pos at s = record { entries = 0; count = omega arith; passes = times_none bpac.area pos }
  areas-passed (suc n) pos at s =
      let b : Behind = area_behind payload pos at in
      let next : ℕ → ℕ → Behind = repeated (area_behind payload) n in
      let t = some_after b next s in
      let p = area-passed pos at t.0 in
      let q = areas-passed n b.end b.entries t.1 in
      passed-after {first = bpac.area} {rest = λ x k. times n bpac.area (λ xs. k (x ∷ xs))} b next s p
      (record { entries = q.entries; count = q.count; passes = passes-with (λ xs. p.passes.value ∷ xs) q.passes })

  -- ---- the whole message

  bpac-passed : (n : ℕ) → n ≡ got payload 12 2 + 1 → Somewhere (repeated (area_behind payload) n 14 4)
      → Passed {A = A} payload bpac.bpac 0 0 (repeated (area_behind payload) n 14 4)
  unfolding sf line_of find table
  bpac-passed n e s =
      let a = areas-passed n 14 4 s in
      let b : Behind = repeated (area_behind payload) n 14 4 in
      let areas : Passes {A = A} payload (times (suc (got payload 12 2)) bpac.area) 14 b.end a.entries
      = subst (λ x. Passes {A = A} payload (times x bpac.area) 14 b.end a.entries) (e ∙ add-one (got payload 12 2)) a.passes in
      record {
        entries = suc (suc (suc (suc a.entries)));
        count = omega (arith, a.count);
        passes =
            passes-field _ (has-full (full refl) 0 _)
            (passes-field _ (has-full (full refl) 9 _)
            (passes-field _ (has-full (full refl) 10 _)
            (passes-field _ (has-full (full refl) 12 _)
            (passes-with (λ areas. record { siou = got payload 0 9; height = got payload 10 2; areas = areas }) areas))));
      }

pub bpac-reads : (payload : List ℕ) (bits entries : ℕ) → bpac_of payload ≡ Some (record { bits = bits; entries = entries }) → run_l bpac_layout (to_bits payload) 0 0 [] ≡ finished entries bits []
unfolding bpac_of
bpac-reads payload bits entries e =
    let n : ℕ = got payload 12 2 + 1 in
    let w = reads_whole payload (repeated (area_behind payload) n 14 4) bits entries e in
    let p = bpac-passed {A = Message} payload n refl w.some in
    passes-whole p.passes w.there bpac_message ∙ ap₂ (λ (x y : ℕ). finished x y []) (omega (arith, p.count, w.entry)) w.bit
