-- The steps of a call, in plain values: from each place on, what the call comes to is what it came to at the start.
use mathlib.Core.Path.{◌≡◌, refl, sym, ap, ap₂, ◌∙◌}
use mathlib.Core.List.{List, ◌++◌, append_assoc}
use Prim.Native.Nat.{ℕ, zero, suc, ◌+◌, ◌-◌, ◌*◌, ◌≤◌, ◌<◌, min}
use native.Mathlib.Nat.{sub-zero, zero-sub, suc-sub-suc}
use native.Mathlib.Omega.{arith}
use lib.ListN.{length, take, drop, replicate, length-append, length-drop, length-replicate, replicate-append-replicate}
use lib.Seq.{take_at, drop_at, take-add, drop-append-le, drop-drop, length-take-le}
use mir.Val.{Fits}
use mir.Syntax.{w64}
use Rattle.sizes.specs.Sizes.{longest_frame, most_noise}
use Rattle.frame.specs.Laws.{short-wants}
use Rattle.stream.specs.declared.Place.{Place}
use Rattle.stream.specs.Tray.{feed, laid}
use Rattle.stream.specs.Sound.{take-laid, drop-laid, length-laid, laid_same, laid-again}
use Rattle.stream.specs.Walk.{shifted, Standing, plus, fed_from, Onward, live_at, Wanting, Ends, noised}
use Rattle.stream.proofs.Parts.{length_part}
use Rattle.stream.proofs.Feeding.{plus-plus, feed-block}

-- ---- the tray's bytes: those held, zeros, and what is beyond

drop-replicate : (c n : ℕ) → drop {A = ℕ} c (replicate n 0) ≡ replicate (n - c) 0
drop-replicate zero n = rw sub-zero
drop-replicate (suc c) zero = rw zero-sub
drop-replicate (suc c) (suc n) = rw suc-sub-suc (drop-replicate c n)

module _ (bytes : List ℕ) (held : ℕ) (most-held : held ≤ longest_frame) (room : longest_frame ≤ length bytes) (padded : bytes ≡ laid bytes (take held bytes)) where
  length-held : length (take held bytes) ≡ held
  length-held = length-take-le held bytes (omega arith)

  after-held : drop held bytes ≡ replicate (longest_frame - held) 0 ++ drop longest_frame bytes
  unfolding laid
  after-held =
      ap (drop held) padded ∙ drop_at (take held bytes) _ held length-held ∙ ap (λ n. replicate (longest_frame - n) 0 ++ drop longest_frame bytes) length-held

  -- the live bytes alone, moved to the front
  pub shifted-laid : (start : ℕ) → start ≤ held → shifted bytes held start ≡ laid bytes (drop start (take held bytes))
  unfolding shifted laid
  shifted-laid start h =
      let l : length (drop start (take held bytes)) ≡ held - start = length_part bytes start held (omega arith) in
      let n : start + (longest_frame - held) ≡ longest_frame - length (drop start (take held bytes)) = omega arith in
      ap (λ t. drop start (take held bytes) ++ t)
      (ap (λ t. replicate start 0 ++ t) after-held ∙ sym (append_assoc (replicate start 0) (replicate (longest_frame - held) 0) (drop longest_frame bytes))
      ∙ ap (λ t. t ++ drop longest_frame bytes) (replicate-append-replicate start (longest_frame - held) 0 ∙ ap (λ k. replicate k 0) n))

  -- more bytes behind those held
  pub copied-laid : (part : List ℕ) → held + length part ≤ longest_frame
      → take held bytes ++ (part ++ drop (held + length part) bytes) ≡ laid bytes (take held bytes ++ part)
  unfolding laid
  copied-laid part h =
      let l : length (take held bytes ++ part) ≡ held + length part = length-append (take held bytes) part ∙ ap (λ k. k + length part) length-held in
      let n : longest_frame - held - length part ≡ longest_frame - length (take held bytes ++ part) = omega arith in
      let d : drop (held + length part) bytes ≡ replicate (longest_frame - length (take held bytes ++ part)) 0 ++ drop longest_frame bytes =
      sym (drop-drop (length part) held bytes) ∙ ap (drop (length part)) after-held
      ∙ drop-append-le (length part) (replicate (longest_frame - held) 0) (drop longest_frame bytes) (rw length-replicate (omega arith))
      ∙ ap (λ t. t ++ drop longest_frame bytes) (drop-replicate (length part) (longest_frame - held) ∙ ap (λ k. replicate k 0) n) in
      ap (λ t. take held bytes ++ (part ++ t)) d ∙ sym (append_assoc (take held bytes) part _)

-- the live bytes from a place on, moved to the front of a tray that is as it was beyond 1,103
pub back : (bytes₀ bytes input : List ℕ) (place : Place) → Standing place bytes input → drop longest_frame bytes ≡ drop longest_frame bytes₀
    → (start : ℕ) → start ≤ place.held → (now : List ℕ) → now ≡ shifted bytes place.held start → now ≡ laid bytes₀ (drop start (take place.held bytes))
back bytes₀ bytes input place st b start h now s =
    s ∙ shifted-laid bytes place.held st.within.held-most st.within.room st.padded start h ∙ laid_same bytes bytes₀ (drop start (take place.held bytes)) b

-- a byte of noise, and the live bytes behind it
pub behind-noise : (lies : List ℕ) (place place' : Place) → place' ≡ noised place → drop 1 (live_at place lies) ≡ drop place'.start (take place.held lies)
behind-noise lies place place' p = rw p (drop-drop 1 place.start (take place.held lies))

-- a place in a tray so laid
pub stand-laid : (bytes held input : List ℕ) (place : Place) → length held ≡ place.held → place.start ≤ place.held → place.held ≤ longest_frame → longest_frame ≤ length bytes
    → place.noise < most_noise → place.used ≤ length input → Standing place (laid bytes held) input
stand-laid bytes held input place l s h r n u =
    let f : length held ≤ longest_frame = omega arith in
    record {
      within = record { start-in = s; held-most = h; room = omega (arith, length-laid bytes held f r); noise-less = n; used-in = u };
      padded = sym (laid-again bytes held f (take place.held (laid bytes held)) ∙ ap (laid bytes) (rw (← l) (take-laid bytes held f)));
    }

-- what the call comes to, where the live bytes are known
pub fed-at : (lies live input : List ℕ) (place : Place) → live_at place lies ≡ live → fed_from input lies place ≡ plus place.used (feed (drop place.used input) live place.noise)
unfolding fed_from
fed-at lies live input place e = ap (λ l. plus place.used (feed (drop place.used input) l place.noise)) e

gap-le : (h u x : ℕ) → x ≡ h → h - u ≤ x
gap-le h u x e = omega arith

both-more : (h u c : ℕ) → u ≤ h → u + c ≤ h + c
both-more h u c e = omega arith

same_gap : (h u c : ℕ) → h + c - (u + c) ≡ h - u
same_gap h u c = omega arith

taken-nearer : (i u c s h : ℕ) → 1 ≤ c → c ≤ i - u → s ≤ h → 3 * (i - (u + c)) + (h + c - s) + (h + c) < 3 * (i - u) + (h - s) + h
taken-nearer i u c s h a b d = omega arith

module _ (place : Place) (bytes input : List ℕ) (st : Standing place bytes input) where
  pub length-live : length (live_at place bytes) ≡ place.held - place.start
  length-live = length_part bytes place.start place.held (omega (arith, st.within))

  module _ (wanted : ℕ) (w : Wanting place bytes input wanted) where
    wants : (place.held - place.start < wanted) × (wanted ≤ longest_frame)
    wants = let s = short-wants (live_at place bytes) wanted w.short in (omega (arith, s.0, length-live), s.1)

    pub wanted-more : place.held - place.start ≤ wanted
    wanted-more = omega (arith, wants.0)

    pub wanted-fits : Fits w64 (place.start + wanted)
    wanted-fits = omega (arith, wants.1, st.within)

    -- the live bytes move to the front
    pub onward-shift : (now : List ℕ) → now ≡ shifted bytes place.held place.start → longest_frame < place.start + wanted
        → Onward (fed_from input) place bytes input (record { start = 0; held = place.held - place.start; noise = place.noise; used = place.used }) now
    onward-shift now e h =
        let L = live_at place bytes in
        let l : length L ≡ place.held - place.start = length-live in
        let f : length L ≤ longest_frame = omega (arith, st.within) in
        let q : now ≡ laid bytes L = e ∙ shifted-laid bytes place.held st.within.held-most st.within.room st.padded place.start st.within.start-in in
        let t : take (place.held - place.start) now ≡ L = rw (q, ← l) (take-laid bytes L f) in
        record {
          standing = rw q (stand-laid bytes L input _ l (omega arith) (omega (arith, st.within)) st.within.room st.within.noise-less st.within.used-in);
          beyond = rw q (drop-laid bytes L f);
          on = fed-at now L input _ t ∙ sym (fed-at bytes L input place refl);
          nearer = omega (arith, st.within, wants);
        }

    pub ends-shift : (now : List ℕ) → now ≡ shifted bytes place.held place.start
        → Ends (record { start = 0; held = place.held - place.start; noise = place.noise; used = place.used }) now input
    ends-shift now e =
        let g = w.ending in
        let h = w.older in
        let L = live_at place bytes in
        let l : length L ≡ place.held - place.start = length-live in
        let f : length L ≤ longest_frame = omega (arith, st.within) in
        let q : now ≡ laid bytes L = e ∙ shifted-laid bytes place.held st.within.held-most st.within.room st.padded place.start st.within.start-in in
        let t : take (place.held - place.start) now ≡ L = rw (q, ← l) (take-laid bytes L f) in
        let k : place.start + (place.held - place.start - place.used) ≡ place.held - place.used = omega arith in
        record {
          used-held = omega arith;
          ends = ap (drop (place.held - place.start - place.used)) t ∙ drop-drop (place.held - place.start - place.used) place.start (take place.held bytes) ∙ ap (λ n. drop n (take place.held bytes)) k ∙ g.ends;
        }

    module _ (count : ℕ) (h : place.start + wanted ≤ longest_frame) (q : count ≡ min (wanted - (place.held - place.start)) (length input - place.used)) where
      count_fits : (1 ≤ count) × (count ≤ wanted - (place.held - place.start)) × (count ≤ length input - place.used)
      count_fits = (omega (arith, wants, w.some_left), omega arith, omega arith)

      -- bytes are taken
      pub onward-taken : (part : List ℕ) → part ≡ take (place.used + count - place.used) (drop place.used input)
          → Onward (fed_from input) place bytes input (record { start = place.start; held = place.held + count; noise = place.noise; used = place.used + count })
          (take place.held bytes ++ (part ++ drop (place.held + count - place.held) (drop place.held bytes)))
      onward-taken part e =
          let L = live_at place bytes in
          let X = take place.held bytes in
          let f = count_fits in
          let r : length (drop place.used input) ≡ length input - place.used = length-drop place.used input in
          let a : place.used + count - place.used ≡ count = omega arith in
          let p : part ≡ take count (drop place.used input) = e ∙ ap (λ k. take k (drop place.used input)) a in
          let lp : length part ≡ count = ap length p ∙ length-take-le count (drop place.used input) (omega (arith, f.2)) in
          let lx : length X ≡ place.held = length-take-le place.held bytes (omega (arith, st.within)) in
          let lxp : length (X ++ part) ≡ place.held + count = length-append X part ∙ omega arith in
          let m : place.held + count ≤ longest_frame = omega (arith, f.1, wants, st.within) in
          let z : place.held + (place.held + count - place.held) ≡ place.held + length part = omega arith in
          let d : drop (place.held + count - place.held) (drop place.held bytes) ≡ drop (place.held + length part) bytes =
          drop-drop (place.held + count - place.held) place.held bytes ∙ ap (λ k. drop k bytes) z in
          let now = take place.held bytes ++ (part ++ drop (place.held + count - place.held) (drop place.held bytes)) in
          let s : now ≡ laid bytes (X ++ part) =
          ap (λ t. X ++ (part ++ t)) d ∙ copied-laid bytes place.held st.within.held-most st.within.room st.padded part (omega arith) in
          let g : length (X ++ part) ≤ longest_frame = omega arith in
          let t : drop place.start (take (place.held + count) now) ≡ L ++ part =
          ap (drop place.start) (rw (s, ← lxp) (take-laid bytes (X ++ part) g)) ∙ drop-append-le place.start X part (omega (arith, st.within)) in
          record {
            standing = rw s (stand-laid bytes (X ++ part) input _ lxp (omega (arith, st.within)) m st.within.room st.within.noise-less (omega (arith, f.2, st.within)));
            beyond = rw s (drop-laid bytes (X ++ part) g);
            on =
                fed-at now (L ++ part) input _ t ∙ ap (λ l. plus (place.used + count) (feed l (L ++ part) place.noise)) (sym (drop-drop count place.used input))
                ∙ sym (plus-plus place.used count (feed (drop count (drop place.used input)) (L ++ part) place.noise))
                ∙ ap (λ z. plus place.used (plus count (feed (drop count (drop place.used input)) (L ++ z) place.noise))) p
                ∙ ap (plus place.used)
                (sym (feed-block count (drop place.used input) L wanted place.noise w.short (omega (arith, f.1, wants, length-live)) (omega (arith, f.2))))
                ∙ sym (fed-at bytes L input place refl);
            nearer = taken-nearer (length input) place.used count place.start place.held f.0 f.2 st.within.start-in;
          }

      pub ends-taken : (part : List ℕ) → part ≡ take (place.used + count - place.used) (drop place.used input)
          → Ends (record { start = place.start; held = place.held + count; noise = place.noise; used = place.used + count })
          (take place.held bytes ++ (part ++ drop (place.held + count - place.held) (drop place.held bytes))) input
      ends-taken part e =
          let g = w.ending in
          let X = take place.held bytes in
          let f = count_fits in
          let r : length (drop place.used input) ≡ length input - place.used = length-drop place.used input in
          let a : place.used + count - place.used ≡ count = omega arith in
          let p : part ≡ take count (drop place.used input) = e ∙ ap (λ k. take k (drop place.used input)) a in
          let lp : length part ≡ count = ap length p ∙ length-take-le count (drop place.used input) (omega (arith, f.2)) in
          let lx : length X ≡ place.held = length-take-le place.held bytes (omega (arith, st.within)) in
          let lxp : length (X ++ part) ≡ place.held + count = length-append X part ∙ omega arith in
          let z : place.held + count - (place.used + count) ≡ place.held - place.used = same_gap place.held place.used count in
          let rest = drop (place.held + count - place.held) (drop place.held bytes) in
          let t : take (place.held + count) (X ++ (part ++ rest)) ≡ X ++ part =
          ap (take (place.held + count)) (sym (append_assoc X part rest)) ∙ take_at (X ++ part) rest (place.held + count) lxp in
          record {
            used-held = both-more place.held place.used count g.used-held;
            ends =
                ap₂ drop z t ∙ drop-append-le (place.held - place.used) X part (gap-le place.held place.used (length X) lx) ∙ ap₂ (λ x y. x ++ y) g.ends p
                ∙ sym (take-add place.used count input);
          }
