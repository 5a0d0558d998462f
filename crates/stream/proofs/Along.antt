-- The steps of a call whose live bytes lie in the input, in plain values: what the call comes to stays the same.
use mathlib.Core.Path.{◌≡◌, refl, sym, ap, ◌∙◌, subst}
use mathlib.Core.List.{List, [], ◌∷◌, ◌++◌}
use mathlib.Core.Bool.{Bool, true, false, cond}
use Prim.Native.Nat.{ℕ, zero, suc, ◌+◌, ◌-◌, ◌*◌, ◌≤◌, ◌<◌, min}
use native.Mathlib.Nat.{min-le_right, le-min, le_refl, le_trans, sub_self}
use native.Mathlib.Omega.{arith}
use lib.ListN.{length, get_or, take, drop, length-drop, take-append-drop, drop_of_length-le}
use lib.Seq.{take-add, drop-append-le, drop-drop, drop-cons, length-take-le, slice_empty, length-slice}
use lib.Dec.{ltb}
use borrow.Author.Tests.{ltb-false, le-ltb}
use Rattle.sizes.specs.Sizes.{longest_frame, most_noise}
use Rattle.std.specs.Prelude.{◌==◌, not}
use Rattle.std.specs.List.{position_or_len}
use Rattle.std.proofs.lemmas.List.Sums.{prefix_len-le-length}
use Rattle.frame.specs.declared.Checked.TheVariants.{Short}
use Rattle.frame.specs.Check.{checked}
use Rattle.frame.specs.Laws.{short-wants}
use Rattle.stream.specs.declared.Place.{Place}
use Rattle.stream.specs.Tray.{feed}
use Rattle.stream.specs.Check.{none-short, preamble-short}
use Rattle.stream.specs.Walk.{plus, live_at, Seen, to_go, Along, reached}
use Rattle.stream.proofs.Feeding.{plus-plus, IsShort, feed-all, short_on, feed-quiet}
use Rattle.stream.proofs.Parts.{part-is}
use Rattle.stream.proofs.Turns.{fed-at}

fits-noise : (k l : ℕ) → l ≤ (most_noise - 1) - k → k < most_noise → k + l < most_noise
fits-noise k l a b = omega arith

passed_on : (f u i n w h : ℕ) → f ≡ u + i → f ≤ n → h ≡ u → 3 * (n - f) + (f - f) + f ≤ 3 * (n - u) + w + h
passed_on f u i n w h e a b = omega arith

pub along-same : (place : Place) (input : List ℕ) → Seen place input → Along place input place
along-same place input s = record { seen = s; on = refl; no-further = omega arith }

pub along-two : (place : Place) (input : List ℕ) (p q : Place) → Along place input p → Along p input q → Along place input q
along-two place input p q a b = record { seen = b.seen; on = b.on ∙ a.on; no-further = le_trans b.no-further a.no-further }

module _ (place : Place) (input : List ℕ) (s : Seen place input) where
  pub length_seen : length (live_at place input) ≡ place.held - place.start
  length_seen = length-slice place.start place.held input (omega arith)

  -- ---- more bytes are used, where it is SHORT all the way

  live_more : (c : ℕ) → drop place.start (take (place.held + c) input) ≡ live_at place input ++ take c (drop place.used input)
  live_more c =
      let l : length (take place.held input) ≡ place.held = length-take-le place.held input (omega arith) in
      ap (drop place.start) (take-add place.held c input)
      ∙ drop-append-le place.start (take place.held input) (take c (drop place.held input)) (omega arith)
      ∙ ap (λ n. live_at place input ++ take c (drop n input)) s.held-used

  along-by : (c : ℕ) → place.used + c ≤ length input → place.held - place.start + c ≤ longest_frame
      → ((i : ℕ) → i < c → IsShort (live_at place input ++ take i (drop place.used input)))
      → Along place input (record { start = place.start; held = place.held + c; noise = place.noise; used = place.used + c })
  along-by c u m g =
      let L = live_at place input in
      let p = drop place.used input in
      let lp : length p ≡ length input - place.used = length-drop place.used input in
      record {
        seen = record { start-in = omega arith; held-used = omega arith; held-most = omega arith; noise-less = s.noise-less; used-in = u };
        on =
            fed-at input (L ++ take c p) input _ (live_more c)
            ∙ ap (λ l. plus (place.used + c) (feed l (L ++ take c p) place.noise)) (sym (drop-drop c place.used input))
            ∙ sym (plus-plus place.used c (feed (drop c p) (L ++ take c p) place.noise))
            ∙ ap (plus place.used) (sym (feed-all c p L place.noise g (omega arith))) ∙ sym (fed-at input L input place refl);
        no-further = omega arith;
      }

  module _ (wanted : ℕ) (m : wanted ≤ longest_frame)
      (g : (i : ℕ) → place.held - place.start + i < wanted → place.used + i < length input → IsShort (live_at place input ++ take i (drop place.used input))) where
    end : ℕ
    end = place.start + min wanted (length input - place.start)

    end-in : (end ≤ place.start + wanted) × (end ≤ length input)
    unfolding end
    end-in = (omega arith, omega arith)

    pub along-reached : (r : Place) → r ≡ reached place input wanted → Along place input r
    unfolding end
    along-reached r q = subst (λ p. Along place input p) (sym q) (go (ltb end place.held) refl)
      where
        go : (b : Bool) → ltb end place.held ≡ b
            → Along place input (cond b place (record { start = place.start; held = end; noise = place.noise; used = end }))
        go true e = along-same place input s
        go false e =
            let h : place.held ≤ end = ltb-false end place.held e in
            let i = end-in in
            let c = end - place.held in
            let ch : place.held + c ≡ end = omega arith in
            let cu : place.used + c ≡ end = omega (arith, s.held-used) in
            subst (λ x. Along place input (record { start = place.start; held = x; noise = place.noise; used = end })) ch
            (subst (λ x. Along place input (record { start = place.start; held = place.held + c; noise = place.noise; used = x })) cu
            (along-by c (omega (arith, i.1)) (omega (arith, i.0, s.start-in)) (λ j l. g j (omega (arith, i.0, s.start-in)) (omega (arith, i.1)))))

  -- ---- SHORT in the loop

  module _ (wanted : ℕ) (e : checked (live_at place input) ≡ Short wanted) (r : Place) (q : r ≡ reached place input wanted) where
    pub along-short : Along place input r
    along-short =
        let w = short-wants (live_at place input) wanted e in
        let lp : length (drop place.used input) ≡ length input - place.used = length-drop place.used input in
        along-reached wanted w.1 (λ i h u. short_on (live_at place input) (drop place.used input) wanted e i (omega (arith, length_seen)) (omega arith)) r q

    pub short-nearer : (place.held ≡ length input → ⊥) → to_go r input < to_go place input
    short-nearer n =
        let w : place.held - place.start < wanted = omega (arith, (short-wants (live_at place input) wanted e).0, length_seen) in
        let a : suc (place.held - place.start) ≤ min wanted (length input - place.start) = le-min w (omega arith) in
        let b = min-le_right wanted (length input - place.start) in
        let f : ltb (place.start + min wanted (length input - place.start)) place.held ≡ false = le-ltb (place.start + min wanted (length input - place.start)) place.held (omega arith) in
        rw (q, f) (further (length input) place.used place.held place.start (min wanted (length input - place.start)) a b s.held-used s.start-in)
      where
        further : (n u h b m : ℕ) → suc (h - b) ≤ m → m ≤ n - b → h ≡ u → b ≤ h → 3 * (n - (b + m)) + (b + m - b) + (b + m) < 3 * (n - u) + (h - b) + h
        further n u h b m p q r o = omega arith

  -- ---- one byte, or four where the first is a preamble

  window : (i : ℕ) → live_at place input ++ take i (drop place.used input) ≡ take (place.held - place.start + i) (drop place.start input)
  window i =
      let n : place.held - place.start + i ≡ place.held + i - place.start = omega arith in
      sym (live_more i) ∙ sym (part-is input place.start (place.held + i)) ∙ ap (λ k. take k (drop place.start input)) (sym n)

  module _ (h : place.start < length input) (r : Place) where
    pub widen-one : r ≡ reached place input 1 → Along place input r
    widen-one q =
        along-reached 1 (omega arith)
        (λ i l u. let z : place.held - place.start + i ≡ 0 = omega arith in (1, ap checked (window i ∙ ap (λ k. take k (drop place.start input)) z) ∙ none-short))
        r q

    pub widen-four : get_or input place.start 0 ≡ 0x73 → r ≡ reached place input 4 → Along place input r
    widen-four e q =
        along-reached 4 (omega arith)
        (λ i l u. subst IsShort (sym (window i)) (first-four (drop place.start input) (place.held - place.start + i) (drop-cons input place.start 0 (omega arith)) l (rw length-drop (omega arith))))
        r q
      where
        first-four : (l : List ℕ) (j : ℕ) → l ≡ get_or input place.start 0 ∷ drop (suc place.start) input → j < 4 → j ≤ length l → IsShort (take j l)
        first-four l zero d b k = (1, none-short)
        first-four l (suc j) d b k =
            let n : length (take j (drop (suc place.start) input)) ≡ j = length-take-le j (drop (suc place.start) input) (omega (arith, ap length d)) in
            (4, ap (λ z. checked (take (suc j) z)) d ∙ preamble-short (get_or input place.start 0) (take j (drop (suc place.start) input)) e (omega arith))

  -- ---- noise is passed over

  module _ (e : place.start ≡ place.held) where
    none-live : live_at place input ≡ []
    none-live = drop_of_length-le (take place.held input) {i = place.start} (omega (arith, length-take-le place.held input (omega arith)))

    module _ (passed limit : ℕ) (l : limit ≡ min ((most_noise - 1) - place.noise) (length input - place.used))
        (q : passed ≡ position_or_len (λ byte. byte == 0x73) (take (place.used + limit - place.used) (drop place.used input))) where
      limit-in : (limit ≤ (most_noise - 1) - place.noise) × (limit ≤ length input - place.used)
      limit-in = (omega arith, omega arith)

      pub pass-along : Along place input (record { start = place.used + passed; held = place.used + passed; noise = place.noise + passed; used = place.used + passed })
      pass-along =
          let p = drop place.used input in
          let seg = take limit p in
          let i = limit-in in
          let w : place.used + limit - place.used ≡ limit = omega arith in
          let n : length seg ≡ limit = length-take-le limit p (omega (arith, length-drop place.used input, i.1)) in
          let k : passed ≡ position_or_len (λ byte. byte == 0x73) seg = q ∙ ap (λ m. position_or_len (λ byte. byte == 0x73) (take m p)) w in
          let b : passed ≤ limit = omega (arith, k, n, prefix_len-le-length (λ byte. not (byte == 0x73)) seg) in
          let f = feed-quiet seg (drop limit p) place.noise (rw n (fits-noise place.noise limit i.0 s.noise-less)) in
          let f' : feed p [] place.noise ≡ plus passed (feed (drop passed p) [] (place.noise + passed)) = rw (take-append-drop limit p, ← k) at f in
          record {
            seen =
                record {
                  start-in = le_refl (place.used + passed);
                  held-used = refl;
                  held-most = rw sub_self (omega arith);
                  noise-less = fits-noise place.noise passed (le_trans b i.0) s.noise-less;
                  used-in = omega (arith, b, i.1, s.used-in);
                };
            on =
                fed-at input [] input _ (slice_empty (place.used + passed) input)
                ∙ ap (λ x. plus (place.used + passed) (feed x [] (place.noise + passed))) (sym (drop-drop passed place.used input))
                ∙ sym (plus-plus place.used passed (feed (drop passed p) [] (place.noise + passed))) ∙ ap (plus place.used) (sym f') ∙ sym (fed-at input [] input place none-live);
            no-further = passed_on (place.used + passed) place.used passed (length input) (place.held - place.start) place.held refl (omega (arith, b, i.1, s.used-in)) s.held-used;
          }
