-- Finish, in plain values: the laws of `close`, a turn of its loop, and its end. The turn and the invariant are those of every loop (Returns.antt, Loop.antt).
use mathlib.Core.Path.{◌≡◌, refl, sym, ap, ◌∙◌}
use mathlib.Core.List.{List, [], ◌∷◌}
use Prim.Native.Nat.{ℕ, zero, suc, ◌+◌, ◌-◌, ◌≤◌, ◌<◌}
use native.Mathlib.Omega.{arith}
use lib.ListN.{length, take, drop, drop_of_length-le}
use lib.Seq.{length-take-le}
use Rattle.sizes.specs.Sizes.{most_noise}
use Rattle.frame.specs.declared.Frame.{Frame}
use Rattle.frame.specs.declared.Checked.{Checked}
use Rattle.frame.specs.declared.Checked.TheVariants.{Accepted, Short, Refused}
use Rattle.frame.specs.Check.{checked}
use Rattle.stream.specs.declared.Said.{Said}
use Rattle.stream.specs.declared.Answer.{Answer}
use Rattle.stream.specs.declared.Place.{Place}
use Rattle.stream.specs.Scan.{noise, one_more_of}
use Rattle.stream.specs.Tray.{accept, next, Outcome, told, done, feed_end, close, close_end, laid}
use Rattle.stream.specs.Check.{none-short}
use Rattle.stream.specs.Walk.{shifted, Standing, plus, closed_from, Onward, Answered, live_at, noised, settled, shown_answer}
use Rattle.stream.proofs.Parts.{part-is}
use Rattle.stream.proofs.Feeding.{more-some, more-full}
use Rattle.stream.proofs.Places.{noised-old, noised-nearer}
use Rattle.stream.proofs.Turns.{length-live, back, behind-noise}
use Rattle.stream.proofs.Returns.{tells, shows, goes_on, fills}

-- what comes of the live bytes and the noise before them
abbrev finishing : List ℕ → ℕ → Outcome
finishing live count = close_end (close live count)

-- what the code knows past `if let Checked::Accepted(frame)`
abbrev pub Other : Checked → Type 0
Other v = (f : Frame) → v ≡ Accepted f → ⊥

-- ---- the laws of `close`

close-accept : (s : List ℕ) (f : Frame) (k : ℕ) → checked s ≡ Accepted f → finishing s k ≡ feed_end (accept f s k)
unfolding close
close-accept [] f k e = let z : ◌≡◌ {A = ℕ} 0 1 = cc none-short in absurd (omega arith)
close-accept (x ∷ xs) f zero e = rw (e, close)
close-accept (x ∷ xs) f (suc k) e = rw (e, close)

close_other : (s : List ℕ) (v : Checked) (k : ℕ) → checked s ≡ v → Other v → 0 < length s → close s k ≡ next (one_more_of k) (drop 1 s) (λ j. close (drop 1 s) j)
unfolding close
close_other [] v k e o l = absurd (omega arith)
close_other (x ∷ xs) (Accepted f) k e o l = absurd (o f refl)
close_other (x ∷ xs) (Short n) k e o l = rw (e, close)
close_other (x ∷ xs) (Refused r) k e o l = rw (e, close)

close-noise : (s : List ℕ) (v : Checked) (k : ℕ) → checked s ≡ v → Other v → 0 < length s → k + 1 < most_noise → finishing s k ≡ finishing (drop 1 s) (k + 1)
close-noise s v k e o l h = rw (close_other s v k e o l, more-some k h)

close-full : (s : List ℕ) (v : Checked) (k : ℕ) → checked s ≡ v → Other v → 0 < length s → k + 1 ≡ most_noise
    → finishing s k ≡ told (noise most_noise) (record { held = drop 1 s; shown = 0; noise = 0 }) 0
close-full s v k e o l h = rw (close_other s v k e o l, more-full k h)

close-left : (k : ℕ) → 0 < k → finishing [] k ≡ told (noise k) (record { held = []; shown = 0; noise = 0 }) 0
unfolding close
close-left zero l = absurd (omega arith)
close-left (suc k) l = refl

module _ (bytes : List ℕ) (place : Place) (st : Standing place bytes []) where
  live-length : length (live_at place bytes) ≡ place.held - place.start
  live-length = length-live place bytes [] st

  comes : plus place.used (finishing (live_at place bytes) place.noise) ≡ closed_from bytes place
  unfolding closed_from
  comes = refl

  front : (start : ℕ) → start ≤ place.held → (now : List ℕ) → now ≡ shifted bytes place.held start → now ≡ laid bytes (drop start (take place.held bytes))
  front = back bytes bytes [] place st refl

  -- ---- no byte is left

  module _ (h : place.held ≤ place.start) (r : Answer) (now : List ℕ) (s : now ≡ shifted bytes place.held place.start) where
    none_left : live_at place bytes ≡ []
    none_left =
        drop_of_length-le (take place.held bytes) {i = place.start}
        (omega (arith, length-take-le place.held bytes (omega (arith, st.within))))

    pub last-said : 0 < place.noise → r ≡ settled place (Said.Noise place.noise) 0 0 → Answered (closed_from bytes place) bytes r now
    last-said l a =
        tells finishing (live_at place bytes) place live-length (closed_from bytes place) comes bytes now (front place.start st.within.start-in now s) r
        (noise place.noise) 0 0 (rw none_left (close-left place.noise l)) a

    all_done : place.noise ≤ 0 → closed_from bytes place ≡ done (record { held = []; shown = 0; noise = 0 })
    unfolding closed_from close
    all_done l = let n : place.noise ≡ 0 = omega arith in rw (none_left, n)

    pub done-said : place.noise ≤ 0 → r ≡ settled place Said.Done 0 0 → Answered (closed_from bytes place) bytes r now
    done-said l a =
        let u : place.used ≡ 0 = omega (arith, st.within) in
        let d : place.held - place.start ≡ 0 = omega arith in
        record { says = a ∙ rw (all_done l, u, d); leaves = rw (all_done l, ← none_left) (front place.start st.within.start-in now s) }

  -- ---- a turn

  module _ (v : Checked) (q : v ≡ checked (take (place.held - place.start) (drop place.start bytes))) where
    verdict : checked (live_at place bytes) ≡ v
    verdict = sym (q ∙ ap checked (part-is bytes place.start place.held))

    pub frame-said : (f : Frame) → v ≡ Accepted f → (r : Answer) (now : List ℕ) → r ≡ shown_answer place f → now ≡ shifted bytes place.held place.start
        → Answered (closed_from bytes place) bytes r now
    frame-said f e r now a s =
        shows finishing (live_at place bytes) place live-length (closed_from bytes place) comes bytes now (front place.start st.within.start-in now s) r f
        (close-accept (live_at place bytes) f place.noise (verdict ∙ e)) a

    -- anything else: the first byte is noise
    module _ (o : Other v) (h : place.start < place.held) (place' : Place) (p : place' ≡ noised place) where
      some-live : 0 < length (live_at place bytes)
      some-live = omega (arith, live-length)

      pub noise-on : (place'.noise ≡ most_noise → ⊥) → Onward closed_from place bytes [] place' bytes
      unfolding closed_from
      noise-on n =
          let w = st.within in
          record {
            standing = rw p (record { within = record { start-in = omega arith; held-most = w.held-most; room = w.room; noise-less = omega (arith, w, ap (λ z. z.noise) p); used-in = w.used-in }; padded = st.padded });
            beyond = refl;
            on = rw p
                (goes_on finishing (live_at place bytes) place live-length (closed_from bytes place) comes (noised place) refl (live_at (noised place) bytes)
                (behind-noise bytes place (noised place) refl) (close-noise (live_at place bytes) v place.noise verdict o some-live) w.noise-less
                (λ k. n (ap (λ z. z.noise) p ∙ k)));
            nearer = noised-nearer place place' p [] h;
          }

      pub full-told : place'.noise ≡ most_noise → (r : Answer) (now : List ℕ) → r ≡ settled place' (Said.Noise most_noise) 0 0
          → now ≡ shifted bytes place.held place'.start → Answered (closed_from bytes place) bytes r now
      full-told n r now a s =
          fills finishing (live_at place bytes) place live-length (closed_from bytes place) comes place' p (drop place'.start (take place.held bytes))
          (behind-noise bytes place place' p) (close-full (live_at place bytes) v place.noise verdict o some-live) n bytes now r a
          (front place'.start (noised-old place place' p h) now s)
