-- One turn of a loop, whatever it reads: F says what comes of the live bytes and the noise before them, and o is what all comes to. A turn says that, or
-- goes on behind a byte of noise.
use mathlib.Core.Path.{◌≡◌, refl, sym, ap, ◌∙◌}
use mathlib.Core.List.{List}
use Prim.Native.Nat.{ℕ, zero, suc, ◌+◌, ◌-◌, ◌<◌}
use native.Mathlib.Nat.{add-zero}
use native.Mathlib.Omega.{arith}
use lib.ListN.{length, drop, length-drop}
use borrow.Author.Tests.{lt-ltb}
use Rattle.sizes.specs.Sizes.{most_noise}
use Rattle.frame.specs.declared.Frame.{Frame}
use Rattle.stream.specs.declared.Said.{Said}
use Rattle.stream.specs.declared.Answer.{Answer}
use Rattle.stream.specs.declared.Place.{Place}
use Rattle.stream.specs.Scan.{Event, noise}
use Rattle.stream.specs.Tray.{accept, Outcome, told, hungry, feed_end, said_of, laid}
use Rattle.stream.specs.Walk.{plus, Answered, noised, settled, shown_answer}

-- something is told, and these bytes stay
told-so : (bytes₀ now live : List ℕ) → now ≡ laid bytes₀ live → (place : Place) → length live ≡ place.held - place.start
    → (o : Outcome) (e : Event) (shown count : ℕ) → o ≡ told e (record { held = live; shown = shown; noise = count }) place.used
    → (r : Answer) → r ≡ settled place (said_of e) shown count → Answered o bytes₀ r now
told-so bytes₀ now live s place l o e shown count q r a = record { says = a ∙ rw (q, l); leaves = rw q s }

module _ (F : List ℕ → ℕ → Outcome) (live : List ℕ) (place : Place) (l : length live ≡ place.held - place.start)
    (o : Outcome) (on : plus place.used (F live place.noise) ≡ o) where
  comes : (x : Outcome) → F live place.noise ≡ x → o ≡ plus place.used x
  comes x q = sym on ∙ ap (plus place.used) q

  module _ (bytes₀ now : List ℕ) (s : now ≡ laid bytes₀ live) (r : Answer) where
    pub tells : (e : Event) (shown count : ℕ) → F live place.noise ≡ told e (record { held = live; shown = shown; noise = count }) 0
        → r ≡ settled place (said_of e) shown count → Answered o bytes₀ r now
    tells e shown count q a =
        told-so bytes₀ now live s place l o e shown count (comes (told e (record { held = live; shown = shown; noise = count }) 0) q ∙ rw (add-zero place.used)) r a

    -- a frame lies first: noise before it is told first
    pub shows : (f : Frame) → F live place.noise ≡ feed_end (accept f live place.noise) → r ≡ shown_answer place f → Answered o bytes₀ r now
    shows f q a = go place.noise refl
      where
        w : o ≡ plus place.used (feed_end (accept f live place.noise))
        w = comes (feed_end (accept f live place.noise)) q

        go : (k : ℕ) → place.noise ≡ k → Answered o bytes₀ r now
        go zero n = record { says = a ∙ rw (w, n, add-zero place.used, l); leaves = rw (w, n) s }
        go (suc k) n = record { says = a ∙ rw (w, n, add-zero place.used, lt-ltb 0 (suc k) (omega arith), l); leaves = rw (w, n) s }

    -- SHORT, and all input is used
    pub starves : F live place.noise ≡ hungry (record { held = live; shown = 0; noise = place.noise }) 0 → r ≡ settled place Said.Hungry 0 place.noise
        → Answered o bytes₀ r now
    starves q a =
        let w : o ≡ hungry (record { held = live; shown = 0; noise = place.noise }) place.used
        = comes (hungry (record { held = live; shown = 0; noise = place.noise }) 0) q ∙ rw (add-zero place.used) in
        record { says = a ∙ rw (w, l); leaves = rw w s }

  -- the first live byte is noise
  module _ (place' : Place) (p : place' ≡ noised place) (live' : List ℕ) (d : drop 1 live ≡ live') where
    pub goes_on : (place.noise + 1 < most_noise → F live place.noise ≡ F (drop 1 live) (place.noise + 1)) → place.noise < most_noise
        → (place'.noise ≡ most_noise → ⊥) → plus place'.used (F live' place'.noise) ≡ o
    goes_on q h n =
        let less : place.noise + 1 < most_noise = omega (arith, ap (λ x. x.noise) p) in
        rw (p, ← d) (ap (plus place.used) (sym (q less)) ∙ on)

    pub fills : (place.noise + 1 ≡ most_noise → F live place.noise ≡ told (noise most_noise) (record { held = drop 1 live; shown = 0; noise = 0 }) 0)
        → place'.noise ≡ most_noise → (bytes₀ now : List ℕ) (r : Answer) → r ≡ settled place' (Said.Noise most_noise) 0 0 → now ≡ laid bytes₀ live'
        → Answered o bytes₀ r now
    fills q n bytes₀ now r a s =
        let k : place.noise + 1 ≡ most_noise = sym (ap (λ x. x.noise) p) ∙ n in
        let w : o ≡ told (noise most_noise) (record { held = drop 1 live; shown = 0; noise = 0 }) place.used
        = comes (told (noise most_noise) (record { held = drop 1 live; shown = 0; noise = 0 }) 0) (q k) ∙ rw (add-zero place.used) in
        let m : length (drop 1 live) ≡ place.held - (place.start + 1) = length-drop 1 live ∙ omega arith in
        told-so bytes₀ now (drop 1 live) (rw d s) (noised place) m o (noise most_noise) 0 0 w r (a ∙ ap (λ x. settled x (Said.Noise most_noise) 0 0) p)
