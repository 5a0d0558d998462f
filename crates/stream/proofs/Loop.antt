-- The loop of `feed`, in plain values; a turn of it is one of `feed_input` too, wherever the live bytes lie, and its invariant is that of `close`.
use mathlib.Core.Path.{◌≡◌, refl, sym, ap, ◌∙◌}
use mathlib.Core.List.{List, []}
use Prim.Native.Nat.{ℕ, ◌+◌, ◌-◌, ◌≤◌, ◌<◌}
use native.Mathlib.Nat.{le_refl}
use native.Mathlib.Omega.{arith}
use lib.ListN.{length, take, drop}
use lib.Seq.{slice_empty, drop-drop}
use Rattle.sizes.specs.Sizes.{longest_frame, most_noise}
use Rattle.answer.specs.declared.Refusal.{Refusal}
use Rattle.frame.specs.declared.Frame.{Frame}
use Rattle.frame.specs.declared.Checked.{Checked}
use Rattle.frame.specs.declared.Checked.TheVariants.{Accepted, Short, Refused}
use Rattle.frame.specs.Check.{checked}
use Rattle.stream.specs.declared.Said.{Said}
use Rattle.stream.specs.declared.Answer.{Answer}
use Rattle.stream.specs.declared.Place.{Place}
use Rattle.stream.specs.Tray.{Outcome, feed, fresh_tray, answer_of, laid}
use Rattle.stream.specs.Sound.{laid_same, laid-again, length-laid, drop-laid}
use Rattle.stream.specs.Walk.{shifted, Standing, plus, fed_from, held_by, Answered, live_at, Wanting, Ends, Seen, Empty, noised, settled, shown_answer}
use Rattle.stream.proofs.Parts.{part-is}
use Rattle.stream.proofs.Feeding.{feed-accept, feed-starved, feed-noise, feed-full}
use Rattle.stream.proofs.Turns.{length-live, fed-at, back, behind-noise}
use Rattle.stream.proofs.Places.{noised-old}
use Rattle.stream.proofs.Returns.{shows, starves, goes_on, fills}

-- ---- a turn on live bytes that lie in a list

module _ (input lies : List ℕ) (place : Place) (l : length (live_at place lies) ≡ place.held - place.start) (o : Outcome) (on : fed_from input lies place ≡ o)
    (v : Checked) (q : v ≡ checked (take (place.held - place.start) (drop place.start lies))) where
  pub verdict : checked (live_at place lies) ≡ v
  verdict = sym (q ∙ ap checked (part-is lies place.start place.held))

  comes : plus place.used (feed (drop place.used input) (live_at place lies) place.noise) ≡ o
  unfolding fed_from
  comes = on

  module _ (bytes₀ now : List ℕ) (r : Answer) where
    pub fed-shows : (f : Frame) → v ≡ Accepted f → r ≡ shown_answer place f → now ≡ laid bytes₀ (live_at place lies) → Answered o bytes₀ r now
    fed-shows f e a s =
        shows (feed (drop place.used input)) (live_at place lies) place l o comes bytes₀ now s r f
        (feed-accept (drop place.used input) (live_at place lies) f place.noise (verdict ∙ e)) a

    pub fed-starves : (wanted : ℕ) → v ≡ Short wanted → place.used ≡ length input → r ≡ settled place Said.Hungry 0 place.noise
        → now ≡ laid bytes₀ (live_at place lies) → Answered o bytes₀ r now
    fed-starves wanted e n a s =
        starves (feed (drop place.used input)) (live_at place lies) place l o comes bytes₀ now s r
        (feed-starved input (live_at place lies) place.used wanted place.noise (verdict ∙ e) n) a

  module _ (x : Refusal) (e : v ≡ Refused x) (place' : Place) (p : place' ≡ noised place) where
    pub fed-goes-on : place.noise < most_noise → (place'.noise ≡ most_noise → ⊥) → fed_from input lies place' ≡ o
    unfolding fed_from
    fed-goes-on h n =
        rw p
        (goes_on (feed (drop place.used input)) (live_at place lies) place l o comes (noised place) refl (live_at (noised place) lies) (behind-noise lies place (noised place) refl)
        (feed-noise (drop place.used input) (live_at place lies) x place.noise (verdict ∙ e)) h (λ k. n (ap (λ z. z.noise) p ∙ k)))

    pub fed-fills : place'.noise ≡ most_noise → (bytes₀ now : List ℕ) (r : Answer) → r ≡ settled place' (Said.Noise most_noise) 0 0
        → now ≡ laid bytes₀ (drop place'.start (take place.held lies)) → Answered o bytes₀ r now
    fed-fills =
        fills (feed (drop place.used input)) (live_at place lies) place l o comes place' p (drop place'.start (take place.held lies)) (behind-noise lies place place' p)
        (feed-full (drop place.used input) (live_at place lies) x place.noise (verdict ∙ e))

-- ---- the invariant: what all comes to from here, which is G of tray and place, is what it came to where the loop began

pub record Far (G : List ℕ → Place → Outcome) (bytes₀ : List ℕ) (place₀ : Place) (input bytes : List ℕ) (place : Place) : Type 0 where
  pub standing : Standing place bytes input
  pub same : length bytes ≡ length bytes₀
  pub beyond : drop longest_frame bytes ≡ drop longest_frame bytes₀
  pub on : G bytes place ≡ G bytes₀ place₀

pub far-answered : (G : List ℕ → Place → Outcome) (bytes₀ : List ℕ) (place₀ : Place) (input bytes : List ℕ) (place : Place) → Far G bytes₀ place₀ input bytes place
    → (r : Answer) (now : List ℕ) → Answered (G bytes place) bytes r now → Answered (G bytes₀ place₀) bytes₀ r now
far-answered G bytes₀ place₀ input bytes place t r now c =
    record {
      says = c.says ∙ ap (answer_of fresh_tray) t.on;
      leaves = c.leaves ∙ laid_same bytes bytes₀ (held_by (G bytes place)) t.beyond ∙ ap (λ o. laid bytes₀ (held_by o)) t.on;
    }

-- ---- `feed`

module _ (bytes₀ : List ℕ) (place₀ : Place) (input bytes : List ℕ) (place : Place) (t : Far (fed_from input) bytes₀ place₀ input bytes place) where
  front : (start : ℕ) → start ≤ place.held → (now : List ℕ) → now ≡ shifted bytes place.held start → now ≡ laid bytes₀ (drop start (take place.held bytes))
  front = back bytes₀ bytes input place t.standing t.beyond

  live-length : length (live_at place bytes) ≡ place.held - place.start
  live-length = length-live place bytes input t.standing

  module _ (v : Checked) (q : v ≡ checked (take (place.held - place.start) (drop place.start bytes))) where
    module _ (r : Answer) (now : List ℕ) (s : now ≡ shifted bytes place.held place.start) where
      here : now ≡ laid bytes₀ (live_at place bytes)
      here = front place.start t.standing.within.start-in now s

      pub shown-said : (f : Frame) → v ≡ Accepted f → r ≡ shown_answer place f → Answered (fed_from input bytes₀ place₀) bytes₀ r now
      shown-said f e a = fed-shows input bytes place live-length (fed_from input bytes₀ place₀) t.on v q bytes₀ now r f e a here

      pub hungry-said : (wanted : ℕ) → v ≡ Short wanted → place.used ≡ length input → r ≡ settled place Said.Hungry 0 place.noise
          → Answered (fed_from input bytes₀ place₀) bytes₀ r now
      hungry-said wanted e n a = fed-starves input bytes place live-length (fed_from input bytes₀ place₀) t.on v q bytes₀ now r wanted e n a here

    module _ (x : Refusal) (e : v ≡ Refused x) (h : place.start < place.held) (place' : Place) (p : place' ≡ noised place) where
      pub far-noised : (place'.noise ≡ most_noise → ⊥) → Far (fed_from input) bytes₀ place₀ input bytes place'
      far-noised n =
          let w = t.standing.within in
          record {
            standing = rw p (record { within = record { start-in = omega arith; held-most = w.held-most; room = w.room; noise-less = omega (arith, w, ap (λ z. z.noise) p); used-in = w.used-in }; padded = t.standing.padded });
            same = t.same;
            beyond = t.beyond;
            on = fed-goes-on input bytes place live-length (fed_from input bytes₀ place₀) t.on v q x e place' p w.noise-less n;
          }

      pub full-said : place'.noise ≡ most_noise → (r : Answer) (now : List ℕ) → r ≡ settled place' (Said.Noise most_noise) 0 0 → now ≡ shifted bytes place.held place'.start
          → Answered (fed_from input bytes₀ place₀) bytes₀ r now
      full-said n r now a s =
          fed-fills input bytes place live-length (fed_from input bytes₀ place₀) t.on v q x e place' p n bytes₀ now r a
          (front place'.start (noised-old place place' p h) now s)

  -- ---- the live bytes came with this input

  module _ (g : Ends place bytes input) (h : place.held - place.start ≤ place.used) where
    abbrev outside : Place
    outside = record { start = place.used - (place.held - place.start); held = place.used; noise = place.noise; used = place.used }

    live_same : live_at outside input ≡ live_at place bytes
    live_same =
        let k : place.held - place.used + (place.used - (place.held - place.start)) ≡ place.start = omega (arith, g.used-held, t.standing.within) in
        ap (drop (place.used - (place.held - place.start))) (sym g.ends)
        ∙ drop-drop (place.used - (place.held - place.start)) (place.held - place.used) (take place.held bytes)
        ∙ ap (λ n. drop n (take place.held bytes)) k

    pub sees : Seen outside input
    sees =
        record {
          start-in = omega arith;
          held-used = refl;
          held-most = omega (arith, t.standing.within);
          noise-less = t.standing.within.noise-less;
          used-in = t.standing.within.used-in;
        }

    module _ (now : List ℕ) (s : now ≡ shifted bytes place.held place.held) where
      cleared : now ≡ laid bytes₀ []
      cleared = front place.held (le_refl place.held) now s ∙ ap (laid bytes₀) (slice_empty place.held bytes)

      pub is-empty : Empty now
      is-empty =
          rw cleared
          (record { room = omega (arith, length-laid bytes₀ [] (omega arith) (omega (arith, t.same, t.standing.within)), t.same, t.standing.within); padded = sym (laid-again bytes₀ [] (omega arith) []) })

      pub rest-said : (r : Answer) (last : List ℕ) → Answered (fed_from input input outside) now r last → Answered (fed_from input bytes₀ place₀) bytes₀ r last
      rest-said r last c =
          let e : fed_from input input outside ≡ fed_from input bytes₀ place₀
          = fed-at input (live_at place bytes) input outside live_same ∙ sym (fed-at bytes (live_at place bytes) input place refl) ∙ t.on in
          record {
            says = c.says ∙ ap (answer_of fresh_tray) e;
            leaves = c.leaves ∙ laid_same now bytes₀ _ (rw cleared (drop-laid bytes₀ [] (omega arith))) ∙ ap (λ o. laid bytes₀ (held_by o)) e;
          }

-- ---- the last bytes held are those of the input that were used

pub ends-noised : (place : Place) (bytes input : List ℕ) → Ends place bytes input → (place' : Place) → place' ≡ noised place → Ends place' bytes input
ends-noised place bytes input g place' p = rw p (record { used-held = g.used-held; ends = g.ends })

pub some-live : (held start used : ℕ) → used < held - start → start < held
some-live held start used h = omega arith

-- SHORT, and there is input left
pub is-wanting : (place : Place) (bytes input : List ℕ) (wanted : ℕ) (v : Checked) → v ≡ Short wanted → v ≡ checked (take (place.held - place.start) (drop place.start bytes))
    → (place.used ≡ length input → ⊥) → place.used < place.held - place.start → Standing place bytes input → Ends place bytes input → Wanting place bytes input wanted
is-wanting place bytes input wanted v e q n h st g =
    record {
      short = verdict input bytes place (length-live place bytes input st) (fed_from input bytes place) refl v q ∙ e;
      some_left = omega (arith, st.within);
      ending = g;
      older = h;
    }

-- ---- the invariant of `feed`

pub record Fed (bytes₀ : List ℕ) (place₀ : Place) (input bytes : List ℕ) (place : Place) : Type 0 where
  pub far : Far (fed_from input) bytes₀ place₀ input bytes place
  pub ending : Ends place bytes input

pub fed-noised : (bytes₀ : List ℕ) (place₀ : Place) (input bytes : List ℕ) (place : Place) → Fed bytes₀ place₀ input bytes place
    → (v : Checked) → v ≡ checked (take (place.held - place.start) (drop place.start bytes)) → (x : Refusal) → v ≡ Refused x → place.used < place.held - place.start
    → (place' : Place) → place' ≡ noised place → (place'.noise ≡ most_noise → ⊥) → Fed bytes₀ place₀ input bytes place'
fed-noised bytes₀ place₀ input bytes place t v q x e h place' p n =
    record { far = far-noised bytes₀ place₀ input bytes place t.far v q x e (omega arith) place' p n; ending = ends-noised place bytes input t.ending place' p }
