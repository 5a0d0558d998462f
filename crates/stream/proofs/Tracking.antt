-- The loop of `feed_input`, in plain values: the live bytes lie in the input, and its turns are those of Loop.antt.
use mathlib.Core.Path.{◌≡◌, ap, sym, ◌∙◌}
use mathlib.Core.List.{List, [], ◌∷◌, ◌++◌}
use Prim.Native.Nat.{ℕ, ◌+◌, ◌-◌, ◌≤◌, ◌<◌}
use native.Mathlib.Nat.{lt_of_lt_of_le, lt_of_le_of_lt}
use native.Mathlib.Omega.{arith}
use lib.ListN.{length, take, drop}
use lib.Seq.{length-slice}
use Rattle.sizes.specs.Sizes.{longest_frame, most_noise}
use Rattle.answer.specs.declared.Refusal.{Refusal}
use Rattle.frame.specs.declared.Frame.{Frame}
use Rattle.frame.specs.declared.Checked.{Checked}
use Rattle.frame.specs.declared.Checked.TheVariants.{Accepted, Short, Refused}
use Rattle.frame.specs.Check.{checked}
use Rattle.stream.specs.declared.Said.{Said}
use Rattle.stream.specs.declared.Answer.{Answer}
use Rattle.stream.specs.declared.Place.{Place}
use Rattle.stream.specs.Tray.{laid}
use Rattle.stream.specs.Check.{none-short}
use Rattle.stream.specs.Walk.{fed_from, to_go, Answered, live_at, Seen, Along, reached, Empty, noised, settled, shown_answer}
use Rattle.stream.proofs.Parts.{part-is}
use Rattle.stream.proofs.Places.{noised-nearer}
use Rattle.stream.proofs.Turns.{copied-laid}
use Rattle.stream.proofs.Along.{length_seen, along-short, short-nearer}
use Rattle.stream.proofs.Loop.{verdict, fed-shows, fed-starves, fed-goes-on, fed-fills}

-- ---- the live bytes of the input, copied into an empty tray

abbrev part : List ℕ → ℕ → ℕ → List ℕ
part input start held = take (held - start) (drop start input)

module _ (bytes input : List ℕ) (start held : ℕ) (empty : Empty bytes) (inside : held ≤ length input) (fits : held - start ≤ longest_frame) where
  part_length : length (part input start held) ≡ held - start
  part_length = ap length (part-is input start held) ∙ length-slice start held input inside

  landed : (copied : List ℕ) → copied ≡ part input start held → copied ++ drop (held - start) bytes ≡ laid bytes (drop start (take held input))
  landed copied e =
      let n : held - start ≡ 0 + length (part input start held) = omega (arith, part_length) in
      ap (λ l. l ++ drop (held - start) bytes) e ∙ ap (λ m. part input start held ++ drop m bytes) n
      ∙ copied-laid bytes 0 (omega arith) empty.room empty.padded (part input start held) (omega (arith, part_length)) ∙ ap (laid bytes) (part-is input start held)

-- ---- the invariant: the tray is empty still, and what the call comes to from here is what it came to where the loop began

pub record Track (bytes₀ : List ℕ) (place₀ : Place) (input bytes : List ℕ) (place : Place) : Type 0 where
  pub seen : Seen place input
  pub empty : Empty bytes
  pub same : bytes ≡ bytes₀
  pub same_length : length bytes ≡ length bytes₀
  pub on : fed_from input input place ≡ fed_from input input place₀

-- a step along the input
pub track-along : (bytes₀ : List ℕ) (place₀ : Place) (input bytes : List ℕ) (place : Place) → Track bytes₀ place₀ input bytes place → (p : Place) → Along place input p → Track bytes₀ place₀ input bytes p
track-along bytes₀ place₀ input bytes place t p a = record { seen = a.seen; empty = t.empty; same = t.same; same_length = t.same_length; on = a.on ∙ t.on }

module _ (bytes₀ : List ℕ) (place₀ : Place) (input bytes : List ℕ) (place : Place) (t : Track bytes₀ place₀ input bytes place) (p : Place) (a : Along place input p)
    (v : Checked) (q : v ≡ checked (part input p.start p.held)) where
  live-length : length (live_at p input) ≡ p.held - p.start
  live-length = length_seen p input a.seen

  inside : p.held ≤ length input
  inside = omega (arith, a.seen)

  on : fed_from input input p ≡ fed_from input input place₀
  on = a.on ∙ t.on

  is : checked (live_at p input) ≡ v
  is = verdict input input p live-length (fed_from input input place₀) on v q

  front : (start : ℕ) → p.held - start ≤ longest_frame → (copied : List ℕ) → copied ≡ part input start p.held → copied ++ drop (p.held - start) bytes ≡ laid bytes₀ (drop start (take p.held input))
  front start f copied e = landed bytes input start p.held t.empty inside f copied e ∙ ap (λ b. laid b (drop start (take p.held input))) t.same

  module _ (r : Answer) (copied : List ℕ) (s : copied ≡ part input p.start p.held) where
    here : copied ++ drop (p.held - p.start) bytes ≡ laid bytes₀ (live_at p input)
    here = front p.start a.seen.held-most copied s

    pub seen-said : (f : Frame) → v ≡ Accepted f → r ≡ shown_answer p f → Answered (fed_from input input place₀) bytes₀ r (copied ++ drop (p.held - p.start) bytes)
    seen-said f e w = fed-shows input input p live-length (fed_from input input place₀) on v q bytes₀ _ r f e w here

    pub spent-said : (wanted : ℕ) → v ≡ Short wanted → p.held ≡ length input → r ≡ settled p Said.Hungry 0 p.noise → Answered (fed_from input input place₀) bytes₀ r (copied ++ drop (p.held - p.start) bytes)
    spent-said wanted e n w = fed-starves input input p live-length (fed_from input input place₀) on v q bytes₀ _ r wanted e (sym a.seen.held-used ∙ n) w here

  -- ---- SHORT, and there is more

  module _ (wanted : ℕ) (e : v ≡ Short wanted) (r : Place) (s : r ≡ reached p input wanted) where
    pub track-short : Track bytes₀ place₀ input bytes r
    track-short =
        let b = along-short p input a.seen wanted (is ∙ e) r s in
        record { seen = b.seen; empty = t.empty; same = t.same; same_length = t.same_length; on = b.on ∙ on }

    pub less-short : (p.held ≡ length input → ⊥) → to_go r input < to_go place input
    less-short n = lt_of_lt_of_le (short-nearer p input a.seen wanted (is ∙ e) r s n) a.no-further

  -- ---- PREAMBLE to MESSAGE_CRC

  module _ (x : Refusal) (e : v ≡ Refused x) where
    pub some-live : p.start < p.held
    some-live = go (live_at p input) (is ∙ e) live-length
      where
        go : (l : List ℕ) → checked l ≡ Refused x → length l ≡ p.held - p.start → p.start < p.held
        go [] w k = let z : ◌≡◌ {A = ℕ} 0 1 = cc none-short in absurd (omega arith)
        go (y ∷ ys) w k = omega arith

    module _ (p' : Place) (s : p' ≡ noised p) where
      next-most : p.held - p'.start ≤ longest_frame
      next-most = rw s (omega (arith, a.seen.held-most))

      pub less-next : to_go p' input < to_go place input
      less-next = lt_of_lt_of_le (noised-nearer p p' s input some-live) a.no-further

      pub track-next : (p'.noise ≡ most_noise → ⊥) → Track bytes₀ place₀ input bytes p'
      track-next n =
          let h = some-live in
          let w = a.seen in
          record {
            seen = rw s (record { start-in = omega arith; held-used = w.held-used; held-most = omega (arith, w); noise-less = omega (arith, w, ap (λ z. z.noise) s); used-in = w.used-in });
            empty = t.empty;
            same = t.same;
            same_length = t.same_length;
            on = fed-goes-on input input p live-length (fed_from input input place₀) on v q x e p' s w.noise-less n;
          }

      -- and from there along the input
      pub seen_next : (p'.noise ≡ most_noise → ⊥) → Seen p' input
      seen_next n = (track-next n).seen

      pub track-skip : (p'.noise ≡ most_noise → ⊥) → (r : Place) → Along p' input r → Track bytes₀ place₀ input bytes r
      track-skip n r b = track-along bytes₀ place₀ input bytes p' (track-next n) r b

      pub less-skip : (r : Place) → Along p' input r → to_go r input < to_go place input
      less-skip r b = lt_of_le_of_lt b.no-further less-next

      pub most-said : p'.noise ≡ most_noise → (r : Answer) (copied : List ℕ) → r ≡ settled p' (Said.Noise most_noise) 0 0 → copied ≡ part input p'.start p.held
          → Answered (fed_from input input place₀) bytes₀ r (copied ++ drop (p.held - p'.start) bytes)
      most-said n r copied w c =
          fed-fills input input p live-length (fed_from input input place₀) on v q x e p' s n bytes₀ _ r w (front p'.start next-most copied c)
