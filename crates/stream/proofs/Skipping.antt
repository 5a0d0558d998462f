-- Noise behind noise, told by its first byte or by four, in plain values: what the call comes to stays the same.
use mathlib.Core.Path.{◌≡◌, refl, sym, ap, ap₂, ◌∙◌, subst}
use mathlib.Core.List.{List}
use mathlib.Core.Bool.{Bool, true, false, cond}
use Prim.Native.Nat.{ℕ, suc, ◌+◌, ◌-◌, ◌%◌, ◌≤◌, ◌<◌, min}
use native.Mathlib.Nat.{le-min}
use native.Mathlib.Omega.{arith}
use lib.ListN.{length, get_or, take, drop, length-take, length-drop}
use lib.Seq.{drop-cons, get_or-take, get_or-drop, take_all}
use lib.Dec.{ltb}
use borrow.Author.Tests.{ltb-true}
use mir.Syntax.{w8}
use mir.Val.{Fits}
use Rattle.sizes.specs.Sizes.{most_noise}
use Rattle.answer.specs.declared.Refusal.{Refusal}
use Rattle.answer.specs.declared.Refusal.TheVariants.{Preamble, FrameCrc}
use Rattle.bits.specs.Laws.{bytes_take, bytes_drop}
use Rattle.checks.specs.Crc.{frame_crc}
use Rattle.frame.specs.Fields.{preamble}
use Rattle.frame.specs.declared.Checked.TheVariants.{Refused}
use Rattle.frame.specs.Check.{checked}
use Rattle.stream.specs.declared.Place.{Place}
use Rattle.stream.specs.Check.{no-preamble, bad-start}
use Rattle.stream.specs.Walk.{fed_from, live_at, Seen, Along, Told, plain, wrong, reached, noised}
use Rattle.stream.proofs.Parts.{part-is}
use Rattle.stream.proofs.Places.{noised-nearer}
use Rattle.stream.proofs.Along.{length_seen, along-two, widen-one, widen-four}
use Rattle.stream.proofs.Loop.{fed-goes-on}

module _ (place : Place) (input : List ℕ) where
  reached-start : (n : ℕ) → (reached place input n).start ≡ place.start
  reached-start n = go (ltb (place.start + min n (length input - place.start)) place.held)
    where
      go : (b : Bool) → (cond b place (record { start = place.start; held = place.start + min n (length input - place.start); noise = place.noise; used = place.start + min n (length input - place.start) })).start ≡ place.start
      go true = refl
      go false = refl

  reached-noise : (n : ℕ) → (reached place input n).noise ≡ place.noise
  reached-noise n = go (ltb (place.start + min n (length input - place.start)) place.held)
    where
      go : (b : Bool) → (cond b place (record { start = place.start; held = place.start + min n (length input - place.start); noise = place.noise; used = place.start + min n (length input - place.start) })).noise ≡ place.noise
      go true = refl
      go false = refl

  reached-held : (n : ℕ) → n ≤ length input - place.start → place.start + n ≤ (reached place input n).held
  reached-held n h = go (ltb (place.start + min n (length input - place.start)) place.held) refl
    where
      there : n ≤ min n (length input - place.start)
      there = le-min (omega arith) h

      go : (b : Bool) → ltb (place.start + min n (length input - place.start)) place.held ≡ b
          → place.start + n ≤ (cond b place (record { start = place.start; held = place.start + min n (length input - place.start); noise = place.noise; used = place.start + min n (length input - place.start) })).held
      go true e = omega (arith, ltb-true (place.start + min n (length input - place.start)) place.held e, there)
      go false e = omega (arith, there)

-- the live bytes at a place, from its first on
module _ (input : List ℕ) (q : Place) (s : Seen q input) where
  first_live : q.start < q.held → (get_or input q.start 0 ≡ preamble → ⊥) → checked (live_at q input) ≡ Refused Preamble
  first_live h w =
      let k : q.held - q.start ≡ suc (q.held - q.start - 1) = omega arith in
      ap checked (sym (part-is input q.start q.held) ∙ ap₂ take k (drop-cons input q.start 0 (omega (arith, s))))
      ∙ no-preamble (get_or input q.start 0) (take (q.held - q.start - 1) (drop (suc q.start) input)) w

  live-byte : (i : ℕ) → q.start + i < q.held → get_or (live_at q input) i 0 ≡ get_or input (q.start + i) 0
  live-byte i h = get_or-drop q.start (take q.held input) i 0 ∙ get_or-take q.held input (q.start + i) 0 h

  first-four : ((i : ℕ) → Fits w8 (get_or input i 0)) → q.start + 4 ≤ q.held → get_or input q.start 0 ≡ preamble
      → (frame_crc (get_or input (q.start + 1) 0) (get_or input (q.start + 2) 0) (get_or input (q.start + 3) 0) ≡ get_or input (q.start + 3) 0 % 16 → ⊥)
      → checked (live_at q input) ≡ Refused FrameCrc
  first-four bytes h e w =
      let l = live_at q input in
      let z : q.start + 0 ≡ q.start = omega arith in
      let b0 : get_or l 0 0 ≡ get_or input q.start 0 = live-byte 0 (omega arith) ∙ ap (λ i. get_or input i 0) z in
      let b1 = live-byte 1 (omega arith) in
      let b2 = live-byte 2 (omega arith) in
      let b3 = live-byte 3 (omega arith) in
      bad-start l (bytes_drop q.start (bytes_take q.held (record { byte = λ i. (bytes i).fits }))) (omega (arith, length_seen q input s)) (b0 ∙ e)
      (λ v.
      w (ap (λ x. frame_crc x (get_or input (q.start + 2) 0) (get_or input (q.start + 3) 0)) (sym b1) ∙ ap (λ x. frame_crc (get_or l 1 0) x (get_or input (q.start + 3) 0)) (sym b2)
      ∙ ap (λ x. frame_crc (get_or l 1 0) (get_or l 2 0) x) (sym b3) ∙ v ∙ ap (λ x. x % 16) b3))

-- the input is used as far as tells it, and the first live byte is noise
record Quiet (place : Place) (input : List ℕ) (q : Place) : Type 0 where
  along : Along place input q
  live : q.start < q.held
  few : q.noise + 1 < most_noise
  why : Refusal
  refused : checked (live_at q input) ≡ Refused why

module _ (place : Place) (input : List ℕ) (s : Seen place input) (bytes : (i : ℕ) → Fits w8 (get_or input i 0)) where
  quiet : (n : ℕ) → Told place input n → (q : Place) → q ≡ reached place input n → Quiet place input q
  quiet n (plain l m w) q e =
      let a = widen-one place input s (omega arith) q e in
      let b : q.start ≡ place.start = ap (λ z. z.start) e ∙ reached-start place input 1 in
      let c : q.noise ≡ place.noise = ap (λ z. z.noise) e ∙ reached-noise place input 1 in
      let d : place.start + 1 ≤ q.held = subst (λ z. place.start + 1 ≤ z.held) (sym e) (reached-held place input 1 (omega arith)) in
      record {
        along = a;
        live = omega arith;
        few = omega arith;
        why = Preamble;
        refused = first_live input q a.seen (omega arith) (λ z. w (ap (λ i. get_or input i 0) (sym b) ∙ z));
      }
  quiet n (wrong l m p w) q e =
      let a = widen-four place input s (omega arith) q p e in
      let b : q.start ≡ place.start = ap (λ z. z.start) e ∙ reached-start place input 4 in
      let c : q.noise ≡ place.noise = ap (λ z. z.noise) e ∙ reached-noise place input 4 in
      let d : place.start + 4 ≤ q.held = subst (λ z. place.start + 4 ≤ z.held) (sym e) (reached-held place input 4 (omega arith)) in
      record {
        along = a;
        live = omega arith;
        few = omega arith;
        why = FrameCrc;
        refused =
            first-four input q a.seen bytes (omega arith) (ap (λ i. get_or input i 0) b ∙ p)
            (subst (λ i. frame_crc (get_or input (i + 1) 0) (get_or input (i + 2) 0) (get_or input (i + 3) 0) ≡ get_or input (i + 3) 0 % 16 → ⊥) (sym b) w);
      }

-- ---- the loop

module _ (place₀ : Place) (input : List ℕ) (place : Place) (a : Along place₀ input place) (bytes : (i : ℕ) → Fits w8 (get_or input i 0)) (n : ℕ) (t : Told place input n)
    (q : Place) (e : q ≡ reached place input n) where
  so : Quiet place input q
  so = quiet place input a.seen bytes n t q e

  module _ (p : Place) (r : p ≡ noised q) where
    pub skip-on : Along place₀ input p
    skip-on =
        let w = so.along.seen in
        let f = so.few in
        let l = so.live in
        along-two place₀ input place p a
        (along-two place input q p so.along
        (record {
          seen = rw r (record { start-in = omega arith; held-used = w.held-used; held-most = omega (arith, w); noise-less = omega arith; used-in = w.used-in });
          on =
              fed-goes-on input input q (length_seen q input w) (fed_from input input q) refl (checked (take (q.held - q.start) (drop q.start input))) refl so.why
              (ap checked (part-is input q.start q.held) ∙ so.refused) p r w.noise-less (λ z. omega (arith, f, ap (λ x. x.noise) r));
          no-further = omega (arith, noised-nearer q p r input l);
        }))

-- ---- the tests, of the bytes from the first live one on

abbrev rest : Place → List ℕ → List ℕ
rest place input = take (length input - place.start) (drop place.start input)

module _ (place : Place) (input : List ℕ) (s : Seen place input) (l : 4 ≤ length (rest place input)) (m : place.noise ≡ most_noise - 1 → ⊥) where
  left : 4 ≤ length input - place.start
  left = omega (arith, length-take (length input - place.start) (drop place.start input))

  byte : (i : ℕ) → get_or (rest place input) i 0 ≡ get_or input (place.start + i) 0
  byte i = ap (λ bytes. get_or bytes i 0) (take_all _ _ (omega (arith, length-drop place.start input))) ∙ get_or-drop place.start input i 0

  first : get_or (rest place input) 0 0 ≡ get_or input place.start 0
  first = let z : place.start + 0 ≡ place.start = omega arith in byte 0 ∙ ap (λ i. get_or input i 0) z

  pub tells-plain : (get_or (rest place input) 0 0 ≡ preamble → ⊥) → Told place input 1
  tells-plain w = plain (omega (arith, left)) (omega (arith, s.noise-less)) (λ e. w (first ∙ e))

  pub tells-wrong : get_or (rest place input) 0 0 ≡ preamble → (v : ℕ) → v ≡ frame_crc (get_or (rest place input) 1 0) (get_or (rest place input) 2 0) (get_or (rest place input) 3 0)
      → (v ≡ get_or (rest place input) 3 0 % 16 → ⊥) → Told place input 4
  tells-wrong p v e w = wrong (omega (arith, left)) (omega (arith, s.noise-less)) (sym first ∙ p) (λ z. w (e ∙ rw (byte 1, byte 2, byte 3) z))
