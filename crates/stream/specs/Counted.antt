-- Laws of `scan`: nothing is lost and nothing invented. Its events lie in the stream one behind the other, up to the stream's end. Proved; assumes nothing.
use Rattle.std.specs.Prelude.{◌≡◌, Bool, true, false, ltb, length, take}
use Rattle.std.proofs.Math.Path.{refl, sym, ap, subst}
use Rattle.std.proofs.Common.{ap₂, ◌∙◌, add_assoc, length-take-le, drop-drop, ltb-true, ltb-false}
use mathlib.Core.List.{List, [], ◌∷◌, ◌++◌}
use Prim.Native.Nat.{ℕ, zero, suc, pred, ◌+◌, ◌≤◌, ◌<◌}
use Rattle.std.proofs.Math.Nat.{add-zero}
use native.Mathlib.Omega.{arith}
use Rattle.std.proofs.Math.ListN.{drop}
use Rattle.sizes.specs.Sizes.{longest_frame, most_noise}
use Rattle.frame.specs.declared.Frame.{Frame}
use Rattle.frame.specs.declared.Checked.{Checked}
use Rattle.frame.specs.declared.Checked.TheVariants.{Accepted, Short, Refused}
use Rattle.frame.specs.Check.{checked}
use Rattle.frame.specs.Laws.{accepted-length}
use Rattle.stream.specs.Scan.{Event, frame, noise, full, some, pick_count, one_more_of, tell, pass, scan_by, scan_from, scan}
use Rattle.stream.specs.Account.{size_of_all, FrameAt, NoFrame, NoiseAt}

-- events that lie so one behind the other, up to the end of the stream
abbrev pub Lies : (stream : List ℕ) → (at : ℕ) → List Event → Type 0
Lies stream at [] = at ≡ length stream
Lies stream at (frame header bytes ∷ events) = FrameAt stream at header bytes × Lies stream (at + header.length) events
Lies stream at (noise count ∷ events) = NoiseAt stream at count × Lies stream (at + count) events

-- ---- along `scan`: `count` bytes of noise from `at` on are untold, and the bytes after them are those of the rest behind the frame last told

module _ (stream : List ℕ) where
  tells : (at count : ℕ) (events : List Event) → count ≤ most_noise → NoFrame stream at count → Lies stream (at + count) events → Lies stream at (tell count events)
  tells at zero events h u l = subst (λ n. Lies stream n events) (add-zero at) l
  tells at (suc n) events h u l = (record { least = omega arith; most = h; no-frame = u }, l)

  one_more : (at count : ℕ) → NoFrame stream at count → ((header : Frame) → checked (drop (at + count) stream) ≡ Accepted header → ⊥) → NoFrame stream at (suc count)
  one_more at count u v i h header e = go (ltb i count) refl
    where
      go : (b : Bool) → ltb i count ≡ b → ⊥
      go true q = u i (ltb-true i count q) header e
      go false q =
          let same : i ≡ count = omega (arith, ltb-false i count q) in
          v header (subst (λ n. checked (drop (at + n) stream) ≡ Accepted header) same e)

  abbrev Onward : List ℕ → Type 0
  Onward rest =
      (inside count at : ℕ) → drop (at + count) stream ≡ drop inside rest → inside ≤ length rest → count < most_noise
      → at + count + length rest ≡ length stream + inside → NoFrame stream at count → Lies stream at (scan_from rest inside count)

  none : (at : ℕ) → NoFrame stream at 0
  none at i h header e = omega arith

  a_byte : (x : ℕ) (xs : List ℕ) → Onward xs → (count at : ℕ) → drop (at + count) stream ≡ x ∷ xs → count < most_noise
      → at + count + suc (length xs) ≡ length stream → NoFrame stream at (suc count) → Lies stream at (pass (one_more_of count) (λ n. scan_from xs 0 n))
  unfolding one_more_of
  a_byte x xs on count at p r l u = go (ltb (suc count) most_noise) refl
    where
      next : drop (at + suc count) stream ≡ xs
      next =
          let e : at + suc count ≡ at + count + 1 = omega arith in
          ap (λ n. drop n stream) e ∙ sym (drop-drop 1 (at + count) stream) ∙ ap (drop 1) p

      go : (b : Bool) → ltb (suc count) most_noise ≡ b → Lies stream at (pass (pick_count b (some (suc count)) full) (λ n. scan_from xs 0 n))
      go true q = on 0 (suc count) at next (omega arith) (ltb-true (suc count) most_noise q) (omega arith) u
      go false q =
          let n : suc count ≡ most_noise = omega (arith, ltb-false (suc count) most_noise q) in
          let e : at + most_noise ≡ at + suc count = omega arith in (
            record { least = omega arith; most = omega arith; no-frame = subst (λ n. NoFrame stream at n) n u },
            on 0 0 (at + most_noise) (ap (λ n. drop n stream) (add-zero (at + most_noise) ∙ e) ∙ next) (omega arith) (omega arith) (omega arith) (none (at + most_noise)),
          )

  a-frame : (x : ℕ) (xs : List ℕ) → Onward xs → (count at : ℕ) → drop (at + count) stream ≡ x ∷ xs → count < most_noise
      → at + count + suc (length xs) ≡ length stream → NoFrame stream at count → (header : Frame) → checked (x ∷ xs) ≡ Accepted header
      → Lies stream at (tell count (frame header (take header.length (x ∷ xs)) ∷ scan_from xs (pred header.length) 0))
  a-frame x xs on count at p r l u header e = go header.length refl (accepted-length (x ∷ xs) header e)
    where
      go : (n : ℕ) → header.length ≡ n → (10 ≤ header.length) × (header.length ≤ suc (length xs)) × (header.length ≤ longest_frame)
          → Lies stream at (tell count (frame header (take header.length (x ∷ xs)) ∷ scan_from xs (pred header.length) 0))
      go zero z h = absurd (omega (arith, h.0))
      go (suc n) z h =
          tells at count _ (omega arith) u (
            record {
              begins = ap checked p ∙ e;
              lies = ap (take header.length) (sym p);
              whole = length-take-le header.length (x ∷ xs) h.1;
            },
            on (pred header.length) 0 (at + count + header.length)
                (ap (λ m. drop m stream) (add-zero (at + count + header.length)) ∙ sym (drop-drop header.length (at + count) stream)
                ∙ ap₂ drop z p ∙ ap (λ m. drop (pred m) xs) (sym z))
                (omega (arith, h.1, ap pred z)) (omega arith) (omega (arith, h.1, ap pred z)) (none _),
          )

  onward : (rest : List ℕ) → Onward rest
  unfolding scan_from
  onward [] zero count at p q r l u = tells at count [] (omega arith) u (omega arith)
  onward [] (suc inside) count at p q r l u = absurd (omega arith)
  onward (x ∷ xs) (suc inside) count at p q r l u = onward xs inside count at p (omega arith) r (omega arith) u
  onward (x ∷ xs) zero count at p q r l u = go (onward xs) (checked (x ∷ xs)) refl
    where
      refuses : (v : Checked) → checked (x ∷ xs) ≡ v → ((header : Frame) → v ≡ Accepted header → ⊥) → NoFrame stream at (suc count)
      refuses v e w = one_more at count u (λ header y. w header (sym e ∙ ap checked (sym p) ∙ y))

      go : Onward xs → (v : Checked) → checked (x ∷ xs) ≡ v → Lies stream at (scan_by v (x ∷ xs) count (λ inside count. scan_from xs inside count))
      go on (Accepted header) e = a-frame x xs on count at p r (omega arith) u header e
      go on (Refused why) e =
          a_byte x xs on count at p r (omega arith) (refuses (Refused why) e (λ header y. let z : ◌≡◌ {A = ℕ} 0 1 = cc in omega arith))
      go on (Short wanted) e =
          a_byte x xs on count at p r (omega arith) (refuses (Short wanted) e (λ header y. let z : ◌≡◌ {A = ℕ} 0 1 = cc in omega arith))

  pub scan-lies : Lies stream 0 (scan stream)
  unfolding scan
  scan-lies = onward stream 0 0 0 refl (omega arith) (omega arith) (omega arith) (none 0)

  -- ---- what follows of any events that lie so

  pub adds-up : (at : ℕ) (events : List Event) → Lies stream at events → at + size_of_all events ≡ length stream
  unfolding size_of_all
  adds-up at [] l = add-zero at ∙ l
  adds-up at (frame header bytes ∷ events) l = omega (arith, adds-up (at + header.length) events l.1, l.0.whole)
  adds-up at (noise count ∷ events) l = omega (arith, adds-up (at + count) events l.1)

  pub frame_at : (at : ℕ) (before : List Event) (header : Frame) (bytes : List ℕ) (after : List Event) → Lies stream at (before ++ (frame header bytes ∷ after))
      → FrameAt stream (at + size_of_all before) header bytes
  unfolding size_of_all
  frame_at at [] header bytes after l = subst (λ n. FrameAt stream n header bytes) (sym (add-zero at)) l.0
  frame_at at (frame h b ∷ before) header bytes after l =
      let e : at + h.length + size_of_all before ≡ at + (length b + size_of_all before) = omega (arith, l.0.whole) in
      subst (λ n. FrameAt stream n header bytes) e (frame_at (at + h.length) before header bytes after l.1)
  frame_at at (noise count ∷ before) header bytes after l =
      subst (λ n. FrameAt stream n header bytes) (add_assoc at count (size_of_all before)) (frame_at (at + count) before header bytes after l.1)

  pub noise-at : (at : ℕ) (before : List Event) (count : ℕ) (after : List Event) → Lies stream at (before ++ (noise count ∷ after))
      → NoiseAt stream (at + size_of_all before) count
  unfolding size_of_all
  noise-at at [] count after l = subst (λ n. NoiseAt stream n count) (sym (add-zero at)) l.0
  noise-at at (frame h b ∷ before) count after l =
      let e : at + h.length + size_of_all before ≡ at + (length b + size_of_all before) = omega (arith, l.0.whole) in
      subst (λ n. NoiseAt stream n count) e (noise-at (at + h.length) before count after l.1)
  noise-at at (noise n ∷ before) count after l =
      subst (λ m. NoiseAt stream m count) (add_assoc at n (size_of_all before)) (noise-at (at + n) before count after l.1)
