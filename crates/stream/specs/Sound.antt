-- A tray's soundness in its parts; and what is laid out in a tray is read back from it, and is sound. Serves proofs; proved.
use Rattle.std.specs.Prelude.{◌≡◌, refl, ◌⊎◌, List, [], ◌∷◌, ◌++◌, Bool, true, false, ◌&&◌, ◌||◌, ℕ, zero, suc, ◌-◌, ◌≤◌, ◌<◌, take, drop, replicate, eqb}
use Rattle.std.proofs.Math.Path.{sym, ap}
use Rattle.std.proofs.Common.{ap₂, ◌∙◌, inl, inr, ⊎_elim, append_assoc, arith, length-append, length-drop, take-append-drop, drop_at, take-take, length-take-le, lt-ltb, le-leb, eq-eqb, ltb-true, leb-true, eqb-true}
use Rattle.std.proofs.Math.Bool.{or-true}
use Rattle.std.proofs.Math.ListN.{length}
use Rattle.std.proofs.lemmas.List.{length-replicate}
use Rattle.std.proofs.Math.Seq.{take-append_seam, drop-append_seam, take_at}
use Rattle.sizes.specs.Sizes.{longest_frame, most_noise}
use Rattle.frame.specs.declared.Frame.{Frame}
use Rattle.frame.specs.declared.Checked.{Checked}
use Rattle.frame.specs.declared.Checked.TheVariants.{Accepted, Short, Refused}
use Rattle.frame.specs.Check.{checked}
use Rattle.stream.specs.declared.Tray.{Tray}
use Rattle.stream.specs.Tray.{zeros, is_frame, sound, Contents, contents, tray_of, laid}
use Rattle.stream.specs.Driver.{Clear}

-- ---- zeros

pub both : (a b : Bool) → (a && b) ≡ true → (a ≡ true) × (b ≡ true)
both true true h = (refl, refl)
both true false h = (refl, h)
both false b h = let z : ◌≡◌ {A = ℕ} 0 1 = cc in absurd (omega arith)

pub zeros-replicate : (n : ℕ) → zeros (replicate n 0) ≡ true
unfolding zeros
zeros-replicate zero = refl
zeros-replicate (suc n) = zeros-replicate n

pub zeros-are : (l : List ℕ) → zeros l ≡ true → l ≡ replicate (length l) 0
unfolding zeros
zeros-are [] h = refl
zeros-are (x ∷ xs) h =
    let p = both (eqb x 0) (zeros xs) h in
    ap₂ (λ y ys. y ∷ ys) (eqb-true x 0 p.0) (zeros-are xs p.1)

-- ---- soundness in its parts

pub record Sound (bytes : List ℕ) (tray : Tray) : Type 0 where
  pub held-most : tray.held ≤ longest_frame
  pub zeros-after : zeros (drop tray.held (take longest_frame bytes)) ≡ true
  pub noise-less : tray.noise < most_noise
  pub shown-fits : (tray.shown ≡ 0) ⊎ ((f : Frame) × (checked (take tray.held bytes) ≡ Accepted f) × (f.length ≡ tray.shown))

either : (a b : Bool) → (a || b) ≡ true → (a ≡ true) ⊎ (b ≡ true)
either true b h = inl refl
either false b h = inr h

frame-of : (n : ℕ) (v : Checked) → is_frame n v ≡ true → (f : Frame) × (v ≡ Accepted f) × (f.length ≡ n)
frame-of n (Accepted f) h = (f, refl, eqb-true f.length n h)
frame-of n (Refused r) h = let z : ◌≡◌ {A = ℕ} 0 1 = cc in absurd (omega arith)
frame-of n (Short m) h = let z : ◌≡◌ {A = ℕ} 0 1 = cc in absurd (omega arith)

pub sound-parts : (bytes : List ℕ) (tray : Tray) → sound bytes tray ≡ true → Sound bytes tray
unfolding sound
sound-parts bytes tray h =
    let p = both _ _ h in
    let q = both _ _ p.0 in
    let r = both _ _ q.0 in
    record {
      held-most = leb-true _ _ r.0;
      zeros-after = r.1;
      noise-less = ltb-true _ _ q.1;
      shown-fits = ⊎_elim (λ e. inl (eqb-true _ _ e)) (λ e. inr (frame-of _ _ e)) (either _ _ p.1);
    }

pub sound-whole : (bytes : List ℕ) (tray : Tray) → Sound bytes tray → sound bytes tray ≡ true
unfolding sound
sound-whole bytes tray s =
    let shown : (eqb tray.shown 0 || is_frame tray.shown (checked (take tray.held bytes))) ≡ true =
    ⊎_elim
    (λ e. rw (eq-eqb tray.shown 0 e))
    (λ w. rw (w.1, eq-eqb w.0.length tray.shown w.2) (or-true (eqb tray.shown 0)))
    s.shown-fits in
    rw (le-leb tray.held longest_frame s.held-most, s.zeros-after, lt-ltb tray.noise most_noise s.noise-less, shown)

-- ---- what is laid out

module _ (bytes held : List ℕ) (fits : length held ≤ longest_frame) where
  front : List ℕ
  front = held ++ replicate (longest_frame - length held) 0

  length_front : length front ≡ longest_frame
  unfolding front
  length_front = simp (length-append, length-replicate) (omega arith)

  laid-is : laid bytes held ≡ front ++ drop longest_frame bytes
  unfolding laid front
  laid-is = sym (append_assoc held (replicate (longest_frame - length held) 0) (drop longest_frame bytes))

  pub take-laid : take (length held) (laid bytes held) ≡ held
  unfolding laid
  take-laid = take-append_seam held _

  pub drop-laid : drop longest_frame (laid bytes held) ≡ drop longest_frame bytes
  drop-laid = rw laid-is (drop_at front (drop longest_frame bytes) longest_frame length_front)

  pub length-laid : longest_frame ≤ length bytes → length (laid bytes held) ≡ length bytes
  length-laid h = rw laid-is (simp (length-append, length-drop, length_front) (omega arith))

  pub zeros-laid : zeros (drop (length held) (take longest_frame (laid bytes held))) ≡ true
  unfolding front
  zeros-laid = rw (laid-is, take_at front (drop longest_frame bytes) longest_frame length_front, drop-append_seam held (replicate (longest_frame - length held) 0)) (zeros-replicate (longest_frame - length held))

  pub laid-again : (held' : List ℕ) → laid (laid bytes held) held' ≡ laid bytes held'
  unfolding laid
  laid-again held' = ap (λ l. held' ++ (replicate (longest_frame - length held') 0 ++ l)) drop-laid

pub contents-laid : (bytes : List ℕ) (c : Contents) → length c.held ≤ longest_frame → contents (laid bytes c.held) (tray_of c) ≡ c
contents-laid bytes c h = λ i. record { held = take-laid bytes c.held h i; shown = c.shown; noise = c.noise }

-- a clear tray's bytes are those of an empty tray
pub laid-clear : (bytes : List ℕ) → Clear bytes → laid bytes [] ≡ bytes
unfolding laid
laid-clear bytes c =
    let z = zeros-are (take longest_frame bytes) c.are-zeros in
    let l : length (take longest_frame bytes) ≡ longest_frame = length-take-le longest_frame bytes c.room in
    ap (λ l. l ++ drop longest_frame bytes) (sym (z ∙ ap (λ n. replicate n 0) l)) ∙ take-append-drop longest_frame bytes

-- what is laid depends on the bytes beyond 1,103 alone
pub laid_same : (b b' held : List ℕ) → drop longest_frame b ≡ drop longest_frame b' → laid b held ≡ laid b' held
unfolding laid
laid_same b b' held q = ap (λ l. held ++ (replicate (longest_frame - length held) 0 ++ l)) q

-- a sound tray's bytes are those held, zeros, and what is beyond
pub laid-self : (b : List ℕ) (held : ℕ) → longest_frame ≤ length b → held ≤ longest_frame → zeros (drop held (take longest_frame b)) ≡ true → laid b (take held b) ≡ b
unfolding laid
laid-self b held room fits z =
    let l : length (take held b) ≡ held = length-take-le held b (omega arith) in
    let m : length (take longest_frame b) ≡ longest_frame = length-take-le longest_frame b room in
    let q : length (drop held (take longest_frame b)) ≡ longest_frame - length (take held b) = length-drop held (take longest_frame b) ∙ rw (l, m) in
    let r : replicate (longest_frame - length (take held b)) 0 ≡ drop held (take longest_frame b) = sym (zeros-are _ z ∙ ap (λ n. replicate n 0) q) in
    rw (r, ← append_assoc, ← take-take held longest_frame b fits, take-append-drop held (take longest_frame b)) (take-append-drop longest_frame b)
