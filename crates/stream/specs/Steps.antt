-- One call, and one finish, at a tray that is ready, as its caller sees them. Serves proofs; proved.
use Rattle.std.specs.Prelude.{◌≡◌, refl, ◌⊎◌, List, [], ◌∷◌, ◌++◌, ℕ, ◌≤◌, ◌<◌, length, take, drop}
use Rattle.std.proofs.Common.{sym, ap, ap₂, ◌∙◌, subst, inl, inr, arith, length-drop, length-take-le, le-ltb}
use Rattle.std.proofs.lemmas.List.{take-append-le}
use Rattle.sizes.specs.Sizes.{longest_frame, most_noise}
use Rattle.frame.specs.declared.Frame.{Frame}
use Rattle.frame.specs.declared.Checked.TheVariants.{Accepted}
use Rattle.frame.specs.Check.{checked}
use Rattle.stream.specs.declared.Tray.{Tray}
use Rattle.stream.specs.declared.Said.{Said}
use Rattle.stream.specs.Scan.{Event, frame, noise, scan_from}
use Rattle.stream.specs.Tray.{Contents, contents, live, Outcome, refused, told, hungry, done, feed, close, close_end, called, finished, fresh_tray, tray_of, said_of, answer_of, laid, bytes_of}
use Rattle.stream.specs.Driver.{Ready, Tells}
use Rattle.frame.specs.Laws.{accepted-length}
use Rattle.stream.specs.Machine.{Fed, Reading, Ended, empty, feed-good, finish-good}
use Rattle.stream.specs.Kept.{Kept, Waits, Good, feed-kept, finish-kept}
use Rattle.stream.specs.Sound.{sound-parts, sound-whole, take-laid, drop-laid, length-laid, zeros-laid, contents-laid}

abbrev pub live_of : List ℕ → Tray → List ℕ
live_of b t = live (contents b t)

pub called_is : (b : List ℕ) (t : Tray) (p : List ℕ) → Ready b t → called b t p ≡ feed p (live_of b t) t.noise
unfolding called
called_is b t p r = rw (le-ltb (length b) longest_frame r.room, r.is-sound)

pub finished-is : (b : List ℕ) (t : Tray) → Ready b t → finished b t ≡ close_end (close (live_of b t) t.noise)
unfolding finished
finished-is b t r = rw (le-ltb (length b) longest_frame r.room, r.is-sound)

live-most : (b : List ℕ) (t : Tray) → Ready b t → length (live_of b t) ≤ longest_frame
live-most b t r =
    let s = sound-parts b t r.is-sound in
    let l : length (take t.held b) ≡ t.held = length-take-le t.held b (omega (arith, s.held-most, r.room)) in
    simp length-drop (omega (arith, s.held-most))

pub call_kept : (b : List ℕ) (t : Tray) (p : List ℕ) → Ready b t → Good (called b t p)
call_kept b t p r =
    subst (λ o. Good o) (sym (called_is b t p r)) (feed-kept p (live_of b t) t.noise (live-most b t r) (sound-parts b t r.is-sound).noise-less)

pub end_kept : (b : List ℕ) (t : Tray) → Ready b t → Good (finished b t)
end_kept b t r = subst (λ o. Good o) (sym (finished-is b t r)) (finish-kept (live_of b t) t.noise (live-most b t r))

pub call-fed : {X : Type 0} (cons : Event → X → X) (F : ℕ → List ℕ → X) → Reading cons F → (b : List ℕ) (t : Tray) (p : List ℕ) → Ready b t
    → Fed cons F (λ x. F t.noise (live_of b t ++ (p ++ x))) p (called b t p)
call-fed cons F reading b t p r =
    subst (λ o. Fed cons F (λ x. F t.noise (live_of b t ++ (p ++ x))) p o) (sym (called_is b t p r)) (feed-good cons F reading p (live_of b t) t.noise)

pub end-ended : (b : List ℕ) (t : Tray) → Ready b t → Ended (scan_from (live_of b t) 0 t.noise) (finished b t)
end-ended b t r = subst (λ o. Ended (scan_from (live_of b t) 0 t.noise) o) (sym (finished-is b t r)) (finish-good (live_of b t) t.noise)

-- ---- a tray that is ready is ready afterwards

kept-fits : (e : Event) (c : Contents) → Kept e c → length c.held ≤ longest_frame
kept-fits (frame f bytes) c g = g.4
kept-fits (noise n) c g = g.2

module _ (b : List ℕ) (room : longest_frame ≤ length b) where
  laid-ready : (c : Contents) → length c.held ≤ longest_frame → c.noise < most_noise
      → ((c.shown ≡ 0) ⊎ ((f : Frame) × (checked c.held ≡ Accepted f) × (f.length ≡ c.shown))) → Ready (laid b c.held) (tray_of c)
  laid-ready c fits less shown = record {
    room = omega (arith, length-laid b c.held fits room);
    is-sound = sound-whole (laid b c.held) (tray_of c) (record {
      held-most = fits;
      zeros-after = zeros-laid b c.held fits;
      noise-less = less;
      shown-fits = rw (take-laid b c.held fits) shown;
    });
  }

  kept-ready : (e : Event) (c : Contents) → Kept e c → Ready (laid b c.held) (tray_of c)
  kept-ready (frame f bytes) c g = laid-ready c g.4 (omega arith) (inr (f, g.1, sym g.2))
  kept-ready (noise n) c g = laid-ready c g.2 (omega arith) (inl g.0)

  pub ready-after : (t : Tray) (o : Outcome) → Good o → Ready (bytes_of b o) (answer_of t o).tray
  ready-after t (refused r) g = absurd g
  ready-after t (told e c u) g = kept-ready e c g
  ready-after t (hungry c u) g = laid-ready c (omega (arith, g.has_room)) g.noise-less (inl g.none-shown)
  ready-after t (done c) g = rw g (laid-ready empty (omega arith) (omega arith) (inl refl))

-- ---- what is told is the event

told-event : (b : List ℕ) (e e' : Event) (c : Contents) → Kept e c → Tells (said_of e) (laid b c.held) e' → e ≡ e'
unfolding laid
told-event b (frame f bytes) e' c g k =
    let l : f.length ≤ length c.held = (accepted-length c.held f g.1).1 in
    sym (k ∙ ap (frame f) (take-append-le f.length c.held _ l ∙ sym g.0))
told-event b (noise n) e' c g k = sym k

pub not-said : (e : Event) → (said_of e ≡ Said.Hungry) ⊎ (said_of e ≡ Said.Done) → ⊥
not-said (frame f bytes) (inl q) = let z : ◌≡◌ {A = ℕ} 0 1 = cc in omega arith
not-said (frame f bytes) (inr q) = let z : ◌≡◌ {A = ℕ} 0 1 = cc in omega arith
not-said (noise n) (inl q) = let z : ◌≡◌ {A = ℕ} 0 1 = cc in omega arith
not-said (noise n) (inr q) = let z : ◌≡◌ {A = ℕ} 0 1 = cc in omega arith

module _ {X : Type 0} (cons : Event → X → X) (F : ℕ → List ℕ → X) (b : List ℕ) (t : Tray) (p : List ℕ) (G : List ℕ → X) where
  pub event-step : (o : Outcome) → Good o → Fed cons F G p o → (e : Event) → Tells (answer_of t o).said (bytes_of b o) e → (x : List ℕ)
      → G x ≡ cons e (F (answer_of t o).tray.noise (live_of (bytes_of b o) (answer_of t o).tray ++ (drop (answer_of t o).used p ++ x)))
  event-step (refused r) g f e k x = absurd g
  event-step (told e' c u) g f e k x =
      f x ∙ ap₂ (λ e d. cons e (F d.noise (live d ++ (drop u p ++ x)))) (told-event b e' e c g k) (sym (contents-laid b c (kept-fits e' c g)))
  event-step (hungry c u) g f e k x = absurd k
  event-step (done c) g f e k x = absurd k

  pub hungry-step : (o : Outcome) → Good o → Fed cons F G p o → (answer_of t o).said ≡ Said.Hungry → (x : List ℕ)
      → G x ≡ F (answer_of t o).tray.noise (live_of (bytes_of b o) (answer_of t o).tray ++ x)
  hungry-step (refused r) g f k x = absurd g
  hungry-step (told e c u) g f k x = absurd (not-said e (inl k))
  hungry-step (hungry c u) g f k x = f x ∙ ap (λ d. F d.noise (live d ++ x)) (sym (contents-laid b c (omega (arith, g.has_room))))
  hungry-step (done c) g f k x = absurd f

module _ (b : List ℕ) (t : Tray) (g : List Event) where
  pub last_step : (o : Outcome) → Good o → Ended g o → (e : Event) → Tells (answer_of t o).said (bytes_of b o) e
      → g ≡ e ∷ scan_from (live_of (bytes_of b o) (answer_of t o).tray) 0 (answer_of t o).tray.noise
  last_step (refused r) k n e s = absurd n
  last_step (told e' c u) k n e s =
      n ∙ ap₂ (λ e d. e ∷ scan_from (live d) 0 d.noise) (told-event b e' e c k s) (sym (contents-laid b c (kept-fits e' c k)))
  last_step (hungry c u) k n e s = absurd n
  last_step (done c) k n e s = absurd s

  pub done-step : (o : Outcome) → Ended g o → (answer_of t o).said ≡ Said.Done → (g ≡ []) × ((answer_of t o).tray ≡ fresh_tray) × (bytes_of b o ≡ laid b [])
  done-step (refused r) n s = absurd n
  done-step (told e c u) n s = absurd (not-said e (inr s))
  done-step (hungry c u) n s = absurd n
  done-step (done c) n s = (n.0, ap tray_of n.1, ap (λ d. laid b d.held) n.1)

-- ---- what a call and finish say

pub call-says : {X : Type 0} (cons : Event → X → X) (F : ℕ → List ℕ → X) (b : List ℕ) (t : Tray) (p : List ℕ) (G : List ℕ → X) (o : Outcome)
    → Fed cons F G p o → ((e : Event) × Tells (answer_of t o).said (bytes_of b o) e) ⊎ ((answer_of t o).said ≡ Said.Hungry)
call-says cons F b t p G (refused r) f = absurd f
call-says cons F b t p G (told (frame f' bytes) c u) f = inl (_, refl)
call-says cons F b t p G (told (noise n) c u) f = inl (_, refl)
call-says cons F b t p G (hungry c u) f = inr refl
call-says cons F b t p G (done c) f = absurd f

pub end-says : (b : List ℕ) (t : Tray) (g : List Event) (o : Outcome) → Ended g o → ((e : Event) × Tells (answer_of t o).said (bytes_of b o) e) ⊎ ((answer_of t o).said ≡ Said.Done)
end-says b t g (refused r) f = absurd f
end-says b t g (told (frame f' bytes) c u) f = inl (_, refl)
end-says b t g (told (noise n) c u) f = inl (_, refl)
end-says b t g (hungry c u) f = absurd f
end-says b t g (done c) f = inr refl

-- the bytes beyond 1,103 stay
pub beyond-after : (b : List ℕ) (o : Outcome) → Good o → drop longest_frame (bytes_of b o) ≡ drop longest_frame b
beyond-after b (refused r) g = absurd g
beyond-after b (told e c u) g = drop-laid b c.held (kept-fits e c g)
beyond-after b (hungry c u) g = drop-laid b c.held (omega (arith, g.has_room))
beyond-after b (done c) g = drop-laid b c.held (rw g (omega arith))

-- a tray that waits
pub hungry-waits : (b : List ℕ) (t : Tray) (o : Outcome) → Good o → (answer_of t o).said ≡ Said.Hungry → Waits (contents (bytes_of b o) (answer_of t o).tray)
hungry-waits b t (refused r) g s = absurd g
hungry-waits b t (told e c u) g s = absurd (not-said e (inl s))
hungry-waits b t (hungry c u) g s = subst (λ d. Waits d) (sym (contents-laid b c (omega (arith, g.has_room)))) g
hungry-waits b t (done c) g s = let z : ◌≡◌ {A = ℕ} 0 1 = cc in absurd (omega arith)
