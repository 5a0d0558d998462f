-- What a call and finish come to, of every reading of the bytes to come that goes as `scan` does. Serves proofs; proved.
use Rattle.std.specs.Prelude.{◌≡◌, ℕ, zero, suc, ◌≤◌, length, take, drop}
use Rattle.std.proofs.Math.Path.{refl}
use Rattle.std.proofs.Common.{sym, ap, ◌∙◌, subst, arith}
use mathlib.Core.List.{List, [], ◌∷◌, ◌++◌, append_assoc}
use Rattle.std.proofs.lemmas.List.{take-append-le, drop-append-le}
use Rattle.sizes.specs.Sizes.{most_noise}
use Rattle.answer.specs.declared.Refusal.{Refusal}
use Rattle.frame.specs.declared.Frame.{Frame}
use Rattle.frame.specs.declared.Checked.{Checked}
use Rattle.frame.specs.declared.Checked.TheVariants.{Accepted, Short, Refused}
use Rattle.frame.specs.Check.{checked}
use Rattle.stream.specs.Scan.{Event, frame, noise, Count, full, some, one_more_of, tell, pass, scan_from}
use Rattle.stream.specs.Tray.{Contents, live, Decision, event, none, accept, next, decide_by, decide}
use Rattle.stream.specs.Tray.{Outcome, refused, told, hungry, done, taken, feed_by, feed_end, feed, close_by, close, close_end}
use Rattle.frame.specs.Laws.{accepted-length, keeps-accepted, keeps-refused}

-- ---- over any kind of answer, as `tell` and `pass` over lists of events; and what a decision and a call are to be of a reading F of the bytes to
-- come, for all that may follow. G is what was to be told before

module _ {X : Type 0} (cons : Event → X → X) where
  abbrev pub tell_to : ℕ → X → X
  tell_to zero x = x
  tell_to (suc n) x = cons (noise (suc n)) x

  abbrev pub pass_to : Count → (ℕ → X) → X
  pass_to full rest = cons (noise most_noise) (rest 0)
  pass_to (some n) rest = rest n

  abbrev pub tells : List Event → X → X
  tells [] x = x
  tells (e ∷ es) x = cons e (tells es x)

  module _ (F : ℕ → List ℕ → X) where
    abbrev pub Decided : (List ℕ → X) → Decision → Type 0
    Decided G (event e c) = (t : List ℕ) → G t ≡ cons e (F c.noise (live c ++ t))
    Decided G (none h k) = (t : List ℕ) → G t ≡ F k (h ++ t)

    abbrev pub Fed : (List ℕ → X) → List ℕ → Outcome → Type 0
    Fed G p (refused r) = ⊥
    Fed G p (told e c u) = (t : List ℕ) → G t ≡ cons e (F c.noise (live c ++ (drop u p ++ t)))
    Fed G p (hungry c u) = (t : List ℕ) → G t ≡ F c.noise (live c ++ t)
    Fed G p (done c) = ⊥

    -- a reading that goes as `scan` does at a frame and at a byte of noise
    pub record Reading : Type 0 where
      pub on-frame : (s : List ℕ) (f : Frame) (k : ℕ) → checked s ≡ Accepted f → F k s ≡ tell_to k (cons (frame f (take f.length s)) (F 0 (drop f.length s)))
      pub on-noise : (x : ℕ) (xs : List ℕ) (k : ℕ) (r : Refusal) → checked (x ∷ xs) ≡ Refused r → F k (x ∷ xs) ≡ pass_to (one_more_of k) (λ j. F j xs)

module _ {X : Type 0} (cons : Event → X → X) (F : ℕ → List ℕ → X) (reading : Reading cons F) where
  decided-from : (G G' : List ℕ → X) → ((t : List ℕ) → G t ≡ G' t) → (w : Decision) → Decided cons F G' w → Decided cons F G w
  decided-from G G' q (event e c) g = λ t. q t ∙ g t
  decided-from G G' q (none h k) g = λ t. q t ∙ g t

  accept-good : (s : List ℕ) (f : Frame) (k : ℕ) → checked s ≡ Accepted f → Decided cons F (λ t. F k (s ++ t)) (accept f s k)
  accept-good s f zero e = λ t.
      let h : f.length ≤ length s = (accepted-length s f e).1 in
      reading.on-frame (s ++ t) f 0 (keeps-accepted s t f e) ∙ rw (take-append-le f.length s t, drop-append-le f.length s t)
  accept-good s f (suc j) e = λ t.
      let a = keeps-accepted s t f e in
      reading.on-frame (s ++ t) f (suc j) a ∙ ap (cons (noise (suc j))) (sym (reading.on-frame (s ++ t) f 0 a))

  next-good : (x : ℕ) (xs : List ℕ) (k : ℕ) (r : Refusal) → checked (x ∷ xs) ≡ Refused r → (go : ℕ → Decision)
      → ((j : ℕ) → Decided cons F (λ t. F j (xs ++ t)) (go j)) → (w : Count) → one_more_of k ≡ w → Decided cons F (λ t. F k (x ∷ (xs ++ t))) (next w xs go)
  next-good x xs k r e go g full q = λ t. reading.on-noise x (xs ++ t) k r (keeps-refused (x ∷ xs) t r e) ∙ rw q
  next-good x xs k r e go g (some j) q =
      decided-from _ _ (λ t. reading.on-noise x (xs ++ t) k r (keeps-refused (x ∷ xs) t r e) ∙ rw q) (go j) (g j)

  decide-good : (h : List ℕ) (k : ℕ) → Decided cons F (λ t. F k (h ++ t)) (decide h k)
  unfolding decide
  decide-good [] k = λ t. refl
  decide-good (x ∷ xs) k = go (λ j. decide-good xs j) (checked (x ∷ xs)) refl
    where
      go : ((j : ℕ) → Decided cons F (λ t. F j (xs ++ t)) (decide xs j))
          → (v : Checked) → checked (x ∷ xs) ≡ v → Decided cons F (λ t. F k (x ∷ (xs ++ t))) (decide_by v (x ∷ xs) xs k (λ j. decide xs j))
      go g (Accepted f) e = accept-good (x ∷ xs) f k e
      go g (Refused r) e = next-good x xs k r e (λ j. decide xs j) g (one_more_of k) refl
      go g (Short n) e = λ t. refl

  fed-more : (G G' : List ℕ → X) (x : ℕ) (xs : List ℕ) → ((t : List ℕ) → G t ≡ G' t) → (w : Outcome) → Fed cons F G' xs w → Fed cons F G (x ∷ xs) (taken w)
  fed-more G G' x xs q (refused r) g = g
  fed-more G G' x xs q (told e c u) g = λ t. q t ∙ g t
  fed-more G G' x xs q (hungry c u) g = λ t. q t ∙ g t
  fed-more G G' x xs q (done c) g = g

  pub feed-good : (p h : List ℕ) (k : ℕ) → Fed cons F (λ t. F k (h ++ (p ++ t))) p (feed p h k)
  unfolding feed
  feed-good [] h k = go (decide h k) (decide-good h k)
    where
      go : (w : Decision) → Decided cons F (λ t. F k (h ++ t)) w → Fed cons F (λ t. F k (h ++ t)) [] (feed_end w)
      go (event e c) g = g
      go (none h' k') g = g
  feed-good (x ∷ xs) h k = go (λ h' k'. feed-good xs h' k') (decide h k) (decide-good h k)
    where
      go : ((h' : List ℕ) (k' : ℕ) → Fed cons F (λ t. F k' (h' ++ (xs ++ t))) xs (feed xs h' k')) → (w : Decision) → Decided cons F (λ t. F k (h ++ t)) w
          → Fed cons F (λ t. F k (h ++ x ∷ (xs ++ t))) (x ∷ xs) (feed_by w (λ h' k'. feed xs (h' ++ x ∷ []) k'))
      go r (event e c) g = λ t. g (x ∷ (xs ++ t))
      go r (none h' k') g =
          fed-more _ _ x xs (λ t. g (x ∷ (xs ++ t)) ∙ rw (append_assoc h' (x ∷ []) (xs ++ t))) (feed xs (h' ++ x ∷ []) k') (r (h' ++ x ∷ []) k')

-- ---- `scan` is such a reading

abbrev pub on_list : Event → List Event → List Event
on_list e es = e ∷ es

tell-is : (k : ℕ) (es : List Event) → tell k es ≡ tell_to on_list k es
tell-is zero es = refl
tell-is (suc k) es = refl

pass-is : (w : Count) (rest : ℕ → List Event) → pass w rest ≡ pass_to on_list w rest
pass-is full rest = refl
pass-is (some n) rest = refl

scan-inside : (s : List ℕ) (m k : ℕ) → scan_from s m k ≡ scan_from (drop m s) 0 k
unfolding scan_from
scan-inside [] zero k = refl
scan-inside [] (suc m) k = refl
scan-inside (x ∷ xs) zero k = refl
scan-inside (x ∷ xs) (suc m) k = scan-inside xs m k

scan-frame : (s : List ℕ) (f : Frame) (n k : ℕ) → f.length ≡ n → checked s ≡ Accepted f
    → scan_from s 0 k ≡ tell_to on_list k (frame f (take f.length s) ∷ scan_from (drop f.length s) 0 0)
unfolding scan_from
scan-frame [] f n k l q = absurd (omega (arith, accepted-length [] f q))
scan-frame (x ∷ xs) f zero k l q = absurd (omega (arith, accepted-length (x ∷ xs) f q))
scan-frame (x ∷ xs) f (suc m) k l q = rw (q, scan_from, l, scan-inside xs m 0) (tell-is k _)

scan-noise : (x : ℕ) (xs : List ℕ) (k : ℕ) (r : Refusal) → checked (x ∷ xs) ≡ Refused r → scan_from (x ∷ xs) 0 k ≡ pass_to on_list (one_more_of k) (λ j. scan_from xs 0 j)
unfolding scan_from
scan-noise x xs k r q = rw (q, scan_from) (pass-is (one_more_of k) (λ j. scan_from xs 0 j))

-- at the end of the stream SHORT is noise too
scan-short : (x : ℕ) (xs : List ℕ) (k n : ℕ) → checked (x ∷ xs) ≡ Short n → scan_from (x ∷ xs) 0 k ≡ pass_to on_list (one_more_of k) (λ j. scan_from xs 0 j)
unfolding scan_from
scan-short x xs k n q = rw (q, scan_from) (pass-is (one_more_of k) (λ j. scan_from xs 0 j))

pub scan-reading : Reading on_list (λ k s. scan_from s 0 k)
scan-reading = record { on-frame = λ s f k q. scan-frame s f f.length k refl q; on-noise = scan-noise }

-- ---- finish

abbrev Closed : List Event → Decision → Type 0
Closed g (event e c) = g ≡ e ∷ scan_from (live c) 0 c.noise
Closed g (none h k) = (g ≡ []) × (h ≡ []) × (k ≡ 0)

close-accept : (s : List ℕ) (f : Frame) (k : ℕ) → checked s ≡ Accepted f → Closed (scan_from s 0 k) (accept f s k)
close-accept s f zero e = scan-frame s f f.length 0 refl e
close-accept s f (suc j) e = scan-frame s f f.length (suc j) refl e ∙ rw (scan-frame s f f.length 0 refl e)

close-next : (s xs : List ℕ) (k : ℕ) → scan_from s 0 k ≡ pass_to on_list (one_more_of k) (λ j. scan_from xs 0 j)
    → (go : ℕ → Decision) → ((j : ℕ) → Closed (scan_from xs 0 j) (go j)) → (w : Count) → one_more_of k ≡ w → Closed (scan_from s 0 k) (next w xs go)
close-next s xs k e go g full q = e ∙ rw q
close-next s xs k e go g (some j) q = subst (λ es. Closed es (go j)) (sym (e ∙ rw q)) (g j)

close-good : (h : List ℕ) (k : ℕ) → Closed (scan_from h 0 k) (close h k)
unfolding close scan_from
close-good [] zero = (refl, refl, refl)
close-good [] (suc k) = refl
close-good (x ∷ xs) k = go (λ j. close-good xs j) (checked (x ∷ xs)) refl
  where
    go : ((j : ℕ) → Closed (scan_from xs 0 j) (close xs j))
        → (v : Checked) → checked (x ∷ xs) ≡ v → Closed (scan_from (x ∷ xs) 0 k) (close_by v (x ∷ xs) xs k (λ j. close xs j))
    go g (Accepted f) e = close-accept (x ∷ xs) f k e
    go g (Refused r) e = close-next (x ∷ xs) xs k (scan-noise x xs k r e) (λ j. close xs j) g (one_more_of k) refl
    go g (Short n) e = close-next (x ∷ xs) xs k (scan-short x xs k n e) (λ j. close xs j) g (one_more_of k) refl

abbrev pub empty : Contents
empty = record { held = []; shown = 0; noise = 0 }

abbrev pub Ended : List Event → Outcome → Type 0
Ended g (refused r) = ⊥
Ended g (told e c u) = g ≡ e ∷ scan_from (live c) 0 c.noise
Ended g (hungry c u) = ⊥
Ended g (done c) = (g ≡ []) × (c ≡ empty)

pub finish-good : (h : List ℕ) (k : ℕ) → Ended (scan_from h 0 k) (close_end (close h k))
finish-good h k = go (close h k) (close-good h k)
  where
    go : (w : Decision) → Closed (scan_from h 0 k) w → Ended (scan_from h 0 k) (close_end w)
    go (event e c) g = g
    go (none h' k') g = (g.0, λ i. record { held = g.1 i; shown = 0; noise = g.2 i })
