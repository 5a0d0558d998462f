-- What the contents of a tray are after a call and after finish. Serves proofs; proved.
use Rattle.std.specs.Prelude.{◌≡◌, refl, List, [], ◌∷◌, ◌++◌, Bool, true, false, ℕ, zero, suc, ◌≤◌, ◌<◌, length, take, ltb}
use Rattle.std.proofs.Common.{arith, length-append, ltb-true}
use Rattle.sizes.specs.Sizes.{longest_frame, most_noise}
use Rattle.frame.specs.declared.Frame.{Frame}
use Rattle.frame.specs.declared.Checked.{Checked}
use Rattle.frame.specs.declared.Checked.TheVariants.{Accepted, Short, Refused}
use Rattle.frame.specs.Check.{checked}
use Rattle.stream.specs.Scan.{Event, frame, noise, Count, full, some, one_more_of, pick_count}
use Rattle.stream.specs.Tray.{Contents, Decision, event, none, accept, next, decide_by, decide}
use Rattle.stream.specs.Tray.{Outcome, refused, told, hungry, done, taken, feed_by, feed_end, feed, close_by, close, close_end}
use Rattle.frame.specs.Laws.{short-below}
use Rattle.stream.specs.Machine.{empty}
use Rattle.stream.specs.Ahead.{ahead_from}

-- a count that is not told is below 65,535
pub count_less : (k n : ℕ) → one_more_of k ≡ some n → n < most_noise
unfolding one_more_of
count_less k n q = go (ltb (suc k) most_noise) refl q
  where
    go : (b : Bool) → ltb (suc k) most_noise ≡ b → pick_count b (some (suc k)) full ≡ some n → n < most_noise
    go true e p = let s : suc k ≡ n = cc in omega (arith, ltb-true)
    go false e p = let z : ◌≡◌ {A = ℕ} 0 1 = cc in absurd (omega arith)

-- after an event: a frame lies first and is the one shown, or nothing is shown
abbrev pub Kept : Event → Contents → Type 0
Kept (frame f bytes) c = (bytes ≡ take f.length c.held) × (checked c.held ≡ Accepted f) × (c.shown ≡ f.length) × (c.noise ≡ 0) × (length c.held ≤ longest_frame)
Kept (noise n) c = (c.shown ≡ 0) × (c.noise ≡ 0) × (length c.held ≤ longest_frame)

-- with no event: nothing can be told of the bytes held, and there is room for one more
pub record Waits (c : Contents) : Type 0 where
  pub none-shown : c.shown ≡ 0
  pub none_ahead : ahead_from c.held 0 c.noise ≡ ([], c.held, c.noise)
  pub has_room : length c.held < longest_frame
  pub noise-less : c.noise < most_noise

abbrev pub Good : Outcome → Type 0
Good (refused r) = ⊥
Good (told e c u) = Kept e c
Good (hungry c u) = Waits c
Good (done c) = c ≡ empty

-- of a decision with no event, N is to hold
abbrev Deciding : (List ℕ → ℕ → Type 0) → Decision → Type 0
Deciding N (event e c) = Kept e c
Deciding N (none h k) = N h k

kept-accept : (N : List ℕ → ℕ → Type 0) (s : List ℕ) (f : Frame) (k : ℕ) → checked s ≡ Accepted f → length s ≤ longest_frame → Deciding N (accept f s k)
kept-accept N s f zero e b = (refl, e, refl, refl, b)
kept-accept N s f (suc k) e b = (refl, refl, b)

kept_next : (N : List ℕ → ℕ → Type 0) (k : ℕ) (w : Count) → one_more_of k ≡ w → (xs : List ℕ) → length xs ≤ longest_frame → (go : ℕ → Decision)
    → ((j : ℕ) → j < most_noise → Deciding N (go j)) → Deciding N (next w xs go)
kept_next N k full q xs b go g = (refl, refl, b)
kept_next N k (some j) q xs b go g = g j (count_less k j q)

abbrev Rests : List ℕ → ℕ → Type 0
Rests h k = Waits (record { held = h; shown = 0; noise = k })

decide-kept : (h : List ℕ) (k : ℕ) → length h ≤ longest_frame → k < most_noise → Deciding Rests (decide h k)
unfolding decide ahead_from
decide-kept [] k b m = record { none-shown = refl; none_ahead = refl; has_room = omega arith; noise-less = m }
decide-kept (x ∷ xs) k b m = go (λ j l. decide-kept xs j (omega arith) l) (checked (x ∷ xs)) refl
  where
    go : ((j : ℕ) → j < most_noise → Deciding Rests (decide xs j)) → (v : Checked) → checked (x ∷ xs) ≡ v → Deciding Rests (decide_by v (x ∷ xs) xs k (λ j. decide xs j))
    go g (Accepted f) e = kept-accept Rests (x ∷ xs) f k e b
    go g (Refused r) e = kept_next Rests k (one_more_of k) refl xs (omega arith) (λ j. decide xs j) g
    go g (Short n) e = record {
      none-shown = refl;
      none_ahead = rw (e, ahead_from);
      has_room = short-below (x ∷ xs) n e;
      noise-less = m;
    }

good-taken : (o : Outcome) → Good o → Good (taken o)
good-taken (refused r) g = g
good-taken (told e c u) g = g
good-taken (hungry c u) g = g
good-taken (done c) g = g

pub feed-kept : (p h : List ℕ) (k : ℕ) → length h ≤ longest_frame → k < most_noise → Good (feed p h k)
unfolding feed
feed-kept [] h k b m = go (decide h k) (decide-kept h k b m)
  where
    go : (w : Decision) → Deciding Rests w → Good (feed_end w)
    go (event e c) g = g
    go (none h' k') g = g
feed-kept (x ∷ xs) h k b m = go (λ h' k' b' m'. feed-kept xs h' k' b' m') (decide h k) (decide-kept h k b m)
  where
    go : ((h' : List ℕ) (k' : ℕ) → length h' ≤ longest_frame → k' < most_noise → Good (feed xs h' k')) → (w : Decision) → Deciding Rests w
        → Good (feed_by w (λ h' k'. feed xs (h' ++ x ∷ []) k'))
    go r (event e c) g = g
    go r (none h' k') g =
        good-taken (feed xs (h' ++ x ∷ []) k') (r (h' ++ x ∷ []) k' (simp length-append (omega (arith, g.has_room))) g.noise-less)

abbrev Ends : List ℕ → ℕ → Type 0
Ends h k = (h ≡ []) × (k ≡ 0)

close-kept : (h : List ℕ) (k : ℕ) → length h ≤ longest_frame → Deciding Ends (close h k)
unfolding close
close-kept [] zero b = (refl, refl)
close-kept [] (suc k) b = (refl, refl, b)
close-kept (x ∷ xs) k b = go (λ j. close-kept xs j (omega arith)) (checked (x ∷ xs)) refl
  where
    go : ((j : ℕ) → Deciding Ends (close xs j)) → (v : Checked) → checked (x ∷ xs) ≡ v → Deciding Ends (close_by v (x ∷ xs) xs k (λ j. close xs j))
    go g (Accepted f) e = kept-accept Ends (x ∷ xs) f k e b
    go g (Refused r) e = kept_next Ends k (one_more_of k) refl xs (omega arith) (λ j. close xs j) (λ j _. g j)
    go g (Short n) e = kept_next Ends k (one_more_of k) refl xs (omega arith) (λ j. close xs j) (λ j _. g j)

pub finish-kept : (h : List ℕ) (k : ℕ) → length h ≤ longest_frame → Good (close_end (close h k))
finish-kept h k b = go (close h k) (close-kept h k b)
  where
    go : (w : Decision) → Deciding Ends w → Good (close_end w)
    go (event e c) g = g
    go (none h' k') g = λ i. record { held = g.0 i; shown = 0; noise = g.1 i }
