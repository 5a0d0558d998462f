-- The laws of the definition `feed`: one for each way that a turn of the loop goes. Bytes are taken, and noise is passed over, many at a time.
use mathlib.Core.Path.{◌≡◌, refl, sym, ap, ◌∙◌}
use mathlib.Core.List.{List, [], ◌∷◌, ◌++◌, append_assoc, append-nil}
use mathlib.Core.Bool.{Bool, true, false}
use Prim.Native.Nat.{ℕ, zero, suc, ◌+◌, ◌≤◌, ◌<◌}
use native.Mathlib.Nat.{add-zero, zero-add}
use native.Mathlib.Numerals.{add-one}
use native.Mathlib.Omega.{arith}
use lib.ListN.{length, take, drop, length-append, drop_of_length-le}
use lib.Seq.{length-take-le}
use borrow.Author.Tests.{lt-ltb, le-ltb, eqb-false}
use Rattle.sizes.specs.Sizes.{most_noise}
use Rattle.std.specs.Prelude.{◌==◌, cond, not}
use Rattle.std.specs.List.{position_or_len}
use Rattle.answer.specs.declared.Refusal.{Refusal}
use Rattle.answer.specs.declared.Refusal.TheVariants.{Preamble}
use Rattle.frame.specs.declared.Frame.{Frame}
use Rattle.frame.specs.declared.Checked.{Checked}
use Rattle.frame.specs.declared.Checked.TheVariants.{Accepted, Short, Refused}
use Rattle.frame.specs.Check.{checked}
use Rattle.frame.specs.Fields.{preamble}
use Rattle.frame.specs.Laws.{Still, still, short-stays}
use Rattle.stream.specs.Scan.{Event, noise, full, some, one_more_of}
use Rattle.stream.specs.Tray.{Contents, event, none, accept, decide, Outcome, refused, told, hungry, done, taken, feed_end, feed}
use Rattle.stream.specs.Check.{none-short, no-preamble}
use Rattle.stream.specs.Walk.{plus}

pub plus-zero : (o : Outcome) → plus 0 o ≡ o
plus-zero (refused r) = refl
plus-zero (told e c n) = rw zero-add
plus-zero (hungry c n) = rw zero-add
plus-zero (done c) = refl

plus-taken : (u : ℕ) (o : Outcome) → taken (plus u o) ≡ plus (suc u) o
plus-taken u (refused r) = refl
plus-taken u (told e c n) = let q : suc (u + n) ≡ suc u + n = omega arith in rw q
plus-taken u (hungry c n) = let q : suc (u + n) ≡ suc u + n = omega arith in rw q
plus-taken u (done c) = refl

pub plus-plus : (u v : ℕ) (o : Outcome) → plus u (plus v o) ≡ plus (u + v) o
plus-plus u v (refused r) = refl
plus-plus u v (told e c n) = let q : u + (v + n) ≡ u + v + n = omega arith in rw q
plus-plus u v (hungry c n) = let q : u + (v + n) ≡ u + v + n = omega arith in rw q
plus-plus u v (done c) = refl

pub more-some : (k : ℕ) → k + 1 < most_noise → one_more_of k ≡ some (k + 1)
unfolding one_more_of
more-some k h = rw (lt-ltb (suc k) most_noise (omega arith), add-one k)

pub more-full : (k : ℕ) → k + 1 ≡ most_noise → one_more_of k ≡ full
unfolding one_more_of
more-full k h = rw (le-ltb (suc k) most_noise (omega arith))

-- ---- deciding on the bytes held

decide-accept : (s : List ℕ) (f : Frame) (k : ℕ) → checked s ≡ Accepted f → decide s k ≡ accept f s k
unfolding decide
decide-accept [] f k e = cc none-short
decide-accept (x ∷ xs) f k e = rw (e, decide)

decide-full : (s : List ℕ) (r : Refusal) (k : ℕ) → checked s ≡ Refused r → k + 1 ≡ most_noise
    → decide s k ≡ event (noise most_noise) (record { held = drop 1 s; shown = 0; noise = 0 })
unfolding decide
decide-full [] r k e h = cc none-short
decide-full (x ∷ xs) r k e h = rw (e, decide, more-full k h)

decide-noise : (s : List ℕ) (r : Refusal) (k : ℕ) → checked s ≡ Refused r → k + 1 < most_noise → decide s k ≡ decide (drop 1 s) (k + 1)
unfolding decide
decide-noise [] r k e h = cc none-short
decide-noise (x ∷ xs) r k e h = rw (e, decide, more-some k h)

decide-short : (s : List ℕ) (n k : ℕ) → checked s ≡ Short n → decide s k ≡ none s k
unfolding decide
decide-short [] n k e = refl
decide-short (x ∷ xs) n k e = rw (e, decide)

-- ---- taking bytes of the input

feed-event : (p s : List ℕ) (k : ℕ) (e : Event) (c : Contents) → decide s k ≡ event e c → feed p s k ≡ told e c 0
unfolding feed
feed-event [] s k e c q = rw q
feed-event (x ∷ p) s k e c q = rw q

pub feed-accept : (p s : List ℕ) (f : Frame) (k : ℕ) → checked s ≡ Accepted f → feed p s k ≡ feed_end (accept f s k)
feed-accept p s f zero e = feed-event p s 0 _ _ (decide-accept s f 0 e)
feed-accept p s f (suc k) e = feed-event p s (suc k) _ _ (decide-accept s f (suc k) e)

feed-same : (p s s' : List ℕ) (k k' : ℕ) → decide s k ≡ decide s' k' → feed p s k ≡ feed p s' k'
unfolding feed
feed-same [] s s' k k' q = rw q
feed-same (x ∷ p) s s' k k' q = rw q

feed-hungry : (s : List ℕ) (n k : ℕ) → checked s ≡ Short n → feed [] s k ≡ hungry (record { held = s; shown = 0; noise = k }) 0
unfolding feed
feed-hungry s n k e = rw (decide-short s n k e)

-- .. where all of the input is used
pub feed-starved : (input s : List ℕ) (u n k : ℕ) → checked s ≡ Short n → u ≡ length input → feed (drop u input) s k ≡ hungry (record { held = s; shown = 0; noise = k }) 0
feed-starved input s u n k e h = ap (λ l. feed l s k) (drop_of_length-le input {i = u} (omega arith)) ∙ feed-hungry s n k e

-- the first byte is noise
pub feed-noise : (p s : List ℕ) (r : Refusal) (k : ℕ) → checked s ≡ Refused r → k + 1 < most_noise → feed p s k ≡ feed p (drop 1 s) (k + 1)
feed-noise p s r k e h = feed-same p s (drop 1 s) k (k + 1) (decide-noise s r k e h)

pub feed-full : (p s : List ℕ) (r : Refusal) (k : ℕ) → checked s ≡ Refused r → k + 1 ≡ most_noise
    → feed p s k ≡ told (noise most_noise) (record { held = drop 1 s; shown = 0; noise = 0 }) 0
feed-full p s r k e h = feed-event p s k (noise most_noise) (record { held = drop 1 s; shown = 0; noise = 0 }) (decide-full s r k e h)

feed-take : (x : ℕ) (p s : List ℕ) (n k : ℕ) → checked s ≡ Short n → feed (x ∷ p) s k ≡ taken (feed p (s ++ x ∷ []) k)
unfolding feed
feed-take x p s n k e = rw (decide-short s n k e)

short-of : (n : ℕ) (v : Checked) → Still n v → (m : ℕ) × (v ≡ Short m) × (n ≤ m)
short-of n v (still {m} h) = (m, refl, h)

-- SHORT, whatever is wanted
abbrev pub IsShort : List ℕ → Type 0
IsShort s = (n : ℕ) × (checked s ≡ Short n)

-- many bytes at once, where it is SHORT all the way
pub feed-all : (c : ℕ) (p s : List ℕ) (k : ℕ) → ((i : ℕ) → i < c → IsShort (s ++ take i p)) → c ≤ length p
    → feed p s k ≡ plus c (feed (drop c p) (s ++ take c p) k)
feed-all zero p s k g l = sym (plus-zero (feed p (s ++ []) k) ∙ ap (λ z. feed p z k) (append-nil s))
feed-all (suc c) [] s k g l = absurd (omega arith)
feed-all (suc c) (x ∷ p) s k g l =
    let first = g 0 (omega arith) in
    let h = feed-all c p (s ++ x ∷ []) k (λ i m. rw (append_assoc s (x ∷ []) (take i p)) (g (suc i) (omega arith))) (omega arith) in
    feed-take x p s first.0 k (rw (append-nil s) at first.1) ∙ ap taken h ∙ plus-taken c (feed (drop c p) ((s ++ x ∷ []) ++ take c p) k)
    ∙ ap (λ z. plus (suc c) (feed (drop c p) z k)) (append_assoc s (x ∷ []) (take c p))

-- it is SHORT while fewer bytes are there than are wanted
pub short_on : (s p : List ℕ) (n : ℕ) → checked s ≡ Short n → (i : ℕ) → length s + i < n → i ≤ length p → IsShort (s ++ take i p)
short_on s p n e i h l =
    let a : length (s ++ take i p) ≡ length s + i = length-append s (take i p) ∙ ap (λ k. length s + k) (length-take-le i p l) in
    let m = short-of n (checked (s ++ take i p)) (short-stays s (take i p) n e (omega arith)) in
    (m.0, m.1)

pub feed-block : (c : ℕ) (p s : List ℕ) (n k : ℕ) → checked s ≡ Short n → length s + c ≤ n → c ≤ length p
    → feed p s k ≡ plus c (feed (drop c p) (s ++ take c p) k)
feed-block c p s n k e h l = feed-all c p s k (λ i m. short_on s p n e i (omega arith) (omega arith)) l

-- where no byte is held, a byte that is no preamble is noise
feed-quiet-one : (x : ℕ) (p : List ℕ) (k : ℕ) → (x ≡ preamble → ⊥) → k + 1 < most_noise → feed (x ∷ p) [] k ≡ taken (feed p [] (k + 1))
feed-quiet-one x p k h l =
    feed-take x p [] 1 k none-short
    ∙ ap taken (feed-same p (x ∷ []) [] k (k + 1) (decide-noise (x ∷ []) Preamble k (no-preamble x [] h) l))

abbrev met : ℕ → Bool
met byte = byte == preamble

pub feed-quiet : (s p : List ℕ) (k : ℕ) → k + length s < most_noise
    → feed (s ++ p) [] k ≡ plus (position_or_len met s) (feed (drop (position_or_len met s) (s ++ p)) [] (k + position_or_len met s))
feed-quiet [] p k h = rw (add-zero k) (sym (plus-zero (feed p [] k)))
feed-quiet (x ∷ s) p k h = go (met x) refl (feed-quiet s p (k + 1) (omega arith))
  where
    go : (b : Bool) → met x ≡ b
        → feed (s ++ p) [] (k + 1) ≡ plus (position_or_len met s) (feed (drop (position_or_len met s) (s ++ p)) [] (k + 1 + position_or_len met s))
        → feed (x ∷ (s ++ p)) [] k
        ≡ plus (cond (not b) (1 + position_or_len met s) 0) (feed (drop (cond (not b) (1 + position_or_len met s) 0) (x ∷ (s ++ p))) [] (k + cond (not b) (1 + position_or_len met s) 0))
    go true e g = rw (add-zero k) (sym (plus-zero (feed (x ∷ (s ++ p)) [] k)))
    go false e g =
        let m : 1 + position_or_len met s ≡ suc (position_or_len met s) = omega arith in
        let q : k + 1 + position_or_len met s ≡ k + suc (position_or_len met s) = omega arith in
        rw m
        (feed-quiet-one x (s ++ p) k (eqb-false x preamble e) (omega arith) ∙ ap taken g
        ∙ plus-taken (position_or_len met s) (feed (drop (position_or_len met s) (s ++ p)) [] (k + 1 + position_or_len met s))
        ∙ ap (λ j. plus (suc (position_or_len met s)) (feed (drop (position_or_len met s) (s ++ p)) [] j)) q)
