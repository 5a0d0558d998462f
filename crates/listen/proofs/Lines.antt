-- The lines of `listen`, part by part, over plain variables: with room for it a line that is put in parts is put whole.
use mathlib.Core.Path.{◌≡◌, sym, ap, ◌∙◌}
use mathlib.Core.List.{List, [], ◌∷◌, ◌++◌, flatten}
use Prim.Native.Nat.{ℕ, ◌+◌, ◌≤◌}
use native.Mathlib.Omega.{arith}
use lib.ListN.{length, take, drop}
use lib.Seq.{take_at, length-take-le}
use Rattle.frame.specs.declared.Frame.{Frame}
use Rattle.answer.specs.declared.Refusal.{Refusal}
use Rattle.stream.specs.declared.Said.{Said}
use Rattle.stream.specs.declared.Said.TheVariants as said
use Rattle.io.specs.Counts.{IsPrefixLen}
use Rattle.text.specs.Text.{end_after, out_after, waiting_after, said_after, decimal, waiting, put_all}
use Rattle.text.specs.Parts.{put-parts, end_is, out-is, out-length}
use Rattle.listen.specs.Lines.{frame_word, noise_word, space, line_end, number_parts, frame_parts, noise_parts, parts_of, line_of}

-- one text put
one-put : (l l' : List ℕ) (at r : ℕ) (text : List ℕ) (texts : List (List ℕ)) → r ≡ end_after l at text → l' ≡ out_after l at text
    → put_all (waiting l' r) texts ≡ put_all (waiting l at) (text ∷ texts)
unfolding put_all
one-put l l' at r text texts e o = rw (o, e)

last-put : (l l' : List ℕ) (at r : ℕ) (text : List ℕ) → r ≡ end_after l at text → l' ≡ out_after l at text → waiting l' r ≡ put_all (waiting l at) (text ∷ [])
unfolding put_all
last-put l l' at r text e o = rw (o, e)

pub spaced-is : (l l₁ l₂ : List ℕ) (at s r n : ℕ) → s ≡ end_after l at space → l₁ ≡ out_after l at space → r ≡ end_after l₁ s (decimal n) → l₂ ≡ out_after l₁ s (decimal n)
    → waiting l₂ r ≡ put_all (waiting l at) (space ∷ decimal n ∷ [])
spaced-is l l₁ l₂ at s r n e o e₁ o₁ = last-put l₁ l₂ s r (decimal n) e₁ o₁ ∙ one-put l l₁ at s space (decimal n ∷ []) e o

-- two texts put, and more behind them
two-put : (l l' : List ℕ) (at r : ℕ) (a b : List ℕ) (texts : List (List ℕ)) → waiting l' r ≡ put_all (waiting l at) (a ∷ b ∷ [])
    → put_all (waiting l' r) texts ≡ put_all (waiting l at) (a ∷ b ∷ texts)
unfolding put_all
two-put l l' at r a b texts e = ap (λ w. put_all w texts) e

module _ (f : Frame) (l l₁ l₂ l₃ : List ℕ) (at n t r : ℕ) where
  pub numbers-is : waiting l₁ n ≡ put_all (waiting l at) (space ∷ decimal f.length ∷ []) → waiting l₂ t ≡ put_all (waiting l₁ n) (space ∷ decimal f.message_type ∷ [])
      → waiting l₃ r ≡ put_all (waiting l₂ t) (space ∷ decimal f.subtype ∷ []) → waiting l₃ r ≡ put_all (waiting l at) (number_parts f)
  numbers-is e₁ e₂ e₃ =
      e₃ ∙ two-put l₁ l₂ n t space (decimal f.message_type) (space ∷ decimal f.subtype ∷ []) e₂
      ∙ two-put l l₁ at n space (decimal f.length) (space ∷ decimal f.message_type ∷ space ∷ decimal f.subtype ∷ []) e₁

module _ (f : Frame) (l l₁ l₂ l₃ : List ℕ) (w n r : ℕ) where
  pub frame_is : w ≡ end_after l 0 frame_word → l₁ ≡ out_after l 0 frame_word → waiting l₂ n ≡ put_all (waiting l₁ w) (number_parts f)
      → r ≡ end_after l₂ n line_end → l₃ ≡ out_after l₂ n line_end → waiting l₃ r ≡ put_all (waiting l 0) (frame_parts f)
  unfolding put_all
  frame_is ew ow e er or =
      last-put l₂ l₃ n r line_end er or ∙ ap (λ v. put_all v (line_end ∷ [])) e ∙ one-put l l₁ 0 w frame_word (number_parts f ++ (line_end ∷ [])) ew ow

module _ (count : ℕ) (l l₁ l₂ l₃ : List ℕ) (w n r : ℕ) where
  pub noise-is : w ≡ end_after l 0 noise_word → l₁ ≡ out_after l 0 noise_word → waiting l₂ n ≡ put_all (waiting l₁ w) (space ∷ decimal count ∷ [])
      → r ≡ end_after l₂ n line_end → l₃ ≡ out_after l₂ n line_end → waiting l₃ r ≡ put_all (waiting l 0) (noise_parts count)
  noise-is ew ow e₂ er or =
      last-put l₂ l₃ n r line_end er or ∙ two-put l₁ l₂ w n space (decimal count) (line_end ∷ []) e₂
      ∙ one-put l l₁ 0 w noise_word (space ∷ decimal count ∷ line_end ∷ []) ew ow

-- what is said, by its kind; what is no event has no parts
module _ (s : Said) (l : List ℕ) where
  module _ (l' : List ℕ) (r : ℕ) where
    pub parts-frame : (f : Frame) → s ≡ said.Frame f → waiting l' r ≡ put_all (waiting l 0) (frame_parts f) → waiting l' r ≡ put_all (waiting l 0) (parts_of s)
    parts-frame f e p = rw e p

    pub parts-noise : (count : ℕ) → s ≡ said.Noise count → waiting l' r ≡ put_all (waiting l 0) (noise_parts count) → waiting l' r ≡ put_all (waiting l 0) (parts_of s)
    parts-noise count e p = rw e p

  pub parts-hungry : s ≡ said.Hungry → waiting l 0 ≡ put_all (waiting l 0) (parts_of s)
  unfolding put_all
  parts-hungry e = rw e

  pub parts-done : s ≡ said.Done → waiting l 0 ≡ put_all (waiting l 0) (parts_of s)
  unfolding put_all
  parts-done e = rw e

  pub parts-refused : (why : Refusal) → s ≡ said.Refused why → waiting l 0 ≡ put_all (waiting l 0) (parts_of s)
  unfolding put_all
  parts-refused why e = rw e

module _ (s : Said) where
  pub short-frame : (f : Frame) → s ≡ said.Frame f → length (flatten (frame_parts f)) ≤ 80 → length (flatten (parts_of s)) ≤ 80
  short-frame f e h = rw e h

  pub short-noise : (count : ℕ) → s ≡ said.Noise count → length (flatten (noise_parts count)) ≤ 80 → length (flatten (parts_of s)) ≤ 80
  short-noise count e h = rw e h

  pub short-hungry : s ≡ said.Hungry → length (flatten (parts_of s)) ≤ 80
  unfolding flatten
  short-hungry e = rw e (omega arith)

  pub short-done : s ≡ said.Done → length (flatten (parts_of s)) ≤ 80
  unfolding flatten
  short-done e = rw e (omega arith)

  pub short-refused : (why : Refusal) → s ≡ said.Refused why → length (flatten (parts_of s)) ≤ 80
  unfolding flatten
  short-refused why e = rw e (omega arith)

-- the whole line
module _ (s : Said) (l l' : List ℕ) (r : ℕ) (room : 80 ≤ length l) (e : waiting l' r ≡ put_all (waiting l 0) (parts_of s)) (short : length (flatten (parts_of s)) ≤ 80) where
  whole : waiting l' r ≡ waiting (out_after l 0 (line_of s)) (end_after l 0 (line_of s))
  unfolding line_of
  whole = e ∙ put-parts l 0 (parts_of s) (omega arith)

  fits : 0 + length (line_of s) ≤ length l
  unfolding line_of
  fits = omega arith

  none : 0 + length (line_of s) ≡ length (line_of s)
  none = omega arith

  pub line-count : r ≡ length (line_of s)
  line-count = ap (λ w. w.at) whole ∙ end_is l 0 (line_of s) fits ∙ none

  pub line-out : l' ≡ line_of s ++ drop (length (line_of s)) l
  line-out = ap (λ w. w.out) whole ∙ out-is l 0 (line_of s) fits ∙ ap (λ (n : ℕ). line_of s ++ drop n l) none

  line-in : r ≤ length l'
  line-in = omega (arith, line-count, ap (λ w. length w.out) whole, out-length l 0 (line_of s) fits, fits)

  pub line-counts : IsPrefixLen r l'
  line-counts = (line-in, sym (length-take-le r l' line-in))

-- the line said
module _ (s : Said) (l l' : List ℕ) (n : ℕ) (c : n ≡ length (line_of s)) (o : l' ≡ line_of s ++ drop (length (line_of s)) l) where
  front : take n l' ≡ line_of s
  front = rw o (take_at (line_of s) (drop (length (line_of s)) l) n (sym c))

  pub line-waits : (out : List ℕ) (at r : ℕ) → r ≡ waiting_after out at (take n l') → r ≡ waiting_after out at (line_of s)
  line-waits out at r q = rw (← front) q

  pub line-said : (out out' : List ℕ) (at : ℕ) → out' ≡ said_after out at (take n l') → out' ≡ said_after out at (line_of s)
  line-said out out' at q = rw (← front) q
