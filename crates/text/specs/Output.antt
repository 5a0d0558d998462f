-- Theorem: nothing that is said is lost. If no text is longer than the buffer, what goes out while texts are said, and then what waits, are what waited before and the texts,
-- one behind the other. Proved.
use Rattle.std.specs.Prelude.{◌≡◌, Bool, ℕ, ◌+◌, ◌≤◌, leb}
use Rattle.std.proofs.Math.Path.{refl, ap}
use Rattle.std.proofs.Common.{sym, ◌∙◌}
use Rattle.std.proofs.Math.Bool.{true, false, cond}
use Rattle.std.proofs.lemmas.Bool.{false≢true}
use mathlib.Core.List.{List, [], ◌∷◌, ◌++◌, append_assoc, append-nil, flatten}
use native.Mathlib.Omega.{arith}
use Rattle.std.proofs.Math.ListN.{length, take}
use borrow.Author.Tests.{leb-true, le-leb}
use Rattle.text.specs.Text.{fits, out_after, place_for, waiting_after, said_after, Waiting, waiting, say_all, goes_out, gone_out, whole_output, Short}
use Rattle.text.specs.Parts.{end_is, out-length, front-is}

-- ---- one text

module _ (out : List ℕ) (at : ℕ) (text : List ℕ) (small : length text ≤ length out) where
  has-place : place_for out at text + length text ≤ length out
  unfolding place_for fits
  has-place = go (fits out at text) refl
    where
      go : (b : Bool) → fits out at text ≡ b → cond b at 0 + length text ≤ length out
      go true e = leb-true (at + length text) (length out) e
      go false e = omega arith

  said-length : length (said_after out at text) ≡ length out
  unfolding said_after
  said-length = out-length out (place_for out at text) text has-place

  said-front : take (waiting_after out at text) (said_after out at text) ≡ take (place_for out at text) out ++ text
  unfolding said_after waiting_after
  said-front =
      ap (λ n. take n (out_after out (place_for out at text) text)) (end_is out (place_for out at text) text has-place)
      ∙ front-is out (place_for out at text) text has-place

  said-inside : waiting_after out at text ≤ length (said_after out at text)
  unfolding waiting_after
  said-inside = omega (arith, end_is out (place_for out at text) text has-place, said-length, has-place)

  -- what goes out before it, and then what waits, are what waited and the text
  said-kept : at ≤ length out → goes_out (waiting out at) text ++ take (waiting_after out at text) (said_after out at text) ≡ take at out ++ text
  unfolding place_for
  said-kept inside = ap (λ x. goes_out (waiting out at) text ++ x) said-front ∙ go (fits out at text) (leb at (length out)) (le-leb at (length out) inside)
    where
      go : (b c : Bool) → c ≡ true → cond b [] (cond c (take at out) []) ++ (take (cond b at 0) out ++ text) ≡ take at out ++ text
      go true c e = refl
      go false true e = refl
      go false false e = absurd (false≢true e)

-- ---- texts; the buffer keeps its length

pub nothing-lost : (texts : List (List ℕ)) (room : ℕ) (out : List ℕ) (at : ℕ) → at ≤ length out → room ≤ length out → Short room texts
    → (gone_out (waiting out at) texts ++ take (say_all (waiting out at) texts).at (say_all (waiting out at) texts).out ≡ take at out ++ flatten texts)
    × (length (say_all (waiting out at) texts).out ≡ length out)
unfolding gone_out say_all flatten
nothing-lost [] room out at i h s = (sym (append-nil (take at out)), refl)
nothing-lost (text ∷ texts) room out at i h s =
    let small : length text ≤ length out = omega (arith, s.0) in
    let gone : List ℕ = goes_out (waiting out at) text in
    let next : Waiting = waiting (said_after out at text) (waiting_after out at text) in
    let l = said-length out at text small in
    let rest = nothing-lost texts room next.out next.at (said-inside out at text small) (omega arith) s.1 in (
      append_assoc gone (gone_out next texts) (take (say_all next texts).at (say_all next texts).out)
          ∙ ap (λ x. gone ++ x) rest.0
          ∙ sym (append_assoc gone (take next.at next.out) (flatten texts))
          ∙ ap (λ x. x ++ flatten texts) (said-kept out at text small i)
          ∙ append_assoc (take at out) text (flatten texts),
      rest.1 ∙ l,
    )

-- So from an empty buffer on all that goes out is the texts.
pub whole_out : (out out' : List ℕ) (at' room : ℕ) (texts : List (List ℕ)) → waiting out' at' ≡ say_all (waiting out 0) texts → room ≤ length out → Short room texts
    → (whole_output out texts out' at' ≡ flatten texts) × (length out' ≡ length out)
whole_out out out' at' room texts e h s =
    let r = nothing-lost texts room out 0 (omega arith) h s in
    (ap (λ w. whole_output out texts w.out w.at) e ∙ r.0, ap (λ w. length w.out) e ∙ r.1)

-- ---- lists of texts

pub short-append : (room : ℕ) (a b : List (List ℕ)) → Short room a → Short room b → Short room (a ++ b)
short-append room [] b s t = t
short-append room (x ∷ a) b s t = (s.0, short-append room a b s.1 t)

pub short-parts : (room : ℕ) (a b : List (List ℕ)) → Short room (a ++ b) → Short room a × Short room b
short-parts room [] b s = (tt, s)
short-parts room (x ∷ a) b s = let r = short-parts room a b s.1 in ((s.0, r.0), r.1)

pub short-more : (room more : ℕ) (texts : List (List ℕ)) → room ≤ more → Short room texts → Short more texts
short-more room more [] h s = tt
short-more room more (x ∷ texts) h s = (omega (arith, s.0), short-more room more texts h s.1)

pub flatten-append : (a b : List (List ℕ)) → flatten (a ++ b) ≡ flatten a ++ flatten b
unfolding flatten
flatten-append [] b = refl
flatten-append (x ∷ a) b = ap (λ l. x ++ l) (flatten-append a b) ∙ sym (append_assoc x (flatten a) (flatten b))

-- texts said, and others behind them
pub say-append : (w : Waiting) (a b : List (List ℕ)) → say_all (say_all w a) b ≡ say_all w (a ++ b)
unfolding say_all
say-append w [] b = refl
say-append w (text ∷ a) b = say-append (waiting (said_after w.out w.at text) (waiting_after w.out w.at text)) a b

-- one text said
pub say-one : (out out' : List ℕ) (at at' : ℕ) (text : List ℕ) → at' ≡ waiting_after out at text → out' ≡ said_after out at text → waiting out' at' ≡ say_all (waiting out at) (text ∷ [])
unfolding say_all
say-one out out' at at' text e o = rw (o, e)

pub say-then : (w : Waiting) {w₁ w₂ : Waiting} (a b : List (List ℕ)) → w₁ ≡ say_all w a → w₂ ≡ say_all w₁ b → w₂ ≡ say_all w (a ++ b)
say-then w a b p q = q ∙ ap (λ v. say_all v b) p ∙ say-append w a b
