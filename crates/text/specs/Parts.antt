-- Laws of `put`: with room for it, a text that is put part by part is put whole. Proved.
use Rattle.std.specs.Prelude.{◌≡◌, ℕ, ◌+◌, ◌≤◌, take, drop}
use Rattle.std.proofs.Common.{sym, ap, ap₂, ◌∙◌, arith, length-append, length-drop, take-append-drop, take_at, drop_at, drop-drop, length-take-le, le-leb}
use mathlib.Core.List.{List, [], ◌∷◌, ◌++◌, append_assoc, flatten}
use Rattle.std.proofs.Math.ListN.{length}
use Rattle.text.specs.Text.{fits, end_after, out_after, waiting, put_all}

module _ (out : List ℕ) (at : ℕ) (text : List ℕ) (room : at + length text ≤ length out) where
  -- where a text with room ends, and the buffer then
  pub end_is : end_after out at text ≡ at + length text
  unfolding end_after fits
  end_is = rw (le-leb (at + length text) (length out) room)

  pub out-is : out_after out at text ≡ take at out ++ (text ++ drop (at + length text) out)
  unfolding out_after fits
  out-is = rw (le-leb (at + length text) (length out) room)

  -- the buffer keeps its length
  pub out-length : length (out_after out at text) ≡ length out
  out-length =
      rw out-is (
      rw (
        length-append (take at out) (text ++ drop (at + length text) out),
        length-append text (drop (at + length text) out),
        length-drop (at + length text) out,
        length-take-le at out (omega arith),
      ) (omega arith))

  front_length : length (take at out ++ text) ≡ at + length text
  front_length = rw (length-append (take at out) text, length-take-le at out (omega arith))

  -- what stands before its end, and behind it
  pub front-is : take (at + length text) (out_after out at text) ≡ take at out ++ text
  front-is =
      rw (out-is, ← append_assoc (take at out) text (drop (at + length text) out)) (
      take_at (take at out ++ text) (drop (at + length text) out) (at + length text) front_length)

  pub rest-is : drop (at + length text) (out_after out at text) ≡ drop (at + length text) out
  rest-is =
      rw (out-is, ← append_assoc (take at out) text (drop (at + length text) out)) (
      drop_at (take at out ++ text) (drop (at + length text) out) (at + length text) front_length)

-- a text put in two parts
module _ (out : List ℕ) (at : ℕ) (a b : List ℕ) (room : at + (length a + length b) ≤ length out) where
  first : at + length a ≤ length out
  first = omega arith

  second : at + length a + length b ≤ length (out_after out at a)
  second = rw (out-length out at a first) (omega arith)

  whole : at + length (a ++ b) ≤ length out
  whole = rw (length-append a b) room

  places : at + length a + length b ≡ at + length (a ++ b)
  places = rw (length-append a b) (omega arith)

  pub end-both : end_after (out_after out at a) (end_after out at a) b ≡ end_after out at (a ++ b)
  end-both =
      rw (end_is out at a first, end_is (out_after out at a) (at + length a) b second, end_is out at (a ++ b) whole, length-append a b) (omega arith)

  pub out_both : out_after (out_after out at a) (end_after out at a) b ≡ out_after out at (a ++ b)
  out_both =
      rw (end_is out at a first) (
      out-is (out_after out at a) (at + length a) b second
      ∙ ap₂ (λ x y. x ++ (b ++ y)) (front-is out at a first) (sym (drop-drop (length b) (at + length a) (out_after out at a)) ∙ ap (drop (length b)) (rest-is out at a first) ∙ drop-drop (length b) (at + length a) out)
      ∙ append_assoc (take at out) a (b ++ drop (at + length a + length b) out)
      ∙ ap (λ l. take at out ++ l) (sym (append_assoc a b (drop (at + length a + length b) out)) ∙ ap (λ (n : ℕ). (a ++ b) ++ drop n out) places)
      ∙ sym (out-is out at (a ++ b) whole))

-- and in any number of parts
pub put-parts : (out : List ℕ) (at : ℕ) (texts : List (List ℕ)) → at + length (flatten texts) ≤ length out
    → put_all (waiting out at) texts ≡ waiting (out_after out at (flatten texts)) (end_after out at (flatten texts))
unfolding flatten put_all
put-parts out at [] room =
    let z : at + length {A = ℕ} [] ≡ at = omega arith in
    let e : end_after out at [] ≡ at = end_is out at [] room ∙ z in
    let o : out_after out at [] ≡ out = out-is out at [] room ∙ ap (λ (n : ℕ). take at out ++ drop n out) z ∙ take-append-drop at out in
    λ i. waiting (sym o i) (sym e i)
put-parts out at (text ∷ texts) room =
    let h : at + (length text + length (flatten texts)) ≤ length out = rw (length-append text (flatten texts)) at room in
    let h₁ : end_after out at text + length (flatten texts) ≤ length (out_after out at text)
    = rw (end_is out at text (omega arith), out-length out at text (omega arith)) (omega arith) in
    put-parts (out_after out at text) (end_after out at text) texts h₁
    ∙ (λ i. waiting (out_both out at text (flatten texts) h i) (end-both out at text (flatten texts) h i))
