-- Parts of lists as the code takes them.
use mathlib.Core.Path.{◌≡◌, refl, sym, ap, ◌∙◌}
use mathlib.Core.List.{List, [], ◌∷◌, ◌++◌}
use Prim.Native.Nat.{ℕ, zero, suc, ◌+◌, ◌-◌, ◌≤◌}
use native.Mathlib.Nat.{zero-add, zero-sub, suc-sub-suc, sub-zero}
use native.Mathlib.Omega.{arith}
use lib.ListN.{length, take, drop, replicate, length-drop, take-append-drop}
use lib.Seq.{take-nil, take_at, drop_at, drop-drop, length-take-le}
use Rattle.std.specs.List.{copy_within}
use Rattle.stream.specs.Walk.{shifted}

-- `&d[a..e]`
pub part-is : (d : List ℕ) (a e : ℕ) → take (e - a) (drop a d) ≡ drop a (take e d)
part-is d zero e = rw sub-zero
part-is [] (suc a) zero = take-nil (zero - suc a)
part-is [] (suc a) (suc e) = take-nil (suc e - suc a)
part-is (x ∷ d) (suc a) zero = rw zero-sub
part-is (x ∷ d) (suc a) (suc e) = rw suc-sub-suc (part-is d a e)

pub length_part : (d : List ℕ) (a e : ℕ) → e ≤ length d → length (drop a (take e d)) ≡ e - a
length_part d a e h = length-drop a (take e d) ∙ rw (length-take-le e d h)

-- ---- the first of the bytes held go: the rest comes to the front, and zeros over what it leaves

pub shift_none : (d : List ℕ) (held start : ℕ) → start ≡ 0 → d ≡ shifted d held start
unfolding shifted
shift_none d held start e = rw e (sym (take-append-drop held d))

module _ (d moved zeroed : List ℕ) (held start : ℕ) (sh : start ≤ held) (hd : held ≤ length d) (p : moved ≡ copy_within d start held 0)
    (q : ((y : ℕ) → y ≡ 0 → y ≡ 0) → zeroed ≡ replicate (length (take (held - (held - start)) (drop (held - start) moved))) 0) where
  parts : moved ≡ take (held - start) (drop start d) ++ drop (held - start) d
  parts = p ∙ ap (λ n. take (held - start) (drop start d) ++ drop n d) (zero-add (held - start))

  fits : length (take (held - start) (drop start d)) ≡ held - start
  fits = length-take-le (held - start) (drop start d) (omega (arith, length-drop start d))

  front : take (held - start) moved ≡ drop start (take held d)
  front = ap (take (held - start)) parts ∙ take_at _ _ (held - start) fits ∙ part-is d start held

  rest : drop (held - start) moved ≡ drop (held - start) d
  rest = ap (drop (held - start)) parts ∙ drop_at _ _ (held - start) fits

  pub shift-done : take (held - start) moved ++ (zeroed ++ drop (held - (held - start)) (drop (held - start) moved)) ≡ shifted d held start
  unfolding shifted
  shift-done =
      let k : held - (held - start) ≡ start = omega arith in
      let n : held - start + start ≡ held = omega arith in
      let l : length (take start (drop (held - start) d)) ≡ start = length-take-le start (drop (held - start) d) (omega (arith, length-drop (held - start) d)) in
      rw (q (λ y e. e), front, rest, k, l, drop-drop start (held - start) d, n) refl
