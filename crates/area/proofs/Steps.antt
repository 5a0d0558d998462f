-- One lemma for each answer, in plain variables, its premises worded as the code makes them. Assumes nothing.
use Rattle.std.specs.Prelude.{◌≡◌, refl, Bool, true, false, cond, List, [], ◌++◌, ℕ, ◌+◌, ◌-◌, ◌/◌, ◌%◌, ◌≤◌, leb, ltb, length, take, drop}
use Rattle.std.proofs.Common.{sym, ap, ap₂, ◌∙◌, arith, le-leb, le-ltb, leb-true, leb-false, length-drop, drop-drop, append-nil, take_all, take-append-drop}
use Rattle.std.proofs.lemmas.Bool.{lt-leb}
use Rattle.std.proofs.lemmas.List.{drop_all}
use Rattle.area.specs.Laws.{not-off}
use Rattle.area.specs.Area.{area_off, bytes_of, put_at}

pub never-off : (a : ℕ) → 224 ≤ a / 268435456 % 2048 → ltb (a / 268435456 % 2048) 224 ≡ area_off a
never-off a h = le-ltb _ 224 h ∙ sym (not-off a h)

same-room : (s : List ℕ) (at : ℕ) → leb 6 (length (drop at s)) ≡ leb (at + 6) (length s)
same-room s at = go (leb (at + 6) (length s)) refl
  where
    go : (b : Bool) → leb (at + 6) (length s) ≡ b → leb 6 (length (drop at s)) ≡ b
    go true q = le-leb 6 _ (omega (arith, length-drop at s, leb-true (at + 6) (length s) q))
    go false q = lt-leb 6 _ (omega (arith, length-drop at s, leb-false (at + 6) (length s) q))

pub put-behind : (s part : List ℕ) (at a : ℕ) → at ≤ length s → part ≡ put_at (take (length s - at) (drop at s)) 0 a
    → take at s ++ (part ++ drop (length s - at) (drop at s)) ≡ put_at s at a
put-behind s part at a h e =
    let whole : take (length s - at) (drop at s) ≡ drop at s = take_all _ (drop at s) (omega (arith, length-drop at s)) in
    let none : drop (length s - at) (drop at s) ≡ [] = drop_all _ (drop at s) (omega (arith, length-drop at s)) in
    let there : part ≡ cond (leb (at + 6) (length s)) (bytes_of a ++ drop (at + 6) s) (drop at s)
    = e ∙ ap (λ x. put_at x 0 a) whole ∙ ap₂ (λ b x. cond b (bytes_of a ++ x) (drop at s)) (same-room s at) (drop-drop 6 at s) in
    ap₂ (λ x y. take at s ++ (x ++ y)) there none ∙ ap (λ x. take at s ++ x) (append-nil _) ∙ go (leb (at + 6) (length s))
  where
    go : (b : Bool) → take at s ++ cond b (bytes_of a ++ drop (at + 6) s) (drop at s) ≡ cond b (take at s ++ (bytes_of a ++ drop (at + 6) s)) s
    go true = refl
    go false = take-append-drop at s
