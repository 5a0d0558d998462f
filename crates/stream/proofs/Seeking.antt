-- The search for a preamble in plain values: windows without one are passed over as a whole.
use Rattle.std.proofs.Common.{◌≡◌, refl, sym, ap, ◌∙◌, ℕ, zero, suc, ◌+◌, ◌-◌, ◌*◌, ◌≤◌, ◌<◌, Bool, true, false, not, List, [], ◌∷◌, ◌++◌, ◌==◌, length, take, drop, arith, Option, Some, None, length-take-le, length-drop, take_all}
use Rattle.std.specs.Prelude.{cond, nat_lt, ◌&&◌}
use Rattle.std.specs.List.{list_all, prefix_len, position, position_or_len}
use Rattle.std.specs.Option.{unwrap_or}
use Rattle.std.proofs.lemmas.List.{take-append-drop, drop-drop}
use Rattle.std.proofs.lemmas.List.Folds.{prefix_len-append}
use Rattle.std.proofs.lemmas.List.Sums.{prefix_len-le-length}
use borrow.Author.Tests.{eq-eqb, ltb-false}

abbrev met : ℕ → Bool
met byte = byte == 0x73

abbrev other : ℕ → Bool
other byte = not (met byte)

all_pass : (p : ℕ → Bool) (xs : List ℕ) → list_all p xs ≡ true → prefix_len p xs ≡ length xs
all_pass p [] e = refl
all_pass p (x ∷ xs) e = go (p x) e (all_pass p xs)
  where
    go : (b : Bool) → (b && list_all p xs) ≡ true → (list_all p xs ≡ true → prefix_len p xs ≡ length xs) → cond b (1 + prefix_len p xs) 0 ≡ suc (length xs)
    go true e rest = let h = rest e in omega arith
    go false e rest = let z : ◌≡◌ {A = ℕ} 0 1 = cc in absurd (omega arith)

window-passed : (window rest : List ℕ) → list_all other window ≡ true → position_or_len met (window ++ rest) ≡ length window + position_or_len met rest
window-passed window rest e = prefix_len-append other window rest ∙ rw (all_pass other window e, eq-eqb (length window) (length window) refl) refl

windows_passed : (n : ℕ) (bytes : List ℕ) → n * 64 ≤ length bytes → ((k : ℕ) → k < n → list_all other (take 64 (drop (k * 64) bytes)) ≡ true)
    → position_or_len met bytes ≡ n * 64 + position_or_len met (drop (n * 64) bytes)
windows_passed zero bytes h c = omega arith
windows_passed (suc n) bytes h c =
    let rest = drop (n * 64) bytes in
    let next : n * 64 + 64 ≡ suc n * 64 = omega arith in
    let w : length (take 64 rest) ≡ 64 = length-take-le 64 rest (omega (arith, length-drop (n * 64) bytes)) in
    let s : position_or_len met rest ≡ 64 + position_or_len met (drop (suc n * 64) bytes) =
    ap (position_or_len met) (sym (take-append-drop 64 rest)) ∙ window-passed (take 64 rest) (drop 64 rest) (c n (omega arith)) ∙ rw (w, drop-drop 64 (n * 64) bytes, next) refl in
    windows_passed n bytes (omega arith) (λ k l. c k (omega arith)) ∙ omega (arith, s)

-- all, where there is none
found_or_all : (p : ℕ → Bool) (xs : List ℕ) → unwrap_or (position p xs) (length xs) ≡ position_or_len p xs
found_or_all p xs = go (nat_lt (position_or_len p xs) (length xs)) refl
  where
    go : (b : Bool) → nat_lt (position_or_len p xs) (length xs) ≡ b → unwrap_or (cond b (Some (position_or_len p xs)) None) (length xs) ≡ position_or_len p xs
    go true e = refl
    go false e = omega (arith, ltb-false _ _ e, prefix_len-le-length (λ x. not (p x)) xs)

pub preamble-found : (bytes : List ℕ) (n : ℕ) (o : Option ℕ) (r : ℕ) → n * 64 ≤ length bytes → ((k : ℕ) → k < n → list_all (λ byte. not (byte == 0x73)) (take 64 (drop (k * 64) bytes)) ≡ true)
    → o ≡ position (λ byte. byte == 0x73) (take (length bytes - n * 64) (drop (n * 64) bytes)) → r ≡ unwrap_or o (length (take (length bytes - n * 64) (drop (n * 64) bytes)))
    → n * 64 + r ≡ position_or_len (λ byte. byte == 0x73) bytes
preamble-found bytes n o r h c p u =
    let t : take (length bytes - n * 64) (drop (n * 64) bytes) ≡ drop (n * 64) bytes = take_all _ _ (omega (arith, length-drop (n * 64) bytes)) in
    let f : r ≡ position_or_len met (drop (n * 64) bytes) = u ∙ rw (p, t) (found_or_all met (drop (n * 64) bytes)) in
    omega (arith, f, windows_passed n bytes h c)
