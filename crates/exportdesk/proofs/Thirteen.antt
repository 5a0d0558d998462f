-- Laws: a desk taken out of thirteen numbers and put back, worded as the code makes them.
use Rattle.std.specs.Prelude.{Some, None}
use mathlib.Core.Path.{◌≡◌, sym, ap, ◌∙◌}
use mathlib.Core.Bool.{true, false}
use mathlib.Core.List.{List, [], ◌∷◌}
use Prim.Native.Nat.{ℕ, ◌≤◌, ◌<◌}
use lib.Dec.{leb, eqb}
use lib.ListN.{get_or}
use borrow.Author.Tests.{eq-eqb, ne_eqb, le-leb, lt-leb}
use Rattle.codes.specs.declared.Constellation.{Constellation}
use Rattle.codes.specs.declared.Constellation.TheVariants.{Gps}
use Rattle.message.specs.Messages.{constellation_for}
use Rattle.message.specs.Results.{Subtype}
use Rattle.book.specs.declared.Book.{Book}
use Rattle.desk.specs.Results.{Last}
use Rattle.desk.specs.Results.{Run}
use Rattle.export.specs.Numbers.{at_most}
use Rattle.export.specs.Books.{book_in}
use Rattle.exportdesk.specs.States.{known, constellation_in, solution_in, run_in, last_in, desk_in}

-- ---- numbers that may be out of range

module _ (x k : ℕ) (v : Subtype) (p : k ≡ at_most 5 x) (q : v ≡ constellation_for k) where
  said : known v ≡ constellation_in x
  unfolding constellation_in
  said = ap known q ∙ ap (λ (k : ℕ). known (constellation_for k)) p

  pub constellation-known : (c : Constellation) → v ≡ Some c → c ≡ constellation_in x
  constellation-known c e = sym (ap known e) ∙ said

  pub constellation-unknown : v ≡ None → Gps ≡ constellation_in x
  constellation-unknown e = sym (ap known e) ∙ said

module _ (solution constellation running dated : ℕ) where
  pub no-constellation : 4 < constellation → 128 ≡ solution_in solution constellation running dated
  unfolding solution_in
  no-constellation h = let z : leb constellation 4 ≡ false = lt-leb _ _ h in rw z

  pub no_flag : constellation ≤ 4 → 1 < running → 128 ≡ solution_in solution constellation running dated
  unfolding solution_in
  no_flag g h = let y : leb constellation 4 ≡ true = le-leb _ _ g in let z : leb running 1 ≡ false = lt-leb _ _ h in rw (y, z)

  pub no-dated : constellation ≤ 4 → running ≤ 1 → 1 < dated → 128 ≡ solution_in solution constellation running dated
  unfolding solution_in
  no-dated g h k =
      let y : leb constellation 4 ≡ true = le-leb _ _ g in
      let z : leb running 1 ≡ true = le-leb _ _ h in
      let x : leb dated 1 ≡ false = lt-leb _ _ k in
      rw (y, z, x)

  pub solution-is : (r : ℕ) → constellation ≤ 4 → running ≤ 1 → dated ≤ 1 → r ≡ at_most 128 solution → r ≡ solution_in solution constellation running dated
  unfolding solution_in
  solution-is r g h k p =
      let y : leb constellation 4 ≡ true = le-leb _ _ g in
      let z : leb running 1 ≡ true = le-leb _ _ h in
      let x : leb dated 1 ≡ true = le-leb _ _ k in
      rw (y, z, x) p

-- ---- the run, and the desk

module _ (flag tag aiou siou-plus-one areas : ℕ) where
  pub run-closed : flag ≡ 0 → None ≡ run_in flag tag aiou siou-plus-one areas
  unfolding run_in
  run-closed h = let z : eqb flag 0 ≡ true = eq-eqb _ _ h in rw z

  pub run-open : (book : Book) → (flag ≡ 0 → ⊥) → book ≡ book_in (aiou ∷ siou-plus-one ∷ areas ∷ []) → Some (record { tag = tag; book = book }) ≡ run_in flag tag aiou siou-plus-one areas
  unfolding run_in
  run-open book h p = let z : eqb flag 0 ≡ false = ne_eqb _ _ h in rw z (ap (λ (b : Book). Some (record { tag = tag; book = b })) p)

module _ (dated second : ℕ) where
  pub last-never : dated ≡ 0 → None ≡ last_in dated second
  unfolding last_in
  last-never h = let z : eqb dated 0 ≡ true = eq-eqb _ _ h in rw z

  pub last-at : (dated ≡ 0 → ⊥) → Some second ≡ last_in dated second
  unfolding last_in
  last-at h = let z : eqb dated 0 ≡ false = ne_eqb _ _ h in rw z

module _ (s : List ℕ) where
  pub solution-at : (a n0 n2 n6 n11 : ℕ) → a ≡ solution_in n0 n2 n6 n11 → n0 ≡ get_or s 0 0 → n2 ≡ get_or s 2 0 → n6 ≡ get_or s 6 0 → n11 ≡ get_or s 11 0
      → a ≡ solution_in (get_or s 0 0) (get_or s 2 0) (get_or s 6 0) (get_or s 11 0)
  solution-at a n0 n2 n6 n11 p e0 e2 e6 e11 = cc

  pub run_at : (run : Run) (n6 n7 n8 n9 n10 : ℕ)
      → run ≡ run_in n6 n7 n8 n9 n10 → n6 ≡ get_or s 6 0 → n7 ≡ get_or s 7 0 → n8 ≡ get_or s 8 0 → n9 ≡ get_or s 9 0 → n10 ≡ get_or s 10 0
      → run ≡ run_in (get_or s 6 0) (get_or s 7 0) (get_or s 8 0) (get_or s 9 0) (get_or s 10 0)
  run_at run n6 n7 n8 n9 n10 p e6 e7 e8 e9 e10 = cc

  pub second_at : (last : Last) (n11 n12 : ℕ) → last ≡ last_in n11 n12 → n11 ≡ get_or s 11 0 → n12 ≡ get_or s 12 0 → last ≡ last_in (get_or s 11 0) (get_or s 12 0)
  second_at last n11 n12 p e11 e12 = cc

  pub desk-in : (a b : ℕ) (c : Constellation) (book : Book) (run : Run) (last : Last) (n1 n2 n3 n4 n5 : ℕ)
      → a ≡ solution_in (get_or s 0 0) (get_or s 2 0) (get_or s 6 0) (get_or s 11 0)
      → b ≡ at_most 16 n1 → n1 ≡ get_or s 1 0
      → c ≡ constellation_in n2 → n2 ≡ get_or s 2 0
      → book ≡ book_in (n3 ∷ n4 ∷ n5 ∷ []) → n3 ≡ get_or s 3 0 → n4 ≡ get_or s 4 0 → n5 ≡ get_or s 5 0
      → run ≡ run_in (get_or s 6 0) (get_or s 7 0) (get_or s 8 0) (get_or s 9 0) (get_or s 10 0)
      → last ≡ last_in (get_or s 11 0) (get_or s 12 0)
      → record { solution = a; processor = b; constellation = c; book = book; run = run; last = last } ≡ desk_in s
  unfolding desk_in
  desk-in a b c book run last n1 n2 n3 n4 n5 p q e1 t e2 u e3 e4 e5 v w = cc
