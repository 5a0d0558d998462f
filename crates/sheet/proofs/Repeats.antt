-- A row whose group is one cell, and a code put where there is no room, over plain variables: what the proofs of `row` cite for them.
use Rattle.std.specs.Prelude.{Ok, Err}
use mathlib.Core.Path.{◌≡◌, refl, ap, sym, ◌∙◌, subst}
use mathlib.Core.Bool.{Bool, true, false, cond, ◌&&◌, not, false≢true}
use mathlib.Core.List.{List, [], ◌∷◌}
use Prim.Native.Nat.{ℕ, zero, suc, ◌+◌, ◌-◌, ◌%◌, ◌^◌, ◌≤◌, ◌<◌}
use native.Mathlib.Omega.{arith}
use borrow.Author.Tests.{eqb-false, ltb-true, ne_eqb, lt-leb}
use lib.Dec.{eqb, ltb, leb}
use lib.ListN.{length, get_or}
use Rattle.answer.specs.declared.Refusal.TheVariants as refusal
use Rattle.answer.specs.declared.Fault as answer
use Rattle.answer.specs.Place.{fault_at}
use Rattle.bits.specs.Bits.{to_bits, bits_of, leaves}
use Rattle.fields.specs.Packed.{refuses}
use Rattle.rows.specs.Rows.{cells_in, again}
use Rattle.rows.specs.Puts.{onward, writing}
use Rattle.sheet.specs.Results.{Ran}
use Rattle.sheet.specs.Walked.{line_in, one_cell, Walked}
use Rattle.sheet.proofs.Walking.{Writing, writing-first, writing-done, writing-short, writing-fault, writing-again}
use Rattle.sheet.proofs.Walking.{Rounds, rounds-first, rounds-fault, rounds-done, rounds-again}

-- ---- a group of one cell

pub one_none : (group : ℕ) → group ≡ 0 → false ≡ one_cell group
unfolding one_cell
one_none group z = rw z

pub one-some : (group : ℕ) → (group ≡ 0 → ⊥) → ltb group 256 ≡ one_cell group
unfolding one_cell
one-some group n = rw (ne_eqb group 0 n)

pub one-there : (group : ℕ) {b : Bool} → b ≡ one_cell group → b ≡ true → one_cell group ≡ true
one-there group e h = sym e ∙ h

record One (group : ℕ) : Type 0 where
  some : group ≡ 0 → ⊥
  low : group < 256

one-is : (group : ℕ) → one_cell group ≡ true → One group
unfolding one_cell
one-is group e = go (eqb group 0) (ltb group 256) refl refl e
  where
    go : (x y : Bool) → eqb group 0 ≡ x → ltb group 256 ≡ y → (not x && y) ≡ true → One group
    go false true p q e = record { some = eqb-false group 0 p; low = ltb-true group 256 q }
    go false false p q e = absurd (false≢true e)
    go true y p q e = absurd (false≢true e)

-- ---- nowhere to put a code

nothing-there : (x y : Bool) (l : List ℕ) → y ≡ false → to_bits [] ≡ cond (x && y) l (to_bits [])
nothing-there true y l e = rw e
nothing-there false y l e = refl

pub put-nowhere : (out : List ℕ) (pos width code : ℕ) → length out ≡ 0 → to_bits out ≡ leaves out pos width code
unfolding to_bits bits_of
put-nowhere [] zero zero code z = refl
put-nowhere [] (suc pos) zero code z = nothing-there (leb 0 64) (leb (suc pos + 0) 0) _ (lt-leb (suc pos + 0) 0 (omega arith))
put-nowhere [] pos (suc w) code z = nothing-there (leb (suc w) 64) (leb (pos + suc w) 0) _ (lt-leb (pos + suc w) 0 (omega arith))
put-nowhere (b ∷ out) pos width code z = absurd (omega arith)

-- ---- one cell again and again, written

pub record SameWrite (sheet out₀ : List ℕ) (group tail more₀ pos₀ at₀ one same wide : ℕ) (out : List ℕ) (left pos at : ℕ) : Type 0 where
  pub alone : one_cell group ≡ true
  pub cell : one ≡ group % 256
  pub line : same ≡ line_in one
  pub width : wide ≡ same % 256
  pub kept : length out ≡ length out₀
  pub last : ℕ
  pub on : Rounds (writing sheet) group tail more₀ pos₀ at₀ (to_bits out₀) left pos at last (to_bits out)

pub same-write-first : (sheet out : List ℕ) (group tail more₀ pos at one same wide : ℕ) → one_cell group ≡ true → one ≡ group % 256 → same ≡ line_in one
    → wide ≡ same % 256 → SameWrite sheet out group tail more₀ pos at one same wide out more₀ pos at
same-write-first sheet out group tail more₀ pos at one same wide a c l w =
    record {
      alone = a;
      cell = c;
      line = l;
      width = w;
      kept = refl;
      last = 0;
      on = rounds-first (writing sheet) group tail more₀ pos at (to_bits out);
    }

module _ {sheet out₀ : List ℕ} {group tail more₀ pos₀ at₀ one same wide : ℕ} {out : List ℕ} {left pos at : ℕ}
    (t : SameWrite sheet out₀ group tail more₀ pos₀ at₀ one same wide out left pos at) where
  first-put : Writing sheet out group pos at t.last out group pos at t.last
  first-put = writing-first sheet out group pos at t.last

  line-put : same ≡ line_in (group % 256)
  line-put = t.line ∙ ap line_in t.cell

  unwritten : (why : answer.Fault) (r : Ran) → r ≡ Err why → Walked (writing sheet) (cells_in group) pos at t.last (to_bits out) r (to_bits out)
      → Walked (writing sheet) (again (suc more₀) (cells_in group) (cells_in tail)) pos₀ at₀ 0 (to_bits out₀) r (to_bits out)
  unwritten why r e w =
      subst (λ x. Walked (writing sheet) (again (suc more₀) (cells_in group) (cells_in tail)) pos₀ at₀ 0 (to_bits out₀) x (to_bits out)) (sym e) (rounds-fault t.on r (to_bits out) w why e)

  pub same-write-short : (r : Ran) → length sheet ≤ at → r ≡ Err (fault_at refusal.Short one at)
      → Walked (writing sheet) (again (suc more₀) (cells_in group) (cells_in tail)) pos₀ at₀ 0 (to_bits out₀) r (to_bits out)
  same-write-short r h q =
      unwritten (fault_at refusal.Short one at) r q
      (writing-short first-put (one-is group t.alone).some same line-put r h (q ∙ ap (λ (n : ℕ). Err (fault_at refusal.Short n at)) t.cell))

  module _ (h : at < length sheet) (b : Bool) (j : b ≡ refuses same (get_or sheet at 0)) where
    pub same-write-fault : (r : Ran) → b ≡ true → r ≡ Err (fault_at refusal.Field one at)
        → Walked (writing sheet) (again (suc more₀) (cells_in group) (cells_in tail)) pos₀ at₀ 0 (to_bits out₀) r (to_bits out)
    same-write-fault r q i =
        unwritten (fault_at refusal.Field one at) r i
        (writing-fault first-put (one-is group t.alone).some same line-put h b j r q (i ∙ ap (λ (n : ℕ). Err (fault_at refusal.Field n at)) t.cell))

    module _ (out' : List ℕ) (pos' : ℕ) (q : b ≡ false) (kept : length out' ≡ length out) (put : to_bits out' ≡ leaves out pos wide (get_or sheet at 0))
        (moved : (pos' ≡ onward pos wide) × (pos < 2 ^ 33 → pos' < 2 ^ 33)) where
      put-behind : Walked (writing sheet) (cells_in group) pos at t.last (to_bits out) (Ok (record { pos = pos'; at = at + 1; last = get_or sheet at 0 })) (to_bits out')
      put-behind =
          let low : group < 256 = (one-is group t.alone).low in
          writing-done (writing-again first-put (one-is group t.alone).some same line-put h b j wide out' pos' t.width q kept put moved) (omega arith)

      pub same-write-done : left ≡ 0 → (r : Ran) (bits : List ℕ) → Walked (writing sheet) (cells_in tail) pos' (at + 1) (get_or sheet at 0) (to_bits out') r bits
          → Walked (writing sheet) (again (suc more₀) (cells_in group) (cells_in tail)) pos₀ at₀ 0 (to_bits out₀) r bits
      same-write-done z r bits w = rounds-done t.on (Ok (record { pos = pos'; at = at + 1; last = get_or sheet at 0 })) (to_bits out') put-behind pos' (at + 1) (get_or sheet at 0) refl z r bits w

      pub same-write-again : (left ≡ 0 → ⊥) → SameWrite sheet out₀ group tail more₀ pos₀ at₀ one same wide out' (left - 1) pos' (at + 1)
      same-write-again n =
          record {
            alone = t.alone;
            cell = t.cell;
            line = t.line;
            width = t.width;
            kept = kept ∙ t.kept;
            last = get_or sheet at 0;
            on = rounds-again t.on (Ok (record { pos = pos'; at = at + 1; last = get_or sheet at 0 })) (to_bits out') put-behind pos' (at + 1) (get_or sheet at 0) refl n;
          }
