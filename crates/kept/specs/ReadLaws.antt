-- Laws: what it is that a kept book was read. Proved; assumes nothing.
use Rattle.std.specs.Prelude.{◌≡◌, ◌&&◌, List, ◌++◌, ℕ, ◌*◌, ◌≤◌, length, drop}
use Rattle.std.proofs.Math.Path.{ap, ap₂}
use Rattle.std.proofs.Common.{sym, ◌∙◌, arith, length-append, length-drop}
use Rattle.std.proofs.Math.Bool.{true}
use Rattle.std.proofs.Math.Dec.{leb}
use borrow.Author.Tests.{le-leb}
use Rattle.sizes.specs.Sizes.{book_bytes}
use Rattle.book.specs.Book.{areas_in, bytes_of_all, head_sound, areas_sound, sound}
use Rattle.book.specs.Laws.{head-parts, length-bytes, areas-bytes, sound-bytes}
use Rattle.book.specs.declared.Book.{Book}
use Rattle.kept.specs.Kept.{said, read_head}
use Rattle.kept.specs.AreaRows.{Row}
use Rattle.kept.specs.RoundTrip.{in-sound, head-was}

-- a head that is read is sound
pub head-sound : (s : List ℕ) (book : Book) (rest : List ℕ) → read_head s ≡ said book rest → head_sound book ≡ true
head-sound s book rest e = let w = head-was s book rest e in in-sound w.number book w.says.in-form

-- what is kept: a sound head, and so many areas, ascending
pub record IsKept (book : Book) (l : List ℕ) : Type 0 where
  pub head : head_sound book ≡ true
  pub row : Row book.count 0 l

-- in bytes it is a sound book, and holds those areas
module _ (book : Book) (l t : List ℕ) (k : IsKept book l) where
  pub kept-sound : book_bytes ≤ length (bytes_of_all l ++ t) → sound book (bytes_of_all l ++ t) ≡ true
  unfolding sound
  kept-sound h =
      let z₀ : leb book_bytes (length (bytes_of_all l ++ t)) ≡ true = le-leb book_bytes (length (bytes_of_all l ++ t)) h in
      let z₁ : areas_sound book.count 0 (bytes_of_all l ++ t) ≡ true
      = ap (λ n. areas_sound n 0 (bytes_of_all l ++ t)) (sym k.row.count) ∙ sound-bytes l t 0 k.row.ascending k.row.areas in
      ap₂ (λ x y. x && y) z₀ (ap₂ (λ x y. x && y) k.head z₁)

  pub kept-areas : areas_in book.count (bytes_of_all l ++ t) ≡ l
  kept-areas = ap (λ n. areas_in n (bytes_of_all l ++ t)) (sym k.row.count) ∙ areas-bytes l t 0 k.row.ascending

-- bytes that are left have the length of those lent
pub left-length : (book : Book) (l bytes : List ℕ) → IsKept book l → book_bytes ≤ length bytes → length (bytes_of_all l ++ drop (6 * length l) bytes) ≡ length bytes
left-length book l bytes k h =
    length-append (bytes_of_all l) (drop (6 * length l) bytes)
    ∙ omega (arith, length-bytes l, length-drop (6 * length l) bytes, k.row.count, (head-parts book k.head).1)
