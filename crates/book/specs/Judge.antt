-- Mirror: judging an area of a book by its bytes, and a GAD block by what the book and the earlier blocks say of its ID, without the areas in a row; and, proved, that it comes to the same.
use Rattle.std.specs.Prelude.{◌≡◌, refl, Bool, true, false, cond, ◌&&◌, List, ℕ, ◌+◌, ◌*◌, ◌/◌, ◌%◌, leb, ltb, eqb, length, take, Ok, Err, Some, None}
use Rattle.std.proofs.Common.{ap, sym, ◌∙◌, arith}
use Rattle.answer.specs.Stop.{stop}
use Rattle.answer.specs.Place.{nowhere}
use Rattle.answer.specs.declared.Refusal.TheVariants.{AreaOff, Conflict, BookFull}
use Rattle.area.specs.Area.{sf031, area_off, is_area}
use Rattle.sizes.specs.Sizes.{most_areas}
use Rattle.book.specs.Book.{areas_in, bytes_of_all}
use Rattle.book.specs.Laws.{Ascending}
use Rattle.book.specs.Take.{lookup, insert, Outcome, taken, refused, placed, take_block}
use Rattle.book.specs.TakeLaws.{Took, length-insert}
use Rattle.book.specs.Results.{Found}
use Rattle.book.specs.Results.{Judged}

-- a number that six bytes say is an area's and a zero bit, and its ID is `least` or more
unfoldable pub sound_area : (least x : ℕ) → Bool
sound_area least x = eqb (x % 2) 0 && (leb least (sf031 (x / 2)) && is_area (x / 2))

-- how many areas are held afterwards, or the refusal
abbrev pub judged_by : Outcome → Judged
judged_by (taken l) = Ok (length l)
judged_by (refused r) = Err r

abbrev pub is_taken : Outcome → Bool
is_taken (taken l) = true
is_taken (refused r) = false

abbrev pub judge_found : ℕ → Found → ℕ → Judged
judge_found a (Some b) n = cond (eqb a b) (Ok n) (Err (nowhere Conflict))
judge_found a None n = cond (ltb n most_areas) (Ok (n + 1)) (Err (nowhere BookFull))

abbrev pub judge_block : ℕ → Found → ℕ → Judged
judge_block a f n = cond (area_off a) (Err (nowhere AreaOff)) (judge_found a f n)

pub judge-is : (a : ℕ) (l : List ℕ) → judged_by (take_block a l) ≡ judge_block a (lookup (sf031 a) l) (length l)
unfolding take_block
judge-is a l = go (area_off a) (lookup (sf031 a) l)
  where
    go : (t : Bool) (f : Found) → judged_by (stop t (refused (nowhere AreaOff)) (placed a l f)) ≡ cond t (Err (nowhere AreaOff)) (judge_found a f (length l))
    go true f = refl
    go false (Some b) = by (eqb a b)
      where
        by : (x : Bool) → judged_by (cond x (taken l) (refused (nowhere Conflict))) ≡ cond x (Ok (length l)) (Err (nowhere Conflict))
        by true = refl
        by false = refl
    go false None = by (ltb (length l) most_areas)
      where
        by : (x : Bool) → judged_by (cond x (taken (insert a l)) (refused (nowhere BookFull))) ≡ cond x (Ok (length l + 1)) (Err (nowhere BookFull))
        by true = ap Ok (length-insert a l ∙ omega arith)
        by false = refl

-- the areas after one was taken: they are the same where it was held
abbrev pub grown_by : ℕ → List ℕ → Found → List ℕ
grown_by a l (Some b) = l
grown_by a l None = insert a l

unfoldable pub grown : ℕ → List ℕ → List ℕ
grown a l = grown_by a l (lookup (sf031 a) l)

pub took-grown : (a : ℕ) (l m : List ℕ) → Took a l m → m ≡ grown a l
unfolding grown
took-grown a l m (Took.held q e) = sym (ap (grown_by a l) e)
took-grown a l m (Took.new q e k) = sym (ap (grown_by a l) e)

-- the bytes begin with those of n areas, ascending
pub record Image (n : ℕ) (s : List ℕ) : Type 0 where
  pub ascending : Ascending 0 (areas_in n s)
  pub image : take (6 * n) s ≡ bytes_of_all (areas_in n s)
