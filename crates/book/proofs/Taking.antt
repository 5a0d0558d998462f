-- One lemma for each turn and each answer of the functions that take a GAD, in plain variables, premises worded as the code makes them. Assumes nothing.
use Rattle.std.specs.Prelude.{Ok, Err, Some, None}
use mathlib.Core.Path.{◌≡◌, refl, ap, ap₂, sym, ◌∙◌, subst}
use mathlib.Core.Bool.{Bool, true, false, cond}
use mathlib.Core.List.{List, [], ◌∷◌, ◌++◌, append_assoc, append-nil}
use Prim.Native.Nat.{ℕ, zero, suc, ◌+◌, ◌-◌, ◌*◌, ◌^◌, ◌≤◌, ◌<◌}
use native.Mathlib.Omega.{arith}
use native.Mathlib.Numerals.{add-one}
use lib.Dec.{leb, ltb}
use lib.ListN.{length, get_or, take, drop, length-append, length-drop, take-append-drop}
use lib.Seq.{drop-drop, drop_at, take_at, length-take-le}
use Rattle.std.specs.List.{copy_within}
use Rattle.std.specs.Option.{is_some}
use Rattle.std.proofs.lemmas.List.{take-append-le, take-take}
use borrow.Author.Tests.{lt-ltb, le-ltb, le-leb, ltb-true, ltb-false}
use Rattle.answer.specs.declared.Fault as answer
use mir.Syntax.{w8}
use mir.Val.{Fits}
use Rattle.sizes.specs.Sizes.{most_areas, book_bytes}
use Rattle.area.specs.Area.{sf031, bytes_of, put_at}
use Rattle.book.specs.Book.{book_of, areas_in, bytes_of_all, sound}
use Rattle.book.specs.Laws.{Ascending, length-areas, length-bytes, bytes-join, areas-bytes}
use Rattle.book.specs.Payload.{siou_of, aiou_of, block_count, block_at, blocks_from, blocks_of, take_bits}
use Rattle.book.specs.Take.{lookup, insert, Outcome, taken, refused, and_then, take_block, take_all, is_under, before, answer_of, left_by}
use Rattle.book.specs.TakeLaws.{is-under, other-aiou, other-siou, or_else, or_assoc, or_nothing, lookup-append, Took, took, took-all, all_same, lookup-block, ascending-block, length-block, block-grows, length-insert}
use Rattle.book.specs.Search.{Below, below_up, below-snoc, take-insert, Passed, Reached, reached-found}
use Rattle.book.specs.Judge.{judged_by, is_taken, judge_block, judge-is, grown_by, grown, took-grown, Image}
use Rattle.book.specs.declared.Book.{Book}
use Rattle.book.specs.Results.{Found}
use Rattle.book.specs.Results.{Judged}
use Rattle.book.proofs.Reading.{areas-left, sound-count, sound-image}
use Rattle.book.proofs.Blocks.{none-there}

-- ---- the blocks one after the other

blocks-next : (n i : ℕ) (p : List ℕ) → i < n → blocks_from (n - i) i p ≡ block_at p i ∷ blocks_from (n - (i + 1)) (i + 1) p
unfolding blocks_from
blocks-next n i p h =
    ap (λ k. blocks_from k i p) (areas-left n i h) ∙ ap (λ j. block_at p i ∷ blocks_from (n - (i + 1)) j p) (sym (add-one i))

blocks_end : (n i : ℕ) (p : List ℕ) → n ≤ i → blocks_from (n - i) i p ≡ []
unfolding blocks_from
blocks_end n i p h = let e : n - i ≡ 0 = omega arith in ap (λ k. blocks_from k i p) e

blocks-snoc : (i j : ℕ) (p : List ℕ) → blocks_from (suc i) j p ≡ blocks_from i j p ++ (block_at p (j + i) ∷ [])
unfolding blocks_from
blocks-snoc zero j p = ap (λ k. block_at p k ∷ []) {x = j} {y = j + 0} (omega arith)
blocks-snoc (suc i) j p =
    ap (λ l. block_at p j ∷ l) (blocks-snoc i (suc j) p ∙ ap (λ k. blocks_from i (suc j) p ++ (block_at p k ∷ [])) {x = suc j + i} {y = j + suc i} (omega arith))

-- one block more has an ID below the next least one
pub blocks-below : (p : List ℕ) (i x d least up : ℕ) → Below least (blocks_from i 0 p) → x ≡ block_at p i → d ≡ sf031 x → least ≤ up → d < up → Below up (blocks_from (i + 1) 0 p)
blocks-below p i x d least up q ex ed h k =
    subst (λ l. Below up l) (ap (λ j. blocks_from i 0 p ++ (block_at p j ∷ [])) {x = i} {y = 0 + i} (omega arith) ∙ sym (blocks-snoc i 0 p) ∙ ap (λ j. blocks_from j 0 p) (sym (add-one i)))
    (below-snoc up (block_at p i) (blocks_from i 0 p) (below_up least up (blocks_from i 0 p) h q) (subst (λ y. y < up) (ed ∙ ap sf031 ex) k))

pub no_blocks : (p : List ℕ) (least : ℕ) → Below least (blocks_from 0 0 p)
unfolding blocks_from
no_blocks p least = Below.none

-- ---- judging

-- so many areas are held: these
pub record IsHeld (o : Outcome) (n : ℕ) : Type 0 where
  pub list : List ℕ
  pub is : o ≡ taken list
  pub many : length list ≡ n

is_held : (o : Outcome) (n : ℕ) → Ok n ≡ judged_by o → IsHeld o n
is_held (taken l) n e = record { list = l; is = refl; many = cc }
is_held (refused r) n e = let z : ◌≡◌ {A = ℕ} 0 1 = cc in absurd (omega arith)

is-refused : (o : Outcome) (r : answer.Fault) → Err r ≡ judged_by o → o ≡ refused r
is-refused (taken l) r e = let z : ◌≡◌ {A = ℕ} 0 1 = cc in absurd (omega arith)
is-refused (refused q) r e = cc

-- the areas held after the blocks before block i, and what is still to be answered
pub record JudgingBlocks (s p : List ℕ) (count n i held : ℕ) : Type 0 where
  pub areas : List ℕ
  pub inside : i ≤ n
  pub ends : take_all (blocks_from (n - i) i p) areas ≡ take_all (blocks_of p) (areas_in count s)
  pub many : length areas ≡ held
  pub looks : (id : ℕ) → lookup id areas ≡ or_else (lookup id (areas_in count s)) (lookup id (blocks_from i 0 p))

pub judge-start : (s p : List ℕ) (count n : ℕ) → n ≡ block_count p → JudgingBlocks s p count n 0 count
unfolding blocks_from lookup
judge-start s p count n e =
    record {
      areas = areas_in count s;
      inside = omega arith;
      ends = ap (λ k. take_all (blocks_from k 0 p) (areas_in count s)) {x = n - 0} {y = block_count p} (omega arith);
      many = length-areas count s;
      looks = λ id. sym (or_nothing (lookup id (areas_in count s)));
    }

pub judge-end : (s p : List ℕ) (count n i held : ℕ) → JudgingBlocks s p count n i held → n ≤ i → Ok held ≡ judged_by (take_all (blocks_of p) (areas_in count s))
unfolding take_all
judge-end s p count n i held q h =
    ap Ok (sym q.many) ∙ ap judged_by (ap (λ l. take_all l q.areas) (sym (blocks_end n i p h)) ∙ q.ends)

module _ (s p : List ℕ) (count n i held : ℕ) (q : JudgingBlocks s p count n i held) (h : i < n) (x : ℕ) (ex : x ≡ block_at p i) (d : ℕ) (ed : d ≡ sf031 x)
    (f : Found) (ef : f ≡ or_else (lookup d (areas_in count s)) (lookup d (blocks_from i 0 p))) (v : Judged) (e : v ≡ judge_block x f held) where
  judged : v ≡ judged_by (take_block (block_at p i) q.areas)
  judged =
      e ∙ ap₂ (λ x f. judge_block x f held) ex (ef ∙ sym (q.looks d) ∙ ap (λ d. lookup d q.areas) (ed ∙ ap sf031 ex))
      ∙ ap (λ n. judge_block (block_at p i) (lookup (sf031 (block_at p i)) q.areas) n) (sym q.many)
      ∙ sym (judge-is (block_at p i) q.areas)

  opened : and_then (take_block (block_at p i) q.areas) (λ l. take_all (blocks_from (n - (i + 1)) (i + 1) p) l) ≡ take_all (blocks_of p) (areas_in count s)
  unfolding take_all
  opened = ap (λ l. take_all l q.areas) (sym (blocks-next n i p h)) ∙ q.ends

  pub judge-refused : (r : answer.Fault) → v ≡ Err r → Err r ≡ judged_by (take_all (blocks_of p) (areas_in count s))
  judge-refused r z =
      ap judged_by (ap (λ o. and_then o (λ l. take_all (blocks_from (n - (i + 1)) (i + 1) p) l)) (sym (is-refused (take_block (block_at p i) q.areas) r (sym z ∙ judged))) ∙ opened)

  pub judge-turn : (m : ℕ) → v ≡ Ok m → JudgingBlocks s p count n (i + 1) m
  judge-turn m z =
      let w : IsHeld (take_block (block_at p i) q.areas) m = is_held _ m (sym z ∙ judged) in
      record {
        areas = w.list;
        inside = omega arith;
        ends = ap (λ o. and_then o (λ l. take_all (blocks_from (n - (i + 1)) (i + 1) p) l)) (sym w.is) ∙ opened;
        many = w.many;
        looks = λ id.
            lookup-block id (block_at p i) q.areas w.list (took (block_at p i) q.areas w.list w.is)
            ∙ ap (λ f. or_else f (lookup id (block_at p i ∷ []))) (q.looks id)
            ∙ or_assoc (lookup id (areas_in count s)) (lookup id (blocks_from i 0 p)) (lookup id (block_at p i ∷ []))
            ∙ ap (or_else (lookup id (areas_in count s)))
            (sym (lookup-append id (blocks_from i 0 p) (block_at p i ∷ [])) ∙ ap (lookup id)
            (ap (λ k. blocks_from i 0 p ++ (block_at p k ∷ [])) {x = i} {y = 0 + i} (omega arith) ∙ sym (blocks-snoc i 0 p) ∙ ap (λ k. blocks_from k 0 p) (sym (add-one i))));
      }

-- ---- a new area takes its place

bytes-snoc : (d t : List ℕ) (c : ℕ) → bytes_of_all d ++ (bytes_of c ++ t) ≡ bytes_of_all (d ++ (c ∷ [])) ++ t
unfolding bytes_of_all
bytes-snoc d t c =
    sym (append_assoc (bytes_of_all d) (bytes_of c) t)
    ∙ ap (λ l. l ++ t) (sym (bytes-join d (c ∷ []) ∙ ap (λ l. bytes_of_all d ++ l) (append-nil (bytes_of c))))

-- six bytes put behind areas are one area more
pub put-image : (d t b : List ℕ) (i c : ℕ) → b ≡ bytes_of_all d ++ t → length d ≡ i → 6 ≤ length t → put_at b (6 * i) c ≡ bytes_of_all (d ++ (c ∷ [])) ++ drop 6 t
put-image d t b i c e f h =
    let n : length (bytes_of_all d) ≡ 6 * i = length-bytes d ∙ ap (λ k. 6 * k) f in
    let m : length b ≡ 6 * i + length t = ap length e ∙ length-append (bytes_of_all d) t ∙ ap (λ k. k + length t) n in
    let z : leb (6 * i + 6) (length b) ≡ true = le-leb (6 * i + 6) (length b) (omega arith) in
    let first : take (6 * i) b ≡ bytes_of_all d = ap (take (6 * i)) e ∙ take_at (bytes_of_all d) t (6 * i) n in
    let last : drop (6 * i + 6) b ≡ drop 6 t
    = sym (drop-drop 6 (6 * i) b) ∙ ap (λ l. drop 6 (drop (6 * i) l)) e ∙ ap (drop 6) (drop_at (bytes_of_all d) t (6 * i) n) in
    rw z
    (ap₂ (λ x y. x ++ (bytes_of c ++ y)) first last ∙ bytes-snoc d (drop 6 t) c)

-- behind those with a smaller ID and before the others
insert-place : (a r : ℕ) (l : List ℕ) → Below (sf031 a) (take r l) → r ≤ length l → (r < length l → sf031 a < sf031 (get_or l r 0)) → take r l ++ (a ∷ drop r l) ≡ insert a l
unfolding insert
insert-place a zero [] p h k = refl
insert-place a zero (b ∷ l) p h k = rw (lt-ltb (sf031 a) (sf031 b) (k (omega arith)))
insert-place a (suc r) [] p h k = absurd (omega arith)
insert-place a (suc r) (b ∷ l) (Below.more q p) h k =
    rw (le-ltb (sf031 a) (sf031 b) (omega arith)) (ap (λ l. b ∷ l) (insert-place a r l p (omega arith) (λ x. k (omega arith))))

module _ (s : List ℕ) (n r a : ℕ) (p : Image n s) (q : Reached (sf031 a) n s r) (new : lookup (sf031 a) (areas_in n s) ≡ None) (fits : 6 * n + 6 ≤ length s) where
  abbrev up : List ℕ
  up = take r (areas_in n s)

  abbrev down : List ℕ
  down = drop r (areas_in n s)

  placed-there : up ++ (a ∷ down) ≡ insert a (areas_in n s)
  placed-there =
      insert-place a r (areas_in n s) q.below (omega (arith, length-areas n s, q.inside)) (λ h. above (omega (arith, length-areas n s)))
    where
      above : r < n → sf031 a < sf031 (get_or (areas_in n s) r 0)
      above h = go (ltb (sf031 a) (sf031 (get_or (areas_in n s) r 0))) refl
        where
          go : (b : Bool) → ltb (sf031 a) (sf031 (get_or (areas_in n s) r 0)) ≡ b → sf031 a < sf031 (get_or (areas_in n s) r 0)
          go true e = ltb-true _ _ e
          go false e =
              let same : sf031 (get_or (areas_in n s) r 0) ≡ sf031 a = omega (arith, ltb-false _ _ e, q.above h) in
              let z : Some (get_or (areas_in n s) r 0) ≡ None = sym (reached-found (sf031 a) n r s p.ascending q h same) ∙ new in
              let w : ◌≡◌ {A = ℕ} 0 1 = cc in absurd (omega arith)

  -- the bytes are those of the areas before and behind its place, and the rest
  length-up : length (bytes_of_all up) ≡ 6 * r
  length-up = length-bytes up ∙ ap (λ k. 6 * k) (length-take-le r (areas_in n s) (omega (arith, length-areas n s, q.inside)))

  length-down : length (bytes_of_all down) ≡ 6 * n - 6 * r
  length-down = length-bytes down ∙ omega (arith, length-drop r (areas_in n s), length-areas n s, q.inside)

  parted : s ≡ bytes_of_all up ++ (bytes_of_all down ++ drop (6 * n) s)
  parted =
      sym (take-append-drop (6 * n) s) ∙ ap (λ b. b ++ drop (6 * n) s) (p.image ∙ ap bytes_of_all (sym (take-append-drop r (areas_in n s))) ∙ bytes-join up down)
      ∙ append_assoc (bytes_of_all up) (bytes_of_all down) (drop (6 * n) s)

  module _ (t : List ℕ) (et : t ≡ copy_within s (6 * r) (6 * n) (6 * r + 6)) where
    laid-out : t ≡ take (6 * r + 6) s ++ (take (6 * n - 6 * r) (drop (6 * r) s) ++ drop (6 * r + 6 + (6 * n - 6 * r)) s)
    laid-out = et ∙ append_assoc (take (6 * r + 6) s) (take (6 * n - 6 * r) (drop (6 * r) s)) (drop (6 * r + 6 + (6 * n - 6 * r)) s)

    moved-up : take (6 * r) t ≡ bytes_of_all up
    moved-up =
        ap (take (6 * r)) laid-out
        ∙ take-append-le (6 * r) (take (6 * r + 6) s) (take (6 * n - 6 * r) (drop (6 * r) s) ++ drop (6 * r + 6 + (6 * n - 6 * r)) s) (omega (arith, length-take-le (6 * r + 6) s (omega (arith, q.inside))))
        ∙ take-take (6 * r) (6 * r + 6) s (omega arith)
        ∙ ap (take (6 * r)) parted ∙ take_at (bytes_of_all up) (bytes_of_all down ++ drop (6 * n) s) (6 * r) length-up

    moved-down : drop (6 * r + 6) t ≡ bytes_of_all down ++ drop (6 * n + 6) s
    moved-down =
        let m : ℕ = 6 * n - 6 * r in
        let end : 6 * r + 6 + m ≡ 6 * n + 6 = omega (arith, q.inside) in
        let behind : drop (6 * r) s ≡ bytes_of_all down ++ drop (6 * n) s
        = ap (drop (6 * r)) parted ∙ drop_at (bytes_of_all up) (bytes_of_all down ++ drop (6 * n) s) (6 * r) length-up in
        ap (drop (6 * r + 6)) laid-out
        ∙ drop_at (take (6 * r + 6) s) (take m (drop (6 * r) s) ++ drop (6 * r + 6 + m) s) (6 * r + 6) (length-take-le (6 * r + 6) s (omega (arith, q.inside)))
        ∙ ap₂ (λ x k. x ++ drop k s) (ap (take m) behind ∙ take_at (bytes_of_all down) (drop (6 * n) s) m length-down) end

    pub insert-put : length t ≡ length s → (z : List ℕ) → z ≡ put_at t (6 * r) a → z ≡ bytes_of_all (insert a (areas_in n s)) ++ drop (6 * n + 6) s
    unfolding bytes_of_all
    insert-put same z ez =
        let room : leb (6 * r + 6) (length t) ≡ true = le-leb (6 * r + 6) (length t) (omega (arith, q.inside)) in
        ez ∙ ap (λ b. cond b (take (6 * r) t ++ (bytes_of a ++ drop (6 * r + 6) t)) t) room
        ∙ ap₂ (λ x y. x ++ (bytes_of a ++ y)) moved-up moved-down
        ∙ ap (λ x. bytes_of_all up ++ x) (sym (append_assoc (bytes_of a) (bytes_of_all down) (drop (6 * n + 6) s)))
        ∙ sym (append_assoc (bytes_of_all up) (bytes_of_all (a ∷ down)) (drop (6 * n + 6) s))
        ∙ ap (λ x. x ++ drop (6 * n + 6) s) (sym (bytes-join up (a ∷ down)) ∙ ap bytes_of_all placed-there)

-- ---- a block that may be held already

take-grown : (a r : ℕ) (l : List ℕ) → Below (sf031 a) (take r l) → r ≤ length l → take r (grown a l) ≡ take r l
unfolding grown
take-grown a r l p h = go (lookup (sf031 a) l)
  where
    go : (f : Found) → take r (grown_by a l f) ≡ take r l
    go (Some b) = refl
    go None = take-insert a r l p h

module _ (b : List ℕ) (n x d : ℕ) (v : Found) (ed : d ≡ sf031 x) (ev : v ≡ lookup d (areas_in n b)) (t : Bool) (et : t ≡ is_some v) where
  asked : v ≡ lookup (sf031 x) (areas_in n b)
  asked = ev ∙ ap (λ d. lookup d (areas_in n b)) ed

  module _ (q : t ≡ true) where
    held_stays : areas_in n b ≡ grown x (areas_in n b)
    unfolding grown
    held_stays = go (lookup (sf031 x) (areas_in n b)) (ap is_some (sym asked) ∙ sym et ∙ q)
      where
        go : (f : Found) → is_some f ≡ true → areas_in n b ≡ grown_by x (areas_in n b) f
        go (Some y) e = refl
        go None e = absurd (mathlib.Core.Bool.false≢true e)

    pub add_same : n ≡ length (grown x (areas_in n b))
    add_same = sym (length-areas n b) ∙ ap length held_stays

    pub add_kept : Image n b → b ≡ left_by (taken (grown x (areas_in n b))) b
    add_kept p =
        sym (take-append-drop (6 * n) b)
        ∙ ap₂ (λ l k. l ++ drop (6 * k) b) p.image (sym (length-areas n b))
        ∙ ap (λ l. bytes_of_all l ++ drop (6 * length l) b) held_stays

  module _ (q : t ≡ false) where
    pub add-new : lookup (sf031 x) (areas_in n b) ≡ None
    add-new = sym asked ∙ none-there v (sym et ∙ q)

    new-put : insert x (areas_in n b) ≡ grown x (areas_in n b)
    unfolding grown
    new-put = ap (grown_by x (areas_in n b)) (sym add-new)

    pub add-more : n + 1 ≡ length (grown x (areas_in n b))
    add-more = omega (arith, length-areas n b, length-insert x (areas_in n b)) ∙ ap length new-put

    pub add-room : length (grown x (areas_in n b)) ≤ most_areas → n < most_areas
    add-room h = omega (arith, add-more)

    pub add-fits : length (grown x (areas_in n b)) ≤ most_areas → book_bytes ≤ length b → 6 * n + 6 ≤ length b
    add-fits h k = omega (arith, add-more)

    pub add-put : (z : List ℕ) → z ≡ bytes_of_all (insert x (areas_in n b)) ++ drop (6 * n + 6) b → z ≡ left_by (taken (grown x (areas_in n b))) b
    add-put z ez =
        let e : 6 * n + 6 ≡ 6 * length (grown x (areas_in n b)) = omega (arith, add-more) in
        ez ∙ ap₂ (λ l k. bytes_of_all l ++ drop k b) new-put e

-- ---- all new areas

-- the first of the blocks was taken, and then the rest
pub record First (a : ℕ) (blocks l final : List ℕ) : Type 0 where
  pub next : List ℕ
  pub first : Took a l next
  pub rest : take_all blocks next ≡ taken final

first_of : (a : ℕ) (blocks l final : List ℕ) → take_all (a ∷ blocks) l ≡ taken final → First a blocks l final
unfolding take_all
first_of a blocks l final = go (take_block a l) refl
  where
    go : (o : Outcome) → take_block a l ≡ o → and_then o (λ l. take_all blocks l) ≡ taken final → First a blocks l final
    go (taken m) q e = record { next = m; first = took a l m q; rest = e }
    go (refused r) q e = let z : ◌≡◌ {A = ℕ} 0 1 = cc in absurd (omega arith)

-- the areas held after the blocks before block i lie in the bytes, and those behind are as they were
pub record Filling (s p : List ℕ) (count n i held : ℕ) (b : List ℕ) : Type 0 where
  pub areas : List ℕ
  pub final : List ℕ
  pub inside : i ≤ n
  pub ends : take_all (blocks_from (n - i) i p) areas ≡ taken final
  pub all : take_all (blocks_of p) (areas_in count s) ≡ taken final
  pub many : length areas ≡ held
  pub few : held ≤ most_areas
  pub long : book_bytes ≤ length s
  pub ascending : Ascending 0 areas
  pub bytes : b ≡ bytes_of_all areas ++ drop (6 * held) s

unfoldable count-of : Outcome → ℕ
count-of (taken l) = length l
count-of (refused r) = 0

taken-some : (o : Outcome) → is_taken o ≡ true → IsHeld o (count-of o)
unfolding count-of
taken-some (taken l) e = record { list = l; is = refl; many = refl }
taken-some (refused r) e = absurd (mathlib.Core.Bool.false≢true e)

pub fill_start : (s p : List ℕ) (count n : ℕ) → n ≡ block_count p → Image count s → count ≤ most_areas → book_bytes ≤ length s
    → is_taken (take_all (blocks_of p) (areas_in count s)) ≡ true → Filling s p count n 0 count s
fill_start s p count n e q h long t =
    let w : IsHeld (take_all (blocks_of p) (areas_in count s)) _ = taken-some _ t in
    record {
      areas = areas_in count s;
      final = w.list;
      inside = omega arith;
      ends = ap (λ k. take_all (blocks_from k 0 p) (areas_in count s)) {x = n - 0} {y = block_count p} (omega arith) ∙ w.is;
      all = w.is;
      many = length-areas count s;
      few = h;
      long = long;
      ascending = q.ascending;
      bytes = sym (take-append-drop (6 * count) s) ∙ ap (λ l. l ++ drop (6 * count) s) q.image;
    }

module _ (s p : List ℕ) (count n i held : ℕ) (b : List ℕ) (q : Filling s p count n i held b) where
  pub fill-length : length b ≡ length s
  fill-length =
      ap length q.bytes ∙ length-append (bytes_of_all q.areas) (drop (6 * held) s)
      ∙ omega (arith, length-bytes q.areas, length-drop (6 * held) s, q.many, q.few, q.long)

  pub fill-long : book_bytes ≤ length b
  fill-long = omega (arith, fill-length, q.long)

  pub fill-fits : 6 * held ≤ length b
  fill-fits = omega (arith, fill-length, q.few, q.long)

  areas-are : areas_in held b ≡ q.areas
  areas-are =
      ap₂ areas_in (sym q.many) q.bytes ∙ areas-bytes q.areas (drop (6 * held) s) 0 q.ascending

  pub fill-image : Image held b
  fill-image =
      record {
        ascending = subst (λ l. Ascending 0 l) (sym areas-are) q.ascending;
        image = ap (take (6 * held)) q.bytes ∙ take_at (bytes_of_all q.areas) (drop (6 * held) s) (6 * held) (length-bytes q.areas ∙ ap (λ k. 6 * k) q.many)
            ∙ ap bytes_of_all (sym areas-are);
      }

  pub fill_end : n ≤ i → b ≡ left_by (take_all (blocks_of p) (areas_in count s)) s
  unfolding take_all
  fill_end h =
      let e : taken q.areas ≡ taken q.final = ap (λ l. take_all l q.areas) (sym (blocks_end n i p h)) ∙ q.ends in
      q.bytes ∙ ap (λ k. bytes_of_all q.areas ++ drop (6 * k) s) (sym q.many) ∙ ap (λ o. left_by o s) (e ∙ sym q.all)

  module _ (h : i < n) (x : ℕ) (ex : x ≡ block_at p i) where
    opened-fill : First (block_at p i) (blocks_from (n - (i + 1)) (i + 1) p) q.areas q.final
    opened-fill = first_of _ _ _ _ (ap (λ l. take_all l q.areas) (sym (blocks-next n i p h)) ∙ q.ends)

    grown-is : grown x (areas_in held b) ≡ opened-fill.next
    grown-is = ap₂ grown ex areas-are ∙ sym (took-grown (block_at p i) q.areas opened-fill.next opened-fill.first)

    next-few : length opened-fill.next ≤ most_areas
    next-few = length-block (block_at p i) q.areas opened-fill.next opened-fill.first (subst (λ k. k ≤ most_areas) (sym q.many) q.few)

    next-ascending : x < 2 ^ 47 → Ascending 0 opened-fill.next
    next-ascending small = ascending-block (block_at p i) q.areas opened-fill.next (subst (λ x. x < 2 ^ 47) ex small) opened-fill.first q.ascending

    -- there is a place for it
    pub fill-room : length (grown x (areas_in held b)) ≤ most_areas
    fill-room = subst (λ l. length l ≤ most_areas) (sym grown-is) next-few

    module _ (small : x < 2 ^ 47) (m : ℕ) (em : m ≡ length (grown x (areas_in held b))) (z : List ℕ) (ez : z ≡ left_by (taken (grown x (areas_in held b))) b) where
      pub fill-turn : Filling s p count n (i + 1) m z
      fill-turn =
          let next : List ℕ = opened-fill.next in
          let many : length next ≡ m = sym (em ∙ ap length grown-is) in
          let more : held ≤ m = subst (λ k. k ≤ m) q.many (subst (λ k. length q.areas ≤ k) many (block-grows (block_at p i) q.areas next opened-fill.first)) in
          let len : length (bytes_of_all q.areas) ≡ 6 * held = length-bytes q.areas ∙ ap (λ k. 6 * k) q.many in
          let back : drop (6 * m) b ≡ drop (6 * m) s
          = ap (λ k. drop k b) {x = 6 * m} {y = 6 * held + 6 * (m - held)} (omega arith) ∙ sym (drop-drop (6 * (m - held)) (6 * held) b)
          ∙ ap (λ l. drop (6 * (m - held)) (drop (6 * held) l)) q.bytes
          ∙ ap (drop (6 * (m - held))) (drop_at (bytes_of_all q.areas) (drop (6 * held) s) (6 * held) len)
          ∙ drop-drop (6 * (m - held)) (6 * held) s ∙ ap (λ k. drop k s) {x = 6 * held + 6 * (m - held)} {y = 6 * m} (omega arith) in
          record {
            areas = next;
            final = q.final;
            inside = omega arith;
            ends = opened-fill.rest;
            all = q.all;
            many = many;
            few = subst (λ k. k ≤ most_areas) many next-few;
            long = q.long;
            ascending = next-ascending small;
            bytes = ez ∙ ap (λ l. bytes_of_all l ++ drop (6 * length l) b) grown-is ∙ ap (λ k. bytes_of_all next ++ drop (6 * k) b) many ∙ ap (λ t. bytes_of_all next ++ t) back;
          }

      -- the areas before the place that was reached are those that were there
      pub fill-place : (d : ℕ) → d ≡ sf031 x → (r up : ℕ) → Reached d held b r → d < up → Passed up m z r
      fill-place d ed r up q' k =
          let l : List ℕ = areas_in held b in
          let e : areas_in m z ≡ grown x l
          = ap₂ areas_in em ez ∙ areas-bytes (grown x l) (drop (6 * length (grown x l)) b) 0 (subst (λ l. Ascending 0 l) (sym grown-is) (next-ascending small)) in
          let same : take r (grown x l) ≡ take r l
          = take-grown x r l (subst (λ d. Below d (take r l)) ed q'.below) (omega (arith, length-areas held b, q'.inside)) in
          let more : held ≤ m
          = subst (λ k. k ≤ m) q.many (subst (λ k. length q.areas ≤ k) (sym (em ∙ ap length grown-is)) (block-grows (block_at p i) q.areas opened-fill.next opened-fill.first)) in
          record {
            inside = omega (arith, q'.inside);
            below = subst (λ m. Below up m) (sym (ap (take r) e ∙ same)) (below_up d up (take r l) (omega arith) q'.below);
          }

-- ---- a GAD

module _ (book : Book) (aiou siou : ℕ) where
  pub under_same : book.aiou_plus_one ≡ aiou → book.siou_plus_one ≡ siou → book.count ≡ cond (is_under book aiou siou) book.count 0
  under_same e u = rw (is-under book aiou siou e u)

  pub under-other : (book.aiou_plus_one ≡ aiou → ⊥) → 0 ≡ cond (is_under book aiou siou) book.count 0
  under-other n = rw (other-aiou book aiou siou n)

  pub under-update : (book.siou_plus_one ≡ siou → ⊥) → 0 ≡ cond (is_under book aiou siou) book.count 0
  under-update n = rw (other-siou book aiou siou n)

-- the areas of a sound book that a GAD of this AIOU and SIOU adds to
module _ (book : Book) (s : List ℕ) (w : sound book s ≡ true) (aiou siou n : ℕ) (en : n ≡ cond (is_under book aiou siou) book.count 0) where
  pub count-few : n ≤ most_areas
  count-few = subst (λ n. n ≤ most_areas) (sym en) (go (is_under book aiou siou))
    where
      go : (t : Bool) → cond t book.count 0 ≤ most_areas
      go true = sound-count book s w
      go false = omega arith

  pub count_fits : book_bytes ≤ length s → 6 * n ≤ length s
  count_fits h = omega (arith, count-few)

  pub count-image : ((i : ℕ) → Fits w8 (get_or s i 0)) → Image n s
  unfolding areas_in bytes_of_all
  count-image known = subst (λ n. Image n s) (sym en) (go (is_under book aiou siou))
    where
      go : (t : Bool) → Image (cond t book.count 0) s
      go true = sound-image book s w (record { byte = λ i. (known i).fits })
      go false = record { ascending = Ascending.none; image = refl }

  pub count-ascending : ((i : ℕ) → Fits w8 (get_or s i 0)) → Ascending 0 (areas_in n s)
  count-ascending known = (count-image known).ascending

-- blocks that are judged taken are taken
pub is-taken : (s p : List ℕ) (n : ℕ) (v : Judged) → v ≡ judged_by (take_all (blocks_of p) (areas_in n s)) → (m : ℕ) → v ≡ Ok m → is_taken (take_all (blocks_of p) (areas_in n s)) ≡ true
is-taken s p n v ev m q = ap is_taken (is_held (take_all (blocks_of p) (areas_in n s)) m (sym q ∙ ev)).is

-- the blocks of a payload that reads as a GAD, taken into a sound book
module _ (book : Book) (s p : List ℕ) (w : sound book s ≡ true) (aiou siou n : ℕ) (ea : aiou ≡ aiou_of p + 1) (eu : siou ≡ siou_of p + 1) (en : n ≡ cond (is_under book aiou siou) book.count 0) where
  areas-before : areas_in n s ≡ before book s (aiou_of p) (siou_of p)
  unfolding before areas_in
  areas-before = ap (λ n. areas_in n s) en ∙ go (is_under book aiou siou) ∙ ap₂ (λ a u. cond (is_under book a u) (areas_in book.count s) []) ea eu
    where
      go : (t : Bool) → areas_in (cond t book.count 0) s ≡ cond t (areas_in book.count s) []
      go true = refl
      go false = refl

  outcome-is : take_bits book s p ≡ take_all (blocks_of p) (areas_in n s)
  outcome-is = ap (take_all (blocks_of p)) (sym areas-before)

  module _ (v : Judged) (ev : v ≡ judged_by (take_all (blocks_of p) (areas_in n s))) where
    refusal_is : (r : answer.Fault) → v ≡ Err r → refused r ≡ take_bits book s p
    refusal_is r q = sym (is-refused _ r (sym q ∙ ev)) ∙ sym outcome-is

    pub take-refused : (r : answer.Fault) → v ≡ Err r → Err r ≡ answer_of (take_bits book s p) (aiou_of p) (siou_of p)
    take-refused r q = ap (λ o. answer_of o (aiou_of p) (siou_of p)) (refusal_is r q)

    pub left-refused : (r : answer.Fault) → v ≡ Err r → s ≡ left_by (take_bits book s p) s
    left-refused r q = ap (λ o. left_by o s) (refusal_is r q)

    pub take-held : (m : ℕ) → v ≡ Ok m → (r : Book) → r ≡ book_of aiou siou m
        → Ok r ≡ answer_of (take_bits book s p) (aiou_of p) (siou_of p)
    take-held m q r er =
        let w : IsHeld (take_all (blocks_of p) (areas_in n s)) m = is_held _ m (sym q ∙ ev) in
        ap Ok er ∙ ap₂ (λ a u. Ok (book_of a u m)) ea eu ∙ ap (λ m. Ok (book_of (aiou_of p + 1) (siou_of p + 1) m)) (sym w.many) ∙ ap (λ o. answer_of o (aiou_of p) (siou_of p)) (sym w.is ∙ sym outcome-is)

    -- as many areas as before are the same ones
    pub left-same : (m : ℕ) → v ≡ Ok m → m ≡ n → ((i : ℕ) → Fits w8 (get_or s i 0)) → s ≡ left_by (take_bits book s p) s
    left-same m q e known =
        let h : IsHeld (take_all (blocks_of p) (areas_in n s)) m = is_held _ m (sym q ∙ ev) in
        let same : h.list ≡ areas_in n s
        = all_same (blocks_of p) (areas_in n s) h.list (took-all (blocks_of p) (areas_in n s) h.list h.is) (h.many ∙ e ∙ sym (length-areas n s)) in
        sym (take-append-drop (6 * n) s)
        ∙ ap₂ (λ x k. x ++ drop (6 * k) s) ((count-image book s w aiou siou n en known).image ∙ ap bytes_of_all (sym same)) (sym (h.many ∙ e))
        ∙ ap (λ o. left_by o s) (sym h.is ∙ sym outcome-is)

  pub left-held : (z : List ℕ) → z ≡ left_by (take_all (blocks_of p) (areas_in n s)) s → z ≡ left_by (take_bits book s p) s
  left-held z ez = ez ∙ ap (λ o. left_by o s) (sym outcome-is)
