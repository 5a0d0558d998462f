-- One lemma for each turn and each answer of the functions that judge a GAD's blocks, in plain variables, premises worded as the code makes them. Assumes nothing.
use Rattle.std.specs.Prelude.{Ok, Err, Some, None}
use Rattle.std.specs.Option.{is_some}
use mathlib.Core.Path.{◌≡◌, refl, ap, ap₂, sym, ◌∙◌, subst}
use mathlib.Core.Bool.{Bool, true, false, cond, false≢true}
use mathlib.Core.List.{List}
use Prim.Native.Nat.{ℕ, ◌+◌, ◌-◌, ◌*◌, ◌/◌, ◌%◌, ◌^◌, ◌≤◌, ◌<◌}
use native.Mathlib.Omega.{arith}
use native.Mathlib.Numerals.{add-one}
use lib.Dec.{eqb}
use lib.ListN.{length}
use borrow.Author.Tests.{lt-ltb, le-ltb, eq-eqb, ne_eqb}
use Rattle.answer.specs.Place.{nowhere}
use Rattle.answer.specs.declared.Fault.{Fault}
use Rattle.answer.specs.declared.Refusal.TheVariants.{AreaOff, Conflict, BookFull}
use Rattle.bits.specs.Bits.{field, got}
use Rattle.bits.specs.Laws.{got-there, field_lt, field-part}
use Rattle.sizes.specs.Sizes.{most_areas}
use Rattle.area.specs.Area.{sf031, area_off}
use Rattle.book.specs.Book.{areas_in}
use Rattle.book.specs.Take.{lookup, looked}
use Rattle.book.specs.FindLaws.{looked-there, looked-none}
use Rattle.book.specs.Payload.{block_count, most_blocks, block_start, block_at, blocks_from}
use Rattle.book.specs.TakeLaws.{or_else}
use Rattle.book.specs.Search.{Below, below_up, lookup-below}
use Rattle.book.specs.Judge.{judge_found, judge_block}
use Rattle.book.specs.Results.{Found}
use Rattle.book.specs.Results.{Judged}
use Rattle.book.proofs.Reading.{areas-left}

-- ---- the payload

pub read-field : (s : List ℕ) (pos w r : ℕ) → r ≡ got s pos w → w ≤ 64 → pos + w ≤ 8 * length s → (r ≡ field s pos w) × (r < 2 ^ w)
read-field s pos w r e h k =
    let q : r ≡ field s pos w = e ∙ got-there s pos w h k in
    (q, subst (λ r. r < 2 ^ w) (sym q) (field_lt s pos w))

-- SIOU, AIOU and the count of blocks, of a payload that has them
module _ (s : List ℕ) (there : 3 ≤ length s) (r : ℕ) where
  module _ (e : r ≡ got s 0 9) where
    pub siou-small : r + 1 < 65536
    siou-small = let z = read-field s 0 9 r e (omega arith) (omega arith) in omega arith

    pub siou-fits : r + 1 < 2 ^ 64
    siou-fits = omega (arith, siou-small)

    pub siou-is : r + 1 ≡ field s 0 9 + 1
    siou-is = let z = read-field s 0 9 r e (omega arith) (omega arith) in omega arith

  module _ (e : r ≡ got s 9 4) where
    pub aiou-small : r + 1 < 256
    aiou-small = let z = read-field s 9 4 r e (omega arith) (omega arith) in omega arith

    pub aiou-fits : r + 1 < 2 ^ 64
    aiou-fits = omega (arith, aiou-small)

    pub aiou-is : r + 1 ≡ field s 9 4 + 1
    aiou-is = let z = read-field s 9 4 r e (omega arith) (omega arith) in omega arith

  module _ (e : r ≡ got s 14 5) where
    pub count_fits : r + 1 < 2 ^ 64
    count_fits = let z = read-field s 14 5 r e (omega arith) (omega arith) in omega arith

    pub count-is : r + 1 ≡ block_count s
    count-is = let z = read-field s 14 5 r e (omega arith) (omega arith) in omega arith

    pub count-few : r + 1 ≤ most_blocks
    count-few = let z = read-field s 14 5 r e (omega arith) (omega arith) in omega arith

module _ (s : List ℕ) (i : ℕ) (there : block_start (i + 1) ≤ 8 * length s) (r : ℕ) (e : r ≡ got s (block_start i) 47) where
  pub block-is : r ≡ block_at s i
  block-is = (read-field s (block_start i) 47 r e (omega arith) (omega arith)).0

  pub block-small : r < 2 ^ 47
  block-small = (read-field s (block_start i) 47 r e (omega arith) (omega arith)).1

-- the last blocks, out of the last eight bytes
module _ (s : List ℕ) (i : ℕ) (there : block_start (i + 1) ≤ 8 * length s) (late : length s < (19 + 47 * i) / 8 + 8) (w : ℕ) (e : w ≡ got s (8 * length s - 64) 64) where
  pub last-is : w / 2 ^ (17 - (19 + 47 * i - (8 * length s - 64))) % 140737488355328 ≡ block_at s i
  last-is =
      let start : ℕ = 8 * length s - 64 in
      let o : ℕ = block_start i - start in
      let m : ℕ = 17 - o in
      let all : 64 ≡ o + (47 + m) = omega arith in
      let here : start + o ≡ block_start i = omega arith in
      ap (λ w. w / 2 ^ m % 2 ^ 47) ((read-field s start 64 w e (omega arith) (omega arith)).0 ∙ ap (λ k. field s start k) all)
      ∙ sym (field-part s start o 47 m (omega arith))
      ∙ ap (λ k. field s k 47) here

  pub last-small : w / 2 ^ (17 - (19 + 47 * i - (8 * length s - 64))) % 140737488355328 < 2 ^ 47
  last-small = omega arith

-- ---- looking an ID up, among areas and among blocks

module _ (s : List ℕ) (id n : ℕ) where
  -- the bytes are too few, or they are there
  pub look-few : length s / 6 < n → None ≡ looked id n s
  look-few h = sym (looked-none id n s (omega arith))

  pub look-all : n ≤ length s / 6 → (r : Found) → r ≡ lookup id (areas_in n s) → r ≡ looked id n s
  look-all h r e = e ∙ sym (looked-there id n s (omega arith))

module _ (p : List ℕ) (id n : ℕ) where
  pub record LookingBack (i : ℕ) : Type 0 where
    pub inside : i ≤ n
    pub same : lookup id (blocks_from (n - i) i p) ≡ lookup id (blocks_from n 0 p)

  pub back_start : LookingBack 0
  back_start = record { inside = omega arith; same = ap (λ k. lookup id (blocks_from k 0 p)) {x = n - 0} {y = n} (omega arith) }

  module _ (i : ℕ) (q : LookingBack i) where
    pub back_none : n ≤ i → None ≡ lookup id (blocks_from n 0 p)
    unfolding lookup blocks_from
    back_none h = let e : n - i ≡ 0 = omega arith in ap (λ k. lookup id (blocks_from k i p)) (sym e) ∙ q.same

    module _ (h : i < n) (x d : ℕ) (ex : x ≡ block_at p i) (ed : d ≡ sf031 x) where
      opened-back : cond (eqb d id) (Some x) (lookup id (blocks_from (n - (i + 1)) (i + 1) p)) ≡ lookup id (blocks_from n 0 p)
      unfolding lookup blocks_from
      opened-back =
          ap (λ d. cond (eqb d id) (Some x) (lookup id (blocks_from (n - (i + 1)) (i + 1) p))) ed
          ∙ ap₂ (λ x j. cond (eqb (sf031 x) id) (Some x) (lookup id (blocks_from (n - (i + 1)) j p))) ex (add-one i)
          ∙ ap (λ k. lookup id (blocks_from k i p)) (sym (areas-left n i h))
          ∙ q.same

      pub back_found : d ≡ id → Some x ≡ lookup id (blocks_from n 0 p)
      back_found e = rw (eq-eqb _ _ e) at opened-back

      pub back-turn : (d ≡ id → ⊥) → LookingBack (i + 1)
      back-turn k = record { inside = omega arith; same = rw (ne_eqb _ _ k) at opened-back }

pub none-there : (v : Found) → is_some v ≡ false → v ≡ None
none-there None e = refl
none-there (Some a) e = absurd (false≢true (sym e))

module _ (f g : Found) (v : Found) (e : v ≡ f) (b : Bool) (eb : b ≡ is_some v) where
  pub known-area : b ≡ true → v ≡ or_else f g
  known-area q = e ∙ go f (ap is_some (sym e) ∙ sym eb ∙ q)
    where
      go : (f : Found) → is_some f ≡ true → f ≡ or_else f g
      go (Some a) q = refl
      go None q = absurd (false≢true q)

  pub known-before : b ≡ false → (r : Found) → r ≡ g → r ≡ or_else f g
  known-before q r er = er ∙ ap (λ f. or_else f g) (sym (none-there v (sym eb ∙ q)) ∙ e)

-- an ID that is above those of the blocks before is new to them
pub known-new : (f : Found) (l : List ℕ) (id least : ℕ) (v : Found) → v ≡ f → (b : Bool) → b ≡ is_some v → b ≡ false → Below least l → least ≤ id → None ≡ or_else f (lookup id l)
known-new f l id least v e b eb q p h = known-before f (lookup id l) v e b eb q None (sym (lookup-below id l (below_up least id l (omega arith) p)))

-- ---- one block

module _ (a n : ℕ) (f : Found) where
  pub found-same : (b : ℕ) → f ≡ Some b → a ≡ b → Ok n ≡ judge_found a f n
  found-same b e q = rw (e, eq-eqb a b q)

  pub found-other : (b : ℕ) → f ≡ Some b → (a ≡ b → ⊥) → (why : Fault) → why ≡ nowhere Conflict → Err why ≡ judge_found a f n
  found-other b e q why w = rw (e, ne_eqb a b q, w)

  pub found-new : f ≡ None → n < most_areas → Ok (n + 1) ≡ judge_found a f n
  found-new e h = rw (e, lt-ltb n most_areas h)

  pub found-full : f ≡ None → most_areas ≤ n → (why : Fault) → why ≡ nowhere BookFull → Err why ≡ judge_found a f n
  found-full e h why w = rw (e, le-ltb n most_areas h, w)

module _ (a n : ℕ) (f : Found) (b : Bool) (eb : b ≡ area_off a) where
  pub block-off : b ≡ true → (why : Fault) → why ≡ nowhere AreaOff → Err why ≡ judge_block a f n
  block-off h why w = let z : area_off a ≡ true = sym eb ∙ h in rw (z, w)

  pub block_on : b ≡ false → (r : Judged) → r ≡ judge_found a f n → r ≡ judge_block a f n
  block_on h r er = let z : area_off a ≡ false = sym eb ∙ h in rw z er
