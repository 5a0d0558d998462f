-- Laws: looking an ID up, an area that takes its place, and what it is that a block and all blocks were taken. Proved; assumes nothing.
use Rattle.std.specs.Prelude.{◌≡◌, Bool, cond, not, ◌&&◌, List, [], ◌∷◌, ◌++◌, ℕ, zero, suc, ◌^◌, ◌≤◌, ◌<◌, ltb, length, get_or, Some, None}
use Rattle.std.proofs.Math.Path.{refl, ap, ap₂}
use Rattle.std.proofs.Common.{sym, ◌∙◌, subst, arith, lt-ltb, ltb-true, ltb-false, eq-eqb, eqb-true, ne_eqb}
use Rattle.std.proofs.Math.Bool.{true, false}
use Rattle.std.proofs.Math.Dec.{eqb}
use Rattle.std.proofs.lemmas.Bool.{eqb-false}
use Rattle.answer.specs.Stop.{stop}
use Rattle.answer.specs.Place.{nowhere}
use Rattle.answer.specs.declared.Refusal.TheVariants.{AreaOff, Conflict, BookFull}
use Rattle.area.specs.Area.{sf031, in_range, area_off, is_area}
use Rattle.sizes.specs.Sizes.{most_areas}
use Rattle.book.specs.Take.{lookup, insert, Outcome, taken, refused, placed, take_block, and_then, take_all, is_under}
use Rattle.book.specs.Laws.{Ascending, Areas}
use Rattle.book.specs.declared.Book.{Book}
use Rattle.book.specs.Results.{Found}

-- ---- of one AIOU and SIOU

module _ (book : Book) (aiou siou : ℕ) where
  pub is-under : book.aiou_plus_one ≡ aiou → book.siou_plus_one ≡ siou → is_under book aiou siou ≡ true
  unfolding is_under
  is-under q u = ap₂ (λ x y. x && y) (eq-eqb book.aiou_plus_one aiou q) (eq-eqb book.siou_plus_one siou u)

  pub other-aiou : (book.aiou_plus_one ≡ aiou → ⊥) → is_under book aiou siou ≡ false
  unfolding is_under
  other-aiou n = ap (λ x. x && eqb book.siou_plus_one siou) (ne_eqb book.aiou_plus_one aiou n)

  pub other-siou : (book.siou_plus_one ≡ siou → ⊥) → is_under book aiou siou ≡ false
  unfolding is_under
  other-siou n = ap (λ y. eqb book.aiou_plus_one aiou && y) (ne_eqb book.siou_plus_one siou n) ∙ go (eqb book.aiou_plus_one aiou)
    where
      go : (x : Bool) → (x && false) ≡ false
      go true = refl
      go false = refl

-- ---- looking up

abbrev pub or_else : Found → Found → Found
or_else (Some a) f = Some a
or_else None f = f

pub or_assoc : (f g h : Found) → or_else (or_else f g) h ≡ or_else f (or_else g h)
or_assoc (Some a) g h = refl
or_assoc None g h = refl

pub or_nothing : (f : Found) → or_else f None ≡ f
or_nothing (Some a) = refl
or_nothing None = refl

pub lookup-append : (id : ℕ) (l m : List ℕ) → lookup id (l ++ m) ≡ or_else (lookup id l) (lookup id m)
unfolding lookup
lookup-append id [] m = refl
lookup-append id (a ∷ l) m = go (eqb (sf031 a) id) (lookup-append id l m)
  where
    go : (b : Bool) → lookup id (l ++ m) ≡ or_else (lookup id l) (lookup id m) → cond b (Some a) (lookup id (l ++ m)) ≡ or_else (cond b (Some a) (lookup id l)) (lookup id m)
    go true ih = refl
    go false ih = ih

-- where the ID is new, the first area does not have it, nor do the others
new-first : (id b : ℕ) (l : List ℕ) → lookup id (b ∷ l) ≡ None → (sf031 b ≡ id → ⊥) × (lookup id l ≡ None)
unfolding lookup
new-first id b l e = go (eqb (sf031 b) id) refl e
  where
    go : (t : Bool) → eqb (sf031 b) id ≡ t → cond t (Some b) (lookup id l) ≡ None → (sf031 b ≡ id → ⊥) × (lookup id l ≡ None)
    go true q e = let z : ◌≡◌ {A = ℕ} 0 1 = cc in absurd (omega arith)
    go false q e = (eqb-false _ _ q, e)

pub lookup-insert : (id a : ℕ) (l : List ℕ) → lookup (sf031 a) l ≡ None → lookup id (insert a l) ≡ or_else (lookup id l) (lookup id (a ∷ []))
unfolding lookup insert
lookup-insert id a [] e = refl
lookup-insert id a (b ∷ l) e =
    let n = new-first (sf031 a) b l e in
    go (ltb (sf031 a) (sf031 b)) (eqb (sf031 a) id) refl (eqb (sf031 b) id) refl n.0 n.1 (lookup-insert id a l n.1)
  where
    absent : sf031 a ≡ id → lookup (sf031 a) l ≡ None → lookup id l ≡ None
    absent q e = ap (λ i. lookup i l) (sym q) ∙ e

    go : (t x : Bool) → eqb (sf031 a) id ≡ x → (y : Bool) → eqb (sf031 b) id ≡ y → (sf031 b ≡ sf031 a → ⊥) → lookup (sf031 a) l ≡ None
        → lookup id (insert a l) ≡ or_else (lookup id l) (cond x (Some a) None)
        → lookup id (cond t (a ∷ b ∷ l) (b ∷ insert a l)) ≡ or_else (cond y (Some b) (lookup id l)) (cond x (Some a) None)
    go true true p true q k n ih = absurd (k (eqb-true _ _ q ∙ sym (eqb-true _ _ p)))
    go true true p false q k n ih = rw p (rw (absent (eqb-true _ _ p) n))
    go true false p true q k n ih = rw (p, q)
    go true false p false q k n ih = rw (p, q) (sym (or_nothing (lookup id l)))
    go false x p true q k n ih = rw q
    go false x p false q k n ih = rw q ih

-- ---- order and count

pub length-insert : (a : ℕ) (l : List ℕ) → length (insert a l) ≡ suc (length l)
unfolding insert
length-insert a [] = refl
length-insert a (b ∷ l) = go (ltb (sf031 a) (sf031 b)) (length-insert a l)
  where
    go : (t : Bool) → length (insert a l) ≡ suc (length l) → length (cond t (a ∷ b ∷ l) (b ∷ insert a l)) ≡ suc (suc (length l))
    go true ih = refl
    go false ih = ap suc ih

pub ascending-insert : (a : ℕ) (l : List ℕ) (least : ℕ) → a < 2 ^ 47 → least ≤ sf031 a → lookup (sf031 a) l ≡ None → Ascending least l → Ascending least (insert a l)
unfolding insert
ascending-insert a [] least h k e p = Ascending.more k h Ascending.none
ascending-insert a (b ∷ l) least h k e (Ascending.more kb hb p) =
    let n = new-first (sf031 a) b l e in
    go (ltb (sf031 a) (sf031 b)) refl n.0 (λ q. ascending-insert a l (suc (sf031 b)) h q n.1 p)
  where
    go : (t : Bool) → ltb (sf031 a) (sf031 b) ≡ t → (sf031 b ≡ sf031 a → ⊥) → (suc (sf031 b) ≤ sf031 a → Ascending (suc (sf031 b)) (insert a l))
        → Ascending least (cond t (a ∷ b ∷ l) (b ∷ insert a l))
    go true q n ih = Ascending.more k h (Ascending.more (ltb-true _ _ q) hb p)
    go false q n ih = Ascending.more kb hb (ih (above (sf031 b) (sf031 a) (ltb-false _ _ q) n))
      where
        above : (x y : ℕ) → x ≤ y → (x ≡ y → ⊥) → suc x ≤ y
        above x y h f = go' (ltb x y) refl
          where
            go' : (t : Bool) → ltb x y ≡ t → suc x ≤ y
            go' true q = ltb-true x y q
            go' false q = absurd (f (omega (arith, ltb-false x y q)))

pub areas-insert : (a : ℕ) (l : List ℕ) → is_area a ≡ true → Areas l → Areas (insert a l)
unfolding insert
areas-insert a [] h p = Areas.more h Areas.none
areas-insert a (b ∷ l) h (Areas.more hb p) = go (ltb (sf031 a) (sf031 b)) (areas-insert a l h p)
  where
    go : (t : Bool) → Areas (insert a l) → Areas (cond t (a ∷ b ∷ l) (b ∷ insert a l))
    go true ih = Areas.more h (Areas.more hb p)
    go false ih = Areas.more hb ih

-- ---- one block

-- what it is that a block was taken: it was there, or it was new and took its place
pub data Took (a : ℕ) (l : List ℕ) : List ℕ → Type 0 where
  held : area_off a ≡ false → lookup (sf031 a) l ≡ Some a → Took a l l
  new : area_off a ≡ false → lookup (sf031 a) l ≡ None → length l < most_areas → Took a l (insert a l)

pub took : (a : ℕ) (l m : List ℕ) → take_block a l ≡ taken m → Took a l m
unfolding take_block
took a l m = go (area_off a) refl (lookup (sf031 a) l) refl
  where
    go : (t : Bool) → area_off a ≡ t → (f : Found) → lookup (sf031 a) l ≡ f → stop t (refused (nowhere AreaOff)) (placed a l f) ≡ taken m → Took a l m
    go true q f r e = let z : ◌≡◌ {A = ℕ} 0 1 = cc in absurd (omega arith)
    go false q (Some b) r e = by (eqb a b) refl e
      where
        by : (x : Bool) → eqb a b ≡ x → cond x (taken l) (refused (nowhere Conflict)) ≡ taken m → Took a l m
        by true p e = let z : l ≡ m = cc in subst (λ m. Took a l m) z (Took.held q (r ∙ ap Some (sym (eqb-true _ _ p))))
        by false p e = let z : ◌≡◌ {A = ℕ} 0 1 = cc in absurd (omega arith)
    go false q None r e = by (ltb (length l) most_areas) refl e
      where
        by : (x : Bool) → ltb (length l) most_areas ≡ x → cond x (taken (insert a l)) (refused (nowhere BookFull)) ≡ taken m → Took a l m
        by true p e = let z : insert a l ≡ m = cc in subst (λ m. Took a l m) z (Took.new q r (ltb-true _ _ p))
        by false p e = let z : ◌≡◌ {A = ℕ} 0 1 = cc in absurd (omega arith)

self : (id a : ℕ) (l : List ℕ) → lookup (sf031 a) l ≡ Some a → lookup id l ≡ or_else (lookup id l) (lookup id (a ∷ []))
unfolding lookup
self id a l e = go (eqb (sf031 a) id) refl
  where
    go : (t : Bool) → eqb (sf031 a) id ≡ t → lookup id l ≡ or_else (lookup id l) (cond t (Some a) None)
    go true q = let z : lookup id l ≡ Some a = ap (λ i. lookup i l) (sym (eqb-true _ _ q)) ∙ e in rw z
    go false q = sym (or_nothing (lookup id l))

-- after a block the book has its areas, and that one
pub lookup-block : (id a : ℕ) (l m : List ℕ) → Took a l m → lookup id m ≡ or_else (lookup id l) (lookup id (a ∷ []))
lookup-block id a l m (Took.held q e) = self id a l e
lookup-block id a l m (Took.new q e h) = lookup-insert id a l e

pub ascending-block : (a : ℕ) (l m : List ℕ) → a < 2 ^ 47 → Took a l m → Ascending 0 l → Ascending 0 m
ascending-block a l m h (Took.held q e) p = p
ascending-block a l m h (Took.new q e k) p = ascending-insert a l 0 h (omega arith) e p

pub length-block : (a : ℕ) (l m : List ℕ) → Took a l m → length l ≤ most_areas → length m ≤ most_areas
length-block a l m (Took.held q e) p = p
length-block a l m (Took.new q e k) p = omega (arith, length-insert a l)

pub block-grows : (a : ℕ) (l m : List ℕ) → Took a l m → length l ≤ length m
block-grows a l m (Took.held q e) = omega arith
block-grows a l m (Took.new q e k) = omega (arith, length-insert a l)

-- ---- all blocks

-- what it is that blocks were taken
pub data TookAll : List ℕ → List ℕ → List ℕ → Type 0 where
  none : {l : List ℕ} → TookAll [] l l
  more : {a : ℕ} {blocks l m n : List ℕ} → Took a l m → TookAll blocks m n → TookAll (a ∷ blocks) l n

pub took-all : (blocks l n : List ℕ) → take_all blocks l ≡ taken n → TookAll blocks l n
unfolding take_all
took-all [] l n e = let z : l ≡ n = cc in subst (λ n. TookAll [] l n) z TookAll.none
took-all (a ∷ blocks) l n e = go (take_block a l) refl (λ m q. took-all blocks m n q) e
  where
    go : (o : Outcome) → take_block a l ≡ o → ((m : List ℕ) → take_all blocks m ≡ taken n → TookAll blocks m n) → and_then o (λ l. take_all blocks l) ≡ taken n → TookAll (a ∷ blocks) l n
    go (taken m) q ih e = TookAll.more (took a l m q) (ih m e)
    go (refused r) q ih e = let z : ◌≡◌ {A = ℕ} 0 1 = cc in absurd (omega arith)

-- under each ID the area that was held, else the message's
pub lookup-after : (id : ℕ) (blocks l n : List ℕ) → TookAll blocks l n → lookup id n ≡ or_else (lookup id l) (lookup id blocks)
unfolding lookup
lookup-after id [] l n TookAll.none = sym (or_nothing (lookup id l))
lookup-after id (a ∷ rest) l n (TookAll.more {m = m} t ts) =
    lookup-after id rest m n ts ∙ ap (λ f. or_else f (lookup id rest)) (lookup-block id a l m t) ∙ or_assoc (lookup id l) (lookup id (a ∷ [])) (lookup id rest)
    ∙ ap (or_else (lookup id l)) (sym (lookup-append id (a ∷ []) rest))

-- each block is held under its own ID
holds-own : (a : ℕ) (l m : List ℕ) → Took a l m → lookup (sf031 a) m ≡ Some a
unfolding lookup
holds-own a l m (Took.held q e) = e
holds-own a l m (Took.new q e h) =
    lookup-block (sf031 a) a l m (Took.new q e h) ∙ ap (λ f. or_else f (cond (eqb (sf031 a) (sf031 a)) (Some a) None)) e
    ∙ ap (λ b. cond b (Some a) None) (eq-eqb (sf031 a) (sf031 a) refl)

pub holds-each : (i : ℕ) (blocks l n : List ℕ) → TookAll blocks l n → i < length blocks → lookup (sf031 (get_or blocks i 0)) n ≡ Some (get_or blocks i 0)
holds-each i [] l n TookAll.none h = absurd (omega arith)
holds-each zero (a ∷ rest) l n (TookAll.more {m = m} t ts) h =
    lookup-after (sf031 a) rest m n ts ∙ ap (λ f. or_else f (lookup (sf031 a) rest)) (holds-own a l m t)
holds-each (suc i) (a ∷ rest) l n (TookAll.more {m = m} t ts) h = holds-each i rest m n ts (omega arith)

-- ascending, at most as many as a book holds, each an area of a sound book
pub record Good (l : List ℕ) : Type 0 where
  pub ascending : Ascending 0 l
  pub few : length l ≤ most_areas
  pub areas : Areas l

-- numbers of 47 bits with a latitude and a longitude in range
pub data InRange : List ℕ → Type 0 where
  none : InRange []
  more : {a : ℕ} {l : List ℕ} → a < 2 ^ 47 → in_range a ≡ true → InRange l → InRange (a ∷ l)

areas-block : (a : ℕ) (l m : List ℕ) → a < 2 ^ 47 → in_range a ≡ true → Took a l m → Areas l → Areas m
unfolding is_area
areas-block a l m h r (Took.held q e) p = p
areas-block a l m h r (Took.new q e k) p = areas-insert a l (ap₂ (λ x y. x && y) (lt-ltb a (2 ^ 47) h) (ap₂ (λ x y. x && not y) r q)) p

pub stays-good : (blocks l n : List ℕ) → InRange blocks → TookAll blocks l n → Good l → Good n
stays-good [] l n r TookAll.none g = g
stays-good (a ∷ rest) l n (InRange.more h k r) (TookAll.more {m = m} t ts) g =
    stays-good rest m n r ts
    (record {
      ascending = ascending-block a l m h t g.ascending;
      few = length-block a l m t g.few;
      areas = areas-block a l m h k t g.areas;
    })

-- where there is a block, there is an area afterwards
first-area : (a : ℕ) (l m : List ℕ) → Took a l m → 1 ≤ length m
unfolding lookup
first-area a [] m (Took.held q e) = let z : ◌≡◌ {A = ℕ} 0 1 = cc in absurd (omega arith)
first-area a (b ∷ l) m (Took.held q e) = omega arith
first-area a l m (Took.new q e k) = omega (arith, length-insert a l)

all-grow : (blocks l n : List ℕ) → TookAll blocks l n → length l ≤ length n
all-grow [] l n TookAll.none = omega arith
all-grow (a ∷ rest) l n (TookAll.more {m = m} t ts) = omega (arith, block-grows a l m t, all-grow rest m n ts)

pub some-area : (a : ℕ) (blocks l n : List ℕ) → TookAll (a ∷ blocks) l n → 1 ≤ length n
some-area a blocks l n (TookAll.more {m = m} t ts) = omega (arith, first-area a l m t, all-grow blocks m n ts)

-- blocks that leave as many areas as there were have changed nothing
pub all_same : (blocks l n : List ℕ) → TookAll blocks l n → length n ≡ length l → n ≡ l
all_same [] l n TookAll.none e = refl
all_same (a ∷ rest) l n (TookAll.more {m = m} t ts) e = go m t ts (λ q. all_same rest m n ts q)
  where
    go : (m : List ℕ) → Took a l m → TookAll rest m n → (length n ≡ length m → n ≡ m) → n ≡ l
    go m (Took.held q f) ts ih = ih e
    go m (Took.new q f k) ts ih = absurd (omega (arith, length-insert a l, all-grow rest (insert a l) n ts))

-- blocks that are held already change nothing
pub retake : (blocks l n : List ℕ) → TookAll blocks l n → (x : List ℕ) → ((i : ℕ) → i < length blocks → lookup (sf031 (get_or blocks i 0)) x ≡ Some (get_or blocks i 0))
    → take_all blocks x ≡ taken x
unfolding take_all take_block
retake [] l n TookAll.none x h = refl
retake (a ∷ rest) l n (TookAll.more {m = m} t ts) x h =
    let held : lookup (sf031 a) x ≡ Some a = h 0 (omega arith) in
    rw (on-grid a l m t, held, eq-eqb a a refl) (retake rest m n ts x (λ i k. h (suc i) (omega arith)))
  where
    on-grid : (a : ℕ) (l m : List ℕ) → Took a l m → area_off a ≡ false
    on-grid a l m (Took.held q e) = q
    on-grid a l m (Took.new q e k) = q
