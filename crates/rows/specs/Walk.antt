-- Serves proofs: a walk over cells, one after the other. Writing a row (Puts.antt) is a walk; what a machine that goes along the row
-- comes to by its layout, a walk over the row comes to.
use Rattle.std.specs.Prelude.{◌≡◌, refl, Bool, true, false, length, Ok, Err}
use Rattle.std.proofs.Common.{ap, ◌∙◌, subst}
use mathlib.Core.List.{List, [], ◌∷◌, ◌++◌}
use Prim.Native.Nat.{ℕ, suc, ◌+◌, ◌/◌, ◌%◌}
use Rattle.answer.specs.declared.Refusal.{Refusal}
use Rattle.answer.specs.declared.Refusal.TheVariants as refusal
use Rattle.answer.specs.declared.Fault as answer
use Rattle.answer.specs.Place.{fault_at}
use Rattle.layout.specs.declared.Field.{Field}
use Rattle.layout.specs.Results.{Verdict}
use Rattle.layout.specs.Layout.{Layout, pick, judge}
use Rattle.layout.specs.Run.{Ended}
use Rattle.layout.specs.Run as ended
use Rattle.layout.specs.Walks.{Walks}
use Rattle.rows.specs.Rows.{width_in, field_in, cells_in}
use Rattle.rows.specs.Cells.{cells-none, cells-more}
use Rattle.rows.specs.Along.{In, Along, stays, decides, passes}

-- The position, the place in the sheet and the last code where a walk ends, or its first fault; and the lent list as it is then: what came before is stored in it
-- where it has a place for it, and nothing else.
pub data Went : Type 0 where
  to : (pos at last : ℕ) (lent : List ℕ) → Went
  stopped : (why : answer.Fault) (lent : List ℕ) → Went

-- What a walk does at a cell of a width: which of position and entry says where a fault is, whether a code is there, the code, the position behind it, and the lent list
-- with it.
pub record Way : Type 0 where
  pub place : (pos at : ℕ) → ℕ
  pub there : (pos at width : ℕ) → Bool
  pub code : (pos at width : ℕ) → ℕ
  pub behind : (pos width : ℕ) → ℕ
  pub stored : (pos at width code : ℕ) (lent : List ℕ) → List ℕ

abbrev pub judged_w : (sf place : ℕ) → Verdict → (lent : List ℕ) → Went → Went
judged_w sf place (Ok _) lent w = w
judged_w sf place (Err why) lent w = stopped (fault_at why sf place) lent

unfoldable pub walk : Way → List ℕ → (pos at last : ℕ) (lent : List ℕ) → Went
walk way [] pos at last lent = to pos at last lent
walk way (cell ∷ cs) pos at last lent =
    let c : ℕ = way.code pos at (width_in cell) in
    pick (way.there pos at (width_in cell))
    (judged_w (field_in cell).sf (way.place pos at) (judge (field_in cell) c) lent
    (walk way cs (way.behind pos (width_in cell)) (at + 1) c (way.stored pos at (width_in cell) c lent)))
    (stopped (fault_at refusal.Short (field_in cell).sf (way.place pos at)) lent)

-- ---- the first cell of a word

module _ (way : Way) (word pos at last : ℕ) (lent : List ℕ) where
  pub walk_none : word ≡ 0 → walk way (cells_in word) pos at last lent ≡ to pos at last lent
  unfolding walk
  walk_none z = rw (cells-none word z)

  module _ (some : word ≡ 0 → ⊥) where
    pub walk-short : way.there pos at (width_in (word % 256)) ≡ false
        → walk way (cells_in word) pos at last lent ≡ stopped (fault_at refusal.Short (field_in (word % 256)).sf (way.place pos at)) lent
    unfolding walk
    walk-short h = rw (cells-more word some, h)

    module _ (c : ℕ) (h : way.there pos at (width_in (word % 256)) ≡ true) (n : c ≡ way.code pos at (width_in (word % 256))) where
      pub walk-fault : (why : Refusal) → judge (field_in (word % 256)) c ≡ Err why
          → walk way (cells_in word) pos at last lent ≡ stopped (fault_at why (field_in (word % 256)).sf (way.place pos at)) lent
      unfolding walk
      walk-fault why j = rw (cells-more word some, h, ← n, j)

      pub walk_more : judge (field_in (word % 256)) c ≡ Ok tt
          → walk way (cells_in word) pos at last lent
          ≡ walk way (cells_in (word / 256)) (way.behind pos (width_in (word % 256))) (at + 1) c (way.stored pos at (width_in (word % 256)) c lent)
      unfolding walk
      walk_more j = rw (cells-more word some, h, ← n, j)

-- ---- some cells, then others

abbrev pub then : Went → ((pos at last : ℕ) → List ℕ → Went) → Went
then (to pos at last lent) rest = rest pos at last lent
then (stopped why lent) rest = stopped why lent

then-pick : (sf place : ℕ) (b : Bool) (v : Verdict) (w : Went) (why : answer.Fault) (lent : List ℕ) (rest : (pos at last : ℕ) → List ℕ → Went)
    → pick b (judged_w sf place v lent (then w rest)) (stopped why lent) ≡ then (pick b (judged_w sf place v lent w) (stopped why lent)) rest
then-pick sf place true (Ok _) w why lent rest = refl
then-pick sf place true (Err x) w why lent rest = refl
then-pick sf place false v w why lent rest = refl

pub walk-append : (way : Way) (cs ds : List ℕ) (pos at last : ℕ) (lent : List ℕ)
    → walk way (cs ++ ds) pos at last lent ≡ then (walk way cs pos at last lent) (λ p a l s. walk way ds p a l s)
unfolding walk
walk-append way [] ds pos at last lent = refl
walk-append way (cell ∷ cs) ds pos at last lent =
    let c : ℕ = way.code pos at (width_in cell) in
    let p : ℕ = way.behind pos (width_in cell) in
    let s : List ℕ = way.stored pos at (width_in cell) c lent in
    let sf : ℕ = (field_in cell).sf in
    let here : ℕ = way.place pos at in
    ap (λ x. pick (way.there pos at (width_in cell)) (judged_w sf here (judge (field_in cell) c) lent x) (stopped (fault_at refusal.Short sf here) lent))
    (walk-append way cs ds p (at + 1) c s)
    ∙ then-pick sf here (way.there pos at (width_in cell)) (judge (field_in cell) c) (walk way cs p (at + 1) c s) (fault_at refusal.Short sf here) lent
    (λ p a l s. walk way ds p a l s)

-- ---- where a walk ends

pub data Comes (Place : (pos at : ℕ) → Type 0) : Went → Type 0 where
  comes : {pos at last : ℕ} {lent : List ℕ} → Place pos at → Comes Place (to pos at last lent)
  halts : {why : answer.Fault} {lent : List ℕ} → Comes Place (stopped why lent)

comes-pick : {Place : (pos at : ℕ) → Type 0} (sf place : ℕ) (b : Bool) (v : Verdict) (w : Went) (why : answer.Fault) (lent : List ℕ) → (b ≡ true → Comes Place w)
    → Comes Place (pick b (judged_w sf place v lent w) (stopped why lent))
comes-pick sf place true (Ok _) w why lent h = h refl
comes-pick sf place true (Err x) w why lent h = halts
comes-pick sf place false v w why lent h = halts

-- what each cell keeps, with the count of those still to come, holds where the walk ends
pub walk-comes : (way : Way) (Place : (left pos at : ℕ) → Type 0)
    → ((left pos at cell : ℕ) → Place (suc left) pos at → way.there pos at (width_in cell) ≡ true → Place left (way.behind pos (width_in cell)) (at + 1))
    → (cs : List ℕ) (pos at last : ℕ) (lent : List ℕ) → Place (length cs) pos at → Comes (Place 0) (walk way cs pos at last lent)
unfolding walk
walk-comes way Place step [] pos at last lent p = comes p
walk-comes way Place step (cell ∷ cs) pos at last lent p =
    let c : ℕ = way.code pos at (width_in cell) in
    let q : ℕ = way.behind pos (width_in cell) in
    let s : List ℕ = way.stored pos at (width_in cell) c lent in
    comes-pick (field_in cell).sf (way.place pos at) (way.there pos at (width_in cell)) (judge (field_in cell) c) (walk way cs q (at + 1) c s)
    (fault_at refusal.Short (field_in cell).sf (way.place pos at)) lent
    (λ h. walk-comes way Place step cs q (at + 1) c s (step (length cs) pos at cell p h))

-- ---- a machine that goes along the row

-- `Run` says of a place that from there on a layout comes to an end.
module _ {S A : Type 0} (field_of : S → Field) (step_of : S → ℕ → S) (way : Way) (Run : (pos at : ℕ) (lent : List ℕ) → Layout A → Ended → Type 0) where
  -- at a cell, by whether a code is there and its field takes it: the end, or the place behind it
  pub data Turned (sf place : ℕ) (here : Ended) (next : S) (pos at : ℕ) (lent : List ℕ) : Bool → Verdict → Type 1 where
    short : {v : Verdict} → here ≡ ended.stopped (fault_at refusal.Short sf place) → Turned sf place here next pos at lent false v
    fault : {why : Refusal} → here ≡ ended.stopped (fault_at why sf place) → Turned sf place here next pos at lent true (Err why)
    taken : {left : Layout A} → Walks field_of step_of next left → Run pos at lent left here → Turned sf place here next pos at lent true (Ok tt)

  -- the layout's run takes each cell as the walk does
  abbrev pub Turns : Type 1
  Turns = (cell pos at : ℕ) (lent : List ℕ) (s : S) (l : Layout A) (here : Ended) → Run pos at lent l here → Walks field_of step_of s l → In (field_of s) cell
      → Turned (field_in cell).sf (way.place pos at) here (step_of s (way.code pos at (width_in cell))) (way.behind pos (width_in cell)) (at + 1)
      (way.stored pos at (width_in cell) (way.code pos at (width_in cell)) lent) (way.there pos at (width_in cell)) (judge (field_in cell) (way.code pos at (width_in cell)))

  -- it comes to what the walk came to, and goes on from there
  pub data Follows (here : Ended) (after : ℕ → S) : Went → Type 1 where
    goes_on : {pos at last : ℕ} {lent : List ℕ} {left : Layout A} → Walks field_of step_of (after last) left → Run pos at lent left here
        → Follows here after (to pos at last lent)
    ends : {why : answer.Fault} {lent : List ℕ} → here ≡ ended.stopped why → Follows here after (stopped why lent)

  follows-cell : (sf place : ℕ) {here : Ended} {next : S} {pos at : ℕ} {lent : List ℕ} {b : Bool} {v : Verdict} {after : ℕ → S} (rest : Went) (lent₀ : List ℕ)
      → Turned sf place here next pos at lent b v
      → ((left : Layout A) → Walks field_of step_of next left → Run pos at lent left here → Follows here after rest)
      → Follows here after (pick b (judged_w sf place v lent₀ rest) (stopped (fault_at refusal.Short sf place) lent₀))
  follows-cell sf place rest lent₀ (short e) go_on = ends e
  follows-cell sf place rest lent₀ (fault e) go_on = ends e
  follows-cell sf place rest lent₀ (taken {left} walks run) go_on = go_on left walks run

  pub along-walk : Turns → (cs : List ℕ) (pos at last : ℕ) (lent : List ℕ) {s : S} {l : Layout A} {here : Ended} {after : ℕ → S} → Run pos at lent l here
      → Walks field_of step_of s l → Along field_of step_of s cs after → Follows here after (walk way cs pos at last lent)
  unfolding walk
  along-walk turn cs pos at last lent {l} run walks (stays e) = goes_on (subst (λ x. Walks field_of step_of x l) (e last) walks) run
  along-walk turn cs pos at last lent {s} {l} {here} run walks (decides {cell} e k) =
      let c : ℕ = way.code pos at (width_in cell) in
      follows-cell (field_in cell).sf (way.place pos at) (to (way.behind pos (width_in cell)) (at + 1) c (way.stored pos at (width_in cell) c lent)) lent (turn cell pos at lent s l here run walks e)
      (λ left w r. goes_on (subst (λ x. Walks field_of step_of x left) (k c) w) r)
  along-walk turn cs pos at last lent {s} {l} {here} run walks (passes {cell} {cs = ds} e k) =
      let c : ℕ = way.code pos at (width_in cell) in
      let p : ℕ = way.behind pos (width_in cell) in
      let more : List ℕ = way.stored pos at (width_in cell) c lent in
      follows-cell (field_in cell).sf (way.place pos at) (walk way ds p (at + 1) c more) lent (turn cell pos at lent s l here run walks e)
      (λ left w r. along-walk turn ds p (at + 1) c more r w (k c))
