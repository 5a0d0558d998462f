-- A row walked over by its cells, over plain variables: what the proofs of `row` cite, and that of `write_pass` where a row is walked.
use Rattle.std.specs.Prelude.{Ok, Err}
use mathlib.Core.Path.{◌≡◌, refl, ap, sym, ◌∙◌, subst}
use mathlib.Core.Bool.{Bool, true, false}
use mathlib.Core.List.{List}
use Prim.Native.Nat.{ℕ, suc, ◌+◌, ◌-◌, ◌/◌, ◌%◌, ◌^◌, ◌≤◌, ◌<◌}
use native.Mathlib.Omega.{arith}
use borrow.Author.Tests.{lt-ltb, le-ltb}
use lib.ListN.{length, get_or}
use Rattle.answer.specs.declared.Refusal.TheVariants as refusal
use Rattle.answer.specs.declared.Fault as answer
use Rattle.answer.specs.Place.{fault_at}
use Rattle.bits.specs.Bits.{to_bits, leaves}
use Rattle.layout.specs.Layout.{Layout, pick, judge}
use Rattle.layout.specs.Run.{Ended}
use Rattle.layout.specs.Run as ended
use Rattle.layout.specs.Tests.{one_less}
use Rattle.layout.specs.Walks.{Walks}
use Rattle.fields.specs.Packed.{refuses}
use Rattle.rows.specs.declared.Row.{Row}
use Rattle.rows.specs.Rows.{width_in, field_in, cells_in, again, cells_of}
use Rattle.rows.specs.Cells.{cell-bits}
use Rattle.rows.specs.Along.{Along}
use Rattle.rows.specs.Walk.{Way, walk, walk_none, walk-short, walk-fault, walk_more, then, walk-append, to, stopped, Comes, comes, Turns, Follows, goes_on, ends, along-walk}
use Rattle.rows.specs.Puts.{onward, put_in, leaves-bits, writing, Wrote, writing-comes}
use Rattle.message.specs.declared.State.{State}
use Rattle.message.specs.Machine.{field_of, step_of}
use Rattle.message.specs.Messages.{Message}
use Rattle.message.specs.Rows.{row_of, last_of, rowed}
use Rattle.sheet.specs.Results.{Ran}
use Rattle.sheet.specs.Walked.{line_in, went_by, Walked}
use Rattle.sheet.proofs.Lines.{number_in, width-in, judge-in}

-- what the code's test says is the field's verdict
judged-in : (cell code : ℕ) {line : ℕ} {x y : Bool} → line ≡ line_in cell → x ≡ refuses line code → x ≡ y
    → judge (field_in cell) code ≡ pick y (Err refusal.Field) (Ok tt)
judged-in cell code e j q =
    judge-in cell code
    ∙ ap (λ b. pick b (Err refusal.Field) (Ok tt)) (ap (λ (l : ℕ). refuses l code) (sym e) ∙ sym j ∙ q)

-- ---- the cells of a word, written

pub record Writing (sheet out₀ : List ℕ) (word₀ pos₀ at₀ last₀ : ℕ) (out : List ℕ) (word pos at last : ℕ) : Type 0 where
  pub same : length out ≡ length out₀
  pub on : walk (writing sheet) (cells_in word) pos at last (to_bits out) ≡ walk (writing sheet) (cells_in word₀) pos₀ at₀ last₀ (to_bits out₀)

pub writing-first : (sheet out : List ℕ) (word pos at last : ℕ) → Writing sheet out word pos at last out word pos at last
writing-first sheet out word pos at last = record { same = refl; on = refl }

module _ {sheet out₀ : List ℕ} {word₀ pos₀ at₀ last₀ : ℕ} {out : List ℕ} {word pos at last : ℕ} (t : Writing sheet out₀ word₀ pos₀ at₀ last₀ out word pos at last) where
  pub writing-done : word ≡ 0 → Walked (writing sheet) (cells_in word₀) pos₀ at₀ last₀ (to_bits out₀) (Ok (record { pos = pos; at = at; last = last })) (to_bits out)
  writing-done z = record { went = sym (walk_none (writing sheet) word pos at last (to_bits out) z) ∙ t.on }

  module _ (some : word ≡ 0 → ⊥) (line : ℕ) (e : line ≡ line_in (word % 256)) where
    pub writing-short : (r : Ran) → length sheet ≤ at → r ≡ Err (fault_at refusal.Short (word % 256) at)
        → Walked (writing sheet) (cells_in word₀) pos₀ at₀ last₀ (to_bits out₀) r (to_bits out)
    writing-short r h q =
        record {
          went = ap (λ x. went_by x (to_bits out)) q ∙ ap (λ (n : ℕ). stopped (fault_at refusal.Short n at) (to_bits out)) (sym (number_in (word % 256)))
              ∙ sym (walk-short (writing sheet) word pos at last (to_bits out) some (le-ltb at (length sheet) h)) ∙ t.on;
        }

    module _ (h : at < length sheet) (b : Bool) (j : b ≡ refuses line (get_or sheet at 0)) where
      pub writing-fault : (r : Ran) → b ≡ true → r ≡ Err (fault_at refusal.Field (word % 256) at)
          → Walked (writing sheet) (cells_in word₀) pos₀ at₀ last₀ (to_bits out₀) r (to_bits out)
      writing-fault r q i =
          record {
            went = ap (λ x. went_by x (to_bits out)) i ∙ ap (λ (n : ℕ). stopped (fault_at refusal.Field n at) (to_bits out)) (sym (number_in (word % 256)))
                ∙ sym (walk-fault (writing sheet) word pos at last (to_bits out) some (get_or sheet at 0) (lt-ltb at (length sheet) h) refl refusal.Field (judged-in (word % 256) (get_or sheet at 0) e j q))
                ∙ t.on;
          }

      pub writing-again : (width : ℕ) (out' : List ℕ) (pos' : ℕ) → width ≡ line % 256 → b ≡ false → length out' ≡ length out
          → to_bits out' ≡ leaves out pos width (get_or sheet at 0) → (pos' ≡ onward pos width) × (pos < 2 ^ 33 → pos' < 2 ^ 33)
          → Writing sheet out₀ word₀ pos₀ at₀ last₀ out' (word / 256) pos' (at + 1) (get_or sheet at 0)
      writing-again width out' pos' w q kept put moved =
          let d : width ≡ width_in (word % 256) = w ∙ ap (λ (x : ℕ). x % 256) e ∙ width-in (word % 256) in
          let z : width_in (word % 256) ≤ 16 = (cell-bits (word % 256)).1 in
          let b : to_bits out' ≡ put_in (to_bits out) pos (width_in (word % 256)) (get_or sheet at 0)
          = (rw d at put) ∙ leaves-bits out pos (width_in (word % 256)) (get_or sheet at 0) (omega arith) in
          let p : pos' ≡ onward pos (width_in (word % 256)) = rw d at moved.0 in
          record {
            same = kept ∙ t.same;
            on = rw (b, p)
                (sym (walk_more (writing sheet) word pos at last (to_bits out) some (get_or sheet at 0) (lt-ltb at (length sheet) h) refl (judged-in (word % 256) (get_or sheet at 0) e j q))) ∙ t.on;
          }

-- ---- a group and its repeats

-- at the loop's head: the repeats that are left are walked from here as the whole row was to be from the start
pub record Rounds (way : Way) (group tail more₀ pos₀ at₀ : ℕ) (lent₀ : List ℕ) (more pos at last : ℕ) (lent : List ℕ) : Type 0 where
  pub on : walk way (again (suc more) (cells_in group) (cells_in tail)) pos at last lent ≡ walk way (again (suc more₀) (cells_in group) (cells_in tail)) pos₀ at₀ 0 lent₀

pub rounds-first : (way : Way) (group tail more pos at : ℕ) (lent : List ℕ) → Rounds way group tail more pos at lent more pos at 0 lent
rounds-first way group tail more pos at lent = record { on = refl }

module _ {way : Way} {group tail more₀ pos₀ at₀ : ℕ} {lent₀ : List ℕ} {more pos at last : ℕ} {lent : List ℕ}
    (t : Rounds way group tail more₀ pos₀ at₀ lent₀ more pos at last lent) (r : Ran) (lent₁ : List ℕ)
    (walked : Walked way (cells_in group) pos at last lent r lent₁) where
  after-group : then (went_by r lent₁) (λ p a l s. walk way (again more (cells_in group) (cells_in tail)) p a l s)
      ≡ walk way (again (suc more₀) (cells_in group) (cells_in tail)) pos₀ at₀ 0 lent₀
  after-group =
      ap (λ x. then x (λ p a l s. walk way (again more (cells_in group) (cells_in tail)) p a l s)) walked.went
      ∙ sym (walk-append way (cells_in group) (again more (cells_in group) (cells_in tail)) pos at last lent) ∙ t.on

  pub rounds-fault : (why : answer.Fault) → r ≡ Err why → Walked way (again (suc more₀) (cells_in group) (cells_in tail)) pos₀ at₀ 0 lent₀ (Err why) lent₁
  rounds-fault why e = record { went = rw e at after-group }

  module _ (p a l : ℕ) (e : r ≡ Ok (record { pos = p; at = a; last = l })) where
    after-to : walk way (again more (cells_in group) (cells_in tail)) p a l lent₁ ≡ walk way (again (suc more₀) (cells_in group) (cells_in tail)) pos₀ at₀ 0 lent₀
    after-to = rw e at after-group

    pub rounds-done : more ≡ 0 → (r' : Ran) (lent₂ : List ℕ) → Walked way (cells_in tail) p a l lent₁ r' lent₂
        → Walked way (again (suc more₀) (cells_in group) (cells_in tail)) pos₀ at₀ 0 lent₀ r' lent₂
    rounds-done z r' lent₂ walked' =
        record { went = walked'.went ∙ ap (λ (n : ℕ). walk way (again n (cells_in group) (cells_in tail)) p a l lent₁) (sym z) ∙ after-to }

    pub rounds-again : (more ≡ 0 → ⊥) → Rounds way group tail more₀ pos₀ at₀ lent₀ (more - 1) p a l lent₁
    rounds-again n = record { on = one_less (λ m. walk way (again m (cells_in group) (cells_in tail)) p a l lent₁) more n ∙ after-to }

-- ---- where a walk ended

came : {Place : (pos at : ℕ) → Type 0} {p a l : ℕ} {lent : List ℕ} → Comes Place (to p a l lent) → Place p a
came (comes h) = h

module _ {cs : List ℕ} {pos at last : ℕ} {lent : List ℕ} {r : Ran} {lent' : List ℕ} (p a l : ℕ) where
  pub wrote-to : (sheet : List ℕ) → Walked (writing sheet) cs pos at last lent r lent' → r ≡ Ok (record { pos = p; at = a; last = l }) → at ≤ length sheet → pos < 2 ^ 33
      → Wrote sheet cs at 0 p a
  wrote-to sheet w e h k = came (subst (Comes (Wrote sheet cs at 0)) (sym (rw e at w.went)) (writing-comes sheet cs pos at last lent h k))

-- ---- a row in a pass

-- the machine's own row, where it has one
row-along : {row : Row} {s : State} → row ≡ row_of s → (row.group ≡ 0 → ⊥) → Along field_of step_of s (cells_of row) (step_of (last_of s))
row-along {s} q some =
    subst (λ x. Along field_of step_of s (cells_of x) (step_of (last_of s))) (sym q) (rowed s (λ z. some (ap (λ (x : Row). x.group) q ∙ z)))

-- where the machine stands after a row
pub record After (s : State) (Run : (pos at : ℕ) (lent : List ℕ) → Layout Message → Ended → Type 0) (here : Ended) (p a : ℕ) (lent : List ℕ) : Type 0 where
  pub left : Layout Message
  pub walks : Walks field_of step_of s left
  pub run : Run p a lent left here

module _ {way : Way} {Run : (pos at : ℕ) (lent : List ℕ) → Layout Message → Ended → Type 0} (turns : Turns {A = Message} field_of step_of way Run)
    {row : Row} {s : State} (q : row ≡ row_of s) (some : row.group ≡ 0 → ⊥) {pos at : ℕ} {lent : List ℕ} {r : Ran} {lent' : List ℕ}
    (walked : Walked way (cells_of row) pos at 0 lent r lent') {l : Layout Message} {here : Ended} (run : Run pos at lent l here) (walks : Walks field_of step_of s l) where
  follows : Follows field_of step_of way Run here (step_of (last_of s)) (went_by r lent')
  follows =
      subst (Follows field_of step_of way Run here (step_of (last_of s))) (sym walked.went)
      (along-walk field_of step_of way Run turns (cells_of row) pos at 0 lent run walks (row-along q some))

  pub row-stopped : (why : answer.Fault) → r ≡ Err why → here ≡ ended.stopped why
  row-stopped why e = go (subst (λ x. Follows field_of step_of way Run here (step_of (last_of s)) (went_by x lent')) e follows)
    where
      go : Follows field_of step_of way Run here (step_of (last_of s)) (stopped why lent') → here ≡ ended.stopped why
      go (ends h) = h

  pub row-to : (p a c : ℕ) → r ≡ Ok (record { pos = p; at = a; last = c }) → After (step_of (last_of s) c) Run here p a lent'
  row-to p a c e = go (subst (λ x. Follows field_of step_of way Run here (step_of (last_of s)) (went_by x lent')) e follows)
    where
      go : Follows field_of step_of way Run here (step_of (last_of s)) (to p a c lent') → After (step_of (last_of s) c) Run here p a lent'
      go (goes_on {left} w h) = record { left = left; walks = w; run = h }
