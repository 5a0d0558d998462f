-- A row in a pass over a sheet, over plain variables: what the proof of `write_pass` cites.
use Rattle.std.specs.Prelude.{Ok, Err}
use mathlib.Core.Path.{◌≡◌, sym, ◌∙◌, subst}
use mathlib.Core.List.{List}
use Prim.Native.Nat.{ℕ, ◌-◌, ◌<◌}
use native.Mathlib.Omega.{arith}
use lib.ListN.{length}
use Rattle.sheet.specs.declared.row.Reached.{Reached}
use Rattle.answer.specs.declared.Fault as answer
use Rattle.bits.specs.Bits.{to_bits}
use Rattle.layout.specs.Layout.{Layout, write_l}
use Rattle.layout.specs.Put.{put_l, put-writes}
use Rattle.layout.specs.Walks.{Walks}
use Rattle.rows.specs.declared.Row.{Row}
use Rattle.rows.specs.Rows.{cells_in, again, cells_of}
use Rattle.rows.specs.Cells.{cells-some}
use Rattle.rows.specs.Puts.{writing, Writes, writing-turns}
use Rattle.message.specs.declared.State.{State}
use Rattle.message.specs.Machine.{field_of, step_of}
use Rattle.message.specs.Messages.{Message}
use Rattle.message.specs.Rows.{row_of, last_of}
use Rattle.sheet.specs.Passes.{WritePass}
use Rattle.sheet.specs.Walked.{Walked}
use Rattle.sheet.specs.Results.{Ran}
use Rattle.sheet.proofs.Writing.{Turn, ended-fault}
use Rattle.sheet.proofs.Walking.{wrote-to, row-stopped, row-to}

module _ {sheet out₀ : List ℕ} {s₀ : State} {out : List ℕ} {s : State} {pos at : ℕ} (t : Turn sheet out₀ s₀ out s pos at) (row : Row) (q : row ≡ row_of s)
    (some : row.group ≡ 0 → ⊥) (r : Ran) (out' : List ℕ) (wrote : Walked (writing sheet) (cells_of row) pos at 0 (to_bits out) r (to_bits out')) where
  runs : (l : Layout Message) (w : Walks field_of step_of s₀ l) → Writes sheet pos at (to_bits out) (t.on l w).on.left (put_l l sheet 0 0 (to_bits out₀))
  runs l w =
      let o = t.on l w in
      record { place = o.place; bits = o.bits; kept = o.kept; inside = t.inside; same = o.on.same }

  pub row-fault : (why : answer.Fault) → r ≡ Err why → WritePass sheet out₀ s₀ (Err why) out'
  row-fault why e =
      record {
        puts = λ l w. ended-fault (write_l l sheet) (length sheet) why out₀ out'
            (sym (put-writes l sheet 0 0 (to_bits out₀)) ∙ row-stopped (writing-turns sheet) q some wrote (runs l w) (t.on l w).on.walks why e);
        small = omega arith;
      }

  module _ (g : Reached) (e : r ≡ Ok g) where
    pub row-less : length sheet - g.at < length sheet - at
    row-less =
        let k = wrote-to g.pos g.at g.last sheet wrote e t.inside t.small in
        let z : 0 < length (cells_of row) = cells-some row.group (again row.more (cells_in row.group) (cells_in row.tail)) some in
        omega (arith, k.inside, k.count)

    pub row-again : (s' : State) → length out' ≡ length out → s' ≡ step_of (last_of s) g.last → Turn sheet out₀ s₀ out' s' g.pos g.at
    row-again s' same stepped =
        let k = wrote-to g.pos g.at g.last sheet wrote e t.inside t.small in
        record {
          inside = k.inside;
          small = k.small;
          same = same ∙ t.same;
          on = λ l w. let f = row-to (writing-turns sheet) q some wrote (runs l w) (t.on l w).on.walks g.pos g.at g.last e in
              record {
                place = f.run.place;
                bits = f.run.bits;
                kept = f.run.kept;
                on = record { left = f.left; walks = subst (λ x. Walks field_of step_of x f.left) (sym stepped) f.walks; same = f.run.same };
              };
        }
