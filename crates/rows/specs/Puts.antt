-- Laws: a row written by its cells, and that it comes to what the machine's steps come to by the layout.
use Rattle.std.specs.Prelude.{◌≡◌, refl, Bool, true, false, cond, List, ◌++◌, ℕ, suc, ◌+◌, ◌*◌, ◌^◌, ◌≤◌, ◌<◌, leb, ltb, length, take, drop, get_or, Ok, Err}
use Rattle.std.proofs.Common.{ap, ap₂, sym, ◌∙◌, append_assoc, arith, le-leb, leb-true, ltb-true, ltb-false}
use Rattle.std.proofs.lemmas.List.Edits.{sets, sets-eq}
use Rattle.std.proofs.Math.Seq.{length-sets}
use Rattle.sizes.specs.Sizes.{sheet_room}
use Rattle.answer.specs.declared.Refusal.TheVariants as refusal
use Rattle.answer.specs.Place.{fault_at}
use Rattle.bits.specs.Bits.{to_bits, bits_of, put_to, leaves}
use Rattle.bits.specs.Laws.{length-to_bits, length-bits_of}
use Rattle.layout.specs.declared.Field.{Field}
use Rattle.layout.specs.Results.{Verdict}
use Rattle.layout.specs.Layout.{Layout, pick, judge}
use Rattle.layout.specs.Run.{Ended, stopped}
use Rattle.layout.specs.Put.{put_l, put-short, put-fault, put_on}
use Rattle.rows.specs.Rows.{width_in, field_in}
use Rattle.rows.specs.Cells.{cell-bits}
use Rattle.rows.specs.Along.{width_is, sf-is, judge-is}
use Rattle.rows.specs.Walk.{Way, walk, Comes, walk-comes, Turned, short, fault, taken, Turns}

-- ---- the count of bits

-- A pass over a sheet counts bits exactly up to what the longest payload holds; over that, its count is over it too.
abbrev pub onward : ℕ → ℕ → ℕ
onward count width = pick (ltb sheet_room count) count (count + width)

pub record Counted (count bits : ℕ) : Type 0 where
  pub exact : bits ≤ sheet_room → count ≡ bits
  pub over : sheet_room < bits → sheet_room < count

pub counted-on : {count bits : ℕ} (width count' : ℕ) → Counted count bits → count' ≡ onward count width → Counted count' (bits + width)
counted-on {count} {bits} width count' c e = go (ltb sheet_room count) (ltb sheet_room bits) refl refl e
  where
    go : (x y : Bool) → ltb sheet_room count ≡ x → ltb sheet_room bits ≡ y → count' ≡ pick x count (count + width) → Counted count' (bits + width)
    go true true p q e =
        let a = ltb-true sheet_room count p in
        let b = ltb-true sheet_room bits q in
        record { exact = λ h. absurd (omega arith); over = λ h. omega arith }
    go true false p q e =
        let a = ltb-true sheet_room count p in
        let b = c.exact (ltb-false sheet_room bits q) in
        absurd (omega (arith, ltb-false sheet_room bits q))
    go false true p q e =
        let a = ltb-false sheet_room count p in
        let b = c.over (ltb-true sheet_room bits q) in
        absurd (omega arith)
    go false false p q e =
        let b = c.exact (ltb-false sheet_room bits q) in
        record { exact = λ h. omega arith; over = λ h. omega arith }

-- ---- the bits so far

-- the bits of a code stand in others from a position on, where all of them have room; else nothing changes
abbrev pub put_in : List ℕ → (pos width code : ℕ) → List ℕ
put_in bits pos width code = pick (leb (pos + width) (length bits)) (sets bits pos (bits_of width code)) bits

-- it is what `bits::put` leaves
pub leaves-bits : (out : List ℕ) (pos w code : ℕ) → w ≤ 64 → leaves out pos w code ≡ put_in (to_bits out) pos w code
leaves-bits out pos w code h = rw (le-leb w 64 h, length-to_bits out) (go (leb (pos + w) (8 * length out)) refl)
  where
    go : (b : Bool) → leb (pos + w) (8 * length out) ≡ b
        → cond b (put_to (to_bits out) pos w code) (to_bits out) ≡ pick b (sets (to_bits out) pos (bits_of w code)) (to_bits out)
    go true e =
        let k = leb-true (pos + w) (8 * length out) e in
        let i : length (bits_of w code) ≡ w = length-bits_of w code in
        ap (λ (x : ℕ). take pos (to_bits out) ++ (bits_of w code ++ drop (pos + x) (to_bits out))) (sym i)
        ∙ sym (append_assoc (take pos (to_bits out)) (bits_of w code) (drop (pos + length (bits_of w code)) (to_bits out)))
        ∙ sym (sets-eq (bits_of w code) (to_bits out) pos (omega (arith, length-to_bits out)))
    go false e = refl

put-length : (bits : List ℕ) (pos w code : ℕ) → length (put_in bits pos w code) ≡ length bits
put-length bits pos w code = go (leb (pos + w) (length bits))
  where
    go : (b : Bool) → length (pick b (sets bits pos (bits_of w code)) bits) ≡ length bits
    go true = length-sets bits pos (bits_of w code)
    go false = refl

-- So many bits, and those that stand in `out` by a store that goes on past its end; where all fit, they do stand there.
pub record Kept (place : ℕ) (bits : List ℕ) (pos : ℕ) (out : List ℕ) : Type 0 where
  pub count : Counted pos place
  pub stored : place ≤ sheet_room → place ≤ length out → out ≡ bits

pub kept-first : (out : List ℕ) → Kept 0 out 0 out
kept-first out = record { count = record { exact = λ h. refl; over = λ h. h }; stored = λ h k. refl }

-- the bits of one more code
pub kept_on : {place : ℕ} {bits : List ℕ} {pos : ℕ} {out : List ℕ} (w code : ℕ) → Kept place bits pos out
    → Kept (place + w) (sets bits place (bits_of w code)) (onward pos w) (put_in out pos w code)
kept_on {place} {bits} {pos} {out} w code k =
    record {
      count = counted-on w (onward pos w) k.count refl;
      stored = λ a b. let p : pos ≡ place = k.count.exact (omega arith) in
          let r : place + w ≤ length out = omega (arith, put-length out pos w code) in
          rw (le-leb (pos + w) (length out) (omega arith)) (ap₂ (λ (x : ℕ) y. sets y x (bits_of w code)) p (k.stored (omega arith) (omega arith)));
    }

-- ---- cells written one after the other

-- the entries of a sheet come into bits
abbrev pub writing : List ℕ → Way
writing sheet =
    record {
      place = λ pos at. at;
      there = λ pos at width. ltb at (length sheet);
      code = λ pos at width. get_or sheet at 0;
      behind = onward;
      stored = λ pos at width code bits. put_in bits pos width code;
    }

-- Where a writing is, with so many cells left: within the sheet, an entry behind for each cell.
pub record Wrote (sheet cs : List ℕ) (at left p a : ℕ) : Type 0 where
  pub inside : a ≤ length sheet
  pub small : p < 2 ^ 33
  pub count : a + left ≡ at + length cs

onward-small : (p w : ℕ) → p < 2 ^ 33 → w ≤ 16 → onward p w < 2 ^ 33
onward-small p w h k = go (ltb sheet_room p) refl
  where
    go : (b : Bool) → ltb sheet_room p ≡ b → pick b p (p + w) < 2 ^ 33
    go true e = h
    go false e = let i = ltb-false sheet_room p e in omega arith

pub writing-comes : (sheet cs : List ℕ) (pos at last : ℕ) (bits : List ℕ) → at ≤ length sheet → pos < 2 ^ 33
    → Comes (Wrote sheet cs at 0) (walk (writing sheet) cs pos at last bits)
writing-comes sheet cs pos at last bits h k =
    walk-comes (writing sheet) (Wrote sheet cs at) step cs pos at last bits (record { inside = h; small = k; count = refl })
  where
    step : (left p a cell : ℕ) → Wrote sheet cs at (suc left) p a → ltb a (length sheet) ≡ true → Wrote sheet cs at left (onward p (width_in cell)) (a + 1)
    step left p a cell r e =
        let i = ltb-true a (length sheet) e in
        record { inside = omega arith; small = onward-small p (width_in cell) r.small (cell-bits cell).1; count = omega (arith, r.count) }

-- the layout's run from a place of a writing, by the bits that stand there
pub record Writes {A : Type 0} (sheet : List ℕ) (pos at : ℕ) (out : List ℕ) (l : Layout A) (here : Ended) : Type 0 where
  pub place : ℕ
  pub bits : List ℕ
  pub kept : Kept place bits pos out
  pub inside : at ≤ length sheet
  pub same : here ≡ put_l l (drop at sheet) place at bits

pub writing-turns : {S A : Type 0} {field_of : S → Field} {step_of : S → ℕ → S} (sheet : List ℕ) → Turns {A = A} field_of step_of (writing sheet) (Writes sheet)
writing-turns {A} {field_of} {step_of} sheet cell pos at out s l here run walks e = go (get_or sheet at 0) refl (ltb at (length sheet)) _ refl refl
  where
    go : (c : ℕ) → c ≡ get_or sheet at 0 → (b : Bool) (v : Verdict) → ltb at (length sheet) ≡ b → judge (field_in cell) c ≡ v
        → Turned {A = A} field_of step_of (writing sheet) (Writes sheet) (field_in cell).sf at here (step_of s c) (onward pos (width_in cell)) (at + 1) (put_in out pos (width_in cell) c) b v
    go c n false v p q =
        let d : (field_of s).width ≡ width_in cell = width_is e in
        let z : 0 < width_in cell = (cell-bits cell).0 in
        let k = ltb-false at (length sheet) p in
        short (run.same ∙ put-short sheet run.place at run.bits walks (omega arith) (omega (arith, run.inside))
        ∙ ap (λ (x : ℕ). stopped (fault_at refusal.Short x at)) (sf-is e))
    go c n true (Err why) p q =
        let d : (field_of s).width ≡ width_in cell = width_is e in
        let z : 0 < width_in cell = (cell-bits cell).0 in
        let k = ltb-true at (length sheet) p in
        fault (run.same ∙ put-fault sheet run.place at run.bits c why walks (omega arith) k n (judge-is c e ∙ q)
        ∙ ap (λ (x : ℕ). stopped (fault_at why x at)) (sf-is e))
    go c n true (Ok _) p q =
        let d : (field_of s).width ≡ width_in cell = width_is e in
        let z : 0 < width_in cell = (cell-bits cell).0 in
        let k = ltb-true at (length sheet) p in
        let on = put_on sheet run.place at run.bits c walks (omega arith) k n (judge-is c e ∙ q) in
        taken on.walks
        (record {
          place = run.place + width_in cell;
          bits = sets run.bits run.place (bits_of (width_in cell) c);
          kept = kept_on (width_in cell) c run.kept;
          inside = omega arith;
          same = run.same ∙ on.same
              ∙ ap (λ (x : ℕ). put_l on.left (drop (at + 1) sheet) (run.place + x) (at + 1) (sets run.bits run.place (bits_of x c))) d;
        })
