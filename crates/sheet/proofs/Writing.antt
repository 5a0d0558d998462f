-- The turns and the ends of a pass over a sheet, and of the whole writing, over plain variables: what the proofs of `write` and its parts cite.
use Rattle.std.specs.Prelude.{Ok, Err, Some, None}
use mathlib.Core.Path.{◌≡◌, refl, ap, ap₂, sym, ◌∙◌, subst}
use mathlib.Core.Bool.{Bool, true, false}
use mathlib.Core.List.{List, ◌++◌, append_assoc}
use Prim.Native.Nat.{ℕ, ◌+◌, ◌-◌, ◌*◌, ◌^◌, ◌≤◌, ◌<◌}
use native.Mathlib.Omega.{arith}
use native.Mathlib.Nat.{zero-add}
use lib.Dec.{ltb}
use lib.ListN.{length, take, drop, get_or, length-append}
use lib.Seq.{sets, sets-eq, drop-drop, take_at, drop-append-add, length-take-le}
use borrow.Author.Tests.{lt-ltb, le-ltb, ltb-true, ltb-false, ne_eqb}
use Rattle.sheet.specs.declared.Written.{Written as Laid}
use Rattle.quick.specs.declared.Extent.{Extent}
use Rattle.answer.specs.Pairs.{ok-value}
use Rattle.sizes.specs.Sizes.{longest_payload}
use Rattle.answer.specs.declared.Refusal.{Refusal}
use Rattle.answer.specs.declared.Refusal.TheVariants as refusal
use Rattle.answer.specs.declared.Fault as answer
use Rattle.answer.specs.Place.{nowhere, fault_at, further}
use Rattle.answer.specs.Further.{further-none}
use Rattle.bits.specs.Bits.{to_bits, bits_of, leaves}
use Rattle.bits.specs.Laws.{leaves-there, length-to_bits, length-bits_of, to_bits-append, to_bits-take, to_bits-drop}
use Rattle.layout.specs.declared.Field.{Field}
use Rattle.layout.specs.Results.{Verdict}
use Rattle.layout.specs.Parts.{Part, absent, present}
use Rattle.layout.specs.Layout.{Layout, judge, Written, written, unwritten, write_l}
use Rattle.layout.specs.Run.{finished, stopped, On}
use Rattle.layout.specs.Put.{put_l, ended_w, put-writes, put-done, put-over, put-short, put-fault, put_on}
use Rattle.layout.specs.Walks.{Walks}
use Rattle.rows.specs.Puts.{onward, Counted, leaves-bits, Kept, kept-first, kept_on}
use Rattle.message.specs.declared.State.{State}
use Rattle.message.specs.Results.{Start}
use Rattle.message.specs.Machine.{field_of, step_of, start_of}
use Rattle.message.specs.Messages.{Message, layout_for}
use Rattle.sheet.specs.Sheet.{bad_length, bytes_for, fill_for, then_length, judging_sheet, judged_sheet, writing, write_answer_by, out_by, write_answer, out_after}
use Rattle.sheet.specs.Laws.{good-some, judging_sheet_with, judging-sheet-with, writing-with}
use Rattle.sheet.specs.Passes.{ForLayout, PutBy, whole, fault, bits_of_pass, WritePass, bits_written, bytes_written, written_with, written_of, SheetPass, AsideBits, text, nothing, SheetKept, WriteWhole}
use Rattle.sheet.specs.Results.{WriteAnswer}
use Rattle.sheet.specs.Results.{Pass}
use Rattle.sheet.proofs.Reading.{walks-word, started, not-started}

-- ---- a pass

-- for one layout: the bits written so far
pub record Putting (sheet out₀ : List ℕ) (l : Layout Message) (out : List ℕ) (s : State) (pos at : ℕ) : Type 0 where
  pub place : ℕ
  pub bits : List ℕ
  pub kept : Kept place bits pos (to_bits out)
  pub on : On field_of step_of s (put_l l sheet 0 0 (to_bits out₀)) (λ (next : Layout Message). put_l next (drop at sheet) place at bits)

-- at the loop's head: the rest of the sheet is written from here as the whole was to be from the start
pub record Turn (sheet out₀ : List ℕ) (s₀ : State) (out : List ℕ) (s : State) (pos at : ℕ) : Type 0 where
  pub inside : at ≤ length sheet
  pub small : pos < 2 ^ 33
  pub same : length out ≡ length out₀
  pub on : ForLayout s₀ (λ l. Putting sheet out₀ l out s pos at)

pub turn-first : (sheet out : List ℕ) (s : State) → Turn sheet out s out s 0 0
turn-first sheet out s =
    record {
      inside = omega arith;
      small = omega arith;
      same = refl;
      on = λ l w. record {
        place = 0;
        bits = to_bits out;
        kept = kept-first (to_bits out);
        on = record { left = l; walks = w; same = refl };
      };
    }

pub ended-fault : (o : Written) (n : ℕ) (why : answer.Fault) (out out' : List ℕ) → ended_w o n 0 0 (to_bits out) ≡ stopped why → PutBy out out' o (Err why)
ended-fault (written bs) n why out out' e = let z : ◌≡◌ {A = ℕ} 0 1 = cc in absurd (omega arith)
ended-fault (unwritten why') n why out out' e = let z : further 0 why' ≡ why = cc in let q : why' ≡ why = sym (further-none why') ∙ z in subst (λ x. PutBy out out' (unwritten x) (Err why)) (sym q) fault

ended-whole : (o : Written) (n entries count place : ℕ) (bits out out' : List ℕ) → ended_w o n 0 0 (to_bits out) ≡ finished entries place bits → Counted count place
    → (place ≤ 8 * longest_payload → place ≤ 8 * length out → to_bits out' ≡ bits) → PutBy out out' o (Ok (record { entries = entries; bits = count }))
ended-whole (written bs) n entries count place bits out out' e c h =
    let p : 0 + length bs ≡ place = cc in
    let q : sets (to_bits out) 0 bs ≡ bits = cc in
    let r : place ≡ length bs = sym p ∙ zero-add (length bs) in
    let k : length bs ≤ 8 * longest_payload → length bs ≤ 8 * length out → to_bits out' ≡ bs ++ drop (length bs) (to_bits out)
    = λ a b. h (omega arith) (omega arith) ∙ sym q ∙ sets-eq bs (to_bits out) 0 (omega (arith, length-to_bits out)) ∙ simp zero-add in
    whole (subst (Counted count) r c) k
ended-whole (unwritten why) n entries count place bits out out' e c h = let z : ◌≡◌ {A = ℕ} 0 1 = cc in absurd (omega arith)

module _ {sheet out₀ : List ℕ} {s₀ : State} {out : List ℕ} {s : State} {pos at : ℕ} (t : Turn sheet out₀ s₀ out s pos at) (f : Field) (e : f ≡ field_of s) where
  width_is : (field_of s).width ≡ f.width
  width_is = ap (λ (x : Field). x.width) (sym e)

  stops : (why : answer.Fault) → ((place : ℕ) (bits : List ℕ) (l : Layout Message) → Walks field_of step_of s l → put_l l (drop at sheet) place at bits ≡ stopped why)
      → WritePass sheet out₀ s₀ (Err why) out
  stops why h =
      record {
        puts = λ l w. let o = t.on l w in
            ended-fault (write_l l sheet) (length sheet) why out₀ out
            (sym (put-writes l sheet 0 0 (to_bits out₀)) ∙ o.on.same ∙ h o.place o.bits o.on.left o.on.walks);
        small = omega arith;
      }

  pub turn-over : f.width ≡ 0 → at < length sheet → WritePass sheet out₀ s₀ (Err (nowhere refusal.Leftover)) out
  turn-over z h = stops (nowhere refusal.Leftover) (λ place bits l w. put-over sheet place at bits w (width_is ∙ z) h)

  pub turn-done : f.width ≡ 0 → length sheet ≤ at → WritePass sheet out₀ s₀ (Ok (record { entries = at; bits = pos })) out
  turn-done z h =
      record {
        puts = λ l w. let o = t.on l w in
            ended-whole (write_l l sheet) (length sheet) at pos o.place o.bits out₀ out
            (sym (put-writes l sheet 0 0 (to_bits out₀)) ∙ o.on.same
            ∙ put-done sheet o.place at o.bits o.on.walks (width_is ∙ z) (omega (arith, t.inside)))
            o.kept.count (λ a b. o.kept.stored a (omega (arith, t.same, length-to_bits out)));
        small = t.small;
      }

  short-here : (f.width ≡ 0 → ⊥) → length sheet ≤ at → WritePass sheet out₀ s₀ (Err (fault_at refusal.Short f.sf at)) out
  short-here z h =
      let d : (field_of s).width ≡ f.width = width_is in
      stops (fault_at refusal.Short f.sf at) (λ place bits l w. put-short sheet place at bits w (omega arith) (omega (arith, t.inside))
      ∙ ap (λ (x : Field). stopped (fault_at refusal.Short x.sf at)) (sym e))

  pub turn-short : (r : Pass) → (f.width ≡ 0 → ⊥) → length sheet ≤ at → r ≡ Err (fault_at refusal.Short f.sf at) → WritePass sheet out₀ s₀ r out
  turn-short r z h i = subst (λ x. WritePass sheet out₀ s₀ x out) (sym i) (short-here z h)

  module _ (z : f.width ≡ 0 → ⊥) (h : at < length sheet) (v : Verdict) (j : v ≡ judge f (get_or sheet at 0)) where
    abbrev code : ℕ
    code = get_or sheet at 0

    verdict-is : judge (field_of s) code ≡ v
    verdict-is = ap (λ (x : Field). judge x code) (sym e) ∙ sym j

    fault-here : (why : Refusal) → v ≡ Err why → WritePass sheet out₀ s₀ (Err (fault_at why f.sf at)) out
    fault-here why q =
        let d : (field_of s).width ≡ f.width = width_is in
        stops (fault_at why f.sf at) (λ place bits l w. put-fault sheet place at bits code why w (omega arith) h refl (verdict-is ∙ q)
        ∙ ap (λ (x : Field). stopped (fault_at why x.sf at)) (sym e))

    pub turn-fault : (r : Pass) (why : Refusal) → v ≡ Err why → r ≡ Err (fault_at why f.sf at) → WritePass sheet out₀ s₀ r out
    turn-fault r why q i = subst (λ x. WritePass sheet out₀ s₀ x out) (sym i) (fault-here why q)

    pub turn-again : (out' : List ℕ) (pos' : ℕ) (s' : State) → v ≡ Ok tt → length out' ≡ length out → to_bits out' ≡ leaves out pos f.width code
        → (pos' ≡ onward pos f.width) × (pos < 2 ^ 33 → pos' < 2 ^ 33) → s' ≡ step_of s code → Turn sheet out₀ s₀ out' s' pos' (at + 1)
    turn-again out' pos' s' q kept put moved stepped =
        let d : (field_of s).width ≡ f.width = width_is in
        record {
          inside = omega arith;
          small = moved.1 t.small;
          same = kept ∙ t.same;
          on = λ l w. let o = t.on l w in
              let n : 0 < (field_of s).width = omega arith in
              let m : f.width ≤ 64 = omega (arith, walks-word o.on.walks n) in
              let r = put_on sheet o.place at o.bits code o.on.walks n h refl (verdict-is ∙ q) in
              record {
                place = o.place + f.width;
                bits = sets o.bits o.place (bits_of f.width code);
                kept = rw (moved.0, put ∙ leaves-bits out pos f.width code m) (kept_on f.width code o.kept);
                on = record {
                  left = r.left;
                  walks = subst (λ x. Walks field_of step_of x r.left) (sym stepped) r.walks;
                  same = o.on.same ∙ r.same
                      ∙ ap (λ (x : ℕ). put_l r.left (drop (at + 1) sheet) (o.place + x) (at + 1) (sets o.bits o.place (bits_of x code))) d;
                };
              };
        }

-- ---- both passes

-- a bad length counted is a bad length; a good one was counted exactly
length-by : (count bits : ℕ) → Counted count bits → bad_length (bytes_for count) ≡ true → bad_length (bytes_for bits) ≡ true
length-by count bits c h = go (ltb (8 * longest_payload) bits) refl
  where
    go : (x : Bool) → ltb (8 * longest_payload) bits ≡ x → bad_length (bytes_for bits) ≡ true
    go true p =
        let a : 8 * longest_payload < bits = ltb-true (8 * longest_payload) bits p in
        rw (ne_eqb (bytes_for bits) 0 (λ z. omega arith), lt-ltb longest_payload (bytes_for bits) (omega arith))
    go false p =
        let a : count ≡ bits = c.exact (ltb-false (8 * longest_payload) bits p) in
        ap (λ (x : ℕ). bad_length (bytes_for x)) (sym a) ∙ h

exact-by : (count bits : ℕ) → Counted count bits → bad_length (bytes_for count) ≡ false → (count ≡ bits) × (bits ≤ 8 * longest_payload)
exact-by count bits c h = go (ltb (8 * longest_payload) bits) refl
  where
    go : (x : Bool) → ltb (8 * longest_payload) bits ≡ x → (count ≡ bits) × (bits ≤ 8 * longest_payload)
    go true p =
        let a : 8 * longest_payload < count = c.over (ltb-true (8 * longest_payload) bits p) in
        let b : bytes_for count ≤ longest_payload = (good-some (bytes_for count) h).1 in
        absurd (omega arith)
    go false p = let a : bits ≤ 8 * longest_payload = ltb-false (8 * longest_payload) bits p in (c.exact a, a)

-- what a pass says is the answer
judged-fault : (o : Written) (pass : Pass) (none none' : List ℕ) (why : answer.Fault) → PutBy none' none o pass → pass ≡ Err why
    → Err why ≡ write_answer_by (then_length o)
judged-fault (unwritten w) (Err v) none none' why fault e = let q : w ≡ why = cc in ap (λ x. Err x) (sym q)
judged-fault (written bs) (Ok p) none none' why (whole c h) e = let z : ◌≡◌ {A = ℕ} 0 1 = cc in absurd (omega arith)
judged-fault (written bs) (Err v) none none' why x4 e = elim x4 [ ]
judged-fault (unwritten w) (Ok p) none none' why x4 e = elim x4 [ ]

judged-length : (o : Written) (pass : Pass) (none none' : List ℕ) (entries count : ℕ) → PutBy none' none o pass → pass ≡ Ok (record { entries = entries; bits = count })
    → bad_length (bytes_for count) ≡ true → Err (nowhere refusal.Length) ≡ write_answer_by (then_length o)
judged-length (unwritten w) (Err v) none none' entries count fault e b = let z : ◌≡◌ {A = ℕ} 0 1 = cc in absurd (omega arith)
judged-length (written bs) (Ok p) none none' entries count (whole c h) e b =
    let q : p.bits ≡ count = ap (λ (x : Extent). x.bits) (ok-value e) in
    rw (length-by count (length bs) (subst (λ x. Counted x (length bs)) q c) b)
judged-length (written bs) (Err v) none none' entries count x6 e b = elim x6 [ ]
judged-length (unwritten w) (Ok p) none none' entries count x5 e b = elim x5 [ ]

judged-whole : (o : Written) (pass : Pass) (none none' : List ℕ) (entries count : ℕ) → PutBy none' none o pass → pass ≡ Ok (record { entries = entries; bits = count })
    → bad_length (bytes_for count) ≡ false → Ok (record { bits = count; bytes = bytes_for count }) ≡ write_answer_by (then_length o)
judged-whole (unwritten w) (Err v) none none' entries count fault e b = let z : ◌≡◌ {A = ℕ} 0 1 = cc in absurd (omega arith)
judged-whole (written bs) (Ok p) none none' entries count (whole c h) e b =
    let q : p.bits ≡ count = ap (λ (x : Extent). x.bits) (ok-value e) in
    let x : (count ≡ length bs) × (length bs ≤ 8 * longest_payload) = exact-by count (length bs) (subst (λ y. Counted y (length bs)) q c) b in
    let k : bad_length (bytes_for (length bs)) ≡ false = ap (λ (y : ℕ). bad_length (bytes_for y)) (sym x.0) ∙ b in
    rw k (ap (λ (y : ℕ). Ok (record { bits = y; bytes = bytes_for y })) x.0)
judged-whole (written bs) (Err v) none none' entries count x6 e b = elim x6 [ ]
judged-whole (unwritten w) (Ok p) none none' entries count x5 e b = elim x5 [ ]

aside-by : (o : Written) (pass : Pass) (aside aside' : List ℕ) → PutBy aside aside' o pass → AsideBits aside aside' o
aside-by (written bs) (Ok p) aside aside' (whole c h) = text h
aside-by (unwritten w) (Err v) aside aside' fault = nothing
aside-by (written bs) (Err v) aside aside' x'' = elim x'' [ ]
aside-by (unwritten w) (Ok p) aside aside' x3 = elim x3 [ ]

-- from the start of a type and subtype
module _ (kind subtype : ℕ) (sheet out : List ℕ) (x : Start) (e : x ≡ start_of kind subtype) where
  pub sheet-known : (pass : Pass) (out' : List ℕ) (start : State) → x ≡ Some start → WritePass sheet out start pass out' → SheetPass kind subtype sheet out pass out'
  sheet-known pass out' start q w =
      let k = started kind subtype x start e q in
      record {
        puts = subst (λ o. PutBy out out' o pass) (sym (ap (written_with sheet) k.here)) (w.puts k.layout k.walks);
        small = w.small;
      }

  pub sheet-unknown : x ≡ None → SheetPass kind subtype sheet out (Err (nowhere refusal.UnknownType)) out
  sheet-unknown q =
      record {
        puts = subst (λ o. PutBy out out o (Err (nowhere refusal.UnknownType))) (sym (ap (written_with sheet) (not-started kind subtype x e q))) fault;
        small = omega arith;
      }

module _ {kind subtype : ℕ} {sheet aside : List ℕ} (dry : Pass) (aside' : List ℕ) (p : SheetPass kind subtype sheet aside dry aside') where
  pub keep-fault : (why : answer.Fault) → dry ≡ Err why → SheetKept kind subtype sheet aside (Err why) aside'
  keep-fault why e =
      record {
        judged = record { answers = judged-fault (written_of kind subtype sheet) dry aside' aside why p.puts e; round = refl; good = omega arith };
        keeps = aside-by (written_of kind subtype sheet) dry aside aside' p.puts;
      }

  module _ (x : Extent) (e : dry ≡ Ok x) (b : Bool) (m : b ≡ bad_length (bytes_for x.bits)) where
    pub keep-length : b ≡ true → SheetKept kind subtype sheet aside (Err (nowhere refusal.Length)) aside'
    keep-length n =
        record {
          judged = record {
            answers = judged-length (written_of kind subtype sheet) dry aside' aside x.entries x.bits p.puts e (sym m ∙ n);
            round = refl;
            good = omega arith;
          };
          keeps = aside-by (written_of kind subtype sheet) dry aside aside' p.puts;
        }

    pub keep-whole : b ≡ false → SheetKept kind subtype sheet aside (Ok (record { bits = x.bits; bytes = bytes_for x.bits })) aside'
    keep-whole n =
        record {
          judged = record {
            answers = judged-whole (written_of kind subtype sheet) dry aside' aside x.entries x.bits p.puts e (sym m ∙ n);
            round = refl;
            good = (good-some (bytes_for x.bits) (sym m ∙ n)).1;
          };
          keeps = aside-by (written_of kind subtype sheet) dry aside aside' p.puts;
        }

-- a refusal leaves the bytes; the bits kept aside are copied, with the fill behind them
module _ (out : List ℕ) where
  refused-leaves : (o : Written) (why : answer.Fault) → Err why ≡ write_answer_by o → to_bits out ≡ out_by o out
  refused-leaves (unwritten w) why e = refl
  refused-leaves (written bs) why e = let z : ◌≡◌ {A = ℕ} 0 1 = cc in absurd (omega arith)

  -- the fill behind the bits
  filled : (bs out₁ out₂ : List ℕ) → length bs ≤ 8 * longest_payload → longest_payload ≤ length out → length out₁ ≡ length out
      → to_bits out₁ ≡ bs ++ drop (length bs) (to_bits out) → to_bits out₂ ≡ leaves out₁ (length bs) (8 * bytes_for (length bs) - length bs) 0
      → to_bits out₂ ≡ out_by (written bs) out
  filled bs out₁ out₂ h room same e p =
      let n : ℕ = length bs in
      let w : ℕ = 8 * bytes_for n - n in
      let last : n + w ≡ 8 * bytes_for n = omega arith in
      let front : take n (to_bits out₁) ≡ bs = ap (take n) e ∙ take_at bs (drop n (to_bits out)) n refl in
      let back : drop (n + w) (to_bits out₁) ≡ drop (8 * bytes_for n) (to_bits out)
      = ap (drop (n + w)) e ∙ drop-append-add bs (drop n (to_bits out)) w ∙ drop-drop w n (to_bits out) ∙ ap (λ (x : ℕ). drop x (to_bits out)) last in
      p ∙ leaves-there out₁ n w 0 (omega arith) (omega arith) ∙ ap₂ (λ x y. x ++ (bits_of w 0 ++ y)) front back

  stored-leaves : (o : Written) (out₁ out₂ : List ℕ) (bits bytes : ℕ) → Ok (record { bits = bits; bytes = bytes }) ≡ write_answer_by (then_length o)
      → longest_payload ≤ length out → length out₁ ≡ length out → AsideBits out out₁ o → to_bits out₂ ≡ leaves out₁ bits (8 * bytes - bits) 0
      → to_bits out₂ ≡ out_by (then_length o) out
  stored-leaves (unwritten w) out₁ out₂ bits bytes e room same d p = let z : ◌≡◌ {A = ℕ} 0 1 = cc in absurd (omega arith)
  stored-leaves (written bs) out₁ out₂ bits bytes e room same (text h) p = go (bad_length (bytes_for (length bs))) refl
    where
      go : (x : Bool) → bad_length (bytes_for (length bs)) ≡ x → to_bits out₂ ≡ out_by (then_length (written bs)) out
      go true k = let z : Ok (record { bits = bits; bytes = bytes }) ≡ Err (nowhere refusal.Length) = rw k at e in let y : ◌≡◌ {A = ℕ} 0 1 = cc in absurd (omega arith)
      go false k =
          let z : Ok (record { bits = bits; bytes = bytes }) ≡ Ok (record { bits = length bs; bytes = bytes_for (length bs) }) = rw k at e in
          let i : bits ≡ length bs = ap (λ (x : Laid). x.bits) (ok-value z) in
          let j : bytes ≡ bytes_for (length bs) = ap (λ (x : Laid). x.bytes) (ok-value z) in
          let few : bytes_for (length bs) ≤ longest_payload = (good-some (bytes_for (length bs)) k).1 in
          rw k (filled bs out₁ out₂ (omega arith) room same (h (omega arith) (omega arith)) (p ∙ ap₂ (λ (x y : ℕ). leaves out₁ x (8 * y - x) 0) i j))

-- the bytes kept aside, in place of the first ones of `out`
copied-leaves : (o : Written) (aside aside' out : List ℕ) (bits bytes : ℕ) → Ok (record { bits = bits; bytes = bytes }) ≡ write_answer_by o → bytes ≤ longest_payload → longest_payload ≤ length out
    → longest_payload ≤ length aside' → to_bits aside' ≡ out_by o aside → to_bits (take bytes aside' ++ drop bytes out) ≡ out_by o out
copied-leaves (unwritten w) aside aside' out bits bytes e few room k p = let z : ◌≡◌ {A = ℕ} 0 1 = cc in absurd (omega arith)
copied-leaves (written bs) aside aside' out bits bytes e few room k p =
    let n : ℕ = length bs in
    let fill : List ℕ = fill_for n in
    let i : bytes ≡ bytes_for n = ap (λ (x : Laid). x.bytes) (ok-value e) in
    let f : length fill ≡ 8 * bytes_for n - n = length-bits_of (8 * bytes_for n - n) 0 in
    let whole : length (bs ++ fill) ≡ 8 * bytes = omega (arith, length-append bs fill) in
    let front : take (8 * bytes) (to_bits aside') ≡ bs ++ fill
    = ap (take (8 * bytes)) (p ∙ sym (append_assoc bs fill (drop (8 * bytes_for n) (to_bits aside)))) ∙ take_at (bs ++ fill) (drop (8 * bytes_for n) (to_bits aside)) (8 * bytes) whole in
    to_bits-append (take bytes aside') (drop bytes out)
    ∙ ap₂ (λ x y. x ++ y) (to_bits-take bytes aside' (omega arith) ∙ front) (to_bits-drop bytes out (omega arith) ∙ ap (λ (x : ℕ). drop (8 * x) (to_bits out)) i)
    ∙ append_assoc bs fill (drop (8 * bytes_for n) (to_bits out))

module _ {kind subtype : ℕ} {sheet aside : List ℕ} (judged : WriteAnswer) (aside' : List ℕ) (p : SheetKept kind subtype sheet aside judged aside') where
  pub whole-refused : {out : List ℕ} (why : answer.Fault) → judged ≡ Err why → WriteWhole kind subtype sheet out (Err why) out
  whole-refused {out} why e =
      record {
        answers = sym e ∙ p.judged.answers;
        leaves = refused-leaves out (then_length (written_of kind subtype sheet)) why (sym e ∙ p.judged.answers);
      }

  module _ (bits bytes : ℕ) (e : judged ≡ Ok (record { bits = bits; bytes = bytes })) where
    -- the count of bits is small enough to be taken from that of the bytes
    whole-bytes : bytes ≡ bytes_for bits
    whole-bytes = let r : bytes_written judged ≡ bytes_for (bits_written judged) = p.judged.round in rw e at r

    whole-short : bytes ≤ longest_payload
    whole-short = let r : bytes_written judged ≤ longest_payload = p.judged.good in rw e at r

    pub fill-times : 8 * bytes < 2 ^ 64
    fill-times = omega (arith, whole-short)

    pub fill-under : bits ≤ 8 * bytes
    fill-under = omega (arith, whole-bytes)

    pub fill-few : 8 * bytes - bits < 2 ^ 32
    fill-few = omega (arith, whole-short)

    pub whole-fits : (aside₂ : List ℕ) → longest_payload ≤ length aside → length aside' ≡ length aside → length aside₂ ≡ length aside' → bytes ≤ length aside₂
    whole-fits aside₂ k same same₂ = let s : bytes ≤ longest_payload = whole-short in omega arith

    pub whole-count : (aside₂ : List ℕ) → longest_payload ≤ length aside → length aside' ≡ length aside → length aside₂ ≡ length aside' → length (take bytes aside₂) ≡ bytes
    whole-count aside₂ k same same₂ = length-take-le bytes aside₂ (whole-fits aside₂ k same same₂)

    pub whole_room : (aside₂ out : List ℕ) → longest_payload ≤ length out → longest_payload ≤ length aside → length aside' ≡ length aside → length aside₂ ≡ length aside'
        → length (take bytes aside₂) ≤ length out
    whole_room aside₂ out room k same same₂ = let s : bytes ≤ longest_payload = whole-short in omega (arith, whole-count aside₂ k same same₂)

    pub whole-written : {out : List ℕ} (aside₂ out' : List ℕ) → longest_payload ≤ length out → longest_payload ≤ length aside → length aside' ≡ length aside
        → length aside₂ ≡ length aside' → to_bits aside₂ ≡ leaves aside' bits (8 * bytes - bits) 0
        → out' ≡ take bytes aside₂ ++ drop bytes out
        → WriteWhole kind subtype sheet out (Ok (record { bits = bits; bytes = bytes })) out'
    whole-written {out} aside₂ out' room k same same₂ put c =
        let s : bytes ≤ longest_payload = whole-short in
        record {
          answers = sym e ∙ p.judged.answers;
          leaves = ap to_bits c ∙ copied-leaves (then_length (written_of kind subtype sheet)) aside aside₂ out bits bytes (sym e ∙ p.judged.answers) s room (omega arith)
              (stored-leaves aside (written_of kind subtype sheet) aside' aside₂ bits bytes (sym e ∙ p.judged.answers) k same p.keeps put);
        }

-- the count of a pass is small enough to be rounded up to bytes
pub count_small : {kind subtype : ℕ} {sheet aside : List ℕ} {dry : Pass} {aside' : List ℕ} {entries count : ℕ} → SheetPass kind subtype sheet aside dry aside' → dry ≡ Ok (record { entries = entries; bits = count }) → count + 7 < 2 ^ 64
count_small {count} p e = let h : count < 2 ^ 33 = subst (λ x. bits_of_pass x < 2 ^ 33) e p.small in omega arith

-- ---- `judge_sheet`

then-judging : (sheet : List ℕ) (p : Part (Layout Message)) → then_length (written_with sheet p) ≡ judging_sheet_with sheet p
then-judging sheet absent = refl
then-judging sheet (present l) = refl

module _ (kind subtype : ℕ) (sheet : List ℕ) where
  is-judged : (o : Written) → judging_sheet kind subtype sheet ≡ o → write_answer_by o ≡ judged_sheet kind subtype sheet
  unfolding judged_sheet
  is-judged o e = ap write_answer_by (sym e)

  pub judge-kept : (r : WriteAnswer) (aside aside' : List ℕ) → SheetKept kind subtype sheet aside r aside' → r ≡ judged_sheet kind subtype sheet
  judge-kept r aside aside' p =
      p.judged.answers ∙ ap write_answer_by (then-judging sheet (layout_for kind subtype))
      ∙ is-judged (judging_sheet_with sheet (layout_for kind subtype)) (judging-sheet-with kind subtype sheet refl)

-- ---- `write`

-- what is answered, and the bits afterwards
pub record Met (kind subtype : ℕ) (sheet out : List ℕ) (r : WriteAnswer) (out' : List ℕ) : Type 0 where
  pub says : r ≡ write_answer kind subtype sheet out
  pub leaves : to_bits out' ≡ out_after kind subtype sheet out

pub both : {kind subtype : ℕ} {sheet out : List ℕ} {r : WriteAnswer} (out' : List ℕ) → Met kind subtype sheet out r out'
    → (r ≡ write_answer kind subtype sheet out) × (to_bits out' ≡ out_after kind subtype sheet out)
both out' m = (m.says, m.leaves)

module _ (kind subtype : ℕ) (sheet out : List ℕ) where
  meets : (o : Written) (out' : List ℕ) → writing kind subtype sheet out ≡ o → to_bits out' ≡ out_by o out → Met kind subtype sheet out (write_answer_by o) out'
  unfolding write_answer out_after
  meets o out' e p = record { says = ap write_answer_by (sym e); leaves = p ∙ ap (λ x. out_by x out) (sym e) }

  pub write-room : length out < longest_payload → Met kind subtype sheet out (Err (nowhere refusal.Room)) out
  write-room h = meets (unwritten (nowhere refusal.Room)) out (writing-with kind subtype sheet out (lt-ltb (length out) longest_payload h) refl) refl

  pub write-met : (r : WriteAnswer) (out' : List ℕ) → longest_payload ≤ length out → WriteWhole kind subtype sheet out r out' → Met kind subtype sheet out r out'
  write-met r out' room w =
      let p : Part (Layout Message) = layout_for kind subtype in
      let same : then_length (written_with sheet p) ≡ judging_sheet_with sheet p = then-judging sheet p in
      let g = meets (judging_sheet_with sheet p) out' (writing-with kind subtype sheet out (le-ltb (length out) longest_payload room) refl) (w.leaves ∙ ap (λ o. out_by o out) same) in
      record { says = w.answers ∙ ap write_answer_by same ∙ g.says; leaves = g.leaves }
