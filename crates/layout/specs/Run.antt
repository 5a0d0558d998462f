-- Serves proofs, and is proved: reading by a layout as a loop over a machine does it, with a position, a place in the sheet and the sheet handed on.
-- What it comes to is what `read_l` says.
use Rattle.std.specs.Prelude.{◌≡◌, Bool, true, false, List, eqb, ltb, leb, length, take, drop, set, Ok, Err}
use Rattle.std.proofs.Math.Path.{refl, ap, sym}
use Rattle.std.proofs.Common.{◌∙◌, add-one, arith, le-leb, ltb-false, eqb-true}
use Prim.Native.Nat.{ℕ, suc, ◌+◌, ◌^◌, ◌≤◌, ◌<◌}
use Rattle.std.proofs.Math.Nat.{add-zero}
use Rattle.std.proofs.lemmas.Bool.{lt-leb}
use Rattle.std.proofs.lemmas.List.Edits.{sets}
use Rattle.answer.specs.declared.Refusal.{Refusal}
use Rattle.answer.specs.declared.Refusal.TheVariants as refusal
use Rattle.answer.specs.declared.Fault as answer
use Rattle.answer.specs.Place.{fault_at, further}
use Rattle.answer.specs.Further.{further-twice, further-here}
use Rattle.bits.specs.Bits.{number}
use Rattle.layout.specs.declared.Field.{Field}
use Rattle.layout.specs.Results.{Verdict}
use Rattle.layout.specs.Layout.{Layout, done, field, pick, judge, Outcome, accepted, refused, enough, judged, before, read_l}
use Rattle.layout.specs.Walks.{Fine, Walks, ends, goes}

-- entries, bits, and the list that was filled; or the refusal with its place
pub data Ended : Type 0 where
  finished : (count used : ℕ) (filled : List ℕ) → Ended
  stopped : (why : answer.Fault) → Ended

abbrev pub judged_e : (sf place : ℕ) → Verdict → Ended → Ended
judged_e sf place (Ok _) e = e
judged_e sf place (Err why) e = stopped (fault_at why sf place)

unfoldable pub run_l : {A : Type 0} → Layout A → (bits : List ℕ) (pos at : ℕ) (sheet : List ℕ) → Ended
run_l (done v) bits pos at sheet = finished at pos sheet
run_l (field f next) bits pos at sheet =
    let c : ℕ = number (take f.width bits) in
    pick (leb f.width (length bits))
    (judged_e f.sf pos (judge f c) (run_l (next c) (drop f.width bits) (pos + f.width) (at + 1) (set sheet at c)))
    (stopped (fault_at refusal.Short f.sf pos))

-- ---- a run comes to what the reading finds

abbrev pub ended_of : {A : Type 0} → Outcome A → (pos at : ℕ) (sheet : List ℕ) → Ended
ended_of (accepted v cs n) pos at sheet = finished (at + length cs) (pos + n) (sets sheet at cs)
ended_of (refused why) pos at sheet = stopped (further pos why)

module _ {A : Type 0} where
  ended-before : (c w : ℕ) (o : Outcome A) (pos at : ℕ) (sheet : List ℕ) → ended_of o (pos + w) (at + 1) (set sheet at c) ≡ ended_of (before c w o) pos at sheet
  ended-before c w (accepted v cs n) pos at sheet =
      let p : at + 1 + length cs ≡ at + suc (length cs) = omega arith in
      let q : pos + w + n ≡ pos + (w + n) = omega arith in
      rw (p, q, add-one at)
  ended-before c w (refused why) pos at sheet = ap stopped (further-twice pos w why)

  ended-judged : (sf : ℕ) (v : Verdict) (o : Outcome A) (pos at : ℕ) (sheet : List ℕ)
      → judged_e sf pos v (ended_of o pos at sheet) ≡ ended_of (judged sf v o) pos at sheet
  ended-judged sf (Ok _) o pos at sheet = refl
  ended-judged sf (Err why) o pos at sheet = ap stopped (sym (further-here pos why sf))

  ended-enough : (sf : ℕ) (b : Bool) (o : Outcome A) (pos at : ℕ) (sheet : List ℕ)
      → pick b (ended_of o pos at sheet) (stopped (fault_at refusal.Short sf pos)) ≡ ended_of (enough sf b o) pos at sheet
  ended-enough sf true o pos at sheet = refl
  ended-enough sf false o pos at sheet = ap stopped (sym (further-here pos refusal.Short sf))

  pub run-reads : (l : Layout A) (bits : List ℕ) (pos at : ℕ) (sheet : List ℕ) → run_l l bits pos at sheet ≡ ended_of (read_l l bits) pos at sheet
  unfolding run_l read_l
  run-reads (done v) bits pos at sheet = rw (add-zero at, add-zero pos)
  run-reads (field f next) bits pos at sheet =
      let w : ℕ = f.width in
      let c : ℕ = number (take w bits) in
      let o : Outcome A = read_l (next c) (drop w bits) in
      ap (λ e. pick (leb w (length bits)) (judged_e f.sf pos (judge f c) e) (stopped (fault_at refusal.Short f.sf pos)))
      (run-reads (next c) (drop w bits) (pos + w) (at + 1) (set sheet at c) ∙ ended-before c w o pos at sheet)
      ∙ ap (λ e. pick (leb w (length bits)) e (stopped (fault_at refusal.Short f.sf pos))) (ended-judged f.sf (judge f c) (before c w o) pos at sheet)
      ∙ ended-enough f.sf (leb w (length bits)) (judged f.sf (judge f c) (before c w o)) pos at sheet

-- ---- codes that a field takes fit its width

-- it is the one code `extra`, or at most `most`
pub data Takes (f : Field) (c : ℕ) : Type 0 where
  extra : c ≡ f.extra → Takes f c
  range : c ≤ f.most → Takes f c

pub taken-within : (f : Field) (c : ℕ) → judge f c ≡ Ok tt → Takes f c
unfolding judge
taken-within f c e = go (eqb c f.extra) (ltb c f.least) (ltb f.most c) refl refl e
  where
    go : (x y z : Bool) → eqb c f.extra ≡ x → ltb f.most c ≡ z
        → ◌≡◌ {A = Verdict} (pick x (Ok tt) (pick y (Err f.under) (pick z (Err f.over) (pick (eqb c f.except) (Err refusal.Field) (Ok tt))))) (Ok tt) → Takes f c
    go true y z p r e = extra (eqb-true c f.extra p)
    go false true z p r e = let x : ◌≡◌ {A = ℕ} 0 1 = cc in absurd (omega arith)
    go false false true p r e = let x : ◌≡◌ {A = ℕ} 0 1 = cc in absurd (omega arith)
    go false false false p r e = range (ltb-false f.most c r)

pub taken-fits : {f : Field} {c : ℕ} → Fine f → judge f c ≡ Ok tt → c < 2 ^ f.width
taken-fits {f} {c} h e = go (taken-within f c e)
  where
    go : Takes f c → c < 2 ^ f.width
    go (extra p) = omega (arith, h.extra)
    go (range p) = omega (arith, h.most)

-- where `extra` is the highest code
pub taken-most : (f : Field) (c : ℕ) → f.most ≤ f.extra → judge f c ≡ Ok tt → c ≤ f.extra
taken-most f c h e = go (taken-within f c e)
  where
    go : Takes f c → c ≤ f.extra
    go (extra p) = omega arith
    go (range p) = omega arith

-- ---- a turn of the loop, at a state that walks what is left

-- The machine walks on, and the run from here is the run from there.
pub record On {S A : Type 0} (field_of : S → Field) (step_of : S → ℕ → S) (t : S) (here : Ended) (there : Layout A → Ended) : Type 0 where
  pub left : Layout A
  pub walks : Walks field_of step_of t left
  pub same : here ≡ there left

module _ {S A : Type 0} {field_of : S → Field} {step_of : S → ℕ → S} (bits : List ℕ) (pos at : ℕ) (sheet : List ℕ) where
  pub run-done : {s : S} {l : Layout A} → Walks field_of step_of s l → (field_of s).width ≡ 0 → run_l l bits pos at sheet ≡ finished at pos sheet
  unfolding run_l
  run-done (ends e) z = refl
  run-done {s} (goes {f} e h rest) z = absurd (omega (arith, h.some, ap (λ (x : Field). x.width) e))

  pub run_short : {s : S} {l : Layout A} → Walks field_of step_of s l → 0 < (field_of s).width → length bits < (field_of s).width
      → run_l l bits pos at sheet ≡ stopped (fault_at refusal.Short (field_of s).sf pos)
  unfolding run_l
  run_short (ends e) z h = absurd (omega arith)
  run_short {s} (goes {f} e i rest) z h =
      let same : (field_of s).width ≡ f.width = ap (λ (x : Field). x.width) e in
      rw (lt-leb f.width (length bits) (omega arith)) (ap (λ (x : Field). stopped (fault_at refusal.Short x.sf pos)) (sym e))

  pub run-fault : {s : S} {l : Layout A} (c : ℕ) (why : Refusal) → Walks field_of step_of s l → 0 < (field_of s).width → (field_of s).width ≤ length bits
      → c ≡ number (take (field_of s).width bits) → judge (field_of s) c ≡ Err why
      → run_l l bits pos at sheet ≡ stopped (fault_at why (field_of s).sf pos)
  unfolding run_l
  run-fault c why (ends e) z h n j = absurd (omega arith)
  run-fault {s} c why (goes {f} e i rest) z h n j =
      let same : (field_of s).width ≡ f.width = ap (λ (x : Field). x.width) e in
      let m : number (take f.width bits) ≡ c = ap (λ (x : ℕ). number (take x bits)) (sym same) ∙ sym n in
      let k : judge f c ≡ Err why = ap (λ (x : Field). judge x c) (sym e) ∙ j in
      rw (le-leb f.width (length bits) (omega arith), m, k) (ap (λ (x : Field). stopped (fault_at why x.sf pos)) (sym e))

  pub run_on : {s : S} {l : Layout A} (c : ℕ) → Walks field_of step_of s l → 0 < (field_of s).width → (field_of s).width ≤ length bits
      → c ≡ number (take (field_of s).width bits) → judge (field_of s) c ≡ Ok tt
      → On field_of step_of (step_of s c) (run_l l bits pos at sheet)
      (λ (next : Layout A). run_l next (drop (field_of s).width bits) (pos + (field_of s).width) (at + 1) (set sheet at c))
  unfolding run_l
  run_on c (ends e) z h n j = absurd (omega arith)
  run_on {s} c (goes {f} {next} e i rest) z h n j =
      let same : (field_of s).width ≡ f.width = ap (λ (x : Field). x.width) e in
      let m : number (take f.width bits) ≡ c = ap (λ (x : ℕ). number (take x bits)) (sym same) ∙ sym n in
      let k : judge f c ≡ Ok tt = ap (λ (x : Field). judge x c) (sym e) ∙ j in
      record {
        left = next c;
        walks = rest c (taken-fits i k);
        same = rw (le-leb f.width (length bits) (omega arith), m, k, same);
      }
