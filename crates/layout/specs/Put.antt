-- Serves proofs, and is proved: writing by a layout as a loop over a machine does it, with a position, a place in the sheet and the bits handed on.
-- What it comes to is what `write_l` says.
use Rattle.std.specs.Prelude.{◌≡◌, refl, Bool, false, List, [], ◌∷◌, ◌++◌, ℕ, suc, ◌+◌, ◌^◌, ◌<◌, length, set, get_or, Ok, Err}
use Rattle.std.proofs.Math.Path.{ap}
use Rattle.std.proofs.Common.{sym, ◌∙◌, add-zero, arith, length-append, drop-cons}
use Rattle.std.proofs.Math.Bool.{true}
use Rattle.std.proofs.Math.Numerals.{add-one}
use borrow.Author.Tests.{lt-ltb}
use Rattle.std.proofs.Math.Dec.{ltb}
use Rattle.std.proofs.Math.ListN.{drop}
use Rattle.std.proofs.lemmas.List.Edits.{sets}
use Rattle.std.proofs.Math.Seq.{drop-length}
use Rattle.answer.specs.declared.Refusal.{Refusal}
use Rattle.answer.specs.declared.Refusal.TheVariants as refusal
use Rattle.answer.specs.Place.{nowhere, fault_at, further}
use Rattle.answer.specs.Further.{further-twice, further-here}
use Rattle.bits.specs.Bits.{bits_of}
use Rattle.bits.specs.Laws.{length-bits_of}
use Rattle.layout.specs.declared.Field.{Field}
use Rattle.layout.specs.Results.{Verdict}
use Rattle.layout.specs.Layout.{Layout, done, field, pick, judge, Written, written, unwritten, fitting, judged_w, behind, write_l}
use Rattle.layout.specs.Walks.{Walks, ends, goes}
use Rattle.layout.specs.Run.{Ended, finished, stopped, judged_e, taken-fits, On}

unfoldable pub put_l : {A : Type 0} → Layout A → (sheet : List ℕ) (pos at : ℕ) (out : List ℕ) → Ended
put_l (done v) [] pos at out = finished at pos out
put_l (done v) (c ∷ cs) pos at out = stopped (nowhere refusal.Leftover)
put_l (field f next) [] pos at out = stopped (fault_at refusal.Short f.sf at)
put_l (field f next) (c ∷ cs) pos at out =
    judged_e f.sf at (judge f c)
    (pick (ltb c (2 ^ f.width)) (put_l (next c) cs (pos + f.width) (at + 1) (sets out pos (bits_of f.width c)))
    (stopped (fault_at refusal.Field f.sf at)))

-- ---- a run comes to what the writing gives

abbrev pub ended_w : Written → (n pos at : ℕ) (out : List ℕ) → Ended
ended_w (written bs) n pos at out = finished (at + n) (pos + length bs) (sets out pos bs)
ended_w (unwritten why) n pos at out = stopped (further at why)

sets-append : (l : List ℕ) (i : ℕ) (a b : List ℕ) → sets l i (a ++ b) ≡ sets (sets l i a) (i + length a) b
sets-append l i [] b = ap (λ n. sets l n b) (sym (add-zero i))
sets-append l i (v ∷ a) b = sets-append (set l i v) (suc i) a b ∙ ap (λ n. sets (sets (set l i v) (suc i) a) n b) (omega arith)

ended-behind : (c w n : ℕ) (o : Written) (pos at : ℕ) (out : List ℕ)
    → ended_w o n (pos + w) (at + 1) (sets out pos (bits_of w c)) ≡ ended_w (behind (bits_of w c) o) (suc n) pos at out
ended-behind c w n (written bs) pos at out =
    let p : at + 1 + n ≡ at + suc n = omega arith in
    let q : pos + w + length bs ≡ pos + length (bits_of w c ++ bs) = omega (arith, length-append (bits_of w c) bs, length-bits_of w c) in
    let r : sets (sets out pos (bits_of w c)) (pos + w) bs ≡ sets out pos (bits_of w c ++ bs)
    = ap (λ k. sets (sets out pos (bits_of w c)) (pos + k) bs) (sym (length-bits_of w c)) ∙ sym (sets-append out pos (bits_of w c) bs) in
    rw (p, q, r)
ended-behind c w n (unwritten why) pos at out = ap stopped (further-twice at 1 why)

ended-judged : (sf : ℕ) (v : Verdict) (o : Written) (n pos at : ℕ) (out : List ℕ)
    → judged_e sf at v (ended_w o n pos at out) ≡ ended_w (judged_w sf v o) n pos at out
ended-judged sf (Ok _) o n pos at out = refl
ended-judged sf (Err why) o n pos at out = ap stopped (sym (further-here at why sf))

ended-fitting : (sf : ℕ) (b : Bool) (o : Written) (n pos at : ℕ) (out : List ℕ)
    → pick b (ended_w o n pos at out) (stopped (fault_at refusal.Field sf at)) ≡ ended_w (fitting sf b o) n pos at out
ended-fitting sf true o n pos at out = refl
ended-fitting sf false o n pos at out = ap stopped (sym (further-here at refusal.Field sf))

pub put-writes : {A : Type 0} (l : Layout A) (cs : List ℕ) (pos at : ℕ) (out : List ℕ) → put_l l cs pos at out ≡ ended_w (write_l l cs) (length cs) pos at out
unfolding put_l write_l
put-writes (done v) [] pos at out = rw (add-zero at, add-zero pos)
put-writes (done v) (c ∷ cs) pos at out = refl
put-writes (field f next) [] pos at out = ap stopped (sym (further-here at refusal.Short f.sf))
put-writes (field f next) (c ∷ cs) pos at out =
    let w : ℕ = f.width in
    let o : Written = write_l (next c) cs in
    ap (λ e. judged_e f.sf at (judge f c) (pick (ltb c (2 ^ w)) e (stopped (fault_at refusal.Field f.sf at))))
    (put-writes (next c) cs (pos + w) (at + 1) (sets out pos (bits_of w c)) ∙ ended-behind c w (length cs) o pos at out)
    ∙ ap (judged_e f.sf at (judge f c)) (ended-fitting f.sf (ltb c (2 ^ w)) (behind (bits_of w c) o) (suc (length cs)) pos at out)
    ∙ ended-judged f.sf (judge f c) (fitting f.sf (ltb c (2 ^ w)) (behind (bits_of w c) o)) (suc (length cs)) pos at out

-- ---- a turn of the loop, at a state that walks what is left

module _ {S A : Type 0} {field_of : S → Field} {step_of : S → ℕ → S} (sheet : List ℕ) (pos at : ℕ) (out : List ℕ) where
  pub put-done : {s : S} {l : Layout A} → Walks field_of step_of s l → (field_of s).width ≡ 0 → at ≡ length sheet
      → put_l l (drop at sheet) pos at out ≡ finished at pos out
  unfolding put_l
  put-done (ends e) z h = rw (h, drop-length)
  put-done (goes e i rest) z h = absurd (omega (arith, i.some, ap (λ (x : Field). x.width) e))

  pub put-over : {s : S} {l : Layout A} → Walks field_of step_of s l → (field_of s).width ≡ 0 → at < length sheet
      → put_l l (drop at sheet) pos at out ≡ stopped (nowhere refusal.Leftover)
  unfolding put_l
  put-over (ends e) z h = rw (drop-cons sheet at 0 h)
  put-over (goes e i rest) z h = absurd (omega (arith, i.some, ap (λ (x : Field). x.width) e))

  pub put-short : {s : S} {l : Layout A} → Walks field_of step_of s l → 0 < (field_of s).width → at ≡ length sheet
      → put_l l (drop at sheet) pos at out ≡ stopped (fault_at refusal.Short (field_of s).sf at)
  unfolding put_l
  put-short (ends e) z h = absurd (omega arith)
  put-short {s} (goes {f} {next} e i rest) z h =
      ap (λ x. put_l (field f next) x pos at out) (ap (λ x. drop x sheet) h ∙ drop-length sheet)
      ∙ ap (λ (x : Field). stopped (fault_at refusal.Short x.sf at)) (sym e)

  pub put-fault : {s : S} {l : Layout A} (c : ℕ) (why : Refusal) → Walks field_of step_of s l → 0 < (field_of s).width → at < length sheet
      → c ≡ get_or sheet at 0 → judge (field_of s) c ≡ Err why → put_l l (drop at sheet) pos at out ≡ stopped (fault_at why (field_of s).sf at)
  unfolding put_l
  put-fault c why (ends e) z h n j = absurd (omega arith)
  put-fault c why (goes {f} {next} e i rest) z h n j =
      let k : judge f c ≡ Err why = ap (λ (x : Field). judge x c) (sym e) ∙ j in
      rw (drop-cons sheet at 0 h, ← n, k) (ap (λ (x : Field). stopped (fault_at why x.sf at)) (sym e))

  pub put_on : {s : S} {l : Layout A} (c : ℕ) → Walks field_of step_of s l → 0 < (field_of s).width → at < length sheet
      → c ≡ get_or sheet at 0 → judge (field_of s) c ≡ Ok tt
      → On field_of step_of (step_of s c) (put_l l (drop at sheet) pos at out)
      (λ (next : Layout A). put_l next (drop (at + 1) sheet) (pos + (field_of s).width) (at + 1) (sets out pos (bits_of (field_of s).width c)))
  unfolding put_l
  put_on c (ends e) z h n j = absurd (omega arith)
  put_on {s} c (goes {f} {next} e i rest) z h n j =
      let same : (field_of s).width ≡ f.width = ap (λ (x : Field). x.width) e in
      let k : judge f c ≡ Ok tt = ap (λ (x : Field). judge x c) (sym e) ∙ j in
      let t : ltb c (2 ^ f.width) ≡ true = lt-ltb c (2 ^ f.width) (taken-fits i k) in
      record { left = next c; walks = rest c (taken-fits i k); same = rw (drop-cons sheet at 0 h, ← n, ← add-one at, t, k, same) }
