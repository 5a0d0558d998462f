-- Serves proofs, and is proved: a pass over a payload that is known to be accepted. It stores each code that it meets and asks nothing: since the run to the end
-- finishes, each field has its bits and takes its code.
use Rattle.std.specs.Prelude.{◌≡◌, Bool, true, false, List, [], ◌∷◌, leb, length, take, drop, set, Ok, Err}
use Rattle.std.proofs.Math.Path.{refl}
use Rattle.std.proofs.Common.{ap, sym, ◌∙◌, subst, zero-mul, suc-mul, arith, leb-true, length-drop, drop-drop}
use Prim.Native.Nat.{ℕ, zero, suc, ◌+◌, ◌*◌, ◌≤◌, ◌<◌}
use Rattle.bits.specs.Bits as bits
use Rattle.bits.specs.Bits.{to_bits, number, got}
use Rattle.bits.specs.Laws.{length-to_bits, got-there}
use Rattle.answer.specs.declared.Refusal.TheVariants as refusal
use Rattle.answer.specs.Place.{fault_at}
use Rattle.layout.specs.declared.Field.{Field}
use Rattle.layout.specs.Results.{Verdict}
use Rattle.layout.specs.Layout.{Layout, field, pick, judge}
use Rattle.layout.specs.Parts.{times}
use Rattle.layout.specs.Run.{Ended, finished, stopped, judged_e, run_l}
use Rattle.message.specs.Messages.{Message}

-- what is left of the payload, stored by what is left of the layout
abbrev pub run_at : (payload : List ℕ) → Layout Message → (pos at : ℕ) (sheet : List ℕ) → Ended
run_at payload l pos at sheet = run_l l (drop pos (to_bits payload)) pos at sheet

pub record Finishes (e : Ended) : Type 0 where
  pub count : ℕ
  pub used : ℕ
  pub filled : List ℕ
  pub is : e ≡ finished count used filled

module _ (payload : List ℕ) (f : Field) (next : ℕ → Layout Message) (pos at : ℕ) (sheet : List ℕ) where
  pub run-next : 0 < f.width → f.width ≤ 64 → Finishes (run_at payload (field f next) pos at sheet)
      → run_at payload (field f next) pos at sheet
      ≡ run_at payload (next (got payload pos f.width)) (pos + f.width) (at + 1) (set sheet at (got payload pos f.width))
  unfolding run_l bits.field
  run-next some word h = go (leb w (length l)) refl (judge f c) refl h
    where
      w : ℕ
      w = f.width

      l : List ℕ
      l = drop pos (to_bits payload)

      c : ℕ
      c = number (take w l)

      rest : Ended
      rest = run_l (next c) (drop w l) (pos + w) (at + 1) (set sheet at c)

      go : (b : Bool) → leb w (length l) ≡ b → (v : Verdict) → judge f c ≡ v → Finishes (pick b (judged_e f.sf pos v rest) (stopped (fault_at refusal.Short f.sf pos)))
          → pick b (judged_e f.sf pos v rest) (stopped (fault_at refusal.Short f.sf pos))
          ≡ run_at payload (next (got payload pos w)) (pos + w) (at + 1) (set sheet at (got payload pos w))
      go true e (Ok _) j h =
          let long : w ≤ length l = leb-true w (length l) e in
          let is : c ≡ got payload pos w = sym (got-there payload pos w word (omega (arith, length-drop pos (to_bits payload), length-to_bits payload))) in
          ap (λ (x : List ℕ). run_l (next c) x (pos + w) (at + 1) (set sheet at c)) (drop-drop w pos (to_bits payload))
          ∙ ap (λ (x : ℕ). run_at payload (next x) (pos + w) (at + 1) (set sheet at x)) is
      go true e (Err why) j h = let q : stopped (fault_at why f.sf pos) ≡ finished h.count h.used h.filled = h.is in let z : ◌≡◌ {A = ℕ} 0 1 = cc in absurd (omega arith)
      go false e v j h = let q : stopped (fault_at refusal.Short f.sf pos) ≡ finished h.count h.used h.filled = h.is in let z : ◌≡◌ {A = ℕ} 0 1 = cc in absurd (omega arith)

-- a field whose run goes on has its bits
pub run-there : (payload : List ℕ) (f : Field) (next : ℕ → Layout Message) (pos at : ℕ) (sheet : List ℕ) → 0 < f.width → Finishes (run_at payload (field f next) pos at sheet)
    → pos + f.width ≤ 8 * length payload
unfolding run_l
run-there payload f next pos at sheet some h = go (leb f.width (length (drop pos (to_bits payload)))) refl _ h
  where
    go : (b : Bool) → leb f.width (length (drop pos (to_bits payload))) ≡ b → (e : Ended) → Finishes (pick b e (stopped (fault_at refusal.Short f.sf pos)))
        → pos + f.width ≤ 8 * length payload
    go true q e h = omega (arith, leb-true f.width (length (drop pos (to_bits payload))) q, length-drop pos (to_bits payload), length-to_bits payload)
    go false q e h = let s : stopped (fault_at refusal.Short f.sf pos) ≡ finished h.count h.used h.filled = h.is in let z : ◌≡◌ {A = ℕ} 0 1 = cc in absurd (omega arith)

-- From bit pos and entry at the part goes on, to there, and leaves the sheet so, if all of the message is accepted.
pub record Stores {B : Type 0} (payload : List ℕ) (part : (B → Layout Message) → Layout Message) (pos at : ℕ) (sheet : List ℕ) (pos' at' : ℕ) (sheet' : List ℕ) : Type 0 where
  pub value : B
  pub goes : (k : B → Layout Message) → Finishes (run_at payload (part k) pos at sheet) → run_at payload (part k) pos at sheet ≡ run_at payload (k value) pos' at' sheet'

module _ {B : Type 0} {payload : List ℕ} where
  pub stores-end : (v : B) (pos at : ℕ) (sheet : List ℕ) → Stores payload (λ k. k v) pos at sheet pos at sheet
  stores-end v pos at sheet = record { value = v; goes = λ k h. refl }

  -- a field, and what follows
  pub stores-field : {f : Field} {part : ℕ → (B → Layout Message) → Layout Message} {pos at : ℕ} {sheet : List ℕ} {pos' at' : ℕ} {sheet' : List ℕ} → 0 < f.width → f.width ≤ 64
      → Stores payload (part (got payload pos f.width)) (pos + f.width) (at + 1) (set sheet at (got payload pos f.width)) pos' at' sheet'
      → Stores payload (λ k. field f (λ x. part x k)) pos at sheet pos' at' sheet'
  stores-field {f} {part} {pos} {at} {sheet} some word rest =
      record {
        value = rest.value;
        goes = λ k h.
            let e = run-next payload f (λ x. part x k) pos at sheet some word h in
            e ∙ rest.goes k (record { count = h.count; used = h.used; filled = h.filled; is = sym e ∙ h.is });
      }

-- a part, and what follows what it hands on
pub stores-then : {B C : Type 0} {payload : List ℕ} {first : (B → Layout Message) → Layout Message} {rest : B → (C → Layout Message) → Layout Message}
    {pos at : ℕ} {sheet : List ℕ} {pos' at' : ℕ} {sheet' : List ℕ} {end entries : ℕ} {filled : List ℕ}
    → (p : Stores payload first pos at sheet pos' at' sheet') → Stores payload (rest p.value) pos' at' sheet' end entries filled
    → Stores payload (λ k. first (λ x. rest x k)) pos at sheet end entries filled
stores-then {rest = rest} p q =
    record {
      value = q.value;
      goes = λ k h.
          let e = p.goes (λ x. rest x k) h in
          e ∙ q.goes k (record { count = h.count; used = h.used; filled = h.filled; is = sym e ∙ h.is });
    }

pub stores-with : {B C : Type 0} {payload : List ℕ} {part : (B → Layout Message) → Layout Message} {pos at : ℕ} {sheet : List ℕ} {pos' at' : ℕ} {sheet' : List ℕ} (g : B → C)
    → Stores payload part pos at sheet pos' at' sheet' → Stores payload (λ k. part (λ x. k (g x))) pos at sheet pos' at' sheet'
stores-with g p = record { value = g p.value; goes = λ k h. p.goes (λ x. k (g x)) h }

-- ---- a stretch of fields of one width

unfoldable pub stretched : (payload : List ℕ) (width n pos at : ℕ) (sheet : List ℕ) → List ℕ
stretched payload width zero pos at sheet = sheet
stretched payload width (suc n) pos at sheet = stretched payload width n (pos + width) (at + 1) (set sheet at (got payload pos width))

pub stores_as : {B : Type 0} {payload : List ℕ} {part : (B → Layout Message) → Layout Message} {pos at : ℕ} {sheet : List ℕ} {pos' at' : ℕ} {sheet' : List ℕ} (end entries : ℕ) (filled : List ℕ)
    → pos' ≡ end → at' ≡ entries → sheet' ≡ filled → Stores payload part pos at sheet pos' at' sheet' → Stores payload part pos at sheet end entries filled
stores_as {payload = payload} {part = part} {pos = pos} {at = at} {sheet = sheet} {pos' = pos'} {at' = at'} {sheet' = sheet'} end entries filled p q r s =
    subst (λ x. Stores payload part pos at sheet x entries filled) p
    (subst (λ x. Stores payload part pos at sheet pos' x filled) q (subst (λ x. Stores payload part pos at sheet pos' at' x) r s))

pub stores-stretch : {payload : List ℕ} (f : Field) (w : ℕ) → f.width ≡ w → 0 < w → w ≤ 64 → (n pos at : ℕ) (sheet : List ℕ)
    → Stores payload (times n (field f)) pos at sheet (pos + n * w) (at + n) (stretched payload w n pos at sheet)
unfolding stretched
stores-stretch f w e some word zero pos at sheet = stores_as (pos + 0 * w) (at + 0) sheet (omega (arith, zero-mul w)) (omega arith) refl (stores-end [] pos at sheet)
stores-stretch {payload} f w e some word (suc n) pos at sheet =
    let c : ℕ = got payload pos f.width in
    let here : Stores payload (times n (field f)) (pos + w) (at + 1) (set sheet at (got payload pos w)) (pos + suc n * w) (at + suc n) (stretched payload w (suc n) pos at sheet)
    = stores_as (pos + suc n * w) (at + suc n) (stretched payload w (suc n) pos at sheet) (omega (arith, suc-mul n w)) (omega arith) refl
    (stores-stretch f w e some word n (pos + w) (at + 1) (set sheet at (got payload pos w))) in
    stores-field (omega arith) (omega arith)
    (stores-with (λ xs. c ∷ xs)
    (subst (λ (x : ℕ). Stores payload (times n (field f)) (pos + x) (at + 1) (set sheet at (got payload pos x)) (pos + suc n * w) (at + suc n) (stretched payload w (suc n) pos at sheet)) (sym e) here))
