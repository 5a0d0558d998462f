-- Serves proofs, and is proved: what it is for a machine, a state with its field and its next state by a code, to walk a layout; and how it
-- walks the parts of which layouts are made.
use Rattle.std.specs.Prelude.{◌≡◌, refl, Bool, true, false, List, [], ◌∷◌, ℕ, zero, suc, ◌^◌, ◌≤◌, ◌<◌, T, ltb, leb, length}
use Rattle.std.proofs.Common.{ap, sym, ◌∙◌, subst, arith, ltb→lt, leb→le, pow_pos}
use Rattle.answer.specs.Place.{of_code}
use Rattle.layout.specs.declared.Field.{Field}
use Rattle.layout.specs.Layout.{Layout, done, field, pick}
use Rattle.layout.specs.Parts.{free, absent, present, optional, times, each}

-- ---- fields

-- a field's number: some, and one that the calls for other languages have room for
pub record Numbered (sf : ℕ) : Type 0 where
  pub some : 0 < sf
  pub small : sf < 2 ^ 24

-- A field as every reader and writer wants it: not empty, of a word at most, and all that it takes fits its width; with a number; what it does not take is refused by FIELD or MASK_EMPTY.
pub record Fine (f : Field) : Type 0 where
  pub some : 0 < f.width
  pub word : f.width ≤ 64
  pub most : f.most < 2 ^ f.width
  pub extra : f.extra < 2 ^ f.width
  pub number : Numbered f.sf
  pub under : of_code f.under ≡ true
  pub over : of_code f.over ≡ true

abbrev both : Bool → Bool → Bool
both true b = b
both false b = false

both_first : (a b : Bool) → T (both a b) → T a
both_first true b t = tt
both_first false b t = t

both-second : (a b : Bool) → T (both a b) → T b
both-second true b t = t
both-second false b t = absurd t

abbrev fits : Field → Bool
fits f = both (ltb f.most (2 ^ f.width)) (ltb f.extra (2 ^ f.width))

abbrev named : Field → Bool
named f = both (ltb 0 f.sf) (both (ltb f.sf (2 ^ 24)) (both (of_code f.under) (of_code f.over)))

abbrev pub is_fine : Field → Bool
is_fine f = both (ltb 0 f.width) (both (leb f.width 64) (both (fits f) (named f)))

is_true : (b : Bool) → T b → b ≡ true
is_true true t = refl
is_true false t = absurd t

-- of a field that is written out, `fine tt`
pub fine : {f : Field} → T (is_fine f) → Fine f
fine {f} t =
    let t1 = both-second (ltb 0 f.width) _ t in
    let t3 = both-second (leb f.width 64) _ t1 in
    let t2 = both_first (fits f) (named f) t3 in
    let n1 = both-second (fits f) (named f) t3 in
    let n2 = both-second (ltb 0 f.sf) _ n1 in
    let n3 = both-second (ltb f.sf (2 ^ 24)) _ n2 in
    record {
      some = ltb→lt _ _ (both_first (ltb 0 f.width) _ t);
      word = leb→le _ _ (both_first (leb f.width 64) _ t1);
      most = ltb→lt _ _ (both_first (ltb f.most (2 ^ f.width)) (ltb f.extra (2 ^ f.width)) t2);
      extra = ltb→lt _ _ (both-second (ltb f.most (2 ^ f.width)) (ltb f.extra (2 ^ f.width)) t2);
      number = record { some = ltb→lt _ _ (both_first (ltb 0 f.sf) _ n1); small = ltb→lt _ _ (both_first (ltb f.sf (2 ^ 24)) _ n2) };
      under = is_true _ (both_first (of_code f.under) _ n3);
      over = is_true _ (both-second (of_code f.under) (of_code f.over) n3);
    }

-- a field that takes its full width
pub fine-free : (sf w : ℕ) → Numbered sf → 0 < w → w ≤ 64 → Fine (free sf w)
fine-free sf w n p q =
    record {
      some = p;
      word = q;
      most = omega (arith, pow_pos w);
      extra = omega (arith, pow_pos w);
      number = n;
      under = refl;
      over = refl;
    }

pub fine-pick : (b : Bool) {f g : Field} → Fine f → Fine g → Fine (pick b f g)
fine-pick true p q = p
fine-pick false p q = q

-- ---- walking

-- At an end the machine's field has no bits. At a field it is the machine's, and from each code of its width the machine walks on.
pub data Walks {S A : Type 0} (field_of : S → Field) (step_of : S → ℕ → S) : S → Layout A → Type 0 where
  ends : {s : S} {v : A} → (field_of s).width ≡ 0 → Walks field_of step_of s (done v)
  goes : {s : S} {f : Field} {next : ℕ → Layout A} → field_of s ≡ f → Fine f
      → ((c : ℕ) → c < 2 ^ f.width → Walks field_of step_of (step_of s c) (next c)) → Walks field_of step_of s (field f next)

module _ {S A : Type 0} (field_of : S → Field) (step_of : S → ℕ → S) where
  -- A part leads from s to t: the machine walks it from s, if at t it walks whatever follows.
  abbrev pub Leads : {B : Type 0} → S → ((B → Layout A) → Layout A) → S → Type 0
  Leads {B} s part t = (k : B → Layout A) → ((x : B) → Walks field_of step_of t (k x)) → Walks field_of step_of s (part k)

  pub leads-optional : {B : Type 0} {part : (B → Layout A) → Layout A} {s t : S} (b : Bool) → Leads s part t → Leads (pick b s t) (optional b part) t
  leads-optional true h k rest = h (λ x. k (present x)) (λ x. rest (present x))
  leads-optional false h k rest = rest absent

  -- state n is where n repeats are still to come
  pub leads-times : {B : Type 0} {part : (B → Layout A) → Layout A} (state : ℕ → S) → ((n : ℕ) → Leads (state (suc n)) part (state n))
      → (n : ℕ) → Leads (state n) (times n part) (state 0)
  leads-times state h zero k rest = rest []
  leads-times state h (suc n) k rest = h n (λ x. times n _ (λ xs. k (x ∷ xs))) (λ x. leads-times state h n (λ xs. k (x ∷ xs)) (λ xs. rest (x ∷ xs)))

  pub leads-each : {B : Type 0} {part : ℕ → (B → Layout A) → Layout A} (state : ℕ → S) → ((n m : ℕ) → Leads (state (suc n)) (part m) (state n))
      → (ms : List ℕ) → Leads (state (length ms)) (each ms part) (state 0)
  leads-each state h [] k rest = rest []
  leads-each {part} state h (m ∷ ms) k rest =
      h (length ms) m (λ x. each ms part (λ xs. k (x ∷ xs))) (λ x. leads-each state h ms (λ xs. k (x ∷ xs)) (λ xs. rest (x ∷ xs)))

-- A machine within a machine walks what the inner one walks.
pub walks-within : {S U A : Type 0} {field_s : S → Field} {step_s : S → ℕ → S} {field_u : U → Field} {step_u : U → ℕ → U} (inside : S → U)
    → ((s : S) → field_u (inside s) ≡ field_s s) → ((s : S) (c : ℕ) → step_u (inside s) c ≡ inside (step_s s c))
    → {s : S} {l : Layout A} → Walks field_s step_s s l → Walks field_u step_u (inside s) l
walks-within inside p q {s} (ends e) = ends (ap (λ (f : Field). f.width) (p s) ∙ e)
walks-within {field_u} {step_u} inside p q {s} (goes {next} e i h) =
    goes (p s ∙ e) i (λ c b. subst (λ x. Walks field_u step_u x (next c)) (sym (q s c)) (walks-within inside p q (h c b)))
