-- Serves proofs, and is proved: parts of a message passed at a position of a payload, without a look at what stands in the sheet. Positions only grow, so that all
-- of a message's bits are there if its end is: each law says what holds then.
--     a field            run-field passes-field passes-full
--     parts in a row     passes-end passes_then passes-with passes-as passes-whole
--     repeats            passes-optional passes-stretch times_none times_more each_none each_more
--     codes              taken-extra taken-up-to taken-full got-part got-small
use Rattle.std.specs.Prelude.{◌≡◌, refl, Bool, true, false, cond, List, [], ◌∷◌, ℕ, zero, suc, ◌+◌, ◌*◌, ◌/◌, ◌%◌, ◌^◌, ◌≤◌, ◌<◌, eqb, length, take, drop, Ok}
use Rattle.std.proofs.Common.{ap, sym, ◌∙◌, subst, add-zero, add_assoc, zero-add, suc-mul, arith, le-leb, le-ltb, eq-eqb, eqb-true, length-drop, pow_pos, drop-drop}
use Rattle.std.proofs.lemmas.Bool.{eqb-false}
use Rattle.bits.specs.Bits as bits
use Rattle.bits.specs.Bits.{to_bits, number, got}
use Rattle.bits.specs.Laws.{length-to_bits, got-there, field_lt, field-part}
use Rattle.layout.specs.declared.Field.{Field}
use Rattle.layout.specs.Layout.{Layout, done, field, pick, judge}
use Rattle.layout.specs.Parts.{absent, present, optional, times, each}
use Rattle.layout.specs.Run.{Ended, finished, run_l}

-- ---- the codes that a field takes

-- it takes every code of its width, and it has no more than a word
pub record Full (f : Field) : Type 0 where
  pub word : f.width ≤ 64
  pub least : f.least ≡ 0
  pub except : f.except ≡ f.extra
  pub top : f.extra + 1 ≡ 2 ^ f.width
  pub most : f.extra ≤ f.most + 1

pub taken-extra : (f : Field) (c : ℕ) → c ≡ f.extra → judge f c ≡ Ok tt
unfolding judge
taken-extra f c e = rw (eq-eqb c f.extra e)

pub taken-up-to : (f : Field) (c : ℕ) → f.least ≤ c → f.except ≡ f.extra → c ≤ f.most → judge f c ≡ Ok tt
unfolding judge
taken-up-to f c l e h = go (eqb c f.extra) refl
  where
    go : (b : Bool) → eqb c f.extra ≡ b → judge f c ≡ Ok tt
    go true q = rw q
    go false q =
        let x : eqb c f.except ≡ false = ap (eqb c) e ∙ q in
        rw (q, le-ltb c f.least l, le-ltb f.most c h, x)

pub taken-full : {f : Field} (c : ℕ) → Full f → c < 2 ^ f.width → judge f c ≡ Ok tt
taken-full {f} c w h = go (eqb c f.extra) refl
  where
    go : (b : Bool) → eqb c f.extra ≡ b → judge f c ≡ Ok tt
    go true q = taken-extra f c (eqb-true c f.extra q)
    go false q =
        let n : c ≡ f.extra → ⊥ = eqb-false c f.extra q in
        taken-up-to f c (omega (arith, w.least)) w.except (omega (arith, w.top, w.most))

-- ---- the bits of a payload

module _ (payload : List ℕ) where
  pub got-small : (pos w : ℕ) → got payload pos w < 2 ^ w
  got-small pos w = go (bits.there payload pos w)
    where
      go : (b : Bool) → cond b (bits.field payload pos w) 0 < 2 ^ w
      go true = field_lt payload pos w
      go false = pow_pos w

  -- a field of w bits out of a wider one that has o bits before it and m after it
  pub got-part : (pos o w m : ℕ) → o + (w + m) ≤ 64 → pos + (o + (w + m)) ≤ 8 * length payload
      → got payload (pos + o) w ≡ got payload pos (o + (w + m)) / 2 ^ m % 2 ^ w
  got-part pos o w m s h =
      got-there payload (pos + o) w (omega arith) (omega arith) ∙ field-part payload pos o w m h
      ∙ ap (λ (x : ℕ). x / 2 ^ m % 2 ^ w) (sym (got-there payload pos (o + (w + m)) s h))

-- ---- a part passed

-- what is left of the payload, read by what is left of the layout
abbrev pub run_from : {A : Type 0} → List ℕ → Layout A → (pos at : ℕ) → Ended
run_from payload l pos at = run_l l (drop pos (to_bits payload)) pos at []

pub run-field : {A : Type 0} (payload : List ℕ) (f : Field) (next : ℕ → Layout A) (pos at c : ℕ) → pos + f.width ≤ 8 * length payload → f.width ≤ 64
    → c ≡ got payload pos f.width → judge f c ≡ Ok tt
    → run_from payload (field f next) pos at ≡ run_from payload (next c) (pos + f.width) (at + 1)
unfolding run_l bits.field
run-field payload f next pos at c h w e j =
    let l : List ℕ = drop pos (to_bits payload) in
    let long : f.width ≤ length l = omega (arith, length-drop pos (to_bits payload), length-to_bits payload) in
    let is : number (take f.width l) ≡ c = sym (e ∙ got-there payload pos f.width w h) in
    rw (le-leb f.width (length l) long, is, j) (ap (λ x. run_l (next c) x (pos + f.width) (at + 1) []) (drop-drop f.width pos (to_bits payload)))

-- From bit pos the part goes to bit end in so many entries, and hands on a value, if the bits to there are there.
pub record Passes {A B : Type 0} (payload : List ℕ) (part : (B → Layout A) → Layout A) (pos end entries : ℕ) : Type 0 where
  pub value : B
  pub onward : pos ≤ end
  pub goes : end ≤ 8 * length payload → (k : B → Layout A) (at : ℕ) → run_from payload (part k) pos at ≡ run_from payload (k value) end (at + entries)

-- the code of a field, which it takes
pub record Has (payload : List ℕ) (f : Field) (pos end c : ℕ) : Type 0 where
  pub word : f.width ≤ 64
  pub code : end ≤ 8 * length payload → c ≡ got payload pos f.width
  pub taken : end ≤ 8 * length payload → judge f c ≡ Ok tt

module _ {A B : Type 0} {payload : List ℕ} where
  -- nothing
  pub passes-end : (v : B) (pos : ℕ) → Passes {A = A} payload (λ k. k v) pos pos 0
  passes-end v pos = record { value = v; onward = omega arith; goes = λ h k at. ap (run_from payload (k v) pos) (sym (add-zero at)) }

  -- a field, and what follows
  pub passes-field : {f : Field} {part : ℕ → (B → Layout A) → Layout A} {pos end n : ℕ} (c : ℕ) → Has payload f pos end c
      → Passes payload (part c) (pos + f.width) end n → Passes payload (λ k. field f (λ x. part x k)) pos end (suc n)
  passes-field {f} {part} {pos} {end} {n} c has rest =
      record {
        value = rest.value;
        onward = omega (arith, rest.onward);
        goes = λ h k at.
            let e : at + 1 + n ≡ at + suc n = omega arith in
            run-field payload f (λ x. part x k) pos at c (omega (arith, rest.onward)) has.word (has.code h) (has.taken h)
            ∙ rest.goes h k (at + 1) ∙ ap (run_from payload (k rest.value) end) e;
      }

  -- the same part, its end and its entries said in other words
  pub passes-as : {part : (B → Layout A) → Layout A} {pos end n : ℕ} (end' n' : ℕ) → end ≡ end' → n ≡ n' → Passes payload part pos end n → Passes payload part pos end' n'
  passes-as {part} {pos} {n = n} end' n' e q p = subst (λ x. Passes payload part pos end' x) q (subst (λ x. Passes payload part pos x n) e p)

-- a part, and what follows what it hands on
pub passes_then : {A B C : Type 0} {payload : List ℕ} {first : (B → Layout A) → Layout A} {rest : B → (C → Layout A) → Layout A} {pos mid end m n : ℕ}
    → (p : Passes payload first pos mid m) → Passes payload (rest p.value) mid end n → Passes payload (λ k. first (λ x. rest x k)) pos end (m + n)
passes_then {payload = payload} {rest = rest} {mid = mid} {end = end} {m = m} {n = n} p q =
    record {
      value = q.value;
      onward = omega (arith, p.onward, q.onward);
      goes = λ h k at.
          p.goes (omega (arith, q.onward)) (λ x. rest x k) at ∙ q.goes h k (at + m)
          ∙ ap (run_from payload (k q.value) end) (add_assoc at m n);
    }

-- what a part hands on, handed on in another form
pub passes-with : {A B C : Type 0} {payload : List ℕ} {part : (B → Layout A) → Layout A} {pos end n : ℕ} (g : B → C) → Passes payload part pos end n
    → Passes payload (λ k. part (λ x. k (g x))) pos end n
passes-with g p = record { value = g p.value; onward = p.onward; goes = λ h k at. p.goes h (λ x. k (g x)) at }

-- ---- parts that may be absent or repeat

module _ {A B : Type 0} {payload : List ℕ} where
  pub passes-optional : {part : (B → Layout A) → Layout A} {pos end n : ℕ} → Passes payload part pos end n
      → (b : Bool) → Passes payload (optional b part) pos (pick b end pos) (pick b n 0)
  passes-optional p true = passes-with present p
  passes-optional {pos = pos} p false = passes-end absent pos

  pub times_none : (part : (B → Layout A) → Layout A) (pos : ℕ) → Passes payload (times 0 part) pos pos 0
  times_none part pos = passes-end [] pos

  pub times_more : (part : (B → Layout A) → Layout A) (n : ℕ) {pos mid end a b : ℕ} → Passes payload part pos mid a → Passes payload (times n part) mid end b
      → Passes payload (times (suc n) part) pos end (a + b)
  times_more part n p q = passes_then {rest = λ x k. times n part (λ xs. k (x ∷ xs))} p (passes-with (λ xs. p.value ∷ xs) q)

  pub each_none : (part : ℕ → (B → Layout A) → Layout A) (pos : ℕ) → Passes payload (each [] part) pos pos 0
  each_none part pos = passes-end [] pos

  pub each_more : (part : ℕ → (B → Layout A) → Layout A) (x : ℕ) (ms : List ℕ) {pos mid end a b : ℕ} → Passes payload (part x) pos mid a
      → Passes payload (each ms part) mid end b → Passes payload (each (x ∷ ms) part) pos end (a + b)
  each_more part x ms p q = passes_then {rest = λ x k. each ms part (λ xs. k (x ∷ xs))} p (passes-with (λ xs. p.value ∷ xs) q)

-- a field that takes every code
pub has-full : {payload : List ℕ} {f : Field} → Full f → (pos end : ℕ) → Has payload f pos end (got payload pos f.width)
has-full {payload} {f} w pos end =
    record { word = w.word; code = λ h. refl; taken = λ h. taken-full (got payload pos f.width) w (got-small payload pos f.width) }

pub passes-full : {A : Type 0} {payload : List ℕ} {f : Field} → Full f → (pos : ℕ) → Passes {A = A} payload (field f) pos (pos + f.width) 1
passes-full {payload = payload} {f = f} w pos =
    passes-field {part = λ c k. k c} (got payload pos f.width) (has-full w pos (pos + f.width)) (passes-end (got payload pos f.width) (pos + f.width))

-- n of them: no bit is looked at
pub passes-stretch : {A : Type 0} {payload : List ℕ} {f : Field} → Full f → (n pos : ℕ) → Passes {A = A} payload (times n (field f)) pos (pos + n * f.width) n
passes-stretch {f = f} w zero pos = passes-as (pos + 0 * f.width) 0 (omega arith) refl (times_none (field f) pos)
passes-stretch {f = f} w (suc n) pos =
    passes-as (pos + suc n * f.width) (suc n) (omega (arith, suc-mul n f.width)) (omega arith)
    (times_more (field f) n (passes-full w pos) (passes-stretch w n (pos + f.width)))

-- ---- a whole message

pub passes-whole : {A B : Type 0} {payload : List ℕ} {part : (B → Layout A) → Layout A} {end n : ℕ} → Passes payload part 0 end n → end ≤ 8 * length payload
    → (f : B → A) → run_l (part (λ x. done (f x))) (to_bits payload) 0 0 [] ≡ finished n end []
unfolding run_l
passes-whole {end = end} {n = n} p h f = p.goes h (λ x. done (f x)) 0 ∙ ap (λ (x : ℕ). finished x end []) (zero-add n)
