-- Serves proofs, and is proved: parts of a message that end where the code says, with so many entries to there.
use Rattle.std.specs.Prelude.{◌≡◌, refl, Bool, true, false, List, ℕ, suc, ◌+◌, ◌-◌, ◌*◌, ◌/◌, ◌^◌, ◌≤◌, eqb, ltb, length, Some, None}
use Rattle.std.proofs.Common.{ap, sym, subst, arith, ltb-false}
use Rattle.std.proofs.lemmas.Bool.{eqb-false}
use Rattle.answer.specs.Pairs.{some-value}
use Rattle.quick.specs.declared.Extent.{Extent}
use Rattle.quick.specs.Results.{Quick}
use Rattle.bits.specs.Bits.{got}
use Rattle.layout.specs.declared.Field.{Field}
use Rattle.layout.specs.Layout.{Layout, field, pick}
use Rattle.layout.specs.Parts.{absent, present, optional}
use Rattle.quick.specs.declared.behind.Behind.{Behind}
use Rattle.quick.specs.Passes.{Full, Has, Passes, has-full, got-small, passes-end, passes-field, passes_then, passes-with}
use Rattle.quick.specs.Codes.{Ranged, has-up-to}
use Rattle.quick.specs.Behind.{nowhere, to, after, reads_to}

-- the part goes to the end that is said, and as many entries are behind it as are said
pub record Passed {A B : Type 0} (payload : List ℕ) (part : (B → Layout A) → Layout A) (pos at : ℕ) (b : Behind) : Type 0 where
  pub entries : ℕ
  pub count : at + entries ≡ b.entries
  pub passes : Passes payload part pos b.end entries

-- there is an end
pub record Somewhere (b : Behind) : Type 0 where
  pub some : b.end ≡ 0 → ⊥

none : {X : Type 0} → Somewhere nowhere → X
none s = absurd (s.some refl)

-- ---- tests

-- a test that must not hold
pub some-unless : (b : Bool) {x : Behind} → Somewhere (pick b nowhere x) → (b ≡ false) × Somewhere x
some-unless true s = none s
some-unless false s = (refl, s)

-- a part, and what follows it
pub some_after : (b : Behind) (rest : ℕ → ℕ → Behind) → Somewhere (after b rest) → Somewhere b × Somewhere (rest b.end b.entries)
some_after b rest s =
    let t = some-unless (eqb b.end 0) s in
    (record { some = eqb-false b.end 0 t.0 }, t.1)

pub is-after : (b : Behind) (rest : ℕ → ℕ → Behind) → Somewhere (after b rest) → rest b.end b.entries ≡ after b rest
is-after b rest s = sym (ap (λ t. pick t nowhere (rest b.end b.entries)) (some-unless (eqb b.end 0) s).0)

module _ {A B : Type 0} {payload : List ℕ} {part : (B → Layout A) → Layout A} {pos at : ℕ} where
  pub passed-if : (b : Bool) {x : Behind} → Somewhere (pick b x nowhere) → (b ≡ true → Somewhere x → Passed payload part pos at x) → Passed payload part pos at (pick b x nowhere)
  passed-if true s f = f refl s
  passed-if false s f = none s

  pub passed-unless : (b : Bool) {x : Behind} → Somewhere (pick b nowhere x) → (b ≡ false → Somewhere x → Passed payload part pos at x)
      → Passed payload part pos at (pick b nowhere x)
  passed-unless true s f = none s
  passed-unless false s f = f refl s

  -- a part that may be absent
  pub passed-optional : (b : Bool) (x : Behind) → Somewhere (pick b x (to pos at)) → (Somewhere x → Passed payload part pos at x)
      → Passed payload (optional b part) pos at (pick b x (to pos at))
  passed-optional true x s f = let p = f s in record { entries = p.entries; count = p.count; passes = passes-with present p.passes }
  passed-optional false x s f = record { entries = 0; count = omega arith; passes = passes-end absent pos }

-- what follows a part
pub passed-after : {A B C : Type 0} {payload : List ℕ} {first : (B → Layout A) → Layout A} {rest : B → (C → Layout A) → Layout A} {pos at : ℕ}
    (b : Behind) (next : ℕ → ℕ → Behind) → Somewhere (after b next) → (p : Passed payload first pos at b)
    → Passed payload (rest p.passes.value) b.end b.entries (next b.end b.entries)
    → Passed payload (λ k. first (λ x. rest x k)) pos at (after b next)
passed-after {payload = payload} {first = first} {rest = rest} {pos = pos} {at = at} b next s p q =
    subst (λ d. Passed payload (λ k. first (λ x. rest x k)) pos at d) (is-after b next s)
    (record { entries = p.entries + q.entries; count = omega (arith, p.count, q.count); passes = passes_then {rest = rest} p.passes q.passes })

-- the same part from a position said in other words
pub passes-from : {A B : Type 0} {payload : List ℕ} {part : (B → Layout A) → Layout A} {pos end n : ℕ} (pos' : ℕ) → pos ≡ pos' → Passes payload part pos end n
    → Passes payload part pos' end n
passes-from {payload = payload} {part = part} {end = end} {n = n} pos' e p = subst (λ x. Passes payload part x end n) e p

-- ---- fields

-- a field whose width goes by a table
pub passes-wide : {A B : Type 0} {payload : List ℕ} {f : Field} {part : ℕ → (B → Layout A) → Layout A} {pos end n : ℕ} (w : ℕ) → f.width ≡ w
    → (c : ℕ) → Has payload f pos end c → Passes payload (part c) (pos + w) end n → Passes payload (λ k. field f (λ x. part x k)) pos end (suc n)
passes-wide {payload = payload} {part = part} {pos = pos} {end = end} {n = n} w e c has rest =
    passes-field {part = part} c has (subst (λ x. Passes payload (part c) (pos + x) end n) (sym e) rest)

pub has-wide : {payload : List ℕ} {f : Field} (w : ℕ) → f.width ≡ w → Full f → (pos end : ℕ) → Has payload f pos end (got payload pos w)
has-wide {payload} {f} w e full pos end = subst (λ x. Has payload f pos end (got payload pos x)) e (has-full full pos end)

-- a field that takes all codes but the top one, which is not there if its bits are
pub has-below : {payload : List ℕ} {f : Field} (pos end : ℕ) → Ranged f → f.most + 2 ≡ 2 ^ f.width
    → (end ≤ 8 * length payload → got payload pos f.width ≡ f.most + 1 → ⊥) → Has payload f pos end (got payload pos f.width)
has-below {payload} {f} pos end r t n =
    has-up-to pos end r (λ h.
    let other : got payload pos f.width ≡ f.most + 1 → ⊥ = n h in
    omega (arith, got-small payload pos f.width))

-- ---- the whole message

pub record Whole (payload : List ℕ) (b : Behind) (bits entries : ℕ) : Type 0 where
  pub some : Somewhere b
  pub there : b.end ≤ 8 * length payload
  pub bit : b.end ≡ bits
  pub entry : b.entries ≡ entries

pub reads_whole : (payload : List ℕ) (b : Behind) (bits entries : ℕ) → reads_to payload b ≡ Some (record { bits = bits; entries = entries }) → Whole payload b bits entries
unfolding reads_to
reads_whole payload b bits entries e = go (eqb b.end 0) (ltb (length payload) ((b.end - 1) / 8 + 1)) refl refl e
  where
    go : (x y : Bool) → eqb b.end 0 ≡ x → ltb (length payload) ((b.end - 1) / 8 + 1) ≡ y
        → ◌≡◌ {A = Quick} (pick x None (pick y None (Some (record { bits = b.end; entries = b.entries })))) (Some (record { bits = bits; entries = entries })) → Whole payload b bits entries
    go true y p q e = let z : ◌≡◌ {A = ℕ} 0 1 = cc in absurd (omega arith)
    go false true p q e = let z : ◌≡◌ {A = ℕ} 0 1 = cc in absurd (omega arith)
    go false false p q e =
        let some : b.end ≡ 0 → ⊥ = eqb-false b.end 0 p in
        let long : (b.end - 1) / 8 + 1 ≤ length payload = ltb-false (length payload) ((b.end - 1) / 8 + 1) q in
        record { some = record { some = some }; there = omega arith; bit = ap (λ (x : Extent). x.bits) (some-value e); entry = ap (λ (x : Extent). x.entries) (some-value e) }
