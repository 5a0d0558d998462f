-- Serves proofs, and is proved: what a machine finds along a sheet that the writer accepts is what the message's record says. A fact of two layouts that differ
-- in what they hand on at their ends goes from what follows a part to the part; so it is shown once for each part, whatever the fact.
use Rattle.std.specs.Prelude.{◌≡◌, Bool, true, false, ◌&&◌, List, [], ◌∷◌, length, drop, get_or, Ok, Some, None}
use Rattle.std.proofs.Math.Path.{refl, ap, sym, fun_ext}
use Rattle.std.proofs.Common.{◌∙◌, arith, drop_of_length-le, drop-cons}
use Prim.Native.Nat.{ℕ, zero, suc, ◌+◌, ◌<◌}
use Rattle.std.proofs.Math.Dec.{eqb}
use Rattle.layout.specs.declared.Field.{Field}
use Rattle.layout.specs.Layout.{Layout, done, field, judge, pick}
use Rattle.layout.specs.Parts.{Part, absent, present, optional, times, each}
use Rattle.layout.specs.Holds.{Holds}
use Rattle.layout.specs.Record.{record_from}
use Rattle.layout.specs.Run.{taken-fits}
use Rattle.layout.specs.Walks.{Walks, ends, goes}
use Rattle.message.specs.declared.State.{State}
use Rattle.message.specs.Machine.{field_of, step_of}
use Rattle.views.specs.declared.places.Place.{Place}
use Rattle.views.specs.Results.{Found}
use Rattle.views.specs.Entries.{entries_of}
use Rattle.views.specs.First.{first}
use Rattle.views.specs.Places.{here_or, sought_in, code_at, found_in, found}

-- a field with another number
pub record Other (key : ℕ) (f : Field) : Type 0 where
  pub is : eqb f.sf key ≡ false

-- of a field that is written out, `apart refl`
pub apart : {key : ℕ} {f : Field} → eqb f.sf key ≡ false → Other key f
apart e = record { is = e }

pub other_pick : {key : ℕ} (b : Bool) {f g : Field} → Other key f → Other key g → Other key (pick b f g)
other_pick true p q = p
other_pick false p q = q

pub record Takes (f : Field) (code : ℕ) : Type 0 where
  pub is : judge f code ≡ Ok tt

pub data EachOf {B : Type 0} (P : B → Type 0) : List B → Type 0 where
  no_more : EachOf P []
  one_more : {x : B} {xs : List B} → P x → EachOf P xs → EachOf P (x ∷ xs)

pub data PartMet {B : Type 0} (P : B → Type 0) : Part B → Type 0 where
  not_there : PartMet P absent
  there : {x : B} → P x → PartMet P (present x)

abbrev pub total : {B : Type 0} → (B → ℕ) → List B → ℕ
total entries [] = 0
total entries (x ∷ xs) = entries x + total entries xs

module _ {A A' : Type 0} (sheet : List ℕ) (key : ℕ) (Q : Layout A → Layout A' → ℕ → Type 0) where
  -- the fact goes over a field with another number than `key`, and may use that its code is taken
  pub record Goes : Type 0 where
    pub on : {f : Field} {next : ℕ → Layout A} {next' : ℕ → Layout A'} {at : ℕ} → Other key f
        → (Takes f (get_or sheet at 0) → Q (next (get_or sheet at 0)) (next' (get_or sheet at 0)) (suc at)) → Q (field f next) (field f next') at

  -- over a field with the number `key`, at a place
  pub record First (at : ℕ) : Type 0 where
    pub on : {f : Field} {next : ℕ → Layout A} {next' : ℕ → Layout A'} → eqb f.sf key ≡ true
        → (Takes f (get_or sheet at 0) → Q (next (get_or sheet at 0)) (next' (get_or sheet at 0)) (suc at)) → Q (field f next) (field f next') at

  -- and over a part with so many entries, of which P holds
  abbrev pub Over : {B : Type 0} → ((B → Layout A) → Layout A) → ((B → Layout A') → Layout A') → (entries : B → ℕ) (P : B → Type 0) → Type 0
  Over {B} part part' entries P =
      (k : B → Layout A) (k' : B → Layout A') (at : ℕ) → ((x : B) (to : ℕ) → to ≡ at + entries x → P x → Q (k x) (k' x) to) → Q (part k) (part' k') at

  pub over-optional : {B : Type 0} {part : (B → Layout A) → Layout A} {part' : (B → Layout A') → Layout A'} (entries : B → ℕ) (P : B → Type 0) (b : Bool)
      → Over part part' entries P → Over (optional b part) (optional b part') (entries_of entries) (PartMet P)
  over-optional entries P true h k k' at rest = h (λ x. k (present x)) (λ x. k' (present x)) at (λ x to e p. rest (present x) to e (there p))
  over-optional entries P false h k k' at rest = rest absent at (omega arith) not_there

  -- `all` is how many entries some of them have
  module _ {B : Type 0} (entries : B → ℕ) (P : B → Type 0) (all : List B → ℕ) (none : all [] ≡ 0) (more : (x : B) (xs : List B) → all (x ∷ xs) ≡ entries x + all xs) where
    pub over-times : {part : (B → Layout A) → Layout A} {part' : (B → Layout A') → Layout A'} → Over part part' entries P
        → (n : ℕ) → Over (times n part) (times n part') all (EachOf P)
    over-times h zero k k' at rest = rest [] at (omega (arith, none)) no_more
    over-times {part} {part'} h (suc n) k k' at rest =
        h (λ x. times n part (λ xs. k (x ∷ xs))) (λ x. times n part' (λ xs. k' (x ∷ xs))) at (λ x to e p.
        over-times h n (λ xs. k (x ∷ xs)) (λ xs. k' (x ∷ xs)) to (λ xs end q ps. rest (x ∷ xs) end (omega (arith, more x xs)) (one_more p ps)))

    pub over-each : {part : ℕ → (B → Layout A) → Layout A} {part' : ℕ → (B → Layout A') → Layout A'} → ((m : ℕ) → Over (part m) (part' m) entries P)
        → (ms : List ℕ) → Over (each ms part) (each ms part') all (EachOf P)
    over-each h [] k k' at rest = rest [] at (omega (arith, none)) no_more
    over-each {part} {part'} h (m ∷ ms) k k' at rest =
        h m (λ x. each ms part (λ xs. k (x ∷ xs))) (λ x. each ms part' (λ xs. k' (x ∷ xs))) at (λ x to e p.
        over-each h ms (λ xs. k (x ∷ xs)) (λ xs. k' (x ∷ xs)) to (λ xs end q ps. rest (x ∷ xs) end (omega (arith, more x xs)) (one_more p ps)))

-- ---- facts of what the sheet says at the layouts' ends

module _ {A A' : Type 0} (sheet : List ℕ) (R : A → A' → Type 0) where
  abbrev pub Ends : Layout A → Layout A' → ℕ → Type 0
  Ends l l' at = Holds l sheet at → R (record_from l sheet at) (record_from l' sheet at)

  ends_on : (f : Field) (next : ℕ → Layout A) (next' : ℕ → Layout A') (at : ℕ)
      → (Takes f (get_or sheet at 0) → Ends (next (get_or sheet at 0)) (next' (get_or sheet at 0)) (suc at)) → Ends (field f next) (field f next') at
  unfolding Holds record_from
  ends_on f next next' at h hold = h (record { is = hold.1 }) hold.2

  -- they go over every field
  pub goes-ends : (key : ℕ) → Goes sheet key Ends
  goes-ends key = record { on = λ {f} {next} {next'} {at} o h. ends_on f next next' at h }

  pub first_ends : (key at : ℕ) → First sheet key Ends at
  first_ends key at = record { on = λ {f} {next} {next'} o h. ends_on f next next' at h }

-- ---- the code of a field from a place on, by the layout

unfoldable pub code_in : {A : Type 0} → (sheet : List ℕ) → Layout A → (at sf before : ℕ) → ℕ
code_in sheet (done v) at sf before = get_or sheet at 0
code_in sheet (field f next) at sf before =
    pick (eqb f.sf sf)
    (here_or before (get_or sheet at 0) (λ n. code_in sheet (next (get_or sheet at 0)) (suc at) sf n))
    (code_in sheet (next (get_or sheet at 0)) (suc at) sf before)

pub code-walks : {A : Type 0} (sheet : List ℕ) (s : State) {l : Layout A} (at : ℕ) → Walks field_of step_of s l → Holds l sheet at
    → (sf before : ℕ) → code_at sheet (record { state = s; at = at }) sf before ≡ code_in sheet l at sf before
unfolding code_in sought_in Holds
code-walks sheet s at (ends e) h sf before = ap (λ cs. get_or sheet (sought_in sf before s at cs).at 0) (drop_of_length-le sheet {i = at} (omega arith))
code-walks sheet s {l = field g l} at (goes {f = f} {next = next} e fine w) h sf before =
    let c : ℕ = get_or sheet at 0 in
    ap (λ cs. get_or sheet (sought_in sf before s at cs).at 0) (drop-cons sheet at 0 h.0)
    ∙ ap (λ (x : Field). get_or sheet (pick (eqb x.sf sf) (here_or before (record { state = s; at = at }) (λ n. sought_in sf n (step_of s c) (suc at) (drop (suc at) sheet)))
    (sought_in sf before (step_of s c) (suc at) (drop (suc at) sheet))).at 0) e
    ∙ go (λ n. code-walks sheet (step_of s c) (suc at) (w c (taken-fits fine h.1)) h.2 sf n) (eqb f.sf sf) before
  where
    go : ((n : ℕ) → code_at sheet (record { state = step_of s (get_or sheet at 0); at = suc at }) sf n ≡ code_in sheet (next (get_or sheet at 0)) (suc at) sf n)
        → (b : Bool) (n : ℕ)
        → get_or sheet (pick b (here_or n (record { state = s; at = at }) (λ n. sought_in sf n (step_of s (get_or sheet at 0)) (suc at) (drop (suc at) sheet)))
        (sought_in sf n (step_of s (get_or sheet at 0)) (suc at) (drop (suc at) sheet))).at 0
        ≡ pick b (here_or n (get_or sheet at 0) (λ n. code_in sheet (next (get_or sheet at 0)) (suc at) sf n)) (code_in sheet (next (get_or sheet at 0)) (suc at) sf n)
    go ih true zero = refl
    go ih true (suc n) = ih n
    go ih false n = ih n

pub codes-walk : {A : Type 0} (sheet : List ℕ) (s : State) {l : Layout A} (at : ℕ) → Walks field_of step_of s l → Holds l sheet at
    → code_at sheet (record { state = s; at = at }) ≡ code_in sheet l at
codes-walk sheet s at w h = fun_ext (λ sf. fun_ext (λ before. code-walks sheet s at w h sf before))

-- a layout that begins with a field of the number `key`
pub data Headed {A : Type 0} (key : ℕ) : Layout A → Type 0 where
  headed : {f : Field} {next : ℕ → Layout A} → eqb f.sf key ≡ true → Headed key (field f next)

headed-there : {A : Type 0} (key : ℕ) (sheet : List ℕ) (s : State) (at : ℕ) {l : Layout A} → Headed key l → Walks field_of step_of s l → Holds l sheet at
    → (at < length sheet) × (eqb (field_of s).sf key ≡ true)
unfolding Holds
headed-there key sheet s at (headed o) (goes e fine w) h = (h.0, ap (λ (x : Field). eqb x.sf key) e ∙ o)

-- ---- the search for a code

module _ (sheet : List ℕ) (key id : ℕ) (s : State) (at : ℕ) (h : at < length sheet) where
  abbrev after : Found
  after = found key id sheet (record { state = step_of s (get_or sheet at 0); at = suc at })

  turn : (b : Bool) → (eqb (field_of s).sf key && eqb (get_or sheet at 0) id) ≡ b
      → found key id sheet (record { state = s; at = at }) ≡ pick b (Some (record { state = s; at = at })) after
  unfolding found_in
  turn b e = ap (found_in key id s at) (drop-cons sheet at 0 h) ∙ ap (λ x. pick x (Some (record { state = s; at = at })) after) e

  pub find-skips : eqb (field_of s).sf key ≡ false → found key id sheet (record { state = s; at = at }) ≡ after
  find-skips e = turn false (ap (λ x. x && eqb (get_or sheet at 0) id) e)

  pub find-others : eqb (get_or sheet at 0) id ≡ false → found key id sheet (record { state = s; at = at }) ≡ after
  find-others e = turn false (go (eqb (field_of s).sf key) (eqb (get_or sheet at 0) id) e)
    where
      go : (a b : Bool) → b ≡ false → (a && b) ≡ false
      go true b e = e
      go false b e = refl

  pub find-there : eqb (field_of s).sf key ≡ true → eqb (get_or sheet at 0) id ≡ true
      → found key id sheet (record { state = s; at = at }) ≡ Some (record { state = s; at = at })
  find-there p q = turn true (ap (λ x. x && eqb (get_or sheet at 0) id) p ∙ q)

abbrev pub answered : {C : Type 0} → C → (Place → C) → Found → C
answered none shown None = none
answered none shown (Some p) = shown p

abbrev answer_of : {C : Type 0} (sheet : List ℕ) (key id : ℕ) (none : C) (shown : (at : ℕ) (code : (sf before : ℕ) → ℕ) → C) → Place → C
answer_of sheet key id none shown p = answered none (λ q. shown q.at (code_at sheet q)) (found key id sheet p)

-- what is shown of the place that is found, and what is said of the record
module _ {A A' C : Type 0} (sheet : List ℕ) (key id : ℕ) (none : C) (shown : (at : ℕ) (code : (sf before : ℕ) → ℕ) → C) (said : A' → C) where
  abbrev pub Finds : Layout A → Layout A' → ℕ → Type 0
  Finds l l' at = (s : State) → Walks field_of step_of s l → Holds l sheet at → answer_of sheet key id none shown (record { state = s; at = at }) ≡ said (record_from l' sheet at)

  -- a field on which the search goes on
  finds-on : (f : Field) (next : ℕ → Layout A) (next' : ℕ → Layout A') (at : ℕ)
      → ((s : State) → at < length sheet → field_of s ≡ f
      → found key id sheet (record { state = s; at = at }) ≡ found key id sheet (record { state = step_of s (get_or sheet at 0); at = suc at }))
      → (Takes f (get_or sheet at 0) → Finds (next (get_or sheet at 0)) (next' (get_or sheet at 0)) (suc at)) → Finds (field f next) (field f next') at
  unfolding Holds record_from
  finds-on f next next' at skips h s (goes e fine w) hold =
      ap (answered none (λ q. shown q.at (code_at sheet q))) (skips s hold.0 e)
      ∙ h (record { is = hold.1 }) (step_of s (get_or sheet at 0)) (w (get_or sheet at 0) (taken-fits fine hold.1)) hold.2

  pub goes-finds : Goes sheet key Finds
  goes-finds = record {
    on = λ {f} {next} {next'} {at} o h.
        finds-on f next next' at (λ s i e. find-skips sheet key id s at i (ap (λ (x : Field). eqb x.sf key) e ∙ o.is)) h;
  }

  first_finds : (at : ℕ) → eqb (get_or sheet at 0) id ≡ false → First sheet key Finds at
  first_finds at q = record { on = λ {f} {next} {next'} o h. finds-on f next next' at (λ s i e. find-others sheet key id s at i q) h }

  -- blocks with an ID, whose field has the number `key`: facts go over a block, and its view is what is shown of it
  module _ {B : Type 0} (part : (B → Layout A) → Layout A) (part' : (B → Layout A') → Layout A') (id_of entries : B → ℕ) (view : ℕ → B → C)
      (over : (Q : Layout A → Layout A' → ℕ → Type 0) → Goes sheet key Q → (k : B → Layout A) (k' : B → Layout A') (at : ℕ) → First sheet key Q at
      → ((x : B) (to : ℕ) → id_of x ≡ get_or sheet at 0 → to ≡ at + entries x → view at x ≡ shown at (code_in sheet (part k) at) → Q (k x) (k' x) to) → Q (part k) (part' k') at)
      (heads : (k : B → Layout A) → Headed key (part k)) where
    abbrev Say : C → Layout A → Layout A' → ℕ → Type 0
    Say c = Ends sheet (λ v v'. said v' ≡ c)

    say-times : (c : C) (n : ℕ) (k : List B → Layout A) (k' : List B → Layout A') (at : ℕ) → ((xs : List B) (to : ℕ) → Say c (k xs) (k' xs) to)
        → Say c (times n part k) (times n part' k') at
    say-times c zero k k' at rest = rest [] at
    say-times c (suc n) k k' at rest =
        over (Say c) (goes-ends sheet (λ v v'. said v' ≡ c) key) (λ x. times n part (λ xs. k (x ∷ xs))) (λ x. times n part' (λ xs. k' (x ∷ xs))) at
        (first_ends sheet (λ v v'. said v' ≡ c) key at) (λ x to i e p. say-times c n (λ xs. k (x ∷ xs)) (λ xs. k' (x ∷ xs)) to (λ xs end. rest (x ∷ xs) end))

    abbrev first_of : (at : ℕ) → List B → C
    first_of at xs = first id_of entries view none id at xs

    first_by : (at : ℕ) (x : B) (xs : List B) (b : Bool) → eqb (get_or sheet at 0) id ≡ b → id_of x ≡ get_or sheet at 0
        → first_of at (x ∷ xs) ≡ pick b (view at x) (first_of (at + entries x) xs)
    unfolding first
    first_by at x xs b q i = ap (λ y. pick y (view at x) (first_of (at + entries x) xs)) (ap (λ y. eqb y id) i ∙ q)

    -- Along blocks to the message's end, the search finds the first block with the ID.
    pub finds-first : (n : ℕ) (m : List B → A) (m' : List B → A') (at : ℕ) → ((xs : List B) → said (m' xs) ≡ first_of at xs)
        → Finds (times n part (λ xs. done (m xs))) (times n part' (λ xs. done (m' xs))) at
    unfolding Holds record_from first found_in
    finds-first zero m m' at h s w hold =
        ap (λ cs. answered none (λ q. shown q.at (code_at sheet q)) (found_in key id s at cs)) (drop_of_length-le sheet {i = at} (omega arith)) ∙ sym (h [])
    finds-first (suc n) m m' at h s w hold = go (λ x. finds-first n (λ ys. m (x ∷ ys)) (λ ys. m' (x ∷ ys))) (eqb (get_or sheet at 0) id) refl
      where
        k : B → Layout A
        k = λ x. times n part (λ xs. done (m (x ∷ xs)))

        k' : B → Layout A'
        k' = λ x. times n part' (λ xs. done (m' (x ∷ xs)))

        go : ((x : B) (to : ℕ) → ((xs : List B) → said (m' (x ∷ xs)) ≡ first_of to xs) → Finds (k x) (k' x) to)
            → (b : Bool) → eqb (get_or sheet at 0) id ≡ b → answer_of sheet key id none shown (record { state = s; at = at }) ≡ said (record_from (part' k') sheet at)
        go ih true q =
            let c : C = shown at (code_in sheet (part k) at) in
            let t = headed-there key sheet s at (heads k) w hold in
            ap (answered none (λ p. shown p.at (code_at sheet p))) (find-there sheet key id s at t.0 t.1 q) ∙ ap (shown at) (codes-walk sheet s at w hold)
            ∙ sym (over (Say c) (goes-ends sheet (λ v v'. said v' ≡ c) key) k k' at (first_ends sheet (λ v v'. said v' ≡ c) key at) (λ x to i e p.
            say-times c n (λ xs. done (m (x ∷ xs))) (λ xs. done (m' (x ∷ xs))) to (λ xs end _. h (x ∷ xs) ∙ first_by at x xs true q i ∙ p)) hold)
        go ih false q =
            over Finds goes-finds k k' at (first_finds at q) (λ x to i e p.
            ih x to (λ xs. h (x ∷ xs) ∙ first_by at x xs false q i ∙ ap (λ y. first_of y xs) (sym e))) s w hold
