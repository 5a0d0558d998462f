-- Theorems, for every layout at once (document 02, request 2): where a refusal is. Its place has the number of the layout's field there; the bits, or the entries, before it are those of
-- the entries before that field, each taken by its own. And each payload or sheet that stops so is refused so. (SHORT: Placed.antt.) Proved.
use Rattle.std.proofs.Math.Path.{◌≡◌, refl, ap, sym}
use Rattle.std.proofs.Common.{ap₂, ◌∙◌, subst, arith, take-append-drop}
use Rattle.std.specs.Prelude.{Bool, false, Option, Ok, Err, Some}
use Rattle.std.proofs.Math.Bool.{true}
use mathlib.Core.List.{List, [], ◌∷◌, ◌++◌, append_assoc}
use Prim.Native.Nat.{ℕ, ◌+◌, ◌^◌, ◌≤◌, ◌<◌}
use Rattle.std.proofs.Math.Dec.{ltb, leb}
use Rattle.std.proofs.Math.ListN.{length, take, drop, length-append}
use Rattle.std.proofs.Math.Seq.{take_at, drop_at}
use borrow.Author.Tests.{leb-true, leb-false, ltb-true, ltb-false, lt-ltb, le-ltb, le-leb, lt-leb}
use Rattle.answer.specs.declared.Refusal.{Refusal}
use Rattle.answer.specs.declared.Refusal.TheVariants as refusal
use Rattle.answer.specs.declared.Place.{Place}
use Rattle.answer.specs.declared.Fault as answer
use Rattle.answer.specs.Place.{nowhere, fault_at, moved, further}
use Rattle.answer.specs.Further.{further-none, further-twice}
use Rattle.bits.specs.Bits.{bits_of, number, Bits}
use Rattle.bits.specs.Laws.{length-bits_of, number-of-bits}
use Rattle.layout.specs.declared.Field.{Field}
use Rattle.layout.specs.Results.{Verdict}
use Rattle.layout.specs.Layout.{Layout, done, field, judge, Outcome, accepted, refused, enough, judged, before, read_l}
use Rattle.layout.specs.Layout.{Written, written, unwritten, fitting, judged_w, behind, write_l}
use Rattle.layout.specs.RoundTrip.{bits-drop, front-lt, front-bits}

-- These entries, which say these bits, come first in the layout l; m is what is left of it. Each entry is taken by the field that is there.
pub data Before {A : Type 0} : Layout A → (codes bits : List ℕ) → Layout A → Type 0 where
  none : {l : Layout A} → Before l [] [] l
  one : {f : Field} {next : ℕ → Layout A} {cs bs : List ℕ} {m : Layout A} (c : ℕ) → judge f c ≡ Ok tt → c < 2 ^ f.width → Before (next c) cs bs m
      → Before (field f next) (c ∷ cs) (bits_of f.width c ++ bs) m

-- ---- reading

-- why a field is at fault with these bits from its own on: they are too few, or it does not take the code that stands there
pub data ReadCause (f : Field) (rest : List ℕ) : Refusal → Type 0 where
  short : length rest < f.width → ReadCause f rest refusal.Short
  fault : {why : Refusal} → f.width ≤ length rest → judge f (number (take f.width rest)) ≡ Err why → ReadCause f rest why

-- The bits stop at the field `here` of the layout: these entries come before it.
pub record ReadStop {A : Type 0} (l : Layout A) (bits : List ℕ) (why : answer.Fault) : Type 0 where
  pub here : Field
  pub next : ℕ → Layout A
  pub codes : List ℕ
  pub said : List ℕ
  pub rest : List ℕ
  pub first : Before l codes said (field here next)
  pub begins : bits ≡ said ++ rest
  pub cause : ReadCause here rest why.refusal
  pub place : why.place ≡ Some (record { sf = here.sf; at = length said })

module _ {A : Type 0} where
  stops-here : (f : Field) (next : ℕ → Layout A) (bits : List ℕ) {why : Refusal} (given : answer.Fault) → ReadCause f bits why
      → ◌≡◌ {A = Outcome A} (refused (fault_at why f.sf 0)) (refused given) → ReadStop (field f next) bits given
  stops-here f next bits {why} given cause e =
      let same : fault_at why f.sf 0 ≡ given = cc in
      record {
        here = f;
        next = next;
        codes = [];
        said = [];
        rest = bits;
        first = none;
        begins = refl;
        cause = subst (λ (x : answer.Fault). ReadCause f bits x.refusal) same cause;
        place = ap (λ (x : answer.Fault). x.place) (sym same);
      }

  stops-behind : (f : Field) (next : ℕ → Layout A) (bits : List ℕ) (c : ℕ) (o : Outcome A) (given : answer.Fault) → Bits bits → f.width ≤ length bits
      → c ≡ number (take f.width bits) → judge f c ≡ Ok tt → ((why : answer.Fault) → o ≡ refused why → ReadStop (next c) (drop f.width bits) why)
      → before c f.width o ≡ refused given → ReadStop (field f next) bits given
  stops-behind f next bits c (accepted v cs n) given b h n' j ih e = let z : ◌≡◌ {A = ℕ} 0 1 = cc in absurd (omega arith)
  stops-behind f next bits c (refused why) given b h n j ih e =
      let w : ℕ = f.width in
      let same : further w why ≡ given = cc in
      let s = ih why refl in
      let front : bits_of w c ≡ take w bits = ap (bits_of w) n ∙ front-bits w bits b h in
      record {
        here = s.here;
        next = s.next;
        codes = c ∷ s.codes;
        said = bits_of w c ++ s.said;
        rest = s.rest;
        first = one c j (subst (λ (x : ℕ). x < 2 ^ w) (sym n) (front-lt w bits b h)) s.first;
        begins = sym (take-append-drop w bits) ∙ ap₂ (λ x y. x ++ y) (sym front) s.begins ∙ sym (append_assoc (bits_of w c) s.said s.rest);
        cause = subst (λ (x : answer.Fault). ReadCause s.here s.rest x.refusal) same s.cause;
        place = ap (λ (x : answer.Fault). x.place) (sym same) ∙ ap (moved w) s.place
            ∙ ap (λ (x : ℕ). Some (record { sf = s.here.sf; at = x })) (omega (arith, length-append (bits_of w c) s.said, length-bits_of w c));
      }

  stops-field : (f : Field) (next : ℕ → Layout A) (bits : List ℕ) (c : ℕ) (o : Outcome A) (why : answer.Fault) (x : Bool) (v : Verdict) → Bits bits
      → c ≡ number (take f.width bits) → leb f.width (length bits) ≡ x → judge f c ≡ v
      → ((why' : answer.Fault) → o ≡ refused why' → ReadStop (next c) (drop f.width bits) why')
      → enough f.sf x (judged f.sf v (before c f.width o)) ≡ refused why → ReadStop (field f next) bits why
  stops-field f next bits c o why false v b n p q ih e = stops-here f next bits why (short (leb-false f.width (length bits) p)) e
  stops-field f next bits c o why true (Err r) b n p q ih e =
      stops-here f next bits why (fault (leb-true f.width (length bits) p) (ap (judge f) (sym n) ∙ q)) e
  stops-field f next bits c o why true (Ok _) b n p q ih e = stops-behind f next bits c o why b (leb-true f.width (length bits) p) n q ih e

  -- A refusal is where the bits stop.
  pub refused-there : (l : Layout A) (bits : List ℕ) (why : answer.Fault) → Bits bits → read_l l bits ≡ refused why → ReadStop l bits why
  unfolding read_l
  refused-there (done v) bits why b e = let z : ◌≡◌ {A = ℕ} 0 1 = cc in absurd (omega arith)
  refused-there (field f next) bits why b e =
      let w : ℕ = f.width in
      let c : ℕ = number (take w bits) in
      stops-field f next bits c (read_l (next c) (drop w bits)) why (leb w (length bits)) (judge f c) b refl refl refl
      (λ why' e'. refused-there (next c) (drop w bits) why' (bits-drop w b) e') e

  -- behind these entries the layout reads on as what is left of it
  reads-behind : {l m : Layout A} {cs said : List ℕ} → Before l cs said m → (rest : List ℕ) (why : answer.Fault) → read_l m rest ≡ refused why
      → read_l l (said ++ rest) ≡ refused (further (length said) why)
  unfolding read_l
  reads-behind none rest why e = e ∙ ap refused (sym (further-none why))
  reads-behind {l} {m} (one {f} {next} {cs} {bs} c j fits more) rest why e =
      let w : ℕ = f.width in
      let ih : read_l (next c) (bs ++ rest) ≡ refused (further (length bs) why) = reads-behind more rest why e in
      let ln : leb w (length (bits_of w c ++ (bs ++ rest))) ≡ true
      = le-leb w (length (bits_of w c ++ (bs ++ rest))) (omega (arith, length-append (bits_of w c) (bs ++ rest), length-bits_of w c)) in
      let t : take w (bits_of w c ++ (bs ++ rest)) ≡ bits_of w c = take_at (bits_of w c) (bs ++ rest) w (length-bits_of w c) in
      let d : drop w (bits_of w c ++ (bs ++ rest)) ≡ bs ++ rest = drop_at (bits_of w c) (bs ++ rest) w (length-bits_of w c) in
      let n : number (bits_of w c) ≡ c = number-of-bits w c fits in
      let size : w + length bs ≡ length (bits_of w c ++ bs) = omega (arith, length-append (bits_of w c) bs, length-bits_of w c) in
      let step : read_l (field f next) ((bits_of w c ++ bs) ++ rest) ≡ refused (further w (further (length bs) why)) = rw (append_assoc, ln, t, d, n, j, ih) in
      step ∙ ap refused (sym (further-twice w (length bs) why) ∙ ap (λ (x : ℕ). further x why) size)

  caused : (f : Field) (next : ℕ → Layout A) (rest : List ℕ) {why : Refusal} → ReadCause f rest why → read_l (field f next) rest ≡ refused (fault_at why f.sf 0)
  unfolding read_l
  caused f next rest (short h) = rw (lt-leb f.width (length rest) h)
  caused f next rest (fault h j) = rw (le-leb f.width (length rest) h, j)

  -- Bits that stop so are refused so: with one place, which the layout and the bits determine.
  pub stops-refused : (l : Layout A) (bits : List ℕ) (why : answer.Fault) → ReadStop l bits why → read_l l bits ≡ refused why
  stops-refused l bits why s =
      let r = why.refusal in
      let sf = s.here.sf in
      ap (read_l l) s.begins ∙ reads-behind s.first s.rest (fault_at r sf 0) (caused s.here s.next s.rest s.cause)
      ∙ ap (λ (p : (Option Place)). refused (record { refusal = r; place = p })) (ap (λ (x : ℕ). Some (record { sf = sf; at = x })) (omega arith) ∙ sym s.place)

-- ---- writing

-- why a field is at fault with these entries from its own on: there is none, it does not take the code, or the code is too wide for it
pub data WriteCause (f : Field) : List ℕ → Refusal → Type 0 where
  ended : WriteCause f [] refusal.Short
  fault : {c : ℕ} {cs : List ℕ} {why : Refusal} → judge f c ≡ Err why → WriteCause f (c ∷ cs) why
  wide : {c : ℕ} {cs : List ℕ} → judge f c ≡ Ok tt → 2 ^ f.width ≤ c → WriteCause f (c ∷ cs) refusal.Field

-- The sheet stops at the field `here` of the layout, behind these entries; or it goes on where the layout ends.
pub data WriteStop {A : Type 0} (l : Layout A) (sheet : List ℕ) (why : answer.Fault) : Type 0 where
  entry : (here : Field) (next : ℕ → Layout A) (codes said rest : List ℕ) → Before l codes said (field here next) → sheet ≡ codes ++ rest
      → WriteCause here rest why.refusal → why.place ≡ Some (record { sf = here.sf; at = length codes }) → WriteStop l sheet why
  leftover : (v : A) (codes said : List ℕ) (c : ℕ) (rest : List ℕ) → Before l codes said (done v) → sheet ≡ codes ++ (c ∷ rest) → why ≡ nowhere refusal.Leftover
      → WriteStop l sheet why

module _ {A : Type 0} where
  unwritten-here : (f : Field) (next : ℕ → Layout A) (sheet : List ℕ) {why : Refusal} (given : answer.Fault) → WriteCause f sheet why
      → unwritten (fault_at why f.sf 0) ≡ unwritten given → WriteStop (field f next) sheet given
  unwritten-here f next sheet {why} given cause e =
      let same : fault_at why f.sf 0 ≡ given = cc in
      entry f next [] [] sheet none refl (subst (λ (x : answer.Fault). WriteCause f sheet x.refusal) same cause)
      (ap (λ (x : answer.Fault). x.place) (sym same))

  unwritten-behind : (f : Field) (next : ℕ → Layout A) (c : ℕ) (cs : List ℕ) (o : Written) (given : answer.Fault) → judge f c ≡ Ok tt → c < 2 ^ f.width
      → ((why : answer.Fault) → o ≡ unwritten why → WriteStop (next c) cs why) → behind (bits_of f.width c) o ≡ unwritten given → WriteStop (field f next) (c ∷ cs) given
  unwritten-behind f next c cs (written bs) given j fits ih e = let z : ◌≡◌ {A = ℕ} 0 1 = cc in absurd (omega arith)
  unwritten-behind f next c cs (unwritten why) given j fits ih e = go (let x : further 1 why ≡ given = cc in x) (ih why refl)
    where
      go : further 1 why ≡ given → WriteStop (next c) cs why → WriteStop (field f next) (c ∷ cs) given
      go same (entry here after codes said rest first begins cause place) =
          entry here after (c ∷ codes) (bits_of f.width c ++ said) rest (one c j fits first) (ap (λ x. c ∷ x) begins)
          (subst (λ (x : answer.Fault). WriteCause here rest x.refusal) same cause)
          (ap (λ (x : answer.Fault). x.place) (sym same) ∙ ap (moved 1) place ∙ ap (λ (x : ℕ). Some (record { sf = here.sf; at = x })) (omega arith))
      go same (leftover v codes said d rest first begins e') =
          leftover v (c ∷ codes) (bits_of f.width c ++ said) d rest (one c j fits first) (ap (λ x. c ∷ x) begins) (sym same ∙ ap (further 1) e')

  unwritten-field : (f : Field) (next : ℕ → Layout A) (c : ℕ) (cs : List ℕ) (o : Written) (why : answer.Fault) (v : Verdict) (x : Bool) → judge f c ≡ v → ltb c (2 ^ f.width) ≡ x
      → ((why' : answer.Fault) → o ≡ unwritten why' → WriteStop (next c) cs why')
      → judged_w f.sf v (fitting f.sf x (behind (bits_of f.width c) o)) ≡ unwritten why → WriteStop (field f next) (c ∷ cs) why
  unwritten-field f next c cs o why (Err r) x q p ih e = unwritten-here f next (c ∷ cs) why (fault q) e
  unwritten-field f next c cs o why (Ok _) false q p ih e = unwritten-here f next (c ∷ cs) why (wide q (ltb-false c (2 ^ f.width) p)) e
  unwritten-field f next c cs o why (Ok _) true q p ih e = unwritten-behind f next c cs o why q (ltb-true c (2 ^ f.width) p) ih e

  -- A refusal is where the sheet stops.
  pub unwritten-there : (l : Layout A) (sheet : List ℕ) (why : answer.Fault) → write_l l sheet ≡ unwritten why → WriteStop l sheet why
  unfolding write_l
  unwritten-there (done v) [] why e = let z : ◌≡◌ {A = ℕ} 0 1 = cc in absurd (omega arith)
  unwritten-there (done v) (c ∷ cs) why e = leftover v [] [] c cs none refl cc
  unwritten-there (field f next) [] why e = unwritten-here f next [] why ended e
  unwritten-there (field f next) (c ∷ cs) why e =
      unwritten-field f next c cs (write_l (next c) cs) why (judge f c) (ltb c (2 ^ f.width)) refl refl (λ why' e'. unwritten-there (next c) cs why' e') e

  writes-behind : {l m : Layout A} {cs said : List ℕ} → Before l cs said m → (rest : List ℕ) (why : answer.Fault) → write_l m rest ≡ unwritten why
      → write_l l (cs ++ rest) ≡ unwritten (further (length cs) why)
  unfolding write_l
  writes-behind none rest why e = e ∙ ap unwritten (sym (further-none why))
  writes-behind (one {f} {next} {cs} {bs} c j fits more) rest why e =
      let ih : write_l (next c) (cs ++ rest) ≡ unwritten (further (length cs) why) = writes-behind more rest why e in
      let t : ltb c (2 ^ f.width) ≡ true = lt-ltb c (2 ^ f.width) fits in
      let step : write_l (field f next) (c ∷ (cs ++ rest)) ≡ unwritten (further 1 (further (length cs) why)) = rw (j, t, ih) in
      step ∙ ap unwritten (sym (further-twice 1 (length cs) why) ∙ ap (λ (x : ℕ). further x why) (omega arith))

  caused_w : (f : Field) (next : ℕ → Layout A) (rest : List ℕ) {why : Refusal} → WriteCause f rest why → write_l (field f next) rest ≡ unwritten (fault_at why f.sf 0)
  unfolding write_l
  caused_w f next rest ended = refl
  caused_w f next rest (fault j) = rw j
  caused_w f next rest (wide {c} j h) = rw (j, le-ltb c (2 ^ f.width) h)

  -- A sheet that stops so is refused so.
  pub stops-unwritten : (l : Layout A) (sheet : List ℕ) (why : answer.Fault) → WriteStop l sheet why → write_l l sheet ≡ unwritten why
  unfolding write_l
  stops-unwritten l sheet why (entry here next codes said rest first begins cause place) =
      let r = why.refusal in
      ap (write_l l) begins ∙ writes-behind first rest (fault_at r here.sf 0) (caused_w here next rest cause)
      ∙ ap (λ (p : (Option Place)). unwritten (record { refusal = r; place = p })) (ap (λ (x : ℕ). Some (record { sf = here.sf; at = x })) (omega arith) ∙ sym place)
  stops-unwritten l sheet why (leftover v codes said c rest first begins e) =
      ap (write_l l) begins ∙ writes-behind first (c ∷ rest) (nowhere refusal.Leftover) refl ∙ ap unwritten (sym e)
