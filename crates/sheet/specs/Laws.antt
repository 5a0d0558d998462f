-- Serves proofs, and is proved: what a successful reading or writing says, and that a message has a bit.
use Rattle.std.specs.Prelude.{◌≡◌, refl, Bool, true, false, ◌||◌, List, ◌++◌, ℕ, ◌+◌, ◌≤◌, ◌<◌, eqb, ltb, leb, length, take, drop, Ok, Err}
use Rattle.std.proofs.Common.{ap, ap₂, sym, ◌∙◌, arith, le-ltb, ltb-false, ne_eqb}
use Rattle.std.proofs.lemmas.Bool.{eqb-false}
use Rattle.sheet.specs.declared.Written.{Written as Laid}
use Rattle.quick.specs.declared.Extent.{Extent}
use Rattle.answer.specs.Pairs.{ok-value}
use Rattle.sizes.specs.Sizes.{longest_payload, sheet_room}
use Rattle.answer.specs.Place.{nowhere}
use Rattle.answer.specs.declared.Refusal.TheVariants as refusal
use Rattle.codes.specs.declared.Constellation.{Constellation}
use Rattle.codes.specs.declared.Constellation.TheVariants.{Gps, Glonass, Galileo, BeiDou, Qzss}
use Rattle.fields.specs.Fields.{table, find, line_of, sf}
use Rattle.layout.specs.declared.Field.{Field}
use Rattle.layout.specs.Results.{Verdict}
use Rattle.bits.specs.Bits.{to_bits, number}
use Rattle.layout.specs.Layout.{done, Layout, field, pick, judge, enough, judged, before, Outcome, accepted, refused, read_l, Written, written, unwritten, write_l}
use Rattle.layout.specs.Parts.{Part, absent, present}
use Rattle.message.specs.Messages.{Message, ocb_layout, hpac_layout, constellation_of, by_constellation, layout_for}
use Rattle.answer.specs.Stop.{stop}
use Rattle.sheet.specs.Sheet.{bad_length, known, judging, reading, read_answer_by, sheet_by, read_answer, sheet_after}
use Rattle.sheet.specs.Sheet.{bytes_for, then_length, judging_sheet, writing, write_answer_by, out_by, write_answer, out_after}

-- ---- a length that is not bad

pub good-some : (bytes : ℕ) → bad_length bytes ≡ false → (bytes ≡ 0 → ⊥) × (bytes ≤ longest_payload)
good-some bytes h = go (eqb bytes 0) (ltb longest_payload bytes) refl refl h
  where
    go : (x y : Bool) → eqb bytes 0 ≡ x → ltb longest_payload bytes ≡ y → (x || y) ≡ false → (bytes ≡ 0 → ⊥) × (bytes ≤ longest_payload)
    go true y p q h = let z : ◌≡◌ {A = ℕ} 0 1 = cc in absurd (omega arith)
    go false true p q h = let z : ◌≡◌ {A = ℕ} 0 1 = cc in absurd (omega arith)
    go false false p q h = (eqb-false bytes 0 p, ltb-false longest_payload bytes q)

pub some_good : (bytes : ℕ) → (bytes ≡ 0 → ⊥) → bytes ≤ longest_payload → bad_length bytes ≡ false
some_good bytes h k = rw (ne_eqb bytes 0 h, le-ltb longest_payload bytes k)

-- ---- a message has a bit

pub data Begins : Part (Layout Message) → Type 0 where
  no-layout : Begins absent
  begins : {f : Field} {next : ℕ → Layout Message} → 0 < f.width → Begins (present (field f next))

begins-by : (l : Constellation → Layout Message) → ((c : Constellation) → Begins (present (l c))) → (subtype : ℕ) → Begins (by_constellation l (constellation_of subtype))
begins-by l h subtype = go (eqb subtype 0) (eqb subtype 1) (eqb subtype 2) (eqb subtype 3) (eqb subtype 4)
  where
    go : (a b c d e : Bool)
        → Begins (by_constellation l (pick a (present Gps) (pick b (present Glonass) (pick c (present Galileo) (pick d (present BeiDou) (pick e (present Qzss) absent))))))
    go true b c d e = h Gps
    go false true c d e = h Glonass
    go false false true d e = h Galileo
    go false false false true e = h BeiDou
    go false false false false true = h Qzss
    go false false false false false = no-layout

begins-pick : (b : Bool) {l m : Part (Layout Message)} → Begins l → Begins m → Begins (pick b l m)
begins-pick true p q = p
begins-pick false p q = q

pub begins-for : (kind subtype : ℕ) → Begins (layout_for kind subtype)
unfolding sf line_of find table
begins-for kind subtype =
    begins-pick (eqb kind 0) (begins-by ocb_layout (λ c. begins (omega arith)) subtype) (
    begins-pick (eqb kind 1) (begins-by hpac_layout (λ c. begins (omega arith)) subtype) (
    begins-pick (eqb kind 2) (begins-pick (eqb subtype 0) (begins (omega arith)) no-layout) (
    begins-pick (eqb kind 3) (begins-pick (eqb subtype 0) (begins (omega arith)) no-layout)
    no-layout)))

first_read : (w c sf : ℕ) (b : Bool) (v : Verdict) (o : Outcome Message) {m : Message} {cs : List ℕ} {n : ℕ} → enough sf b (judged sf v (before c w o)) ≡ accepted m cs n → w ≤ n
first_read w c sf true (Ok _) (accepted m' cs' n') {m} {cs} {n} e = let q : w + n' ≡ n = cc in omega arith
first_read w c sf true (Ok _) (refused why) e = let z : ◌≡◌ {A = ℕ} 0 1 = cc in absurd (omega arith)
first_read w c sf true (Err why) o e = let z : ◌≡◌ {A = ℕ} 0 1 = cc in absurd (omega arith)
first_read w c sf false v o e = let z : ◌≡◌ {A = ℕ} 0 1 = cc in absurd (omega arith)

pub has-bit : (p : Part (Layout Message)) → Begins p → (l : Layout Message) (bits cs : List ℕ) (n : ℕ) {m : Message} → p ≡ present l → read_l l bits ≡ accepted m cs n → 0 < n
unfolding read_l
has-bit absent no-layout l bits cs n e r = let z : ◌≡◌ {A = ℕ} 0 1 = cc in absurd (omega arith)
has-bit (present (field f next)) (begins h) l bits cs n {m} e r =
    let q : field f next ≡ l = cc in
    let r' : read_l (field f next) bits ≡ accepted m cs n = ap (λ x. read_l x bits) q ∙ r in
    let k : f.width ≤ n
    = first_read f.width (number (take f.width bits)) f.sf (leb f.width (length bits)) (judge f (number (take f.width bits)))
    (read_l (next (number (take f.width bits))) (drop f.width bits)) r' in
    omega arith
has-bit (present (done value)) x4 l bits cs n {m = m} e r = elim x4 [ ]

-- ---- the tests, each by its outcome

abbrev pub judging_with : (payload : List ℕ) (p : Part (Layout Message)) (bad : Bool) → Outcome Message
judging_with payload p bad =
    known p (refused (nowhere refusal.UnknownType)) (λ layout.
    stop bad (refused (nowhere refusal.Length)) (
    read_l layout (to_bits payload)))

pub judging-with : (kind subtype : ℕ) (payload : List ℕ) {bad : Bool} {p : Part (Layout Message)} → layout_for kind subtype ≡ p → bad_length (length payload) ≡ bad
    → judging kind subtype payload ≡ judging_with payload p bad
unfolding judging
judging-with kind subtype payload a b = ap₂ (judging_with payload) a b

abbrev pub reading_with : (payload : List ℕ) (short : Bool) (p : Part (Layout Message)) (bad : Bool) → Outcome Message
reading_with payload short p bad = stop short (refused (nowhere refusal.Room)) (judging_with payload p bad)

pub reading-with : (kind subtype : ℕ) (payload sheet : List ℕ) {short bad : Bool} {p : Part (Layout Message)} → ltb (length sheet) sheet_room ≡ short
    → layout_for kind subtype ≡ p → bad_length (length payload) ≡ bad → reading kind subtype payload sheet ≡ reading_with payload short p bad
unfolding reading
reading-with kind subtype payload sheet a b c = ap₂ (λ x y. stop x (refused (nowhere refusal.Room)) y) a (judging-with kind subtype payload b c)

abbrev pub judging_sheet_with : (sheet : List ℕ) (p : Part (Layout Message)) → Written
judging_sheet_with sheet p =
    known p (unwritten (nowhere refusal.UnknownType)) (λ layout.
    then_length (write_l layout sheet))

pub judging-sheet-with : (kind subtype : ℕ) (sheet : List ℕ) {p : Part (Layout Message)} → layout_for kind subtype ≡ p
    → judging_sheet kind subtype sheet ≡ judging_sheet_with sheet p
unfolding judging_sheet
judging-sheet-with kind subtype sheet a = ap (judging_sheet_with sheet) a

abbrev pub writing_with : (sheet : List ℕ) (short : Bool) (p : Part (Layout Message)) → Written
writing_with sheet short p = stop short (unwritten (nowhere refusal.Room)) (judging_sheet_with sheet p)

pub writing-with : (kind subtype : ℕ) (sheet out : List ℕ) {short : Bool} {p : Part (Layout Message)} → ltb (length out) longest_payload ≡ short
    → layout_for kind subtype ≡ p → writing kind subtype sheet out ≡ writing_with sheet short p
unfolding writing
writing-with kind subtype sheet out a b = ap₂ (λ x y. stop x (unwritten (nowhere refusal.Room)) y) a (judging-sheet-with kind subtype sheet b)

-- ---- what a success says

pub record WasRead (kind subtype : ℕ) (payload sheet : List ℕ) (bits entries : ℕ) : Type 0 where
  pub layout : Layout Message
  pub message : Message
  pub codes : List ℕ
  pub here : layout_for kind subtype ≡ present layout
  pub reads : read_l layout (to_bits payload) ≡ accepted message codes bits
  pub room : sheet_room ≤ length sheet
  pub good : bad_length (length payload) ≡ false
  pub count : entries ≡ length codes
  pub leaves : sheet_after kind subtype payload sheet ≡ codes ++ drop (length codes) sheet

pub was_read : (kind subtype : ℕ) (payload sheet : List ℕ) (bits entries : ℕ) → read_answer kind subtype payload sheet ≡ Ok (record { bits = bits; entries = entries })
    → WasRead kind subtype payload sheet bits entries
unfolding read_answer sheet_after
was_read kind subtype payload sheet bits entries e =
    go (ltb (length sheet) sheet_room) (layout_for kind subtype) (bad_length (length payload)) refl refl refl
  where
    last : (l : Layout Message) (o : Outcome Message) → sheet_room ≤ length sheet → layout_for kind subtype ≡ present l → bad_length (length payload) ≡ false → read_l l (to_bits payload) ≡ o
        → sheet_after kind subtype payload sheet ≡ sheet_by o sheet → read_answer_by o ≡ Ok (record { bits = bits; entries = entries }) → WasRead kind subtype payload sheet bits entries
    last l (accepted m cs n) h p g r s e =
        let q : n ≡ bits = ap (λ (x : Extent). x.bits) (ok-value e) in
        record {
          layout = l;
          message = m;
          codes = cs;
          here = p;
          reads = r ∙ ap (accepted m cs) q;
          room = h;
          good = g;
          count = sym (ap (λ (x : Extent). x.entries) (ok-value e));
          leaves = s;
        }
    last l (refused why) h p g r s e = let z : ◌≡◌ {A = ℕ} 0 1 = cc in absurd (omega arith)

    go : (x : Bool) (p : Part (Layout Message)) (y : Bool) → ltb (length sheet) sheet_room ≡ x → layout_for kind subtype ≡ p → bad_length (length payload) ≡ y
        → WasRead kind subtype payload sheet bits entries
    go x p y a b c = by x p y a b c (reading-with kind subtype payload sheet a b c) (ap read_answer_by (sym (reading-with kind subtype payload sheet a b c)) ∙ e)
      where
        by : (x : Bool) (p : Part (Layout Message)) (y : Bool) → ltb (length sheet) sheet_room ≡ x → layout_for kind subtype ≡ p → bad_length (length payload) ≡ y
            → reading kind subtype payload sheet ≡ reading_with payload x p y → read_answer_by (reading_with payload x p y) ≡ Ok (record { bits = bits; entries = entries })
            → WasRead kind subtype payload sheet bits entries
        by true p y a b c r e = let z : ◌≡◌ {A = ℕ} 0 1 = cc in absurd (omega arith)
        by false absent y a b c r e = let z : ◌≡◌ {A = ℕ} 0 1 = cc in absurd (omega arith)
        by false (present l) true a b c r e = let z : ◌≡◌ {A = ℕ} 0 1 = cc in absurd (omega arith)
        by false (present l) false a b c r e = last l (read_l l (to_bits payload)) (ltb-false (length sheet) sheet_room a) b c refl (ap (λ x. sheet_by x sheet) r) e

pub read-has-bit : {kind subtype : ℕ} {payload sheet : List ℕ} {bits entries : ℕ} → WasRead kind subtype payload sheet bits entries → 0 < bits
read-has-bit {kind} {subtype} {payload} {bits} w =
    has-bit (layout_for kind subtype) (begins-for kind subtype) w.layout (to_bits payload) w.codes bits w.here w.reads

pub record WasWritten (kind subtype : ℕ) (sheet out : List ℕ) (bits bytes : ℕ) : Type 0 where
  pub layout : Layout Message
  pub text : List ℕ
  pub here : layout_for kind subtype ≡ present layout
  pub writes : write_l layout sheet ≡ written text
  pub good : bad_length bytes ≡ false
  pub room : longest_payload ≤ length out
  pub count : bits ≡ length text
  pub round : bytes ≡ bytes_for (length text)
  pub leaves : out_after kind subtype sheet out ≡ out_by (written text) out

abbrev bad_of : Written → Bool
bad_of (written text) = bad_length (bytes_for (length text))
bad_of (unwritten why) = false

pub was-written : (kind subtype : ℕ) (sheet out : List ℕ) (bits bytes : ℕ) → write_answer kind subtype sheet out ≡ Ok (record { bits = bits; bytes = bytes })
    → WasWritten kind subtype sheet out bits bytes
unfolding write_answer out_after
was-written kind subtype sheet out bits bytes e =
    go (ltb (length out) longest_payload) (layout_for kind subtype) refl refl
  where
    last : (l : Layout Message) (o : Written) → layout_for kind subtype ≡ present l → longest_payload ≤ length out → write_l l sheet ≡ o → (y : Bool)
        → ((text : List ℕ) → o ≡ written text → bad_length (bytes_for (length text)) ≡ y)
        → out_after kind subtype sheet out ≡ out_by (then_length o) out → write_answer_by (then_length o) ≡ Ok (record { bits = bits; bytes = bytes })
        → WasWritten kind subtype sheet out bits bytes
    last l (unwritten why) p r w y k s e = let z : ◌≡◌ {A = ℕ} 0 1 = cc in absurd (omega arith)
    last l (written text) p r w true k s e =
        let g : bad_length (bytes_for (length text)) ≡ true = k text refl in
        let e' : Err (nowhere refusal.Length) ≡ Ok (record { bits = bits; bytes = bytes })
        = ap (λ x. write_answer_by (stop x (unwritten (nowhere refusal.Length)) (written text))) (sym g) ∙ e in
        let z : ◌≡◌ {A = ℕ} 0 1 = cc in absurd (omega arith)
    last l (written text) p r w false k s e =
        let g : bad_length (bytes_for (length text)) ≡ false = k text refl in
        let e' : Ok (record { bits = length text; bytes = bytes_for (length text) }) ≡ Ok (record { bits = bits; bytes = bytes })
        = ap (λ x. write_answer_by (stop x (unwritten (nowhere refusal.Length)) (written text))) (sym g) ∙ e in
        let b : bytes_for (length text) ≡ bytes = ap (λ (x : Laid). x.bytes) (ok-value e') in
        record {
          layout = l;
          text = text;
          here = p;
          writes = w;
          good = ap bad_length (sym b) ∙ g;
          room = r;
          count = sym (ap (λ (x : Laid). x.bits) (ok-value e'));
          round = sym b;
          leaves = s ∙ ap (λ x. out_by (stop x (unwritten (nowhere refusal.Length)) (written text)) out) g;
        }

    go : (x : Bool) (p : Part (Layout Message)) → ltb (length out) longest_payload ≡ x → layout_for kind subtype ≡ p → WasWritten kind subtype sheet out bits bytes
    go x p a b = by x p a b (writing-with kind subtype sheet out a b) (ap write_answer_by (sym (writing-with kind subtype sheet out a b)) ∙ e)
      where
        by : (x : Bool) (p : Part (Layout Message)) → ltb (length out) longest_payload ≡ x → layout_for kind subtype ≡ p
            → writing kind subtype sheet out ≡ writing_with sheet x p → write_answer_by (writing_with sheet x p) ≡ Ok (record { bits = bits; bytes = bytes })
            → WasWritten kind subtype sheet out bits bytes
        by true p a b r e = let z : ◌≡◌ {A = ℕ} 0 1 = cc in absurd (omega arith)
        by false absent a b r e = let z : ◌≡◌ {A = ℕ} 0 1 = cc in absurd (omega arith)
        by false (present l) a b r e =
            last l (write_l l sheet) b (ltb-false (length out) longest_payload a) refl (bad_of (write_l l sheet)) (λ text q. ap bad_of (sym q)) (ap (λ x. out_by x out) r) e

-- ---- what makes a success

pub reads_so : (kind subtype : ℕ) (payload sheet : List ℕ) (l : Layout Message) (m : Message) (cs : List ℕ) (n : ℕ) → layout_for kind subtype ≡ present l
    → read_l l (to_bits payload) ≡ accepted m cs n → sheet_room ≤ length sheet → bad_length (length payload) ≡ false
    → (read_answer kind subtype payload sheet ≡ Ok (record { bits = n; entries = length cs })) × (sheet_after kind subtype payload sheet ≡ cs ++ drop (length cs) sheet)
unfolding read_answer sheet_after
reads_so kind subtype payload sheet l m cs n p r room good =
    let e : reading kind subtype payload sheet ≡ accepted m cs n
    = reading-with kind subtype payload sheet (le-ltb (length sheet) sheet_room room) p good ∙ r in
    (ap read_answer_by e, ap (λ x. sheet_by x sheet) e)

pub writes-so : (kind subtype : ℕ) (sheet out : List ℕ) (l : Layout Message) (text : List ℕ) → layout_for kind subtype ≡ present l
    → write_l l sheet ≡ written text → longest_payload ≤ length out → bad_length (bytes_for (length text)) ≡ false
    → (write_answer kind subtype sheet out ≡ Ok (record { bits = length text; bytes = bytes_for (length text) })) × (out_after kind subtype sheet out ≡ out_by (written text) out)
unfolding write_answer out_after
writes-so kind subtype sheet out l text p w room good =
    let e : writing kind subtype sheet out ≡ written text
    = writing-with kind subtype sheet out (le-ltb (length out) longest_payload room) p ∙ ap then_length w ∙ ap (λ x. stop x (unwritten (nowhere refusal.Length)) (written text)) good in
    (ap write_answer_by e, ap (λ x. out_by x out) e)
