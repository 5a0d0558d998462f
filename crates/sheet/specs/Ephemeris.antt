-- Theorems (document 02, request 6), of an OCB: `judge`, `read`, `judge_sheet` and `write` refuse an ephemeris type that has no meaning, at its place (`has_tbd`, `has_tbd_in`; `read` and
-- `write` where there is room), whatever comes behind it; every other payload and sheet means what it meant while types were kept as sent, and by that all four answer and store. Proved.
use Rattle.std.proofs.Math.Path.{◌≡◌, refl, ap}
use Rattle.std.proofs.Common.{sym, ◌∙◌, subst, true≢false, arith, lit≤, lit<, drop-cons, get_or-drop}
use Rattle.std.specs.Prelude.{Bool, true, false, not, ◌&&◌, leb, ltb, get_or, take, Ok, Err}
use Rattle.std.proofs.lemmas.Bool.{false≢true}
use mathlib.Core.List.{List, [], ◌∷◌}
use Prim.Native.Nat.{ℕ, ◌+◌, ◌*◌, ◌≤◌, ◌<◌}
use Rattle.std.proofs.Math.ListN.{length, drop, length-drop, get_or-eq_default}
use borrow.Author.Tests.{le-leb, lt-leb, leb-true, leb-false, le-ltb, lt-ltb, ltb-true, ltb-false, ne_eqb, not-true}
use Rattle.sheet.specs.Results.{ReadAnswer}
use Rattle.sizes.specs.Sizes.{longest_payload, sheet_room}
use Rattle.answer.specs.Stop.{stop}
use Rattle.answer.specs.Place.{nowhere, fault_at}
use Rattle.answer.specs.declared.Refusal.{Refusal}
use Rattle.answer.specs.declared.Refusal.TheVariants as refusal
use Rattle.bits.specs.Bits as bits
use Rattle.bits.specs.Bits.{to_bits, number, Bits}
use Rattle.bits.specs.Laws.{length-to_bits, bits-to_bits}
use Rattle.layout.specs.declared.Field.{Field}
use Rattle.layout.specs.Layout.{Layout, done, field, judge, Outcome, accepted, refused, read_l, write_l}
use Rattle.layout.specs.Alike.{fault-behind, same-behind, same_here, same-short, accepted-goes, same_after, same-entry}
use Rattle.layout.specs.Parts.{present, free, each}
use Rattle.layout.specs.Holds.{Holds}
use Rattle.layout.specs.Places.{one, none, WriteCause, ended, fault, entry}
use Rattle.fields.specs.Fields.{table, find, line_of, field_of, sf}
use Rattle.codes.specs.declared.Constellation.{Constellation}
use Rattle.codes.specs.declared.Constellation.TheVariants.{Gps, Glonass, Galileo, BeiDou, Qzss}
use Rattle.codes.specs.Fields.{satellite_mask}
use Rattle.ocb.specs.Tables.{ephemeris_sf}
use Rattle.ocb.specs.Ocb as ocb
use Rattle.message.specs.Messages.{Message, ocb_message, ocb_layout, constellation_of, by_constellation, layout_for}
use Rattle.quick.specs.Passes.{taken-full, taken-up-to}
use Rattle.quick.specs.Codes.{full}
use Rattle.sheet.specs.Sheet as sheet
use Rattle.sheet.specs.Sheet.{bad_length, judging, read_answer_by, read_answer, then_length, judging_sheet, judged_sheet, write_answer}
use Rattle.sheet.specs.Laws.{judging_with, judging-with, judging_sheet_with, judging-sheet-with}
use Rattle.sheet.specs.Places.{stops-judged-sheet}
use Rattle.sheet.specs.Acceptance.{Writable, written-writable, judges-as-read, judges-as-written}

-- ---- the request's words

-- "Refuse TBD values: GPS and GLONASS 1 to 3, Galileo and QZSS 3 to 7, BeiDou 6 to 15."
abbrev pub is_tbd : Constellation → ℕ → Bool
is_tbd Gps type = leb 1 type && leb type 3
is_tbd Glonass type = leb 1 type && leb type 3
is_tbd Galileo type = leb 3 type && leb type 7
is_tbd BeiDou type = leb 6 type && leb type 15
is_tbd Qzss type = leb 3 type && leb type 7

-- "ephemeris type 2, 2, 3, 4, 3" bits (document 01, "Payloads"), which begin at bit 13
abbrev pub type_bits : Constellation → ℕ
type_bits Gps = 2
type_bits Glonass = 2
type_bits Galileo = 3
type_bits BeiDou = 4
type_bits Qzss = 3

abbrev pub type_of : Constellation → (payload : List ℕ) → ℕ
type_of c payload = bits.field payload 13 (type_bits c)

-- a payload of 1 to 1,023 bytes that has all bits of such a type
abbrev pub has_tbd : Constellation → (payload : List ℕ) → Bool
has_tbd c payload = not (bad_length (length payload)) && (leb (13 + type_bits c) (8 * length payload) && is_tbd c (type_of c payload))

-- a sheet that has such a type at entry 5, and before it SF005 in 9 bits and four flags
abbrev pub has_tbd_in : Constellation → (entries : List ℕ) → Bool
has_tbd_in c entries =
    ltb (get_or entries 0 0) 512 && (ltb (get_or entries 1 0) 2 && (ltb (get_or entries 2 0) 2 && (ltb (get_or entries 3 0) 2 && (ltb (get_or entries 4 0) 2 && is_tbd c (get_or entries 5 0)))))

-- table 6.3 with this field for the ephemeris type
abbrev pub with_type : Field → Constellation → Layout Message
with_type f c =
    field (sf 5) (λ siou.
    field (sf 10) (λ end_of_set.
    field (sf 69) (λ reserved.
    field (sf 8) (λ yaw_present.
    field (sf 9) (λ datum.
    field f (λ ephemeris.
    satellite_mask c (λ numbers.
    each numbers (ocb.satellite c yaw_present) (λ satellites.
    done (ocb_message c (record { siou = siou; end_of_set = end_of_set; datum = datum; ephemeris = ephemeris; satellites = satellites }))))))))))

-- the layout before the request: "Ephemeris types .. are kept as sent" (document 01, "Codes")
abbrev pub as_sent : Constellation → Layout Message
as_sent c = with_type (free (ephemeris_sf c) (type_bits c)) c

-- The layout of today is the same table with the field of today.
pub of-today : (c : Constellation) → ocb_layout c ≡ with_type (sf (ephemeris_sf c)) c
of-today c = refl

-- ---- the field of today

type-width : (c : Constellation) → (sf (ephemeris_sf c)).width ≡ type_bits c
unfolding sf line_of find table
type-width Gps = refl
type-width Glonass = refl
type-width Galileo = refl
type-width BeiDou = refl
type-width Qzss = refl

type-some : (c : Constellation) → 0 < type_bits c
type-some Gps = lit< tt
type-some Glonass = lit< tt
type-some Galileo = lit< tt
type-some BeiDou = lit< tt
type-some Qzss = lit< tt

type-number : (c : Constellation) → (sf (ephemeris_sf c)).sf ≡ ephemeris_sf c
unfolding sf
type-number c = refl

both : (a b : Bool) → (a && b) ≡ true → (a ≡ true) × (b ≡ true)
both true b e = (refl, e)
both false b e = absurd (false≢true e)

above-refused : (n w most type : ℕ) → most < type → judge (field_of n w most most) type ≡ Err refusal.Field
unfolding judge
above-refused n w most type h = rw (ne_eqb type most (λ z. omega arith), le-ltb type 0 (omega arith), lt-ltb most type h)

module _ (n w most top type : ℕ) where
  between-refused : (leb (most + 1) type && leb type top) ≡ true → judge (field_of n w most most) type ≡ Err refusal.Field
  between-refused e =
      let low : most + 1 ≤ type = leb-true (most + 1) type (both (leb (most + 1) type) (leb type top) e).0 in
      above-refused n w most type (omega arith)

  outside-same : most ≤ top → (leb (most + 1) type && leb type top) ≡ false → judge (field_of n w most most) type ≡ judge (field_of n w top top) type
  outside-same h e = go (leb (most + 1) type) (leb type top) refl refl e
    where
      go : (x y : Bool) → leb (most + 1) type ≡ x → leb type top ≡ y → (x && y) ≡ false → judge (field_of n w most most) type ≡ judge (field_of n w top top) type
      go false y p q e =
          let low : type < most + 1 = leb-false (most + 1) type p in
          taken-up-to (field_of n w most most) type (omega arith) refl (omega arith) ∙ sym (taken-up-to (field_of n w top top) type (omega arith) refl (omega arith))
      go true false p q e =
          let high : top < type = leb-false type top q in
          above-refused n w most type (omega arith) ∙ sym (above-refused n w top type high)
      go true true p q e = absurd (true≢false e)

-- It refuses each TBD value ..
pub tbd-judged : (c : Constellation) (type : ℕ) → is_tbd c type ≡ true → judge (sf (ephemeris_sf c)) type ≡ Err refusal.Field
unfolding sf line_of find table
tbd-judged Gps type e = between-refused 16 2 0 3 type e
tbd-judged Glonass type e = between-refused 17 2 0 3 type e
tbd-judged Galileo type e = between-refused 96 3 2 7 type e
tbd-judged BeiDou type e = between-refused 97 4 5 15 type e
tbd-judged Qzss type e = between-refused 98 3 2 7 type e

-- .. and of any other code it says what was said while types were kept as sent.
pub others-judged : (c : Constellation) (type : ℕ) → is_tbd c type ≡ false → judge (sf (ephemeris_sf c)) type ≡ judge (free (ephemeris_sf c) (type_bits c)) type
unfolding sf line_of find table
others-judged Gps type e = outside-same 16 2 0 3 type (lit≤ tt) e
others-judged Glonass type e = outside-same 17 2 0 3 type (lit≤ tt) e
others-judged Galileo type e = outside-same 96 3 2 7 type (lit≤ tt) e
others-judged BeiDou type e = outside-same 97 4 5 15 type (lit≤ tt) e
others-judged Qzss type e = outside-same 98 3 2 7 type (lit≤ tt) e

-- ---- reading

-- the five fields in front of the type take every code
head-fault : (l : List ℕ) → Bits l → (f : Field) (c : Constellation) (why : Refusal) (n : ℕ) → 13 ≤ length l
    → ((next : ℕ → Layout Message) → read_l (field f next) (drop 13 l) ≡ refused (fault_at why n 0)) → read_l (with_type f c) l ≡ refused (fault_at why n 13)
unfolding sf line_of find table
head-fault l b f c why n h e =
    fault-behind l b (sf 5) _ 0 (fault_at why n 4) (λ code h. taken-full code (full refl) h) (omega arith) (λ siou.
    fault-behind l b (sf 10) _ 9 (fault_at why n 3) (λ code h. taken-full code (full refl) h) (omega arith) (λ end_of_set.
    fault-behind l b (sf 69) _ 10 (fault_at why n 2) (λ code h. taken-full code (full refl) h) (omega arith) (λ reserved.
    fault-behind l b (sf 8) _ 11 (fault_at why n 1) (λ code h. taken-full code (full refl) h) (omega arith) (λ yaw_present.
    fault-behind l b (sf 9) _ 12 (fault_at why n 0) (λ code h. taken-full code (full refl) h) (omega arith) (λ datum. e _)))))

-- two fields for the type that judge the code there alike
head-same : (l : List ℕ) (f g : Field) (c : Constellation) → ((next : ℕ → Layout Message) → read_l (field f next) (drop 13 l) ≡ read_l (field g next) (drop 13 l))
    → read_l (with_type f c) l ≡ read_l (with_type g c) l
unfolding sf line_of find table
head-same l f g c e =
    same-behind l (sf 5) _ _ 0 (λ siou.
    same-behind l (sf 10) _ _ 9 (λ end_of_set.
    same-behind l (sf 69) _ _ 10 (λ reserved.
    same-behind l (sf 8) _ _ 11 (λ yaw_present.
    same-behind l (sf 9) _ _ 12 (λ datum. e _)))))

-- an accepted message's type is taken
head-taken : (l : List ℕ) (c : Constellation) {m : Message} {cs : List ℕ} {n : ℕ} → read_l (ocb_layout c) l ≡ accepted m cs n
    → judge (sf (ephemeris_sf c)) (number (take (sf (ephemeris_sf c)).width (drop 13 l))) ≡ Ok tt
unfolding sf line_of find table
head-taken l c e =
    let g1 = accepted-goes l (sf 5) _ 0 e in
    let g2 = accepted-goes l (sf 10) _ 9 g1.behind in
    let g3 = accepted-goes l (sf 69) _ 10 g2.behind in
    let g4 = accepted-goes l (sf 8) _ 11 g3.behind in
    let g5 = accepted-goes l (sf 9) _ 12 g4.behind in
    let g6 = accepted-goes l (sf (ephemeris_sf c)) _ 13 g5.behind in
    ap (judge (sf (ephemeris_sf c))) (sym g6.there) ∙ g6.taken

ocb-known : (subtype : ℕ) (c : Constellation) → constellation_of subtype ≡ present c → layout_for 0 subtype ≡ present (ocb_layout c)
ocb-known subtype c e = ap (by_constellation ocb_layout) e

module _ (subtype : ℕ) (c : Constellation) (known : constellation_of subtype ≡ present c) (payload : List ℕ) where
  first-fault : (why : Refusal) → bad_length (length payload) ≡ false → 13 ≤ 8 * length payload
      → ((next : ℕ → Layout Message) → read_l (field (sf (ephemeris_sf c)) next) (drop 13 (to_bits payload)) ≡ refused (fault_at why (ephemeris_sf c) 0))
      → sheet.judged 0 subtype payload ≡ Err (fault_at why (ephemeris_sf c) 13)
  unfolding sheet.judged
  first-fault why good h e =
      ap read_answer_by (judging-with 0 subtype payload (ocb-known subtype c known) good
      ∙ head-fault (to_bits payload) (bits-to_bits payload) (sf (ephemeris_sf c)) c why (ephemeris_sf c) (omega (arith, length-to_bits payload)) e)

  -- "FIELD at the ephemeris field": whatever stands behind it, an empty mask, too few bits or no orbit.
  pub tbd-refused : has_tbd c payload ≡ true → sheet.judged 0 subtype payload ≡ Err (fault_at refusal.Field (ephemeris_sf c) 13)
  unfolding read_l bits.field
  tbd-refused e =
      let a = both (not (bad_length (length payload))) _ e in
      let b = both (leb (13 + type_bits c) (8 * length payload)) _ a.1 in
      let there : 13 + type_bits c ≤ 8 * length payload = leb-true (13 + type_bits c) (8 * length payload) b.0 in
      let m : List ℕ = drop 13 (to_bits payload) in
      let w : ℕ = (sf (ephemeris_sf c)).width in
      let long : w ≤ length m = omega (arith, length-drop 13 (to_bits payload), length-to_bits payload, type-width c) in
      let j : judge (sf (ephemeris_sf c)) (number (take w m)) ≡ Err refusal.Field
      = tbd-judged c (number (take w m)) (ap (λ (x : ℕ). is_tbd c (number (take x m))) (type-width c) ∙ b.1) in
      first-fault refusal.Field (not-true (bad_length (length payload)) a.0) (omega arith) (λ next. rw (le-leb w (length m) long, j, type-number c))

  -- `read` answers so too, where there is room for a sheet.
  pub tbd-unread : (lent : List ℕ) → sheet_room ≤ length lent → has_tbd c payload ≡ true
      → read_answer 0 subtype payload lent ≡ Err (fault_at refusal.Field (ephemeris_sf c) 13)
  tbd-unread lent room e = sym (judges-as-read 0 subtype payload lent room) ∙ tbd-refused e

  -- "after SHORT there": a payload that ends within the type is SHORT there. Payloads are whole bytes, so that is a BeiDou payload of two bytes; one of a single byte is SHORT at SF005.
  pub type-short : bad_length (length payload) ≡ false → 13 ≤ 8 * length payload → 8 * length payload < 13 + type_bits c
      → sheet.judged 0 subtype payload ≡ Err (fault_at refusal.Short (ephemeris_sf c) 13)
  unfolding read_l
  type-short good h k =
      let m : List ℕ = drop 13 (to_bits payload) in
      let w : ℕ = (sf (ephemeris_sf c)).width in
      let few : length m < w = omega (arith, length-drop 13 (to_bits payload), length-to_bits payload, type-width c) in
      first-fault refusal.Short good h (λ next. rw (lt-leb w (length m) few, type-number c))

  -- "Demand 2's set of valid records shrinks by these", and by no other: every other payload means what it meant before, refusals and their places included ..
  pub as_before : has_tbd c payload ≡ false → judging 0 subtype payload ≡ judging_with payload (present (as_sent c)) (bad_length (length payload))
  unfolding bits.field
  as_before e = go (bad_length (length payload)) (leb (13 + type_bits c) (8 * length payload)) (is_tbd c (type_of c payload)) refl refl refl e
    where
      g : Field
      g = free (ephemeris_sf c) (type_bits c)

      same : ((next : ℕ → Layout Message) → read_l (field (sf (ephemeris_sf c)) next) (drop 13 (to_bits payload)) ≡ read_l (field g next) (drop 13 (to_bits payload)))
          → judging 0 subtype payload ≡ judging_with payload (present (as_sent c)) (bad_length (length payload))
      same h =
          judging-with 0 subtype payload (ocb-known subtype c known) refl
          ∙ ap (λ o. stop (bad_length (length payload)) (refused (nowhere refusal.Length)) o) (head-same (to_bits payload) (sf (ephemeris_sf c)) g c h)

      go : (x y z : Bool) → bad_length (length payload) ≡ x → leb (13 + type_bits c) (8 * length payload) ≡ y → is_tbd c (type_of c payload) ≡ z → (not x && (y && z)) ≡ false
          → judging 0 subtype payload ≡ judging_with payload (present (as_sent c)) (bad_length (length payload))
      go true y z p q r e =
          judging-with 0 subtype payload (ocb-known subtype c known) p ∙ sym (ap (judging_with payload (present (as_sent c))) p)
      go false false z p q r e =
          let few : 8 * length payload < 13 + type_bits c = leb-false (13 + type_bits c) (8 * length payload) q in
          let wide : 0 < type_bits c = type-some c in
          same (λ next. same-short (sf (ephemeris_sf c)) g next (drop 13 (to_bits payload)) (type-number c) (type-width c)
          (omega (arith, length-drop 13 (to_bits payload), length-to_bits payload)))
      go false true false p q r e =
          same (λ next. same_here (sf (ephemeris_sf c)) g next (drop 13 (to_bits payload)) (type-number c) (type-width c) (others-judged c _ r))
      go false true true p q r e = absurd (true≢false e)

  -- .. and no payload that has one of them is accepted.
  pub accepted-means : {used entries : ℕ} → sheet.judged 0 subtype payload ≡ Ok (record { bits = used; entries = entries }) → is_tbd c (type_of c payload) ≡ false
  unfolding sheet.judged bits.field
  accepted-means {used} {entries} e = go (bad_length (length payload)) (is_tbd c (type_of c payload)) refl refl
    where
      taken : (o : Outcome Message) → read_l (ocb_layout c) (to_bits payload) ≡ o → read_answer_by o ≡ Ok (record { bits = used; entries = entries })
          → judge (sf (ephemeris_sf c)) (number (take (sf (ephemeris_sf c)).width (drop 13 (to_bits payload)))) ≡ Ok tt
      taken (accepted m cs n) q e = head-taken (to_bits payload) c q
      taken (refused why) q e = let z : ◌≡◌ {A = ℕ} 0 1 = cc in absurd (omega arith)

      go : (b t : Bool) → bad_length (length payload) ≡ b → is_tbd c (type_of c payload) ≡ t → t ≡ false
      go b false q r = refl
      go true true q r =
          let e' : ◌≡◌ {A = ReadAnswer} (Err (nowhere refusal.Length)) (Ok (record { bits = used; entries = entries })) = sym (ap read_answer_by (judging-with 0 subtype payload (ocb-known subtype c known) q)) ∙ e in
          let z : ◌≡◌ {A = ℕ} 0 1 = cc in absurd (omega arith)
      go false true q r =
          let m : List ℕ = drop 13 (to_bits payload) in
          let w : ℕ = (sf (ephemeris_sf c)).width in
          let t = taken (read_l (ocb_layout c) (to_bits payload)) refl (sym (ap read_answer_by (judging-with 0 subtype payload (ocb-known subtype c known) q)) ∙ e) in
          let j = tbd-judged c (number (take w m)) (ap (λ (x : ℕ). is_tbd c (number (take x m))) (type-width c) ∙ r) in
          let x : Err refusal.Field ≡ Ok tt = sym j ∙ t in
          let z : ◌≡◌ {A = ℕ} 0 1 = cc in absurd (omega arith)

-- ---- writing

-- the six entries that such a sheet begins with
six : (entries : List ℕ) → 5 < length entries
    → entries ≡ get_or entries 0 0 ∷ get_or entries 1 0 ∷ get_or entries 2 0 ∷ get_or entries 3 0 ∷ get_or entries 4 0 ∷ get_or entries 5 0 ∷ drop 6 entries
six entries h =
    drop-cons entries 0 0 (omega arith)
    ∙ ap (λ x. get_or entries 0 0 ∷ x) (drop-cons entries 1 0 (omega arith)
    ∙ ap (λ x. get_or entries 1 0 ∷ x) (drop-cons entries 2 0 (omega arith)
    ∙ ap (λ x. get_or entries 2 0 ∷ x) (drop-cons entries 3 0 (omega arith)
    ∙ ap (λ x. get_or entries 3 0 ∷ x) (drop-cons entries 4 0 (omega arith)
    ∙ ap (λ x. get_or entries 4 0 ∷ x) (drop-cons entries 5 0 h)))))

zero-meant : (c : Constellation) → is_tbd c 0 ≡ false
zero-meant Gps = refl
zero-meant Glonass = refl
zero-meant Galileo = refl
zero-meant BeiDou = refl
zero-meant Qzss = refl

-- a sheet that ends before has no type
type-there : (c : Constellation) (entries : List ℕ) → is_tbd c (get_or entries 5 0) ≡ true → 5 < length entries
type-there c entries e = go (ltb 5 (length entries)) refl
  where
    go : (b : Bool) → ltb 5 (length entries) ≡ b → 5 < length entries
    go true p = ltb-true 5 (length entries) p
    go false p =
        let none : get_or entries 5 0 ≡ 0 = get_or-eq_default entries 0 (ltb-false 5 (length entries) p) in
        absurd (true≢false (sym e ∙ ap (is_tbd c) none ∙ zero-meant c))

-- what the entries before the type say
record Head (c : Constellation) (entries : List ℕ) : Type 0 where
  siou : get_or entries 0 0 < 512
  end_of_set : get_or entries 1 0 < 2
  reserved : get_or entries 2 0 < 2
  yaw_present : get_or entries 3 0 < 2
  datum : get_or entries 4 0 < 2
  type : is_tbd c (get_or entries 5 0) ≡ true

head_of : (c : Constellation) (entries : List ℕ) → has_tbd_in c entries ≡ true → Head c entries
head_of c entries e =
    let a = both (ltb (get_or entries 0 0) 512) _ e in
    let b = both (ltb (get_or entries 1 0) 2) _ a.1 in
    let d = both (ltb (get_or entries 2 0) 2) _ b.1 in
    let f = both (ltb (get_or entries 3 0) 2) _ d.1 in
    let g = both (ltb (get_or entries 4 0) 2) _ f.1 in
    record {
      siou = ltb-true (get_or entries 0 0) 512 a.0;
      end_of_set = ltb-true (get_or entries 1 0) 2 b.0;
      reserved = ltb-true (get_or entries 2 0) 2 d.0;
      yaw_present = ltb-true (get_or entries 3 0) 2 f.0;
      datum = ltb-true (get_or entries 4 0) 2 g.0;
      type = g.1;
    }

module _ (subtype : ℕ) (c : Constellation) (known : constellation_of subtype ≡ present c) where
  stops-at-type : (siou end_of_set reserved yaw_present datum : ℕ) (rest : List ℕ) (why : Refusal) → siou < 512 → end_of_set < 2 → reserved < 2 → yaw_present < 2 → datum < 2
      → WriteCause (sf (ephemeris_sf c)) rest why
      → judged_sheet 0 subtype (siou ∷ end_of_set ∷ reserved ∷ yaw_present ∷ datum ∷ rest) ≡ Err (fault_at why (ephemeris_sf c) 5)
  unfolding sf line_of find table
  stops-at-type siou end_of_set reserved yaw_present datum rest why h1 h2 h3 h4 h5 cause =
      stops-judged-sheet 0 subtype (siou ∷ end_of_set ∷ reserved ∷ yaw_present ∷ datum ∷ rest) (ocb_layout c) (fault_at why (ephemeris_sf c) 5) (ocb-known subtype c known)
      (entry (sf (ephemeris_sf c)) _ (siou ∷ end_of_set ∷ reserved ∷ yaw_present ∷ datum ∷ []) _ rest
      (one siou (taken-full siou (full refl) h1) h1
      (one end_of_set (taken-full end_of_set (full refl) h2) h2
      (one reserved (taken-full reserved (full refl) h3) h3
      (one yaw_present (taken-full yaw_present (full refl) h4) h4
      (one datum (taken-full datum (full refl) h5) h5 none)))))
      refl cause refl)

  -- FIELD at entry 5, whatever comes behind it.
  pub tbd-refused-sheet : (entries : List ℕ) → has_tbd_in c entries ≡ true → judged_sheet 0 subtype entries ≡ Err (fault_at refusal.Field (ephemeris_sf c) 5)
  tbd-refused-sheet entries e =
      let h : Head c entries = head_of c entries e in
      ap (judged_sheet 0 subtype) (six entries (type-there c entries h.type))
      ∙ stops-at-type (get_or entries 0 0) (get_or entries 1 0) (get_or entries 2 0) (get_or entries 3 0) (get_or entries 4 0) (get_or entries 5 0 ∷ drop 6 entries) refusal.Field
      h.siou h.end_of_set h.reserved h.yaw_present h.datum (fault (tbd-judged c (get_or entries 5 0) h.type))

  -- `write` answers so too, where there is room for a payload.
  pub tbd-unwritten : (entries out : List ℕ) → longest_payload ≤ length out → has_tbd_in c entries ≡ true
      → write_answer 0 subtype entries out ≡ Err (fault_at refusal.Field (ephemeris_sf c) 5)
  tbd-unwritten entries out room e = sym (judges-as-written 0 subtype entries out room) ∙ tbd-refused-sheet entries e

  -- SHORT there, if the sheet ends in front of it.
  pub type-missing : (siou end_of_set reserved yaw_present datum : ℕ) → siou < 512 → end_of_set < 2 → reserved < 2 → yaw_present < 2 → datum < 2
      → judged_sheet 0 subtype (siou ∷ end_of_set ∷ reserved ∷ yaw_present ∷ datum ∷ []) ≡ Err (fault_at refusal.Short (ephemeris_sf c) 5)
  type-missing siou end_of_set reserved yaw_present datum h1 h2 h3 h4 h5 = stops-at-type siou end_of_set reserved yaw_present datum [] refusal.Short h1 h2 h3 h4 h5 ended

  -- Every other sheet is written, or refused, as before ..
  pub as-before-sheet : (entries : List ℕ) → has_tbd_in c entries ≡ false → judging_sheet 0 subtype entries ≡ judging_sheet_with entries (present (as_sent c))
  unfolding sf line_of find table
  as-before-sheet entries e =
      judging-sheet-with 0 subtype entries (ocb-known subtype c known)
      ∙ ap then_length
      (same_after (sf 5) _ _ entries 0 (λ h1.
      same_after (sf 10) _ _ entries 1 (λ h2.
      same_after (sf 69) _ _ entries 2 (λ h3.
      same_after (sf 8) _ _ entries 3 (λ h4.
      same_after (sf 9) _ _ entries 4 (λ h5. last h1 h2 h3 h4 h5 _ (is_tbd c (get_or entries 5 0)) refl))))))
    where
      g : Field
      g = free (ephemeris_sf c) (type_bits c)

      last : get_or entries 0 0 < 512 → get_or entries 1 0 < 2 → get_or entries 2 0 < 2 → get_or entries 3 0 < 2 → get_or entries 4 0 < 2
          → (next : ℕ → Layout Message) (z : Bool) → is_tbd c (get_or entries 5 0) ≡ z
          → write_l (field (sf (ephemeris_sf c)) next) (drop 5 entries) ≡ write_l (field g next) (drop 5 entries)
      last h1 h2 h3 h4 h5 next false r =
          same-entry (sf (ephemeris_sf c)) g next (drop 5 entries) (type-number c) (type-width c) (others-judged c _ (ap (is_tbd c) (get_or-drop 5 entries 0 0) ∙ r))
      last h1 h2 h3 h4 h5 next true r =
          let t : has_tbd_in c entries ≡ true
          = rw (lt-ltb (get_or entries 0 0) 512 h1, lt-ltb (get_or entries 1 0) 2 h2, lt-ltb (get_or entries 2 0) 2 h3, lt-ltb (get_or entries 3 0) 2 h4, lt-ltb (get_or entries 4 0) 2 h5, r) refl in
          absurd (true≢false (sym t ∙ e))

  -- .. and no sheet that has one of them is written.
  pub written-means : (entries out : List ℕ) {used bytes : ℕ} → write_answer 0 subtype entries out ≡ Ok (record { bits = used; bytes = bytes }) → is_tbd c (get_or entries 5 0) ≡ false
  unfolding Holds
  written-means entries out {used} {bytes} e = go (is_tbd c (get_or entries 5 0)) refl
    where
      w : Writable 0 subtype entries out
      w = written-writable 0 subtype entries out used bytes e

      holds : Holds (ocb_layout c) entries 0
      holds =
          let layouts : present w.layout ≡ present (ocb_layout c) = sym w.type-known ∙ ocb-known subtype c known in
          let layout : w.layout ≡ ocb_layout c = cc in
          subst (λ l. Holds l entries 0) layout w.holds

      taken : judge (sf (ephemeris_sf c)) (get_or entries 5 0) ≡ Ok tt
      taken = holds.2.2.2.2.2.1

      go : (t : Bool) → is_tbd c (get_or entries 5 0) ≡ t → t ≡ false
      go false r = refl
      go true r =
          let x : Err refusal.Field ≡ Ok tt = sym (tbd-judged c (get_or entries 5 0) r) ∙ taken in
          let z : ◌≡◌ {A = ℕ} 0 1 = cc in absurd (omega arith)
