-- The turns and the ends of a pass over a payload, and of the whole reading, over plain variables: what the proofs of `read` and its parts cite.
use Rattle.std.specs.Prelude.{Ok, Err, Some, None}
use mathlib.Core.Path.{◌≡◌, refl, ap, ap₂, sym, ◌∙◌, subst}
use mathlib.Core.Bool.{Bool, true, false}
use mathlib.Core.List.{List, []}
use Prim.Native.Nat.{ℕ, ◌+◌, ◌-◌, ◌*◌, ◌≤◌, ◌<◌}
use native.Mathlib.Omega.{arith}
use native.Mathlib.Nat.{zero-add}
use lib.Dec.{eqb, ltb}
use lib.ListN.{length, take, drop, length-drop}
use lib.Seq.{sets, sets-eq, drop-drop}
use borrow.Author.Tests.{lt-ltb, le-ltb, eq-eqb, ne_eqb}
use Rattle.sizes.specs.Sizes.{longest_payload, sheet_room}
use Rattle.answer.specs.declared.Refusal.{Refusal}
use Rattle.answer.specs.declared.Refusal.TheVariants as refusal
use Rattle.answer.specs.declared.Fault as answer
use Rattle.answer.specs.Place.{nowhere, fault_at, further}
use Rattle.answer.specs.Further.{further-none}
use Rattle.bits.specs.Bits.{to_bits, number, field, got}
use Rattle.bits.specs.Laws.{got-there, length-to_bits, bits-to_bits}
use Rattle.layout.specs.declared.Field.{Field}
use Rattle.layout.specs.Results.{Verdict}
use Rattle.layout.specs.Layout.{Layout, pick, judge, Outcome, accepted, refused, read_l}
use Rattle.layout.specs.Parts.{Part, absent, present}
use Rattle.layout.specs.Run.{finished, stopped, ended_of, run_l, run-reads, On, run-done, run_short, run-fault, run_on}
use Rattle.layout.specs.Walks.{Walks, ends, goes}
use Rattle.layout.specs.Acceptance.{codes-few}
use Rattle.layout.specs.RoundTrip.{write_read}
use Rattle.codes.specs.declared.Constellation.{Constellation}
use Rattle.codes.specs.declared.Constellation.TheVariants.{Gps, Glonass, Galileo, BeiDou, Qzss}
use Rattle.message.specs.declared.State.{State}
use Rattle.message.specs.Results.{Start}
use Rattle.message.specs.Machine.{field_of, step_of, start_of, hpac_start, Starts, known, unknown, starts}
use Rattle.message.specs.Results.{Subtype}
use Rattle.message.specs.Messages.{Message, hpac_layout, constellation_of, constellation_for, by_constellation, layout_for}
use Rattle.quick.specs.declared.Extent.{Extent}
use Rattle.quick.specs.Results.{Quick}
use Rattle.quick.specs.Quick.{quick_of, quick-reads}
use Rattle.sheet.specs.Sheet.{bad_length, judging, judged, reading, read_answer_by, sheet_by, read_answer, sheet_after}
use Rattle.sheet.specs.Laws.{good-some, judging-with, reading-with}
use Rattle.sheet.specs.Passes.{ForLayout, ended_by, ReadPass, ReadJudged, is_known_start, StartedPass, StartedJudged, Fills, Filled}
use Rattle.sheet.specs.Stores.{Finishes}
use Rattle.sheet.specs.StoresHpac.{HpacStored}
use Rattle.sheet.specs.Results.{ReadAnswer}
use Rattle.sheet.specs.Results.{Pass}

-- ---- a pass

-- a field of a message has 64 bits at most
pub walks-word : {s : State} {l : Layout Message} → Walks field_of step_of s l → 0 < (field_of s).width → (field_of s).width ≤ 64
walks-word (ends e) z = absurd (omega arith)
walks-word (goes e i rest) z = omega (arith, i.word, ap (λ (x : Field). x.width) e)

-- at the loop's head: the rest of the message is read from here as the whole was to be from the start
pub record Turn (payload : List ℕ) (total : ℕ) (s₀ s : State) (pos at : ℕ) : Type 0 where
  pub whole : total ≡ length payload * 8
  pub inside : pos ≤ total
  pub few : at ≤ pos
  pub on : ForLayout s₀ (λ l. On field_of step_of s (run_l l (to_bits payload) 0 0 [])
      (λ (next : Layout Message). run_l next (drop pos (to_bits payload)) pos at []))

pub turn-first : (payload : List ℕ) (s : State) → Turn payload (length payload * 8) s s 0 0
turn-first payload s =
    record {
      whole = refl;
      inside = omega arith;
      few = omega arith;
      on = λ l w. record { left = l; walks = w; same = refl };
    }

module _ {payload : List ℕ} {total : ℕ} {s₀ s : State} {pos at : ℕ} (t : Turn payload total s₀ s pos at) (f : Field)
    (e : f ≡ field_of s) where
  rest-length : length (drop pos (to_bits payload)) ≡ total - pos
  rest-length = omega (arith, length-drop pos (to_bits payload), length-to_bits payload, t.whole)

  width_is : (field_of s).width ≡ f.width
  width_is = ap (λ (x : Field). x.width) (sym e)

  pub turn-done : f.width ≡ 0 → ReadPass payload s₀ (Ok (record { entries = at; bits = pos }))
  turn-done z =
      record {
        ends = λ l w. let o = t.on l w in sym (o.same ∙ run-done (drop pos (to_bits payload)) pos at [] o.walks (width_is ∙ z));
      }

  short-here : (f.width ≡ 0 → ⊥) → total - pos < f.width → ReadPass payload s₀ (Err (fault_at refusal.Short f.sf pos))
  short-here z h =
      let d : (field_of s).width ≡ f.width = width_is in
      let k : length (drop pos (to_bits payload)) ≡ total - pos = rest-length in
      record {
        ends = λ l w. let o = t.on l w in
            sym (o.same ∙ run_short (drop pos (to_bits payload)) pos at [] o.walks (omega arith) (omega arith)
            ∙ ap (λ (x : Field). stopped (fault_at refusal.Short x.sf pos)) (sym e));
      }

  pub turn-short : (r : Pass) → (f.width ≡ 0 → ⊥) → total - pos < f.width → r ≡ Err (fault_at refusal.Short f.sf pos) → ReadPass payload s₀ r
  turn-short r z h i = subst (λ x. ReadPass payload s₀ x) (sym i) (short-here z h)

  module _ (z : f.width ≡ 0 → ⊥) (h : f.width ≤ total - pos) (code : ℕ) (g : code ≡ got payload pos f.width) (v : Verdict) (j : v ≡ judge f code) where
    code_is : (field_of s).width ≤ 64 → code ≡ number (take (field_of s).width (drop pos (to_bits payload)))
    unfolding field
    code_is m =
        let d : (field_of s).width ≡ f.width = width_is in
        g ∙ got-there payload pos f.width (omega arith) (omega (arith, t.whole, t.inside))
        ∙ ap (λ (w : ℕ). number (take w (drop pos (to_bits payload)))) (sym d)

    verdict-is : judge (field_of s) code ≡ v
    verdict-is = ap (λ (x : Field). judge x code) (sym e) ∙ sym j

    fault-here : (why : Refusal) → v ≡ Err why → ReadPass payload s₀ (Err (fault_at why f.sf pos))
    fault-here why q =
        let d : (field_of s).width ≡ f.width = width_is in
        let k : length (drop pos (to_bits payload)) ≡ total - pos = rest-length in
        record {
          ends = λ l w. let o = t.on l w in
              let n : 0 < (field_of s).width = omega arith in
              sym (o.same ∙ run-fault (drop pos (to_bits payload)) pos at [] code why o.walks n (omega arith) (code_is (walks-word o.walks n)) (verdict-is ∙ q)
              ∙ ap (λ (x : Field). stopped (fault_at why x.sf pos)) (sym e));
        }

    pub turn-fault : (r : Pass) (why : Refusal) → v ≡ Err why → r ≡ Err (fault_at why f.sf pos) → ReadPass payload s₀ r
    turn-fault r why q i = subst (λ x. ReadPass payload s₀ x) (sym i) (fault-here why q)

    pub turn-again : (s' : State) → v ≡ Ok tt → s' ≡ step_of s code → Turn payload total s₀ s' (pos + f.width) (at + 1)
    turn-again s' q stepped =
        let d : (field_of s).width ≡ f.width = width_is in
        let k : length (drop pos (to_bits payload)) ≡ total - pos = rest-length in
        record {
          whole = t.whole;
          inside = omega (arith, t.inside);
          few = omega (arith, t.few);
          on = λ l w. let o = t.on l w in
              let n : 0 < (field_of s).width = omega arith in
              let r = run_on (drop pos (to_bits payload)) pos at [] code o.walks n (omega arith) (code_is (walks-word o.walks n)) (verdict-is ∙ q) in
              record {
                left = r.left;
                walks = subst (λ x. Walks field_of step_of x r.left) (sym stepped) r.walks;
                same = o.same ∙ r.same
                    ∙ ap (λ x. run_l r.left x (pos + (field_of s).width) (at + 1) []) (drop-drop (field_of s).width pos (to_bits payload))
                    ∙ ap (λ (x : ℕ). run_l r.left (drop (pos + x) (to_bits payload)) (pos + x) (at + 1) []) d;
              };
        }

-- ---- what a pass says

-- what a pass says is the answer
judged-fault : (o : Outcome Message) (why : answer.Fault) → stopped why ≡ ended_of o 0 0 [] → Err why ≡ read_answer_by o
judged-fault (accepted v cs n) why e = let z : ◌≡◌ {A = ℕ} 0 1 = cc in absurd (omega arith)
judged-fault (refused why') why e = let q : why ≡ further 0 why' = cc in ap Err (q ∙ further-none why')

judged-whole : (o : Outcome Message) (entries bits : ℕ) → finished entries bits [] ≡ ended_of o 0 0 [] → Ok (record { bits = bits; entries = entries }) ≡ read_answer_by o
judged-whole (accepted v cs n) entries bits e =
    let a : entries ≡ 0 + length cs = cc in
    let b : bits ≡ 0 + n = cc in
    ap₂ (λ x y. Ok (record { bits = x; entries = y })) (b ∙ zero-add n) (a ∙ zero-add (length cs))
judged-whole (refused why) entries bits e = let z : ◌≡◌ {A = ℕ} 0 1 = cc in absurd (omega arith)

module _ {payload : List ℕ} {start : State} (pass : Pass) (p : ReadPass payload start pass) where
  come : (l : Layout Message) → Walks field_of step_of start l → ended_by pass ≡ ended_of (read_l l (to_bits payload)) 0 0 []
  come l w = p.ends l w ∙ run-reads l (to_bits payload) 0 0 []

  fault-judged : (why : answer.Fault) → pass ≡ Err why → ReadJudged payload start (Err why)
  fault-judged why e = record { answers = λ l w. judged-fault (read_l l (to_bits payload)) why (ap ended_by (sym e) ∙ come l w) }

  whole-judged : (entries bits : ℕ) → pass ≡ Ok (record { entries = entries; bits = bits }) → ReadJudged payload start (Ok (record { bits = bits; entries = entries }))
  whole-judged entries bits e = record { answers = λ l w. judged-whole (read_l l (to_bits payload)) entries bits (ap ended_by (sym e) ∙ come l w) }

-- ---- from the start of a type and subtype

module _ (kind subtype : ℕ) (payload : List ℕ) (x : Start) (e : x ≡ start_of kind subtype) (pass : Pass) where
  pub pass-known : (s : State) → x ≡ Some s → ReadPass payload s pass → StartedPass kind subtype payload pass
  pass-known s q p =
      record {
        from = λ start k.
            let both : Some s ≡ Some start = sym q ∙ e ∙ k in
            let same : s ≡ start = cc both in
            subst (λ y. ReadPass payload y pass) same p;
      }

  pub pass-unknown : x ≡ None → StartedPass kind subtype payload pass
  pass-unknown q =
      record {
        from = λ start k.
            let both : None ≡ Some start = sym q ∙ e ∙ k in
            let z : ◌≡◌ {A = ℕ} 0 1 = cc in absurd (omega arith);
      }

module _ {kind subtype : ℕ} {payload : List ℕ} (pass : Pass) (p : StartedPass kind subtype payload pass) where
  pub pass-fault : (why : answer.Fault) → pass ≡ Err why → StartedJudged kind subtype payload (Err why)
  pass-fault why e = record { from = λ start k. fault-judged pass (p.from start k) why e }

  pub pass-whole : (entries bits : ℕ) → pass ≡ Ok (record { entries = entries; bits = bits }) → StartedJudged kind subtype payload (Ok (record { bits = bits; entries = entries }))
  pass-whole entries bits e = record { from = λ start k. whole-judged pass (p.from start k) entries bits e }

  pub pass-judged : StartedJudged kind subtype payload pass
  pass-judged = go pass refl
    where
      go : (v : Pass) → pass ≡ v → StartedJudged kind subtype payload v
      go (Ok x) e = pass-whole x.entries x.bits e
      go (Err why) e = pass-fault why e

start-there : (x : Start) → is_known_start x ≡ true → (s : State) × (x ≡ Some s)
start-there (Some s) e = (s, refl)
start-there None e = let z : ◌≡◌ {A = ℕ} 0 1 = cc in absurd (omega arith)

-- a refusal leaves the sheet; a second pass stores the codes
refused-leaves : (o : Outcome Message) (why : answer.Fault) (sheet : List ℕ) → Err why ≡ read_answer_by o → sheet ≡ sheet_by o sheet
refused-leaves (accepted v cs n) why sheet e = let z : ◌≡◌ {A = ℕ} 0 1 = cc in absurd (omega arith)
refused-leaves (refused why') why sheet e = refl

-- a message that is accepted, stored from its layout
stored-leaves : (payload sheet sheet' : List ℕ) (start : State) (l : Layout Message) (o : Outcome Message) (bits entries : ℕ) → Walks field_of step_of start l
    → read_l l (to_bits payload) ≡ o → length payload ≤ longest_payload → sheet_room ≤ length sheet → Ok (record { bits = bits; entries = entries }) ≡ read_answer_by o
    → (Finishes (run_l l (to_bits payload) 0 0 sheet) → Fills (run_l l (to_bits payload) 0 0 sheet) sheet') → sheet' ≡ sheet_by o sheet
stored-leaves payload sheet sheet' start l (accepted v cs n) bits entries w e short room says fills =
    let run : run_l l (to_bits payload) 0 0 sheet ≡ finished (0 + length cs) (0 + n) (sets sheet 0 cs)
    = run-reads l (to_bits payload) 0 0 sheet ∙ ap (λ (x : Outcome Message). ended_of x 0 0 sheet) e in
    let f = fills (record { count = 0 + length cs; used = 0 + n; filled = sets sheet 0 cs; is = run }) in
    let same : finished f.count f.used sheet' ≡ finished (0 + length cs) (0 + n) (sets sheet 0 cs) = sym f.is ∙ run in
    let c : sheet' ≡ sets sheet 0 cs = cc same in
    let few : length cs ≤ n = codes-few w (to_bits payload) cs n e in
    let there : n ≤ length (to_bits payload) = (write_read l (to_bits payload) cs n (bits-to_bits payload) e).1 in
    c ∙ sets-eq cs sheet 0 (omega (arith, length-to_bits payload)) ∙ simp zero-add
stored-leaves payload sheet sheet' start l (refused why) bits entries w e short room says fills = let z : ◌≡◌ {A = ℕ} 0 1 = cc in absurd (omega arith)

-- ---- the calls' tests, in their order

pub bad-none : (bytes : ℕ) → bytes ≡ 0 → true ≡ bad_length bytes
bad-none bytes h = rw (eq-eqb bytes 0 h)

pub bad-long : (bytes : ℕ) → (bytes ≡ 0 → ⊥) → ltb longest_payload bytes ≡ bad_length bytes
bad-long bytes h = rw (ne_eqb bytes 0 h)

pub good_length : (bytes : ℕ) → bad_length bytes ≡ false → bytes ≤ longest_payload
good_length bytes e = (good-some bytes e).1

pub is-good : (bytes : ℕ) (b : Bool) → b ≡ bad_length bytes → b ≡ false → bad_length bytes ≡ false
is-good bytes b m n = sym m ∙ n

pub is_known : (kind subtype : ℕ) (x : Start) (start : State) → x ≡ start_of kind subtype → x ≡ Some start → is_known_start (start_of kind subtype) ≡ true
is_known kind subtype x start e q = ap is_known_start (sym e ∙ q)

-- where a message starts, its type and subtype have a layout that the machine walks
pub record Started (kind subtype : ℕ) (start : State) : Type 0 where
  pub layout : Layout Message
  pub here : layout_for kind subtype ≡ present layout
  pub walks : Walks field_of step_of start layout

started-by : (kind subtype : ℕ) (x : Start) (p : Part (Layout Message)) (start : State) → Starts x p → layout_for kind subtype ≡ p → x ≡ Some start
    → Started kind subtype start
started-by kind subtype (Some s) (present l) start (known w) e q =
    let same : s ≡ start = cc in
    record { layout = l; here = e; walks = subst (λ y. Walks field_of step_of y l) same w }
started-by kind subtype None absent start unknown e q = let z : ◌≡◌ {A = ℕ} 0 1 = cc in absurd (omega arith)
started-by kind subtype (Some s) absent start x7 e q = elim x7 [ ]
started-by kind subtype None (present l) start x8 e q = elim x8 [ ]

pub started : (kind subtype : ℕ) (x : Start) (start : State) → x ≡ start_of kind subtype → x ≡ Some start → Started kind subtype start
started kind subtype x start e q = started-by kind subtype (start_of kind subtype) (layout_for kind subtype) start (starts kind subtype) refl (sym e ∙ q)

none-by : (x : Start) (p : Part (Layout Message)) → Starts x p → x ≡ None → p ≡ absent
none-by (Some s) (present l) (known w) q = let z : ◌≡◌ {A = ℕ} 0 1 = cc in absurd (omega arith)
none-by None absent unknown q = refl
none-by (Some s) absent x5 q = elim x5 [ ]
none-by None (present l) x6 q = elim x6 [ ]

pub not-started : (kind subtype : ℕ) (x : Start) → x ≡ start_of kind subtype → x ≡ None → layout_for kind subtype ≡ absent
not-started kind subtype x e q = none-by (start_of kind subtype) (layout_for kind subtype) (starts kind subtype) (sym e ∙ q)

-- ---- `judge`

module _ (kind subtype : ℕ) (payload : List ℕ) where
  is-judged : (o : Outcome Message) → judging kind subtype payload ≡ o → read_answer_by o ≡ judged kind subtype payload
  unfolding judged
  is-judged o e = ap read_answer_by (sym e)

  pub judge-unknown : (x : Start) → x ≡ start_of kind subtype → x ≡ None → Err (nowhere refusal.UnknownType) ≡ judged kind subtype payload
  judge-unknown x e q = is-judged (refused (nowhere refusal.UnknownType)) (judging-with kind subtype payload (not-started kind subtype x e q) refl)

  pub judge-length : (x : Start) (start : State) → x ≡ start_of kind subtype → x ≡ Some start → (b : Bool) → b ≡ bad_length (length payload) → b ≡ true
      → Err (nowhere refusal.Length) ≡ judged kind subtype payload
  judge-length x start e q b m n = is-judged (refused (nowhere refusal.Length)) (judging-with kind subtype payload (started kind subtype x start e q).here (sym m ∙ n))

  module _ (there : is_known_start (start_of kind subtype) ≡ true) (good : bad_length (length payload) ≡ false) where
    -- where it starts, what the layout's reading says is the answer
    judge-by : (r : ReadAnswer)
        → ((start : State) → start_of kind subtype ≡ Some start → (l : Layout Message) → layout_for kind subtype ≡ present l → Walks field_of step_of start l
        → r ≡ read_answer_by (read_l l (to_bits payload)))
        → r ≡ judged kind subtype payload
    judge-by r f =
        let s = start-there (start_of kind subtype) there in
        let k = started kind subtype (start_of kind subtype) s.0 refl s.1 in
        f s.0 s.1 k.layout k.here k.walks ∙ is-judged (read_l k.layout (to_bits payload)) (judging-with kind subtype payload k.here good)

    pub judge-machine : (r : ReadAnswer) → StartedJudged kind subtype payload r → r ≡ judged kind subtype payload
    judge-machine r w = judge-by r (λ start q l here walks. (w.from start q).answers l walks)

    pub judge-quick : (x : Quick) (bits entries : ℕ) → x ≡ quick_of kind subtype payload → x ≡ Some (record { bits = bits; entries = entries }) → Ok (record { bits = bits; entries = entries }) ≡ judged kind subtype payload
    judge-quick x bits entries e r =
        judge-by (Ok (record { bits = bits; entries = entries })) (λ start q l here walks.
        judged-whole (read_l l (to_bits payload)) entries bits
        (sym (quick-reads kind subtype payload bits entries (sym e ∙ r) l here) ∙ run-reads l (to_bits payload) 0 0 []))

-- ---- `read`

-- what is answered, and the sheet afterwards
pub record Met (kind subtype : ℕ) (payload sheet : List ℕ) (r : ReadAnswer) (sheet' : List ℕ) : Type 0 where
  pub says : r ≡ read_answer kind subtype payload sheet
  pub leaves : sheet' ≡ sheet_after kind subtype payload sheet

pub both : {kind subtype : ℕ} {payload sheet : List ℕ} {r : ReadAnswer} {sheet' : List ℕ} → Met kind subtype payload sheet r sheet'
    → (r ≡ read_answer kind subtype payload sheet) × (sheet' ≡ sheet_after kind subtype payload sheet)
both m = (m.says, m.leaves)

module _ (kind subtype : ℕ) (payload sheet : List ℕ) where
  meets : (o : Outcome Message) → reading kind subtype payload sheet ≡ o → Met kind subtype payload sheet (read_answer_by o) (sheet_by o sheet)
  unfolding read_answer sheet_after
  meets o e = record { says = ap read_answer_by (sym e); leaves = ap (λ x. sheet_by x sheet) (sym e) }

  pub read-room : length sheet < sheet_room → Met kind subtype payload sheet (Err (nowhere refusal.Room)) sheet
  read-room h = meets (refused (nowhere refusal.Room)) (reading-with kind subtype payload sheet (lt-ltb (length sheet) sheet_room h) refl refl)

  module _ (room : sheet_room ≤ length sheet) where
    pub read-unknown : (x : Start) → x ≡ start_of kind subtype → x ≡ None → Met kind subtype payload sheet (Err (nowhere refusal.UnknownType)) sheet
    read-unknown x e q = meets (refused (nowhere refusal.UnknownType)) (reading-with kind subtype payload sheet (le-ltb (length sheet) sheet_room room) (not-started kind subtype x e q) refl)

    pub read_length : (x : Start) (start : State) → x ≡ start_of kind subtype → x ≡ Some start → (b : Bool) → b ≡ bad_length (length payload) → b ≡ true
        → Met kind subtype payload sheet (Err (nowhere refusal.Length)) sheet
    read_length x start e q b m n =
        meets (refused (nowhere refusal.Length)) (reading-with kind subtype payload sheet (le-ltb (length sheet) sheet_room room) (started kind subtype x start e q).here (sym m ∙ n))

    module _ (there : is_known_start (start_of kind subtype) ≡ true) (good : bad_length (length payload) ≡ false) (j : ReadAnswer) (is : j ≡ judged kind subtype payload) where
      -- what the layout's reading comes to, if the judgement is its answer
      meet : (r : ReadAnswer) (sheet' : List ℕ) → j ≡ r
          → ((start : State) (l : Layout Message) → layout_for kind subtype ≡ present l → Walks field_of step_of start l → r ≡ read_answer_by (read_l l (to_bits payload))
          → sheet' ≡ sheet_by (read_l l (to_bits payload)) sheet)
          → Met kind subtype payload sheet r sheet'
      meet r sheet' e f =
          let s = start-there (start_of kind subtype) there in
          let k = started kind subtype (start_of kind subtype) s.0 refl s.1 in
          let o : Outcome Message = read_l k.layout (to_bits payload) in
          let says : r ≡ read_answer_by o = sym e ∙ is ∙ sym (is-judged kind subtype payload o (judging-with kind subtype payload k.here good)) in
          let g = meets o (reading-with kind subtype payload sheet (le-ltb (length sheet) sheet_room room) k.here good) in
          record { says = says ∙ g.says; leaves = f s.0 k.layout k.here k.walks says ∙ g.leaves }

      pub read-refused : (why : answer.Fault) → j ≡ Err why → Met kind subtype payload sheet (Err why) sheet
      read-refused why e = meet (Err why) sheet e (λ start l here walks says. refused-leaves (read_l l (to_bits payload)) why sheet says)

      pub read-stored : (sheet' : List ℕ) (x : Extent) → j ≡ Ok x → Filled kind subtype payload sheet sheet' → Met kind subtype payload sheet (Ok x) sheet'
      read-stored sheet' x e p =
          meet (Ok x) sheet' e (λ start l here walks says.
          stored-leaves payload sheet sheet' start l (read_l l (to_bits payload)) x.bits x.entries walks refl (good_length (length payload) good) room says (p.fills l here))

-- ---- the codes of an accepted message

pub subtype-known : (subtype : ℕ) (c : Constellation) → constellation_for subtype ≡ Some c → constellation_of subtype ≡ present c
subtype-known subtype c = go (eqb subtype 0) (eqb subtype 1) (eqb subtype 2) (eqb subtype 3) (eqb subtype 4)
  where
    go : (a b d e f : Bool)
        → pick a (Some Gps) (pick b (Some Glonass) (pick d (Some Galileo) (pick e (Some BeiDou) (pick f (Some Qzss) None)))) ≡ Some c
        → pick a (present Gps) (pick b (present Glonass) (pick d (present Galileo) (pick e (present BeiDou) (pick f (present Qzss) absent)))) ≡ present c
    go true b d e f q = let same : Gps ≡ c = cc in ap present same
    go false true d e f q = let same : Glonass ≡ c = cc in ap present same
    go false false true e f q = let same : Galileo ≡ c = cc in ap present same
    go false false false true f q = let same : BeiDou ≡ c = cc in ap present same
    go false false false false true q = let same : Qzss ≡ c = cc in ap present same
    go false false false false false q = let z : ◌≡◌ {A = ℕ} 0 1 = cc in absurd (omega arith)

module _ {payload sheet sheet' : List ℕ} where
  -- a message stored by its layout
  pub filled-by : (kind subtype : ℕ) (layout : Layout Message) (count used : ℕ) → layout_for kind subtype ≡ present layout
      → (Finishes (run_l layout (to_bits payload) 0 0 sheet) → run_l layout (to_bits payload) 0 0 sheet ≡ finished count used sheet') → Filled kind subtype payload sheet sheet'
  filled-by kind subtype layout count used there is =
      record {
        fills = λ l here f.
            let both : present layout ≡ present l = sym there ∙ here in
            let same : layout ≡ l = cc both in
            let run : run_l layout (to_bits payload) 0 0 sheet ≡ run_l l (to_bits payload) 0 0 sheet = ap (λ (m : Layout Message). run_l m (to_bits payload) 0 0 sheet) same in
            record {
              count = count;
              used = used;
              is = sym run ∙ is (record { count = f.count; used = f.used; filled = f.filled; is = run ∙ f.is });
            };
      }

  -- a type and subtype without a layout
  pub filled_none : (kind subtype : ℕ) → layout_for kind subtype ≡ absent → Filled kind subtype payload sheet sheet'
  filled_none kind subtype none =
      record {
        fills = λ l here f.
            let both : absent ≡ present l = sym none ∙ here in
            let z : ◌≡◌ {A = ℕ} 0 1 = cc in absurd (omega arith);
      }

  -- one that a test says has a layout
  pub filled-only : (kind subtype : ℕ) (layout : Layout Message) (count used : ℕ) (b : Bool) → layout_for kind subtype ≡ pick b (present layout) absent
      → (Finishes (run_l layout (to_bits payload) 0 0 sheet) → run_l layout (to_bits payload) 0 0 sheet ≡ finished count used sheet') → Filled kind subtype payload sheet sheet'
  filled-only kind subtype layout count used true e is = filled-by kind subtype layout count used e is
  filled-only kind subtype layout count used false e is = filled_none kind subtype e

  pub filled-hpac : (subtype : ℕ) (x : Subtype) (c : Constellation) → x ≡ constellation_for subtype → x ≡ Some c → HpacStored c payload sheet sheet'
      → Filled 1 subtype payload sheet sheet'
  filled-hpac subtype x c e q p = filled-by 1 subtype (hpac_layout c) p.count p.used (ap (by_constellation hpac_layout) (subtype-known subtype c (sym e ∙ q))) p.is

  pub filled-no-hpac : (subtype : ℕ) (x : Subtype) → x ≡ constellation_for subtype → x ≡ None → Filled 1 subtype payload sheet sheet'
  filled-no-hpac subtype x e q =
      let none : start_of 1 subtype ≡ None = ap hpac_start (sym e ∙ q) in
      filled_none 1 subtype (not-started 1 subtype (start_of 1 subtype) refl none)

  pub filled-kind : (kind subtype n : ℕ) → kind ≡ n → Filled n subtype payload sheet sheet' → Filled kind subtype payload sheet sheet'
  filled-kind kind subtype n e p = subst (λ (x : ℕ). Filled x subtype payload sheet sheet') (sym e) p

  -- no other type has a layout
  pub filled-other : (kind subtype : ℕ) → (kind ≡ 0 → ⊥) → (kind ≡ 1 → ⊥) → (kind ≡ 2 → ⊥) → (kind ≡ 3 → ⊥) → Filled kind subtype payload sheet sheet'
  filled-other kind subtype a b c d = filled_none kind subtype (rw (ne_eqb kind 0 a, ne_eqb kind 1 b, ne_eqb kind 2 c, ne_eqb kind 3 d))
