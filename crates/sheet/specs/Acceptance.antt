-- Demand 2, acceptance: when the calls read and when they write, in the words of their contracts. So a reader or a writer that refuses more than it must meets
-- neither. Proved.
use Rattle.std.specs.Prelude.{◌≡◌, false, List, [], ◌++◌, ℕ, ◌*◌, ◌≤◌, ◌<◌, length, take, drop, Ok}
use Rattle.std.proofs.Common.{ap, sym, ◌∙◌, subst, arith, pos_of_ne-zero, le-ltb, take-append-drop, take_at}
use Rattle.sizes.specs.Sizes.{longest_payload, sheet_room}
use Rattle.answer.specs.Stop.{stop}
use Rattle.answer.specs.Place.{nowhere}
use Rattle.answer.specs.declared.Refusal.TheVariants as refusal
use Rattle.bits.specs.Bits.{to_bits}
use Rattle.bits.specs.Laws.{length-to_bits, bits-to_bits}
use Rattle.layout.specs.Layout.{Layout, refused, written, unwritten}
use Rattle.layout.specs.Parts.{Part, present}
use Rattle.layout.specs.Holds.{Holds, bits_from}
use Rattle.layout.specs.Reaches.{written-holds}
use Rattle.layout.specs.RoundTrip.{write_read, read-write}
use Rattle.layout.specs.Acceptance.{holds-written, codes-few, Begins, begins-read, read-begins}
use Rattle.layout.specs.Walks.{Walks}
use Rattle.message.specs.declared.State.{State}
use Rattle.message.specs.Results.{Start}
use Rattle.message.specs.Messages.{Message, layout_for}
use Rattle.message.specs.Machine.{field_of, step_of, Starts, known, unknown, starts}
use Rattle.sheet.specs.Sheet.{bad_length, judging, reading, read_answer_by, judged, read_answer, sheet_after}
use Rattle.sheet.specs.Sheet.{bytes_for, judging_sheet, writing, write_answer_by, judged_sheet, write_answer, out_after, fill_for}
use Rattle.sheet.specs.Laws.{good-some, some_good, has-bit, begins-for, WasRead, was_read, WasWritten, was-written, reads_so, writes-so}

-- ---- every layout is walked by the machine, so its fields are as every reader and writer wants them

pub record Walked (l : Layout Message) : Type 0 where
  pub from : State
  pub walks : Walks field_of step_of from l

walked_by : {x : Start} {p : Part (Layout Message)} → Starts x p → (l : Layout Message) → p ≡ present l → Walked l
walked_by (known {s = s} {l = m} w) l e = let same : m ≡ l = cc in subst Walked same (record { from = s; walks = w })
walked_by unknown l e = let z : ◌≡◌ {A = ℕ} 0 1 = cc in absurd (omega arith)

pub walked : (kind subtype : ℕ) (l : Layout Message) → layout_for kind subtype ≡ present l → Walked l
walked kind subtype l e = walked_by (starts kind subtype) l e

-- ---- writing

-- room, a payload of the twelve, and a sheet that holds its layout in at most 1,023 bytes
pub record Writable (kind subtype : ℕ) (sheet out : List ℕ) : Type 0 where
  pub room : longest_payload ≤ length out
  pub layout : Layout Message
  pub type-known : layout_for kind subtype ≡ present layout
  pub holds : Holds layout sheet 0
  pub fits : bits_from layout sheet 0 ≤ 8 * longest_payload

-- A sheet is written exactly when it is so, and the bits are those of its fields: it is written if it is so ..
pub writable-written : (kind subtype : ℕ) (sheet out : List ℕ) (w : Writable kind subtype sheet out)
    → write_answer kind subtype sheet out ≡ Ok (record { bits = bits_from w.layout sheet 0; bytes = bytes_for (bits_from w.layout sheet 0) })
writable-written kind subtype sheet out w =
    let m = holds-written (walked kind subtype w.layout w.type-known).walks sheet w.holds in
    let back = read-write w.layout sheet m.bits m.writes in
    let some : 0 < length m.bits
    = has-bit (layout_for kind subtype) (begins-for kind subtype) w.layout _ sheet (length m.bits) w.type-known (back.1 []) in
    let size : length m.bits ≡ bits_from w.layout sheet 0 = m.many in
    let few : length m.bits ≤ 8 * longest_payload = omega (arith, w.fits) in
    let good : bad_length (bytes_for (length m.bits)) ≡ false = some_good (bytes_for (length m.bits)) (λ z. omega arith) (omega arith) in
    (writes-so kind subtype sheet out w.layout m.bits w.type-known m.writes w.room good).0
    ∙ ap (λ (x : ℕ). Ok (record { bits = x; bytes = bytes_for x })) size

-- .. and if it is written it is so.
pub written-writable : (kind subtype : ℕ) (sheet out : List ℕ) (bits bytes : ℕ) → write_answer kind subtype sheet out ≡ Ok (record { bits = bits; bytes = bytes })
    → Writable kind subtype sheet out
written-writable kind subtype sheet out bits bytes e =
    let w : WasWritten kind subtype sheet out bits bytes = was-written kind subtype sheet out bits bytes e in
    let h : Holds w.layout sheet 0 = written-holds w.layout sheet w.text w.writes in
    let m = holds-written (walked kind subtype w.layout w.here).walks sheet h in
    let same : written m.bits ≡ written w.text = sym m.writes ∙ w.writes in
    let text : m.bits ≡ w.text = cc in
    let few : bytes ≤ longest_payload = (good-some bytes w.good).1 in
    record {
      room = w.room;
      layout = w.layout;
      type-known = w.here;
      holds = h;
      fits = omega (arith, m.many, ap length text, w.round);
    }

-- ---- reading

-- room, a payload of the twelve, 1 to 1,023 bytes, and a beginning of their bits that some sheet which holds the layout writes
pub record Readable (kind subtype : ℕ) (payload sheet : List ℕ) : Type 0 where
  pub room : sheet_room ≤ length sheet
  pub layout : Layout Message
  pub type-known : layout_for kind subtype ≡ present layout
  pub some : 1 ≤ length payload
  pub few : length payload ≤ longest_payload
  pub begins : Begins layout (to_bits payload)

-- A payload is accepted exactly when it is so, and the sheet is then the one that writes that beginning: it is accepted if it is so ..
pub readable-read : (kind subtype : ℕ) (payload sheet : List ℕ) (r : Readable kind subtype payload sheet)
    → (read_answer kind subtype payload sheet ≡ Ok (record { bits = length r.begins.said; entries = length r.begins.sheet }))
    × (sheet_after kind subtype payload sheet ≡ r.begins.sheet ++ drop (length r.begins.sheet) sheet)
readable-read kind subtype payload sheet r =
    reads_so kind subtype payload sheet r.layout _ r.begins.sheet (length r.begins.said) r.type-known
    (begins-read r.layout (to_bits payload) r.begins) r.room
    (some_good (length payload) (λ z. omega (arith, r.some)) r.few)

-- .. and if it is accepted it is so.
pub read-readable : (kind subtype : ℕ) (payload sheet : List ℕ) (bits entries : ℕ) → read_answer kind subtype payload sheet ≡ Ok (record { bits = bits; entries = entries })
    → Readable kind subtype payload sheet
read-readable kind subtype payload sheet bits entries e =
    let w : WasRead kind subtype payload sheet bits entries = was_read kind subtype payload sheet bits entries e in
    let g = good-some (length payload) w.good in
    record {
      room = w.room;
      layout = w.layout;
      type-known = w.here;
      some = pos_of_ne-zero g.0;
      few = g.1;
      begins = read-begins w.layout (to_bits payload) (bits-to_bits payload) w.codes bits w.reads;
    }

-- ---- what was written, with any further bits behind it

-- A payload of 1 to 1,023 bytes whose bits begin with those of a written message reads as the sheet that was written, whatever follows them.
pub written-then-more : (kind subtype : ℕ) (sheet out : List ℕ) (bits bytes : ℕ) → write_answer kind subtype sheet out ≡ Ok (record { bits = bits; bytes = bytes })
    → (payload back : List ℕ) → take bits (to_bits payload) ≡ take bits (out_after kind subtype sheet out) → 1 ≤ length payload → length payload ≤ longest_payload
    → sheet_room ≤ length back
    → (read_answer kind subtype payload back ≡ Ok (record { bits = bits; entries = length sheet }))
    × (sheet_after kind subtype payload back ≡ sheet ++ drop (length sheet) back)
written-then-more kind subtype sheet out bits bytes e payload back same some few room =
    let w : WasWritten kind subtype sheet out bits bytes = was-written kind subtype sheet out bits bytes e in
    let n : ℕ = length w.text in
    let text : take bits (to_bits payload) ≡ w.text
    = same ∙ ap (take bits) w.leaves ∙ take_at w.text (fill_for n ++ drop (8 * bytes_for n) (to_bits out)) bits (sym w.count) in
    let r = readable-read kind subtype payload back (record {
      room = room;
      layout = w.layout;
      type-known = w.here;
      some = some;
      few = few;
      begins = record {
        sheet = sheet;
        holds = written-holds w.layout sheet w.text w.writes;
        said = w.text;
        writes = w.writes;
        rest = drop bits (to_bits payload);
        begins = sym (take-append-drop bits (to_bits payload)) ∙ ap (λ x. x ++ drop bits (to_bits payload)) text;
      };
    }) in
    (r.0 ∙ ap (λ (x : ℕ). Ok (record { bits = x; entries = length sheet })) (sym w.count), r.1)

-- ---- the room of a sheet

-- A message has at most 8 entries a payload byte; so the 8,184 entries of a sheet are always enough.
pub entries-few : (kind subtype : ℕ) (payload sheet : List ℕ) (bits entries : ℕ) → read_answer kind subtype payload sheet ≡ Ok (record { bits = bits; entries = entries })
    → (entries ≤ 8 * length payload) × (entries ≤ sheet_room)
entries-few kind subtype payload sheet bits entries e =
    let w : WasRead kind subtype payload sheet bits entries = was_read kind subtype payload sheet bits entries e in
    let few : length w.codes ≤ bits = codes-few (walked kind subtype w.layout w.here).walks (to_bits payload) w.codes bits w.reads in
    let there : bits ≤ length (to_bits payload) = (write_read w.layout (to_bits payload) w.codes bits (bits-to_bits payload) w.reads).1 in
    let long : length payload ≤ longest_payload = (good-some (length payload) w.good).1 in
    (omega (arith, w.count, length-to_bits payload), omega (arith, w.count, length-to_bits payload))

-- ---- judging alone

-- `judge` answers as `read` does with room, and `judge_sheet` as `write` does with room: so all this is said of them too.
pub judges-as-read : (kind subtype : ℕ) (payload sheet : List ℕ) → sheet_room ≤ length sheet → judged kind subtype payload ≡ read_answer kind subtype payload sheet
unfolding judged read_answer reading
judges-as-read kind subtype payload sheet room =
    ap (λ b. read_answer_by (stop b (refused (nowhere refusal.Room)) (judging kind subtype payload))) (sym (le-ltb (length sheet) sheet_room room))

pub judges-as-written : (kind subtype : ℕ) (sheet out : List ℕ) → longest_payload ≤ length out → judged_sheet kind subtype sheet ≡ write_answer kind subtype sheet out
unfolding judged_sheet write_answer writing
judges-as-written kind subtype sheet out room =
    ap (λ b. write_answer_by (stop b (unwritten (nowhere refusal.Room)) (judging_sheet kind subtype sheet))) (sym (le-ltb (length out) longest_payload room))
