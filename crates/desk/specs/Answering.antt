-- Laws, of every verdict: its log has room, a refusal is one by which a desk can answer, its areas are bytes, and its message was read. Proved; assumes nothing.
use Rattle.std.specs.Prelude.{◌≡◌, Bool, cond, not, ◌&&◌, ltb, get_or, drop, Option, Some, None}
use Rattle.std.proofs.Math.Path.{refl, ap, subst}
use Rattle.std.proofs.Common.{ap₂, sym, ◌∙◌, true≢false, length-drop}
use Rattle.std.proofs.Math.Bool.{true, false}
use mathlib.Core.List.{List, [], ◌∷◌, ◌++◌}
use Prim.Native.Nat.{ℕ, ◌+◌, ◌*◌, ◌≤◌}
use native.Mathlib.Omega.{arith}
use Rattle.std.proofs.Math.Dec.{eqb, lit≤}
use Rattle.std.proofs.Math.ListN.{length, length-append}
use borrow.Author.Tests.{not-false, eqb-true, eqb-false}
use Rattle.sizes.specs.Sizes.{most_areas, book_bytes, log_room}
use Rattle.answer.specs.Number.{number_of}
use Rattle.answer.specs.Stop.{stop}
use Rattle.answer.specs.Place.{nowhere}
use Rattle.answer.specs.declared.Fault as answer
use Rattle.answer.specs.declared.Place.{Place}
use Rattle.answer.specs.declared.Refusal.{Refusal}
use Rattle.answer.specs.declared.Refusal.TheVariants.{Preamble, FrameCrc, Length, MessageCrc}
use Rattle.answer.specs.declared.Refusal.TheVariants as refusal
use Rattle.bits.specs.Bits.{Bytes, to_bits}
use Rattle.bits.specs.Laws.{bytes-none, bytes-append, bytes_drop}
use Rattle.layout.specs.Layout.{done, read_l}
use Rattle.layout.specs.Layout as layout
use Rattle.codes.specs.Tables.{row_of}
use Rattle.codes.specs.declared.Constellation.{Constellation}
use Rattle.groups.specs.Groups.{groups_of_all}
use Rattle.groups.specs.Laws.{groups-all-append}
use Rattle.hpac.specs.Hpac.{Hpac, hpac}
use Rattle.message.specs.Messages.{Message, ocb_message, hpac_message, gad_message, bpac_message}
use Rattle.sheet.specs.Sheet.{bad_length, judging}
use Rattle.frame.specs.Fields.{preamble, tf003, tf015, payload_at, authenticated, frame_bytes}
use Rattle.frame.specs.Check.{checked, payload_in, want, bad_frame_crc, bad_message_crc}
use Rattle.frame.specs.declared.Frame.{Frame}
use Rattle.frame.specs.declared.Checked.{Checked}
use Rattle.frame.specs.declared.Checked.TheVariants as check
use Rattle.area.specs.Area.{sf031, area_off}
use Rattle.area.specs.Laws.{bytes-area}
use Rattle.book.specs.Book.{bytes_of_all, sound}
use Rattle.book.specs.Take as gads
use Rattle.book.specs.Payload.{gad-only}
use Rattle.book.specs.declared.Book.{Book}
use Rattle.book.specs.Results.{Found}
use Rattle.entrylog.specs.Log.{opened, log_of}
use Rattle.entrylog.specs.Bound.{always-enough}
use Rattle.entrylog.specs.Pass.{Reads}
use Rattle.desk.specs.Desk.{desk_sound}
use Rattle.desk.specs.Answers.{answers, answers_at}
use Rattle.desk.specs.Take.{Handed, Verdict, refused, defines, continues, opens, by_run, bad_tag, tag_of, by_book, by_message, by_payload, our_type, ours, is_sealed, by_header, by_frame, handling, lacks_room, verdict, copied, logged_by, log_by, said_by, leaving, leaving_by, frame_taken, number_of_said}
use Rattle.desk.specs.Carrying.{carried}
use Rattle.desk.specs.Payloads.{our-type, our-subtype, our-row, judging-hpac, short-of, hpac-refuses, gad-refuses}
use Rattle.desk.specs.Copied.{copied-sound}
use Rattle.desk.specs.Fits.{sound-live, sound-open, handling-sound, has_room, Ready}
use Rattle.desk.specs.declared.Desk.{Desk}
use Rattle.desk.specs.Results.{Run}

-- ---- the frame's own refusals

data Checks : Checked → Type 0 where
  good : {header : Frame} → Checks (check.Accepted header)
  short : {wanted : ℕ} → Checks (check.Short wanted)
  bad : {why : Refusal} → answers (nowhere why) ≡ true → Checks (check.Refused why)

frame-refuses : (s : List ℕ) → Checks (checked s)
unfolding checked
frame-refuses s =
    wants 1 _ (on (not (eqb (get_or s 0 0) preamble)) Preamble refl _ (wants 4 _ (on (bad_frame_crc s) FrameCrc refl _ (on (eqb (tf003 s) 0) Length refl _
    (wants (payload_at s) _ (on (authenticated s && ltb 4 (tf015 s)) Length refl _ (wants (frame_bytes s) _ (on (bad_message_crc s) MessageCrc refl _ good))))))))
  where
    on : (b : Bool) (why : Refusal) → answers (nowhere why) ≡ true → (rest : Checked) → Checks rest → Checks (stop b (check.Refused why) rest)
    on true why e rest h = bad e
    on false why e rest h = h

    wants : (n : ℕ) (rest : Checked) → Checks rest → Checks (want n s rest)
    wants n rest h = go (ltb (length s) n)
      where
        go : (b : Bool) → Checks (stop b (check.Short n) rest)
        go true = short
        go false = h

-- ---- those of a book

abbrev take_answers : gads.Outcome → Bool
take_answers (gads.taken l) = true
take_answers (gads.refused why) = answers why

block-refuses : (a : ℕ) (l : List ℕ) → take_answers (gads.take_block a l) ≡ true
unfolding gads.take_block
block-refuses a l = go (area_off a) (gads.lookup (sf031 a) l)
  where
    by : (b : Bool) (x y : gads.Outcome) → take_answers x ≡ true → take_answers y ≡ true → take_answers (cond b x y) ≡ true
    by true x y p q = p
    by false x y p q = q

    go : (b : Bool) (f : Found) → take_answers (stop b (gads.refused (nowhere refusal.AreaOff)) (gads.placed a l f)) ≡ true
    go true f = refl
    go false (Some b) = by (eqb a b) (gads.taken l) (gads.refused (nowhere refusal.Conflict)) refl refl
    go false None = by (ltb (length l) most_areas) (gads.taken (gads.insert a l)) (gads.refused (nowhere refusal.BookFull)) refl refl

all-refuses : (blocks l : List ℕ) → take_answers (gads.take_all blocks l) ≡ true
unfolding gads.take_all
all-refuses [] l = refl
all-refuses (a ∷ blocks) l = go (gads.take_block a l) (block-refuses a l) (λ l. all-refuses blocks l)
  where
    go : (o : gads.Outcome) → take_answers o ≡ true → ((l : List ℕ) → take_answers (gads.take_all blocks l) ≡ true) → take_answers (gads.and_then o (λ l. gads.take_all blocks l)) ≡ true
    go (gads.taken l) e h = h l
    go (gads.refused why) e h = e

outcome-refuses : (book : Book) (s payload : List ℕ) → take_answers (gads.outcome book s payload) ≡ true
unfolding gads.outcome
outcome-refuses book s payload =
    on (ltb (length s) book_bytes) (nowhere refusal.Room) refl _ (on (not (sound book s)) (nowhere refusal.State) refl _ (go (judging 2 0 payload) (gad-refuses payload)))
  where
    on : (b : Bool) (why : answer.Fault) → answers why ≡ true → (rest : gads.Outcome) → take_answers rest ≡ true → take_answers (stop b (gads.refused why) rest) ≡ true
    on true why e rest h = e
    on false why e rest h = h

    go : (o : layout.Outcome Message) → ((why : answer.Fault) → o ≡ layout.refused why → answers why ≡ true)
        → take_answers (gads.reading o (λ m. gads.take_all (gads.areas_of m.blocks) (gads.before book s m.aiou m.siou)) (λ why. gads.refused why)) ≡ true
    go (layout.accepted (gad_message body) codes bits) h = all-refuses (gads.areas_of body.blocks) (gads.before book s body.aiou body.siou)
    go (layout.accepted (ocb_message constellation body) codes bits) h = refl
    go (layout.accepted (hpac_message constellation body) codes bits) h = refl
    go (layout.accepted (bpac_message body) codes bits) h = refl
    go (layout.refused why) h = h why refl

-- ---- the desk's

abbrev pub verdict_answers : Verdict → Bool
verdict_answers (refused why) = answers why
verdict_answers (defines book bytes) = true
verdict_answers (continues book message) = true
verdict_answers (opens tag message) = true

-- a message that was read from a payload
pub record WasRead (constellation : Constellation) (message : Hpac) : Type 0 where
  pub payload : List ℕ
  pub codes : List ℕ
  pub used : ℕ
  pub reads : read_l (hpac constellation done) (to_bits payload) ≡ layout.accepted message codes used

-- what a verdict brings: a live book in bytes, if the one before was, or a message that was read
abbrev pub Brings : Constellation → (live : List ℕ) → Verdict → Type 0
Brings constellation live (refused why) = Unit {0}
Brings constellation live (defines book bytes) = Bytes live → Bytes bytes
Brings constellation live (continues book message) = WasRead constellation message
Brings constellation live (opens tag message) = WasRead constellation message

areas-bytes : (l : List ℕ) → Bytes (bytes_of_all l)
unfolding bytes_of_all
areas-bytes [] = bytes-none
areas-bytes (a ∷ l) = bytes-append (bytes-area a) (areas-bytes l)

module _ (desk : Desk) (live run : List ℕ) where
  pub record Answered (v : Verdict) : Type 0 where
    pub room : length (logged_by desk live run v) ≤ log_room
    pub refusal : verdict_answers v ≡ true
    pub brings : Brings desk.constellation live v

  not_taken : (why : answer.Fault) → answers why ≡ true → Answered (refused why)
  unfolding logged_by groups_of_all
  not_taken why e = record { room = lit≤ tt; refusal = e; brings = tt }

  defined : (book : Book) (bytes : List ℕ) → (Bytes live → Bytes bytes) → Answered (defines book bytes)
  unfolding logged_by groups_of_all
  defined book bytes h = record { room = lit≤ tt; refusal = refl; brings = h }

  stopped : (b : Bool) (why : answer.Fault) → answers why ≡ true → (rest : Verdict) → (b ≡ false → Answered rest) → Answered (stop b (refused why) rest)
  stopped true why e rest h = not_taken why e
  stopped false why e rest h = h refl

  module _ (ready : Ready desk live run) (header : Frame) (payload : List ℕ) where
    -- "4,096 bytes per frame, always enough"
    module _ (r : Reads desk.constellation payload) where
      was_read : WasRead desk.constellation r.message
      was_read = record { payload = payload; codes = r.codes; used = r.used; reads = r.reads }

      continued : (tag : ℕ) (book : Book) → desk.run ≡ Some (record { tag = tag; book = book }) → Answered (continues book r.message)
      unfolding logged_by
      continued tag book e =
          record {
            room = omega (
              arith,
              always-enough desk.constellation payload r.message r.codes r.used 0 book run r.short r.reads (omega arith)
                  (sound-open desk live run ready.state (record { tag = tag; book = book }) e),
            );
            refusal = refl;
            brings = was_read;
          }

      newly : Answered (opens (tag_of header) r.message)
      unfolding logged_by
      newly =
          let bytes : List ℕ = copied desk.book live run in
          let first : List ℕ = opened (tag_of header) desk.book in
          let rest : List ℕ = log_of desk.book bytes r.message in
          let n : length (groups_of_all (first ++ rest)) ≡ length (groups_of_all first) + length (groups_of_all rest)
          = ap length (groups-all-append first rest) ∙ length-append (groups_of_all first) (groups_of_all rest) in
          record {
            room = omega (
              arith,
              n,
              always-enough desk.constellation payload r.message r.codes r.used (tag_of header) desk.book bytes r.short r.reads (omega arith)
                  (copied-sound desk.book live run (sound-live desk live run ready.state) ready.room),
            );
            refusal = refl;
            brings = was_read;
          }

      by-run : (o : Run) → desk.run ≡ o → Answered (by_run o (tag_of header) r.message)
      by-run None e = newly
      by-run (Some p) e = go (eqb (tag_of header) p.tag)
        where
          go : (b : Bool) → Answered (cond b (continues p.book r.message) (opens (tag_of header) r.message))
          go true = continued p.tag p.book e
          go false = newly

    by-hpac : Answered (by_payload desk live header payload (judging 1 (row_of desk.constellation) payload))
    by-hpac =
        subst (λ o. Answered (by_payload desk live header payload o)) (sym (judging-hpac desk.constellation payload))
        (go (bad_length (length payload)) refl (read_l (hpac desk.constellation done) (to_bits payload)) refl)
      where
        go : (b : Bool) → bad_length (length payload) ≡ b → (o : layout.Outcome Hpac) → read_l (hpac desk.constellation done) (to_bits payload) ≡ o
            → Answered (by_payload desk live header payload (stop b (layout.refused (nowhere refusal.Length)) (carried (hpac_message desk.constellation) o)))
        go true q o e = not_taken (nowhere refusal.Length) refl
        go false q (layout.accepted message codes used) e =
            stopped (bad_tag header) (nowhere refusal.Tag) refl (by_run desk.run (tag_of header) message)
            (λ _. by-run (record { short = short-of (length payload) q; message = message; codes = codes; used = used; reads = e }) desk.run refl)
        go false q (layout.refused why) e = not_taken why (hpac-refuses desk.constellation payload why q e)

    by-gad : Answered (by_payload desk live header payload (judging 2 0 payload))
    by-gad = go (judging 2 0 payload) refl
      where
        taken : (o : gads.Outcome) (aiou siou : ℕ) → take_answers o ≡ true → Answered (by_book (gads.answer_of o aiou siou) (gads.left_by o live))
        taken (gads.taken l) aiou siou e = defined _ (bytes_of_all l ++ drop (6 * length l) live) (λ b. bytes-append (areas-bytes l) (bytes_drop (6 * length l) b))
        taken (gads.refused why) aiou siou e = not_taken why e

        go : (o : layout.Outcome Message) → judging 2 0 payload ≡ o → Answered (by_payload desk live header payload o)
        go (layout.accepted message codes bits) e =
            subst (λ m. Answered (by_message desk live header payload m)) (sym (gad-only payload message codes bits e).1)
            (taken (gads.outcome desk.book live payload) _ _ (outcome-refuses desk.book live payload))
        go (layout.refused why) e = not_taken why (gad-refuses payload why e)

    by-header : Answered (by_header desk live header payload)
    unfolding by_header
    by-header =
        stopped (not (ours desk header)) (nowhere refusal.NotOurs) refl _ (λ e.
        stopped (is_sealed header.seal) (nowhere refusal.Sealed) refl _ (λ f.
        go (eqb header.message_type 2) refl (our-type desk header (not-false (ours desk header) e))))
      where
        go : (b : Bool) → eqb header.message_type 2 ≡ b → our_type desk.constellation header.message_type header.subtype ≡ true
            → Answered (by_payload desk live header payload (judging header.message_type header.subtype payload))
        go true q o =
            let k : header.message_type ≡ 2 = eqb-true header.message_type 2 q in
            let s : header.subtype ≡ 0 = our-subtype desk.constellation header.message_type header.subtype o k in
            subst (λ x. Answered (by_payload desk live header payload x)) (sym (ap₂ (λ x y. judging x y payload) k s)) by-gad
        go false q o =
            let k = our-row desk.constellation header.message_type header.subtype o (eqb-false header.message_type 2 q) in
            subst (λ x. Answered (by_payload desk live header payload x)) (sym (ap₂ (λ x y. judging x y payload) k.0 k.1)) by-hpac

  by-frame : Ready desk live run → (frame : List ℕ) (c : Checked) → Checks c → Answered (by_frame desk live c frame)
  by-frame ready frame (check.Accepted header) good = by-header ready header (payload_in header frame)
  by-frame ready frame (check.Short wanted) short = not_taken (nowhere refusal.Short) refl
  by-frame ready frame (check.Refused why) (bad e) = not_taken (nowhere why) e

-- of the desk from which the verdict leaves what it leaves
module _ (desk : Desk) (second : ℕ) (live run : List ℕ) where
  abbrev AnsweredLeft : Verdict → Type 0
  AnsweredLeft v = Answered (leaving desk second v) live run v

  answered-left : (v : Verdict) → Answered (handling desk second) live run v → AnsweredLeft v
  unfolding logged_by
  answered-left (refused why) a = record { room = a.room; refusal = a.refusal; brings = a.brings }
  answered-left (defines book bytes) a = record { room = a.room; refusal = a.refusal; brings = a.brings }
  answered-left (continues book message) a = record { room = a.room; refusal = a.refusal; brings = a.brings }
  answered-left (opens tag message) a = record { room = a.room; refusal = a.refusal; brings = a.brings }

  stopped-left : (b : Bool) (why : answer.Fault) → answers why ≡ true → (rest : Verdict) → (b ≡ false → AnsweredLeft rest) → AnsweredLeft (stop b (refused why) rest)
  stopped-left true why e rest h = not_taken desk live run why e
  stopped-left false why e rest h = h refl

pub answered : (handed : Handed) → Answered (leaving_by handed) handed.live handed.run (verdict handed)
unfolding verdict
answered handed =
    let desk : Desk = handed.desk in
    let second : ℕ = handed.second in
    let live : List ℕ = handed.live in
    let run : List ℕ = handed.run in
    stopped-left desk second live run (lacks_room live run handed.log) (nowhere refusal.Room) refl _ (λ r.
    stopped-left desk second live run (not (desk_sound desk live run)) (nowhere refusal.State) refl _ (λ s.
    answered-left desk second live run _
    (by-frame (handling desk second) live run
    (record { state = handling-sound desk second live run (not-false (desk_sound desk live run) s); room = (has_room live run handed.log r).run_room })
    handed.frame (checked handed.frame) (frame-refuses handed.frame))))

-- ---- what that means for the log, and for the answer's number

-- a short buffer: nothing is written
short-log : (handed : Handed) → lacks_room handed.live handed.run handed.log ≡ true → log_by (leaving_by handed) handed.live handed.run handed.log (verdict handed) ≡ handed.log
unfolding verdict logged_by groups_of_all
short-log handed e = rw e

pub log-kept : (handed : Handed) → length (frame_taken handed).log ≡ length handed.log
unfolding frame_taken
log-kept handed = go (lacks_room handed.live handed.run handed.log) refl
  where
    l : List ℕ
    l = logged_by (leaving_by handed) handed.live handed.run (verdict handed)

    go : (b : Bool) → lacks_room handed.live handed.run handed.log ≡ b → length (l ++ drop (length l) handed.log) ≡ length handed.log
    go true e = ap length (short-log handed e)
    go false e =
        length-append l (drop (length l) handed.log)
        ∙ omega (arith, length-drop (length l) handed.log, (answered handed).room, (has_room handed.live handed.run handed.log e).log-room)

six-not : (place : (Option Place)) (why : Refusal) → answers_at place why ≡ true → number_of why ≡ 6 → ⊥
six-not place refusal.Short e n = omega arith
six-not place refusal.Preamble e n = omega arith
six-not place refusal.FrameCrc e n = omega arith
six-not place refusal.Length e n = omega arith
six-not place refusal.MessageCrc e n = omega arith
six-not None refusal.UnknownType e n = true≢false (sym e)
six-not (Some p) refusal.UnknownType e n = true≢false (sym e)
six-not place refusal.MaskEmpty e n = omega arith
six-not place refusal.Field e n = omega arith
six-not place refusal.Room e n = omega arith
six-not place refusal.Sealed e n = omega arith
six-not place refusal.Tag e n = omega arith
six-not place refusal.NotOurs e n = omega arith
six-not place refusal.AreaOff e n = omega arith
six-not place refusal.Conflict e n = omega arith
six-not place refusal.BookFull e n = omega arith
six-not place refusal.Leftover e n = omega arith
six-not place refusal.State e n = omega arith
six-not place refusal.Form e n = omega arith

pub number-six : (handed : Handed) → number_of_said (frame_taken handed).answer.said ≡ 6 → ⊥
unfolding frame_taken
number-six handed n = go (verdict handed) (answered handed).refusal n
  where
    go : (v : Verdict) → verdict_answers v ≡ true → number_of_said (said_by v (length (logged_by (leaving_by handed) handed.live handed.run (verdict handed)))) ≡ 6 → ⊥
    go (refused why) e n = six-not why.place why.refusal e n
    go (defines book bytes) e n = omega arith
    go (continues book message) e n = omega arith
    go (opens tag message) e n = omega arith
