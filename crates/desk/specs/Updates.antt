-- Theorems (document 02, request 5, "One solution update per book"), over every history of frames and kept books, at whatever seconds: a block is placed only if the run's book has its message's
-- SIOU (`one-update`); a run opened on a book of unknown SIOU places no block (`unknown-places-none`); a book's SIOU is that of the GAD that began it, or of the kept or starting book, and
-- unknown where a gap emptied it (`siou-from`); the book of a run that is opened is the live book as it is then (`opened-siou`). Proved; assumes nothing.
use Rattle.std.specs.Prelude.{◌≡◌, Bool, cond, not, ◌&&◌, List, [], ◌∷◌, ℕ, ◌+◌, length, Some, None}
use Rattle.std.proofs.Math.Path.{refl, subst}
use Rattle.std.proofs.Common.{ap, ap₂, sym, ◌∙◌, arith}
use Rattle.std.proofs.Math.Bool.{true, false}
use Rattle.std.proofs.lemmas.Bool.{false≢true}
use Rattle.std.proofs.Math.Dec.{eqb}
use borrow.Author.Tests.{eqb-true, eqb-false, not-false}
use Rattle.answer.specs.Stop.{stop}
use Rattle.answer.specs.Place.{nowhere}
use Rattle.answer.specs.declared.Fault as answer
use Rattle.answer.specs.declared.Refusal.TheVariants as refusal
use Rattle.area.specs.Laws.{both_right}
use Rattle.bits.specs.Bits.{to_bits}
use Rattle.codes.specs.Tables.{row_of}
use Rattle.entries.specs.Entry.{joined, bytes_of}
use Rattle.frame.specs.Check.{checked, payload_in}
use Rattle.frame.specs.declared.Frame.{Frame}
use Rattle.frame.specs.declared.Checked.{Checked}
use Rattle.frame.specs.declared.Checked.TheVariants as check
use Rattle.gad.specs.Gad.{Gad}
use Rattle.hpac.specs.Hpac.{Hpac, hpac}
use Rattle.layout.specs.Layout as layout
use Rattle.layout.specs.Layout.{done, read_l}
use Rattle.layout.specs.Parts.{Part, absent, present}
use Rattle.message.specs.Messages.{Message, ocb_message, hpac_message, gad_message, bpac_message}
use Rattle.sheet.specs.Sheet.{bad_length, judging}
use Rattle.book.specs.Book.{no_book, sound}
use Rattle.book.specs.Take as gads
use Rattle.book.specs.Payload.{gad-only}
use Rattle.book.specs.declared.Book.{Book}
use Rattle.entrylog.specs.Updates.{PlacedIf, NonePlaced, none-placed, placed-if}
use Rattle.desk.specs.Desk.{desk_sound}
use Rattle.desk.specs.Take.{Verdict, refused, defines, continues, opens, by_run, bad_tag, tag_of, by_book, by_message, by_payload, our_type, ours, is_sealed, by_header, by_frame, is_gap, handling, lacks_room, verdict, copied, leaving, book_by, no_book_room, book_verdict}
use Rattle.desk.specs.Carrying.{carried}
use Rattle.desk.specs.Payloads.{our-type, our-subtype, our-row, judging-hpac}
use Rattle.desk.specs.History.{Held, Given, frame_with, kept_book, verdict_on, handled, after, Snapshot, opening_by, Course, onward, along, is_opening, KeptOn}
use Rattle.desk.specs.Entries.{entries_under, written_on}
use Rattle.desk.specs.Theorems.{always-kept}
use Rattle.desk.specs.Display.{written-under}
use Rattle.desk.specs.declared.Desk.{Desk}
use Rattle.desk.specs.Results.{Run}

-- ---- which blocks are placed

-- What is told of a verdict, by the book of its run, places a block only if that book has the message's SIOU.
abbrev pub Agrees : Snapshot → Verdict → Type 0
Agrees opening (refused why) = Unit {0}
Agrees opening (defines book bytes) = Unit {0}
Agrees opening (continues book message) = PlacedIf opening.book.siou_plus_one (message.siou + 1) (entries_under opening (continues book message))
Agrees opening (opens tag message) = PlacedIf opening.book.siou_plus_one (message.siou + 1) (entries_under opening (opens tag message))

pub agrees : (opening : Snapshot) (v : Verdict) → Agrees opening v
agrees opening (refused why) = tt
agrees opening (defines book bytes) = tt
agrees opening (continues book message) = placed-if opening.book opening.bytes message
agrees opening (opens tag message) = (λ z. absurd (false≢true z), placed-if opening.book opening.bytes message)

-- Whatever frames and kept books a desk was given before: what the next one adds to the run log are the bytes of entries by the book of its run, that is the live book as it was when the
-- run was opened, and of these none places a block unless that book has the SIOU of the block's message.
pub one-update : (start : Course) → KeptOn start → (before : List Given) (given : Given)
    → (written_on (along start before).held given ≡ joined bytes_of (entries_under (onward (along start before) given).opening (verdict_on (along start before).held given)))
    × Agrees (onward (along start before) given).opening (verdict_on (along start before).held given)
one-update start k before given = (
  written-under (along start before) given (always-kept start before k),
  agrees (onward (along start before) given).opening (verdict_on (along start before).held given),
)

-- Of the entries by a book of unknown SIOU none places a block, whatever the verdict is.
pub unknown-none : (opening : Snapshot) → opening.book.siou_plus_one ≡ 0 → (v : Verdict) → NonePlaced (entries_under opening v)
unknown-none opening e (refused why) = tt
unknown-none opening e (defines book bytes) = tt
unknown-none opening e (continues book message) =
    none-placed opening.book.siou_plus_one (message.siou + 1) (λ q. omega arith) (entries_under opening (continues book message)) (agrees opening (continues book message))
unknown-none opening e (opens tag message) =
    none-placed opening.book.siou_plus_one (message.siou + 1) (λ q. omega arith) (entries_under opening (opens tag message)) (agrees opening (opens tag message))

-- So a run opened on a book of unknown SIOU places no block, neither in its first message nor in a later one: of the entries whose bytes are added none does.
pub unknown-places-none : (start : Course) → KeptOn start → (before : List Given) (given : Given) → (onward (along start before) given).opening.book.siou_plus_one ≡ 0
    → (written_on (along start before).held given ≡ joined bytes_of (entries_under (onward (along start before) given).opening (verdict_on (along start before).held given)))
    × NonePlaced (entries_under (onward (along start before) given).opening (verdict_on (along start before).held given))
unknown-places-none start k before given e = (
  (one-update start k before given).0,
  unknown-none (onward (along start before) given).opening e (verdict_on (along start before).held given),
)

-- ---- where a book's SIOU comes from

-- the GAD that a frame carries
abbrev gad_of : layout.Outcome Message → Part Gad
gad_of (layout.accepted (gad_message message) codes bits) = present message
gad_of (layout.accepted (ocb_message constellation body) codes bits) = absent
gad_of (layout.accepted (hpac_message constellation body) codes bits) = absent
gad_of (layout.accepted (bpac_message body) codes bits) = absent
gad_of (layout.refused why) = absent

abbrev gad_by : Checked → (frame : List ℕ) → Part Gad
gad_by (check.Accepted header) frame = gad_of (judging 2 0 (payload_in header frame))
gad_by (check.Short wanted) frame = absent
gad_by (check.Refused why) frame = absent

unfoldable pub gad_in : (frame : List ℕ) → Part Gad
gad_in frame = gad_by (checked frame) frame

-- the starting book, no book, a book that a GAD began, a book that was read from its kept form
pub data Origin : Type 0 where
  starting : Origin
  none : Origin
  begun : (message : Gad) → Origin
  read : (book : Book) → Origin

-- the SIOU + 1 that such a book has; 0 is unknown
abbrev pub siou_of : (start : Book) → Origin → ℕ
siou_of start starting = start.siou_plus_one
siou_of start none = 0
siou_of start (begun message) = message.siou + 1
siou_of start (read book) = book.siou_plus_one

-- a book is of the GAD's AIOU and SIOU
abbrev pub is_of : Book → Gad → Bool
is_of book message = eqb book.aiou_plus_one (message.aiou + 1) && eqb book.siou_plus_one (message.siou + 1)

-- a GAD that was taken: one of the book's AIOU and SIOU adds to it, another begins a new book
abbrev pub taken_into : Book → Origin → Part Gad → Origin
taken_into book origin absent = origin
taken_into book origin (present message) = cond (is_of book message) origin (begun message)

-- the live book after something was given: a refused frame leaves it, a GAD is taken into the book that the frame is handled with, an HPAC message leaves that book, which after a gap is
-- none; a kept book takes its place
abbrev pub origin_by : Held → Origin → Given → Verdict → Origin
origin_by held origin given (refused why) = origin
origin_by held origin (frame_with frame second log) (defines book bytes) = taken_into (handling held.desk second).book origin (gad_in frame)
origin_by held origin (frame_with frame second log) (continues book message) = cond (is_gap held.desk.last second) none origin
origin_by held origin (frame_with frame second log) (opens tag message) = cond (is_gap held.desk.last second) none origin
origin_by held origin (kept_book book bytes) (defines book' bytes') = read book
origin_by held origin (kept_book book bytes) (continues book' message) = origin
origin_by held origin (kept_book book bytes) (opens tag message) = origin

unfoldable pub origin_along : Course → Origin → List Given → Origin
origin_along course origin [] = origin
origin_along course origin (given ∷ rest) = origin_along (onward course given) (origin_by course.held origin given (verdict_on course.held given)) rest

-- ---- a frame that defines a book carries a GAD, and the book has its SIOU

module _ (desk : Desk) (live : List ℕ) (gad : Part Gad) where
  abbrev Fills : Verdict → Type 0
  Fills (refused why) = Unit {0}
  Fills (defines book bytes) = (message : Gad) × (gad ≡ present message) × (book.siou_plus_one ≡ message.siou + 1)
  Fills (continues book message) = Unit {0}
  Fills (opens tag message) = Unit {0}

  fills-stop : (b : Bool) (why : answer.Fault) (rest : Verdict) → (b ≡ false → Fills rest) → Fills (stop b (refused why) rest)
  fills-stop true why rest h = tt
  fills-stop false why rest h = h refl

  fills-run : (r : Run) (tag : ℕ) (message : Hpac) → Fills (by_run r tag message)
  fills-run None tag message = tt
  fills-run (Some p) tag message = go (eqb tag p.tag)
    where
      go : (b : Bool) → Fills (cond b (continues p.book message) (opens tag message))
      go true = tt
      go false = tt

  module _ (header : Frame) (payload : List ℕ) where
    fills-hpac : Fills (by_payload desk live header payload (judging 1 (row_of desk.constellation) payload))
    fills-hpac =
        subst (λ o. Fills (by_payload desk live header payload o)) (sym (judging-hpac desk.constellation payload))
        (go (bad_length (length payload)) (read_l (hpac desk.constellation done) (to_bits payload)))
      where
        go : (b : Bool) (o : layout.Outcome Hpac) → Fills (by_payload desk live header payload (stop b (layout.refused (nowhere refusal.Length)) (carried (hpac_message desk.constellation) o)))
        go true o = tt
        go false (layout.accepted message codes used) =
            fills-stop (bad_tag header) (nowhere refusal.Tag) (by_run desk.run (tag_of header) message) (λ _. fills-run desk.run (tag_of header) message)
        go false (layout.refused why) = tt

    fills-gad : gad ≡ gad_of (judging 2 0 payload) → Fills (by_payload desk live header payload (judging 2 0 payload))
    fills-gad e = go (judging 2 0 payload) refl
      where
        taken : (o : gads.Outcome) (aiou : ℕ) (message : Gad) → gad ≡ present message → Fills (by_book (gads.answer_of o aiou message.siou) (gads.left_by o live))
        taken (gads.taken l) aiou message q = (message, q, refl)
        taken (gads.refused why) aiou message q = tt

        go : (o : layout.Outcome Message) → judging 2 0 payload ≡ o → Fills (by_payload desk live header payload o)
        go (layout.refused why) q = tt
        go (layout.accepted message codes bits) q =
            let m = gad-only payload message codes bits q in
            let is : judging 2 0 payload ≡ layout.accepted (gad_message m.0) codes bits = q ∙ ap (λ x. layout.accepted x codes bits) m.1 in
            subst (λ x. Fills (by_message desk live header payload x)) (sym m.1)
            (subst (λ r. Fills (by_book (gads.answer_of (gads.outcome desk.book live payload) (gads.reading r (λ m. m.aiou) (λ why. 0)) (gads.reading r (λ m. m.siou) (λ why. 0))) (gads.bytes_after desk.book live payload))) (sym is)
            (taken (gads.outcome desk.book live payload) m.0.aiou m.0 (e ∙ ap gad_of is)))

    fills-header : gad ≡ gad_of (judging 2 0 payload) → Fills (by_header desk live header payload)
    unfolding by_header
    fills-header e =
        fills-stop (not (ours desk header)) (nowhere refusal.NotOurs) _ (λ n.
        fills-stop (is_sealed header.seal) (nowhere refusal.Sealed) _ (λ _.
        go (eqb header.message_type 2) refl (our-type desk header (not-false (ours desk header) n))))
      where
        go : (b : Bool) → eqb header.message_type 2 ≡ b → our_type desk.constellation header.message_type header.subtype ≡ true
            → Fills (by_payload desk live header payload (judging header.message_type header.subtype payload))
        go true q o =
            let k : header.message_type ≡ 2 = eqb-true header.message_type 2 q in
            let s : header.subtype ≡ 0 = our-subtype desk.constellation header.message_type header.subtype o k in
            subst (λ x. Fills (by_payload desk live header payload x)) (sym (ap₂ (λ x y. judging x y payload) k s)) (fills-gad e)
        go false q o =
            let k = our-row desk.constellation header.message_type header.subtype o (eqb-false header.message_type 2 q) in
            subst (λ x. Fills (by_payload desk live header payload x)) (sym (ap₂ (λ x y. judging x y payload) k.0 k.1)) fills-hpac

fills-frame : (desk : Desk) (live frame : List ℕ) (c : Checked) → Fills desk live (gad_by c frame) (by_frame desk live c frame)
fills-frame desk live frame (check.Accepted header) = fills-header desk live (gad_of (judging 2 0 (payload_in header frame))) header (payload_in header frame) refl
fills-frame desk live frame (check.Short wanted) = tt
fills-frame desk live frame (check.Refused why) = tt

fills : (held : Held) (frame : List ℕ) (second : ℕ) (log : List ℕ) → Fills (handling held.desk second) held.live (gad_in frame) (verdict_on held (frame_with frame second log))
unfolding verdict gad_in
fills held frame second log =
    let desk : Desk = handling held.desk second in
    let gad : Part Gad = gad_by (checked frame) frame in
    fills-stop desk held.live gad (lacks_room held.live held.run log) (nowhere refusal.Room) _ (λ _.
    fills-stop desk held.live gad (not (desk_sound held.desk held.live held.run)) (nowhere refusal.State) _ (λ _. fills-frame desk held.live frame (checked frame)))

-- ---- a step, and every history

module _ (held : Held) (origin : Origin) (start : Book) (k : held.desk.book.siou_plus_one ≡ siou_of start origin) where
  -- the book that a frame is handled with, after a gap none
  handled-siou : (gap : Bool) → (cond gap no_book held.desk.book).siou_plus_one ≡ siou_of start (cond gap none origin)
  handled-siou true = refl
  handled-siou false = k

  -- a book of the same AIOU and SIOU is no empty one
  filled : (gap : Bool) (message : Gad) → is_of (cond gap no_book held.desk.book) message ≡ true → siou_of start origin ≡ message.siou + 1
  filled true message e =
      let z : 0 ≡ message.siou + 1 = eqb-true 0 (message.siou + 1) (both_right (eqb 0 (message.aiou + 1)) (eqb 0 (message.siou + 1)) e) in
      absurd (omega arith)
  filled false message e =
      sym k ∙ eqb-true held.desk.book.siou_plus_one (message.siou + 1)
      (both_right (eqb held.desk.book.aiou_plus_one (message.aiou + 1)) (eqb held.desk.book.siou_plus_one (message.siou + 1)) e)

  by-frame : (frame : List ℕ) (second : ℕ) (log : List ℕ) (v : Verdict) → Fills (handling held.desk second) held.live (gad_in frame) v
      → (book_by (leaving held.desk second v) v).siou_plus_one ≡ siou_of start (origin_by held origin (frame_with frame second log) v)
  by-frame frame second log (refused why) f = k
  by-frame frame second log (continues book message) f = handled-siou (is_gap held.desk.last second)
  by-frame frame second log (opens tag message) f = handled-siou (is_gap held.desk.last second)
  by-frame frame second log (defines book bytes) f =
      f.2 ∙ go (is_of (handling held.desk second).book f.0) refl
      ∙ ap (λ g. siou_of start (taken_into (handling held.desk second).book origin g)) (sym f.1)
    where
      go : (b : Bool) → is_of (handling held.desk second).book f.0 ≡ b → f.0.siou + 1 ≡ siou_of start (cond b origin (begun f.0))
      go true e = sym (filled (is_gap held.desk.last second) f.0 e)
      go false e = refl

  abbrev kept_verdict : (book : Book) (bytes : List ℕ) → Bool → Bool → Verdict
  kept_verdict book bytes a b = stop a (refused (nowhere refusal.Room)) (stop b (refused (nowhere refusal.State)) (defines book (copied book bytes held.live)))

  by-kept : (book : Book) (bytes : List ℕ) → (after held (kept_book book bytes)).desk.book.siou_plus_one
      ≡ siou_of start (origin_by held origin (kept_book book bytes) (verdict_on held (kept_book book bytes)))
  unfolding book_verdict
  by-kept book bytes = go (no_book_room bytes held.live held.run) (not (desk_sound held.desk held.live held.run && sound book bytes))
    where
      go : (a b : Bool) → (book_by held.desk (kept_verdict book bytes a b)).siou_plus_one ≡ siou_of start (origin_by held origin (kept_book book bytes) (kept_verdict book bytes a b))
      go true b = k
      go false true = k
      go false false = refl

pub siou-step : (held : Held) (origin : Origin) (start : Book) (given : Given) → held.desk.book.siou_plus_one ≡ siou_of start origin
    → (after held given).desk.book.siou_plus_one ≡ siou_of start (origin_by held origin given (verdict_on held given))
siou-step held origin start (frame_with frame second log) k = by-frame held origin start k frame second log (verdict_on held (frame_with frame second log)) (fills held frame second log)
siou-step held origin start (kept_book book bytes) k = by-kept held origin start k book bytes

siou-along : (course : Course) (origin : Origin) (start : Book) (frames : List Given) → course.held.desk.book.siou_plus_one ≡ siou_of start origin
    → (along course frames).held.desk.book.siou_plus_one ≡ siou_of start (origin_along course origin frames)
unfolding along origin_along
siou-along course origin start [] k = k
siou-along course origin start (given ∷ rest) k =
    siou-along (onward course given) (origin_by course.held origin given (verdict_on course.held given)) start rest (siou-step course.held origin start given k)

-- Along whatever frames and kept books a desk is given, the SIOU of its live book is that of the GAD that began it, or of the kept or starting book; it is unknown where a gap emptied it.
pub siou-from : (start : Course) (frames : List Given)
    → (along start frames).held.desk.book.siou_plus_one ≡ siou_of start.held.desk.book (origin_along start starting frames)
siou-from start frames = siou-along start starting start.held.desk.book frames refl

-- The book of a run that is opened is the live book as it is then, so its SIOU comes from there too.
pub opened-siou : (course : Course) (given : Given) → is_opening (verdict_on course.held given) ≡ true
    → (onward course given).opening.book ≡ (onward course given).held.desk.book
opened-siou course given = go (handled course.held given) (verdict_on course.held given)
  where
    go : (held : Held) (v : Verdict) → is_opening v ≡ true → (opening_by held course.opening v).book ≡ book_by held.desk v
    go held (refused why) e = absurd (false≢true e)
    go held (defines book bytes) e = absurd (false≢true e)
    go held (continues book message) e = absurd (false≢true e)
    go held (opens tag message) e = refl
