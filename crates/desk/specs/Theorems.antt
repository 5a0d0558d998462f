-- Theorems on the desk, for frames with their seconds. A sound desk stays sound. Which definition placed this residual: that of the live book as it was when its run was opened, whatever GAD came
-- since; so two definitions never mix in one run. A GAD changes no later entry of the open run. A log always has
-- room, and no frame is refused by UNKNOWN_TYPE. Proved; assumes nothing.
use Rattle.std.specs.Prelude.{◌≡◌, refl, Bool, false, cond, ◌&&◌, List, [], ◌∷◌, ◌++◌, map, ℕ, ◌*◌, ◌≤◌, ltb, length, take, drop, Option, Ok, Err, Some, None}
use Rattle.std.proofs.Common.{ap, ap₂, sym, ◌∙◌, subst, true≢false, arith, lt-ltb, le-leb, le-ltb}
use Rattle.std.proofs.Math.Bool.{true}
use Rattle.desk.specs.declared.OpenRun.{OpenRun}
use Rattle.answer.specs.Pairs.{some-value}
use Rattle.area.specs.declared.AreaId.{AreaId}
use Rattle.area.specs.Area.{area_id}
use Rattle.hpac.specs.Hpac.{Area, Hpac}
use Rattle.sizes.specs.Sizes.{tags, book_bytes, log_room}
use Rattle.book.specs.Book.{no_book, siou_sound, head_sound, areas_sound, sound, is_held, place_of, found}
use Rattle.book.specs.Laws.{sound-room}
use Rattle.book.specs.declared.Book.{Book}
use Rattle.entrylog.specs.Log.{opened, bits_for, reason_for, reason_of, troposphere_in, satellites_in, entry_of, entries_of as log_entries, log_of}
use Rattle.entries.specs.Entry as entry
use Rattle.entries.specs.Entry.{joined, numbers_of}
use Rattle.answer.specs.declared.Fault as answer
use Rattle.answer.specs.declared.Place.{Place}
use Rattle.answer.specs.declared.Refusal.TheVariants.{Field, UnknownType}
use Rattle.message.specs.Messages.{constellation_for}
use Rattle.message.specs.Results.{Subtype}
use Rattle.desk.specs.Desk.{source_in_range, made_for, new_desk, desk_sound}
use Rattle.desk.specs.Answers.{answers, answers_at}
use Rattle.desk.specs.Take.{Handed, Verdict, refused, defines, continues, opens, counted, verdict, copied, logged_by, leaving_by, frame_taken, number_of_said}
use Rattle.desk.specs.Lookup.{in_run, nowhere, spot_of, bytes_at}
use Rattle.desk.specs.Copied.{copied-sound, copied-found}
use Rattle.desk.specs.Fits.{sound-source, sound-live, sound-run, all_three, handling-sound, Fits, new-areas, same-run, new-run, fits, fits_kept}
use Rattle.desk.specs.History.{Held, Given, frame_with, kept_book, verdict_on, handled_at, handled_by, handled, held_by, after, held_sound, entries_of, Snapshot, opening_by, Course, onward, along, told_by, Kept, closed, kept, KeptOn, is_opening, NoneOpens, none, more}
use Rattle.desk.specs.Continues.{still-continues}
use Rattle.desk.specs.Answering.{verdict_answers, answered, log-kept, number-six}
use Rattle.desk.specs.declared.Desk.{Desk}
use Rattle.desk.specs.Results.{Run}

-- ---- a sound desk stays sound

-- what a verdict can be, on a frame and on a kept book, by the desk that handles it
pub fits_on : (held : Held) (given : Given) → Fits (handled held given).desk (handled held given).live (handled held given).run (verdict_on held given)
fits_on held (frame_with frame second log) = fits held.desk second held.live held.run frame log
fits_on held (kept_book book bytes) = fits_kept held.desk held.live held.run book bytes

handled-sound : (held : Held) (given : Given) → held_sound held ≡ true → held_sound (handled held given) ≡ true
unfolding desk_sound
handled-sound held (frame_with frame second log) e = go (verdict_on held (frame_with frame second log))
  where
    go : (v : Verdict) → held_sound (handled_at held second v) ≡ true
    go (refused why) = e
    go (defines book bytes) = handling-sound held.desk second held.live held.run e
    go (continues book message) = handling-sound held.desk second held.live held.run e
    go (opens tag message) = handling-sound held.desk second held.live held.run e
handled-sound held (kept_book book bytes) e = e

module _ (held : Held) (e : held_sound held ≡ true) where
  pub sound-by : (v : Verdict) → Fits held.desk held.live held.run v → held_sound (held_by held v) ≡ true
  unfolding desk_sound
  sound-by (refused why) f = e
  sound-by (defines book bytes) (new-areas r w) = all_three (sound-source held.desk held.live held.run e) w (sound-run held.desk held.live held.run e)
  sound-by (continues book message) f = e
  sound-by (opens tag message) (new-run r h) =
      let w : sound held.desk.book held.live ≡ true = sound-live held.desk held.live held.run e in
      all_three (sound-source held.desk held.live held.run e) w
      (ap₂ (λ x y. x && y) (lt-ltb tag tags h) (copied-sound held.desk.book held.live held.run w r.room))

pub stays-sound : (held : Held) (given : Given) → held_sound held ≡ true → held_sound (after held given) ≡ true
stays-sound held given e = sound-by (handled held given) (handled-sound held given e) (verdict_on held given) (fits_on held given)

-- a new desk is sound, with any bytes lent for its books
pub new-sound : (solution processor constellation : ℕ) (desk : Desk) (live run : List ℕ) → new_desk solution processor constellation ≡ Ok desk → book_bytes ≤ length live
    → desk_sound desk live run ≡ true
unfolding new_desk desk_sound sound siou_sound head_sound areas_sound
new-sound solution processor constellation desk live run e h = go (source_in_range solution processor) refl (constellation_for constellation) e
  where
    go : (b : Bool) → source_in_range solution processor ≡ b → (s : Subtype) → cond b (made_for solution processor s) (Err Field) ≡ Ok desk → desk_sound desk live run ≡ true
    go true q (Some c) e =
        let z : record { solution = solution; processor = processor; constellation = c; book = no_book; run = None; last = None } ≡ desk = cc in
        subst (λ d. desk_sound d live run ≡ true) z (rw (q, le-leb book_bytes (length live) h))
    go true q None e = let z : ◌≡◌ {A = ℕ} 0 1 = cc in absurd (omega arith)
    go false q s e = let z : ◌≡◌ {A = ℕ} 0 1 = cc in absurd (omega arith)

-- ---- which definition placed this residual

-- the log of a message is settled by what each ID finds in the book
entry-same : (book : Book) (s t : List ℕ) → ((id : AreaId) → found book s id ≡ found book t id) → (aiou siou : ℕ) (x : Area) → entry_of book s aiou siou x ≡ entry_of book t aiou siou x
unfolding reason_for
entry-same book s t h aiou siou x = rw (h (area_id x.id))

entries-same : (book : Book) (s t : List ℕ) → ((id : AreaId) → found book s id ≡ found book t id) → (message : Hpac) → log_entries book s message ≡ log_entries book t message
unfolding log_entries
entries-same book s t h message = go message.areas
  where
    go : (xs : List Area) → map (entry_of book s message.aiou message.siou) xs ≡ map (entry_of book t message.aiou message.siou) xs
    go [] = refl
    go (x ∷ xs) = ap₂ (λ a b. a ∷ b) (entry-same book s t h message.aiou message.siou x) (go xs)

log-same : (book : Book) (s t : List ℕ) → ((id : AreaId) → found book s id ≡ found book t id) → (message : Hpac) → log_of book s message ≡ log_of book t message
unfolding log_of
log-same book s t h message = ap (joined numbers_of) (entries-same book s t h message)

-- what is given is handled with the run as it was
kept-handled : (course : Course) (given : Given) → KeptOn course → KeptOn (record { held = handled course.held given; opening = course.opening })
kept-handled course (frame_with frame second log) k = go (verdict_on course.held (frame_with frame second log))
  where
    go : (v : Verdict) → KeptOn (record { held = handled_at course.held second v; opening = course.opening })
    go (refused why) = k
    go (defines book bytes) = k
    go (continues book message) = k
    go (opens tag message) = k
kept-handled course (kept_book book bytes) k = k

-- a verdict by that desk, and the live book as it was when the open run was opened
module _ (held : Held) (opening : Snapshot) (k : Kept held.run opening held.desk.run) where
  kept_by : (v : Verdict) → Fits held.desk held.live held.run v → KeptOn (record { held = held_by held v; opening = opening_by held opening v })
  kept_by (refused why) f = k
  kept_by (defines book bytes) f = k
  kept_by (continues book message) f = k
  kept_by (opens tag message) (new-run r h) =
      kept refl (copied-found held.desk.book held.live held.run (sound-live held.desk held.live held.run r.state) r.room)

  by-run : (r : Run) (tag : ℕ) (book : Book) → Kept held.run opening r → r ≡ Some (record { tag = tag; book = book }) → (message : Hpac)
      → log_of book held.run message ≡ log_of opening.book opening.bytes message
  by-run None tag book closed e message = let z : ◌≡◌ {A = ℕ} 0 1 = cc in absurd (omega arith)
  by-run (Some r₀) tag book (kept p q) e message =
      let same : r₀.book ≡ book = ap (λ (x : OpenRun). x.book) (some-value e) in
      ap (λ b. log_of b held.run message) (sym same) ∙ log-same r₀.book held.run opening.bytes q message
      ∙ ap (λ b. log_of b opening.bytes message) p

  told-by : (v : Verdict) → Fits held.desk held.live held.run v → entries_of held v ≡ told_by (opening_by held opening v) v
  told-by (refused why) f = refl
  told-by (defines book bytes) f = refl
  told-by (continues book message) (same-run {tag = tag} r e) = by-run held.desk.run tag book k e message
  told-by (opens tag message) (new-run r h) =
      ap (λ l. opened tag held.desk.book ++ l)
      (log-same held.desk.book (copied held.desk.book held.live held.run) held.live
      (copied-found held.desk.book held.live held.run (sound-live held.desk held.live held.run r.state) r.room) message)

pub stays-kept : (course : Course) (given : Given) → KeptOn course → KeptOn (onward course given)
stays-kept course given k =
    kept_by (handled course.held given) course.opening (kept-handled course given k) (verdict_on course.held given) (fits_on course.held given)

pub always-kept : (course : Course) (frames : List Given) → KeptOn course → KeptOn (along course frames)
unfolding along
always-kept course [] k = k
always-kept course (given ∷ rest) k = always-kept (onward course given) rest (stays-kept course given k)

-- where no run is open there is nothing to ask: a new desk may start with any `opening`
pub closed-kept : (start : Course) → start.held.desk.run ≡ None → KeptOn start
closed-kept start e = subst (λ r. Kept start.held.run start.opening r) (sym e) closed

pub told : (course : Course) (given : Given) → KeptOn course
    → entries_of (handled course.held given) (verdict_on course.held given) ≡ told_by (onward course given).opening (verdict_on course.held given)
told course given k =
    told-by (handled course.held given) course.opening (kept-handled course given k) (verdict_on course.held given) (fits_on course.held given)

-- For a desk without an open run, as a new one is (`closed-kept`), or whose open run was opened by the book beside it, whatever its books hold and whatever frames and
-- kept books it is given, at whatever seconds: what any frame then adds to the run log is the log of its message by the live book as it was when the message's run was
-- opened, that is, as the frame that opened it was handled with (after a gap an empty one).
pub which-definition : (start : Course) → KeptOn start → (before : List Given) (given : Given)
    → entries_of (handled (along start before).held given) (verdict_on (along start before).held given)
    ≡ told_by (onward (along start before) given).opening (verdict_on (along start before).held given)
which-definition start k before given = told (along start before) given (always-kept start before k)

-- In it an area is placed, entry 2, with the 47 bits that its ID has in that book.
pub placed-with : (opening : Snapshot) (aiou siou : ℕ) (x : Area) → reason_of opening.book opening.bytes aiou siou x ≡ 0
    → entry_of opening.book opening.bytes aiou siou x
    ≡ entry.placed x.id (bits_for opening.book opening.bytes x.id) (troposphere_in x) (satellites_in x)
placed-with opening aiou siou x e = rw e

-- ---- an area book that is changed between two messages never mixes in one run

opening-stays : (course : Course) (since : List Given) → NoneOpens course since → (along course since).opening ≡ course.opening
unfolding along
opening-stays course [] none = refl
opening-stays course (given ∷ rest) (more e n) = opening-stays (onward course given) rest n ∙ go (verdict_on course.held given) e
  where
    go : (v : Verdict) → is_opening v ≡ false → opening_by (handled course.held given) course.opening v ≡ course.opening
    go (refused why) e = refl
    go (defines book bytes) e = refl
    go (continues book message) e = refl
    go (opens tag message) e = let z : ◌≡◌ {A = ℕ} 0 1 = cc in absurd (omega arith)

-- Once a frame has opened a run, and as long as no other run is opened, every message of the run is told by the live book as that frame was handled with: the one before that
-- frame, emptied if the frame came after a gap; whatever GADs, kept books and gaps came since.
pub never-mixes : (start : Course) → KeptOn start → (before : List Given) (first : Given) (tag : ℕ) (opener : Hpac)
    → verdict_on (along start before).held first ≡ opens tag opener
    → (since : List Given) → NoneOpens (onward (along start before) first) since
    → (given : Given) (book : Book) (message : Hpac) → verdict_on (along (onward (along start before) first) since).held given ≡ continues book message
    → entries_of (handled (along (onward (along start before) first) since).held given) (continues book message)
    ≡ log_of (handled (along start before).held first).desk.book (handled (along start before).held first).live message
never-mixes start s before first tag opener o since n given book message q =
    let course : Course = along start before in
    let by : Held = handled course.held first in
    let later : Course = along (onward course first) since in
    let k : KeptOn later = always-kept (onward course first) since (stays-kept course first (always-kept start before s)) in
    let on : Held = handled later.held given in
    let t : entries_of on (continues book message) ≡ log_of later.opening.book later.opening.bytes message
    = subst (λ v. entries_of on v ≡ told_by (opening_by on later.opening v) v) q (told later given k) in
    let m : later.opening ≡ record { book = by.desk.book; bytes = by.live }
    = opening-stays (onward course first) since n ∙ ap (opening_by by course.opening) o in
    t ∙ ap (λ x. log_of x.book x.bytes message) m

-- ---- a GAD changes no later entry of the open run

-- A frame that is a message of the open run is one also after a GAD, or a kept book, was taken before it, and adds the same entries.
module _ (held : Held) (book : Book) (bytes : List ℕ) (frame : List ℕ) (second : ℕ) (log : List ℕ) (run_book : Book) (message : Hpac) where
  abbrev next : Given
  next = frame_with frame second log

  abbrev Unchanged : Held → Type 0
  Unchanged then = (verdict_on then next ≡ continues run_book message)
      × (entries_of (handled then next) (continues run_book message) ≡ entries_of (handled held next) (continues run_book message))

  pub gad-changes-no-entry : (given : Given) → verdict_on held given ≡ defines book bytes → verdict_on held next ≡ continues run_book message
      → Unchanged (after held given)
  gad-changes-no-entry given e q =
      subst (λ v. Unchanged (held_by (handled_by held given v) v)) (sym e)
      (go given (subst (λ v. Fits (handled_by held given v).desk (handled_by held given v).live (handled_by held given v).run v) e (fits_on held given)))
    where
      go : (given : Given) → Fits (handled_by held given (defines book bytes)).desk (handled_by held given (defines book bytes)).live (handled_by held given (defines book bytes)).run (defines book bytes)
          → Unchanged (held_by (handled_by held given (defines book bytes)) (defines book bytes))
      go (frame_with f s l) (new-areas r w) = (
        still-continues run_book message held.desk held.live held.run book bytes (Some (counted held.desk.last s))
            (sound-by (handled_at held s (defines book bytes)) r.state (defines book bytes) (new-areas r w)) frame second log q,
        refl,
      )
      go (kept_book b s) (new-areas r w) = (
        still-continues run_book message held.desk held.live held.run book bytes held.desk.last
            (sound-by held r.state (defines book bytes) (new-areas r w)) frame second log q,
        refl,
      )

-- ---- what the log places is what the lookup shows

-- While a run is open, looking up an area gives the six bytes that its ID has in the run's book: those that `bits_for` and reason 3 ask.
pub looks-up : (desk : Desk) (live run : List ℕ) (tag : ℕ) (book : Book) → desk_sound desk live run ≡ true → book_bytes ≤ length run → desk.run ≡ Some (record { tag = tag; book = book })
    → (id : AreaId) → bytes_at live run (spot_of desk live run id) ≡ found book run id
unfolding spot_of found
looks-up desk live run tag book e h o id =
    let l : ltb (length live) book_bytes ≡ false = le-ltb (length live) book_bytes (sound-room desk.book live (sound-live desk live run e)) in
    let r : ltb (length run) book_bytes ≡ false = le-ltb (length run) book_bytes h in
    rw (l, r, e, o) (go (is_held book run id))
  where
    go : (b : Bool) → bytes_at live run (cond b (in_run (6 * place_of id.0 book.count run)) nowhere) ≡ cond b (take 6 (drop (6 * place_of id.0 book.count run) run)) []
    go true = refl
    go false = refl

-- ---- what a desk answers to a frame

-- "Log room: 4,096 bytes per frame, always enough": whatever the desk, the frame and the buffers are, what is logged takes no more; so a log keeps its length.
pub log-room : (handed : Handed) → length (logged_by (leaving_by handed) handed.live handed.run (verdict handed)) ≤ log_room
log-room handed = (answered handed).room

pub log-length : (handed : Handed) → length (frame_taken handed).log ≡ length handed.log
log-length handed = log-kept handed

-- A desk refuses a frame only by a refusal of `answers`, with a place where that says so ..
pub refusals : (handed : Handed) (why : answer.Fault) → verdict handed ≡ refused why → answers why ≡ true
refusals handed why e = subst (λ v. verdict_answers v ≡ true) e (answered handed).refusal

-- .. so never by UNKNOWN_TYPE: a type that it does not know is NOT_OURS.
pub never-unknown-type : (handed : Handed) (place : (Option Place)) → verdict handed ≡ refused (record { refusal = UnknownType; place = place }) → ⊥
never-unknown-type handed place e = go place (refusals handed (record { refusal = UnknownType; place = place }) e)
  where
    go : (place : (Option Place)) → answers_at place UnknownType ≡ true → ⊥
    go None h = true≢false (sym h)
    go (Some p) h = true≢false (sym h)

pub never-six : (handed : Handed) → number_of_said (frame_taken handed).answer.said ≡ 6 → ⊥
never-six handed n = number-six handed n
