-- Laws: what a verdict on a frame can be, given the desk. Proved; assumes nothing.
use Rattle.std.proofs.Math.Path.{◌≡◌}
use Rattle.std.specs.Prelude.{refl, cond, not, ◌&&◌, ◌||◌, List, ℕ, ◌≤◌, ◌<◌, eqb, Ok, Err, Some, None}
use Rattle.std.proofs.Common.{ap, sym, ◌∙◌, arith}
use Rattle.std.proofs.Math.Bool.{Bool, true, false}
use Rattle.std.proofs.Math.Dec.{ltb}
use Rattle.std.proofs.Math.ListN.{length}
use borrow.Author.Tests.{le-leb, ltb-false, not-false}
use Rattle.desk.specs.declared.OpenRun.{OpenRun}
use Rattle.answer.specs.Stop.{stop}
use Rattle.answer.specs.Place.{nowhere}
use Rattle.answer.specs.declared.Fault as answer
use Rattle.answer.specs.declared.Refusal.TheVariants as refusal
use Rattle.area.specs.Laws.{both_left, both_right}
use Rattle.layout.specs.Layout as layout
use Rattle.hpac.specs.Hpac.{Hpac}
use Rattle.message.specs.Messages.{Message, ocb_message, hpac_message, gad_message, bpac_message}
use Rattle.sheet.specs.Sheet.{judging}
use Rattle.frame.specs.Check.{checked, payload_in}
use Rattle.frame.specs.declared.Frame.{Frame}
use Rattle.frame.specs.declared.Checked.{Checked}
use Rattle.frame.specs.declared.Checked.TheVariants as check
use Rattle.sizes.specs.Sizes.{tags, book_bytes, log_room}
use Rattle.book.specs.Book.{no_book, siou_sound, head_sound, areas_sound, sound}
use Rattle.book.specs.Take.{taken_of, bytes_after}
use Rattle.book.specs.Laws.{sound-room}
use Rattle.book.specs.Theorems.{stays-sound}
use Rattle.book.specs.declared.Book.{Book}
use Rattle.book.specs.Results as took
use Rattle.desk.specs.Desk.{source_in_range, run_sound, desk_sound}
use Rattle.desk.specs.Take.{Verdict, refused, defines, continues, opens, by_run, bad_tag, tag_of, by_book, by_message, by_payload, ours, is_sealed, by_header, by_frame, is_gap, handling, lacks_room, hands, verdict, copied, leaving, no_book_room, hands_book, book_verdict}
use Rattle.desk.specs.Copied.{copied-sound}
use Rattle.desk.specs.declared.Desk.{Desk}
use Rattle.desk.specs.Results.{Run}

-- ---- the parts of a sound desk

module _ (desk : Desk) (live run : List ℕ) (e : desk_sound desk live run ≡ true) where
  books : (sound desk.book live && run_sound desk.run run) ≡ true
  unfolding desk_sound
  books = both_right (source_in_range desk.solution desk.processor) (sound desk.book live && run_sound desk.run run) e

  pub sound-source : source_in_range desk.solution desk.processor ≡ true
  unfolding desk_sound
  sound-source = both_left (source_in_range desk.solution desk.processor) (sound desk.book live && run_sound desk.run run) e

  pub sound-live : sound desk.book live ≡ true
  sound-live = both_left (sound desk.book live) (run_sound desk.run run) books

  pub sound-run : run_sound desk.run run ≡ true
  sound-run = both_right (sound desk.book live) (run_sound desk.run run) books

  -- and of its open run
  pub sound-open : (x : OpenRun) → desk.run ≡ Some x → sound x.book run ≡ true
  sound-open x o = both_right (ltb x.tag tags) (sound x.book run) (sym (ap (λ r. run_sound r run) o) ∙ sound-run)

-- ---- a sound desk is sound without its live book, and so is the one that handles a frame

pub all_three : {a b c : Bool} → a ≡ true → b ≡ true → c ≡ true → (a && (b && c)) ≡ true
all_three p q r = rw (p, q, r)

pub empty-sound : (live : List ℕ) → book_bytes ≤ length live → sound no_book live ≡ true
unfolding sound siou_sound head_sound areas_sound
empty-sound live h = rw (le-leb book_bytes (length live) h)

pub handling-sound : (desk : Desk) (second : ℕ) (live run : List ℕ) → desk_sound desk live run ≡ true → desk_sound (handling desk second) live run ≡ true
unfolding desk_sound
handling-sound desk second live run e = all_three (sound-source desk live run e) (go (is_gap desk.last second)) (sound-run desk live run e)
  where
    go : (b : Bool) → sound (cond b no_book desk.book) live ≡ true
    go true = empty-sound live (sound-room desk.book live (sound-live desk live run e))
    go false = sound-live desk live run e

-- ---- a frame is taken only by a sound desk with room

-- no lent buffer is short
pub record Room (live run log : List ℕ) : Type 0 where
  pub live-room : book_bytes ≤ length live
  pub run_room : book_bytes ≤ length run
  pub log-room : log_room ≤ length log

pub has_room : (live run log : List ℕ) → lacks_room live run log ≡ false → Room live run log
unfolding lacks_room
has_room live run log e = go (ltb (length live) book_bytes) (ltb (length run) book_bytes) (ltb (length log) log_room) refl refl refl e
  where
    go : (a b c : Bool) → ltb (length live) book_bytes ≡ a → ltb (length run) book_bytes ≡ b
        → ltb (length log) log_room ≡ c
        → (a || (b || c)) ≡ false → Room live run log
    go false false false p q r e = record { live-room = ltb-false _ _ p; run_room = ltb-false _ _ q; log-room = ltb-false _ _ r }
    go true b c p q r e = let z : ◌≡◌ {A = ℕ} 0 1 = cc in absurd (omega arith)
    go false true c p q r e = let z : ◌≡◌ {A = ℕ} 0 1 = cc in absurd (omega arith)
    go false false true p q r e = let z : ◌≡◌ {A = ℕ} 0 1 = cc in absurd (omega arith)

pub record Ready (desk : Desk) (live run : List ℕ) : Type 0 where
  pub state : desk_sound desk live run ≡ true
  pub room : book_bytes ≤ length run

-- the live book that a GAD leaves is sound; a message continues the open run, by that run's book; a run is opened with a tag in range
pub data Fits (desk : Desk) (live run : List ℕ) : Verdict → Type 0 where
  not_taken : {why : answer.Fault} → Fits desk live run (refused why)
  new-areas : {book : Book} {bytes : List ℕ} → Ready desk live run → sound book bytes ≡ true → Fits desk live run (defines book bytes)
  same-run : {tag : ℕ} {book : Book} {message : Hpac} → Ready desk live run → desk.run ≡ Some (record { tag = tag; book = book }) → Fits desk live run (continues book message)
  new-run : {tag : ℕ} {message : Hpac} → Ready desk live run → tag < tags → Fits desk live run (opens tag message)

module _ (desk : Desk) (live run : List ℕ) where
  fits-stop : (b : Bool) (why : answer.Fault) (rest : Verdict) → (b ≡ false → Fits desk live run rest) → Fits desk live run (stop b (refused why) rest)
  fits-stop true why rest h = not_taken
  fits-stop false why rest h = h refl

  module _ (ready : Ready desk live run) (header : Frame) (payload : List ℕ) where
    tag-in-range : tag_of header < tags
    tag-in-range = omega arith

    fits-run : (r : Run) (message : Hpac) → desk.run ≡ r → Fits desk live run (by_run r (tag_of header) message)
    fits-run None message e = new-run ready tag-in-range
    fits-run (Some p) message e = go (eqb (tag_of header) p.tag)
      where
        go : (b : Bool) → Fits desk live run (cond b (continues p.book message) (opens (tag_of header) message))
        go true = same-run ready e
        go false = new-run ready tag-in-range

    fits-book : (t : took.Taken) → taken_of desk.book live payload ≡ t → Fits desk live run (by_book t (bytes_after desk.book live payload))
    fits-book (Ok book) e = new-areas ready (stays-sound desk.book live payload book (sound-live desk live run ready.state) e)
    fits-book (Err why) e = not_taken

    fits-message : (m : Message) → Fits desk live run (by_message desk live header payload m)
    fits-message (hpac_message constellation body) = fits-stop (bad_tag header) (nowhere refusal.Tag) (by_run desk.run (tag_of header) body) (λ e. fits-run desk.run body refl)
    fits-message (gad_message body) = fits-book (taken_of desk.book live payload) refl
    fits-message (ocb_message constellation body) = not_taken
    fits-message (bpac_message body) = not_taken

    fits-payload : (o : layout.Outcome Message) → Fits desk live run (by_payload desk live header payload o)
    fits-payload (layout.accepted message codes bits) = fits-message message
    fits-payload (layout.refused why) = not_taken

    fits-header : Fits desk live run (by_header desk live header payload)
    unfolding by_header
    fits-header =
        let o : layout.Outcome Message = judging header.message_type header.subtype payload in
        let rest : Verdict = by_payload desk live header payload o in
        fits-stop (not (ours desk header)) (nowhere refusal.NotOurs) (stop (is_sealed header.seal) (refused (nowhere refusal.Sealed)) rest) (λ e.
        fits-stop (is_sealed header.seal) (nowhere refusal.Sealed) rest (λ f. fits-payload o))

  pub fits-frame : Ready desk live run → (frame : List ℕ) (c : Checked) → Fits desk live run (by_frame desk live c frame)
  fits-frame ready frame (check.Accepted header) = fits-header ready header (payload_in header frame)
  fits-frame ready frame (check.Short wanted) = not_taken
  fits-frame ready frame (check.Refused why) = not_taken

  -- and a kept book that is taken is sound where it is copied to
  fits-book-in : Ready desk live run → (book : Book) (bytes : List ℕ) → sound book bytes ≡ true → Fits desk live run (defines book (copied book bytes live))
  fits-book-in ready book bytes w =
      new-areas ready (copied-sound book bytes live w (sound-room desk.book live (sound-live desk live run ready.state)))

  pub fits_kept : (book : Book) (bytes : List ℕ) → Fits desk live run (book_verdict (hands_book desk book bytes live run))
  unfolding book_verdict
  fits_kept book bytes =
      let rest : Verdict = defines book (copied book bytes live) in
      let both : Bool = desk_sound desk live run && sound book bytes in
      fits-stop (no_book_room bytes live run) (nowhere refusal.Room) (stop (not both) (refused (nowhere refusal.State)) rest) (λ r.
      fits-stop (not both) (nowhere refusal.State) rest (λ s.
      fits-book-in
      (record { state = both_left (desk_sound desk live run) (sound book bytes) (not-false both s); room = last-room (ltb (length bytes) book_bytes) (ltb (length live) book_bytes) r })
      book bytes (both_right (desk_sound desk live run) (sound book bytes) (not-false both s))))
    where
      last-room : (a b : Bool) → (a || (b || ltb (length run) book_bytes)) ≡ false → book_bytes ≤ length run
      last-room false false e = ltb-false (length run) book_bytes e
      last-room true b e = let z : ◌≡◌ {A = ℕ} 0 1 = cc in absurd (omega arith)
      last-room false true e = let z : ◌≡◌ {A = ℕ} 0 1 = cc in absurd (omega arith)

-- ---- the same of the desk from which a frame's verdict leaves what it leaves: the one that handled it, or the desk as lent

module _ (desk : Desk) (second : ℕ) (live run : List ℕ) where
  abbrev FitsLeft : Verdict → Type 0
  FitsLeft v = Fits (leaving desk second v) live run v

  fits-left : (v : Verdict) → Fits (handling desk second) live run v → FitsLeft v
  unfolding desk_sound
  fits-left (refused why) f = not_taken
  fits-left (defines book bytes) (new-areas r w) = new-areas (record { state = r.state; room = r.room }) w
  fits-left (continues book message) (same-run r e) = same-run (record { state = r.state; room = r.room }) e
  fits-left (opens tag message) (new-run r h) = new-run (record { state = r.state; room = r.room }) h

  left-stop : (b : Bool) (why : answer.Fault) (rest : Verdict) → (b ≡ false → FitsLeft rest) → FitsLeft (stop b (refused why) rest)
  left-stop true why rest h = not_taken
  left-stop false why rest h = h refl

  pub fits : (frame log : List ℕ) → FitsLeft (verdict (hands desk frame second live run log))
  unfolding verdict
  fits frame log =
      let rest : Verdict = by_frame (handling desk second) live (checked frame) frame in
      left-stop (lacks_room live run log) (nowhere refusal.Room) (stop (not (desk_sound desk live run)) (refused (nowhere refusal.State)) rest) (λ r.
      left-stop (not (desk_sound desk live run)) (nowhere refusal.State) rest (λ s.
      fits-left rest
      (fits-frame (handling desk second) live run
      (record { state = handling-sound desk second live run (not-false (desk_sound desk live run) s); room = (has_room live run log r).run_room })
      frame (checked frame))))
