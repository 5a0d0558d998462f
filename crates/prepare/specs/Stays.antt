-- Serves proofs: a sound desk with its books stays sound, event by event. Proved; assumes nothing.
use Rattle.std.specs.Prelude.{◌≡◌, Bool, true, false, cond, List, ℕ, ◌≤◌, ltb, length, replicate, Ok, Err, Some, None}
use Rattle.std.proofs.Common.{sym, ap, ◌∙◌, arith, le-ltb}
use Rattle.std.proofs.lemmas.List.{length-replicate}
use Rattle.area.specs.Laws.{both_right}
use Rattle.stream.specs.Scan.{Event, frame, noise}
use Rattle.sizes.specs.Sizes.{tags, book_bytes, log_room}
use Rattle.book.specs.Book.{no_book, sound}
use Rattle.book.specs.Laws.{sound-room}
use Rattle.answer.specs.declared.Refusal.TheVariants.{Field}
use Rattle.message.specs.Messages.{constellation_for}
use Rattle.message.specs.Results.{Subtype}
use Rattle.desk.specs.declared.Desk.{Desk}
use Rattle.desk.specs.Desk.{source_in_range, made_for, new_desk}
use Rattle.desk.specs.Take as desk
use Rattle.desk.specs.Fits.{sound-live, sound-run}
use Rattle.desk.specs.History as history
use Rattle.desk.specs.History.{Held, Given, frame_with, handled_at, held_by, held_sound}
use Rattle.desk.specs.Theorems.{stays-sound}
use Rattle.prepare.specs.Uncut.{books_after, verdict_on, handled_on}
use Rattle.prepare.specs.Driver.{Sound}

-- a frame as the desk is given it, with some log that has room
abbrev some_log : List ℕ
some_log = replicate log_room 0

abbrev pub given : (bytes : List ℕ) → (second : ℕ) → Given
given bytes second = frame_with bytes second some_log

-- past ROOM and STATE the desk's own definition of taking a frame is what it makes of the frame
pub verdict-past : (books : Held) → Sound books → (bytes : List ℕ) (second : ℕ) (log : List ℕ) → log_room ≤ length log
    → desk.verdict (desk.hands books.desk bytes second books.live books.run log) ≡ verdict_on books second bytes
unfolding verdict_on desk.verdict desk.lacks_room
verdict-past books s bytes second log h =
    let b : ltb (length books.live) book_bytes ≡ false = le-ltb (length books.live) book_bytes s.live-room in
    let c : ltb (length books.run) book_bytes ≡ false = le-ltb (length books.run) book_bytes s.run_room in
    let d : ltb (length log) log_room ≡ false = le-ltb (length log) log_room h in
    rw (b, c, d, s.is-sound)

pub verdict-is : (books : Held) → Sound books → (second : ℕ) (bytes : List ℕ) → history.verdict_on books (given bytes second) ≡ verdict_on books second bytes
verdict-is books s second bytes = verdict-past books s bytes second some_log (omega (arith, length-replicate {A = ℕ} log_room 0))

-- what a verdict leaves has room
rooms-by : (books : Held) → book_bytes ≤ length books.live → book_bytes ≤ length books.run → (v : desk.Verdict) → held_sound (held_by books v) ≡ true → Sound (held_by books v)
rooms-by books hl hr v e =
    record { live-room = sound-room _ _ (sound-live (held_by books v).desk (held_by books v).live (held_by books v).run e); run_room = go v e; is-sound = e }
  where
    go : (v : desk.Verdict) → held_sound (held_by books v) ≡ true → book_bytes ≤ length (held_by books v).run
    go (desk.refused why) e = hr
    go (desk.defines book live) e = hr
    go (desk.continues book message) e = hr
    go (desk.opens tag message) e =
        let d = held_by books (desk.opens tag message) in
        sound-room _ _ (both_right (ltb tag tags) (sound books.desk.book d.run) (sound-run d.desk d.live d.run e))

verdict-sound : (books : Held) → Sound books → (second : ℕ) (bytes : List ℕ) → Sound (held_by (handled_on books second bytes) (verdict_on books second bytes))
verdict-sound books s second bytes =
    rooms-by (handled_on books second bytes) s.live-room s.run_room (verdict_on books second bytes)
    (ap (λ v. held_sound (held_by (handled_at books second v) v)) (sym (verdict-is books s second bytes)) ∙ stays-sound books (given bytes second) s.is-sound)

pub sound-after : {books : Held} → Sound books → (second : ℕ) (e : Event) → Sound (books_after books second e)
sound-after {books} s second (frame f bytes) = verdict-sound books s second bytes
sound-after s second (noise n) = s

-- a new desk has no open run
pub new-closed : (solution processor constellation : ℕ) (made : Desk) → new_desk solution processor constellation ≡ Ok made → made.run ≡ None
unfolding new_desk
new-closed solution processor constellation made e = go (source_in_range solution processor) (constellation_for constellation) e
  where
    go : (b : Bool) (t : Subtype) → cond b (made_for solution processor t) (Err Field) ≡ Ok made → made.run ≡ None
    go false t e = let z : ◌≡◌ {A = ℕ} 0 1 = cc in absurd (omega arith)
    go true None e = let z : ◌≡◌ {A = ℕ} 0 1 = cc in absurd (omega arith)
    go true (Some c) e =
        let m : made ≡ record { solution = solution; processor = processor; constellation = c; book = no_book; run = None; last = None } = cc in
        ap (λ d. d.run) m
