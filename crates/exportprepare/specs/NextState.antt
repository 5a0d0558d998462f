-- Theorems: calls of `prepare` for other languages in a row are calls of `prepare` in a row: the next one reads the tray, the desk and the bytes that the last one
-- left. So what crate prepare proves of whole streams holds of them. Proved; assumes nothing.
use Rattle.std.specs.Prelude.{◌≡◌, not, List, ℕ, ◌≤◌, ◌<◌, ltb, length}
use Rattle.std.proofs.Math.Path.{refl, ap}
use Rattle.std.proofs.Common.{ap₂, ◌∙◌, arith}
use Rattle.std.proofs.Math.Bool.{Bool, true, false}
use borrow.Author.Tests.{ltb-false}
use Rattle.answer.specs.Stop.{stop}
use Rattle.answer.specs.declared.Refusal.TheVariants as refusal
use Rattle.area.specs.Laws.{both_left, both_right}
use Rattle.sizes.specs.Sizes.{longest_frame, most_noise, book_bytes}
use Rattle.stream.specs.declared.Tray.{Tray}
use Rattle.stream.specs.Tray.{sound, Contents, Outcome, refused, told, hungry, done, called, finished, bytes_of}
use Rattle.stream.specs.Tray as stream
use Rattle.stream.specs.Kept.{Good}
use Rattle.stream.specs.Steps.{call_kept, end_kept}
use Rattle.desk.specs.Desk.{desk_sound}
use Rattle.desk.specs.Take as desk
use Rattle.desk.specs.History.{Held}
use Rattle.prepare.specs.Uncut as uncut
use Rattle.prepare.specs.Prepare.{said_of, answer_of, books_of, books_in, result_of, guarded, call_outcome, finish_outcome}
use Rattle.prepare.specs.Prepare as prepare
use Rattle.prepare.specs.Driver.{State, Sound}
use Rattle.prepare.specs.Driver as driver
use Rattle.prepare.specs.Stays.{sound-after}
use Rattle.export.specs.Numbers.{laid}
use Rattle.export.specs.Streams.{tray_in, tray_of}
use Rattle.export.specs.Back.{tray-back, event-noise}
use Rattle.exportdesk.specs.States.{desk_in, desk_of}
use Rattle.exportdesk.specs.Theorems.{reads-back}
use Rattle.exportprepare.specs.Prepares.{Lent, handed_in, lacks_room, call_result, finish_result, state_said, leaves, lent_by, call_leaves, finish_leaves}
use Rattle.exportprepare.specs.Refusals.{are_sound, neither}

abbrev pub state : (bytes : List ℕ) → Tray → Held → State
state bytes tray books = record { bytes = bytes; tray = tray; books = books }

-- the state that is lent
abbrev pub state_in : Lent → State
state_in lent = state lent.bytes (tray_in lent.tray) (handed_in lent).books

-- and the log and the second beside it
abbrev pub given_in : Lent → driver.Lent
given_in lent = record { log = lent.log; second = lent.second }

-- ---- an event, hungry or done leaves the states in numbers

state-told : (t : uncut.Told) (numbers : List ℕ) → state_said (said_of t) numbers ≡ numbers
unfolding state_said
state-told (uncut.accepted header bytes entries) numbers = refl
state-told (uncut.refused header bytes why) numbers = refl
state-told (uncut.noise count) numbers = refl

module _ (lent : Lent) where
  abbrev after : Outcome → State
  after o = state (bytes_of lent.bytes o) (answer_of (handed_in lent) o).tray (books_of (handed_in lent) o)

  states-back : (bytes trays desks : List ℕ) (c : Contents) (books : Held) → trays ≡ tray_of (stream.tray_of c) → desks ≡ desk_of books.desk → c.noise < most_noise
      → desk_sound books.desk books.live books.run ≡ true
      → state bytes (tray_in (laid trays lent.tray)) (books_in (desk_in (laid desks lent.desk)) books.live books.run) ≡ state bytes (stream.tray_of c) books
  states-back bytes trays desks c books p q n e =
      ap₂ (λ t d. state bytes t (books_in d books.live books.run))
      (ap (λ x. tray_in (laid x lent.tray)) p ∙ tray-back (stream.tray_of c) lent.tray n)
      (ap (λ x. desk_in (laid x lent.desk)) q ∙ reads-back books.desk books.live books.run lent.desk e)

  next-by : Sound (handed_in lent).books → (o : Outcome) → Good o → state_in (leaves lent (result_of (handed_in lent) o)) ≡ after o
  unfolding state_said
  next-by s (refused why) g = absurd g
  next-by s (told event contents used) g =
      let t : uncut.Told = uncut.told_of (handed_in lent).books lent.second event in
      let books : Held = uncut.books_after (handed_in lent).books lent.second event in
      states-back (stream.laid lent.bytes contents.held) _ _ contents books (state-told t (tray_of (stream.tray_of contents))) (state-told t (desk_of books.desk))
      (event-noise event contents g) (sound-after s lent.second event).is-sound
  next-by s (hungry contents used) g = states-back (stream.laid lent.bytes contents.held) _ _ contents (handed_in lent).books refl refl g.noise-less s.is-sound
  next-by s (done contents) g =
      states-back (stream.laid lent.bytes contents.held) _ _ contents (handed_in lent).books refl refl (omega (arith, ap (λ c. c.noise) g)) s.is-sound

  next-guarded : (o : Outcome) → (longest_frame ≤ length lent.bytes → sound lent.bytes (tray_in lent.tray) ≡ true → Good o)
      → state_in (leaves lent (result_of (handed_in lent) (guarded (handed_in lent) o)))
      ≡ after (guarded (handed_in lent) o)
  unfolding state_said laid desk.lacks_room
  next-guarded o w = go (prepare.lacks_room lent.bytes lent.live lent.run lent.log) (are_sound lent) refl refl
    where
      go : (b s : Bool) → prepare.lacks_room lent.bytes lent.live lent.run lent.log ≡ b → are_sound lent ≡ s
          → state_in (leaves lent (result_of (handed_in lent) (stop b (refused refusal.Room) (stop (not s) (refused refusal.State) o)))) ≡ after (stop b (refused refusal.Room) (stop (not s) (refused refusal.State) o))
      go true s q r = refl
      go false false q r = refl
      go false true q r =
          let x = neither (ltb (length lent.bytes) longest_frame) _ q in
          let y = neither (ltb (length lent.live) book_bytes) _ x.1 in
          let z = neither (ltb (length lent.run) book_bytes) _ y.1 in
          let d : Bool = desk_sound (desk_in lent.desk) lent.live lent.run in
          let t : Bool = sound lent.bytes (tray_in lent.tray) in
          next-by (record { live-room = ltb-false _ _ y.0; run_room = ltb-false _ _ z.0; is-sound = both_left d t r }) o (w (ltb-false _ _ x.0) (both_right d t r))

-- ---- the theorems, refusals included; where a slice of numbers is short, nothing changes (specs/Refusals.antt)

module _ (lent : Lent) (room : lacks_room lent.tray lent.desk lent.told lent.header ≡ false) where
  pub next-call : (input : List ℕ) → state_in (call_leaves lent input) ≡ driver.call_leaves (state_in lent) (given_in lent) input
  unfolding call_leaves lent_by call_result call_outcome
  next-call input =
      rw room
      (next-guarded lent (called lent.bytes (tray_in lent.tray) input)
      (λ h s. call_kept lent.bytes (tray_in lent.tray) input (record { room = h; is-sound = s })))

  pub next-finish : state_in (finish_leaves lent) ≡ driver.finish_leaves (state_in lent) (given_in lent)
  unfolding finish_leaves lent_by finish_result finish_outcome
  next-finish =
      rw room
      (next-guarded lent (finished lent.bytes (tray_in lent.tray)) (λ h s. end_kept lent.bytes (tray_in lent.tray) (record { room = h; is-sound = s })))
