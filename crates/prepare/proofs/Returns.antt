-- Serves proofs, and is proved: what lacks_room, answered, give and step return, in plain variables. Assumes nothing.
use Rattle.std.specs.Prelude.{Ok, Err}
use mathlib.Core.Path.{◌≡◌, refl, sym, ap, ap₂, ◌∙◌, subst}
use mathlib.Core.Bool.{Bool, true, false, not}
use mathlib.Core.List.{List, [], ◌∷◌}
use mathlib.Core.Logic.{⊎_elim}
use Prim.Native.Nat.{ℕ, ◌≤◌, ◌<◌}
use native.Mathlib.Omega.{arith}
use lib.Dec.{ltb}
use lib.ListN.{length, take, length-take}
use lib.Seq.{length-take-le}
use borrow.Author.Tests.{lt-ltb, le-ltb, not-true, not-false}
use Rattle.sizes.specs.Sizes.{longest_frame, book_bytes, log_room}
use Rattle.frame.specs.declared.Frame.{Frame}
use Rattle.frame.specs.declared.Checked.TheVariants.{Accepted}
use Rattle.frame.specs.Check.{checked, payload_in}
use Rattle.frame.specs.Laws.{accepted-length}
use types.Run.{OneOf}
use denote.Enum.Declared.{tag_of}
use Rattle.stream.specs.declared.Said as stream-said
use Rattle.stream.specs.contracts.Said.{the_type}
use Rattle.stream.specs.declared.Said.TheVariants as hears
use Rattle.stream.specs.declared.Answer as stream-answer
use Rattle.groups.specs.Groups.{groups_of_all}
use Rattle.desk.specs.declared.Desk.{Desk}
use Rattle.desk.specs.declared.Taken.{Taken}
use Rattle.desk.specs.Desk.{desk_sound}
use Rattle.desk.specs.Take as desk
use Rattle.desk.specs.History.{Held, handled_at, held_by}
use Rattle.prepare.specs.declared.Answer.{Answer}
use Rattle.prepare.specs.declared.Said.{Said}
use Rattle.prepare.specs.declared.Said.TheVariants as said
use Rattle.answer.specs.declared.Fault.{Fault}
use Rattle.answer.specs.declared.Refusal.TheVariants as refusal
use Rattle.prepare.specs.Uncut.{Told, verdict_on, told_by, entries_of}
use Rattle.prepare.specs.Prepare.{lacks_room, books_in, said_of, written, Result, results}
use Rattle.prepare.specs.Moves.{tested_of, taken, untaken, moved, passed_on, Lies}

-- ---- lacks_room

module _ (bytes live run log : List ℕ) where
  pub room-tray : length bytes < longest_frame → true ≡ lacks_room bytes live run log
  room-tray h = rw (lt-ltb (length bytes) longest_frame h)

  pub room-live : longest_frame ≤ length bytes → length live < book_bytes
      → true ≡ lacks_room bytes live run log
  unfolding desk.lacks_room
  room-live h k = rw (le-ltb (length bytes) longest_frame h, lt-ltb (length live) book_bytes k)

  pub room-run : longest_frame ≤ length bytes → book_bytes ≤ length live → length run < book_bytes
      → true ≡ lacks_room bytes live run log
  unfolding desk.lacks_room
  room-run h k l = rw (le-ltb (length bytes) longest_frame h, le-ltb (length live) book_bytes k, lt-ltb (length run) book_bytes l)

  pub room-log : longest_frame ≤ length bytes → book_bytes ≤ length live → book_bytes ≤ length run
      → ltb (length log) log_room ≡ lacks_room bytes live run log
  unfolding desk.lacks_room
  room-log h k l = rw (le-ltb (length bytes) longest_frame h, le-ltb (length live) book_bytes k, le-ltb (length run) book_bytes l)

-- ---- test_lent

module _ (bytes live run log : List ℕ) (d : Desk) (a : Bool) where
  pub failed-room : a ≡ true → a ≡ lacks_room bytes live run log
      → Err refusal.Room ≡ tested_of bytes (books_in d live run) log
  unfolding tested_of
  failed-room p e = let z : lacks_room bytes live run log ≡ true = sym e ∙ p in rw z

  module _ (b : Bool) where
    pub failed-state : not b ≡ true → b ≡ desk_sound d live run → a ≡ false
        → a ≡ lacks_room bytes live run log
        → Err refusal.State ≡ tested_of bytes (books_in d live run) log
    unfolding tested_of
    failed-state q f p e =
        let z : lacks_room bytes live run log ≡ false = sym e ∙ p in
        let y : desk_sound d live run ≡ false = sym f ∙ not-true b q in
        rw (z, y)

    pub passed : not b ≡ false → b ≡ desk_sound d live run → a ≡ false
        → a ≡ lacks_room bytes live run log
        → Ok tt ≡ tested_of bytes (books_in d live run) log
    unfolding tested_of
    passed q f p e =
        let z : lacks_room bytes live run log ≡ false = sym e ∙ p in
        let y : desk_sound d live run ≡ true = sym f ∙ not-false b q in
        rw (z, y)

-- ---- answered

module _ (heard : stream-answer.Answer) (f : Frame) (t : Taken) where
  pub answered-accepted : (log : ℕ) → t.said ≡ Ok log
      → record { said = said.Accepted f; used = heard.used; log = log; tray = heard.tray; desk = t.desk }
      ≡ taken heard f t
  answered-accepted log q = rw q

  pub answered-refused : (why : Fault) → t.said ≡ Err why
      → record { said = said.FrameRefused f why; used = heard.used; log = 0; tray = heard.tray; desk = t.desk }
      ≡ taken heard f t
  answered-refused why q = rw q

-- ---- give

-- an accepted frame's bytes are there
pub frame-there : (f : Frame) (bytes : List ℕ) → checked (take f.length bytes) ≡ Accepted f
    → f.length ≡ length (take f.length bytes)
frame-there f bytes e =
    let h : f.length ≤ length (take f.length bytes) = (accepted-length (take f.length bytes) f e).1 in
    sym (length-take-le f.length bytes (omega (arith, length-take f.length bytes)))

module _ (d : Desk) (second : ℕ) (live run log : List ℕ) (heard : stream-answer.Answer) (f : Frame) (b : List ℕ) where
  abbrev by : desk.Verdict → Held
  by v = handled_at (books_in d live run) second v

  abbrev told : desk.Verdict → Told
  told v = told_by (by v) f b v

  answer-by : (v : desk.Verdict) → taken heard f (desk.taken_by (by v).desk live run v) ≡ record {
    said = said_of (told v);
    used = heard.used;
    log = length (entries_of (told v));
    tray = heard.tray;
    desk = (held_by (by v) v).desk;
  }
  answer-by (desk.refused why) = refl
  answer-by (desk.defines book bytes) = refl
  answer-by (desk.continues book message) = refl
  answer-by (desk.opens tag message) = refl

  log-by : (v : desk.Verdict) → desk.log_by (by v).desk live run log v ≡ written (entries_of (told v)) log
  unfolding desk.logged_by groups_of_all
  log-by (desk.refused why) = refl
  log-by (desk.defines book bytes) = refl
  log-by (desk.continues book message) = refl
  log-by (desk.opens tag message) = refl

-- what the desk leaves is what is moved
pub gives : (d : Desk) (second : ℕ) (live run log bytes : List ℕ) (heard : stream-answer.Answer) (f : Frame) (r : Answer) (t : Taken) (live' run' log' : List ℕ)
    → r ≡ taken heard f t
    → (p : List ℕ) → p ≡ payload_in f (take f.length bytes)
    → desk.results t live' run' log' ≡ desk.settled_by d second live run log (desk.by_header (desk.handling d second) live f p)
    → checked (take f.length bytes) ≡ Accepted f
    → results r bytes live' run' log' ≡ moved (books_in d live run) second heard (hears.Frame f) bytes log
unfolding verdict_on
gives d second live run log bytes heard f r t live' run' log' k p q l e =
    let b : List ℕ = take f.length bytes in
    let now : desk.Verdict = verdict_on (books_in d live run) second b in
    let v : desk.by_header (desk.handling d second) live f p ≡ now
    = ap (desk.by_header (desk.handling d second) live f) q ∙ ap (λ c. desk.by_frame (desk.handling d second) live c b) (sym e) in
    ap (λ r. results r bytes live' run' log') k
    ∙ ap (λ left. results (taken heard f left.answer) bytes left.live left.run left.log) (l ∙ ap (desk.settled_by d second live run log) v)
    ∙ ap₂ (λ x y. results x bytes (desk.live_by live now) (desk.run_bytes_by (desk.leaving d second now) live run now) y)
    (answer-by d second live run log heard f b now) (log-by d second live run log heard f b now)

-- ---- step

-- what the code knows past `if let stream::Said::Frame(header)`: the variant is one of the others
abbrev pub Other : stream-said.Said → Type 0
Other v = OneOf (1 ∷ 2 ∷ 3 ∷ 4 ∷ []) (tag_of the_type v)

not_first : (f : Frame) → Other (hears.Frame f) → ⊥
not_first f o = ⊎_elim (λ z. omega arith) (⊎_elim (λ z. omega arith) (⊎_elim (λ z. omega arith) (λ z. omega arith))) o

module _ (d : Desk) (second : ℕ) (live run log bytes : List ℕ) (heard : stream-answer.Answer) (r : Answer) where
  abbrev moved_by : stream-said.Said → Result
  moved_by s = moved (books_in d live run) second heard s bytes log

  pub step-frame : (f : Frame) (live' run' log' : List ℕ)
      → results r bytes live' run' log' ≡ moved_by (hears.Frame f)
      → heard.said ≡ hears.Frame f → results r bytes live' run' log' ≡ moved_by heard.said
  step-frame f live' run' log' m q = m ∙ ap moved_by (sym q)

  -- what is no frame does not reach the desk
  moved_other : (s : stream-said.Said) → Other s → results (untaken heard (passed_on s) d) bytes live run log ≡ moved_by s
  moved_other (hears.Frame f) o = absurd (not_first f o)
  moved_other (hears.Noise count) o = refl
  moved_other hears.Hungry o = refl
  moved_other hears.Done o = refl
  moved_other (hears.Refused why) o = refl

  pub step_other : (s : stream-said.Said) (x : Said) → heard.said ≡ s → Other s → x ≡ passed_on s → r ≡ untaken heard x d → results r bytes live run log ≡ moved_by heard.said
  step_other s x q o p e = ap (λ r. results r bytes live run log) (e ∙ ap (λ y. untaken heard y d) p) ∙ moved_other s o ∙ ap moved_by (sym q)

-- a frame that is told lies first
pub frame-lies : (s : stream-said.Said) (f : Frame) (bytes : List ℕ) → Lies s bytes
    → s ≡ hears.Frame f → checked (take f.length bytes) ≡ Accepted f
frame-lies s f bytes l q = subst (λ s. Lies s bytes) q l
