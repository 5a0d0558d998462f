-- Serves proofs, and is proved: what call and finish return, in plain variables. Assumes nothing.
use Rattle.std.specs.Prelude.{Ok, Err}
use mathlib.Core.Path.{◌≡◌, refl, sym, ap, ap₂, ◌∙◌, subst}
use mathlib.Core.Bool.{Bool, true, false, cond, not, ◌||◌}
use mathlib.Core.List.{List}
use Prim.Native.Nat.{ℕ}
use native.Mathlib.Omega.{arith}
use lib.Dec.{ltb}
use lib.ListN.{length, take}
use borrow.Author.Tests.{ltb-false}
use Rattle.sizes.specs.Sizes.{longest_frame}
use Rattle.answer.specs.Stop.{stop}
use Rattle.answer.specs.declared.Refusal.{Refusal}
use Rattle.answer.specs.declared.Refusal.TheVariants as refusal
use Rattle.frame.specs.declared.Checked.TheVariants.{Accepted}
use Rattle.frame.specs.Check.{checked}
use Rattle.frame.specs.Laws.{own-bytes}
use Rattle.stream.specs.declared.Tray.{Tray}
use Rattle.stream.specs.declared.Answer as stream-answer
use Rattle.stream.specs.Scan.{frame, noise}
use Rattle.stream.specs.Tray as stream
use Rattle.stream.specs.Driver as streaming
use Rattle.stream.specs.Kept.{Good}
use Rattle.stream.specs.Steps.{call_kept, end_kept}
use Rattle.desk.specs.declared.Desk.{Desk}
use Rattle.desk.specs.Desk.{desk_sound}
use Rattle.desk.specs.Take as desk
use Rattle.desk.specs.History.{Held}
use Rattle.prepare.specs.declared.Answer.{Answer}
use Rattle.prepare.specs.declared.Said.TheVariants as said
use Rattle.prepare.specs.Results.{Tested}
use Rattle.prepare.specs.Uncut.{told_of, books_after, entries_of}
use Rattle.prepare.specs.Prepare as prepare
use Rattle.prepare.specs.Prepare.{Handed, books_in, hands, lacks_room, guarded, call_outcome, finish_outcome, written, results, result_of, by_call, by_finish}
use Rattle.prepare.specs.Steps.{itself}
use Rattle.prepare.specs.Moves.{tested_of, moved, Lies, listened_answer, listened_bytes}

-- ---- what the stream comes to: a refusal, which is STATE where the tray has room and is not sound, or a step that keeps the tray sound

abbrev Settled : stream.Outcome → Type 0
Settled (stream.refused r) = Unit {0}
Settled (stream.told e c n) = Good (stream.told e c n)
Settled (stream.hungry c n) = Unit {0}
Settled (stream.done c) = Unit {0}

good-settled : (o : stream.Outcome) → Good o → Settled o
good-settled (stream.refused r) g = tt
good-settled (stream.told e c n) g = g
good-settled (stream.hungry c n) g = tt
good-settled (stream.done c) g = tt

record Steps (bytes : List ℕ) (tray : Tray) (o : stream.Outcome) : Type 0 where
  is-settled : Settled o
  when-not : ltb (length bytes) longest_frame ≡ false → stream.sound bytes tray ≡ false
      → o ≡ stream.refused refusal.State

steps_of : (bytes : List ℕ) (tray : Tray) (o : stream.Outcome)
    → (streaming.Ready bytes tray → Good o)
    → (ltb (length bytes) longest_frame ≡ true → o ≡ stream.refused refusal.Room)
    → (ltb (length bytes) longest_frame ≡ false → stream.sound bytes tray ≡ false → o ≡ stream.refused refusal.State)
    → Steps bytes tray o
steps_of bytes tray o k f g =
    record { is-settled = go (ltb (length bytes) longest_frame) (stream.sound bytes tray) refl refl; when-not = g }
  where
    go : (a b : Bool) → ltb (length bytes) longest_frame ≡ a → stream.sound bytes tray ≡ b
        → Settled o
    go true b p q = subst (λ o. Settled o) (sym (f p)) tt
    go false false p q = subst (λ o. Settled o) (sym (g p q)) tt
    go false true p q = good-settled o (k (record { room = ltb-false _ _ p; is-sound = q }))

-- `call` and `finish` differ in this alone
call-steps : (bytes : List ℕ) (tray : Tray) (input : List ℕ)
    → Steps bytes tray (stream.called bytes tray input)
unfolding stream.called
call-steps bytes tray input =
    steps_of bytes tray (stream.called bytes tray input) (call_kept bytes tray input) (λ p. rw p) (λ p q. rw (p, q))

finish-steps : (bytes : List ℕ) (tray : Tray) → Steps bytes tray (stream.finished bytes tray)
unfolding stream.finished
finish-steps bytes tray = steps_of bytes tray (stream.finished bytes tray) (end_kept bytes tray) (λ p. rw p) (λ p q. rw (p, q))

-- ---- a frame that is told lies first

lies : (bytes : List ℕ) (tray : Tray) (o : stream.Outcome) → Settled o
    → Lies (stream.answer_of tray o).said (stream.bytes_of bytes o)
lies bytes tray (stream.refused r) g = tt
lies bytes tray (stream.told (frame f b) c n) g =
    let q : frame f b ≡ frame f (take f.length (stream.laid bytes c.held)) = itself bytes tray (frame f b) c n g in
    let p : b ≡ take f.length (stream.laid bytes c.held) = cc in
    subst (λ b. checked b ≡ Accepted f) (sym g.0 ∙ p) (own-bytes c.held f g.1)
lies bytes tray (stream.told (noise k) c n) g = tt
lies bytes tray (stream.hungry c n) g = tt
lies bytes tray (stream.done c) g = tt

said-lies : (bytes : List ℕ) (tray : Tray) (o : stream.Outcome) → Steps bytes tray o
    → (heard : stream-answer.Answer) → heard ≡ stream.answer_of tray o
    → (bytes' : List ℕ) → bytes' ≡ stream.bytes_of bytes o → Lies heard.said bytes'
said-lies bytes tray o w heard a bytes' x = rw (a, x) (lies bytes tray o w.is-settled)

pub ended-answer : (ended : Bool) (bytes : List ℕ) (tray : Tray) (input : List ℕ) (heard : stream-answer.Answer) → ended ≡ true → heard ≡ stream.finish_answer bytes tray
    → heard ≡ listened_answer ended bytes tray input
ended-answer ended bytes tray input heard t e = rw t e

pub ended-bytes : (ended : Bool) (bytes : List ℕ) (tray : Tray) (input bytes' : List ℕ) → ended ≡ true → bytes' ≡ stream.finish_bytes bytes tray → bytes' ≡ listened_bytes ended bytes tray input
ended-bytes ended bytes tray input bytes' t e = rw t e

pub portion-answer : (ended : Bool) (bytes : List ℕ) (tray : Tray) (input : List ℕ) (heard : stream-answer.Answer) → ended ≡ false → heard ≡ stream.call_answer bytes tray input
    → heard ≡ listened_answer ended bytes tray input
portion-answer ended bytes tray input heard t e = rw t e

pub portion-bytes : (ended : Bool) (bytes : List ℕ) (tray : Tray) (input bytes' : List ℕ) → ended ≡ false → bytes' ≡ stream.call_bytes bytes tray input → bytes' ≡ listened_bytes ended bytes tray input
portion-bytes ended bytes tray input bytes' t e = rw t e

pub call_lies : (bytes : List ℕ) (tray : Tray) (input : List ℕ) (heard : stream-answer.Answer)
    → heard ≡ stream.call_answer bytes tray input
    → (bytes' : List ℕ) → bytes' ≡ stream.call_bytes bytes tray input → Lies heard.said bytes'
call_lies bytes tray input = said-lies bytes tray (stream.called bytes tray input) (call-steps bytes tray input)

pub finish-lies : (bytes : List ℕ) (tray : Tray) (heard : stream-answer.Answer)
    → heard ≡ stream.finish_answer bytes tray
    → (bytes' : List ℕ) → bytes' ≡ stream.finish_bytes bytes tray → Lies heard.said bytes'
finish-lies bytes tray = said-lies bytes tray (stream.finished bytes tray) (finish-steps bytes tray)

-- ---- what the stream's step moves is what is answered

moved-is : (handed : Handed) (o : stream.Outcome) → Settled o
    → moved handed.books handed.second (stream.answer_of handed.tray o) (stream.answer_of handed.tray o).said (stream.bytes_of handed.bytes o) handed.log
    ≡ result_of handed o
moved-is handed (stream.refused r) g = refl
moved-is handed (stream.told (frame f b) c n) g =
    let books = handed.books in
    let second = handed.second in
    let q : frame f (take f.length (stream.laid handed.bytes c.held)) ≡ frame f b = sym (itself handed.bytes handed.tray (frame f b) c n g) in
    ap (λ e. results
    (record { said = prepare.said_of (told_of books second e); used = n; log = length (entries_of (told_of books second e)); tray = stream.tray_of c; desk = (books_after books second e).desk })
    (stream.laid handed.bytes c.held) (books_after books second e).live (books_after books second e).run (written (entries_of (told_of books second e)) handed.log)) q
moved-is handed (stream.told (noise k) c n) g = refl
moved-is handed (stream.hungry c n) g = refl
moved-is handed (stream.done c) g = refl

-- ---- past ROOM and STATE, and what was tested

data Testing (bytes : List ℕ) (books : Held) (log : List ℕ) : Tested → Type 0 where
  no_room : lacks_room bytes books.live books.run log ≡ true
      → Testing bytes books log (Err refusal.Room)
  unsound : lacks_room bytes books.live books.run log ≡ false
      → desk_sound books.desk books.live books.run ≡ false
      → Testing bytes books log (Err refusal.State)
  goes_on : lacks_room bytes books.live books.run log ≡ false
      → desk_sound books.desk books.live books.run ≡ true
      → Testing bytes books log (Ok tt)

testing : (bytes : List ℕ) (books : Held) (log : List ℕ)
    → Testing bytes books log (tested_of bytes books log)
unfolding tested_of
testing bytes books log = go (lacks_room bytes books.live books.run log) (desk_sound books.desk books.live books.run) refl refl
  where
    go : (a b : Bool) → lacks_room bytes books.live books.run log ≡ a
        → desk_sound books.desk books.live books.run ≡ b
        → Testing bytes books log (cond a (Err refusal.Room) (cond b (Ok tt) (Err refusal.State)))
    go true b p q = no_room p
    go false false p q = unsound p q
    go false true p q = goes_on p q

module _ (bytes : List ℕ) (books : Held) (log : List ℕ) where
  is-sound : Testing bytes books log (Ok tt)
      → desk_sound books.desk books.live books.run ≡ true
  is-sound (goes_on p q) = q

  has_room : Testing bytes books log (Ok tt)
      → lacks_room bytes books.live books.run log ≡ false
  has_room (goes_on p q) = p

neither : (a b : Bool) → (a || b) ≡ false → (a ≡ false) × (b ≡ false)
neither false b e = (refl, e)
neither true b e = let z : ◌≡◌ {A = ℕ} 0 1 = cc in absurd (omega arith)

module _ (bytes : List ℕ) (d : Desk) (live run log : List ℕ) (e : tested_of bytes (books_in d live run) log ≡ Ok tt) where
  passed : Testing bytes (books_in d live run) log (Ok tt)
  passed = subst (λ x. Testing bytes (books_in d live run) log x) e (testing bytes (books_in d live run) log)

  passed-sound : desk_sound d live run ≡ true
  passed-sound = is-sound bytes (books_in d live run) log passed

  rooms : (ltb (length bytes) longest_frame ≡ false) × (desk.lacks_room live run log ≡ false)
  rooms = neither (ltb (length bytes) longest_frame) (desk.lacks_room live run log) (has_room bytes (books_in d live run) log passed)

  passed-room : desk.lacks_room live run log ≡ false
  passed-room = rooms.1

pub tested-sound : (bytes : List ℕ) (d : Desk) (live run log : List ℕ) (x : Tested) → x ≡ Ok tt → x ≡ tested_of bytes (books_in d live run) log → desk_sound d live run ≡ true
tested-sound bytes d live run log x p e = passed-sound bytes d live run log (sym e ∙ p)

pub tested-room : (bytes : List ℕ) (d : Desk) (live run log : List ℕ) (x : Tested) → x ≡ Ok tt → x ≡ tested_of bytes (books_in d live run) log → desk.lacks_room live run log ≡ false
tested-room bytes d live run log x p e = passed-room bytes d live run log (sym e ∙ p)

-- what is tested has failed, or it has passed
pub only-passed : (x : Tested) → ((why : Refusal) → x ≡ Err why → ⊥) → x ≡ Ok tt
only-passed (Ok _) n = refl
only-passed (Err why) n = absurd (n why refl)

-- ---- the answer and every lent byte, of a step that ROOM and STATE guard

module _ (bytes : List ℕ) (tray : Tray) (d : Desk) (live run log : List ℕ) (second : ℕ) (o : stream.Outcome) where
  abbrev handed : Handed
  handed = hands bytes tray d live run log second

  left-failed : (r : Answer) (why : Refusal) → r ≡ record { said = said.Refused why; used = 0; log = 0; tray = tray; desk = d }
      → (x : Tested) → x ≡ Err why → x ≡ tested_of bytes (books_in d live run) log
      → results r bytes live run log ≡ result_of handed (guarded handed o)
  left-failed r why k x p e =
      ap (λ r. results r bytes live run log) k
      ∙ go (Err why) (subst (λ x. Testing bytes (books_in d live run) log x) (sym e ∙ p) (testing bytes (books_in d live run) log)) refl
    where
      go : (t : Tested) → Testing bytes (books_in d live run) log t → Err why ≡ t
          → results (record { said = said.Refused why; used = 0; log = 0; tray = tray; desk = d }) bytes live run log
          ≡ result_of handed (guarded handed o)
      go t (no_room a) q = let z : why ≡ refusal.Room = cc in rw (z, a)
      go t (unsound a b) q = let z : why ≡ refusal.State = cc in rw (z, a, b)
      go t (goes_on a b) q = let z : ◌≡◌ {A = ℕ} 0 1 = cc in absurd (omega arith)

  left_passed : Steps bytes tray o → (r : Answer) (bytes' live' run' log' : List ℕ)
      → results r bytes' live' run' log' ≡ result_of handed o
      → (x : Tested) → x ≡ Ok tt → x ≡ tested_of bytes (books_in d live run) log
      → results r bytes' live' run' log' ≡ result_of handed (guarded handed o)
  left_passed w r bytes' live' run' log' l x p e = l ∙ ap (result_of handed) (sym step_is)
    where
      step_is : guarded handed o ≡ o
      step_is =
          let rest = rooms bytes d live run log (sym e ∙ p) in
          let s = passed-sound bytes d live run log (sym e ∙ p) in
          rw (rest.0, rest.1, s) (go (stream.sound bytes tray) refl)
        where
          go : (b : Bool) → stream.sound bytes tray ≡ b → stop (not b) (stream.refused refusal.State) o ≡ o
          go true q = refl
          go false q = sym (w.when-not (rooms bytes d live run log (sym e ∙ p)).0 q)

  left-heard : Steps bytes tray o
      → (r : Answer) (bytes' live' run' log' : List ℕ) (heard : stream-answer.Answer)
      → results r bytes' live' run' log' ≡ moved (books_in d live run) second heard heard.said bytes' log
      → heard ≡ stream.answer_of tray o → bytes' ≡ stream.bytes_of bytes o
      → results r bytes' live' run' log' ≡ result_of handed o
  left-heard w r bytes' live' run' log' heard m a y =
      m ∙ ap₂ (λ h b. moved (books_in d live run) second h h.said b log) a y ∙ moved-is handed o w.is-settled

-- `call` ..

module _ (bytes : List ℕ) (tray : Tray) (d : Desk) (live run log input : List ℕ) (second : ℕ) where
  pub call-failed : (r : Answer) (why : Refusal) → r ≡ record { said = said.Refused why; used = 0; log = 0; tray = tray; desk = d }
      → (x : Tested) → x ≡ Err why → x ≡ tested_of bytes (books_in d live run) log
      → results r bytes live run log ≡ by_call (hands bytes tray d live run log second) input
  unfolding call_outcome
  call-failed = left-failed bytes tray d live run log second (stream.called bytes tray input)

  call-passed : (r : Answer) (bytes' live' run' log' : List ℕ)
      → results r bytes' live' run' log'
      ≡ result_of (hands bytes tray d live run log second) (stream.called bytes tray input)
      → (x : Tested) → x ≡ Ok tt → x ≡ tested_of bytes (books_in d live run) log
      → results r bytes' live' run' log' ≡ by_call (hands bytes tray d live run log second) input
  unfolding call_outcome
  call-passed = left_passed bytes tray d live run log second (stream.called bytes tray input) (call-steps bytes tray input)

  call-heard : (r : Answer) (bytes' live' run' log' : List ℕ) (heard : stream-answer.Answer)
      → results r bytes' live' run' log' ≡ moved (books_in d live run) second heard heard.said bytes' log
      → heard ≡ stream.call_answer bytes tray input → bytes' ≡ stream.call_bytes bytes tray input
      → results r bytes' live' run' log'
      ≡ result_of (hands bytes tray d live run log second) (stream.called bytes tray input)
  call-heard = left-heard bytes tray d live run log second (stream.called bytes tray input) (call-steps bytes tray input)

  pub call-moved : (r : Answer) (bytes' live' run' log' : List ℕ) (heard : stream-answer.Answer)
      → results r bytes' live' run' log' ≡ moved (books_in d live run) second heard heard.said bytes' log
      → heard ≡ stream.call_answer bytes tray input → bytes' ≡ stream.call_bytes bytes tray input
      → (x : Tested) → x ≡ Ok tt → x ≡ tested_of bytes (books_in d live run) log
      → results r bytes' live' run' log' ≡ by_call (hands bytes tray d live run log second) input
  call-moved r bytes' live' run' log' heard m a y = call-passed r bytes' live' run' log' (call-heard r bytes' live' run' log' heard m a y)

-- .. and `finish`

module _ (bytes : List ℕ) (tray : Tray) (d : Desk) (live run log : List ℕ) (second : ℕ) where
  pub finish-failed : (r : Answer) (why : Refusal) → r ≡ record { said = said.Refused why; used = 0; log = 0; tray = tray; desk = d }
      → (x : Tested) → x ≡ Err why → x ≡ tested_of bytes (books_in d live run) log
      → results r bytes live run log ≡ by_finish (hands bytes tray d live run log second)
  unfolding finish_outcome
  finish-failed = left-failed bytes tray d live run log second (stream.finished bytes tray)

  finish-passed : (r : Answer) (bytes' live' run' log' : List ℕ)
      → results r bytes' live' run' log'
      ≡ result_of (hands bytes tray d live run log second) (stream.finished bytes tray)
      → (x : Tested) → x ≡ Ok tt → x ≡ tested_of bytes (books_in d live run) log
      → results r bytes' live' run' log' ≡ by_finish (hands bytes tray d live run log second)
  unfolding finish_outcome
  finish-passed = left_passed bytes tray d live run log second (stream.finished bytes tray) (finish-steps bytes tray)

  finish-heard : (r : Answer) (bytes' live' run' log' : List ℕ) (heard : stream-answer.Answer)
      → results r bytes' live' run' log' ≡ moved (books_in d live run) second heard heard.said bytes' log
      → heard ≡ stream.finish_answer bytes tray → bytes' ≡ stream.finish_bytes bytes tray
      → results r bytes' live' run' log'
      ≡ result_of (hands bytes tray d live run log second) (stream.finished bytes tray)
  finish-heard = left-heard bytes tray d live run log second (stream.finished bytes tray) (finish-steps bytes tray)

  pub finish-moved : (r : Answer) (bytes' live' run' log' : List ℕ) (heard : stream-answer.Answer)
      → results r bytes' live' run' log' ≡ moved (books_in d live run) second heard heard.said bytes' log
      → heard ≡ stream.finish_answer bytes tray → bytes' ≡ stream.finish_bytes bytes tray
      → (x : Tested) → x ≡ Ok tt → x ≡ tested_of bytes (books_in d live run) log
      → results r bytes' live' run' log' ≡ by_finish (hands bytes tray d live run log second)
  finish-moved r bytes' live' run' log' heard m a y = finish-passed r bytes' live' run' log' (finish-heard r bytes' live' run' log' heard m a y)
