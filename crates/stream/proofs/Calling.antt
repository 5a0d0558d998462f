-- The returns of `call` and `finish`, in plain values: ROOM, STATE, and past them the shown frame is dropped and the loop's outcome is that of the definition.
use mathlib.Core.Path.{◌≡◌, refl, sym, ap, ◌∙◌}
use mathlib.Core.List.{List}
use mathlib.Core.Bool.{Bool, true, false, not}
use Prim.Native.Nat.{ℕ, ◌-◌, ◌≤◌, ◌<◌}
use native.Mathlib.Omega.{arith}
use lib.ListN.{length, take, drop}
use borrow.Author.Tests.{lt-ltb, le-ltb, not-true, not-false}
use Rattle.sizes.specs.Sizes.{longest_frame}
use Rattle.answer.specs.declared.Refusal.TheVariants.{Room, State}
use Rattle.stream.specs.declared.Tray.{Tray}
use Rattle.stream.specs.declared.Answer.{Answer}
use Rattle.stream.specs.declared.Place.{Place}
use Rattle.stream.specs.Tray.{sound, Outcome, refused, told, hungry, done, feed, close, close_end, called, finished, fresh_tray, answer_of, laid, bytes_of, call_answer, call_bytes, finish_answer, finish_bytes}
use Rattle.stream.specs.Driver.{Ready}
use Rattle.stream.specs.Kept.{Good}
use Rattle.stream.specs.Sound.{sound-parts, laid-self, laid_same, take-laid, drop-laid}
use Rattle.stream.specs.Steps.{live_of, called_is, finished-is, call_kept, end_kept}
use Rattle.stream.specs.Walk.{shifted, Standing, fed_from, closed_from, held_by, Answered, dropped_place}
use Rattle.stream.proofs.Parts.{length_part}
use Rattle.stream.proofs.Places.{held_in, shown-in}
use Rattle.stream.proofs.Feeding.{plus-zero}
use Rattle.stream.proofs.Turns.{shifted-laid, stand-laid}

-- ---- ROOM, STATE

module _ (bytes : List ℕ) (tray : Tray) (h : length bytes < longest_frame) where
  pub room-call : (input : List ℕ) (r : Answer) → r ≡ answer_of tray (refused Room) → r ≡ call_answer bytes tray input
  unfolding called
  room-call input r e = e ∙ rw (lt-ltb (length bytes) longest_frame h)

  pub room-call-bytes : (input : List ℕ) → bytes ≡ call_bytes bytes tray input
  unfolding called
  room-call-bytes input = rw (lt-ltb (length bytes) longest_frame h)

  pub room-finish : (r : Answer) → r ≡ answer_of tray (refused Room) → r ≡ finish_answer bytes tray
  unfolding finished
  room-finish r e = e ∙ rw (lt-ltb (length bytes) longest_frame h)

  pub room-finish-bytes : bytes ≡ finish_bytes bytes tray
  unfolding finished
  room-finish-bytes = rw (lt-ltb (length bytes) longest_frame h)

module _ (bytes : List ℕ) (tray : Tray) (h : longest_frame ≤ length bytes) (s : Bool) (q : s ≡ sound bytes tray) where
  module _ (n : not s ≡ true) where
    unsound : sound bytes tray ≡ false
    unsound = sym q ∙ not-true s n

    pub state-call : (input : List ℕ) (r : Answer) → r ≡ answer_of tray (refused State) → r ≡ call_answer bytes tray input
    unfolding called
    state-call input r e = e ∙ rw (le-ltb (length bytes) longest_frame h, unsound)

    pub state-call-bytes : (input : List ℕ) → bytes ≡ call_bytes bytes tray input
    unfolding called
    state-call-bytes input = rw (le-ltb (length bytes) longest_frame h, unsound)

    pub state-finish : (r : Answer) → r ≡ answer_of tray (refused State) → r ≡ finish_answer bytes tray
    unfolding finished
    state-finish r e = e ∙ rw (le-ltb (length bytes) longest_frame h, unsound)

    pub state-finish-bytes : bytes ≡ finish_bytes bytes tray
    unfolding finished
    state-finish-bytes = rw (le-ltb (length bytes) longest_frame h, unsound)

  pub ready-now : not s ≡ false → Ready bytes tray
  ready-now n = record { room = h; is-sound = sym q ∙ not-false s n }

-- ---- past them

-- the loops answer with a fresh tray where a refusal would hand the tray back; none of them refuses
answer-kept : (tray : Tray) (o : Outcome) → Good o → answer_of fresh_tray o ≡ answer_of tray o
answer-kept tray (refused r) g = absurd g
answer-kept tray (told e c n) g = refl
answer-kept tray (hungry c n) g = refl
answer-kept tray (done c) g = refl

bytes-kept : (bytes : List ℕ) (o : Outcome) → Good o → laid bytes (held_by o) ≡ bytes_of bytes o
bytes-kept bytes (refused r) g = absurd g
bytes-kept bytes (told e c n) g = refl
bytes-kept bytes (hungry c n) g = refl
bytes-kept bytes (done c) g = refl

module _ (bytes : List ℕ) (tray : Tray) (r : Ready bytes tray) (bytes₁ : List ℕ) (place : Place)
    (d : bytes₁ ≡ shifted bytes tray.held tray.shown) (p : place ≡ dropped_place tray) where
  live-length : length (live_of bytes tray) ≡ tray.held - tray.shown
  live-length = length_part bytes tray.shown tray.held (held_in bytes tray r)

  live-fits : length (live_of bytes tray) ≤ longest_frame
  live-fits = omega (arith, live-length, (sound-parts bytes tray r.is-sound).held-most)

  dropped : bytes₁ ≡ laid bytes (live_of bytes tray)
  dropped =
      let s = sound-parts bytes tray r.is-sound in
      d ∙ shifted-laid bytes tray.held s.held-most r.room (sym (laid-self bytes tray.held r.room s.held-most s.zeros-after)) tray.shown (shown-in bytes tray r)

  pub stands : (input : List ℕ) → Standing place bytes₁ input
  stands input =
      let s = sound-parts bytes tray r.is-sound in
      rw (p, dropped)
      (stand-laid bytes (live_of bytes tray) input (dropped_place tray) live-length (omega arith) (omega (arith, s.held-most)) r.room s.noise-less (omega arith))

  live_now : take (tray.held - tray.shown) bytes₁ ≡ live_of bytes tray
  live_now = rw (dropped, ← live-length) (take-laid bytes (live_of bytes tray) live-fits)

  beyond : drop longest_frame bytes₁ ≡ drop longest_frame bytes
  beyond = rw dropped (drop-laid bytes (live_of bytes tray) live-fits)

  module _ (o o' : Outcome) (e : o ≡ o') (g : Good o') (a : Answer) (now : List ℕ) (w : Answered o bytes₁ a now) where
    answered : a ≡ answer_of tray o'
    answered = w.says ∙ ap (answer_of fresh_tray) e ∙ answer-kept tray o' g

    left : now ≡ bytes_of bytes o'
    left = w.leaves ∙ laid_same bytes₁ bytes (held_by o) beyond ∙ ap (λ x. laid bytes (held_by x)) e ∙ bytes-kept bytes o' g

  fed : (input : List ℕ) → fed_from input bytes₁ place ≡ called bytes tray input
  unfolding fed_from
  fed input = rw (p, live_now) (plus-zero (feed input (live_of bytes tray) tray.noise) ∙ sym (called_is bytes tray input r))

  closed : closed_from bytes₁ place ≡ finished bytes tray
  unfolding closed_from
  closed = rw (p, live_now) (plus-zero (close_end (close (live_of bytes tray) tray.noise)) ∙ sym (finished-is bytes tray r))

  module _ (a : Answer) (now : List ℕ) where
    pub fed-answer : (input : List ℕ) → Answered (fed_from input bytes₁ place) bytes₁ a now → a ≡ call_answer bytes tray input
    fed-answer input w = answered (fed_from input bytes₁ place) (called bytes tray input) (fed input) (call_kept bytes tray input r) a now w

    pub fed-bytes : (input : List ℕ) → Answered (fed_from input bytes₁ place) bytes₁ a now → now ≡ call_bytes bytes tray input
    fed-bytes input w = left (fed_from input bytes₁ place) (called bytes tray input) (fed input) (call_kept bytes tray input r) a now w

    pub closed-answer : Answered (closed_from bytes₁ place) bytes₁ a now → a ≡ finish_answer bytes tray
    closed-answer w = answered (closed_from bytes₁ place) (finished bytes tray) closed (end_kept bytes tray r) a now w

    pub closed-bytes : Answered (closed_from bytes₁ place) bytes₁ a now → now ≡ finish_bytes bytes tray
    closed-bytes w = left (closed_from bytes₁ place) (finished bytes tray) closed (end_kept bytes tray r) a now w
