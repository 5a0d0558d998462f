-- Serves proofs: one call, and one finish, at a sound state, beside the stream's own. Proved; assumes nothing.
use Rattle.std.specs.Prelude.{◌≡◌, refl, ◌⊎◌, false, List, [], ℕ, ◌≤◌, ltb, length, take, drop}
use Rattle.std.proofs.Common.{sym, ap, ap₂, ◌∙◌, subst, inl, inr, arith, take_at, le-ltb}
use Rattle.sizes.specs.Sizes.{longest_frame, book_bytes, log_room}
use Rattle.frame.specs.declared.Frame.{Frame}
use Rattle.stream.specs.declared.Tray.{Tray}
use Rattle.stream.specs.declared.Said.TheVariants as heard
use Rattle.stream.specs.Scan.{Event, frame, noise}
use Rattle.stream.specs.Tray as stream
use Rattle.stream.specs.Driver as streaming
use Rattle.stream.specs.Kept.{Good}
use Rattle.stream.specs.Steps.{event-step, not-said as stream-never}
use Rattle.desk.specs.Take as desk
use Rattle.desk.specs.History.{Held}
use Rattle.prepare.specs.declared.Said.{Said}
use Rattle.prepare.specs.declared.Said.TheVariants as said
use Rattle.prepare.specs.Uncut as uncut
use Rattle.prepare.specs.Uncut.{Told, told_of, told_by, books_after, verdict_on, handled_on, entries_of}
use Rattle.prepare.specs.Prepare.{Handed, guarded, answer_of, books_of, log_of, said_of, written}
use Rattle.prepare.specs.Driver.{Sound, Tells}

-- past ROOM and STATE the step is the stream's
pub guarded-is : (handed : Handed) (o : stream.Outcome)
    → streaming.Ready handed.bytes handed.tray → Sound handed.books
    → log_room ≤ length handed.log → guarded handed o ≡ o
unfolding desk.lacks_room
guarded-is handed o r s h =
    let a : ltb (length handed.bytes) longest_frame ≡ false = le-ltb (length handed.bytes) longest_frame r.room in
    let b : ltb (length handed.books.live) book_bytes ≡ false = le-ltb (length handed.books.live) book_bytes s.live-room in
    let c : ltb (length handed.books.run) book_bytes ≡ false = le-ltb (length handed.books.run) book_bytes s.run_room in
    let d : ltb (length handed.log) log_room ≡ false = le-ltb (length handed.log) log_room h in
    rw (a, b, c, d, s.is-sound, r.is-sound)

-- ---- of a frame that lies first among the bytes, with its entries first in the log

by_entries : (log bytes : List ℕ) (f : Frame) (b entries : List ℕ) → b ≡ take f.length bytes
    → uncut.accepted f b entries
    ≡ uncut.accepted f (take f.length bytes) (take (length entries) (written entries log))
by_entries log bytes f b entries q = ap₂ (uncut.accepted f) q (sym (take_at entries (drop (length entries) log) (length entries) refl))

by-verdict : (books : Held) (log bytes : List ℕ) (f : Frame) (b : List ℕ) (v : desk.Verdict)
    → b ≡ take f.length bytes
    → Tells (said_of (told_by books f b v)) (length (entries_of (told_by books f b v))) bytes (written (entries_of (told_by books f b v)) log) (told_by books f b v)
by-verdict books log bytes f b (desk.refused why) q = ap (λ b. uncut.refused f b why) q
by-verdict books log bytes f b (desk.defines book live) q = by_entries log bytes f b _ q
by-verdict books log bytes f b (desk.continues book message) q = by_entries log bytes f b _ q
by-verdict books log bytes f b (desk.opens tag message) q = by_entries log bytes f b _ q

not-said : (books : Held) (f : Frame) (b : List ℕ) (v : desk.Verdict)
    → (said_of (told_by books f b v) ≡ said.Hungry) ⊎ (said_of (told_by books f b v) ≡ said.Done) → ⊥
not-said books f b (desk.refused why) (inl q) = let z : ◌≡◌ {A = ℕ} 0 1 = cc in omega arith
not-said books f b (desk.defines book live) (inl q) = let z : ◌≡◌ {A = ℕ} 0 1 = cc in omega arith
not-said books f b (desk.continues book message) (inl q) = let z : ◌≡◌ {A = ℕ} 0 1 = cc in omega arith
not-said books f b (desk.opens tag message) (inl q) = let z : ◌≡◌ {A = ℕ} 0 1 = cc in omega arith
not-said books f b (desk.refused why) (inr q) = let z : ◌≡◌ {A = ℕ} 0 1 = cc in omega arith
not-said books f b (desk.defines book live) (inr q) = let z : ◌≡◌ {A = ℕ} 0 1 = cc in omega arith
not-said books f b (desk.continues book message) (inr q) = let z : ◌≡◌ {A = ℕ} 0 1 = cc in omega arith
not-said books f b (desk.opens tag message) (inr q) = let z : ◌≡◌ {A = ℕ} 0 1 = cc in omega arith

never : (books : Held) (second : ℕ) (e : Event)
    → (said_of (told_of books second e) ≡ said.Hungry) ⊎ (said_of (told_of books second e) ≡ said.Done) → ⊥
never books second (frame f b) q = not-said (handled_on books second b) f b (verdict_on books second b) q
never books second (noise n) (inl q) = let z : ◌≡◌ {A = ℕ} 0 1 = cc in omega arith
never books second (noise n) (inr q) = let z : ◌≡◌ {A = ℕ} 0 1 = cc in omega arith

-- what is told is one thing
same-told : (w : Said) (n : ℕ) (bytes log : List ℕ) (t t' : Told) → Tells w n bytes log t
    → Tells w n bytes log t' → t ≡ t'
same-told (said.Accepted header) n bytes log t t' p q = p ∙ sym q
same-told (said.FrameRefused header why) n bytes log t t' p q = p ∙ sym q
same-told (said.Noise count) n bytes log t t' p q = p ∙ sym q
same-told said.Hungry n bytes log t t' p q = absurd p
same-told said.Done n bytes log t t' p q = absurd p
same-told (said.Refused why) n bytes log t t' p q = absurd p

-- ---- what a call tells is what the desk makes of the stream's event

abbrev pub Says : Handed → stream.Outcome → Told → Type 0
Says handed o t = Tells (answer_of handed o).said (answer_of handed o).log (stream.bytes_of handed.bytes o) (log_of handed o) t

abbrev pub Hears : (bytes : List ℕ) → Tray → stream.Outcome → Event → Type 0
Hears bytes tray o e = streaming.Tells (stream.answer_of tray o).said (stream.bytes_of bytes o) e

module _ (bytes : List ℕ) (tray : Tray) where
  -- the event is the one that is heard, and it is told as it is
  the-event : (e : Event) (c : stream.Contents) (n : ℕ) → Good (stream.told e c n) → (e' : Event)
      → Hears bytes tray (stream.told e c n) e' → e ≡ e'
  the-event e c n g e' k = event-step (λ x y. x) (λ _ _. e) bytes tray [] (λ _. e) (stream.told e c n) g (λ _. refl) e' k []

  pub itself : (e : Event) (c : stream.Contents) (n : ℕ) → Good (stream.told e c n)
      → Hears bytes tray (stream.told e c n) e
  itself (frame f b) c n g = the-event (frame f b) c n g (frame f (take f.length (stream.laid bytes c.held))) refl
  itself (noise k) c n g = refl

module _ (handed : Handed) where
  told-itself : (e : Event) (c : stream.Contents) (n : ℕ) → Good (stream.told e c n)
      → Says handed (stream.told e c n) (told_of handed.books handed.second e)
  told-itself (frame f b) c n g =
      let q : frame f b ≡ frame f (take f.length (stream.laid handed.bytes c.held)) = itself handed.bytes handed.tray (frame f b) c n g in
      by-verdict (handled_on handed.books handed.second b) handed.log (stream.laid handed.bytes c.held) f b (verdict_on handed.books handed.second b) cc
  told-itself (noise k) c n g = refl

  says : (o : stream.Outcome) → Good o → (e : Event) → Hears handed.bytes handed.tray o e
      → (Says handed o (told_of handed.books handed.second e)) × (books_of handed o ≡ books_after handed.books handed.second e)
  says (stream.refused r) g e k = absurd g
  says (stream.told e c n) g e' k =
      let q = the-event handed.bytes handed.tray e c n g e' k in
      (subst (λ e'. Says handed (stream.told e c n) (told_of handed.books handed.second e')) q (told-itself e c n g), ap (books_after handed.books handed.second) q)
  says (stream.hungry c n) g e k = absurd k
  says (stream.done c) g e k = absurd k

  hears : (o : stream.Outcome) → Good o → (t : Told) → Says handed o t
      → (e : Event) × Hears handed.bytes handed.tray o e
  hears (stream.refused r) g t k = absurd g
  hears (stream.told e c n) g t k = (e, itself handed.bytes handed.tray e c n g)
  hears (stream.hungry c n) g t k = absurd k
  hears (stream.done c) g t k = absurd k

module _ (handed : Handed) where
  hungry-so : (o : stream.Outcome) → (answer_of handed o).said ≡ said.Hungry
      → ((stream.answer_of handed.tray o).said ≡ heard.Hungry) × (books_of handed o ≡ handed.books)
  hungry-so (stream.refused r) q = let z : ◌≡◌ {A = ℕ} 0 1 = cc in absurd (omega arith)
  hungry-so (stream.told e c n) q = absurd (never handed.books handed.second e (inl q))
  hungry-so (stream.hungry c n) q = (refl, refl)
  hungry-so (stream.done c) q = let z : ◌≡◌ {A = ℕ} 0 1 = cc in absurd (omega arith)

  done-so : (o : stream.Outcome) → (answer_of handed o).said ≡ said.Done
      → ((stream.answer_of handed.tray o).said ≡ heard.Done) × (books_of handed o ≡ handed.books)
  done-so (stream.refused r) q = let z : ◌≡◌ {A = ℕ} 0 1 = cc in absurd (omega arith)
  done-so (stream.told e c n) q = absurd (never handed.books handed.second e (inr q))
  done-so (stream.hungry c n) q = let z : ◌≡◌ {A = ℕ} 0 1 = cc in absurd (omega arith)
  done-so (stream.done c) q = (refl, refl)

  so-hungry : (o : stream.Outcome) → (stream.answer_of handed.tray o).said ≡ heard.Hungry
      → ((answer_of handed o).said ≡ said.Hungry) × (books_of handed o ≡ handed.books)
  so-hungry (stream.refused r) q = let z : ◌≡◌ {A = ℕ} 0 1 = cc in absurd (omega arith)
  so-hungry (stream.told e c n) q = absurd (stream-never e (inl q))
  so-hungry (stream.hungry c n) q = (refl, refl)
  so-hungry (stream.done c) q = let z : ◌≡◌ {A = ℕ} 0 1 = cc in absurd (omega arith)

  so-done : (o : stream.Outcome) → (stream.answer_of handed.tray o).said ≡ heard.Done
      → ((answer_of handed o).said ≡ said.Done) × (books_of handed o ≡ handed.books)
  so-done (stream.refused r) q = let z : ◌≡◌ {A = ℕ} 0 1 = cc in absurd (omega arith)
  so-done (stream.told e c n) q = absurd (stream-never e (inr q))
  so-done (stream.hungry c n) q = let z : ◌≡◌ {A = ℕ} 0 1 = cc in absurd (omega arith)
  so-done (stream.done c) q = (refl, refl)

-- ---- a step of stream and desk, `o`, that is the stream's, `o'`

module _ (handed : Handed) (o o' : stream.Outcome) (q : o ≡ o') where
  -- the tray, its bytes and the bytes used are the stream's
  module _ (R : List ℕ → Tray → ℕ → Held → Type 0) where
    pub forth : R (stream.bytes_of handed.bytes o) (answer_of handed o).tray (answer_of handed o).used (books_of handed o)
        → R (stream.bytes_of handed.bytes o') (stream.answer_of handed.tray o').tray (stream.answer_of handed.tray o').used (books_of handed o')
    forth x = go o' (subst (λ o. R (stream.bytes_of handed.bytes o) (answer_of handed o).tray (answer_of handed o).used (books_of handed o)) q x)
      where
        go : (o : stream.Outcome)
            → R (stream.bytes_of handed.bytes o) (answer_of handed o).tray (answer_of handed o).used (books_of handed o)
            → R (stream.bytes_of handed.bytes o) (stream.answer_of handed.tray o).tray (stream.answer_of handed.tray o).used (books_of handed o)
        go (stream.refused r) x = x
        go (stream.told e c n) x = x
        go (stream.hungry c n) x = x
        go (stream.done c) x = x

    pub back : R (stream.bytes_of handed.bytes o') (stream.answer_of handed.tray o').tray (stream.answer_of handed.tray o').used (books_of handed o')
        → R (stream.bytes_of handed.bytes o) (answer_of handed o).tray (answer_of handed o).used (books_of handed o)
    back x = subst (λ o. R (stream.bytes_of handed.bytes o) (answer_of handed o).tray (answer_of handed o).used (books_of handed o)) (sym q) (go o' x)
      where
        go : (o : stream.Outcome)
            → R (stream.bytes_of handed.bytes o) (stream.answer_of handed.tray o).tray (stream.answer_of handed.tray o).used (books_of handed o)
            → R (stream.bytes_of handed.bytes o) (answer_of handed o).tray (answer_of handed o).used (books_of handed o)
        go (stream.refused r) x = x
        go (stream.told e c n) x = x
        go (stream.hungry c n) x = x
        go (stream.done c) x = x

  -- what is told is what the desk makes of the stream's event
  pub is-told : Good o' → (t : Told) → Says handed o t
      → (e : Event) × (Hears handed.bytes handed.tray o' e) × (t ≡ told_of handed.books handed.second e) × (books_of handed o' ≡ books_after handed.books handed.second e)
  is-told g t k =
      let k' : Says handed o' t = subst (λ o. Says handed o t) q k in
      let e = hears handed o' g t k' in
      let w = says handed o' g e.0 e.1 in (
        e.0,
        e.1,
        same-told (answer_of handed o').said (answer_of handed o').log (stream.bytes_of handed.bytes o') (log_of handed o') t (told_of handed.books handed.second e.0) k' w.0,
        w.1,
      )

  pub tells-so : Good o' → (e : Event) → Hears handed.bytes handed.tray o' e
      → (Says handed o (told_of handed.books handed.second e)) × (books_of handed o' ≡ books_after handed.books handed.second e)
  tells-so g e k =
      let w = says handed o' g e k in
      (subst (λ o. Says handed o (told_of handed.books handed.second e)) (sym q) w.0, w.1)

  -- hungry and done are the stream's
  pub is-hungry : (answer_of handed o).said ≡ said.Hungry
      → ((stream.answer_of handed.tray o').said ≡ heard.Hungry) × (books_of handed o' ≡ handed.books)
  is-hungry k = hungry-so handed o' (ap (λ o. (answer_of handed o).said) (sym q) ∙ k)

  pub is-done : (answer_of handed o).said ≡ said.Done
      → ((stream.answer_of handed.tray o').said ≡ heard.Done) × (books_of handed o' ≡ handed.books)
  is-done k = done-so handed o' (ap (λ o. (answer_of handed o).said) (sym q) ∙ k)

  pub hungry-is : (stream.answer_of handed.tray o').said ≡ heard.Hungry
      → ((answer_of handed o).said ≡ said.Hungry) × (books_of handed o' ≡ handed.books)
  hungry-is k = let w = so-hungry handed o' k in (ap (λ o. (answer_of handed o).said) q ∙ w.0, w.1)

  pub done-is : (stream.answer_of handed.tray o').said ≡ heard.Done
      → ((answer_of handed o).said ≡ said.Done) × (books_of handed o' ≡ handed.books)
  done-is k = let w = so-done handed o' k in (ap (λ o. (answer_of handed o).said) q ∙ w.0, w.1)
