-- Serves proofs: calls of `prepare` for other languages in a row, as they are heard, beside calls of `prepare` in a row. Proved; assumes nothing.
use Rattle.std.proofs.Math.Path.{◌≡◌, refl, sym, ap, subst}
use Rattle.std.proofs.Common.{ap₂, ◌∙◌, arith, length-append, length-drop, le-ltb, ltb-false}
use Rattle.std.specs.Prelude.{Bool, true, false, cond, List, [], ◌∷◌, ℕ, ◌≤◌, length, get_or, take, drop, ltb}
use Rattle.answer.specs.Number.{number_of}
use Rattle.answer.specs.declared.Refusal.{Refusal}
use Rattle.answer.specs.declared.Refusal.TheVariants as refusal
use Rattle.sizes.specs.Sizes.{longest_frame, log_room, book_bytes}
use Rattle.stream.specs.Driver.{Caller}
use Rattle.stream.specs.Tray.{Outcome, refused, told, hungry, done}
use Rattle.desk.specs.Take as desk
use Rattle.prepare.specs.declared.Said.{Said}
use Rattle.prepare.specs.declared.Said.TheVariants as said
use Rattle.prepare.specs.Uncut as uncut
use Rattle.prepare.specs.Uncut.{Seconds}
use Rattle.prepare.specs.Prepare.{answer_of, said_of, result_of, call_outcome, finish_outcome}
use Rattle.prepare.specs.Driver as driver
use Rattle.prepare.specs.Steps.{Says}
use Rattle.export.specs.Numbers.{laid}
use Rattle.export.specs.Frames.{header_room, header_of}
use Rattle.export.specs.Streams.{tray_room, tray_of}
use Rattle.exportdesk.specs.States.{desk_room, desk_of}
use Rattle.exportprepare.specs.Prepares as prepares
use Rattle.exportprepare.specs.Prepares.{Lent, told_room, handed_in, lacks_room, call_result, finish_result, event_of, told_said, told_answer, header_said, state_said, number_told_by, lent_by, call_number, call_leaves, finish_number, finish_leaves}
use Rattle.exportprepare.specs.Puts.{AllThere}
use Rattle.exportprepare.specs.Refusals.{is_short, refusal_of, neither, told-zero, call-number, finish-number}
use Rattle.exportprepare.specs.NextState.{state_in, given_in, next-call, next-finish}
use Rattle.exportprepare.specs.Driver.{Heard, event_in, used_in, Hears, a-frame, some-noise, InTime, later_by, later_all, Feeds, Closes, heard_of, heard_all}

-- ---- an event of the call in numbers, and read from them

module _ (bytes tray desk live run log told₀ header₀ : List ℕ) (second₀ used : ℕ) where
  abbrev heard_lent : uncut.Told → Lent
  heard_lent t =
      prepares.lends bytes tray desk live run log (laid (told_said (said_of t) used (length (uncut.entries_of t))).numbers told₀) (laid (header_said (said_of t)) header₀) second₀

  abbrev TellsOf : uncut.Told → uncut.Told → Type 0
  TellsOf t u = driver.Tells (said_of t) (length (uncut.entries_of t)) bytes log u

  -- what is heard is told ..
  hears-told : (t : uncut.Told) (h : Heard) → Hears (heard_lent t) h → (u : uncut.Told) × TellsOf t u × (h ≡ heard_of u)
  unfolding laid told_said event_of header_said header_of
  hears-told (uncut.accepted f b entries) h (a-frame e) = (uncut.accepted f (take f.length bytes) (take (length entries) log), refl, refl)
  hears-told (uncut.refused f b why) h (a-frame e) = (uncut.refused f (take f.length bytes) why, refl, refl)
  hears-told (uncut.noise n) h (a-frame e) = let z : ◌≡◌ {A = ℕ} 1 2 = sym e in absurd (omega arith)
  hears-told (uncut.accepted f b entries) h (some-noise e) = let z : ◌≡◌ {A = ℕ} 1 2 = e in absurd (omega arith)
  hears-told (uncut.refused f b why) h (some-noise e) = let z : ◌≡◌ {A = ℕ} 1 2 = e in absurd (omega arith)
  hears-told (uncut.noise n) h (some-noise e) = (uncut.noise n, refl, refl)

  -- .. and what is told is heard
  told-hears : (t u : uncut.Told) → TellsOf t u → Hears (heard_lent t) (heard_of u)
  unfolding laid told_said event_of header_said header_of
  told-hears (uncut.accepted f b entries) u k = subst (λ u. Hears (heard_lent (uncut.accepted f b entries)) (heard_of u)) (sym k) (a-frame refl)
  told-hears (uncut.refused f b why) u k = subst (λ u. Hears (heard_lent (uncut.refused f b why)) (heard_of u)) (sym k) (a-frame refl)
  told-hears (uncut.noise n) u k = subst (λ u. Hears (heard_lent (uncut.noise n)) (heard_of u)) (sym k) (some-noise refl)

  used-told : (t : uncut.Told) → used_in (heard_lent t) ≡ used
  unfolding laid told_said event_of
  used-told (uncut.accepted f b entries) = refl
  used-told (uncut.refused f b why) = refl
  used-told (uncut.noise n) = refl

-- ---- the number and the event by what is said

-- no refusal has the number 0
pub counts : (why : Refusal) → 1 ≤ number_of why
counts refusal.Short = omega arith
counts refusal.Preamble = omega arith
counts refusal.FrameCrc = omega arith
counts refusal.Length = omega arith
counts refusal.MessageCrc = omega arith
counts refusal.UnknownType = omega arith
counts refusal.MaskEmpty = omega arith
counts refusal.Field = omega arith
counts refusal.Room = omega arith
counts refusal.Sealed = omega arith
counts refusal.Tag = omega arith
counts refusal.NotOurs = omega arith
counts refusal.AreaOff = omega arith
counts refusal.Conflict = omega arith
counts refusal.BookFull = omega arith
counts refusal.Leftover = omega arith
counts refusal.State = omega arith
counts refusal.Form = omega arith

module _ (used log : ℕ) (told₀ : List ℕ) where
  abbrev event_said : Said → ℕ
  event_said w = get_or (laid (told_said w used log).numbers told₀) 0 0

  is-hungry : (w : Said) → (told_said w used log).number ≡ 0 → event_said w ≡ 0 → w ≡ said.Hungry
  unfolding laid told_said event_of
  is-hungry said.Hungry q e = refl
  is-hungry (said.Accepted header) q e = absurd (omega arith)
  is-hungry (said.FrameRefused header why) q e = absurd (omega arith)
  is-hungry (said.Noise count) q e = absurd (omega arith)
  is-hungry said.Done q e = absurd (omega arith)
  is-hungry (said.Refused why) q e = absurd (omega (arith, counts why))

  is-done : (w : Said) → (told_said w used log).number ≡ 0 → event_said w ≡ 3 → w ≡ said.Done
  unfolding laid told_said event_of
  is-done said.Hungry q e = absurd (omega arith)
  is-done (said.Accepted header) q e = absurd (omega arith)
  is-done (said.FrameRefused header why) q e = absurd (omega arith)
  is-done (said.Noise count) q e = absurd (omega arith)
  is-done said.Done q e = refl
  is-done (said.Refused why) q e = absurd (omega (arith, counts why))

-- ---- a call that has room for its numbers, by the outcome of the call below

module _ (l : Lent) where
  abbrev pub left_by : Outcome → Lent
  left_by o = prepares.leaves l (result_of (handed_in l) o)

  abbrev pub zero_by : Outcome → Type 0
  zero_by o = (told_answer (answer_of (handed_in l) o)).number ≡ 0

  -- what is heard is an event of the call below, and the other way round
  pub hears-says : (o : Outcome) → zero_by o → (h : Heard) → Hears (left_by o) h
      → (t : uncut.Told) × (Says (handed_in l) o t) × (h ≡ heard_of t) × (used_in (left_by o) ≡ (answer_of (handed_in l) o).used)
  unfolding told_answer told_said event_of laid
  hears-says (refused why) q h k = absurd (omega (arith, counts why))
  hears-says (told e c n) q h k =
      let t = uncut.told_of (handed_in l).books l.second e in
      let o = told e c n in
      let w = hears-told (left_by o).bytes (left_by o).tray (left_by o).desk (left_by o).live (left_by o).run (left_by o).log l.told l.header l.second n t h k in
      (w.0, w.1, w.2, used-told (left_by o).bytes (left_by o).tray (left_by o).desk (left_by o).live (left_by o).run (left_by o).log l.told l.header l.second n t)
  hears-says (hungry c n) q h (a-frame e) = absurd (omega arith)
  hears-says (hungry c n) q h (some-noise e) = absurd (omega arith)
  hears-says (done c) q h (a-frame e) = absurd (omega arith)
  hears-says (done c) q h (some-noise e) = absurd (omega arith)

  pub says-hears : (o : Outcome) (t : uncut.Told) → Says (handed_in l) o t → zero_by o × (Hears (left_by o) (heard_of t)) × (used_in (left_by o) ≡ (answer_of (handed_in l) o).used)
  unfolding told_answer
  says-hears (refused why) t k = absurd k
  says-hears (told e c n) t k =
      let o = told e c n in
      let u = uncut.told_of (handed_in l).books l.second e in (
        told-zero u n (length (uncut.entries_of u)),
        told-hears (left_by o).bytes (left_by o).tray (left_by o).desk (left_by o).live (left_by o).run (left_by o).log l.told l.header l.second n u t k,
        used-told (left_by o).bytes (left_by o).tray (left_by o).desk (left_by o).live (left_by o).run (left_by o).log l.told l.header l.second n u,
      )
  says-hears (hungry c n) t k = absurd k
  says-hears (done c) t k = absurd k

  -- and so are hungry and done
  pub hungry-said : (o : Outcome) → zero_by o → event_in (left_by o) ≡ 0 → (answer_of (handed_in l) o).said ≡ said.Hungry
  unfolding told_answer
  hungry-said o q e = is-hungry (answer_of (handed_in l) o).used (answer_of (handed_in l) o).log l.told (answer_of (handed_in l) o).said q e

  pub done-said : (o : Outcome) → zero_by o → event_in (left_by o) ≡ 3 → (answer_of (handed_in l) o).said ≡ said.Done
  unfolding told_answer
  done-said o q e = is-done (answer_of (handed_in l) o).used (answer_of (handed_in l) o).log l.told (answer_of (handed_in l) o).said q e

  pub said-hungry : (o : Outcome) → (answer_of (handed_in l) o).said ≡ said.Hungry → zero_by o × (event_in (left_by o) ≡ 0)
  unfolding told_answer told_said event_of laid
  said-hungry o q = (
    ap (λ w. (told_said w (answer_of (handed_in l) o).used (answer_of (handed_in l) o).log).number) q,
    ap (event_said (answer_of (handed_in l) o).used (answer_of (handed_in l) o).log l.told) q,
  )

  pub said-done : (o : Outcome) → (answer_of (handed_in l) o).said ≡ said.Done → zero_by o × (event_in (left_by o) ≡ 3)
  unfolding told_answer told_said event_of laid
  said-done o q = (
    ap (λ w. (told_said w (answer_of (handed_in l) o).used (answer_of (handed_in l) o).log).number) q,
    ap (event_said (answer_of (handed_in l) o).used (answer_of (handed_in l) o).log l.told) q,
  )

-- ---- room

pub no_number : (b : Bool) (n : ℕ) → cond b 9 n ≡ 0 → (b ≡ false) × (n ≡ 0)
no_number true n e = absurd (omega arith)
no_number false n e = (refl, e)

pub longer : (numbers lent : List ℕ) → length lent ≤ length (laid numbers lent)
unfolding laid
longer numbers lent = simp (length-append, length-drop) (omega arith)

-- the slices of numbers have their rooms, and keep them
pub there-room : (l : Lent) → AllThere l.tray l.desk l.told l.header → lacks_room l.tray l.desk l.told l.header ≡ false
unfolding lacks_room
there-room l r =
    let a : ltb (length l.tray) tray_room ≡ false = le-ltb (length l.tray) tray_room r.tray-room in
    let b : ltb (length l.desk) desk_room ≡ false = le-ltb (length l.desk) desk_room r.desk-room in
    let c : ltb (length l.told) told_room ≡ false = le-ltb (length l.told) told_room r.told-room in
    let d : ltb (length l.header) header_room ≡ false = le-ltb (length l.header) header_room r.header-room in
    rw (a, b, c, d)

module _ (l : Lent) (r : AllThere l.tray l.desk l.told l.header) where
  pub stays-there : (o : Outcome) → AllThere (left_by l o).tray (left_by l o).desk (left_by l o).told (left_by l o).header
  stays-there o = record {
    tray-room = omega (arith, r.tray-room, longer (state_said (answer_of (handed_in l) o).said (tray_of (answer_of (handed_in l) o).tray)) l.tray);
    desk-room = omega (arith, r.desk-room, longer (state_said (answer_of (handed_in l) o).said (desk_of (answer_of (handed_in l) o).desk)) l.desk);
    told-room = omega (arith, r.told-room, longer (told_answer (answer_of (handed_in l) o)).numbers l.told);
    header-room = omega (arith, r.header-room, longer (header_said (answer_of (handed_in l) o).said) l.header);
  }

-- a call whose number is 0 was lent a log that has room
number-room : (l : Lent) → refusal_of l ≡ 0 → log_room ≤ length l.log
unfolding desk.lacks_room
number-room l e =
    let a = neither (lacks_room l.tray l.desk l.told l.header) _ (no_number (is_short l) _ e).0 in
    let b = neither (ltb (length l.bytes) longest_frame) _ a.1 in
    let c = neither (ltb (length l.live) book_bytes) _ b.1 in
    let d = neither (ltb (length l.run) book_bytes) _ c.1 in
    ltb-false _ _ d.1

-- ---- the same of what the calls leave

module _ (l : Lent) (room : lacks_room l.tray l.desk l.told l.header ≡ false) where
  abbrev pub call_o : (p : List ℕ) → Outcome
  call_o p = call_outcome (handed_in l) p

  abbrev pub finish_o : Outcome
  finish_o = finish_outcome (handed_in l)

  pub call-left : (p : List ℕ) → call_leaves l p ≡ left_by l (call_o p)
  unfolding call_leaves lent_by call_result
  call-left p = rw room

  pub finish-left : finish_leaves l ≡ left_by l finish_o
  unfolding finish_leaves lent_by finish_result
  finish-left = rw room

-- a number that is 0, and what it says
module _ (l : Lent) where
  pub call-parts : (p : List ℕ) → call_number l p ≡ 0 → (lacks_room l.tray l.desk l.told l.header ≡ false) × (zero_by l (call_outcome (handed_in l) p))
  unfolding call_number number_told_by call_result
  call-parts p q = no_number (lacks_room l.tray l.desk l.told l.header) _ q

  pub finish-parts : finish_number l ≡ 0 → (lacks_room l.tray l.desk l.told l.header ≡ false) × (zero_by l (finish_outcome (handed_in l)))
  unfolding finish_number number_told_by finish_result
  finish-parts q = no_number (lacks_room l.tray l.desk l.told l.header) _ q

-- ---- from calls as they are heard to calls of `prepare`

-- what is heard in time is told in time
in-time : (t : uncut.Told) (second : ℕ) (seconds : Seconds) → InTime (heard_of t) second seconds → driver.InTime t second seconds
in-time (uncut.accepted header bytes entries) second seconds i = i
in-time (uncut.refused header bytes why) second seconds i = i
in-time (uncut.noise count) second seconds i = tt

later-told : (t : uncut.Told) (seconds : Seconds) → later_by (heard_of t) seconds ≡ driver.later_by t seconds
later-told (uncut.accepted header bytes entries) seconds = refl
later-told (uncut.refused header bytes why) seconds = refl
later-told (uncut.noise count) seconds = refl

pub later-all : (ts : List uncut.Told) (seconds : Seconds) → later_all (heard_all ts) seconds ≡ driver.later_all ts seconds
unfolding heard_all later_all driver.later_all
later-all [] seconds = refl
later-all (t ∷ ts) seconds = ap (later_all (heard_all ts)) (later-told t seconds) ∙ later-all ts (driver.later_by t seconds)

module _ (h : Heard) (t : uncut.Told) (e : h ≡ heard_of t) (second : ℕ) (seconds : Seconds) where
  told-in-time : InTime h second seconds → driver.InTime t second seconds
  told-in-time i = in-time t second seconds (subst (λ h. InTime h second seconds) e i)

  later-so : later_by h seconds ≡ driver.later_by t seconds
  later-so = ap (λ h. later_by h seconds) e ∙ later-told t seconds

pub feeds-so : {c : Caller} {seconds : Seconds} {l l₁ : Lent} {ps : List (List ℕ)} {hs : List Heard} → Feeds c seconds l ps hs l₁
    → (ts : List uncut.Told) × (driver.Feeds c seconds (state_in l) ps ts (state_in l₁)) × (hs ≡ heard_all ts)
unfolding heard_all
feeds-so Feeds.no_more = ([], driver.Feeds.no_more, refl)
feeds-so {c} (Feeds.an-event {seconds} {l} {l₁} {p} {ps} {h} {hs} q k i f) =
    let z = call-parts l p q in
    let o = call_outcome (handed_in l) p in
    let w = hears-says l o z.1 h (subst (λ x. Hears x h) (call-left l z.0 p) k) in
    let x = feeds-so f in
    let y = subst (λ s. driver.Feeds c (later_by h seconds) s (drop (used_in (call_leaves l p)) p ∷ ps) x.0 (state_in l₁)) (next-call l z.0 p) x.1 in
    let u = subst (λ n. driver.Feeds c (later_by h seconds) (driver.call_leaves (state_in l) (given_in l) p) (drop n p ∷ ps) x.0 (state_in l₁)) (ap (λ x. used_in x) (call-left l z.0 p) ∙ w.3) y in
    let v = subst (λ n. driver.Feeds c n (driver.call_leaves (state_in l) (given_in l) p) (drop (driver.call_says (state_in l) (given_in l) p).used p ∷ ps) x.0 (state_in l₁))
    (later-so h w.0 w.2 l.second seconds) u in
    (w.0 ∷ x.0, driver.Feeds.an-event (given_in l) (number-room l (sym (call-number l p) ∙ q)) w.1 (told-in-time h w.0 w.2 l.second seconds i) v, ap₂ (λ h hs. h ∷ hs) w.2 x.2)
feeds-so {c} (Feeds.all-used {seconds} {l} {l₁} {p} {ps} {hs} q k f) =
    let z = call-parts l p q in
    let o = call_outcome (handed_in l) p in
    let w = hungry-said l o z.1 (ap (λ x. event_in x) (sym (call-left l z.0 p)) ∙ k) in
    let x = feeds-so f in
    let y = subst (λ s. driver.Feeds c seconds s ps x.0 (state_in l₁)) (next-call l z.0 p) x.1 in
    (x.0, driver.Feeds.all-used (given_in l) (number-room l (sym (call-number l p) ∙ q)) w y, x.2)
feeds-so (Feeds.passed_over g f) = let x = feeds-so f in (x.0, driver.Feeds.passed_over g x.1, x.2)
feeds-so (Feeds.lent-anew r f) = feeds-so f

pub closes-so : {seconds : Seconds} {l l₁ : Lent} {hs : List Heard} → Closes seconds l hs l₁
    → (ts : List uncut.Told) × (driver.Closes seconds (state_in l) ts (state_in l₁)) × (hs ≡ heard_all ts)
unfolding heard_all
closes-so (Closes.an-event {seconds} {l} {l₁} {h} {hs} q k i f) =
    let z = finish-parts l q in
    let o = finish_outcome (handed_in l) in
    let w = hears-says l o z.1 h (subst (λ x. Hears x h) (finish-left l z.0) k) in
    let x = closes-so f in
    let y = subst (λ s. driver.Closes (later_by h seconds) s x.0 (state_in l₁)) (next-finish l z.0) x.1 in
    let v = subst (λ n. driver.Closes n (driver.finish_leaves (state_in l) (given_in l)) x.0 (state_in l₁)) (later-so h w.0 w.2 l.second seconds) y in
    (w.0 ∷ x.0, driver.Closes.an-event (given_in l) (number-room l (sym (finish-number l) ∙ q)) w.1 (told-in-time h w.0 w.2 l.second seconds i) v, ap₂ (λ h hs. h ∷ hs) w.2 x.2)
closes-so (Closes.is-done {seconds} {l} q k) =
    let z = finish-parts l q in
    let w = done-said l (finish_outcome (handed_in l)) z.1 (ap (λ x. event_in x) (sym (finish-left l z.0)) ∙ k) in
    ([], subst (λ s. driver.Closes seconds (state_in l) [] s) (sym (next-finish l z.0)) (driver.Closes.is-done (given_in l) (number-room l (sym (finish-number l) ∙ q)) w), refl)
closes-so (Closes.lent-anew r f) = closes-so f
