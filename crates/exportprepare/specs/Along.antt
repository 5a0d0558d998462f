-- Serves proofs: what stays along calls of `prepare` for other languages: no call is refused, and what lies behind the numbers of the states stays as lent. Proved.
use Rattle.std.specs.Prelude.{◌≡◌, refl, Bool, true, false, cond, List, [], ◌∷◌, ◌++◌, ℕ, ◌≤◌, ltb, take, drop}
use Rattle.std.proofs.Common.{sym, ap, ◌∙◌, arith, le-ltb, ltb-false}
use Rattle.std.proofs.Math.Path.{subst}
use Rattle.std.proofs.Math.ListN.{length}
use Rattle.sizes.specs.Sizes.{longest_frame, book_bytes, log_room}
use Rattle.stream.specs.declared.Tray.{Tray}
use Rattle.stream.specs.Tray.{Outcome, refused, told, hungry, done, fresh_tray}
use Rattle.stream.specs.Tray as stream
use Rattle.stream.specs.Driver as streaming
use Rattle.stream.specs.Driver.{Caller}
use Rattle.stream.specs.Theorems as stream-theorems
use Rattle.desk.specs.declared.Desk.{Desk}
use Rattle.desk.specs.Desk.{desk_sound}
use Rattle.desk.specs.Take as desk
use Rattle.desk.specs.History.{Held}
use Rattle.prepare.specs.declared.Said.{Said}
use Rattle.prepare.specs.declared.Said.TheVariants as said
use Rattle.prepare.specs.Uncut.{Seconds}
use Rattle.prepare.specs.Prepare.{Handed, answer_of, books_of, call_outcome, finish_outcome}
use Rattle.prepare.specs.Driver.{Sound}
use Rattle.prepare.specs.Steps.{guarded-is, back}
use Rattle.prepare.specs.Stays.{sound-after}
use Rattle.prepare.specs.Driving.{Ready, logs-room}
use Rattle.prepare.specs.Theorems.{handed-back}
use Rattle.export.specs.Numbers.{laid, room_for, at_most}
use Rattle.export.specs.Streams.{tray_room, tray_in, tray_of}
use Rattle.exportdesk.specs.States.{desk_room, desk_in, desk_of}
use Rattle.exportdesk.specs.Desks.{sound_of}
use Rattle.exportprepare.specs.Prepares.{Lent, handed_in, lacks_room, state_said, call_number, call_leaves, finish_number, finish_leaves}
use Rattle.exportprepare.specs.Puts.{AllThere}
use Rattle.exportprepare.specs.Refusals.{refusal_of, call-number, finish-number}
use Rattle.exportprepare.specs.NextState.{state_in, next-call, next-finish}
use Rattle.exportprepare.specs.Driver.{Heard, event_in, Rooms, lent_anew, Feeds, Closes, Called, Starts, books_lent}
use Rattle.exportprepare.specs.Driving.{no_number, there-room, stays-there, call-left, finish-left, call-parts, finish-parts, done-said}

-- ---- what no call refuses

pub record Fit (l : Lent) : Type 0 where
  pub there : AllThere l.tray l.desk l.told l.header
  pub log-room : log_room ≤ length l.log
  pub ready : Ready (state_in l)

fit-zero : (l : Lent) → Fit l → refusal_of l ≡ 0
unfolding desk.lacks_room
fit-zero l f =
    let t = f.ready.tray-ready in
    let s = f.ready.books-sound in
    let a : ltb (length l.bytes) longest_frame ≡ false = le-ltb (length l.bytes) longest_frame t.room in
    let b : ltb (length l.live) book_bytes ≡ false = le-ltb (length l.live) book_bytes s.live-room in
    let c : ltb (length l.run) book_bytes ≡ false = le-ltb (length l.run) book_bytes s.run_room in
    let d : ltb (length l.log) log_room ≡ false = le-ltb (length l.log) log_room f.log-room in
    rw (there-room l f.there, a, b, c, d, s.is-sound, t.is-sound)

stays-books : (handed : Handed) → Sound handed.books → (o : Outcome) → Sound (books_of handed o)
stays-books handed s (refused why) = s
stays-books handed s (told e c n) = sound-after s handed.second e
stays-books handed s (hungry c n) = s
stays-books handed s (done c) = s

abbrev IsReady : List ℕ → Tray → ℕ → Held → Type 0
IsReady bytes tray used books = Ready (record { bytes = bytes; tray = tray; books = books })

module _ (l : Lent) (f : Fit l) where
  abbrev room : lacks_room l.tray l.desk l.told l.header ≡ false
  room = there-room l f.there

  pub call-fit : (p : List ℕ) → Fit (call_leaves l p)
  unfolding call_outcome
  call-fit p =
      let h = handed_in l in
      let o' = stream.called l.bytes (tray_in l.tray) p in
      let q = guarded-is h o' f.ready.tray-ready f.ready.books-sound f.log-room in
      let r = back h (call_outcome h p) o' q IsReady
      (record { tray-ready = stream-theorems.call-sound f.ready.tray-ready p; books-sound = stays-books h f.ready.books-sound o' }) in
      let e = call-left l room p in
      record {
        there = subst (λ x. AllThere x.tray x.desk x.told x.header) (sym e) (stays-there l f.there (call_outcome h p));
        log-room = subst (λ x. log_room ≤ length x.log) (sym e) (logs-room h (call_outcome h p) f.log-room);
        ready = subst (λ s. Ready s) (sym (next-call l room p)) r;
      }

  pub finish-fit : Fit (finish_leaves l)
  unfolding finish_outcome
  finish-fit =
      let h = handed_in l in
      let o' = stream.finished l.bytes (tray_in l.tray) in
      let q = guarded-is h o' f.ready.tray-ready f.ready.books-sound f.log-room in
      let r = back h (finish_outcome h) o' q IsReady
      (record { tray-ready = stream-theorems.finish-sound f.ready.tray-ready; books-sound = stays-books h f.ready.books-sound o' }) in
      let e = finish-left l room in
      record {
        there = subst (λ x. AllThere x.tray x.desk x.told x.header) (sym e) (stays-there l f.there (finish_outcome h));
        log-room = subst (λ x. log_room ≤ length x.log) (sym e) (logs-room h (finish_outcome h) f.log-room);
        ready = subst (λ s. Ready s) (sym (next-finish l room)) r;
      }

  pub call-is-zero : (p : List ℕ) → call_number l p ≡ 0
  call-is-zero p = call-number l p ∙ fit-zero l f

  pub finish-is-zero : finish_number l ≡ 0
  finish-is-zero = finish-number l ∙ fit-zero l f

pub fit-anew : {l : Lent} {log told header : List ℕ} (second : ℕ) → Rooms log told header → Fit l → Fit (lent_anew l log told header second)
fit-anew second r f = record {
  there = record { tray-room = f.there.tray-room; desk-room = f.there.desk-room; told-room = r.told-room; header-room = r.header-room };
  log-room = r.log-room;
  ready = f.ready;
}

pub called-fit : {lent l : Lent} → Called lent l → Fit lent → Fit l
called-fit Called.none_yet f = f
called-fit (Called.a_call {l} k p) f = call-fit l (called-fit k f) p
called-fit (Called.a-finish {l} k) f = finish-fit l (called-fit k f)
called-fit (Called.lent-anew {l} second r k) f = fit-anew second r (called-fit k f)

-- the calls that are heard are such calls
pub feeds-called : {lent : Lent} {c : Caller} {l l₁ : Lent} {seconds : Seconds} {ps : List (List ℕ)} {hs : List Heard} → Feeds c seconds l ps hs l₁ → Called lent l → Called lent l₁
feeds-called Feeds.no_more k = k
feeds-called (Feeds.an-event {p = p} q w i f) k = feeds-called f (Called.a_call k p)
feeds-called (Feeds.all-used {p = p} q w f) k = feeds-called f (Called.a_call k p)
feeds-called (Feeds.passed_over g f) k = feeds-called f k
feeds-called (Feeds.lent-anew {second = second} r f) k = feeds-called f (Called.lent-anew second r k)

pub closes-called : {lent l l₁ : Lent} {seconds : Seconds} {hs : List Heard} → Closes seconds l hs l₁ → Called lent l → Called lent l₁
closes-called (Closes.an-event q w i f) k = closes-called f (Called.a-finish k)
closes-called (Closes.is-done q w) k = Called.a-finish k
closes-called (Closes.lent-anew {second = second} r f) k = closes-called f (Called.lent-anew second r k)

-- ---- the start is fit

pub fresh-tray : (s : List ℕ) → take tray_room s ≡ 0 ∷ 0 ∷ 0 ∷ [] → (tray_room ≤ length s) × (tray_in s ≡ fresh_tray)
unfolding tray_in at_most
fresh-tray [] e = let z : ◌≡◌ {A = ℕ} 0 1 = cc in absurd (omega arith)
fresh-tray (x ∷ []) e = let z : ◌≡◌ {A = ℕ} 0 1 = cc in absurd (omega arith)
fresh-tray (x ∷ y ∷ []) e = let z : ◌≡◌ {A = ℕ} 0 1 = cc in absurd (omega arith)
fresh-tray (x ∷ y ∷ n ∷ s) e =
    let a : x ≡ 0 = cc in
    let b : y ≡ 0 = cc in
    let c : n ≡ 0 = cc in
    (omega arith, rw (a, b, c))

is_true : (b : Bool) → ◌≡◌ {A = ℕ} (cond b 0 17) 0 → b ≡ true
is_true true e = refl
is_true false e = absurd (omega arith)

-- what it is that homralgyu_desk_is_sound says 0
pub sound-parts : (numbers live run : List ℕ) → sound_of numbers live run ≡ 0
    → (desk_room ≤ length numbers) × (book_bytes ≤ length live) × (book_bytes ≤ length run) × (desk_sound (desk_in numbers) live run ≡ true)
unfolding sound_of room_for
sound-parts numbers live run e =
    let a = no_number (ltb (length numbers) desk_room) _ e in
    let b = no_number (ltb (length live) book_bytes) _ a.1 in
    let c = no_number (ltb (length run) book_bytes) _ b.1 in
    (ltb-false _ _ a.0, ltb-false _ _ b.0, ltb-false _ _ c.0, is_true (desk_sound (desk_in numbers) live run) c.1)

pub sound-whole : (numbers live run : List ℕ) → desk_room ≤ length numbers → book_bytes ≤ length live → book_bytes ≤ length run → desk_sound (desk_in numbers) live run ≡ true
    → sound_of numbers live run ≡ 0
unfolding sound_of room_for
sound-whole numbers live run x y z e =
    let a : ltb (length numbers) desk_room ≡ false = le-ltb (length numbers) desk_room x in
    let b : ltb (length live) book_bytes ≡ false = le-ltb (length live) book_bytes y in
    let c : ltb (length run) book_bytes ≡ false = le-ltb (length run) book_bytes z in
    rw (a, b, c, e)

pub starts-sound : {lent : Lent} → Starts lent → Sound (books_lent lent)
starts-sound {lent} s =
    let d = sound-parts lent.desk lent.live lent.run s.desk-sound in
    record { live-room = d.1; run_room = d.2; is-sound = d.3 }

pub starts_fit : {lent : Lent} → Starts lent → Fit lent
starts_fit {lent} s =
    let t = fresh-tray lent.tray s.tray-fresh in
    record {
      there = record {
        tray-room = t.0;
        desk-room = (sound-parts lent.desk lent.live lent.run s.desk-sound).0;
        told-room = s.rooms.told-room;
        header-room = s.rooms.header-room;
      };
      log-room = s.rooms.log-room;
      ready = record {
        tray-ready = subst (λ t. streaming.Ready lent.bytes t) (sym t.1) (stream-theorems.fresh-sound s.bytes-clear);
        books-sound = starts-sound s;
      };
    }

-- ---- behind the numbers

beyond-tray : (w : Said) (t : Tray) (s : List ℕ) → drop tray_room (laid (state_said w (tray_of t)) s) ≡ drop tray_room s
unfolding laid state_said tray_of
beyond-tray said.Hungry t s = refl
beyond-tray (said.Accepted header) t s = refl
beyond-tray (said.FrameRefused header why) t s = refl
beyond-tray (said.Noise count) t s = refl
beyond-tray said.Done t s = refl
beyond-tray (said.Refused why) t s = refl

beyond-desk : (w : Said) (d : Desk) (s : List ℕ) → drop desk_room (laid (state_said w (desk_of d)) s) ≡ drop desk_room s
unfolding laid state_said desk_of
beyond-desk said.Hungry d s = refl
beyond-desk (said.Accepted header) d s = refl
beyond-desk (said.FrameRefused header why) d s = refl
beyond-desk (said.Noise count) d s = refl
beyond-desk said.Done d s = refl
beyond-desk (said.Refused why) d s = refl

module _ (l : Lent) where
  call-beyond : (p : List ℕ) → call_number l p ≡ 0 → (drop tray_room (call_leaves l p).tray ≡ drop tray_room l.tray) × (drop desk_room (call_leaves l p).desk ≡ drop desk_room l.desk)
  call-beyond p q =
      let e = call-left l (call-parts l p q).0 p in
      let a = answer_of (handed_in l) (call_outcome (handed_in l) p) in (
        ap (λ x. drop tray_room x.tray) e ∙ beyond-tray a.said a.tray l.tray,
        ap (λ x. drop desk_room x.desk) e ∙ beyond-desk a.said a.desk l.desk,
      )

  finish-beyond : finish_number l ≡ 0 → (drop tray_room (finish_leaves l).tray ≡ drop tray_room l.tray) × (drop desk_room (finish_leaves l).desk ≡ drop desk_room l.desk)
  finish-beyond q =
      let e = finish-left l (finish-parts l q).0 in
      let a = answer_of (handed_in l) (finish_outcome (handed_in l)) in (
        ap (λ x. drop tray_room x.tray) e ∙ beyond-tray a.said a.tray l.tray,
        ap (λ x. drop desk_room x.desk) e ∙ beyond-desk a.said a.desk l.desk,
      )

pub feeds-beyond : {c : Caller} {seconds : Seconds} {l l₁ : Lent} {ps : List (List ℕ)} {hs : List Heard} → Feeds c seconds l ps hs l₁
    → (drop tray_room l₁.tray ≡ drop tray_room l.tray) × (drop desk_room l₁.desk ≡ drop desk_room l.desk)
feeds-beyond Feeds.no_more = (refl, refl)
feeds-beyond (Feeds.an-event {l = l} {p = p} q k i f) = let x = feeds-beyond f in let y = call-beyond l p q in (x.0 ∙ y.0, x.1 ∙ y.1)
feeds-beyond (Feeds.all-used {l = l} {p = p} q k f) = let x = feeds-beyond f in let y = call-beyond l p q in (x.0 ∙ y.0, x.1 ∙ y.1)
feeds-beyond (Feeds.passed_over g f) = feeds-beyond f
feeds-beyond (Feeds.lent-anew r f) = feeds-beyond f

-- the last finish writes the numbers of both states
pub closes-numbers : {seconds : Seconds} {l l₁ : Lent} {hs : List Heard} → Closes seconds l hs l₁
    → (l₁.tray ≡ tray_of (state_in l₁).tray ++ drop tray_room l.tray) × (l₁.desk ≡ desk_of (books_lent l₁).desk ++ drop desk_room l.desk)
unfolding laid state_said tray_of desk_of
closes-numbers (Closes.an-event {l = l} {l₁} q k i f) =
    let x = closes-numbers f in
    let y = finish-beyond l q in
    (x.0 ∙ ap (λ r. tray_of (state_in l₁).tray ++ r) y.0, x.1 ∙ ap (λ r. desk_of (books_lent l₁).desk ++ r) y.1)
closes-numbers (Closes.lent-anew r f) = closes-numbers f
closes-numbers (Closes.is-done {l = l} q k) =
    let z = finish-parts l q in
    let e = finish-left l z.0 in
    let n = sym (next-finish l z.0) in
    let a = answer_of (handed_in l) (finish_outcome (handed_in l)) in
    let w : a.said ≡ said.Done = done-said l (finish_outcome (handed_in l)) z.1 (ap (λ x. event_in x) (sym e) ∙ k) in
    let h = handed-back (handed_in l) (finish_outcome (handed_in l)) in (
      ap (λ x. x.tray) e ∙ ap (λ w. laid (state_said w (tray_of a.tray)) l.tray) w ∙ ap (λ s. tray_of s.tray ++ drop tray_room l.tray) n,
      ap (λ x. x.desk) e ∙ ap (λ w. laid (state_said w (desk_of a.desk)) l.desk) w ∙ ap (λ b. desk_of b.desk ++ drop desk_room l.desk) h ∙ ap (λ s. desk_of s.books.desk ++ drop desk_room l.desk) n,
    )
