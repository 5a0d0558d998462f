-- Serves proofs: calls at some seconds are calls at any others that are alike for the frames told, and so is what is told of the uncut stream; a clock may give any seconds. Proved;
-- assumes nothing.
use Rattle.std.specs.Prelude.{◌≡◌, refl, List, [], ◌∷◌, ◌++◌, ℕ, zero, suc, ◌+◌, ◌<◌}
use Rattle.std.proofs.Math.Path.{ap, subst}
use Rattle.std.proofs.Common.{ap₂, ◌∙◌}
use native.Mathlib.Omega.{arith}
use Rattle.frame.specs.declared.Frame.{Frame}
use Rattle.stream.specs.Scan as stream
use Rattle.stream.specs.Driver.{Caller}
use Rattle.desk.specs.Take as desk
use Rattle.desk.specs.History.{Held}
use Rattle.prepare.specs.Uncut.{Told, accepted, refused, noise, verdict_on, handled_on, told_by, told_of, books_after, Seconds, Alike, later, told_all, books_all}
use Rattle.prepare.specs.Driver.{State, InTime, later_by, later_all, counting, frames_in, Feeds, Closes, Whole}
use Rattle.prepare.specs.Lender.{Point, Lender, one_log, FeedsBy, ClosesBy, WholeBy, told_then, seconds_fed, seconds_closed, seconds_by}

-- ---- how many frames were told

counting-plus : (t : Told) (n m : ℕ) → counting t (n + m) ≡ counting t n + m
counting-plus (accepted header bytes entries) n m = omega arith
counting-plus (refused header bytes why) n m = omega arith
counting-plus (noise count) n m = omega arith

pub frames-append : (ts us : List Told) → frames_in (ts ++ us) ≡ frames_in ts + frames_in us
unfolding frames_in
frames-append [] us = omega arith
frames-append (t ∷ ts) us = ap (counting t) (frames-append ts us) ∙ counting-plus t (frames_in ts) (frames_in us)

one_more : (ts : List Told) (t : Told) → frames_in (ts ++ t ∷ []) ≡ counting t (frames_in ts)
unfolding frames_in
one_more ts t = frames-append ts (t ∷ []) ∙ go t
  where
    go : (t : Told) → frames_in ts + frames_in (t ∷ []) ≡ counting t (frames_in ts)
    go (accepted header bytes entries) = omega arith
    go (refused header bytes why) = omega arith
    go (noise count) = omega arith

-- ---- seconds that are alike for the frames told

alike-time : (t : Told) (second n : ℕ) (seconds seconds' : Seconds) → Alike (counting t n) seconds seconds' → InTime t second seconds → InTime t second seconds'
alike-time (accepted header bytes entries) second n seconds seconds' a i = i ∙ a 0 (omega arith)
alike-time (refused header bytes why) second n seconds seconds' a i = i ∙ a 0 (omega arith)
alike-time (noise count) second n seconds seconds' a i = tt

alike-later : (t : Told) (n : ℕ) (seconds seconds' : Seconds) → Alike (counting t n) seconds seconds' → Alike n (later_by t seconds) (later_by t seconds')
alike-later (accepted header bytes entries) n seconds seconds' a = λ i h. a (suc i) (omega (arith, h))
alike-later (refused header bytes why) n seconds seconds' a = λ i h. a (suc i) (omega (arith, h))
alike-later (noise count) n seconds seconds' a = a

pub alike-behind : (ts : List Told) (n : ℕ) (seconds seconds' : Seconds) → Alike (frames_in ts + n) seconds seconds' → Alike n (later_all ts seconds) (later_all ts seconds')
unfolding frames_in later_all
alike-behind [] n seconds seconds' a = λ i h. a i (omega (arith, h))
alike-behind (t ∷ ts) n seconds seconds' a =
    alike-behind ts n (later_by t seconds) (later_by t seconds')
    (alike-later t (frames_in ts + n) seconds seconds' (λ i h. a i (omega (arith, h, counting-plus t (frames_in ts) n))))

pub feeds-alike : {c : Caller} {seconds : Seconds} {s s₁ : State} {ps : List (List ℕ)} {ts : List Told} → Feeds c seconds s ps ts s₁ → (seconds' : Seconds)
    → Alike (frames_in ts) seconds seconds' → Feeds c seconds' s ps ts s₁
unfolding frames_in
feeds-alike Feeds.no_more seconds' a = Feeds.no_more
feeds-alike (Feeds.an-event {seconds} {t = t} {ts} given h k i f) seconds' a =
    Feeds.an-event given h k (alike-time t given.second (frames_in ts) seconds seconds' a i) (feeds-alike f (later_by t seconds') (alike-later t (frames_in ts) seconds seconds' a))
feeds-alike (Feeds.all-used given h k f) seconds' a = Feeds.all-used given h k (feeds-alike f seconds' a)
feeds-alike (Feeds.passed_over g f) seconds' a = Feeds.passed_over g (feeds-alike f seconds' a)

pub closes-alike : {seconds : Seconds} {s s₁ : State} {ts : List Told} → Closes seconds s ts s₁ → (seconds' : Seconds) → Alike (frames_in ts) seconds seconds' → Closes seconds' s ts s₁
unfolding frames_in
closes-alike (Closes.an-event {seconds} {t = t} {ts} given h k i f) seconds' a =
    Closes.an-event given h k (alike-time t given.second (frames_in ts) seconds seconds' a i) (closes-alike f (later_by t seconds') (alike-later t (frames_in ts) seconds seconds' a))
closes-alike (Closes.is-done given h k) seconds' a = Closes.is-done given h k

-- the same calls, which tell and leave the same
abbrev pub whole-alike : {c : Caller} {seconds : Seconds} {bytes : List ℕ} {books : Held} {portions : List (List ℕ)} (w : Whole c seconds bytes books portions) (seconds' : Seconds)
    → Alike (frames_in (w.before ++ w.after)) seconds seconds' → Whole c seconds' bytes books portions
whole-alike {seconds = seconds} w seconds' a =
    let both : Alike (frames_in w.before + frames_in w.after) seconds seconds' = λ i h. a i (omega (arith, h, frames-append w.before w.after)) in
    record {
      before = w.before;
      between = w.between;
      feeds = feeds-alike w.feeds seconds' (λ i h. both i (omega (arith, h)));
      after = w.after;
      end = w.end;
      closes = closes-alike w.closes (later_all w.before seconds') (alike-behind w.before (frames_in w.after) seconds seconds' both);
    }

-- ---- what is told of the uncut stream, and the books that it leaves

frame-counts : (books : Held) (header : Frame) (bytes : List ℕ) (v : desk.Verdict) (n : ℕ) → counting (told_by books header bytes v) n ≡ suc n
frame-counts books header bytes (desk.refused why) n = refl
frame-counts books header bytes (desk.defines book live) n = refl
frame-counts books header bytes (desk.continues book message) n = refl
frame-counts books header bytes (desk.opens tag message) n = refl

pub told-alike : (books : Held) (seconds seconds' : Seconds) (events : List stream.Event) → Alike (frames_in (told_all books seconds events)) seconds seconds'
    → (told_all books seconds events ≡ told_all books seconds' events) × (books_all books seconds events ≡ books_all books seconds' events)
unfolding frames_in told_all books_all
told-alike books seconds seconds' [] a = (refl, refl)
told-alike books seconds seconds' (stream.noise n ∷ events) a =
    let z = told-alike books seconds seconds' events a in (ap (λ ts. noise n ∷ ts) z.0, z.1)
told-alike books seconds seconds' (stream.frame header bytes ∷ events) a =
    let event = stream.frame header bytes in
    let n = frames_in (told_all (books_after books (seconds 0) event) (later event seconds) events) in
    let one = frame-counts (handled_on books (seconds 0) bytes) header bytes (verdict_on books (seconds 0) bytes) n in
    let q : seconds 0 ≡ seconds' 0 = a 0 (omega (arith, one)) in
    let z = told-alike (books_after books (seconds 0) event) (later event seconds) (later event seconds') events (λ i h. a (suc i) (omega (arith, h, one))) in (
      ap₂ (λ t ts. t ∷ ts) (ap (λ n. told_of books n event) q) (z.0 ∙ ap (λ n. told_all (books_after books n event) (later event seconds') events) q),
      z.1 ∙ ap (λ n. books_all (books_after books n event) (later event seconds') events) q,
    )

-- ---- a clock that gives any seconds: it goes by how many frames were told

module _ (seconds : Seconds) where
  abbrev pub clocked : Lender
  clocked = one_log (λ x. seconds (frames_in x.before))

  -- those of the frames behind the first n
  abbrev from : ℕ → Seconds
  from n = λ i. seconds (n + i)

  then-alike : (t : Told) (n m : ℕ) (behind : Seconds) → Alike m behind (from (counting t n)) → (i : ℕ) → i < counting t m → told_then t (seconds n) behind i ≡ seconds (n + i)
  then-alike (accepted header bytes entries) n m behind a zero h = let e : n ≡ n + 0 = omega arith in ap seconds e
  then-alike (accepted header bytes entries) n m behind a (suc i) h = let e : suc n + i ≡ n + suc i = omega arith in a i (omega (arith, h)) ∙ ap seconds e
  then-alike (refused header bytes why) n m behind a zero h = let e : n ≡ n + 0 = omega arith in ap seconds e
  then-alike (refused header bytes why) n m behind a (suc i) h = let e : suc n + i ≡ n + suc i = omega arith in a i (omega (arith, h)) ∙ ap seconds e
  then-alike (noise count) n m behind a i h = a i h

  fed-alike : {c : Caller} {x x₁ : Point} {ps : List (List ℕ)} {ts : List Told} (f : FeedsBy c clocked x ps ts x₁) (m : ℕ) (behind : Seconds)
      → Alike m behind (from (frames_in x₁.before)) → Alike (frames_in ts + m) (seconds_fed f behind) (from (frames_in x.before))
  unfolding frames_in seconds_fed
  fed-alike FeedsBy.no_more m behind a = λ i h. a i (omega (arith, h))
  fed-alike (FeedsBy.an-event {x} {t = t} {ts} k f) m behind a =
      let y = subst (λ n. Alike (frames_in ts + m) (seconds_fed f behind) (from n)) (one_more x.before t) (fed-alike f m behind a) in
      λ i h. then-alike t (frames_in x.before) (frames_in ts + m) (seconds_fed f behind) y i (omega (arith, h, counting-plus t (frames_in ts) m))
  fed-alike (FeedsBy.all-used k f) m behind a = fed-alike f m behind a
  fed-alike (FeedsBy.passed_over g f) m behind a = fed-alike f m behind a

  closed-alike : {x x₁ : Point} {ts : List Told} (f : ClosesBy clocked x ts x₁) → Alike (frames_in ts) (seconds_closed f) (from (frames_in x.before))
  unfolding frames_in seconds_closed
  closed-alike (ClosesBy.an-event {x} {t = t} {ts} k f) =
      then-alike t (frames_in x.before) (frames_in ts) (seconds_closed f) (subst (λ n. Alike (frames_in ts) (seconds_closed f) (from n)) (one_more x.before t) (closed-alike f))
  closed-alike (ClosesBy.is-done k) = λ i h. absurd (omega (arith, h))

  pub clock-alike : {c : Caller} {bytes log : List ℕ} {books : Held} {ps : List (List ℕ)} (w : WholeBy c clocked bytes books log ps)
      → Alike (frames_in (w.before ++ w.after)) (seconds_by w) seconds
  unfolding frames_in
  clock-alike w = λ i h.
      let e : 0 + i ≡ i = omega arith in
      fed-alike w.feeds (frames_in w.after) (seconds_closed w.closes) (closed-alike w.closes) i (omega (arith, h, frames-append w.before w.after)) ∙ ap seconds e
