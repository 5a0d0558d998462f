-- Serves proofs: calls at some seconds are calls at any others that are alike for the frames heard, and a clock may give any seconds, as in crate prepare. Proved; assumes nothing.
use Rattle.std.specs.Prelude.{◌≡◌, refl, List, [], ◌∷◌, ◌++◌, ℕ, zero, suc, ◌+◌, ◌<◌}
use Rattle.std.proofs.Math.Path.{ap, subst}
use Rattle.std.proofs.Common.{◌∙◌}
use native.Mathlib.Omega.{arith}
use Rattle.stream.specs.Driver.{Caller}
use Rattle.prepare.specs.Uncut as uncut
use Rattle.prepare.specs.Uncut.{Seconds, Alike}
use Rattle.prepare.specs.Driver as driver
use Rattle.exportprepare.specs.Prepares.{Lent}
use Rattle.exportprepare.specs.Driver.{Heard, frame, noise, InTime, later_by, later_all, counting, frames_in, Feeds, Closes, Whole, heard_of, heard_all}
use Rattle.exportprepare.specs.Lender.{Point, Lender, same_again, FeedsBy, ClosesBy, WholeBy, heard_then, seconds_fed, seconds_closed, seconds_by}

-- ---- how many frames were heard

counting-plus : (h : Heard) (n m : ℕ) → counting h (n + m) ≡ counting h n + m
counting-plus (frame header bytes number sf bit entries) n m = omega arith
counting-plus (noise count) n m = omega arith

pub frames-append : (hs is : List Heard) → frames_in (hs ++ is) ≡ frames_in hs + frames_in is
unfolding frames_in
frames-append [] is = omega arith
frames-append (h ∷ hs) is = ap (counting h) (frames-append hs is) ∙ counting-plus h (frames_in hs) (frames_in is)

one_more : (hs : List Heard) (h : Heard) → frames_in (hs ++ h ∷ []) ≡ counting h (frames_in hs)
unfolding frames_in
one_more hs h = frames-append hs (h ∷ []) ∙ go h
  where
    go : (h : Heard) → frames_in hs + frames_in (h ∷ []) ≡ counting h (frames_in hs)
    go (frame header bytes number sf bit entries) = omega arith
    go (noise count) = omega arith

-- as many as were told
counting-told : (t : uncut.Told) (n : ℕ) → counting (heard_of t) n ≡ driver.counting t n
counting-told (uncut.accepted header bytes entries) n = refl
counting-told (uncut.refused header bytes why) n = refl
counting-told (uncut.noise count) n = refl

pub frames-told : (ts : List uncut.Told) → frames_in (heard_all ts) ≡ driver.frames_in ts
unfolding frames_in heard_all driver.frames_in
frames-told [] = refl
frames-told (t ∷ ts) = ap (counting (heard_of t)) (frames-told ts) ∙ counting-told t (driver.frames_in ts)

-- ---- seconds that are alike for the frames heard

alike-time : (h : Heard) (second n : ℕ) (seconds seconds' : Seconds) → Alike (counting h n) seconds seconds' → InTime h second seconds → InTime h second seconds'
alike-time (frame header bytes number sf bit entries) second n seconds seconds' a i = i ∙ a 0 (omega arith)
alike-time (noise count) second n seconds seconds' a i = tt

alike-later : (h : Heard) (n : ℕ) (seconds seconds' : Seconds) → Alike (counting h n) seconds seconds' → Alike n (later_by h seconds) (later_by h seconds')
alike-later (frame header bytes number sf bit entries) n seconds seconds' a = λ i w. a (suc i) (omega (arith, w))
alike-later (noise count) n seconds seconds' a = a

pub alike-behind : (hs : List Heard) (n : ℕ) (seconds seconds' : Seconds) → Alike (frames_in hs + n) seconds seconds' → Alike n (later_all hs seconds) (later_all hs seconds')
unfolding frames_in later_all
alike-behind [] n seconds seconds' a = λ i w. a i (omega (arith, w))
alike-behind (h ∷ hs) n seconds seconds' a =
    alike-behind hs n (later_by h seconds) (later_by h seconds')
    (alike-later h (frames_in hs + n) seconds seconds' (λ i w. a i (omega (arith, w, counting-plus h (frames_in hs) n))))

pub feeds-alike : {c : Caller} {seconds : Seconds} {l l₁ : Lent} {ps : List (List ℕ)} {hs : List Heard} → Feeds c seconds l ps hs l₁ → (seconds' : Seconds)
    → Alike (frames_in hs) seconds seconds' → Feeds c seconds' l ps hs l₁
unfolding frames_in
feeds-alike Feeds.no_more seconds' a = Feeds.no_more
feeds-alike (Feeds.an-event {seconds} {l} {h = h} {hs} q k i f) seconds' a =
    Feeds.an-event q k (alike-time h l.second (frames_in hs) seconds seconds' a i) (feeds-alike f (later_by h seconds') (alike-later h (frames_in hs) seconds seconds' a))
feeds-alike (Feeds.all-used q k f) seconds' a = Feeds.all-used q k (feeds-alike f seconds' a)
feeds-alike (Feeds.passed_over g f) seconds' a = Feeds.passed_over g (feeds-alike f seconds' a)
feeds-alike (Feeds.lent-anew r f) seconds' a = Feeds.lent-anew r (feeds-alike f seconds' a)

pub closes-alike : {seconds : Seconds} {l l₁ : Lent} {hs : List Heard} → Closes seconds l hs l₁ → (seconds' : Seconds) → Alike (frames_in hs) seconds seconds' → Closes seconds' l hs l₁
unfolding frames_in
closes-alike (Closes.an-event {seconds} {l} {h = h} {hs} q k i f) seconds' a =
    Closes.an-event q k (alike-time h l.second (frames_in hs) seconds seconds' a i) (closes-alike f (later_by h seconds') (alike-later h (frames_in hs) seconds seconds' a))
closes-alike (Closes.is-done q k) seconds' a = Closes.is-done q k
closes-alike (Closes.lent-anew r f) seconds' a = Closes.lent-anew r (closes-alike f seconds' a)

-- the same calls, by which the same is heard and which leave the same
abbrev pub whole-alike : {c : Caller} {seconds : Seconds} {lent : Lent} {portions : List (List ℕ)} (w : Whole c seconds lent portions) (seconds' : Seconds)
    → Alike (frames_in (w.before ++ w.after)) seconds seconds' → Whole c seconds' lent portions
whole-alike {seconds = seconds} w seconds' a =
    let both : Alike (frames_in w.before + frames_in w.after) seconds seconds' = λ i h. a i (omega (arith, h, frames-append w.before w.after)) in
    record {
      before = w.before;
      between = w.between;
      feeds = feeds-alike w.feeds seconds' (λ i h. both i (omega (arith, h)));
      after = w.after;
      end = w.end;
      closes = closes-alike w.closes (later_all w.before seconds') (alike-behind w.before (frames_in w.after) seconds seconds' both);
    }

-- ---- a clock that gives any seconds: it goes by how many frames were heard

module _ (seconds : Seconds) where
  abbrev pub clocked : Lender
  clocked = same_again (λ x. seconds (frames_in x.heard))

  -- those of the frames behind the first n
  abbrev from : ℕ → Seconds
  from n = λ i. seconds (n + i)

  then-alike : (h : Heard) (n m : ℕ) (behind : Seconds) → Alike m behind (from (counting h n)) → (i : ℕ) → i < counting h m → heard_then h (seconds n) behind i ≡ seconds (n + i)
  then-alike (frame header bytes number sf bit entries) n m behind a zero w = let e : n ≡ n + 0 = omega arith in ap seconds e
  then-alike (frame header bytes number sf bit entries) n m behind a (suc i) w = let e : suc n + i ≡ n + suc i = omega arith in a i (omega (arith, w)) ∙ ap seconds e
  then-alike (noise count) n m behind a i w = a i w

  fed-alike : {c : Caller} {x x₁ : Point} {ps : List (List ℕ)} {hs : List Heard} (d : FeedsBy c clocked x ps hs x₁) (m : ℕ) (behind : Seconds)
      → Alike m behind (from (frames_in x₁.heard)) → Alike (frames_in hs + m) (seconds_fed d behind) (from (frames_in x.heard))
  unfolding frames_in seconds_fed
  fed-alike FeedsBy.no_more m behind a = λ i w. a i (omega (arith, w))
  fed-alike (FeedsBy.an-event {x} {h = h} {hs} q k d) m behind a =
      let y = subst (λ n. Alike (frames_in hs + m) (seconds_fed d behind) (from n)) (one_more x.heard h) (fed-alike d m behind a) in
      λ i w. then-alike h (frames_in x.heard) (frames_in hs + m) (seconds_fed d behind) y i (omega (arith, w, counting-plus h (frames_in hs) m))
  fed-alike (FeedsBy.all-used q k d) m behind a = fed-alike d m behind a
  fed-alike (FeedsBy.passed_over g d) m behind a = fed-alike d m behind a

  closed-alike : {x x₁ : Point} {hs : List Heard} (d : ClosesBy clocked x hs x₁) → Alike (frames_in hs) (seconds_closed d) (from (frames_in x.heard))
  unfolding frames_in seconds_closed
  closed-alike (ClosesBy.an-event {x} {h = h} {hs} q k d) =
      then-alike h (frames_in x.heard) (frames_in hs) (seconds_closed d) (subst (λ n. Alike (frames_in hs) (seconds_closed d) (from n)) (one_more x.heard h) (closed-alike d))
  closed-alike (ClosesBy.is-done q k) = λ i w. absurd (omega (arith, w))

  pub clock-alike : {c : Caller} {lent : Lent} {ps : List (List ℕ)} (w : WholeBy c clocked lent ps) → Alike (frames_in (w.before ++ w.after)) (seconds_by w) seconds
  unfolding frames_in
  clock-alike w = λ i h.
      let e : 0 + i ≡ i = omega arith in
      fed-alike w.feeds (frames_in w.after) (seconds_closed w.closes) (closed-alike w.closes) i (omega (arith, h, frames-append w.before w.after)) ∙ ap seconds e
