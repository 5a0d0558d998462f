-- Serves proofs: a call that tells an event does the same on the bytes that it used, so that what is handed over of a stream may be cut there. Proved; assumes nothing.
use Rattle.std.specs.Prelude.{◌≡◌, refl, Bool, true, false, not, ℕ, zero, suc, ◌≤◌, ltb, length, get_or, take, drop}
use Rattle.std.proofs.Common.{sym, ◌∙◌, subst, arith}
use Rattle.std.proofs.Math.Path.{ap}
use mathlib.Core.List.{List, [], ◌∷◌, ◌++◌, flatten}
use Rattle.std.proofs.Math.Seq.{take-length}
use Rattle.answer.specs.Stop.{stop}
use Rattle.answer.specs.declared.Refusal.TheVariants as refusal
use Rattle.sizes.specs.Sizes.{longest_frame}
use Rattle.stream.specs.declared.Tray.{Tray}
use Rattle.stream.specs.Tray.{sound, Decision, event, none, decide, Outcome, refused, told, hungry, done, taken, feed_by, feed_end, feed, called, contents, live}
use Rattle.stream.specs.Driver.{hurries}
use Rattle.prepare.specs.declared.Said.{Said}
use Rattle.prepare.specs.declared.Said.TheVariants as said
use Rattle.prepare.specs.Uncut as uncut
use Rattle.prepare.specs.Uncut.{Seconds}
use Rattle.prepare.specs.Prepare.{Handed, lacks_room, is_sound, said_of, answer_of, result_of, call_outcome}
use Rattle.prepare.specs.Steps.{Says}
use Rattle.export.specs.Numbers.{laid}
use Rattle.exportprepare.specs.Prepares.{Lent, handed_in, call_result, event_of, told_said, told_answer, number_told_by, lent_by, call_number, call_leaves}
use Rattle.exportprepare.specs.Driver.{Heard, event_in, used_in, Hears, InTime, later_by, Feeds, FeedsStream}
use Rattle.exportprepare.specs.Driving.{counts, call-left, call-parts, hears-says, hungry-said}

-- an event comes as well of the bytes used alone; hungry: all bytes are used
abbrev Cut : (List ℕ → Outcome) → (p : List ℕ) → Outcome → Type 0
Cut F p (refused r) = Unit {0}
Cut F p (told e c u) = (F (take u p) ≡ told e c u) × (u ≤ length p)
Cut F p (hungry c u) = u ≡ length p
Cut F p (done c) = Unit {0}

cut-end : (h : List ℕ) (k : ℕ) (w : Decision) → decide h k ≡ w → Cut (λ p. feed p h k) [] (feed_end w)
unfolding feed
cut-end h k (event e c) q = (ap feed_end q, omega arith)
cut-end h k (none h' k') q = refl

feed-cut : (p h : List ℕ) (k : ℕ) → Cut (λ p. feed p h k) p (feed p h k)
unfolding feed
feed-cut [] h k = cut-end h k (decide h k) refl
feed-cut (x ∷ xs) h k = go (λ h' k'. feed-cut xs h' k') (decide h k) refl
  where
    more : (h' : List ℕ) (k' : ℕ) → decide h k ≡ none h' k' → (o : Outcome) → Cut (λ p. feed p (h' ++ x ∷ []) k') xs o → Cut (λ p. feed p h k) (x ∷ xs) (taken o)
    more h' k' q (refused r) m = tt
    more h' k' q (told e c u) m = (ap (λ w. feed_by w (λ h' k'. feed (take u xs) (h' ++ x ∷ []) k')) q ∙ ap taken m.0, omega (arith, m.1))
    more h' k' q (hungry c u) m = omega (arith, m)
    more h' k' q (done c) m = tt

    go : ((h' : List ℕ) (k' : ℕ) → Cut (λ p. feed p h' k') xs (feed xs h' k')) → (w : Decision) → decide h k ≡ w
        → Cut (λ p. feed p h k) (x ∷ xs) (feed_by w (λ h' k'. feed xs (h' ++ x ∷ []) k'))
    go r (event e c) q = (ap feed_end q, omega arith)
    go r (none h' k') q = more h' k' q (feed xs (h' ++ x ∷ []) k') (r (h' ++ x ∷ []) k')

-- past ROOM and STATE, which don't look at the input
cut-past : (a b : Bool) (F : List ℕ → Outcome) (p : List ℕ) → Cut F p (F p)
    → Cut (λ p. stop a (refused refusal.Room) (stop b (refused refusal.State) (F p))) p (stop a (refused refusal.Room) (stop b (refused refusal.State) (F p)))
cut-past true b F p m = tt
cut-past false true F p m = tt
cut-past false false F p m = m

called-cut : (bytes : List ℕ) (tray : Tray) (p : List ℕ) → Cut (called bytes tray) p (called bytes tray p)
unfolding called
called-cut bytes tray p =
    cut-past (ltb (length bytes) longest_frame) (not (sound bytes tray)) (λ p. feed p (live (contents bytes tray)) tray.noise) p (feed-cut p (live (contents bytes tray)) tray.noise)

outcome-cut : (handed : Handed) (p : List ℕ) → Cut (call_outcome handed) p (call_outcome handed p)
unfolding call_outcome
outcome-cut handed p =
    cut-past (lacks_room handed.bytes handed.books.live handed.books.run handed.log) (not (is_sound handed)) (called handed.bytes handed.tray) p
    (called-cut handed.bytes handed.tray p)

-- of what is said
module _ (handed : Handed) (F : List ℕ → Outcome) (p : List ℕ) where
  event-cut : (o : Outcome) → Cut F p o → (t : uncut.Told) → Says handed o t → (F (take (answer_of handed o).used p) ≡ o) × ((answer_of handed o).used ≤ length p)
  event-cut (refused why) m t k = absurd k
  event-cut (told e c u) m t k = m
  event-cut (hungry c u) m t k = absurd k
  event-cut (done c) m t k = absurd k

-- ---- portions of a stream

left_over : (u : ℕ) (s : List ℕ) → drop u (take u s) ≡ []
left_over zero s = refl
left_over (suc u) [] = refl
left_over (suc u) (x ∷ s) = left_over u s

cut_at : (u n : ℕ) (s : List ℕ) → u ≤ length (take n s) → take u (take n s) ++ drop u s ≡ s
cut_at zero n s h = refl
cut_at (suc u) zero s h = absurd (omega arith)
cut_at (suc u) (suc n) [] h = absurd (omega arith)
cut_at (suc u) (suc n) (x ∷ s) h = ap (λ r. x ∷ r) (cut_at u n s (omega arith))

-- ---- the calls

-- where the number is 0, the bytes used are told
used-told : (used log : ℕ) (told₀ : List ℕ) (w : Said) → (told_said w used log).number ≡ 0 → get_or (laid (told_said w used log).numbers told₀) 1 0 ≡ used
unfolding laid told_said event_of
used-told used log told₀ said.Hungry q = refl
used-told used log told₀ (said.Accepted header) q = refl
used-told used log told₀ (said.FrameRefused header why) q = refl
used-told used log told₀ (said.Noise count) q = refl
used-told used log told₀ said.Done q = refl
used-told used log told₀ (said.Refused why) q = absurd (omega (arith, counts why))

not-hungry : (t : uncut.Told) → said_of t ≡ said.Hungry → ⊥
not-hungry (uncut.accepted header bytes entries) q = let z : ◌≡◌ {A = ℕ} 0 1 = cc in omega arith
not-hungry (uncut.refused header bytes why) q = let z : ◌≡◌ {A = ℕ} 0 1 = cc in omega arith
not-hungry (uncut.noise count) q = let z : ◌≡◌ {A = ℕ} 0 1 = cc in omega arith

hungry-used : (handed : Handed) (F : List ℕ → Outcome) (p : List ℕ) (o : Outcome) → Cut F p o → (answer_of handed o).said ≡ said.Hungry → (answer_of handed o).used ≡ length p
hungry-used handed F p (refused why) m q = let z : ◌≡◌ {A = ℕ} 0 1 = cc in absurd (omega arith)
hungry-used handed F p (told e c u) m q = absurd (not-hungry (uncut.told_of handed.books handed.second e) q)
hungry-used handed F p (hungry c u) m q = m
hungry-used handed F p (done c) m q = let z : ◌≡◌ {A = ℕ} 0 1 = cc in absurd (omega arith)

module _ (l : Lent) (p : List ℕ) (q : call_number l p ≡ 0) where
  abbrev pub outcome : Outcome
  outcome = call_outcome (handed_in l) p

  abbrev pub used : ℕ
  used = used_in (call_leaves l p)

  used-is : used ≡ (answer_of (handed_in l) outcome).used
  unfolding told_answer
  used-is =
      let a = answer_of (handed_in l) outcome in
      let z = call-parts l p q in
      ap (λ x. used_in x) (call-left l z.0 p) ∙ used-told a.used a.log l.told a.said z.1

  pub all-of-it : event_in (call_leaves l p) ≡ 0 → used ≡ length p
  all-of-it e =
      let z = call-parts l p q in
      let w = hungry-said l outcome z.1 (ap (λ x. event_in x) (sym (call-left l z.0 p)) ∙ e) in
      used-is ∙ hungry-used (handed_in l) (call_outcome (handed_in l)) p outcome (outcome-cut (handed_in l) p) w

  module _ (h : Heard) (k : Hears (call_leaves l p) h) where
    pub on-used : (call_outcome (handed_in l) (take used p) ≡ outcome) × (used ≤ length p)
    on-used =
        let z = call-parts l p q in
        let w = hears-says l outcome z.1 h (subst (λ x. Hears x h) (call-left l z.0 p) k) in
        subst (λ u. (call_outcome (handed_in l) (take u p) ≡ outcome) × (u ≤ length p)) (sym used-is)
        (event-cut (handed_in l) (call_outcome (handed_in l)) p outcome (outcome-cut (handed_in l) p) w.0 w.1)

    same_number : call_number l (take used p) ≡ call_number l p
    unfolding call_number call_result
    same_number = ap (λ o. number_told_by l (result_of (handed_in l) o)) on-used.0

    same_left : call_leaves l (take used p) ≡ call_leaves l p
    unfolding call_leaves call_result
    same_left = ap (λ o. lent_by l (result_of (handed_in l) o)) on-used.0

    -- the event on the bytes used, and the next portion
    on-portion : {seconds : Seconds} {l₁ : Lent} {ps : List (List ℕ)} {hs : List Heard} → InTime h l.second seconds → Feeds hurries (later_by h seconds) (call_leaves l p) ps hs l₁
        → Feeds hurries seconds l (take used p ∷ ps) (h ∷ hs) l₁
    on-portion {seconds} {l₁} {ps} {hs} i f =
        let none_left = subst (λ r. Feeds hurries (later_by h seconds) (call_leaves l p) (r ∷ ps) hs l₁) (sym (left_over used p)) (Feeds.passed_over tt f) in
        Feeds.an-event (same_number ∙ q) (subst (λ x. Hears x h) (sym same_left) k) i
        (subst (λ x. Feeds hurries (later_by h seconds) x (drop (used_in x) (take used p) ∷ ps) hs l₁) (sym same_left) none_left)

pub into-portions : {seconds : Seconds} {l l₁ : Lent} {left : List ℕ} {hs : List Heard} → FeedsStream seconds l left hs l₁
    → (portions : List (List ℕ)) × (Feeds hurries seconds l portions hs l₁) × (flatten portions ≡ left)
unfolding flatten
into-portions FeedsStream.no_more = ([], Feeds.no_more, refl)
into-portions (FeedsStream.an-event {l = l} {left = left} {h} n q k i f) =
    let p = take n left in
    let x = into-portions f in
    (take (used l p q) p ∷ x.0, on-portion l p q h k i x.1, ap (λ r. take (used l p q) p ++ r) x.2 ∙ cut_at (used l p q) n left (on-used l p q h k).1)
into-portions (FeedsStream.all-used {l = l} {left = left} n q k f) =
    let p = take n left in
    let x = into-portions f in
    let u = all-of-it l p q k in
    let e : take (used l p q) p ≡ p = ap (λ (v : ℕ). take v p) u ∙ take-length p in
    (p ∷ x.0, Feeds.all-used q k x.1, ap (λ r. p ++ r) x.2 ∙ ap (λ r. r ++ drop (used l p q) left) (sym e) ∙ cut_at (used l p q) n left (omega (arith, u)))
into-portions (FeedsStream.lent-anew r f) = let x = into-portions f in (x.0, Feeds.lent-anew r x.1, x.2)
