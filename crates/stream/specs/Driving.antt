-- Reading a whole stream, call by call: what the theorems rest on. Serves proofs; proved.
use Rattle.std.specs.Prelude.{◌≡◌, Bool, true, false, not, ℕ, zero, suc, ◌≤◌, ◌<◌, length, take, drop, replicate, ltb}
use Rattle.std.proofs.Math.Path.{refl, ap}
use Rattle.std.proofs.Common.{sym, ◌∙◌, inl, ⊎_elim, arith, length-take-le}
use mathlib.Core.List.{List, [], ◌∷◌, ◌++◌, append_assoc, append-nil, flatten}
use Rattle.std.proofs.lemmas.List.{length-replicate}
use Rattle.sizes.specs.Sizes.{longest_frame}
use Rattle.answer.specs.Stop.{stop}
use Rattle.answer.specs.declared.Refusal.TheVariants.{Room, State}
use Rattle.stream.specs.declared.Tray.{Tray}
use Rattle.stream.specs.declared.Said.{Said}
use Rattle.stream.specs.Scan.{Event, scan_from, scan}
use Rattle.stream.specs.Tray.{zeros, sound, contents, Decision, event, none, decide, Outcome, refused, told, hungry, done, taken, feed_by, feed_end, feed, called, finished}
use Rattle.stream.specs.Tray.{fresh_tray, answer_of, laid, call_answer, call_bytes, finish_answer, finish_bytes}
use Rattle.stream.specs.Driver.{Ready, Clear, Tells, Caller, waits, Feeds, Closes}
use Rattle.stream.specs.Machine.{Reading, tells, on_list, scan-reading}
use Rattle.stream.specs.Ahead.{ahead_from, on_ahead, ahead-reading, tells-ahead}
use Rattle.stream.specs.Kept.{Waits}
use Rattle.stream.specs.Sound.{zeros-replicate, sound-parts, sound-whole, laid-clear, laid_same, laid-self}
use Rattle.stream.specs.Steps.{live_of, call_kept, end_kept, call-fed, end-ended, ready-after, beyond-after, event-step, hungry-step, last_step, done-step, call-says, end-says, hungry-waits, not-said}

-- ---- a sound tray stays sound, and never holds more than 1,103 bytes

pub call-ready : {bytes : List ℕ} {tray : Tray} → Ready bytes tray → (input : List ℕ) → Ready (call_bytes bytes tray input) (call_answer bytes tray input).tray
call-ready {bytes} {tray} r input = ready-after bytes r.room tray (called bytes tray input) (call_kept bytes tray input r)

pub finish-ready : {bytes : List ℕ} {tray : Tray} → Ready bytes tray → Ready (finish_bytes bytes tray) (finish_answer bytes tray).tray
finish-ready {bytes} {tray} r = ready-after bytes r.room tray (finished bytes tray) (end_kept bytes tray r)

pub held-most : {bytes : List ℕ} {tray : Tray} → Ready bytes tray → tray.held ≤ longest_frame
held-most {bytes} {tray} r = (sound-parts bytes tray r.is-sound).held-most

pub fresh-ready : {bytes : List ℕ} → Clear bytes → Ready bytes fresh_tray
fresh-ready {bytes} c = record {
  room = c.room;
  is-sound = sound-whole bytes fresh_tray (record { held-most = omega arith; zeros-after = c.are-zeros; noise-less = omega arith; shown-fits = inl refl });
}

pub feeds-ready : {c : Caller} {b b₁ : List ℕ} {t t₁ : Tray} {ps : List (List ℕ)} {es : List Event} → Feeds c b t ps es b₁ t₁ → Ready b t → Ready b₁ t₁
feeds-ready Feeds.no_more r = r
feeds-ready (Feeds.an-event {p = p} k f) r = feeds-ready f (call-ready r p)
feeds-ready (Feeds.all-used {p = p} k f) r = feeds-ready f (call-ready r p)
feeds-ready (Feeds.passed_over g f) r = feeds-ready f r

-- ---- no more input is used than there is; hungry: all of it is used

abbrev Used : List ℕ → Outcome → Type 0
Used p (refused r) = Unit {0}
Used p (told e c u) = u ≤ length p
Used p (hungry c u) = u ≡ length p
Used p (done c) = Unit {0}

used-more : (x : ℕ) (p : List ℕ) (o : Outcome) → Used p o → Used (x ∷ p) (taken o)
used-more x p (refused r) g = tt
used-more x p (told e c u) g = omega arith
used-more x p (hungry c u) g = omega arith
used-more x p (done c) g = tt

feed-used : (p h : List ℕ) (k : ℕ) → Used p (feed p h k)
unfolding feed
feed-used [] h k = go (decide h k)
  where
    go : (w : Decision) → Used [] (feed_end w)
    go (event e c) = omega arith
    go (none h' k') = refl
feed-used (x ∷ p) h k = go (λ h' k'. feed-used p h' k') (decide h k)
  where
    go : ((h' : List ℕ) (k' : ℕ) → Used p (feed p h' k')) → (w : Decision) → Used (x ∷ p) (feed_by w (λ h' k'. feed p (h' ++ x ∷ []) k'))
    go r (event e c) = omega arith
    go r (none h' k') = used-more x p (feed p (h' ++ x ∷ []) k') (r (h' ++ x ∷ []) k')

call-used-by : (bytes : List ℕ) (tray : Tray) (input : List ℕ) → Used input (called bytes tray input)
unfolding called
call-used-by bytes tray input = go (ltb (length bytes) longest_frame) (not (sound bytes tray))
  where
    go : (a b : Bool) → Used input (stop a (refused Room) (stop b (refused State) (feed input (live_of bytes tray) tray.noise)))
    go true b = tt
    go false true = tt
    go false false = feed-used input (live_of bytes tray) tray.noise

pub call-used : (bytes : List ℕ) (tray : Tray) (input : List ℕ) → (call_answer bytes tray input).used ≤ length input
call-used bytes tray input = go (called bytes tray input) (call-used-by bytes tray input)
  where
    go : (o : Outcome) → Used input o → (answer_of tray o).used ≤ length input
    go (refused r) g = omega arith
    go (told e c u) g = g
    go (hungry c u) g = omega arith
    go (done c) g = omega arith

pub hungry-used : (bytes : List ℕ) (tray : Tray) (input : List ℕ) → (call_answer bytes tray input).said ≡ Said.Hungry → (call_answer bytes tray input).used ≡ length input
hungry-used bytes tray input q = go (called bytes tray input) (call-used-by bytes tray input) q
  where
    go : (o : Outcome) → Used input o → (answer_of tray o).said ≡ Said.Hungry → (answer_of tray o).used ≡ length input
    go (refused r) g s = let z : ◌≡◌ {A = ℕ} 0 1 = cc in absurd (omega arith)
    go (told e c u) g s = absurd (not-said e (inl s))
    go (hungry c u) g s = g
    go (done c) g s = let z : ◌≡◌ {A = ℕ} 0 1 = cc in absurd (omega arith)

-- ---- the lent bytes beyond 1,103 stay

feeds-beyond : {c : Caller} {b b₁ : List ℕ} {t t₁ : Tray} {ps : List (List ℕ)} {es : List Event} → Feeds c b t ps es b₁ t₁ → Ready b t → drop longest_frame b₁ ≡ drop longest_frame b
feeds-beyond Feeds.no_more r = refl
feeds-beyond (Feeds.an-event {b} {t = t} {p = p} k f) r = feeds-beyond f (call-ready r p) ∙ beyond-after b (called b t p) (call_kept b t p r)
feeds-beyond (Feeds.all-used {b} {t = t} {p = p} k f) r = feeds-beyond f (call-ready r p) ∙ beyond-after b (called b t p) (call_kept b t p r)
feeds-beyond (Feeds.passed_over g f) r = feeds-beyond f r

-- ---- the calls, of any reading of the bytes to come that goes as `scan` does

module _ {X : Type 0} (cons : Event → X → X) (F : ℕ → List ℕ → X) (reading : Reading cons F) where
  feeds-good : {c : Caller} {b b₁ : List ℕ} {t t₁ : Tray} {ps : List (List ℕ)} {es : List Event} → Feeds c b t ps es b₁ t₁ → Ready b t
      → (x : List ℕ) → F t.noise (live_of b t ++ (flatten ps ++ x)) ≡ tells cons es (F t₁.noise (live_of b₁ t₁ ++ x))
  unfolding flatten
  feeds-good Feeds.no_more r x = refl
  feeds-good (Feeds.an-event {b} {t = t} {p = p} {ps = ps} {e = e} k f) r x =
      let s = event-step cons F b t p _ (called b t p) (call_kept b t p r) (call-fed cons F reading b t p r) e k (flatten ps ++ x) in
      let g = feeds-good f (call-ready r p) x in
      rw (append_assoc p (flatten ps) x) (s ∙ ap (cons e) (rw (← append_assoc (drop (call_answer b t p).used p) (flatten ps) x) g))
  feeds-good (Feeds.all-used {b} {t = t} {p = p} {ps = ps} k f) r x =
      let s = hungry-step cons F b t p _ (called b t p) (call_kept b t p r) (call-fed cons F reading b t p r) k (flatten ps ++ x) in
      rw (append_assoc p (flatten ps) x) (s ∙ feeds-good f (call-ready r p) x)
  feeds-good (Feeds.passed_over g f) r x = feeds-good f r x

-- ---- finish until done, and all of it

closes-good : {b b₁ : List ℕ} {t t₁ : Tray} {es : List Event} → Closes b t es b₁ t₁ → Ready b t
    → (es ≡ scan_from (live_of b t) 0 t.noise) × (t₁ ≡ fresh_tray) × (b₁ ≡ laid b [])
closes-good (Closes.an-event {b} {t = t} {e = e} k f) r =
    let s = last_step b t _ (finished b t) (end_kept b t r) (end-ended b t r) e k in
    let g = closes-good f (finish-ready r) in
    (sym (s ∙ ap (λ es. e ∷ es) (sym g.0)), g.1, g.2 ∙ laid_same _ b [] (beyond-after b (finished b t) (end_kept b t r)))
closes-good (Closes.is-done {b} {t} k) r =
    let s = done-step b t _ (finished b t) (end-ended b t r) k in
    (sym s.0, s.1, s.2)

tells-list : (es fs : List Event) → tells on_list es fs ≡ es ++ fs
tells-list [] fs = refl
tells-list (e ∷ es) fs = ap (λ gs. e ∷ gs) (tells-list es fs)

pub stream : {c : Caller} {bytes b₁ b₂ : List ℕ} {t₁ t₂ : Tray} {portions : List (List ℕ)} {es fs : List Event}
    → Clear bytes → Feeds c bytes fresh_tray portions es b₁ t₁ → Closes b₁ t₁ fs b₂ t₂
    → (es ++ fs ≡ scan (flatten portions)) × (t₂ ≡ fresh_tray) × (b₂ ≡ bytes)
unfolding scan
stream {bytes} {b₁} {t₁ = t₁} {portions = ps} {es = es} {fs = fs} c f g =
    let r = fresh-ready c in
    let h = closes-good g (feeds-ready f r) in
    let a = feeds-good on_list (λ k s. scan_from s 0 k) scan-reading f r [] in
    let e : es ++ fs ≡ scan_from (flatten ps ++ []) 0 0 = rw (h.0, ← append-nil (live_of b₁ t₁), ← tells-list) (sym a) in
    (rw (append-nil (flatten ps)) at e, h.1, h.2 ∙ laid_same b₁ bytes [] (feeds-beyond f r) ∙ laid-clear bytes c)

-- ---- and the calls end

-- what is left to tell of a tray and the bytes to come: each event told is the first of it

abbrev pub left : List ℕ → Tray → List ℕ → List Event
left b t x = scan_from (live_of b t ++ x) 0 t.noise

pub call-event : {b : List ℕ} {t : Tray} → Ready b t → (p : List ℕ) (e : Event) → Tells (call_answer b t p).said (call_bytes b t p) e
    → left b t p ≡ e ∷ left (call_bytes b t p) (call_answer b t p).tray (drop (call_answer b t p).used p)
call-event {b} {t} r p e k =
    let s = event-step on_list (λ k s. scan_from s 0 k) b t p _ (called b t p) (call_kept b t p r) (call-fed on_list (λ k s. scan_from s 0 k) scan-reading b t p r) e k [] in
    simp append-nil at s

pub finish-event : {b : List ℕ} {t : Tray} → Ready b t → (e : Event) → Tells (finish_answer b t).said (finish_bytes b t) e
    → left b t [] ≡ e ∷ left (finish_bytes b t) (finish_answer b t).tray []
finish-event {b} {t} r e k =
    rw (append-nil (live_of b t), append-nil (live_of (finish_bytes b t) (finish_answer b t).tray)) (last_step b t _ (finished b t) (end_kept b t r) (end-ended b t r) e k)

abbrev pub Fedto : Caller → List ℕ → Tray → List (List ℕ) → Type 0
Fedto c b t ps = (es : List Event) × (b₁ : List ℕ) × (t₁ : Tray) × Feeds c b t ps es b₁ t₁

one-portion : {c : Caller} (ps : List (List ℕ)) → ((b : List ℕ) (t : Tray) → Ready b t → Fedto c b t ps)
    → (n : ℕ) (p : List ℕ) (b : List ℕ) (t : Tray) → Ready b t → length (left b t p) < n → Fedto c b t (p ∷ ps)
one-portion ps more zero p b t r h = absurd (omega arith)
one-portion ps more (suc n) p b t r h =
    ⊎_elim
    (λ w.
    let s = call-event r p w.0 w.1 in
    let d = one-portion ps more n (drop (call_answer b t p).used p) (call_bytes b t p) (call_answer b t p).tray (call-ready r p) (omega (arith, ap length s)) in
    (w.0 ∷ d.0, d.1, d.2, Feeds.an-event w.1 d.3))
    (λ q.
    let d = more (call_bytes b t p) (call_answer b t p).tray (call-ready r p) in
    (d.0, d.1, d.2, Feeds.all-used q d.3))
    (call-says on_list (λ k s. scan_from s 0 k) b t p _ (called b t p) (call-fed on_list (λ k s. scan_from s 0 k) scan-reading b t p r))

pub feeds-end : {c : Caller} (portions : List (List ℕ)) (bytes : List ℕ) (tray : Tray) → Ready bytes tray → Fedto c bytes tray portions
feeds-end [] b t r = ([], b, t, Feeds.no_more)
feeds-end (p ∷ ps) b t r = one-portion ps (λ b t r. feeds-end ps b t r) (suc (length (left b t p))) p b t r (omega arith)

abbrev pub Closesto : List ℕ → Tray → Type 0
Closesto b t = (es : List Event) × (b₁ : List ℕ) × (t₁ : Tray) × Closes b t es b₁ t₁

closes_in : (n : ℕ) (b : List ℕ) (t : Tray) → Ready b t → length (left b t []) < n → Closesto b t
closes_in zero b t r h = absurd (omega arith)
closes_in (suc n) b t r h =
    ⊎_elim
    (λ w.
    let s = finish-event r w.0 w.1 in
    let d = closes_in n (finish_bytes b t) (finish_answer b t).tray (finish-ready r) (omega (arith, ap length s)) in
    (w.0 ∷ d.0, d.1, d.2, Closes.an-event w.1 d.3))
    (λ q. ([], _, _, Closes.is-done q))
    (end-says b t _ (finished b t) (end-ended b t r))

pub closes-end : (bytes : List ℕ) (tray : Tray) → Ready bytes tray → Closesto bytes tray
closes-end b t r = closes_in (suc (length (left b t []))) b t r (omega arith)

-- ---- before finish

feeds-wait : {b b₁ : List ℕ} {t t₁ : Tray} {ps : List (List ℕ)} {es : List Event} → Feeds waits b t ps es b₁ t₁ → Ready b t
    → (ps ≡ [] → Waits (contents b t)) → Waits (contents b₁ t₁)
feeds-wait Feeds.no_more r w = w refl
feeds-wait (Feeds.an-event {p = p} k f) r w = feeds-wait f (call-ready r p) (λ z. let no : ◌≡◌ {A = ℕ} 0 1 = cc in absurd (omega arith))
feeds-wait (Feeds.all-used {b} {t = t} {p = p} k f) r w = feeds-wait f (call-ready r p) (λ _. hungry-waits b t (called b t p) (call_kept b t p r) k)
feeds-wait (Feeds.passed_over g f) r w = absurd g

fresh-waits : (bytes : List ℕ) → Waits (contents bytes fresh_tray)
unfolding ahead_from
fresh-waits bytes = record { none-shown = refl; none_ahead = refl; has_room = omega arith; noise-less = omega arith }

feeds-ahead : {bytes b : List ℕ} {t : Tray} {ps : List (List ℕ)} {es : List Event} → Clear bytes → Feeds waits bytes fresh_tray ps es b t
    → ahead_from (flatten ps) 0 0 ≡ (es, take t.held b, t.noise)
feeds-ahead {bytes} {b} {t} {ps} {es} c f =
    let r = fresh-ready c in
    let a = feeds-good on_ahead (λ k s. ahead_from s 0 k) ahead-reading f r [] in
    let w = feeds-wait f r (λ _. fresh-waits bytes) in
    let l : live_of b t ≡ take t.held b = ap (λ n. drop n (take t.held b)) w.none-shown in
    (simp append-nil at a) ∙ ap (λ s. tells on_ahead es (ahead_from s 0 t.noise)) l ∙ ap (tells on_ahead es) w.none_ahead
    ∙ tells-ahead es ([], take t.held b, t.noise) ∙ rw (append-nil es)

pub cut : {bytes b b' : List ℕ} {t t' : Tray} {portions portions' : List (List ℕ)} {es es' : List Event} → Clear bytes
    → Feeds waits bytes fresh_tray portions es b t → Feeds waits bytes fresh_tray portions' es' b' t' → flatten portions ≡ flatten portions'
    → (es ≡ es') × (t ≡ t') × (b ≡ b')
cut {bytes} {b} {b'} {t} {t'} c f f' q =
    let r = fresh-ready c in
    let a = sym (feeds-ahead c f) ∙ ap (λ s. ahead_from s 0 0) q ∙ feeds-ahead c f' in
    let w = feeds-wait f r (λ _. fresh-waits bytes) in
    let w' = feeds-wait f' r (λ _. fresh-waits bytes) in
    let h : take t.held b ≡ take t'.held b' = ap (λ a. a.1) a in
    let l = held-length (feeds-ready f r) in
    let l' = held-length (feeds-ready f' r) in
    let n : t.held ≡ t'.held = sym l ∙ ap length h ∙ l' in
    let s : t.shown ≡ t'.shown = w.none-shown ∙ sym w'.none-shown in
    let k : t.noise ≡ t'.noise = ap (λ a. a.2) a in
    let d = feeds-beyond f r ∙ sym (feeds-beyond f' r) in (
      ap (λ a. a.0) a,
      λ i. record { held = n i; shown = s i; noise = k i },
      sym (self (feeds-ready f r)) ∙ laid_same b b' _ d ∙ ap (laid b') h ∙ self (feeds-ready f' r),
    )
  where
    held-length : {b : List ℕ} {t : Tray} → Ready b t → length (take t.held b) ≡ t.held
    held-length {b} {t} r = length-take-le t.held b (omega (arith, held-most r, r.room))

    self : {b : List ℕ} {t : Tray} → Ready b t → laid b (take t.held b) ≡ b
    self {b} {t} r = laid-self b t.held r.room (held-most r) (sound-parts b t r.is-sound).zeros-after

pub prefix : {c : Caller} {bytes b b' : List ℕ} {t t' : Tray} {portions portions' : List (List ℕ)} {es es' : List Event} → Clear bytes
    → Feeds c bytes fresh_tray portions es b t → Feeds waits bytes fresh_tray portions' es' b' t'
    → (more : List ℕ) → flatten portions' ≡ flatten portions ++ more → (rest : List Event) × (es' ≡ es ++ rest)
prefix {b = b} {t = t} {es = es} c f f' more q =
    let a = feeds-good on_ahead (λ k s. ahead_from s 0 k) ahead-reading f (fresh-ready c) more in
    let d = ahead_from (live_of b t ++ more) 0 t.noise in
    (d.0, ap (λ a. a.0) ((rw q at (sym (feeds-ahead c f'))) ∙ a ∙ tells-ahead es d))

-- zeros alone are clear
pub zeros-clear : (n : ℕ) → longest_frame ≤ n → Clear (replicate n 0)
zeros-clear n h =
    record { room = rw length-replicate h; are-zeros = ap zeros (take-replicate longest_frame n h) ∙ zeros-replicate longest_frame }
  where
    take-replicate : (k n : ℕ) → k ≤ n → take {A = ℕ} k (replicate n 0) ≡ replicate k 0
    take-replicate zero n h = refl
    take-replicate (suc k) zero h = absurd (omega arith)
    take-replicate (suc k) (suc n) h = ap (λ l. 0 ∷ l) (take-replicate k n (omega arith))
