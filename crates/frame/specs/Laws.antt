-- Laws of `checked`, for the layers above: what an accepted frame is, that an answer other than SHORT stays when bytes are appended,
-- and how long SHORT stays. They serve proofs and are proved.
use Rattle.std.specs.Prelude.{◌≡◌, List, [], ◌++◌, Bool, true, false, cond, ◌&&◌, eqb, length, get_or, drop, Some, None}
use Rattle.std.proofs.Math.Path.{refl, ap, ap₂}
use Rattle.std.proofs.Common.{sym, subst, ◌∙◌, true≢false, arith, length-append, take-append-drop, length-take-le, lt-ltb, le-ltb, le-leb, ltb-true, ltb-false, eqb-true, eq-eqb, ne_eqb}
use Rattle.std.proofs.Math.Bool.{not}
use Prim.Native.Nat.{ℕ, zero, suc, ◌+◌, ◌-◌, ◌*◌, ◌≤◌, ◌<◌}
use Rattle.std.proofs.Math.Dec.{ltb}
use Rattle.std.proofs.Math.ListN.{take, length-drop, get_or-append}
use Rattle.std.proofs.Math.Seq.{take-append-le}
use Rattle.std.proofs.lemmas.List.{drop-append-le}
use Rattle.std.proofs.lemmas.Bool.{eqb-false, not-false}
use Rattle.sizes.specs.Sizes.{longest_frame}
use Rattle.answer.specs.declared.Refusal.{Refusal}
use Rattle.answer.specs.declared.Refusal.TheVariants.{Preamble, FrameCrc, Length, MessageCrc}
use Rattle.bits.specs.Bits.{field}
use Rattle.checks.specs.Crc.{frame_crc, message_crc}
use Rattle.bits.specs.Laws.{field_lt, field-append, field_out}
use Rattle.frame.specs.Fields.{preamble, tf003, tf004, tf005, tf006, tf008, tf009, tf014, tf015, tag_bits, payload_at, authenticated, authentication_bytes, authentication, check_bytes, check_at, frame_bytes}
use Rattle.answer.specs.Stop.{stop}
use Rattle.frame.specs.Check.{sealing_of, seal_of, frame_of, bad_frame_crc, bad_message_crc, want, checked, payload_in, payload_of}
use Rattle.frame.specs.declared.Frame.{Frame}
use Rattle.frame.specs.declared.Checked.{Checked}
use Rattle.frame.specs.declared.Checked.TheVariants.{Accepted, Short, Refused}

-- ---- the sizes

authentication-le : (s : List ℕ) → authentication s ≤ 64
unfolding authentication authentication_bytes
authentication-le s = go (authenticated s) (tf015 s)
  where
    go : (b : Bool) (k : ℕ) → cond b (authentication_bytes k) 0 ≤ 64
    go false k = omega arith
    go true zero = omega arith
    go true (suc zero) = omega arith
    go true (suc (suc zero)) = omega arith
    go true (suc (suc (suc zero))) = omega arith
    go true (suc (suc (suc (suc k)))) = omega arith

pub payload_at-le : (s : List ℕ) → payload_at s ≤ 12
payload_at-le s = omega (arith, field_lt s 36 1, field_lt s 25 1)

pub frame_bytes-le : (s : List ℕ) → frame_bytes s ≤ longest_frame
frame_bytes-le s = omega (arith, field_lt s 36 1, field_lt s 25 1, field_lt s 15 10, field_lt s 26 2, authentication-le s)

-- ---- an accepted frame: all that the tests say of it

pub record Acceptance (s : List ℕ) (f : Frame) : Type 0 where
  pub starts : get_or s 0 0 ≡ preamble
  pub start_right : frame_crc (get_or s 1 0) (get_or s 2 0) (get_or s 3 0) ≡ tf006 s
  pub some-payload : 1 ≤ tf003 s
  pub known-length : (authenticated s && ltb 4 (tf015 s)) ≡ false
  pub there : frame_bytes s ≤ length s
  pub right : message_crc (tf005 s) (take (check_at s - 1) (drop 1 s)) ≡ field s (8 * check_at s) (8 * check_bytes s)
  pub is : f ≡ frame_of s

stop-on : (b : Bool) (r : Refusal) (rest : Checked) {f : Frame} → stop b (Refused r) rest ≡ Accepted f → (b ≡ false) × (rest ≡ Accepted f)
stop-on true r rest e = let z : ◌≡◌ {A = ℕ} 0 1 = cc in absurd (omega arith)
stop-on false r rest e = (refl, e)

want-on : (n : ℕ) (s : List ℕ) (rest : Checked) {f : Frame} → want n s rest ≡ Accepted f → (n ≤ length s) × (rest ≡ Accepted f)
want-on n s rest {f} e = go (ltb (length s) n) refl e
  where
    go : (b : Bool) → ltb (length s) n ≡ b → stop b (Short n) rest ≡ Accepted f → (n ≤ length s) × (rest ≡ Accepted f)
    go true q e = let z : ◌≡◌ {A = ℕ} 0 1 = cc in absurd (omega arith)
    go false q e = (ltb-false (length s) n q, e)

-- a frame that is accepted passed every test
pub accepted : (s : List ℕ) (f : Frame) → checked s ≡ Accepted f → Acceptance s f
unfolding checked bad_frame_crc bad_message_crc
accepted s f e =
    let a = want-on 1 s _ e in
    let b = stop-on _ _ _ a.1 in
    let c = want-on 4 s _ b.1 in
    let d = stop-on _ _ _ c.1 in
    let g = stop-on _ _ _ d.1 in
    let h = want-on (payload_at s) s _ g.1 in
    let i = stop-on _ _ _ h.1 in
    let j = want-on (frame_bytes s) s _ i.1 in
    let k = stop-on _ _ _ j.1 in
    record {
      starts = eqb-true _ _ (not-false _ b.0);
      start_right = eqb-true _ _ (not-false _ d.0);
      some-payload = not-zero (tf003 s) (eqb-false _ _ g.0);
      known-length = i.0;
      there = j.0;
      right = eqb-true _ _ (not-false _ k.0);
      is = cc;
    }
  where
    not-zero : (n : ℕ) → (n ≡ 0 → ⊥) → 1 ≤ n
    not-zero zero h = absurd (h refl)
    not-zero (suc n) h = omega arith

-- and a frame that passes every test is accepted
pub accepts : (s : List ℕ) → Acceptance s (frame_of s) → checked s ≡ Accepted (frame_of s)
unfolding checked bad_frame_crc bad_message_crc
accepts s a =
    let l1 : ltb (length s) 1 ≡ false = le-ltb (length s) 1 (omega (arith, a.there)) in
    let l4 : ltb (length s) 4 ≡ false = le-ltb (length s) 4 (omega (arith, a.there)) in
    let lp : ltb (length s) (payload_at s) ≡ false = le-ltb (length s) (payload_at s) (omega (arith, a.there)) in
    let lf : ltb (length s) (frame_bytes s) ≡ false = le-ltb (length s) (frame_bytes s) a.there in
    let p : eqb (get_or s 0 0) preamble ≡ true = eq-eqb (get_or s 0 0) preamble a.starts in
    let c : eqb (frame_crc (get_or s 1 0) (get_or s 2 0) (get_or s 3 0)) (tf006 s) ≡ true = eq-eqb _ _ a.start_right in
    let n : eqb (tf003 s) 0 ≡ false = ne_eqb (tf003 s) 0 (λ e. absurd (omega (arith, a.some-payload, e))) in
    let m : eqb (message_crc (tf005 s) (take (check_at s - 1) (drop 1 s))) (field s (8 * check_at s) (8 * check_bytes s)) ≡ true = eq-eqb _ _ a.right in
    rw (l1, p, l4, c, n, lp, a.known-length, lf, m)

-- where TF015 counts, TF004 is set
pub sealed-if : (s : List ℕ) → authenticated s ≡ true → tf004 s ≡ 1
unfolding authenticated
sealed-if s h = go (eqb (tf004 s) 1) refl h
  where
    go : (t : Bool) → eqb (tf004 s) 1 ≡ t → (t && ltb 1 (tf014 s)) ≡ true → tf004 s ≡ 1
    go true e h = eqb-true (tf004 s) 1 e
    go false e h = absurd (true≢false (sym h))

-- ---- appended bytes

-- the fields of the first four bytes, and those of the description, are the same with bytes appended
module _ (s t : List ℕ) (h : 4 ≤ length s) where
  start-same : (pos w : ℕ) → pos + w ≤ 32 → field (s ++ t) pos w ≡ field s pos w
  start-same pos w k = field-append s t pos w (omega arith)

  byte-same : (i : ℕ) → i < 4 → get_or (s ++ t) i 0 ≡ get_or s i 0
  byte-same i k = get_or-append s t 0 i (omega arith)

  bad_frame_crc-same : bad_frame_crc (s ++ t) ≡ bad_frame_crc s
  unfolding bad_frame_crc
  bad_frame_crc-same =
      rw (byte-same 1 (omega arith), byte-same 2 (omega arith), byte-same 3 (omega arith), start-same 28 4 (omega arith))

  -- TF008 is there, or it is read as 0
  kind-more : tf008 s ≤ tf008 (s ++ t)
  kind-more = go (ltb (length s) 5) refl
    where
      go : (b : Bool) → ltb (length s) 5 ≡ b → tf008 s ≤ tf008 (s ++ t)
      go true e = omega (arith, field_out s 36 1 (omega (arith, ltb-true (length s) 5 e)))
      go false e = omega (arith, field-append s t 36 1 (omega (arith, ltb-false (length s) 5 e)))

  pub payload_at-more : payload_at s ≤ payload_at (s ++ t)
  payload_at-more = omega (arith, kind-more, start-same 25 1 (omega arith))

  module _ (k : payload_at s ≤ length s) where
    kind-same : tf008 (s ++ t) ≡ tf008 s
    kind-same = field-append s t 36 1 (omega arith)

    payload_at-same : payload_at (s ++ t) ≡ payload_at s
    payload_at-same = ap₂ (λ (a b : ℕ). 4 + (4 + 2 * a + 2 * b)) kind-same (start-same 25 1 (omega arith))

    -- a field of the description, at so many bits behind the tag
    described-same : (pos w : ℕ) → pos + tag_bits (tf008 s) + w ≤ 8 * payload_at s → field (s ++ t) (pos + tag_bits (tf008 (s ++ t))) w ≡ field s (pos + tag_bits (tf008 s)) w
    described-same pos w b =
        ap (λ (z : ℕ). field (s ++ t) (pos + tag_bits z) w) kind-same ∙ field-append s t (pos + tag_bits (tf008 s)) w (omega arith)

    authenticated-same : authenticated (s ++ t) ≡ authenticated s
    unfolding authenticated
    authenticated-same = rw (start-same 25 1 (omega arith)) (go (tf004 s) refl)
      where
        go : (x : ℕ) → tf004 s ≡ x → (eqb x 1 && ltb 1 (tf014 (s ++ t))) ≡ (eqb x 1 && ltb 1 (tf014 s))
        go zero e = refl
        go (suc zero) e = ap (λ (z : ℕ). ltb 1 z) (described-same 58 3 (omega arith))
        go (suc (suc x)) e = absurd (omega (arith, field_lt s 25 1))

    -- what is made of TF015 where it counts
    counted_same : {A : Type 0} (x : A) (f : ℕ → A) → cond (authenticated (s ++ t)) (f (tf015 (s ++ t))) x ≡ cond (authenticated s) (f (tf015 s)) x
    counted_same {A} x f = rw authenticated-same (go (authenticated s) refl)
      where
        go : (b : Bool) → authenticated s ≡ b → cond b (f (tf015 (s ++ t))) x ≡ cond b (f (tf015 s)) x
        go true e = ap f (described-same 61 3 (omega (arith, sealed-if s e)))
        go false e = refl

    judged-same : (authenticated (s ++ t) && ltb 4 (tf015 (s ++ t))) ≡ (authenticated s && ltb 4 (tf015 s))
    judged-same = sym (as-cond (authenticated (s ++ t)) _) ∙ counted_same false (λ z. ltb 4 z) ∙ as-cond (authenticated s) _
      where
        as-cond : (a b : Bool) → cond a b false ≡ (a && b)
        as-cond true b = refl
        as-cond false b = refl

    check_at-same : check_at (s ++ t) ≡ check_at s
    unfolding authentication
    check_at-same = ap₂ (λ (a b : ℕ). a + b) (ap₂ (λ (a b : ℕ). a + b) payload_at-same (start-same 15 10 (omega arith))) (counted_same 0 authentication_bytes)

    frame_bytes-same : frame_bytes (s ++ t) ≡ frame_bytes s
    frame_bytes-same = ap₂ (λ (a b : ℕ). a + (b + 1)) check_at-same (start-same 26 2 (omega arith))

    module _ (w : frame_bytes s ≤ length s) where
      bad_message_crc-same : bad_message_crc (s ++ t) ≡ bad_message_crc s
      unfolding bad_message_crc
      bad_message_crc-same =
          let body : take (check_at s - 1) (drop 1 (s ++ t)) ≡ take (check_at s - 1) (drop 1 s)
          = ap (take (check_at s - 1)) (drop-append-le 1 s t (omega arith)) ∙ take-append-le (check_at s - 1) (drop 1 s) t (omega (arith, length-drop 1 s)) in
          ap₂ (λ (x y : ℕ). not (eqb x y))
          (ap₂ (λ (a b : ℕ). message_crc a (take (b - 1) (drop 1 (s ++ t)))) (start-same 26 2 (omega arith)) check_at-same ∙ ap (message_crc (tf005 s)) body)
          (ap₂ (λ (a b : ℕ). field (s ++ t) (8 * a) (8 * (b + 1))) check_at-same (start-same 26 2 (omega arith)) ∙ field-append s t (8 * check_at s) (8 * check_bytes s) (omega arith))

      seal_of-same : seal_of (s ++ t) ≡ seal_of s
      seal_of-same = rw (start-same 25 1 (omega arith)) (go (tf004 s) refl)
        where
          go : (x : ℕ) → tf004 s ≡ x → cond (eqb x 0) None (Some (sealing_of (s ++ t))) ≡ cond (eqb x 0) None (Some (sealing_of s))
          go zero e = refl
          go (suc x) e =
              let a = described-same 48 4 (omega arith) in
              let b = described-same 52 6 (omega arith) in
              let c = described-same 58 3 (omega arith) in
              let d = described-same 61 3 (omega arith) in
              rw (a, b, c, d)

      frame_of-same : frame_of (s ++ t) ≡ frame_of s
      unfolding frame_of
      frame_of-same =
          let tag : tf009 (s ++ t) ≡ tf009 s
          = ap (λ (z : ℕ). field (s ++ t) 37 (tag_bits z)) kind-same ∙ field-append s t 37 (tag_bits (tf008 s)) (omega arith) in
          let seal = seal_of-same in
          let ty = start-same 8 7 (omega arith) in
          let n = start-same 15 10 (omega arith) in
          let ck = start-same 26 2 (omega arith) in
          let su = field-append s t 32 4 (omega arith) in
          let so = described-same 37 7 (omega arith) in
          let pr = described-same 44 4 (omega arith) in
          let at = payload_at-same in
          let all = frame_bytes-same in
          let k = kind-same in
          cc

-- an answer, and the answer with bytes appended: it stays, unless it was SHORT
pub data Keeps : Checked → Checked → Type 0 where
  kept : {v : Checked} → Keeps v v
  unknown : {n : ℕ} {v : Checked} → Keeps (Short n) v

keeps-want : (n m : ℕ) (s t : List ℕ) (v w : Checked) → (n ≤ length s → m ≡ n) → (n ≤ length s → Keeps v w) → Keeps (want n s v) (want m (s ++ t) w)
keeps-want n m s t v w e k = go (ltb (length s) n) refl
  where
    go : (b : Bool) → ltb (length s) n ≡ b → Keeps (stop b (Short n) v) (want m (s ++ t) w)
    go true q = unknown
    go false q =
        let h : n ≤ length s = ltb-false (length s) n q in
        let z : ltb (length (s ++ t)) m ≡ false = le-ltb (length (s ++ t)) m (omega (arith, e h, length-append s t)) in
        rw z (k h)

keeps-stop : (a b : Bool) (r v w : Checked) → b ≡ a → (a ≡ false → Keeps v w) → Keeps (stop a r v) (stop b r w)
keeps-stop true b r v w e k = rw e kept
keeps-stop false b r v w e k = rw e (k refl)

-- An answer other than SHORT stays when bytes are appended.
pub keeps : (s t : List ℕ) → Keeps (checked s) (checked (s ++ t))
unfolding checked
keeps s t =
    keeps-want 1 1 s t _ _ (λ _. refl) (λ a.
    keeps-stop _ _ _ _ _ (ap (λ (x : ℕ). not (eqb x preamble)) (get_or-append s t 0 0 (omega arith))) (λ _.
    keeps-want 4 4 s t _ _ (λ _. refl) (λ b.
    keeps-stop _ _ _ _ _ (bad_frame_crc-same s t b) (λ _.
    keeps-stop _ _ _ _ _ (ap (λ (x : ℕ). eqb x 0) (start-same s t b 15 10 (omega arith))) (λ _.
    keeps-want (payload_at s) (payload_at (s ++ t)) s t _ _ (λ d. payload_at-same s t b d) (λ d.
    keeps-stop _ _ _ _ _ (judged-same s t b d) (λ _.
    keeps-want (frame_bytes s) (frame_bytes (s ++ t)) s t _ _ (λ _. frame_bytes-same s t b d) (λ w.
    keeps-stop _ _ _ _ _ (bad_message_crc-same s t b d w) (λ _.
    rw (frame_of-same s t b d w) kept)))))))))

-- an answer v other than SHORT stays
keeps-told : (s t : List ℕ) (v : Checked) → ((n : ℕ) → Short n ≡ v → ⊥) → checked s ≡ v → checked (s ++ t) ≡ v
keeps-told s t v told e = go (checked s) (checked (s ++ t)) (keeps s t) e
  where
    go : (x y : Checked) → Keeps x y → x ≡ v → y ≡ v
    go x y kept e = e
    go x y (unknown {n}) e = absurd (told n e)

pub keeps-accepted : (s t : List ℕ) (f : Frame) → checked s ≡ Accepted f → checked (s ++ t) ≡ Accepted f
keeps-accepted s t f e = keeps-told s t (Accepted f) (λ n q. let z : ◌≡◌ {A = ℕ} 0 1 = cc in omega arith) e

pub keeps-refused : (s t : List ℕ) (r : Refusal) → checked s ≡ Refused r → checked (s ++ t) ≡ Refused r
keeps-refused s t r e = keeps-told s t (Refused r) (λ n q. let z : ◌≡◌ {A = ℕ} 0 1 = cc in omega arith) e

-- ---- how long SHORT stays

-- SHORT still, and at least n bytes are wanted
pub data Still (n : ℕ) : Checked → Type 0 where
  still : {m : ℕ} → n ≤ m → Still n (Short m)

-- Short n: fewer than n bytes are there, n is at most 1,103, and with bytes appended it is SHORT still while fewer than n are there
abbrev pub Waits : List ℕ → List ℕ → Checked → Checked → Type 0
Waits s t (Short n) w = (length s < n) × (n ≤ longest_frame) × (length (s ++ t) < n → Still n w)
Waits s t (Accepted f) w = Unit {0}
Waits s t (Refused r) w = Unit {0}

waits-want : (n m : ℕ) (s t : List ℕ) (v w : Checked) → n ≤ longest_frame → n ≤ m → (n ≤ length s → m ≡ n) → (n ≤ length s → Waits s t v w)
    → Waits s t (want n s v) (want m (s ++ t) w)
waits-want n m s t v w l o e k = go (ltb (length s) n) refl
  where
    go : (b : Bool) → ltb (length s) n ≡ b → Waits s t (stop b (Short n) v) (want m (s ++ t) w)
    go true q =
        (ltb-true (length s) n q, l, λ h. let z : ltb (length (s ++ t)) m ≡ true = lt-ltb (length (s ++ t)) m (omega arith) in rw z (still o))
    go false q =
        let h : n ≤ length s = ltb-false (length s) n q in
        let z : ltb (length (s ++ t)) m ≡ false = le-ltb (length (s ++ t)) m (omega (arith, e h, length-append s t)) in
        rw z (k h)

waits-stop : (a b : Bool) (s t : List ℕ) (r : Refusal) (v w : Checked) → b ≡ a → (a ≡ false → Waits s t v w) → Waits s t (stop a (Refused r) v) (stop b (Refused r) w)
waits-stop true b s t r v w e k = tt
waits-stop false b s t r v w e k = rw e (k refl)

pub waits : (s t : List ℕ) → Waits s t (checked s) (checked (s ++ t))
unfolding checked
waits s t =
    waits-want 1 1 s t _ _ (omega arith) (omega arith) (λ _. refl) (λ a.
    waits-stop _ _ s t _ _ _ (ap (λ (x : ℕ). not (eqb x preamble)) (get_or-append s t 0 0 (omega arith))) (λ _.
    waits-want 4 4 s t _ _ (omega arith) (omega arith) (λ _. refl) (λ b.
    waits-stop _ _ s t _ _ _ (bad_frame_crc-same s t b) (λ _.
    waits-stop _ _ s t _ _ _ (ap (λ (x : ℕ). eqb x 0) (start-same s t b 15 10 (omega arith))) (λ _.
    waits-want (payload_at s) (payload_at (s ++ t)) s t _ _ (omega (arith, payload_at-le s)) (payload_at-more s t b) (λ d. payload_at-same s t b d) (λ d.
    waits-stop _ _ s t _ _ _ (judged-same s t b d) (λ _.
    waits-want (frame_bytes s) (frame_bytes (s ++ t)) s t _ _ (frame_bytes-le s) (omega (arith, frame_bytes-same s t b d)) (λ _. frame_bytes-same s t b d) (λ w.
    waits-stop _ _ s t _ _ _ (bad_message_crc-same s t b d w) (λ _. tt)))))))))

-- SHORT: fewer bytes are there than are wanted, and never more than 1,103 are wanted
pub short-wants : (s : List ℕ) (n : ℕ) → checked s ≡ Short n → (length s < n) × (n ≤ longest_frame)
short-wants s n e = let w = subst (λ (v : Checked). Waits s [] v (checked (s ++ []))) e (waits s []) in (w.0, w.1)

-- so it is never SHORT at 1,103 bytes or more
pub short-below : (s : List ℕ) (n : ℕ) → checked s ≡ Short n → length s < longest_frame
short-below s n e = let w = short-wants s n e in omega arith

-- and it stays SHORT while fewer bytes than are wanted are there
pub short-stays : (s t : List ℕ) (n : ℕ) → checked s ≡ Short n → length (s ++ t) < n → Still n (checked (s ++ t))
short-stays s t n e = (subst (λ (v : Checked). Waits s t v (checked (s ++ t))) e (waits s t)).2

-- ---- the length of an accepted frame

pub accepted-length : (s : List ℕ) (f : Frame) → checked s ≡ Accepted f → (10 ≤ f.length) × (f.length ≤ length s) × (f.length ≤ longest_frame)
unfolding frame_of
accepted-length s f e =
    let a = accepted s f e in
    let n : f.length ≡ frame_bytes s = ap (λ (x : Frame). x.length) a.is in
    (omega (arith, a.some-payload, n), omega (arith, a.there, n), omega (arith, frame_bytes-le s, n))

-- its payload is there
pub payload-there : (s : List ℕ) (f : Frame) → checked s ≡ Accepted f → payload_of s ≡ take f.payload_length (drop f.payload_at s)
unfolding frame_of payload_of payload_in
payload-there s f e =
    let a = accepted s f e in
    let n : f.payload_at ≡ payload_at s = ap (λ (x : Frame). x.payload_at) a.is in
    let m : f.payload_length ≡ tf003 s = ap (λ (x : Frame). x.payload_length) a.is in
    rw (e, le-leb (f.payload_at + f.payload_length) (length s) (omega (arith, a.there, n, m)))

-- ---- "Bytes after the frame are not looked at": an accepted frame's own bytes are that frame

-- no more than k bytes are wanted
data Wanted (k : ℕ) : Checked → Type 0 where
  so-many : {n : ℕ} → n ≤ k → Wanted k (Short n)
  not-accepted : {r : Refusal} → Wanted k (Refused r)
  all_there : {f : Frame} → Wanted k (Accepted f)

wanted-want : (k n : ℕ) (s : List ℕ) (v : Checked) → n ≤ k → (n ≤ length s → Wanted k v) → Wanted k (want n s v)
wanted-want k n s v l h = go (ltb (length s) n) refl
  where
    go : (b : Bool) → ltb (length s) n ≡ b → Wanted k (stop b (Short n) v)
    go true q = so-many l
    go false q = h (ltb-false (length s) n q)

wanted-stop : (k : ℕ) (a : Bool) (r : Refusal) (v : Checked) → (a ≡ false → Wanted k v) → Wanted k (stop a (Refused r) v)
wanted-stop k true r v h = not-accepted
wanted-stop k false r v h = h refl

wanted : (s t : List ℕ) → Wanted (frame_bytes (s ++ t)) (checked s)
unfolding checked
wanted s t =
    wanted-want (frame_bytes (s ++ t)) 1 s _ (omega arith) (λ a.
    wanted-stop (frame_bytes (s ++ t)) (not (eqb (get_or s 0 0) preamble)) Preamble _ (λ _.
    wanted-want (frame_bytes (s ++ t)) 4 s _ (omega arith) (λ b.
    wanted-stop (frame_bytes (s ++ t)) (bad_frame_crc s) FrameCrc _ (λ _.
    wanted-stop (frame_bytes (s ++ t)) (eqb (tf003 s) 0) Length _ (λ _.
    wanted-want (frame_bytes (s ++ t)) (payload_at s) s _ (omega (arith, payload_at-more s t b)) (λ d.
    wanted-stop (frame_bytes (s ++ t)) (authenticated s && ltb 4 (tf015 s)) Length _ (λ _.
    wanted-want (frame_bytes (s ++ t)) (frame_bytes s) s _ (omega (arith, frame_bytes-same s t b d)) (λ w.
    wanted-stop (frame_bytes (s ++ t)) (bad_message_crc s) MessageCrc _ (λ _. all_there)))))))))

pub own-bytes : (s : List ℕ) (f : Frame) → checked s ≡ Accepted f → checked (take f.length s) ≡ Accepted f
unfolding frame_of
own-bytes s f e =
    let n : f.length ≡ frame_bytes s = ap (λ (x : Frame). x.length) (accepted s f e).is in
    let l : length (take f.length s) ≡ f.length = length-take-le f.length s (accepted-length s f e).1 in
    let j : take f.length s ++ drop f.length s ≡ s = take-append-drop f.length s in
    go (take f.length s) (drop f.length s) (checked (take f.length s)) _ (keeps (take f.length s) (drop f.length s)) refl (ap checked j ∙ e)
    (omega (arith, ap frame_bytes j)) (wanted (take f.length s) (drop f.length s))
  where
    go : (u v : List ℕ) (c w : Checked) → Keeps c w → checked u ≡ c → w ≡ Accepted f → frame_bytes (u ++ v) ≡ length u → Wanted (frame_bytes (u ++ v)) c → c ≡ Accepted f
    go u v c w kept q e k h = e
    go u v c w (unknown {n}) q e k (so-many l) = absurd (omega (arith, short-wants u n q))
