-- One lemma for each answer of the functions that check, in plain variables, its premises worded as the code makes them. Assumes nothing.
use Rattle.std.specs.Prelude.{Some, None}
use mathlib.Core.Path.{◌≡◌, refl, sym, ap, ap₂, subst, ◌∙◌}
use mathlib.Core.List.{List, []}
use mathlib.Core.Bool.{Bool, true, false, not, ◌&&◌}
use Prim.Native.Nat.{ℕ, zero, suc, ◌+◌, ◌-◌, ◌*◌, ◌≤◌, ◌<◌}
use native.Mathlib.Omega.{arith}
use lib.Dec.{ltb, eqb}
use lib.ListN.{length, get_or, take, drop}
use borrow.Author.Tests.{lt-ltb, le-ltb, le-leb, lt-leb, ne_eqb, eq-eqb}
use Rattle.answer.specs.declared.Refusal.{Refusal}
use Rattle.answer.specs.declared.Refusal.TheVariants.{Preamble, FrameCrc, Length, MessageCrc}
use Rattle.bits.specs.Bits.{field}
use Rattle.checks.specs.Crc.{frame_crc, message_crc}
use Rattle.frame.specs.Fields.{tf003, tf004, tf005, tf006, tf008, tf015, payload_at, authenticated, authentication_bytes, authentication, check_at, frame_bytes}
use Rattle.frame.specs.Check.{seal_of, frame_of, bad_message_crc, bad_frame_crc, checked, fits_in, payload_in, place_in, payload_of, place_of}
use Rattle.frame.specs.Laws.{sealed-if}
use Rattle.frame.specs.Stages.{whole, described, starting}
use Rattle.frame.specs.declared.Frame.{Frame}
use Rattle.frame.specs.declared.Checked.{Checked}
use Rattle.frame.specs.declared.Checked.TheVariants.{Accepted, Short, Refused}

-- ---- authentication

module _ (s : List ℕ) (b : Bool) (is : b ≡ authenticated s) where
  pub counts : b ≡ true → tf004 s ≡ 1
  counts h = sealed-if s (sym is ∙ h)

  pub judged-code : b ≡ true → (x : ℕ) → x ≡ tf015 s → ltb 4 x ≡ (authenticated s && ltb 4 (tf015 s))
  judged-code h x e = let a : authenticated s ≡ true = sym is ∙ h in rw (a, e)

  pub judged-none : b ≡ false → false ≡ (authenticated s && ltb 4 (tf015 s))
  judged-none h = let a : authenticated s ≡ false = sym is ∙ h in rw a

  pub some_bytes : b ≡ true → (x r : ℕ) → x ≡ tf015 s → r ≡ authentication_bytes x → r ≡ authentication s
  unfolding authentication
  some_bytes h x r e q = let a : authenticated s ≡ true = sym is ∙ h in rw a (q ∙ ap authentication_bytes e)

  pub no_bytes : b ≡ false → 0 ≡ authentication s
  unfolding authentication
  no_bytes h = let a : authenticated s ≡ false = sym is ∙ h in rw a

module _ (k : ℕ) where
  pub bytes-0 : k ≡ 0 → 8 ≡ authentication_bytes k
  unfolding authentication_bytes
  bytes-0 e = rw e

  pub bytes-1 : k ≡ 1 → 12 ≡ authentication_bytes k
  unfolding authentication_bytes
  bytes-1 e = rw e

  pub bytes_2 : k ≡ 2 → 16 ≡ authentication_bytes k
  unfolding authentication_bytes
  bytes_2 e = rw e

  pub bytes-3 : k ≡ 3 → 32 ≡ authentication_bytes k
  unfolding authentication_bytes
  bytes-3 e = rw e

pub bytes_4 : (k : ℕ) → (k ≡ 0 → ⊥) → (k ≡ 1 → ⊥) → (k ≡ 2 → ⊥) → (k ≡ 3 → ⊥) → 64 ≡ authentication_bytes k
unfolding authentication_bytes
bytes_4 zero a b c d = absurd (a refl)
bytes_4 (suc zero) a b c d = absurd (b refl)
bytes_4 (suc (suc zero)) a b c d = absurd (c refl)
bytes_4 (suc (suc (suc zero))) a b c d = absurd (d refl)
bytes_4 (suc (suc (suc (suc k)))) a b c d = refl

-- ---- the header

pub is_plain : (s : List ℕ) (x : ℕ) → x ≡ tf004 s → x ≡ 0 → None ≡ seal_of s
is_plain s x e h = let a : eqb (tf004 s) 0 ≡ true = eq-eqb (tf004 s) 0 (sym e ∙ h) in rw a

pub is-sealed : (s : List ℕ) (x k a b c d : ℕ) → x ≡ tf004 s → (x ≡ 0 → ⊥) → k ≡ tf008 s
    → a ≡ field s (48 + (16 + 16 * k)) 4 → b ≡ field s (52 + (16 + 16 * k)) 6 → c ≡ field s (58 + (16 + 16 * k)) 3 → d ≡ field s (61 + (16 + 16 * k)) 3
    → Some (record { id = a; sequence = b; authentication = c; authentication_length = d }) ≡ seal_of s
is-sealed s x k a b c d e h q ea eb ec ed = let z : eqb (tf004 s) 0 ≡ false = ne_eqb (tf004 s) 0 (λ w. h (e ∙ w)) in rw (z, ea, eb, ec, ed, q)

-- ---- the tests

module _ (s : List ℕ) (k w at : ℕ) (ek : k ≡ tf005 s) (ew : w ≡ k) (ea : at ≡ check_at s) where
  size : at + (w + 1) ≡ frame_bytes s
  size = ap₂ (λ (x y : ℕ). x + (y + 1)) ea (ew ∙ ek)

  pub whole-short : length s < at + (w + 1) → Short (at + (w + 1)) ≡ whole s
  unfolding whole
  whole-short h = let z : ltb (length s) (frame_bytes s) ≡ true = lt-ltb (length s) (frame_bytes s) (subst (λ (x : ℕ). length s < x) size h) in rw (z, size)

  module _ (h : at + (w + 1) ≤ length s) (x y u : ℕ) (ex : x ≡ message_crc k (take (at - 1) (drop 1 s))) (eu : u ≡ 8 * (w + 1)) (ey : y ≡ field s (8 * at) u) where
    whole-there : ltb (length s) (frame_bytes s) ≡ false
    whole-there = le-ltb (length s) (frame_bytes s) (subst (λ (x : ℕ). x ≤ length s) size h)

    message-tested : bad_message_crc s ≡ not (eqb x y)
    unfolding bad_message_crc
    message-tested =
        ap₂ (λ (p q : ℕ). not (eqb p q))
        (ap₂ (λ (z a : ℕ). message_crc z (take (a - 1) (drop 1 s))) (sym ek) (sym ea) ∙ sym ex)
        (ap₂ (λ (a z : ℕ). field s (8 * a) (8 * (z + 1))) (sym ea) (sym (ew ∙ ek)) ∙ ap (λ (z : ℕ). field s (8 * at) z) (sym eu) ∙ sym ey)

    pub whole-bad : (x ≡ y → ⊥) → Refused MessageCrc ≡ whole s
    unfolding whole
    whole-bad n = let z : eqb x y ≡ false = ne_eqb x y n in rw (whole-there, message-tested, z)

    pub whole-good : x ≡ y → (f : Frame) → f ≡ frame_of s → Accepted f ≡ whole s
    unfolding whole
    whole-good n f e = let z : eqb x y ≡ true = eq-eqb x y n in rw (whole-there, message-tested, z, e)

module _ (s : List ℕ) (at : ℕ) (ea : at ≡ payload_at s) where
  pub described-short : length s < at → Short at ≡ described s
  unfolding described
  described-short h = let z : ltb (length s) (payload_at s) ≡ true = lt-ltb (length s) (payload_at s) (subst (λ (x : ℕ). length s < x) ea h) in rw (z, ea)

  module _ (h : at ≤ length s) (b : Bool) (eb : b ≡ (authenticated s && ltb 4 (tf015 s))) where
    description-there : ltb (length s) (payload_at s) ≡ false
    description-there = le-ltb (length s) (payload_at s) (subst (λ (x : ℕ). x ≤ length s) ea h)

    pub described-bad : b ≡ true → Refused Length ≡ described s
    unfolding described
    described-bad e = let z : (authenticated s && ltb 4 (tf015 s)) ≡ true = sym eb ∙ e in rw (description-there, z)

    pub described-on : b ≡ false → (r : Checked) → r ≡ whole s → r ≡ described s
    unfolding described
    described-on e r q = let z : (authenticated s && ltb 4 (tf015 s)) ≡ false = sym eb ∙ e in rw (description-there, z, q)

-- `checked` is its first tests, and then `described`
pub checked-is : (s : List ℕ) → checked s ≡ starting s (described s)
unfolding checked described whole
checked-is s = refl

module _ (s : List ℕ) where
  pub check-1 : length s < 1 → Short 1 ≡ checked s
  check-1 h = rw (checked-is, lt-ltb (length s) 1)

  module _ (a : 1 ≤ length s) where
    pub check-2 : (get_or s 0 0 ≡ 0x73 → ⊥) → Refused Preamble ≡ checked s
    check-2 h = rw (checked-is, le-ltb (length s) 1, ne_eqb (get_or s 0 0) 0x73)

    module _ (b : get_or s 0 0 ≡ 0x73) where
      pub check-3 : length s < 4 → Short 4 ≡ checked s
      check-3 h = rw (checked-is, le-ltb (length s) 1, eq-eqb (get_or s 0 0) 0x73, lt-ltb (length s) 4)

      module _ (d : 4 ≤ length s) (x y : ℕ) (ex : x ≡ frame_crc (get_or s 1 0) (get_or s 2 0) (get_or s 3 0)) (ey : y ≡ tf006 s) where
        start-tested : bad_frame_crc s ≡ not (eqb x y)
        unfolding bad_frame_crc
        start-tested = ap₂ (λ (p q : ℕ). not (eqb p q)) (sym ex) (sym ey)

        pub check-4 : (x ≡ y → ⊥) → Refused FrameCrc ≡ checked s
        check-4 h = rw (checked-is, le-ltb (length s) 1, eq-eqb (get_or s 0 0) 0x73, le-ltb (length s) 4, start-tested, ne_eqb x y)

        module _ (e : x ≡ y) (n : ℕ) (en : n ≡ tf003 s) where
          pub check-5 : n ≡ 0 → Refused Length ≡ checked s
          check-5 h =
              let z : eqb (tf003 s) 0 ≡ true = eq-eqb (tf003 s) 0 (sym en ∙ h) in
              rw (checked-is, le-ltb (length s) 1, eq-eqb (get_or s 0 0) 0x73, le-ltb (length s) 4, start-tested, eq-eqb x y, z)

          pub check-6 : (n ≡ 0 → ⊥) → (r : Checked) → r ≡ described s → r ≡ checked s
          check-6 h r q =
              let z : eqb (tf003 s) 0 ≡ false = ne_eqb (tf003 s) 0 (λ w. h (en ∙ w)) in
              rw (checked-is, le-ltb (length s) 1, eq-eqb (get_or s 0 0) 0x73, le-ltb (length s) 4, start-tested, eq-eqb x y, z, q)

-- ---- the payload, and where it starts: x is where the lent bytes start

module _ (f : Frame) (s : List ℕ) where
  none : fits_in f s ≡ false → [] ≡ payload_in f s
  unfolding payload_in
  none e = rw e

  at-start : fits_in f s ≡ false → (x : ℕ) → x ≡ x + place_in f s
  unfolding place_in
  at-start e x = rw e (omega arith)

  early : length s < f.payload_at → fits_in f s ≡ false
  early h = lt-leb (f.payload_at + f.payload_length) (length s) (omega arith)

  pub part-1 : length s < f.payload_at → [] ≡ payload_in f s
  part-1 h = none (early h)

  pub place-1 : length s < f.payload_at → (x : ℕ) → x ≡ x + place_in f s
  place-1 h = at-start (early h)

  module _ (h : f.payload_at ≤ length s) where
    cut : length s - f.payload_at < f.payload_length → fits_in f s ≡ false
    cut k = lt-leb (f.payload_at + f.payload_length) (length s) (omega arith)

    pub part-2 : length s - f.payload_at < f.payload_length → [] ≡ payload_in f s
    part-2 k = none (cut k)

    pub place-2 : length s - f.payload_at < f.payload_length → (x : ℕ) → x ≡ x + place_in f s
    place-2 k = at-start (cut k)

    whole_part : f.payload_length ≤ length s - f.payload_at → fits_in f s ≡ true
    whole_part k = le-leb (f.payload_at + f.payload_length) (length s) (omega arith)

    pub part-3 : f.payload_length ≤ length s - f.payload_at
        → take (f.payload_at + f.payload_length - f.payload_at) (drop f.payload_at s) ≡ payload_in f s
    unfolding payload_in
    part-3 k = let e : f.payload_at + f.payload_length - f.payload_at ≡ f.payload_length = omega arith in rw (whole_part k, e)

    pub place-3 : f.payload_length ≤ length s - f.payload_at → (x : ℕ) → f.payload_at + x ≡ x + place_in f s
    unfolding place_in
    place-3 k x = rw (whole_part k) (omega arith)

module _ (s : List ℕ) (v : Checked) (is : v ≡ checked s) where
  pub of-accepted : (f : Frame) (r : List ℕ) → v ≡ Accepted f → r ≡ payload_in f s → r ≡ payload_of s
  unfolding payload_of
  of-accepted f r e q = rw (← is, e, q)

  pub place-accepted : (f : Frame) (x y : ℕ) → v ≡ Accepted f → y ≡ x + place_in f s → y ≡ x + place_of s
  unfolding place_of
  place-accepted f x y e q = rw (← is, e, q)

  pub of-short : (n : ℕ) → v ≡ Short n → [] ≡ payload_of s
  unfolding payload_of
  of-short n e = rw (← is, e)

  pub place_short : (n x : ℕ) → v ≡ Short n → x ≡ x + place_of s
  unfolding place_of
  place_short n x e = rw (← is, e) (omega arith)

  pub of-refused : (r : Refusal) → v ≡ Refused r → [] ≡ payload_of s
  unfolding payload_of
  of-refused r e = rw (← is, e)

  pub place-refused : (r : Refusal) (x : ℕ) → v ≡ Refused r → x ≡ x + place_of s
  unfolding place_of
  place-refused r x e = rw (← is, e) (omega arith)
