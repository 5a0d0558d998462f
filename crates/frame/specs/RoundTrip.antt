-- Demand 2 for frames: a written plain frame is accepted with exactly its parts and its payload, and the writer on the parts and the
-- payload of an accepted plain frame gives back its bytes. The two theorems stand last; what is before them serves their proofs.
use Rattle.std.specs.Prelude.{◌≡◌, Bool, true, false, cond, not, ◌||◌, ltb, eqb, get_or, drop, Ok, Err, Some, None}
use Rattle.std.proofs.Math.Path.{refl, sym, ap, ap₂, subst}
use Rattle.std.proofs.Common.{◌∙◌, true≢false, drop_at, take-add, drop-drop, eqb-true, ltb-false, le-ltb, ne_eqb}
use mathlib.Core.List.{List, [], ◌∷◌, ◌++◌, append_assoc, append-nil}
use Prim.Native.Nat.{ℕ, zero, suc, ◌+◌, ◌-◌, ◌*◌, ◌/◌, ◌%◌, ◌^◌, ◌≤◌, ◌<◌}
use native.Mathlib.Omega.{arith}
use Rattle.std.proofs.Math.ListN.{length, take, length-append, length-drop, get_or-append}
use Rattle.std.proofs.Math.Seq.{length-take-le, take_at}
use Rattle.std.proofs.lemmas.List.{drop-append-le}
use Rattle.std.proofs.lemmas.Bool.{eqb-false, not-false}
use Rattle.sizes.specs.Sizes.{longest_frame, longest_payload}
use Rattle.bits.specs.Bits.{bits_of, to_bits, number, Bytes, field}
use Rattle.bits.specs.Laws.{field_lt, field-part, field-split, field-byte, number-of-bits, bits_of_number, length-bits_of, length-to_bits, to_bits-append, to_bits-take, to_bits-drop, bits-to_bits, bits-bits_of, bytes_take, bytes_drop}
use Rattle.checks.specs.Crc.{frame_crc, message_crc}
use Rattle.checks.specs.Laws.{frame_crc-lt, frame_crc-high, message_crc-lt}
use Rattle.frame.specs.Fields.{preamble, tag_bits, tf002, tf003, tf004, tf005, tf006, tf007, tf008, tf009, tf010, tf011, payload_at, authenticated, authentication, check_at, frame_bytes}
use Rattle.frame.specs.Check.{checked, frame_of, sealing_of, seal_of, payload_of}
use Rattle.frame.specs.Laws.{Acceptance, accepted, accepts, keeps-accepted, payload-there, accepted-length}
use Rattle.frame.specs.Write.{bytes_of, start_bits, tf006_of, start, description, body, check_over, plain, in_range, refuse, written, left_by, out_after, parts_of, header_of}
use Rattle.frame.specs.WriteLaws.{length-bytes_of, to_bits-bytes_of, bytes_of-to_bits, four_bytes}
use Rattle.frame.specs.Header.{InRange, in-range, range-in, start-code, description-code}
use Rattle.answer.specs.declared.Refusal.{Refusal}
use Rattle.answer.specs.declared.Refusal.TheVariants.{Room, Field, Length}
use Rattle.frame.specs.declared.Parts.{Parts}
use Rattle.frame.specs.Results.{Written}
use Rattle.frame.specs.declared.Frame.{Frame}
use Rattle.frame.specs.declared.Checked.TheVariants.{Accepted}

-- ---- a code of whole bytes, read back and written again

pub laid-field : (front rest : List ℕ) (a k c : ℕ) → length front ≡ a → c < 2 ^ (8 * k) → field (front ++ (bytes_of k (bits_of (8 * k) c) ++ rest)) (8 * a) (8 * k) ≡ c
unfolding field
laid-field front rest a k c ea h =
    let new : List ℕ = bytes_of k (bits_of (8 * k) c) in
    let bits : to_bits new ≡ bits_of (8 * k) c = to_bits-bytes_of k (bits-bits_of (8 * k) c) (length-bits_of (8 * k) c) in
    ap (λ (l : List ℕ). number (take (8 * k) (drop (8 * a) l)))
    (to_bits-append front (new ++ rest) ∙ ap (λ (l : List ℕ). to_bits front ++ l) (to_bits-append new rest ∙ ap (λ (l : List ℕ). l ++ to_bits rest) bits))
    ∙ ap (λ (l : List ℕ). number (take (8 * k) l)) (drop_at (to_bits front) (bits_of (8 * k) c ++ to_bits rest) (8 * a) (length-to_bits front ∙ ap (λ (z : ℕ). 8 * z) ea))
    ∙ ap number (take_at (bits_of (8 * k) c) (to_bits rest) (8 * k) (length-bits_of (8 * k) c))
    ∙ number-of-bits (8 * k) c h

pub code-bytes : {s : List ℕ} (a k : ℕ) → Bytes s → a + k ≤ length s → bytes_of k (bits_of (8 * k) (field s (8 * a) (8 * k))) ≡ take k (drop a s)
unfolding field
code-bytes {s} a k b h =
    let l : List ℕ = take k (drop a s) in
    let size : length l ≡ k = length-take-le k (drop a s) (omega (arith, length-drop a s)) in
    let bits : to_bits l ≡ take (8 * k) (drop (8 * a) (to_bits s))
    = to_bits-take k (drop a s) (omega (arith, length-drop a s)) ∙ ap (take (8 * k)) (to_bits-drop a s (omega arith)) in
    let wide : length (to_bits l) ≡ 8 * k = length-to_bits l ∙ ap (λ (z : ℕ). 8 * z) size in
    ap (λ (z : List ℕ). bytes_of k (bits_of (8 * k) (number z))) (sym bits)
    ∙ ap (λ (z : ℕ). bytes_of k (bits_of z (number (to_bits l)))) (sym wide)
    ∙ ap (bytes_of k) (bits_of_number (bits-to_bits l))
    ∙ ap (λ (z : ℕ). bytes_of z (to_bits l)) (sym size)
    ∙ bytes_of-to_bits (bytes_take k (bytes_drop a b))

-- ---- fields that stand side by side

-- a code that stands in the bits is read there
read_at : (s before after : List ℕ) (pos w c : ℕ) → to_bits s ≡ before ++ (bits_of w c ++ after) → length before ≡ pos → c < 2 ^ w → field s pos w ≡ c
unfolding field
read_at s before after pos w c e l h =
    ap (λ (z : List ℕ). number (take w (drop pos z))) e
    ∙ ap (λ (z : List ℕ). number (take w z)) (drop_at before (bits_of w c ++ after) pos l)
    ∙ ap number (take_at (bits_of w c) after w (length-bits_of w c))
    ∙ number-of-bits w c h

-- TF002 to TF006 are read as they were laid
record Starts (s : List ℕ) (p : Parts) (n y : ℕ) : Type 0 where
  type-is : tf002 s ≡ p.message_type
  length-is : tf003 s ≡ n
  plain-is : tf004 s ≡ 0
  check-is : tf005 s ≡ p.check_type
  crc-is : tf006 s ≡ y

starts : (s rest : List ℕ) (p : Parts) (n y : ℕ) → InRange p → n < 1024 → y < 16 → to_bits s ≡ start_bits p n y ++ rest → Starts s p n y
starts s rest p n y r hn hy e =
    let a : List ℕ = bits_of 8 preamble in
    let b : List ℕ = bits_of 7 p.message_type in
    let c : List ℕ = bits_of 10 n in
    let d : List ℕ = bits_of 1 0 in
    let f : List ℕ = bits_of 2 p.check_type in
    let g : List ℕ = bits_of 4 y in
    let la : length a ≡ 8 = length-bits_of 8 preamble in
    let lb : length b ≡ 7 = length-bits_of 7 _ in
    let lc : length c ≡ 10 = length-bits_of 10 n in
    let ld : length d ≡ 1 = length-bits_of 1 0 in
    let lf : length f ≡ 2 = length-bits_of 2 _ in
    record {
      type-is = read_at s a (c ++ (d ++ (f ++ (g ++ rest)))) 8 7 _ (e ∙ simp append_assoc) la r.type-fits;
      length-is = read_at s (a ++ b) (d ++ (f ++ (g ++ rest))) 15 10 _ (e ∙ simp append_assoc) (simp length-append (omega arith)) hn;
      plain-is = read_at s (a ++ (b ++ c)) (f ++ (g ++ rest)) 25 1 _ (e ∙ simp append_assoc) (simp length-append (omega arith)) (omega arith);
      check-is = read_at s (a ++ (b ++ (c ++ d))) (g ++ rest) 26 2 _ (e ∙ simp append_assoc) (simp length-append (omega arith)) r.check-fits;
      crc-is = read_at s (a ++ (b ++ (c ++ (d ++ f)))) rest 28 4 _ (e ∙ simp append_assoc) (simp length-append (omega arith)) hy;
    }

-- TF007 to TF011 are read as they were laid, behind the four bytes of the start
record Says (s : List ℕ) (p : Parts) : Type 0 where
  subtype-is : tf007 s ≡ p.subtype
  kind-is : tf008 s ≡ p.tag_kind
  tag_is : tf009 s ≡ p.tag
  solution-is : tf010 s ≡ p.solution
  processor-is : tf011 s ≡ p.processor

says : (s front rest : List ℕ) (p : Parts) → InRange p → length front ≡ 32
    → to_bits s
    ≡ front
    ++ ((bits_of 4 p.subtype ++ (bits_of 1 p.tag_kind ++ (bits_of (tag_bits p.tag_kind) p.tag ++ (bits_of 7 p.solution ++ bits_of 4 p.processor)))) ++ rest)
    → Says s p
says s front rest p r lo e =
    let w : ℕ = tag_bits p.tag_kind in
    let a : List ℕ = bits_of 4 p.subtype in
    let b : List ℕ = bits_of 1 p.tag_kind in
    let c : List ℕ = bits_of w p.tag in
    let d : List ℕ = bits_of 7 p.solution in
    let f : List ℕ = bits_of 4 p.processor in
    let la : length a ≡ 4 = length-bits_of 4 _ in
    let lb : length b ≡ 1 = length-bits_of 1 _ in
    let lc : length c ≡ w = length-bits_of w _ in
    let ld : length d ≡ 7 = length-bits_of 7 _ in
    let kind : tf008 s ≡ p.tag_kind
    = read_at s (front ++ a) (c ++ (d ++ (f ++ rest))) 36 1 _ (e ∙ simp append_assoc) (simp length-append (omega arith)) r.kind_fits in
    record {
      subtype-is = read_at s front (b ++ (c ++ (d ++ (f ++ rest)))) 32 4 _ (e ∙ simp append_assoc) lo r.subtype-fits;
      kind-is = kind;
      tag_is = ap (λ (k : ℕ). field s 37 (tag_bits k)) kind
          ∙ read_at s (front ++ (a ++ b)) (d ++ (f ++ rest)) 37 w _ (e ∙ simp append_assoc) (simp length-append (omega arith)) r.tag_fits;
      solution-is = ap (λ (k : ℕ). field s (37 + tag_bits k) 7) kind
          ∙ read_at s (front ++ (a ++ (b ++ c))) (f ++ rest) (37 + w) 7 _ (e ∙ simp append_assoc) (simp length-append (omega arith)) r.solution-fits;
      processor-is = ap (λ (k : ℕ). field s (44 + tag_bits k) 4) kind
          ∙ read_at s (front ++ (a ++ (b ++ (c ++ d)))) rest (44 + w) 4 _ (e ∙ simp append_assoc) (simp length-append (omega arith)) r.processor-fits;
    }

-- ---- a written frame is accepted

module _ (p : Parts) (r : InRange p) (payload : List ℕ) (some : 1 ≤ length payload) (fits : length payload ≤ longest_payload) where
  -- the start's code but for TF006, and TF006
  open_code : ℕ
  open_code = (((115 * 128 + p.message_type) * 1024 + length payload) * 8 + p.check_type) * 16

  crc : ℕ
  crc = tf006_of (bytes_of 4 (start_bits p (length payload) 0))

  crc-fits : crc < 16
  unfolding crc
  crc-fits = frame_crc-lt _ _ _

  coded : (y : ℕ) → y < 16 → bits_of 32 (open_code + y) ≡ start_bits p (length payload) y
  unfolding open_code
  coded y h = start-code p (length payload) y r (omega arith) h

  start-bytes : start p (length payload)
      ≡ ((open_code + crc) / 2 ^ 24 % 256) ∷ ((open_code + crc) / 2 ^ 16 % 256) ∷ ((open_code + crc) / 2 ^ 8 % 256) ∷ ((open_code + crc) / 1 % 256) ∷ []
  unfolding start crc
  start-bytes = ap (bytes_of 4) (sym (coded crc crc-fits)) ∙ four_bytes (open_code + crc)

  start-size : length (start p (length payload)) ≡ 4
  unfolding start
  start-size = length-bytes_of 4 _

  crc-is : crc ≡ frame_crc ((open_code + 0) / 2 ^ 16 % 256) ((open_code + 0) / 2 ^ 8 % 256) ((open_code + 0) / 1 % 256)
  unfolding crc
  crc-is = ap tf006_of (ap (bytes_of 4) (sym (coded 0 (omega arith))) ∙ four_bytes (open_code + 0))

  -- TF006 is that of the start's bytes, whatever stands in its own place
  crc-any : (y : ℕ) → y < 16 → frame_crc ((open_code + y) / 2 ^ 16 % 256) ((open_code + y) / 2 ^ 8 % 256) ((open_code + y) / 1 % 256) ≡ crc
  unfolding open_code
  crc-any y h =
      let a : (open_code + y) / 2 ^ 16 % 256 ≡ (open_code + 0) / 2 ^ 16 % 256 = omega arith in
      let b : (open_code + y) / 2 ^ 8 % 256 ≡ (open_code + 0) / 2 ^ 8 % 256 = omega arith in
      let c : (open_code + y) / 1 % 256 ≡ (open_code + 0) / 1 % 256 / 16 * 16 + y = omega arith in
      ap₂ (λ (u v : ℕ). frame_crc u v ((open_code + y) / 1 % 256)) a b
      ∙ ap (frame_crc ((open_code + 0) / 2 ^ 16 % 256) ((open_code + 0) / 2 ^ 8 % 256)) c
      ∙ frame_crc-high _ _ _ y h
      ∙ sym crc-is

  to_bits-start : to_bits (start p (length payload)) ≡ start_bits p (length payload) crc
  unfolding start crc
  to_bits-start =
      ap (λ (l : List ℕ). to_bits (bytes_of 4 l)) (sym (coded crc crc-fits))
      ∙ to_bits-bytes_of 4 (bits-bits_of 32 (open_code + crc)) (length-bits_of 32 (open_code + crc)) ∙ coded crc crc-fits

  described : List ℕ
  described = bits_of 4 p.subtype ++ (bits_of 1 p.tag_kind ++ (bits_of (tag_bits p.tag_kind) p.tag ++ (bits_of 7 p.solution ++ bits_of 4 p.processor)))

  to_bits-description : to_bits (description p) ≡ described
  unfolding description described
  to_bits-description =
      let w : ℕ = tag_bits p.tag_kind in
      let z : ℕ = ((p.subtype * 2 + p.tag_kind) * 2 ^ w + p.tag) * 2048 + (p.solution * 16 + p.processor) in
      let bits : bits_of (5 + w + 11) z ≡ described
      = description-code w p.subtype p.tag_kind p.tag p.solution p.processor r.kind_fits r.tag_fits r.solution-fits r.processor-fits in
      ap (λ (l : List ℕ). to_bits (bytes_of (4 + 2 * p.tag_kind) l)) (sym bits)
      ∙ to_bits-bytes_of (4 + 2 * p.tag_kind) (bits-bits_of (5 + w + 11) z) (length-bits_of (5 + w + 11) z ∙ omega arith) ∙ bits

  description-size : length (description p) ≡ 4 + 2 * p.tag_kind
  unfolding description
  description-size = length-bytes_of (4 + 2 * p.tag_kind) _

  abbrev s : List ℕ
  s = plain p payload

  tail : List ℕ
  tail = check_over p.check_type (drop 1 (body p payload))

  parts : s ≡ start p (length payload) ++ (description p ++ (payload ++ tail))
  unfolding plain body tail
  parts = simp append_assoc

  body-size : length (body p payload) ≡ 8 + 2 * p.tag_kind + length payload
  unfolding body
  body-size = simp length-append (omega (arith, start-size, description-size))

  tail-size : length tail ≡ p.check_type + 1
  unfolding tail check_over
  tail-size = length-bytes_of (p.check_type + 1) _

  s-size : length s ≡ 8 + 2 * p.tag_kind + length payload + (p.check_type + 1)
  unfolding plain tail
  s-size =
      let t : length (check_over p.check_type (drop 1 (body p payload))) ≡ p.check_type + 1 = tail-size in
      length-append (body p payload) _ ∙ omega (arith, body-size)

  its-start : Starts s p (length payload) crc
  its-start =
      starts s (to_bits (description p ++ (payload ++ tail))) p (length payload) crc r (omega arith) crc-fits
      (ap to_bits parts ∙ to_bits-append (start p (length payload)) _ ∙ ap (λ (l : List ℕ). l ++ to_bits (description p ++ (payload ++ tail))) to_bits-start)

  its-description : Says s p
  unfolding described
  its-description =
      says s (to_bits (start p (length payload))) (to_bits (payload ++ tail)) p r (length-to_bits (start p (length payload)) ∙ ap (λ (z : ℕ). 8 * z) start-size)
      (ap to_bits parts ∙ to_bits-append (start p (length payload)) _
      ∙ ap (λ (l : List ℕ). to_bits (start p (length payload)) ++ l) (to_bits-append (description p) _ ∙ ap (λ (l : List ℕ). l ++ to_bits (payload ++ tail)) to_bits-description))

  kind-is : tf008 s ≡ p.tag_kind
  kind-is = its-description.kind-is

  payload_at-is : payload_at s ≡ 8 + 2 * p.tag_kind
  payload_at-is = omega (arith, its-description.kind-is, its-start.plain-is)

  no-authentication : authenticated s ≡ false
  unfolding authenticated
  no-authentication = rw its-start.plain-is

  check_at-is : check_at s ≡ length (body p payload)
  unfolding authentication
  check_at-is = rw no-authentication (omega (arith, payload_at-is, its-start.length-is, body-size))

  frame_bytes-is : frame_bytes s ≡ length s
  frame_bytes-is = omega (arith, check_at-is, its-start.check-is, body-size, s-size)

  byte-is : (i : ℕ) → i < 4 → get_or s i 0 ≡ get_or (start p (length payload)) i 0
  byte-is i h = ap (λ (l : List ℕ). get_or l i 0) parts ∙ get_or-append (start p (length payload)) _ 0 i (omega (arith, start-size))

  byte_at : (i : ℕ) → i < 4
      → get_or s i 0
      ≡ get_or (((open_code + crc) / 2 ^ 24 % 256) ∷ ((open_code + crc) / 2 ^ 16 % 256) ∷ ((open_code + crc) / 2 ^ 8 % 256) ∷ ((open_code + crc) / 1 % 256) ∷ []) i 0
  byte_at i h = byte-is i h ∙ ap (λ (l : List ℕ). get_or l i 0) start-bytes

  preamble-is : (open_code + crc) / 2 ^ 24 % 256 ≡ preamble
  unfolding open_code
  preamble-is = let h : crc < 16 = crc-fits in omega (arith, r.type-fits, r.check-fits)

  -- TF018 covers all from TF002 up to itself, and stands behind it
  covered : take (check_at s - 1) (drop 1 s) ≡ drop 1 (body p payload)
  unfolding plain
  covered =
      ap (λ (z : ℕ). take (z - 1) (drop 1 s)) check_at-is
      ∙ ap (take (length (body p payload) - 1)) (drop-append-le 1 (body p payload) _ (omega (arith, body-size)))
      ∙ take_at (drop 1 (body p payload)) _ (length (body p payload) - 1) (length-drop 1 (body p payload))

  check-code : field s (8 * length (body p payload)) (8 * (p.check_type + 1)) ≡ message_crc p.check_type (drop 1 (body p payload))
  unfolding plain check_over
  check-code =
      let k : ℕ = p.check_type in
      let x : ℕ = message_crc k (drop 1 (body p payload)) in
      ap (λ (l : List ℕ). field (body p payload ++ l) (8 * length (body p payload)) (8 * (k + 1))) (sym (append-nil (bytes_of (k + 1) (bits_of (8 * (k + 1)) x))))
      ∙ laid-field (body p payload) [] (length (body p payload)) (k + 1) x refl (message_crc-lt k (drop 1 (body p payload)) (omega (arith, r.check-fits)))

  passes : Acceptance s (frame_of s)
  passes =
      record {
        starts = byte_at 0 (omega arith) ∙ preamble-is;
        start_right =
            ap₂ (λ (x y : ℕ). frame_crc x y (get_or s 3 0)) (byte_at 1 (omega arith)) (byte_at 2 (omega arith)) ∙ ap (frame_crc _ _) (byte_at 3 (omega arith)) ∙ crc-any crc crc-fits
            ∙ sym its-start.crc-is;
        some-payload = omega (arith, its-start.length-is);
        known-length = rw no-authentication;
        there = omega (arith, frame_bytes-is);
        right =
            ap₂ message_crc its-start.check-is covered ∙ sym check-code
            ∙ ap₂ (λ (a k : ℕ). field s (8 * a) (8 * (k + 1))) (sym check_at-is) (sym its-start.check-is);
        is = refl;
      }

  header_is : frame_of s ≡ header_of p payload
  unfolding frame_of
  header_is =
      let a = its-start in
      let b = its-description in
      let seal : seal_of s ≡ None = rw a.plain-is in
      let at : payload_at s ≡ 4 + (4 + 2 * p.tag_kind + 2 * 0) = omega (arith, payload_at-is) in
      let size = frame_bytes-is in
      cc

-- A written plain frame is accepted with exactly its parts, whatever follows it,
pub written-accepted : (p : Parts) (payload rest : List ℕ) → InRange p → 1 ≤ length payload → length payload ≤ longest_payload
    → checked (plain p payload ++ rest) ≡ Accepted (header_of p payload)
written-accepted p payload rest r some fits =
    keeps-accepted (plain p payload) rest (header_of p payload) (accepts (plain p payload) (passes p r payload some fits) ∙ ap Accepted (header_is p r payload some fits))

-- and with exactly its payload.
pub written-payload : (p : Parts) (payload rest : List ℕ) → InRange p → 1 ≤ length payload → length payload ≤ longest_payload
    → payload_of (plain p payload ++ rest) ≡ payload
written-payload p payload rest r some fits =
    let t : List ℕ = tail p r payload some fits in
    let n : ℕ = length payload in
    let at : ℕ = 4 + (4 + 2 * p.tag_kind + 2 * 0) in
    let head : List ℕ = start p n ++ description p in
    let whole : plain p payload ++ rest ≡ head ++ (payload ++ (t ++ rest)) = ap (λ (l : List ℕ). l ++ rest) (parts p r payload some fits) ∙ simp append_assoc in
    let size : length head ≡ at = length-append (start p n) (description p) ∙ omega (arith, start-size p r payload some fits, description-size p r payload some fits) in
    payload-there (plain p payload ++ rest) (header_of p payload) (written-accepted p payload rest r some fits)
    ∙ ap (λ (l : List ℕ). take n (drop at l)) whole
    ∙ ap (take n) (drop_at head (payload ++ (t ++ rest)) at size)
    ∙ take_at payload (t ++ rest) n refl

-- ---- an accepted plain frame is written again

-- what the header says, in codes that are side by side
start-joined : {s : List ℕ} → Bytes s → 4 ≤ length s → field s 0 32 ≡ (((get_or s 0 0 * 128 + tf002 s) * 1024 + tf003 s) * 8 + (tf004 s * 4 + tf005 s)) * 16 + tf006 s
start-joined {s} b h =
    omega (arith, field-split s 0 28 4 (omega arith), field-split s 0 25 3 (omega arith), field-split s 25 1 2 (omega arith), field-split s 0 15 10 (omega arith), field-split s 0 8 7 (omega arith), field-byte b 0 (omega arith))

description-joined : (s : List ℕ) (w : ℕ) → 48 + w ≤ 8 * length s
    → field s 32 (5 + w + 11) ≡ ((tf007 s * 2 + tf008 s) * 2 ^ w + field s 37 w) * 2048 + (field s (37 + w) 7 * 16 + field s (44 + w) 4)
description-joined s w h =
    let so : 32 + (5 + w) ≡ 37 + w = omega arith in
    let pr : 37 + w + 7 ≡ 44 + w = omega arith in
    field-split s 32 (5 + w) 11 (omega arith)
    ∙ ap₂ (λ (x y : ℕ). x * 2 ^ 11 + y)
    (field-split s 32 5 w (omega arith) ∙ ap (λ (x : ℕ). x * 2 ^ w + field s 37 w) (field-split s 32 4 1 (omega arith)))
    (ap (λ (x : ℕ). field s x 11) so ∙ field-split s (37 + w) 7 4 (omega arith) ∙ ap (λ (x : ℕ). field s (37 + w) 7 * 16 + field s x 4) pr)

-- the parts of any frame's header are in range
parts-fit : (s : List ℕ) → InRange (parts_of (frame_of s))
unfolding frame_of
parts-fit s =
    record {
      type-fits = field_lt s 8 7;
      check-fits = field_lt s 26 2;
      subtype-fits = field_lt s 32 4;
      kind_fits = field_lt s 36 1;
      tag_fits = field_lt s 37 (tag_bits (tf008 s));
      solution-fits = field_lt s (37 + tag_bits (tf008 s)) 7;
      processor-fits = field_lt s (44 + tag_bits (tf008 s)) 4;
    }

-- neighbouring pieces of a list are one
pieces : (s : List ℕ) (x y z : ℕ) → take x s ++ (take y (drop x s) ++ take z (drop (x + y) s)) ≡ take (x + (y + z)) s
pieces s x y z =
    sym
    (take-add x (y + z) s
    ∙ ap (λ (l : List ℕ). take x s ++ l) (take-add y z (drop x s) ∙ ap (λ (l : List ℕ). take y (drop x s) ++ take z l) (drop-drop y x s)))

module _ (s : List ℕ) (b : Bytes s) (a : Acceptance s (frame_of s)) (plain-seal : seal_of s ≡ None) where
  abbrev again : Parts
  again = parts_of (frame_of s)

  not-sealed : tf004 s ≡ 0
  not-sealed = go (eqb (tf004 s) 0) refl plain-seal
    where
      go : (t : Bool) → eqb (tf004 s) 0 ≡ t → cond t None (Some (sealing_of s)) ≡ None → tf004 s ≡ 0
      go true q e = eqb-true (tf004 s) 0 q
      go false q e = let z : ◌≡◌ {A = ℕ} 0 1 = cc in absurd (omega arith)

  again-fits : InRange (parts_of (frame_of s))
  again-fits = parts-fit s

  its-payload : List ℕ
  its-payload = take (tf003 s) (drop (payload_at s) s)

  payload-size : length its-payload ≡ tf003 s
  unfolding its-payload
  payload-size = length-take-le (tf003 s) (drop (payload_at s) s) (omega (arith, length-drop (payload_at s) s, a.there))

  some : 1 ≤ length its-payload
  some = omega (arith, payload-size, a.some-payload)

  fits : length its-payload ≤ longest_payload
  fits = omega (arith, payload-size, field_lt s 15 10)

  abbrev its-code : ℕ
  its-code = open_code again again-fits its-payload some fits

  code_is : field s 0 32 ≡ its-code + tf006 s
  unfolding frame_of open_code
  code_is = start-joined b (omega (arith, a.there)) ∙ omega (arith, a.starts, not-sealed, payload-size)

  -- TF006 is worked out as it stood there
  crc-same : crc again again-fits its-payload some fits ≡ tf006 s
  crc-same =
      let h : 4 ≤ length s = omega (arith, a.there) in
      let one : get_or s 1 0 ≡ (its-code + tf006 s) / 2 ^ 16 % 256
      = sym (field-byte b 1 (omega arith)) ∙ field-part s 0 8 8 16 (omega arith) ∙ ap (λ (z : ℕ). z / 2 ^ 16 % 256) code_is in
      let two : get_or s 2 0 ≡ (its-code + tf006 s) / 2 ^ 8 % 256
      = sym (field-byte b 2 (omega arith)) ∙ field-part s 0 16 8 8 (omega arith) ∙ ap (λ (z : ℕ). z / 2 ^ 8 % 256) code_is in
      let three : get_or s 3 0 ≡ (its-code + tf006 s) / 1 % 256
      = sym (field-byte b 3 (omega arith)) ∙ field-part s 0 24 8 0 (omega arith) ∙ ap (λ (z : ℕ). z / 1 % 256) code_is in
      sym (crc-any again again-fits its-payload some fits (tf006 s) (field_lt s 28 4))
      ∙ ap₂ (λ (x y : ℕ). frame_crc x y ((its-code + tf006 s) / 1 % 256)) (sym one) (sym two) ∙ ap (frame_crc (get_or s 1 0) (get_or s 2 0)) (sym three) ∙ a.start_right

  start-again : start again (length its-payload) ≡ take 4 s
  unfolding start crc
  start-again =
      ap (λ (y : ℕ). bytes_of 4 (start_bits again (length its-payload) y)) crc-same
      ∙ ap (bytes_of 4) (sym (coded again again-fits its-payload some fits (tf006 s) (field_lt s 28 4)))
      ∙ ap (λ (x : ℕ). bytes_of 4 (bits_of 32 x)) (sym code_is)
      ∙ code-bytes 0 4 b (omega (arith, a.there))

  description-again : description again ≡ take (4 + 2 * tf008 s) (drop 4 s)
  unfolding description frame_of
  description-again =
      let w : ℕ = tag_bits (tf008 s) in
      let size : 8 * (4 + 2 * tf008 s) ≡ 5 + w + 11 = omega arith in
      let r = again-fits in
      ap (bytes_of (4 + 2 * tf008 s))
      (sym (description-code w (tf007 s) (tf008 s) (tf009 s) (tf010 s) (tf011 s) r.kind_fits r.tag_fits r.solution-fits r.processor-fits)
      ∙ ap (bits_of (5 + w + 11)) (sym (description-joined s w (omega (arith, a.there, not-sealed))))
      ∙ ap (λ (z : ℕ). bits_of z (field s 32 z)) (sym size))
      ∙ code-bytes 4 (4 + 2 * tf008 s) b (omega (arith, a.there, not-sealed))

  check_at-plain : check_at s ≡ payload_at s + tf003 s
  unfolding authentication authenticated
  check_at-plain = rw not-sealed (omega arith)

  body-again : body again its-payload ≡ take (check_at s) s
  unfolding body its-payload
  body-again =
      let at : payload_at s ≡ 4 + (4 + 2 * tf008 s) = omega (arith, not-sealed) in
      ap₂ (λ (x y : List ℕ). x ++ (y ++ its-payload)) start-again description-again
      ∙ ap (λ (l : List ℕ). take 4 s ++ (take (4 + 2 * tf008 s) (drop 4 s) ++ l)) (ap (λ (z : ℕ). take (tf003 s) (drop z s)) at)
      ∙ pieces s 4 (4 + 2 * tf008 s) (tf003 s)
      ∙ ap (λ (z : ℕ). take z s) to
    where
      to : 4 + (4 + 2 * tf008 s + tf003 s) ≡ check_at s
      to = omega (arith, check_at-plain, not-sealed)

  covered-again : drop 1 (body again its-payload) ≡ take (check_at s - 1) (drop 1 s)
  covered-again =
      let n : ℕ = check_at s - 1 in
      let one : 1 + n ≡ check_at s = omega arith in
      ap (drop 1) (body-again ∙ ap (λ (z : ℕ). take z s) (sym one) ∙ take-add 1 n s)
      ∙ drop_at (take 1 s) (take n (drop 1 s)) 1 (length-take-le 1 s (omega (arith, a.there)))

  pub plain-again : plain (parts_of (frame_of s)) (take (tf003 s) (drop (payload_at s) s)) ≡ take (frame_bytes s) s
  unfolding plain check_over frame_of its-payload
  plain-again =
      let k : ℕ = tf005 s in
      ap₂ (λ (x y : List ℕ). x ++ y) body-again
      (ap (λ (l : List ℕ). bytes_of (k + 1) (bits_of (8 * (k + 1)) (message_crc k l))) covered-again
      ∙ ap (λ (z : ℕ). bytes_of (k + 1) (bits_of (8 * (k + 1)) z)) a.right
      ∙ code-bytes (check_at s) (k + 1) b a.there)
      ∙ sym (take-add (check_at s) (k + 1) s)

module _ (s : List ℕ) (f : Frame) (e : checked s ≡ Accepted f) where
  is-frame : f ≡ frame_of s
  is-frame = (accepted s f e).is

  payload-is : payload_of s ≡ take (tf003 s) (drop (payload_at s) s)
  unfolding frame_of
  payload-is = payload-there s f e ∙ ap (λ (x : Frame). take x.payload_length (drop x.payload_at s)) is-frame

  -- The parts of an accepted frame are in range, and its payload has 1 to 1,023 bytes.
  pub accepted-parts : InRange (parts_of f) × (1 ≤ length (payload_of s)) × (length (payload_of s) ≤ longest_payload)
  accepted-parts =
      let a = accepted s f e in
      let n : length (payload_of s) ≡ tf003 s
      = ap length payload-is ∙ length-take-le (tf003 s) (drop (payload_at s) s) (omega (arith, length-drop (payload_at s) s, a.there)) in
      (subst (λ (x : Frame). InRange (parts_of x)) (sym is-frame) (parts-fit s), omega (arith, a.some-payload), omega (arith, field_lt s 15 10))

  -- The writer on the parts and the payload of an accepted plain frame gives back its bytes.
  pub accepted-written : Bytes s → f.seal ≡ None → plain (parts_of f) (payload_of s) ≡ take f.length s
  unfolding frame_of
  accepted-written b p =
      let own : Acceptance s (frame_of s) = subst (λ (x : Frame). Acceptance s x) is-frame (accepted s f e) in
      ap₂ (λ (x : Frame) (l : List ℕ). plain (parts_of x) l) is-frame payload-is
      ∙ plain-again s b own (sym (ap (λ (x : Frame). x.seal) is-frame) ∙ p)
      ∙ ap (λ (x : Frame). take x.length s) (sym is-frame)

-- ---- the two, of the calls' own definitions

refuse-on : (b : Bool) (r : Refusal) (rest : Written) {n : ℕ} → refuse b (Err r) rest ≡ Ok n → (b ≡ false) × (rest ≡ Ok n)
refuse-on true r rest e = let z : ◌≡◌ {A = ℕ} 0 1 = cc in absurd (omega arith)
refuse-on false r rest e = (refl, e)

-- What `write` wrote, `check` accepts with those parts, and `payload` hands back that payload.
pub write-check : (p : Parts) (payload out : List ℕ) (n : ℕ) → written p payload out ≡ Ok n
    → (checked (out_after p payload out) ≡ Accepted (header_of p payload)) × (payload_of (out_after p payload out) ≡ payload)
unfolding out_after written
write-check p payload out n e =
    let some-test : Bool = eqb (length payload) 0 || ltb longest_payload (length payload) in
    let last : Written = Ok (length (plain p payload)) in
    let third : Written = refuse some-test (Err Length) last in
    let a = refuse-on (ltb (length out) longest_frame) Room (refuse (not (in_range p)) (Err Field) third) e in
    let b = refuse-on (not (in_range p)) Field third a.1 in
    let c = refuse-on some-test Length last b.1 in
    let r : InRange p = in-range p (not-false _ b.0) in
    let d = neither _ _ c.0 in
    let some : 1 ≤ length payload = one (length payload) (eqb-false _ _ d.0) in
    let fits : length payload ≤ longest_payload = ltb-false _ _ d.1 in
    let left : left_by (written p payload out) p payload out ≡ plain p payload ++ drop n out = ap (λ (w : Written). left_by w p payload out) e in
    (ap checked left ∙ written-accepted p payload (drop n out) r some fits, ap payload_of left ∙ written-payload p payload (drop n out) r some fits)
  where
    neither : (a b : Bool) → (a || b) ≡ false → (a ≡ false) × (b ≡ false)
    neither true b e = absurd (true≢false e)
    neither false b e = (refl, e)

    one : (n : ℕ) → (n ≡ 0 → ⊥) → 1 ≤ n
    one zero h = absurd (h refl)
    one (suc n) h = omega arith

-- Of each accepted plain frame, `write` on its parts and its payload writes its bytes again.
pub check-write : (s out : List ℕ) (f : Frame) → Bytes s → longest_frame ≤ length out → checked s ≡ Accepted f → f.seal ≡ None
    → (written (parts_of f) (payload_of s) out ≡ Ok f.length) × (out_after (parts_of f) (payload_of s) out ≡ take f.length s ++ drop f.length out)
unfolding out_after written
check-write s out f b room e p =
    let r = accepted-parts s f e in
    let same : plain (parts_of f) (payload_of s) ≡ take f.length s = accepted-written s f e b p in
    let size : length (plain (parts_of f) (payload_of s)) ≡ f.length = ap length same ∙ length-take-le f.length s (accepted-length s f e).1 in
    let t1 : ltb (length out) longest_frame ≡ false = le-ltb (length out) longest_frame room in
    let t2 : in_range (parts_of f) ≡ true = range-in (parts_of f) r.0 in
    let t3 : eqb (length (payload_of s)) 0 ≡ false = ne_eqb (length (payload_of s)) 0 (λ z. absurd (omega (arith, r.1, z))) in
    let t4 : ltb longest_payload (length (payload_of s)) ≡ false = le-ltb longest_payload (length (payload_of s)) r.2 in
    (rw (t1, t2, t3, t4, size), rw (written, t1, t2, t3, t4, size, same))
