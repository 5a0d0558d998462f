-- One lemma for each answer of the functions that write, in plain variables, its premises worded as the code makes them. Assumes nothing.
use Rattle.std.specs.Prelude.{Ok, Err}
use mathlib.Core.Path.{◌≡◌, refl, sym, ap, ap₂, subst, ◌∙◌}
use mathlib.Core.List.{List, [], ◌∷◌, ◌++◌, append_assoc}
use mathlib.Core.Bool.{Bool, true, false, not}
use Prim.Native.Nat.{ℕ, zero, suc, ◌+◌, ◌-◌, ◌*◌, ◌/◌, ◌%◌, ◌^◌, ◌≤◌, ◌<◌}
use native.Mathlib.Nat.{div-one}
use native.Mathlib.Omega.{arith}
use lib.Dec.{ltb, eqb}
use lib.ListN.{length, get_or, take, drop, length-append, length-drop}
use lib.Seq.{take_at, drop-append-le}
use borrow.Author.Tests.{lt-ltb, le-ltb, ne_eqb, eq-eqb, not-true, not-false}
use mir.Syntax.{w8}
use mir.Val.{Fits}
use Rattle.sizes.specs.Sizes.{longest_frame, longest_payload}
use Rattle.bits.specs.Bits.{bits_of, to_bits, put_to, leaves}
use Rattle.bits.specs.Laws.{leaves-there}
use Rattle.checks.specs.Crc.{frame_crc, message_crc}
use Rattle.checks.specs.Laws.{frame_crc-lt}
use Rattle.frame.specs.Fields.{tag_bits}
use Rattle.frame.specs.Write.{bytes_of, start_bits, tf006_of, start, description, check_over, body, plain, in_range, written, out_after}
use Rattle.frame.specs.WriteLaws.{length-bytes_of, four_bytes, put-bytes, over}
use Rattle.frame.specs.Header.{InRange, in-range, start-code, description-code}
use Rattle.answer.specs.declared.Refusal.TheVariants.{Room, Field, Length}
use Rattle.frame.specs.declared.Parts.{Parts}
use Rattle.frame.specs.Results.{Written}

-- ---- ranges

pub fits-short : (k tag : ℕ) → k ≡ 0 → ltb tag 65536 ≡ ltb tag (2 ^ tag_bits k)
fits-short k tag e = rw e

pub fits-long : (k tag : ℕ) → k < 2 → (k ≡ 0 → ⊥) → ltb tag 4294967296 ≡ ltb tag (2 ^ tag_bits k)
fits-long zero tag h n = absurd (n refl)
fits-long (suc zero) tag h n = refl
fits-long (suc (suc k)) tag h n = absurd (omega arith)

module _ (p : Parts) where
  pub range-1 : 127 < p.message_type → false ≡ in_range p
  unfolding in_range
  range-1 h = rw (le-ltb p.message_type 128 (omega arith))

  module _ (a : p.message_type ≤ 127) where
    fits-1 : ltb p.message_type 128 ≡ true
    fits-1 = lt-ltb p.message_type 128 (omega arith)

    pub range-2 : 3 < p.check_type → false ≡ in_range p
    unfolding in_range
    range-2 h = rw (fits-1, le-ltb p.check_type 4 (omega arith))

    module _ (b : p.check_type ≤ 3) where
      fits-2 : ltb p.check_type 4 ≡ true
      fits-2 = lt-ltb p.check_type 4 (omega arith)

      pub range-3 : 15 < p.subtype → false ≡ in_range p
      unfolding in_range
      range-3 h = rw (fits-1, fits-2, le-ltb p.subtype 16 (omega arith))

      module _ (d : p.subtype ≤ 15) where
        fits-3 : ltb p.subtype 16 ≡ true
        fits-3 = lt-ltb p.subtype 16 (omega arith)

        pub range-4 : 1 < p.tag_kind → false ≡ in_range p
        unfolding in_range
        range-4 h = rw (fits-1, fits-2, fits-3, le-ltb p.tag_kind 2 (omega arith))

        module _ (e : p.tag_kind ≤ 1) (t : Bool) (is : t ≡ ltb p.tag (2 ^ tag_bits p.tag_kind)) where
          fits-4 : ltb p.tag_kind 2 ≡ true
          fits-4 = lt-ltb p.tag_kind 2 (omega arith)

          pub range-5 : not t ≡ true → false ≡ in_range p
          unfolding in_range
          range-5 h = rw (fits-1, fits-2, fits-3, fits-4, ← is, not-true t h)

          module _ (f : not t ≡ false) where
            pub range-6 : 127 < p.solution → false ≡ in_range p
            unfolding in_range
            range-6 h = rw (fits-1, fits-2, fits-3, fits-4, ← is, not-false t f, le-ltb p.solution 128 (omega arith))

            pub range-7 : p.solution ≤ 127 → ltb p.processor 16 ≡ in_range p
            unfolding in_range
            range-7 h = rw (fits-1, fits-2, fits-3, fits-4, ← is, not-false t f, lt-ltb p.solution 128 (omega arith))

-- ---- the header's two codes

pub tag-short : (p : Parts) → InRange p → p.tag_kind ≡ 0 → p.tag < 65536
tag-short p r e = rw e at r.tag_fits

pub tag-long : (p : Parts) → InRange p → (p.tag_kind ≡ 0 → ⊥) → p.tag < 4294967296
tag-long p r n = go p.tag_kind p.tag n r.kind_fits r.tag_fits
  where
    go : (k t : ℕ) → (k ≡ 0 → ⊥) → k < 2 → t < 2 ^ tag_bits k → t < 4294967296
    go zero t n h l = absurd (n refl)
    go (suc zero) t n h l = l
    go (suc (suc k)) t n h l = absurd (omega arith)

-- x is what `open` holds in the code
module _ (p : Parts) (n t k z y : ℕ) (r : InRange p) (h : n < 1024) (et : t ≡ p.message_type) (ek : k ≡ p.check_type)
    (ez : z ≡ frame_crc ((((115 * 128 + t) * 1024 + n) * 8 + k) * 16 / 65536 % 256) ((((115 * 128 + t) * 1024 + n) * 8 + k) * 16 / 256 % 256) ((((115 * 128 + t) * 1024 + n) * 8 + k) * 16 % 256))
    (ey : y ≡ z) where
  pub start_is : bytes_of 4 (bits_of 32 ((((115 * 128 + t) * 1024 + n) * 8 + k) * 16 + y)) ≡ start p n
  unfolding start
  start_is =
      let x : ℕ = (((115 * 128 + p.message_type) * 1024 + n) * 8 + p.check_type) * 16 in
      let x-is : (((115 * 128 + t) * 1024 + n) * 8 + k) * 16 ≡ x = ap₂ (λ (a b : ℕ). (((115 * 128 + a) * 1024 + n) * 8 + b) * 16) et ek in
      let z-is : z ≡ frame_crc (x / 65536 % 256) (x / 256 % 256) (x % 256)
      = ez ∙ ap (λ (a : ℕ). frame_crc (a / 65536 % 256) (a / 256 % 256) (a % 256)) x-is in
      let none : x ≡ x + 0 = omega arith in
      let zeroed : bytes_of 4 (start_bits p n 0) ≡ (x / 2 ^ 24 % 256) ∷ (x / 2 ^ 16 % 256) ∷ (x / 2 ^ 8 % 256) ∷ (x / 1 % 256) ∷ []
      = ap (bytes_of 4) (sym (start-code p n 0 r h (omega arith)) ∙ ap (bits_of 32) (sym none)) ∙ four_bytes x in
      let crc : tf006_of (bytes_of 4 (start_bits p n 0)) ≡ y
      = ap tf006_of zeroed ∙ ap (λ (a : ℕ). frame_crc (x / 65536 % 256) (x / 256 % 256) (a % 256)) (div-one x) ∙ sym z-is ∙ sym ey in
      let small : y < 16 = subst (λ (a : ℕ). a < 16) (sym (ey ∙ z-is)) (frame_crc-lt _ _ _) in
      ap (λ (a : ℕ). bytes_of 4 (bits_of 32 (a + y))) x-is ∙ ap (bytes_of 4) (start-code p n y r h small) ∙ ap (λ (a : ℕ). bytes_of 4 (start_bits p n a)) (sym crc)

-- the description with a tag of w bits
described : (p : Parts) (w su k so pr : ℕ) → InRange p → w ≡ tag_bits p.tag_kind → su ≡ p.subtype → k ≡ p.tag_kind → so ≡ p.solution → pr ≡ p.processor
    → bytes_of (4 + 2 * p.tag_kind) (bits_of (8 * (4 + 2 * p.tag_kind)) (((su * 2 + k) * 2 ^ w + p.tag) * 2048 + (so * 16 + pr))) ≡ description p
unfolding description
described p w su k so pr r ew eu ek eo ep =
    let size : 8 * (4 + 2 * p.tag_kind) ≡ 5 + w + 11 = omega arith in
    let bits : bits_of (5 + w + 11) (((su * 2 + k) * 2 ^ w + p.tag) * 2048 + (so * 16 + pr)) ≡ _
    = description-code w su k p.tag so pr (subst (λ (a : ℕ). a < 2) (sym ek) r.kind_fits) (subst (λ (a : ℕ). p.tag < 2 ^ a) (sym ew) r.tag_fits)
    (subst (λ (a : ℕ). a < 128) (sym eo) r.solution-fits) (subst (λ (a : ℕ). a < 16) (sym ep) r.processor-fits) in
    ap (bytes_of (4 + 2 * p.tag_kind))
    (ap (λ (a : ℕ). bits_of a (((su * 2 + k) * 2 ^ w + p.tag) * 2048 + (so * 16 + pr))) size ∙ bits ∙ rw (eu, ek, eo, ep, ew))

module _ (p : Parts) (r : InRange p) (su k so pr x : ℕ) (eu : su ≡ p.subtype) (ek : k ≡ p.tag_kind) (eo : so ≡ p.solution) (ep : pr ≡ p.processor) where
  pub description-short : p.tag_kind ≡ 0 → x ≡ ((su * 2 + k) * 65536 + p.tag) * 2048 + (so * 16 + pr)
      → bytes_of (4 + 2 * p.tag_kind) (bits_of (8 * (4 + 2 * p.tag_kind)) x) ≡ description p
  description-short e q =
      ap (λ (a : ℕ). bytes_of (4 + 2 * p.tag_kind) (bits_of (8 * (4 + 2 * p.tag_kind)) a)) q ∙ described p 16 su k so pr r (ap tag_bits (sym e)) eu ek eo ep

  pub description-long : (p.tag_kind ≡ 0 → ⊥) → x ≡ ((su * 2 + k) * 4294967296 + p.tag) * 2048 + (so * 16 + pr)
      → bytes_of (4 + 2 * p.tag_kind) (bits_of (8 * (4 + 2 * p.tag_kind)) x) ≡ description p
  description-long n q =
      ap (λ (a : ℕ). bytes_of (4 + 2 * p.tag_kind) (bits_of (8 * (4 + 2 * p.tag_kind)) a)) q
      ∙ described p 32 su k so pr r (ap tag_bits (sym (one p.tag_kind n r.kind_fits))) eu ek eo ep
    where
      one : (k : ℕ) → (k ≡ 0 → ⊥) → k < 2 → k ≡ 1
      one zero n h = absurd (n refl)
      one (suc zero) n h = refl
      one (suc (suc k)) n h = absurd (omega arith)

-- ---- the parts of the frame in the buffer: s before a put, t after it

module _ (s t : List ℕ) (bs : (i : ℕ) → Fits w8 (get_or s i 0)) (bt : (i : ℕ) → Fits w8 (get_or t i 0)) where
  -- a code of k whole bytes, put at byte a
  laid : (a k code pos w : ℕ) → pos ≡ 8 * a → w ≡ 8 * k → k ≤ 8 → a + k ≤ length s → to_bits t ≡ leaves s pos w code
      → t ≡ take a s ++ (bytes_of k (bits_of (8 * k) code) ++ drop (a + k) s)
  laid a k code pos w ep ew hk h e =
      put-bytes a k code (record { byte = λ i. (bs i).fits }) (record { byte = λ i. (bt i).fits }) h
      (e ∙ leaves-there s pos w code (omega arith) (omega arith) ∙ ap₂ (λ (x y : ℕ). put_to (to_bits s) x y code) ep ew)

  pub start-laid : (p : Parts) (n code : ℕ) → 4 ≤ length s → bytes_of 4 (bits_of 32 code) ≡ start p n → to_bits t ≡ leaves s 0 32 code → t ≡ start p n ++ drop 4 s
  start-laid p n code h q e = laid 0 4 code 0 32 refl refl (omega arith) h e ∙ ap (λ (l : List ℕ). l ++ drop 4 s) q

  pub description-laid : (p : Parts) (k w code : ℕ) → InRange p → 10 ≤ length s → k ≡ p.tag_kind → w ≡ 8 * (4 + 2 * k)
      → bytes_of (4 + 2 * p.tag_kind) (bits_of (8 * (4 + 2 * p.tag_kind)) code) ≡ description p → to_bits t ≡ leaves s 32 w code
      → t ≡ take 4 s ++ (description p ++ drop (4 + (4 + 2 * k)) s)
  description-laid p k w code r h ek ew q e =
      laid 4 (4 + 2 * k) code 32 w refl ew (omega (arith, r.kind_fits)) (omega (arith, r.kind_fits)) e
      ∙ ap (λ (l : List ℕ). take 4 s ++ (l ++ drop (4 + (4 + 2 * k)) s)) (ap (λ (x : ℕ). bytes_of (4 + 2 * x) (bits_of (8 * (4 + 2 * x)) code)) ek ∙ q)

  pub check-laid : (kind k w at crc : ℕ) → kind < 4 → at + 4 ≤ length s → k ≡ kind → w ≡ 8 * (k + 1) → crc ≡ message_crc kind (take (at - 1) (drop 1 s))
      → to_bits t ≡ leaves s (8 * at) w crc → t ≡ take at s ++ (check_over kind (take (at - 1) (drop 1 s)) ++ drop (at + (k + 1)) s)
  unfolding check_over
  check-laid kind k w at crc hk h ek ew ec e =
      laid at (k + 1) crc (8 * at) w refl ew (omega arith) (omega arith) e
      ∙ ap₂ (λ (x y : ℕ). take at s ++ (bytes_of (x + 1) (bits_of (8 * (x + 1)) y) ++ drop (at + (k + 1)) s)) ek ec

-- ---- the whole frame

-- what is answered, and the bytes afterwards
pub record Wrote (p : Parts) (payload out : List ℕ) (r : Written) (out' : List ℕ) : Type 0 where
  pub says : r ≡ written p payload out
  pub leaves : out' ≡ out_after p payload out

pub both : {p : Parts} {payload out : List ℕ} {r : Written} {out' : List ℕ} → Wrote p payload out r out'
    → (r ≡ written p payload out) × (out' ≡ out_after p payload out)
both w = (w.says, w.leaves)

pub write-room : (p : Parts) (payload out : List ℕ) → length out < longest_frame → Wrote p payload out (Err Room) out
unfolding written out_after
write-room p payload out h = let z : ltb (length out) longest_frame ≡ true = lt-ltb (length out) longest_frame h in record { says = rw z; leaves = rw (written, z) }

module _ (p : Parts) (payload out : List ℕ) (room : longest_frame ≤ length out) (b : Bool) (is : b ≡ in_range p) where
  room-is : ltb (length out) longest_frame ≡ false
  room-is = le-ltb (length out) longest_frame room

  pub write-field : not b ≡ true → Wrote p payload out (Err Field) out
  unfolding written out_after
  write-field h = let z : in_range p ≡ false = sym is ∙ not-true b h in record { says = rw (room-is, z); leaves = rw (written, room-is, z) }

  module _ (h : not b ≡ false) where
    range-is : in_range p ≡ true
    range-is = sym is ∙ not-false b h

    pub range-holds : InRange p
    range-holds = in-range p range-is

    pub write-empty : length payload ≡ 0 → Wrote p payload out (Err Length) out
    unfolding written out_after
    write-empty e = let z : eqb (length payload) 0 ≡ true = eq-eqb (length payload) 0 e in record { says = rw (room-is, range-is, z); leaves = rw (written, room-is, range-is, z) }

    module _ (some : length payload ≡ 0 → ⊥) where
      some_is : eqb (length payload) 0 ≡ false
      some_is = ne_eqb (length payload) 0 some

      pub write-long : longest_payload < length payload → Wrote p payload out (Err Length) out
      unfolding written out_after
      write-long l =
          let z : ltb longest_payload (length payload) ≡ true = lt-ltb longest_payload (length payload) l in
          record { says = rw (room-is, range-is, some_is, z); leaves = rw (written, room-is, range-is, some_is, z) }

      module _ (fits : length payload ≤ longest_payload) (o₁ o₂ o₃ : List ℕ) (at end : ℕ) (e₁ : o₁ ≡ start p (length payload) ++ drop 4 out)
          (at-is : at ≡ 8 + 2 * p.tag_kind) (e₂ : o₂ ≡ take 4 o₁ ++ (description p ++ drop at o₁))
          (end_is : end ≡ at + length payload) (e₃ : o₃ ≡ take at o₂ ++ (payload ++ drop end o₂)) where
        start-size : 4 ≡ length (start p (length payload))
        unfolding start
        start-size = sym (length-bytes_of 4 _)

        description-size : length (description p) ≡ 4 + 2 * p.tag_kind
        unfolding description
        description-size = length-bytes_of (4 + 2 * p.tag_kind) _

        body_is : (start p (length payload) ++ description p) ++ payload ≡ body p payload
        unfolding body
        body_is = append_assoc (start p (length payload)) (description p) payload

        body-size : end ≡ length (body p payload)
        body-size =
            end_is ∙ ap (λ (z : ℕ). z + length payload) (at-is ∙ at_size)
            ∙ sym (ap length (sym body_is) ∙ length-append (start p (length payload) ++ description p) payload
            ∙ ap (λ (z : ℕ). z + length payload) (length-append (start p (length payload)) (description p)))
          where
            at_size : 8 + 2 * p.tag_kind ≡ length (start p (length payload)) + length (description p)
            at_size = omega (arith, start-size, description-size)

        before-check : o₃ ≡ body p payload ++ drop end out
        before-check =
            let r = range-holds in
            let two : o₂ ≡ (start p (length payload) ++ description p) ++ drop at out
            = over (start p (length payload)) (description p) out o₁ o₂ 4 at start-size (omega (arith, description-size)) e₁ (omega (arith, r.kind_fits)) e₂ in
            over (start p (length payload) ++ description p) payload out o₂ o₃ at end
            (omega (arith, length-append (start p (length payload)) (description p), start-size, description-size)) end_is two (omega (arith, r.kind_fits)) e₃
            ∙ ap (λ (l : List ℕ). l ++ drop end out) body_is

        -- the check has room behind them
        pub check-room : end + 4 ≤ length o₃
        check-room =
            let r = range-holds in
            omega (arith, r.kind_fits, body-size, ap length before-check ∙ length-append (body p payload) (drop end out), length-drop end out)

        pub check-near : end < 2048
        check-near = let r = range-holds in omega (arith, r.kind_fits)

        module _ (o₄ : List ℕ) (fin : ℕ) (fin-is : fin ≡ end + (p.check_type + 1))
            (e₄ : o₄ ≡ take end o₃ ++ (check_over p.check_type (take (end - 1) (drop 1 o₃)) ++ drop fin o₃)) where
          check-size : (l : List ℕ) → length (check_over p.check_type l) ≡ p.check_type + 1
          unfolding check_over
          check-size l = length-bytes_of (p.check_type + 1) _

          covered : take (end - 1) (drop 1 o₃) ≡ drop 1 (body p payload)
          covered =
              ap (λ (l : List ℕ). take (end - 1) (drop 1 l)) before-check
              ∙ ap (take (end - 1)) (drop-append-le 1 (body p payload) (drop end out) (omega (arith, body-size)))
              ∙ take_at (drop 1 (body p payload)) (drop end out) (end - 1) (omega (arith, length-drop 1 (body p payload), body-size))

          whole : o₄ ≡ plain p payload ++ drop fin out
          unfolding plain
          whole =
              let r = range-holds in
              over (body p payload) (check_over p.check_type (drop 1 (body p payload))) out o₃ o₄ end fin body-size
              (omega (arith, check-size (drop 1 (body p payload)))) before-check (omega (arith, r.kind_fits, r.check-fits))
              (e₄ ∙ ap (λ (l : List ℕ). take end o₃ ++ (check_over p.check_type l ++ drop fin o₃)) covered)

          plain_size : length (plain p payload) ≡ fin
          unfolding plain
          plain_size =
              length-append (body p payload) (check_over p.check_type (drop 1 (body p payload)))
              ∙ omega (arith, check-size (drop 1 (body p payload)), body-size)

          pub write-frame : Wrote p payload out (Ok fin) o₄
          unfolding written out_after
          write-frame =
              let z : ltb longest_payload (length payload) ≡ false = le-ltb longest_payload (length payload) fits in
              record { says = rw (room-is, range-is, some_is, z, plain_size); leaves = rw (written, room-is, range-is, some_is, z, plain_size) whole }

pub ranged : (p : Parts) (b : Bool) → b ≡ in_range p → not b ≡ false → InRange p
ranged p b is h = in-range p (sym is ∙ not-false b h)

pub check-known : (p : Parts) (b : Bool) → b ≡ in_range p → not b ≡ false → p.check_type < 4
check-known p b is h = (ranged p b is h).check-fits

-- what is written behind the start and the description has room, whatever payload was let in
pub payload-fits : (p : Parts) (b : Bool) → b ≡ in_range p → not b ≡ false → (payload out o₁ o₂ : List ℕ) → longest_frame ≤ length out
    → length payload ≤ longest_payload → length o₁ ≡ length out → length o₂ ≡ length o₁ → (at : ℕ) → at ≡ 8 + 2 * p.tag_kind
    → at + length payload ≤ length o₂
payload-fits p b is h payload out o₁ o₂ room fits same₁ same₂ at at-is = let r = ranged p b is h in omega (arith, r.kind_fits)
