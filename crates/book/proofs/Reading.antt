-- One lemma for each turn and each answer of the functions that read a book, in plain variables, premises worded as the code makes them. Assumes nothing.
use mathlib.Core.Path.{◌≡◌, refl, ap, ap₂, sym, ◌∙◌, subst}
use mathlib.Core.Bool.{Bool, true, false, cond, not, ◌&&◌, false≢true}
use mathlib.Core.List.{List, []}
use Prim.Native.Nat.{ℕ, zero, suc, ◌+◌, ◌-◌, ◌*◌, ◌/◌, ◌%◌, ◌^◌, ◌≤◌, ◌<◌}
use native.Mathlib.Omega.{arith}
use lib.Dec.{leb, ltb, eqb}
use lib.ListN.{length, get_or, take, drop}
use lib.Seq.{drop-drop, get_or-drop}
use borrow.Author.Tests.{lt-ltb, le-ltb, le-leb, lt-leb, eq-eqb, ne_eqb, not-true, not-false}
use Rattle.sizes.specs.Sizes.{most_areas, book_bytes}
use mir.Syntax.{w8}
use mir.Val.{Fits}
use Rattle.area.specs.Area.{sf031, sf032, sf033, area_off, is_area, number_in, number_at}
use Rattle.area.specs.Laws.{not-off}
use Rattle.area.specs.declared.AreaId.{AreaId}
use Rattle.book.specs.Book.{area_in, head_sound, areas_sound, sound, place_of, is_held, found, found_at}
use Rattle.book.specs.Laws.{Sound, head-parts, sound-head, sound-room, sound-lists}
use Rattle.book.specs.Judge.{sound_area, Image}
use Rattle.bits.specs.Bits.{Bytes}
use Rattle.bits.specs.Laws.{bytes_drop}
use Rattle.book.specs.declared.Book.{Book}

-- ---- the head

-- with a sound head, the areas lie inside the bytes, and there are no more than IDs
module _ (book : Book) (b : Bool) (e : b ≡ head_sound book) (k : not b ≡ false) where
  pub head_few : book.count ≤ 256
  head_few = omega (arith, (head-parts book (sym e ∙ not-false b k)).1)

  pub head-fits : (s : List ℕ) → book_bytes ≤ length s → 6 * book.count ≤ length s
  head-fits s h = omega (arith, (head-parts book (sym e ∙ not-false b k)).1)

-- ---- the areas, one after the other

-- of the areas from the i-th on, the first and the rest
pub areas-left : (n i : ℕ) → i < n → n - i ≡ suc (n - (i + 1))
areas-left n i h = omega arith

pub next-six : (s : List ℕ) (i : ℕ) → drop 6 (drop (6 * i) s) ≡ drop (6 * (i + 1)) s
next-six s i = drop-drop 6 (6 * i) s ∙ ap (λ k. drop k s) {x = 6 * i + 6} {y = 6 * (i + 1)} (omega arith)

pub number-there : (s : List ℕ) (n i x : ℕ) → i < n → 6 * n ≤ length s → x ≡ number_at s (6 * i) → x ≡ number_in (drop (6 * i) s)
number-there s n i x h k e = e ∙ ap (λ b. cond b (number_in (drop (6 * i) s)) 0) (le-leb (6 * i + 6) (length s) (omega arith))

pub record Judging (s : List ℕ) (n i least : ℕ) : Type 0 where
  pub inside : i ≤ n
  pub small : least ≤ 256
  pub same : areas_sound (n - i) least (drop (6 * i) s) ≡ areas_sound n 0 s

pub judging-start : (s : List ℕ) (n : ℕ) → Judging s n 0 0
judging-start s n = record { inside = omega arith; small = omega arith; same = ap (λ k. areas_sound k 0 s) {x = n - 0} {y = n} (omega arith) }

pub judging-end : (s : List ℕ) (n i least : ℕ) → Judging s n i least → n ≤ i → true ≡ areas_sound n 0 s
unfolding areas_sound
judging-end s n i least p h =
    let e : n - i ≡ 0 = omega arith in
    ap (λ k. areas_sound k least (drop (6 * i) s)) (sym e) ∙ p.same

-- an area's ID is its first byte
pub first_byte : (s : List ℕ) → Bytes s → sf031 (area_in s) ≡ get_or s 0 0
first_byte s b = omega (arith, b.byte 0, b.byte 1, b.byte 2, b.byte 3, b.byte 4, b.byte 5)

both-fail : (a b c r : Bool) → (a && (b && c)) ≡ false → (a && (b && (c && r))) ≡ false
both-fail false b c r e = refl
both-fail true false c r e = refl
both-fail true true false r e = refl
both-fail true true true r e = absurd (false≢true (sym e))

both_hold : (a b c r : Bool) → (a && (b && c)) ≡ true → (a && (b && (c && r))) ≡ r
both_hold false b c r e = absurd (false≢true e)
both_hold true false c r e = absurd (false≢true e)
both_hold true true false r e = absurd (false≢true e)
both_hold true true true r e = refl

module _ (s : List ℕ) (n i least : ℕ) (p : Judging s n i least) (h : i < n) (b : Bool) (eb : b ≡ sound_area least (number_in (drop (6 * i) s))) where
  abbrev at : List ℕ
  at = drop (6 * i) s

  opened : areas_sound n 0 s ≡ (eqb (number_in at % 2) 0 && (leb least (sf031 (area_in at)) && (is_area (area_in at) && areas_sound (n - (i + 1)) (suc (sf031 (area_in at))) (drop 6 at))))
  unfolding areas_sound
  opened = sym p.same ∙ ap (λ k. areas_sound k least at) (areas-left n i h)

  pub judged-bad : not b ≡ true → false ≡ areas_sound n 0 s
  unfolding sound_area
  judged-bad k = sym (opened ∙ both-fail (eqb (number_in at % 2) 0) (leb least (sf031 (area_in at))) (is_area (area_in at)) (areas_sound (n - (i + 1)) (suc (sf031 (area_in at))) (drop 6 at)) (sym eb ∙ not-true b k))

  pub judged-good : not b ≡ false → ((j : ℕ) → Fits w8 (get_or s j 0)) → Judging s n (i + 1) (get_or s (6 * i) 0 + 1)
  unfolding sound_area
  judged-good k known =
      let id : sf031 (area_in at) ≡ get_or s (6 * i) 0
      = first_byte at (bytes_drop (6 * i) (record { byte = λ j. (known j).fits })) ∙ get_or-drop (6 * i) s 0 0
      ∙ ap (λ k. get_or s k 0) {x = 6 * i + 0} {y = 6 * i} (omega arith) in
      let up : suc (sf031 (area_in at)) ≡ get_or s (6 * i) 0 + 1 = omega arith in
      record {
        inside = omega arith;
        small = omega (arith, (known (6 * i)).fits);
        same = ap₂ (λ k z. areas_sound (n - (i + 1)) k z) (sym up) (sym (next-six s i))
            ∙ sym (opened ∙ both_hold (eqb (number_in at % 2) 0) (leb least (sf031 (area_in at))) (is_area (area_in at)) (areas_sound (n - (i + 1)) (suc (sf031 (area_in at))) (drop 6 at)) (sym eb ∙ not-false b k));
      }

-- ---- one area by its bytes

-- what the first four of six bytes say of the area
record Start (x start last : ℕ) : Type 0 where
  odd : x % 2 ≡ last % 2
  id : sf031 (x / 2) ≡ start / 16777216
  latitude : sf032 (x / 2) ≡ start / 8192 % 2048
  longitude : sf033 (x / 2) ≡ start / 2 % 0x1000
  small : x / 2 < 2 ^ 47

starts : (start e f : ℕ) → start < 2 ^ 32 → e < 256 → f < 256 → Start ((start * 256 + e) * 256 + f) start f
starts start e f h k l = record { odd = omega arith; id = omega arith; latitude = omega arith; longitude = omega arith; small = omega arith }

module _ (s : List ℕ) (at least start : ℕ) (known : (j : ℕ) → Fits w8 (get_or s j 0))
    (es : start ≡ ((get_or s at 0 * 256 + get_or s (at + 1) 0) * 256 + get_or s (at + 2) 0) * 256 + get_or s (at + 3) 0) where
  abbrev x : ℕ
  x = number_in (drop at s)

  byte : (j : ℕ) → get_or s j 0 < 256
  byte j = (known j).fits

  is-start : Start x start (get_or s (at + 5) 0)
  is-start =
      let g : (j : ℕ) → get_or s (at + j) 0 ≡ get_or (drop at s) j 0 = λ j. sym (get_or-drop at s j 0) in
      let g₀ : get_or s at 0 ≡ get_or (drop at s) 0 0 = ap (λ j. get_or s j 0) {x = at} {y = at + 0} (omega arith) ∙ g 0 in
      let e : start ≡ ((get_or (drop at s) 0 0 * 256 + get_or (drop at s) 1 0) * 256 + get_or (drop at s) 2 0) * 256 + get_or (drop at s) 3 0
      = es ∙ ap₂ (λ a b. ((a * 256 + b) * 256 + get_or s (at + 2) 0) * 256 + get_or s (at + 3) 0) g₀ (g 1)
      ∙ ap₂ (λ a b. ((get_or (drop at s) 0 0 * 256 + get_or (drop at s) 1 0) * 256 + a) * 256 + b) (g 2) (g 3) in
      let y : Start ((start * 256 + get_or s (at + 4) 0) * 256 + get_or s (at + 5) 0) start (get_or s (at + 5) 0)
      = starts start (get_or s (at + 4) 0) (get_or s (at + 5) 0) (omega (arith, es, byte at, byte (at + 1), byte (at + 2), byte (at + 3))) (byte (at + 4)) (byte (at + 5)) in
      let five : ℕ = (((get_or (drop at s) 0 0 * 256 + get_or (drop at s) 1 0) * 256 + get_or (drop at s) 2 0) * 256 + get_or (drop at s) 3 0) * 256 + get_or (drop at s) 4 0 in
      subst (λ x. Start x start (get_or s (at + 5) 0)) (ap₂ (λ a b. (a * 256 + b) * 256 + get_or s (at + 5) 0) e (g 4) ∙ ap (λ b. five * 256 + b) (g 5)) y

  pub bytes-odd : (get_or s (at + 5) 0 % 2 ≡ 0 → ⊥) → false ≡ sound_area least x
  unfolding sound_area
  bytes-odd k = let z : eqb (x % 2) 0 ≡ false = ne_eqb _ _ (λ q. k (sym is-start.odd ∙ q)) in rw z

  module _ (even : get_or s (at + 5) 0 % 2 ≡ 0) where
    is-even : eqb (x % 2) 0 ≡ true
    is-even = eq-eqb _ _ (is-start.odd ∙ even)

    pub bytes_low : start / 16777216 < least → false ≡ sound_area least x
    unfolding sound_area
    bytes_low k = let z : leb least (sf031 (x / 2)) ≡ false = lt-leb _ _ (subst (λ d. d < least) (sym is-start.id) k) in rw (is-even, z)

    module _ (up : least ≤ start / 16777216) where
      in_order : leb least (sf031 (x / 2)) ≡ true
      in_order = le-leb _ _ (subst (λ d. least ≤ d) (sym is-start.id) up)

      fits : ltb (x / 2) (2 ^ 47) ≡ true
      fits = lt-ltb _ _ is-start.small

      pub bytes-latitude : 1800 < start / 8192 % 2048 → false ≡ sound_area least x
      unfolding sound_area is_area
      bytes-latitude k = let z : leb (sf032 (x / 2)) 1800 ≡ false = lt-leb _ _ (subst (λ d. 1800 < d) (sym is-start.latitude) k) in rw (is-even, in_order, fits, z)

      module _ (south : start / 8192 % 2048 ≤ 1800) where
        latitude-in : leb (sf032 (x / 2)) 1800 ≡ true
        latitude-in = le-leb _ _ (subst (λ d. d ≤ 1800) (sym is-start.latitude) south)

        pub bytes-longitude : 3600 < start / 2 % 0x1000 → false ≡ sound_area least x
        unfolding sound_area is_area
        bytes-longitude k = let z : leb (sf033 (x / 2)) 3600 ≡ false = lt-leb _ _ (subst (λ d. 3600 < d) (sym is-start.longitude) k) in rw (is-even, in_order, fits, latitude-in, z)

        module _ (west : start / 2 % 0x1000 ≤ 3600) where
          longitude-in : leb (sf033 (x / 2)) 3600 ≡ true
          longitude-in = le-leb _ _ (subst (λ d. d ≤ 3600) (sym is-start.longitude) west)

          pub bytes-north : 224 ≤ start / 8192 % 2048 → true ≡ sound_area least x
          unfolding sound_area is_area
          bytes-north k =
              let z : area_off (x / 2) ≡ false = not-off (x / 2) (subst (λ d. 224 ≤ d) (sym is-start.latitude) k) in
              rw (is-even, in_order, fits, latitude-in, longitude-in, z)

          pub bytes_rest : at + 6 ≤ length s → (m : ℕ) → m ≡ number_at s at → (b : Bool) → b ≡ area_off (m / 2) → not b ≡ sound_area least x
          unfolding sound_area is_area
          bytes_rest h m em b eb =
              let e : m ≡ x = em ∙ ap (λ b. cond b x 0) (le-leb (at + 6) (length s) h) in
              let z : area_off (x / 2) ≡ b = sym (eb ∙ ap (λ m. area_off (m / 2)) e) in
              rw (is-even, in_order, fits, latitude-in, longitude-in, z)

-- ---- the whole book

module _ (book : Book) (s : List ℕ) where
  pub sound-short : length s < book_bytes → false ≡ sound book s
  unfolding sound
  sound-short h = rw (lt-leb book_bytes (length s) h)

  module _ (h : book_bytes ≤ length s) (b : Bool) (e : b ≡ head_sound book) where
    pub sound-bare : not b ≡ true → false ≡ sound book s
    unfolding sound
    sound-bare k = let z : head_sound book ≡ false = sym e ∙ not-true b k in rw (le-leb book_bytes (length s) h, z)

    pub sound-rest : not b ≡ false → (r : Bool) → r ≡ areas_sound book.count 0 s → r ≡ sound book s
    unfolding sound
    sound-rest k r f = let z : head_sound book ≡ true = sym e ∙ not-false b k in rw (le-leb book_bytes (length s) h, z) f

-- what a sound book has
module _ (book : Book) (s : List ℕ) (e : sound book s ≡ true) where
  pub sound-count : book.count ≤ most_areas
  sound-count = (head-parts book (sound-head book s e)).1

  pub sound-image : Bytes s → Image book.count s
  sound-image b = let w : Sound book.count 0 s = sound-lists book s e b in record { ascending = w.ascending; image = w.image }

-- ---- the place of an ID

module _ (s : List ℕ) (id : ℕ) where
  pub record Seeking (n i : ℕ) : Type 0 where
    pub inside : i ≤ n
    pub same : i + place_of id (n - i) (drop (6 * i) s) ≡ place_of id n s

  pub seek-start : (n : ℕ) → Seeking n 0
  seek-start n = record { inside = omega arith; same = let e : place_of id (n - 0) s ≡ place_of id n s = ap (λ k. place_of id k s) {x = n - 0} {y = n} (omega arith) in omega arith }

  module _ (n i : ℕ) (p : Seeking n i) where
    pub seek-end : n ≤ i → n ≡ place_of id n s
    unfolding place_of
    seek-end h = let e : n - i ≡ 0 = omega arith in (omega (arith, p.inside)) ∙ ap (λ k. i + place_of id k (drop (6 * i) s)) (sym e) ∙ p.same

    module _ (h : i < n) where
      opened-place : i + cond (eqb (get_or s (6 * i) 0) id) zero (suc (place_of id (n - (i + 1)) (drop (6 * (i + 1)) s))) ≡ place_of id n s
      unfolding place_of
      opened-place =
          ap₂ (λ y z. i + cond (eqb y id) zero (suc (place_of id (n - (i + 1)) z)))
          (ap (λ k. get_or s k 0) {x = 6 * i} {y = 6 * i + 0} (omega arith) ∙ sym (get_or-drop (6 * i) s 0 0)) (sym (next-six s i))
          ∙ ap (λ k. i + place_of id k (drop (6 * i) s)) (sym (areas-left n i h))
          ∙ p.same

      pub seek_found : get_or s (6 * i) 0 ≡ id → i ≡ place_of id n s
      seek_found e = omega (arith, rw (eq-eqb _ _ e) at opened-place)

      pub seek-turn : (get_or s (6 * i) 0 ≡ id → ⊥) → Seeking n (i + 1)
      seek-turn k = record { inside = omega arith; same = omega (arith, rw (ne_eqb _ _ k) at opened-place) }

-- ---- finding

module _ (book : Book) (s : List ℕ) (b : Bool) (e : b ≡ sound book s) (k : not b ≡ false) where
  pub find-count : book.count ≤ most_areas
  find-count = sound-count book s (sym e ∙ not-false b k)

  pub find-fits : 6 * book.count ≤ length s
  find-fits = let m : book_bytes ≤ length s = sound-room book s (sym e ∙ not-false b k) in omega (arith, find-count)

  -- the part of the i-th area
  module _ (i : ℕ) (h : i < book.count) where
    pub find_at : 6 * i < 2 ^ 64
    find_at = omega (arith, find-count)

    pub find-end : 6 * i + 6 < 2 ^ 64
    find-end = omega (arith, find-count)

    pub find-inside : 6 * i + 6 ≤ length s
    find-inside = omega (arith, find-fits)

module _ (book : Book) (s : List ℕ) (id : AreaId) where
  none : is_held book s id ≡ false → [] ≡ found book s id
  unfolding found
  none e = rw e

  at-start : is_held book s id ≡ false → (x : ℕ) → x ≡ x + found_at book s id
  unfolding found_at
  at-start e x = rw e (omega arith)

  module _ (b : Bool) (e : b ≡ sound book s) where
    unsound : not b ≡ true → is_held book s id ≡ false
    unsound k = let z : sound book s ≡ false = sym e ∙ not-true b k in rw z

    pub find-unsound : not b ≡ true → [] ≡ found book s id
    find-unsound k = none (unsound k)

    pub find-unsound-at : not b ≡ true → (x : ℕ) → x ≡ x + found_at book s id
    find-unsound-at k = at-start (unsound k)

    module _ (k : not b ≡ false) where
      module _ (i : ℕ) (p : i ≡ place_of id.0 book.count s) where
        absent : book.count ≤ i → is_held book s id ≡ false
        absent h =
            let z : sound book s ≡ true = sym e ∙ not-false b k in
            let y : ltb (place_of id.0 book.count s) book.count ≡ false = le-ltb _ _ (subst (λ i. book.count ≤ i) p h) in
            rw (z, y)

        pub find_none : book.count ≤ i → [] ≡ found book s id
        find_none h = none (absent h)

        pub find-none-at : book.count ≤ i → (x : ℕ) → x ≡ x + found_at book s id
        find-none-at h = at-start (absent h)

        held : i < book.count → is_held book s id ≡ true
        held h =
            let z : sound book s ≡ true = sym e ∙ not-false b k in
            let y : ltb (place_of id.0 book.count s) book.count ≡ true = lt-ltb _ _ (subst (λ i. i < book.count) p h) in
            rw (z, y)

        pub find-part : i < book.count → take (6 * i + 6 - 6 * i) (drop (6 * i) s) ≡ found book s id
        unfolding found
        find-part h =
            rw (held h) (ap (λ m. take m (drop (6 * i) s)) {x = 6 * i + 6 - 6 * i} {y = 6} (omega arith) ∙ ap (λ i. take 6 (drop (6 * i) s)) p)

        pub find-part-at : i < book.count → (x : ℕ) → 6 * i + x ≡ x + found_at book s id
        unfolding found_at
        find-part-at h x = rw (held h) (omega (arith, p))
