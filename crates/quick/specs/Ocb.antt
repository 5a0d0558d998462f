-- Mirror: for_ocb.rt, an OCB judged by positions. It serves proofs, and OcbReads.antt proves what it finds.
use Rattle.std.specs.Prelude.{◌≡◌, Bool, true, false, List, ℕ, ◌+◌, ◌*◌, ◌/◌, ◌%◌, ◌≤◌, ◌<◌, eqb, ltb, leb, None}
use Rattle.std.proofs.Common.{arith}
use borrow.Author.Tests.{eq-eqb, ne_eqb, le-leb, lt-leb, le-ltb, lt-ltb}
use Rattle.std.specs.Int.Count.{ones}
use Rattle.bits.specs.Bits.{got}
use Rattle.layout.specs.Layout.{pick}
use Rattle.codes.specs.declared.Constellation.{Constellation}
use Rattle.codes.specs.declared.Constellation.TheVariants.{Gps, Glonass, Galileo, BeiDou, Qzss}
use Rattle.codes.specs.Tables.{mask_size, bias_size}
use Rattle.codes.specs.Sizes.{mask_word, bias-word}
use Rattle.quick.specs.Results.{Quick}
use Rattle.quick.specs.declared.behind.Behind.{Behind}
use Rattle.quick.specs.declared.for_ocb.Mask.{Mask}
use Rattle.quick.specs.Behind.{nowhere, to, after, repeated, without, reads_to}

-- the bits of the ephemeris type, and of the issue of data
abbrev pub ephemeris_width : Constellation → ℕ
ephemeris_width Gps = 2
ephemeris_width Glonass = 2
ephemeris_width Galileo = 3
ephemeris_width BeiDou = 4
ephemeris_width Qzss = 3

abbrev pub iode_width : Constellation → ℕ
iode_width Gps = 8
iode_width Glonass = 7
iode_width Galileo = 10
iode_width BeiDou = 8
iode_width Qzss = 8

-- the highest ephemeris type that has a meaning
abbrev pub last_type : Constellation → ℕ
last_type Gps = 0
last_type Glonass = 0
last_type Galileo = 2
last_type BeiDou = 5
last_type Qzss = 2

-- three codes of 14 bits, none all ones
unfoldable pub three_fit : ℕ → Bool
three_fit three =
    pick (eqb (three / 268435456) 16383) false (
    pick (eqb (three / 16384 % 16384) 16383) false (
    pick (eqb (three % 16384) 16383) false
    true))

unfoldable pub yaw_fits : ℕ → Bool
yaw_fits yaw = pick (leb yaw 59) true (eqb yaw 63)

unfoldable pub yaw_if : (present : ℕ) (payload : List ℕ) (pos at : ℕ) → Behind
yaw_if present payload pos at = pick (eqb present 1) (pick (yaw_fits (got payload pos 6)) (to (pos + 6) (at + 1)) nowhere) (to pos at)

unfoldable pub orbit_behind : Constellation → (yaw : ℕ) (payload : List ℕ) (pos at : ℕ) → Behind
orbit_behind constellation yaw payload pos at =
    pick (three_fit (got payload (pos + iode_width constellation) 42)) (yaw_if yaw payload (pos + iode_width constellation + 42) (at + 4)) nowhere

unfoldable pub clock_behind : (payload : List ℕ) (pos at : ℕ) → Behind
clock_behind payload pos at = pick (eqb (got payload (pos + 3) 14) 16383) nowhere (to (pos + 20) (at + 3))

unfoldable pub bias_mask : Constellation → (payload : List ℕ) (pos : ℕ) → Mask
bias_mask constellation payload pos =
    record {
      end = pos + 1 + bias_size constellation (got payload pos 1);
      set = ones (got payload (pos + 1) (bias_size constellation (got payload pos 1)));
    }

-- behind a mask
unfoldable pub phases_after : Mask → (payload : List ℕ) (at : ℕ) → Behind
phases_after mask payload at = pick (without payload 18 14 16383 mask.set (mask.end + 4)) (to (mask.end + 18 * mask.set) (at + 2 + 3 * mask.set)) nowhere

unfoldable pub codes_after : Mask → (payload : List ℕ) (at : ℕ) → Behind
codes_after mask payload at = pick (without payload 11 11 2047 mask.set mask.end) (to (mask.end + 11 * mask.set) (at + 2 + mask.set)) nowhere

unfoldable pub phases_behind : Constellation → (payload : List ℕ) (pos at : ℕ) → Behind
phases_behind constellation payload pos at = phases_after (bias_mask constellation payload pos) payload at

unfoldable pub codes_behind : Constellation → (payload : List ℕ) (pos at : ℕ) → Behind
codes_behind constellation payload pos at = codes_after (bias_mask constellation payload pos) payload at

-- the parts that SF014 may leave out
unfoldable pub bias_if : (present : ℕ) → Constellation → (payload : List ℕ) (pos at : ℕ) → Behind
bias_if present constellation payload pos at =
    pick (eqb (present % 2) 1) (after (phases_behind constellation payload pos at) (codes_behind constellation payload)) (to pos at)

unfoldable pub clock_if : (present : ℕ) (payload : List ℕ) (pos at : ℕ) → Behind
clock_if present payload pos at = pick (eqb (present / 2 % 2) 1) (clock_behind payload pos at) (to pos at)

unfoldable pub orbit_if : (present : ℕ) → Constellation → (yaw : ℕ) (payload : List ℕ) (pos at : ℕ) → Behind
orbit_if present constellation yaw payload pos at = pick (eqb (present / 4 % 2) 1) (orbit_behind constellation yaw payload pos at) (to pos at)

unfoldable pub blocks_behind : (present : ℕ) → Constellation → (yaw : ℕ) (payload : List ℕ) (pos at : ℕ) → Behind
blocks_behind present constellation yaw payload pos at =
    after (orbit_if present constellation yaw payload pos at) (λ p a. after (clock_if present payload p a) (bias_if present constellation payload))

unfoldable pub satellite_behind : Constellation → (yaw : ℕ) (payload : List ℕ) (pos at : ℕ) → Behind
satellite_behind constellation yaw payload pos at =
    pick (eqb (got payload pos 1) 1) (to (pos + 1) (at + 1)) (blocks_behind (got payload (pos + 1) 3) constellation yaw payload (pos + 7) (at + 3))

-- with a satellite mask of so many bits, from bit pos on
unfoldable pub ocb_by : Constellation → (payload : List ℕ) (pos width : ℕ) → Quick
ocb_by constellation payload pos width =
    pick (eqb (got payload pos width) 0) None
    (reads_to payload (repeated (satellite_behind constellation (got payload 11 1) payload) (ones (got payload pos width)) (pos + width) 8))

unfoldable pub ocb_of : Constellation → List ℕ → Quick
ocb_of constellation payload =
    pick (ltb (last_type constellation) (got payload 13 (ephemeris_width constellation))) None
    (ocb_by constellation payload (13 + ephemeris_width constellation + 2)
    (mask_size constellation (got payload (13 + ephemeris_width constellation) 2)))

-- ---- the returns of the code

module _ (three : ℕ) where
  pub three-first : three / 268435456 ≡ 16383 → false ≡ three_fit three
  unfolding three_fit
  three-first a = rw (eq-eqb (three / 268435456) 16383 a)

  pub three-second : (three / 268435456 ≡ 16383 → ⊥) → three / 16384 % 16384 ≡ 16383 → false ≡ three_fit three
  unfolding three_fit
  three-second a b = rw (ne_eqb (three / 268435456) 16383 a, eq-eqb (three / 16384 % 16384) 16383 b)

  pub three_third : (three / 268435456 ≡ 16383 → ⊥) → (three / 16384 % 16384 ≡ 16383 → ⊥) → three % 16384 ≡ 16383 → false ≡ three_fit three
  unfolding three_fit
  three_third a b c = rw (ne_eqb (three / 268435456) 16383 a, ne_eqb (three / 16384 % 16384) 16383 b, eq-eqb (three % 16384) 16383 c)

  pub three-all : (three / 268435456 ≡ 16383 → ⊥) → (three / 16384 % 16384 ≡ 16383 → ⊥) → (three % 16384 ≡ 16383 → ⊥) → true ≡ three_fit three
  unfolding three_fit
  three-all a b c = rw (ne_eqb (three / 268435456) 16383 a, ne_eqb (three / 16384 % 16384) 16383 b, ne_eqb (three % 16384) 16383 c)

module _ (yaw : ℕ) where
  pub yaw-low : yaw ≤ 59 → true ≡ yaw_fits yaw
  unfolding yaw_fits
  yaw-low h = rw (le-leb yaw 59 h)

  pub yaw-high : 59 < yaw → eqb yaw 63 ≡ yaw_fits yaw
  unfolding yaw_fits
  yaw-high h = rw (lt-leb yaw 59 h)

pub bias-small : (c : Constellation) (size r : ℕ) → r ≡ bias_size c size → (r ≡ bias_size c size) × (r ≤ 64)
bias-small c size r e = (e, omega (arith, (bias-word c size).most))

pub mask-small : (c : Constellation) (size r : ℕ) → r ≡ mask_size c size → (r ≡ mask_size c size) × (r ≤ 64)
mask-small c size r e = (e, omega (arith, (mask_word c size).most))

module _ (payload : List ℕ) (pos at : ℕ) where
  module _ (present : ℕ) where
    pub yaw-in : present ≡ 1 → (y : ℕ) → y ≡ got payload pos 6 → (t : Bool) → t ≡ yaw_fits y → t ≡ true → to (pos + 6) (at + 1) ≡ yaw_if present payload pos at
    unfolding yaw_if
    yaw-in p y q t f e = rw (eq-eqb present 1 p, ← q, ← f, e)

    pub yaw-out : present ≡ 1 → (y : ℕ) → y ≡ got payload pos 6 → (t : Bool) → t ≡ yaw_fits y → t ≡ false → (r : Behind) → r ≡ nowhere
        → r ≡ yaw_if present payload pos at
    unfolding yaw_if
    yaw-out p y q t f e r n = rw (eq-eqb present 1 p, ← q, ← f, e) n

    pub yaw-none : (present ≡ 1 → ⊥) → to pos at ≡ yaw_if present payload pos at
    unfolding yaw_if
    yaw-none p = rw (ne_eqb present 1 p)

    pub clock-none : (present / 2 % 2 ≡ 1 → ⊥) → to pos at ≡ clock_if present payload pos at
    unfolding clock_if
    clock-none p = rw (ne_eqb (present / 2 % 2) 1 p)

    pub clock-some : present / 2 % 2 ≡ 1 → (r : Behind) → r ≡ clock_behind payload pos at → r ≡ clock_if present payload pos at
    unfolding clock_if
    clock-some p r e = rw (eq-eqb (present / 2 % 2) 1 p) e

  pub clock-top : (x : ℕ) → x ≡ got payload (pos + 3) 14 → x ≡ 16383 → (r : Behind) → r ≡ nowhere → r ≡ clock_behind payload pos at
  unfolding clock_behind
  clock-top x q e r n = rw (← q, eq-eqb x 16383 e) n

  pub clock-in : (x : ℕ) → x ≡ got payload (pos + 3) 14 → (x ≡ 16383 → ⊥) → to (pos + 20) (at + 3) ≡ clock_behind payload pos at
  unfolding clock_behind
  clock-in x q e = rw (← q, ne_eqb x 16383 e)

  module _ (c : Constellation) where
    pub mask_is : (s : ℕ) → s ≡ got payload pos 1 → (w : ℕ) → w ≡ bias_size c s → (m : ℕ) → m ≡ got payload (pos + 1) w → (n : ℕ) → n ≡ ones m
        → record { end = pos + 1 + w; set = n } ≡ bias_mask c payload pos
    unfolding bias_mask
    mask_is s p w q m f n o = rw (← p, ← q, ← f, ← o)

    pub phases-in : (m : Mask) → m ≡ bias_mask c payload pos → (t : Bool) → t ≡ without payload 18 14 16383 m.set (m.end + 4) → t ≡ true
        → to (m.end + 18 * m.set) (at + 2 + 3 * m.set) ≡ phases_behind c payload pos at
    unfolding phases_behind phases_after
    phases-in m q t f e = rw (← q, ← f, e)

    pub phases-out : (m : Mask) → m ≡ bias_mask c payload pos → (t : Bool) → t ≡ without payload 18 14 16383 m.set (m.end + 4) → t ≡ false
        → (r : Behind) → r ≡ nowhere → r ≡ phases_behind c payload pos at
    unfolding phases_behind phases_after
    phases-out m q t f e r n = rw (← q, ← f, e) n

    pub codes-in : (m : Mask) → m ≡ bias_mask c payload pos → (t : Bool) → t ≡ without payload 11 11 2047 m.set m.end → t ≡ true
        → to (m.end + 11 * m.set) (at + 2 + m.set) ≡ codes_behind c payload pos at
    unfolding codes_behind codes_after
    codes-in m q t f e = rw (← q, ← f, e)

    pub codes-out : (m : Mask) → m ≡ bias_mask c payload pos → (t : Bool) → t ≡ without payload 11 11 2047 m.set m.end → t ≡ false
        → (r : Behind) → r ≡ nowhere → r ≡ codes_behind c payload pos at
    unfolding codes_behind codes_after
    codes-out m q t f e r n = rw (← q, ← f, e) n

    module _ (present : ℕ) where
      pub bias-none : (present % 2 ≡ 1 → ⊥) → to pos at ≡ bias_if present c payload pos at
      unfolding bias_if
      bias-none p = rw (ne_eqb (present % 2) 1 p)

      pub bias-stop : present % 2 ≡ 1 → (b : Behind) → b ≡ phases_behind c payload pos at → b.end ≡ 0 → (r : Behind) → r ≡ nowhere
          → r ≡ bias_if present c payload pos at
      unfolding bias_if
      bias-stop p b q e r n = rw (eq-eqb (present % 2) 1 p, ← q, eq-eqb b.end 0 e) n

      pub bias-on : present % 2 ≡ 1 → (b : Behind) → b ≡ phases_behind c payload pos at → (b.end ≡ 0 → ⊥)
          → (r : Behind) → r ≡ codes_behind c payload b.end b.entries → r ≡ bias_if present c payload pos at
      unfolding bias_if
      bias-on p b q e r n = rw (eq-eqb (present % 2) 1 p, ← q, ne_eqb b.end 0 e) n

    module _ (yaw : ℕ) where
      pub orbit-in : (w : ℕ) → w ≡ iode_width c → (x : ℕ) → x ≡ got payload (pos + w) 42 → (t : Bool) → t ≡ three_fit x → t ≡ true
          → (r : Behind) → r ≡ yaw_if yaw payload (pos + w + 42) (at + 4) → r ≡ orbit_behind c yaw payload pos at
      unfolding orbit_behind
      orbit-in w p x q t f e r n = rw (← p, ← q, ← f, e) n

      pub orbit-out : (w : ℕ) → w ≡ iode_width c → (x : ℕ) → x ≡ got payload (pos + w) 42 → (t : Bool) → t ≡ three_fit x → t ≡ false
          → (r : Behind) → r ≡ nowhere → r ≡ orbit_behind c yaw payload pos at
      unfolding orbit_behind
      orbit-out w p x q t f e r n = rw (← p, ← q, ← f, e) n

      module _ (present : ℕ) where
        pub orbit-none : (present / 4 % 2 ≡ 1 → ⊥) → to pos at ≡ orbit_if present c yaw payload pos at
        unfolding orbit_if
        orbit-none p = rw (ne_eqb (present / 4 % 2) 1 p)

        pub orbit-some : present / 4 % 2 ≡ 1 → (r : Behind) → r ≡ orbit_behind c yaw payload pos at → r ≡ orbit_if present c yaw payload pos at
        unfolding orbit_if
        orbit-some p r e = rw (eq-eqb (present / 4 % 2) 1 p) e

        module _ (b : Behind) (q : b ≡ orbit_if present c yaw payload pos at) where
          pub blocks-first : b.end ≡ 0 → (r : Behind) → r ≡ nowhere → r ≡ blocks_behind present c yaw payload pos at
          unfolding blocks_behind
          blocks-first e r n = rw (← q, eq-eqb b.end 0 e) n

          pub blocks-second : (b.end ≡ 0 → ⊥) → (d : Behind) → d ≡ clock_if present payload b.end b.entries → d.end ≡ 0
              → (r : Behind) → r ≡ nowhere → r ≡ blocks_behind present c yaw payload pos at
          unfolding blocks_behind
          blocks-second e d f g r n = rw (← q, ne_eqb b.end 0 e, ← f, eq-eqb d.end 0 g) n

          pub blocks-third : (b.end ≡ 0 → ⊥) → (d : Behind) → d ≡ clock_if present payload b.end b.entries → (d.end ≡ 0 → ⊥)
              → (r : Behind) → r ≡ bias_if present c payload d.end d.entries → r ≡ blocks_behind present c yaw payload pos at
          unfolding blocks_behind
          blocks-third e d f g r n = rw (← q, ne_eqb b.end 0 e, ← f, ne_eqb d.end 0 g) n

      pub satellite-off : (x : ℕ) → x ≡ got payload pos 1 → x ≡ 1 → to (pos + 1) (at + 1) ≡ satellite_behind c yaw payload pos at
      unfolding satellite_behind
      satellite-off x q e = rw (← q, eq-eqb x 1 e)

      pub satellite-on : (x : ℕ) → x ≡ got payload pos 1 → (x ≡ 1 → ⊥) → (y : ℕ) → y ≡ got payload (pos + 1) 3
          → (r : Behind) → r ≡ blocks_behind y c yaw payload (pos + 7) (at + 3) → r ≡ satellite_behind c yaw payload pos at
      unfolding satellite_behind
      satellite-on x q e y f r n = rw (← q, ne_eqb x 1 e, ← f) n

module _ (c : Constellation) (payload : List ℕ) (e : ℕ) (is : e ≡ ephemeris_width c) (x : ℕ) (k : x ≡ got payload 13 e) (t : ℕ) (l : t ≡ last_type c) where
  pub ocb-tbd : t < x → None ≡ ocb_of c payload
  unfolding ocb_of
  ocb-tbd h = rw (← is, ← k, ← l, lt-ltb t x h)

  module _ (i : x ≤ t) (s : ℕ) (p : s ≡ got payload (13 + e) 2) (w : ℕ) (q : w ≡ mask_size c s) (m : ℕ) (f : m ≡ got payload (13 + e + 2) w) where
    pub ocb-empty : m ≡ 0 → None ≡ ocb_of c payload
    unfolding ocb_of ocb_by
    ocb-empty z = rw (← is, ← k, ← l, le-ltb t x i, ← p, ← q, ← f, eq-eqb m 0 z)

    pub ocb-on : (m ≡ 0 → ⊥) → (y : ℕ) → y ≡ got payload 11 1 → (n : ℕ) → n ≡ ones m
        → (d : Behind) → d ≡ repeated (satellite_behind c y payload) n (13 + e + 2 + w) 8 → (r : Quick) → r ≡ reads_to payload d → r ≡ ocb_of c payload
    unfolding ocb_of ocb_by
    ocb-on z y g n o d h r u = rw (← is, ← k, ← l, le-ltb t x i, ← p, ← q, ← f, ne_eqb m 0 z, ← g, ← o, ← h) u
