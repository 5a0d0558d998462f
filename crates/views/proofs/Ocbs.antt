-- What the functions of satellites.rt find at the places of an OCB sheet: one lemma for each answer and each turn, worded as the code makes its tests.
use Rattle.std.specs.Prelude.{Ok, Err, Some, None}
use mathlib.Core.Path.{◌≡◌, refl, ap, ap₂, sym, ◌∙◌, subst}
use mathlib.Core.Bool.{true, false}
use mathlib.Core.List.{List, [], ◌∷◌}
use Prim.Native.Nat.{ℕ, zero, suc, ◌+◌, ◌-◌, ◌*◌, ◌/◌, ◌%◌, ◌≤◌, ◌<◌}
use native.Mathlib.Omega.{arith}
use borrow.Author.Tests.{eq-eqb, ne_eqb, lt-ltb}
use lib.Count.{ones}
use lib.Dec.{eqb}
use lib.Ieee.{Float}
use lib.ListN.{length, get_or}
use Rattle.answer.specs.Place.{nowhere}
use Rattle.answer.specs.declared.Refusal.TheVariants as refusal
use Rattle.codes.specs.declared.Constellation.{Constellation}
use Rattle.codes.specs.Fields.{satellites_of, satellite_at}
use Rattle.layout.specs.Layout.{Layout, done}
use Rattle.layout.specs.Parts.{each}
use Rattle.layout.specs.Holds.{Holds}
use Rattle.layout.specs.Reaches.{holds-inside, reaches-holds, many_end, many_of, length-many}
use Rattle.message.specs.Messages.{Message, ocb_message}
use Rattle.ocb.specs.Ocb as ocb
use Rattle.values.specs.declared.Yaw.{Yaw}
use Rattle.values.specs.declared.Yaw.TheVariants as yaws
use Rattle.views.specs.Units.{in_unit, yaw_in}
use Rattle.views.specs.Satellites.{orbit_view, yaw_view, clock_view, bias_places, bias_view, satellite_view, nth_from, nth}
use Rattle.views.specs.SatellitePlaces.{orbit_of, clock_start, clock_of, bias_start, bias_at, bias_of, phases_at, code_mask_at, codes_at, state_at, satellite_from, satellite_end, numbers_in, body_of, phase_at, reaches-satellite, reaches-satellites, satellites-in, Listed, Seats}
use Rattle.views.specs.Results.{OrbitBlock}
use Rattle.views.specs.Results.{ClockBlock}
use Rattle.views.specs.Results.{BiasBlock}
use Rattle.views.specs.declared.satellites.Biases.{Biases}
use Rattle.views.specs.declared.satellites.Satellite.{Satellite}
use Rattle.views.specs.declared.satellites.Satellite.TheVariants.{OutOfUse, InUse}

-- ---- the blocks, by SF014

module _ (sheet : List ℕ) (yaw at p : ℕ) (c : p ≡ get_or sheet (at + 1) 0) where
  orbit-there : p / 4 % 2 ≡ 1 → eqb (get_or sheet (at + 1) 0 / 4 % 2) 1 ≡ true
  orbit-there f = eq-eqb (get_or sheet (at + 1) 0 / 4 % 2) 1 (ap (λ x. x / 4 % 2) (sym c) ∙ f)

  orbit-not : (p / 4 % 2 ≡ 1 → ⊥) → eqb (get_or sheet (at + 1) 0 / 4 % 2) 1 ≡ false
  orbit-not f = ne_eqb (get_or sheet (at + 1) 0 / 4 % 2) 1 (λ e. f (ap (λ x. x / 4 % 2) c ∙ e))

  clock-there : p / 2 % 2 ≡ 1 → eqb (get_or sheet (at + 1) 0 / 2 % 2) 1 ≡ true
  clock-there f = eq-eqb (get_or sheet (at + 1) 0 / 2 % 2) 1 (ap (λ x. x / 2 % 2) (sym c) ∙ f)

  clock-not : (p / 2 % 2 ≡ 1 → ⊥) → eqb (get_or sheet (at + 1) 0 / 2 % 2) 1 ≡ false
  clock-not f = ne_eqb (get_or sheet (at + 1) 0 / 2 % 2) 1 (λ e. f (ap (λ x. x / 2 % 2) c ∙ e))

  bias-there : p % 2 ≡ 1 → eqb (get_or sheet (at + 1) 0 % 2) 1 ≡ true
  bias-there f = eq-eqb (get_or sheet (at + 1) 0 % 2) 1 (ap (λ x. x % 2) (sym c) ∙ f)

  bias-not : (p % 2 ≡ 1 → ⊥) → eqb (get_or sheet (at + 1) 0 % 2) 1 ≡ false
  bias-not f = ne_eqb (get_or sheet (at + 1) 0 % 2) 1 (λ e. f (ap (λ x. x % 2) c ∙ e))

  pub start-yaw : p / 4 % 2 ≡ 1 → yaw ≡ 1 → at + 8 ≡ clock_start sheet yaw at
  start-yaw f y = rw (orbit-there f, eq-eqb yaw 1 y)

  pub start-orbit : p / 4 % 2 ≡ 1 → (yaw ≡ 1 → ⊥) → at + 7 ≡ clock_start sheet yaw at
  start-orbit f y = rw (orbit-there f, ne_eqb yaw 1 y)

  pub start_none : (p / 4 % 2 ≡ 1 → ⊥) → at + 3 ≡ clock_start sheet yaw at
  start_none f = rw (orbit-not f)

  module _ (start : ℕ) (s : start ≡ clock_start sheet yaw at) where
    pub bias-clock : p / 2 % 2 ≡ 1 → start + 3 ≡ bias_start sheet yaw at
    bias-clock f = rw (clock-there f) (omega arith)

    pub bias-straight : (p / 2 % 2 ≡ 1 → ⊥) → start ≡ bias_start sheet yaw at
    bias-straight f = rw (clock-not f) (omega arith)

    pub clock-is : p / 2 % 2 ≡ 1 → (x y z : ℕ) (v : Float) → x ≡ get_or sheet (start + 1) 0 → v ≡ in_unit 20 x → y ≡ get_or sheet start 0 → z ≡ get_or sheet (start + 2) 0
        → Some (y, v, z) ≡ clock_view (clock_of sheet yaw at)
    clock-is f x y z v ex ev ey ez =
        rw (clock-there f) (ap₂ (λ (a : ℕ) (b : Float). Some (a, b, z)) ey (ev ∙ ap (in_unit 20) ex)
        ∙ ap (λ a. Some (get_or sheet start 0, in_unit 20 (get_or sheet (start + 1) 0), a)) ez
        ∙ ap (λ (a : ℕ). Some (get_or sheet a 0, in_unit 20 (get_or sheet (a + 1) 0), get_or sheet (a + 2) 0)) s)

    pub clock-none : (p / 2 % 2 ≡ 1 → ⊥) → None ≡ clock_view (clock_of sheet yaw at)
    clock-none f = rw (clock-not f)

  pub orbit-none : (p / 4 % 2 ≡ 1 → ⊥) → None ≡ orbit_view (orbit_of sheet yaw at)
  orbit-none f = rw (orbit-not f)

  pub yaw-none : (p / 4 % 2 ≡ 1 → ⊥) → yaws.Absent ≡ yaw_view (orbit_of sheet yaw at)
  yaw-none f = rw (orbit-not f)

  pub yaw-unsent : p / 4 % 2 ≡ 1 → (yaw ≡ 1 → ⊥) → yaws.Absent ≡ yaw_view (orbit_of sheet yaw at)
  yaw-unsent f y = rw (orbit-there f, ne_eqb yaw 1 y)

  pub yaw-sent : p / 4 % 2 ≡ 1 → yaw ≡ 1 → (x : ℕ) (v : Yaw) → x ≡ get_or sheet (at + 7) 0 → v ≡ yaw_in x → v ≡ yaw_view (orbit_of sheet yaw at)
  yaw-sent f y x v e q =
      let place : at + 7 ≡ at + 3 + 4 = omega arith in
      rw (orbit-there f, eq-eqb yaw 1 y) (q ∙ ap yaw_in (e ∙ ap (λ a. get_or sheet a 0) place))

  pub orbit-is : p / 4 % 2 ≡ 1 → (i x y z : ℕ) (u v w : Float) → i ≡ get_or sheet (at + 3) 0
      → x ≡ get_or sheet (at + 4) 0 → u ≡ in_unit 20 x → y ≡ get_or sheet (at + 5) 0 → v ≡ in_unit 20 y → z ≡ get_or sheet (at + 6) 0 → w ≡ in_unit 20 z
      → Some (i, record { radial = u; along_track = v; cross_track = w }) ≡ orbit_view (orbit_of sheet yaw at)
  orbit-is f i x y z u v w ei ex eu ey ev ez ew =
      let a4 : at + 4 ≡ at + 3 + 1 = omega arith in
      let a5 : at + 5 ≡ at + 3 + 2 = omega arith in
      let a6 : at + 6 ≡ at + 3 + 3 = omega arith in
      let bu : u ≡ in_unit 20 (get_or sheet (at + 3 + 1) 0) = eu ∙ ap (in_unit 20) (ex ∙ ap (λ a. get_or sheet a 0) a4) in
      let bv : v ≡ in_unit 20 (get_or sheet (at + 3 + 2) 0) = ev ∙ ap (in_unit 20) (ey ∙ ap (λ a. get_or sheet a 0) a5) in
      let bw : w ≡ in_unit 20 (get_or sheet (at + 3 + 3) 0) = ew ∙ ap (in_unit 20) (ez ∙ ap (λ a. get_or sheet a 0) a6) in
      rw (orbit-there f, bu, bv, bw, ei)

  module _ (start : ℕ) (s : start ≡ bias_start sheet yaw at) where
    pub bias-is : p % 2 ≡ 1 → (b : Biases) → b ≡ bias_places start (bias_at sheet start)
        → Some b ≡ bias_view (bias_start sheet yaw at) (bias_of sheet yaw at)
    bias-is f b e = rw (bias-there f) (ap Some (e ∙ ap (λ x. bias_places x (bias_at sheet x)) s))

    pub bias-none : (p % 2 ≡ 1 → ⊥) → None ≡ bias_view (bias_start sheet yaw at) (bias_of sheet yaw at)
    bias-none f = rw (bias-not f)

    module _ (x : ℕ) (q : x ≡ get_or sheet at 0) (used : x ≡ 1 → ⊥) where
      in_use : eqb (get_or sheet at 0) 1 ≡ false
      in_use = ne_eqb (get_or sheet at 0) 1 (λ e. used (q ∙ e))

      pub end-straight : (p % 2 ≡ 1 → ⊥) → start ≡ satellite_end sheet yaw at
      end-straight f = rw (in_use, bias-not f) (s ∙ omega arith)

      pub end-biases : p % 2 ≡ 1 → (b : Biases) → b ≡ bias_places start (bias_at sheet start) → b.codes_at + b.codes ≡ satellite_end sheet yaw at
      end-biases f b e =
          let r : b ≡ bias_places (bias_start sheet yaw at) (bias_at sheet (bias_start sheet yaw at)) = e ∙ ap (λ x. bias_places x (bias_at sheet x)) s in
          ap (λ (b : Biases). b.codes_at + b.codes) r ∙ rw (in_use, bias-there f) (omega arith)

-- ---- a satellite

module _ (sheet : List ℕ) (yaw at x : ℕ) (q : x ≡ get_or sheet at 0) where
  pub end-unused : x ≡ 1 → at + 1 ≡ satellite_end sheet yaw at
  end-unused e = rw (eq-eqb (get_or sheet at 0) 1 (sym q ∙ e))

  pub satellite-unused : x ≡ 1 → OutOfUse ≡ satellite_view at (state_at sheet yaw at)
  satellite-unused e = rw (eq-eqb (get_or sheet at 0) 1 (sym q ∙ e))

  pub satellite-used : (x ≡ 1 → ⊥) → (i : ℕ) (o : OrbitBlock) (y : Yaw) (k : ClockBlock) (b : BiasBlock) → i ≡ get_or sheet (at + 2) 0
      → o ≡ orbit_view (orbit_of sheet yaw at) → y ≡ yaw_view (orbit_of sheet yaw at) → k ≡ clock_view (clock_of sheet yaw at)
      → b ≡ bias_view (bias_start sheet yaw at) (bias_of sheet yaw at)
      → InUse (record { continuity = i; orbit = o; yaw = y; clock = k; bias = b }) ≡ satellite_view at (state_at sheet yaw at)
  satellite-used e i o y k b ei eo ey ek eb = rw (ne_eqb (get_or sheet at 0) 1 (λ z. e (q ∙ z)), ei, eo, ey, ek, eb)

-- ---- the biases

pub biases-are : (sheet : List ℕ) (start e n e' m : ℕ) → e ≡ get_or sheet (start + 1) 0 → n ≡ ones e → e' ≡ get_or sheet (start + 2 + 3 * n + 1) 0 → m ≡ ones e'
    → record { phases_at = start + 2; phases = n; codes_at = start + 2 + 3 * n + 2; codes = m } ≡ bias_places start (bias_at sheet start)
biases-are sheet start e n e' m p q r s =
    let a : n ≡ phases_at sheet start = q ∙ ap ones p in
    let place : start + 2 + 3 * n + 1 ≡ code_mask_at sheet start + 1 = omega arith in
    let b : m ≡ codes_at sheet start = s ∙ ap ones (r ∙ ap (λ x. get_or sheet x 0) place) in
    let ns : n ≡ length (bias_at sheet start).phases = a ∙ sym (length-many (phase_at sheet) (λ x. x + 3) (phases_at sheet start) (start + 2)) in
    let bs : m ≡ length (bias_at sheet start).codes = b ∙ sym (length-many (λ x. get_or sheet x 0) (λ x. x + 1) (codes_at sheet start) (code_mask_at sheet start + 2)) in
    let c : start + 2 + 3 * n + 2 ≡ start + (4 + 3 * n) = omega arith in
    ap (λ (x : ℕ). record { phases_at = start + 2; phases = n; codes_at = x; codes = m }) c
    ∙ ap₂ (λ (x y : ℕ). record { phases_at = start + 2; phases = x; codes_at = start + (4 + 3 * x); codes = y }) ns bs

-- ---- from satellite to satellite

-- at the loop's head: so many satellites are still to be passed, and there are more than that
pub record Passing (sheet : List ℕ) (yaw place left at : ℕ) : Type 0 where
  pub constellation : Constellation
  pub numbers : List ℕ
  pub after : List ocb.Satellite → Layout Message
  pub few : left < length numbers
  pub holds : Holds (each numbers (ocb.satellite constellation yaw) after) sheet at
  pub same : many_end (satellite_end sheet yaw) left at ≡ many_end (satellite_end sheet yaw) place 8

pub pass-first : (sheet : List ℕ) (yaw place : ℕ) → Seats sheet yaw place → Passing sheet yaw place place 8
pass-first sheet yaw place s =
    let c : Constellation = s.constellation in
    subst (λ y. Passing sheet y place place 8) (sym s.flag) (record {
      constellation = c;
      numbers = numbers_in sheet c;
      after = λ satellites. done (ocb_message c (body_of sheet satellites));
      few = s.inside;
      holds = reaches-holds (reaches-satellites c (λ body. done (ocb_message c body))) s.listed.holds;
      same = refl;
    })

module _ (sheet : List ℕ) (yaw place left at : ℕ) (p : Passing sheet yaw place left at) where
  pub pass-inside : at ≤ length sheet
  pass-inside = holds-inside (each p.numbers (ocb.satellite p.constellation yaw) p.after) sheet at p.holds

  pub pass-last : left ≤ 0 → at ≡ many_end (satellite_end sheet yaw) place 8
  pass-last h = let z : left ≡ 0 = omega arith in ap (λ n. many_end (satellite_end sheet yaw) n at) (sym z) ∙ p.same

  pub pass_on : 0 < left → (to : ℕ) → to ≡ satellite_end sheet yaw at → Passing sheet yaw place (left - 1) to
  pass_on h to e = go p.constellation p.numbers p.after p.few p.holds
    where
      go : (c : Constellation) (ms : List ℕ) (k : List ocb.Satellite → Layout Message) → left < length ms
          → Holds (each ms (ocb.satellite c yaw) k) sheet at → Passing sheet yaw place (left - 1) to
      go c [] k few hs = absurd (omega arith)
      go c (m ∷ ms) k few hs =
          let one : left ≡ suc (left - 1) = omega arith in
          let k' : List ocb.Satellite → Layout Message = λ xs. k (satellite_from sheet yaw m at ∷ xs) in
          subst (λ x. Passing sheet yaw place (left - 1) x) (sym e) (record {
            constellation = c;
            numbers = ms;
            after = k';
            few = omega arith;
            holds = reaches-holds (reaches-satellite c yaw m (λ x. each ms (ocb.satellite c yaw) (λ xs. k (x ∷ xs))) at) hs;
            same = ap (λ n. many_end (satellite_end sheet yaw) n at) (sym one) ∙ p.same;
          })

-- ---- the satellite at a place

module _ (sheet : List ℕ) (yaw : ℕ) where
  nth_past : (ms : List ℕ) (at place : ℕ) → length ms ≤ place
      → nth_from at (many_of (satellite_from sheet yaw) (satellite_end sheet yaw) ms at) place ≡ Err (nowhere refusal.Field)
  unfolding nth_from
  nth_past [] at place h = refl
  nth_past (m ∷ ms) at zero h = absurd (omega arith)
  nth_past (m ∷ ms) at (suc place) h = nth_past ms (satellite_end sheet yaw at) place (omega arith)

  nth-there : (ms : List ℕ) (at place : ℕ) → place < length ms
      → nth_from at (many_of (satellite_from sheet yaw) (satellite_end sheet yaw) ms at) place
      ≡ Ok (get_or ms place 0, satellite_view (many_end (satellite_end sheet yaw) place at) (state_at sheet yaw (many_end (satellite_end sheet yaw) place at)))
  unfolding nth_from
  nth-there [] at place h = absurd (omega arith)
  nth-there (m ∷ ms) at zero h = refl
  nth-there (m ∷ ms) at (suc place) h = nth-there ms (satellite_end sheet yaw at) place (omega arith)

module _ (c : Constellation) (sheet : List ℕ) (place size mask count : ℕ) (es : size ≡ get_or sheet 6 0) (em : mask ≡ get_or sheet 7 0)
    (ec : count ≡ length (satellites_of c size mask)) where
  numbers-are : satellites_of c size mask ≡ numbers_in sheet c
  numbers-are = ap₂ (satellites_of c) es em

  count-are : count ≡ length (numbers_in sheet c)
  count-are = ec ∙ ap length numbers-are

  pub nth-field : count ≤ place → Err (nowhere refusal.Field) ≡ nth c sheet place
  nth-field h =
      let n : count ≡ length (numbers_in sheet c) = count-are in
      sym (ap (λ ss. nth_from 8 ss place) (satellites-in c sheet) ∙ nth_past sheet (get_or sheet 3 0) (numbers_in sheet c) 8 place (omega arith))

  module _ (inside : place < count) (yaw : ℕ) (ey : yaw ≡ get_or sheet 3 0) where
    pub nth-seats : Listed c sheet → Seats sheet yaw place
    nth-seats h =
        let n : count ≡ length (numbers_in sheet c) = count-are in
        record { constellation = c; listed = h; flag = ey; inside = omega arith }

    pub nth-is : (number at : ℕ) (s : Satellite) → number ≡ satellite_at (satellites_of c size mask) (count - 1 - place)
        → at ≡ many_end (satellite_end sheet yaw) place 8 → s ≡ satellite_view at (state_at sheet yaw at) → Ok (number, s) ≡ nth c sheet place
    nth-is number at s en ea ev =
        let n : count ≡ length (numbers_in sheet c) = count-are in
        let ms : List ℕ = numbers_in sheet c in
        let less : count - 1 - place < length ms = omega arith in
        let back : length ms - 1 - (count - 1 - place) ≡ place = omega arith in
        let num : number ≡ get_or ms place 0
        = en ∙ ap (λ l. satellite_at l (count - 1 - place)) numbers-are ∙ rw (lt-ltb (count - 1 - place) (length ms) less, back) in
        let sat : s ≡ satellite_view (many_end (satellite_end sheet (get_or sheet 3 0)) place 8) (state_at sheet (get_or sheet 3 0) (many_end (satellite_end sheet (get_or sheet 3 0)) place 8))
        = ev ∙ ap (λ x. satellite_view x (state_at sheet yaw x)) ea
        ∙ ap (λ y. satellite_view (many_end (satellite_end sheet y) place 8) (state_at sheet y (many_end (satellite_end sheet y) place 8))) ey in
        ap₂ (λ (x : ℕ) (y : Satellite). Ok (x, y)) num sat ∙ sym (ap (λ ss. nth_from 8 ss place) (satellites-in c sheet) ∙ nth-there sheet (get_or sheet 3 0) ms 8 place (omega arith))
