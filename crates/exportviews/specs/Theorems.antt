-- Theorems on views as numbers and floats: a refusal writes nothing; and nothing of a view is lost, since two areas or two satellites that are told alike are the
-- same. Proved; assumes nothing.
use Rattle.std.specs.Prelude.{◌≡◌, refl, Bool, true, false, cond, List, [], ℕ, ltb, Float, length, get_or, Ok, Err, Some, None}
use Rattle.std.proofs.Common.{ap, arith}
use Rattle.values.specs.declared.Orbit.{Orbit}
use Rattle.values.specs.declared.Yaw.{Yaw}
use Rattle.values.specs.declared.Yaw.TheVariants as yaw
use Rattle.views.specs.declared.gadarea.GadArea.{GadArea}
use Rattle.views.specs.Results.{GadAnswer}
use Rattle.views.specs.declared.hpacarea.HpacArea.{HpacArea}
use Rattle.views.specs.Results.{HpacAnswer}
use Rattle.views.specs.declared.bpacarea.BpacArea.{BpacArea}
use Rattle.views.specs.Results.{BpacAnswer}
use Rattle.views.specs.Results.{OrbitBlock}
use Rattle.views.specs.Results.{ClockBlock}
use Rattle.views.specs.Results.{BiasBlock}
use Rattle.views.specs.declared.satellites.Biases.{Biases}
use Rattle.views.specs.declared.satellites.Blocks.{Blocks}
use Rattle.views.specs.declared.satellites.Satellite.{Satellite}
use Rattle.views.specs.declared.satellites.Satellite.TheVariants.{OutOfUse, InUse}
use Rattle.views.specs.Results.{SatelliteAnswer}
use Rattle.export.specs.Numbers as export
use Rattle.export.specs.Numbers.{room, room_for, laid, answered, lent_after}
use Rattle.exportviews.specs.Views.{Told, none, rooms, number_told, view_after, floats_after}
use Rattle.exportviews.specs.Areas.{gad_numbers_of, gad_floats_of, told_gad, hpac_numbers_of, told_hpac, bpac_numbers_of, bpac_floats_of, told_bpac}
use Rattle.exportviews.specs.Satellites.{has_orbit, iode_of, orbit_of, yaw_is, yaw_of, has_clock, clock_continuity, clock_of, clock_error, has_biases, biases_of, blocks_numbers, blocks_floats, use_numbers, use_floats, told_satellite}

-- ---- "A refusal .. alters no lent byte or entry": with a number other than 0 both slices are as lent

-- nothing is told beside a number other than 0
abbrev pub Quiet : Told → Type 0
Quiet told = (told.number ≡ 0 → ⊥) → (told.numbers ≡ []) × (told.floats ≡ [])

pub gad-quiet : (a : GadAnswer) → Quiet (told_gad a)
unfolding told_gad
gad-quiet (Ok (Some area)) h = absurd (h refl)
gad-quiet (Ok None) h = absurd (h refl)
gad-quiet (Err why) h = (refl, refl)

pub bpac-quiet : (a : BpacAnswer) → Quiet (told_bpac a)
unfolding told_bpac
bpac-quiet (Ok (Some area)) h = absurd (h refl)
bpac-quiet (Ok None) h = absurd (h refl)
bpac-quiet (Err why) h = (refl, refl)

pub satellite-quiet : (a : SatelliteAnswer) → Quiet (told_satellite a)
unfolding told_satellite
satellite-quiet (Ok (number, satellite)) h = absurd (h refl)
satellite-quiet (Err why) h = (refl, refl)

pub refusal-leaves : (m : ℕ) (view : List ℕ) (n : ℕ) (floats : List Float) (told : Told) → Quiet told
    → (number_told m view n floats told ≡ 0 → ⊥) → (view_after m view n floats told ≡ view) × (floats_after m view n floats told ≡ floats)
unfolding number_told view_after floats_after rooms room_for laid
refusal-leaves m view n floats told q h = go (ltb (length view) m) (ltb (length floats) n) h
  where
    both : (told.numbers ≡ []) × (told.floats ≡ []) → (laid told.numbers view ≡ view) × (laid told.floats floats ≡ floats)
    both (e, f) = (rw e refl, rw f refl)

    go : (a b : Bool) → (cond a room (cond b room told.number) ≡ 0 → ⊥)
        → (cond a view (cond b view (laid told.numbers view)) ≡ view) × (cond a floats (cond b floats (laid told.floats floats)) ≡ floats)
    go true b h = (refl, refl)
    go false true h = (refl, refl)
    go false false h = both (q h)

-- the same of a call that tells no floats
abbrev pub QuietNumbers : export.Told → Type 0
QuietNumbers told = (told.number ≡ 0 → ⊥) → told.numbers ≡ []

pub hpac-quiet : (a : HpacAnswer) → QuietNumbers (told_hpac a)
unfolding told_hpac
hpac-quiet (Ok (Some area)) h = absurd (h refl)
hpac-quiet (Ok None) h = absurd (h refl)
hpac-quiet (Err why) h = refl

pub lent-leaves : (m : ℕ) (lent : List ℕ) (told : export.Told) → QuietNumbers told → (answered m lent told ≡ 0 → ⊥) → lent_after m lent told ≡ lent
unfolding answered lent_after room_for laid
lent-leaves m lent told q h = go (ltb (length lent) m) h
  where
    go : (b : Bool) → (cond b room told.number ≡ 0 → ⊥) → cond b lent (laid told.numbers lent) ≡ lent
    go true h = refl
    go false h = rw (q h) refl

pub hpac-refusal-leaves : (m : ℕ) (view : List ℕ) (a : HpacAnswer) → (answered m view (told_hpac a) ≡ 0 → ⊥) → lent_after m view (told_hpac a) ≡ view
hpac-refusal-leaves m view a h = lent-leaves m view (told_hpac a) (hpac-quiet a) h

-- ---- two areas that are told alike are the same

pub at : {l r : List ℕ} → l ≡ r → (i : ℕ) → get_or l i 0 ≡ get_or r i 0
at e i = ap (λ (l : List ℕ). get_or l i 0) e

pub float_at : {l r : List Float} → l ≡ r → (i : ℕ) → get_or l i none ≡ get_or r i none
float_at e i = ap (λ (l : List Float). get_or l i none) e

gad-same : {a a' b b' c c' d d' : Float} {m m' n n' : ℕ} → a ≡ a' → b ≡ b' → m ≡ m' → n ≡ n' → c ≡ c' → d ≡ d'
    → ◌≡◌ {A = GadArea} (record { latitude = a; longitude = b; rows = m; columns = n; latitude_spacing = c; longitude_spacing = d })
    (record { latitude = a'; longitude = b'; rows = m'; columns = n'; latitude_spacing = c'; longitude_spacing = d' })
gad-same p q r s t u = cc

pub gad-whole : (a b : GadArea) → gad_numbers_of a ≡ gad_numbers_of b → gad_floats_of a ≡ gad_floats_of b → a ≡ b
unfolding gad_numbers_of gad_floats_of
gad-whole a b e f = gad-same (float_at f 0) (float_at f 1) (at e 1) (at e 2) (float_at f 2) (float_at f 3)

hpac-same : {l l' m m' n n' o o' : ℕ} → l ≡ l' → m ≡ m' → n ≡ n' → o ≡ o'
    → ◌≡◌ {A = HpacArea} (record { start = l; points = m; troposphere_blocks = n; ionosphere_blocks = o })
    (record { start = l'; points = m'; troposphere_blocks = n'; ionosphere_blocks = o' })
hpac-same p q r s = cc

pub hpac-whole : (a b : HpacArea) → hpac_numbers_of a ≡ hpac_numbers_of b → a ≡ b
unfolding hpac_numbers_of
hpac-whole a b e = hpac-same (at e 1) (at e 2) (at e 3) (at e 4)

bpac-same : {l l' m m' n n' : ℕ} {a a' b b' c c' d d' g g' : Float} → l ≡ l' → a ≡ a' → b ≡ b' → m ≡ m' → n ≡ n' → c ≡ c' → d ≡ d' → g ≡ g'
    → ◌≡◌ {A = BpacArea} (record { start = l; latitude = a; longitude = b; rows = m; columns = n; latitude_spacing = c; longitude_spacing = d; average = g })
    (record { start = l'; latitude = a'; longitude = b'; rows = m'; columns = n'; latitude_spacing = c'; longitude_spacing = d'; average = g' })
bpac-same p q r s t u v w = cc

pub bpac-whole : (a b : BpacArea) → bpac_numbers_of a ≡ bpac_numbers_of b → bpac_floats_of a ≡ bpac_floats_of b → a ≡ b
unfolding bpac_numbers_of bpac_floats_of
bpac-whole a b e f = bpac-same (at e 1) (float_at f 0) (float_at f 1) (at e 2) (at e 3) (float_at f 2) (float_at f 3) (float_at f 4)

-- ---- two satellites that are told alike are the same

orbit-whole : (a b : OrbitBlock) → has_orbit a ≡ has_orbit b → iode_of a ≡ iode_of b → orbit_of a ≡ orbit_of b → a ≡ b
orbit-whole None None h e f = refl
orbit-whole None (Some (j, y)) h e f = absurd (omega arith)
orbit-whole (Some (i, x)) None h e f = absurd (omega arith)
orbit-whole (Some (i, x)) (Some (j, y)) h e f = cc

yaw-whole : (a b : Yaw) → yaw_is a ≡ yaw_is b → yaw_of a ≡ yaw_of b → a ≡ b
yaw-whole yaw.Absent yaw.Absent h e = refl
yaw-whole yaw.Absent yaw.Invalid h e = absurd (omega arith)
yaw-whole yaw.Absent (yaw.Degrees y) h e = absurd (omega arith)
yaw-whole yaw.Invalid yaw.Absent h e = absurd (omega arith)
yaw-whole yaw.Invalid yaw.Invalid h e = refl
yaw-whole yaw.Invalid (yaw.Degrees y) h e = absurd (omega arith)
yaw-whole (yaw.Degrees x) yaw.Absent h e = absurd (omega arith)
yaw-whole (yaw.Degrees x) yaw.Invalid h e = absurd (omega arith)
yaw-whole (yaw.Degrees x) (yaw.Degrees y) h e = cc

clock-whole : (a b : ClockBlock) → has_clock a ≡ has_clock b → clock_continuity a ≡ clock_continuity b → clock_of a ≡ clock_of b → clock_error a ≡ clock_error b → a ≡ b
clock-whole None None h e f g = refl
clock-whole None (Some (k, y, n)) h e f g = absurd (omega arith)
clock-whole (Some (c, x, m)) None h e f g = absurd (omega arith)
clock-whole (Some (c, x, m)) (Some (k, y, n)) h e f g = cc

bias-whole : (a b : BiasBlock) → has_biases a ≡ has_biases b → biases_of a ≡ biases_of b → a ≡ b
bias-whole None None h e = refl
bias-whole None (Some y) h e = absurd (omega arith)
bias-whole (Some x) None h e = absurd (omega arith)
bias-whole (Some x) (Some y) h e = cc

corrections-same : {a a' b b' c c' : Float} → a ≡ a' → b ≡ b' → c ≡ c'
    → ◌≡◌ {A = Orbit} (record { radial = a; along_track = b; cross_track = c }) (record { radial = a'; along_track = b'; cross_track = c' })
corrections-same p q r = cc

biases-same : {l l' m m' n n' o o' : ℕ} → l ≡ l' → m ≡ m' → n ≡ n' → o ≡ o'
    → ◌≡◌ {A = Biases} (record { phases_at = l; phases = m; codes_at = n; codes = o }) (record { phases_at = l'; phases = m'; codes_at = n'; codes = o' })
biases-same p q r s = cc

blocks-same : {m m' : ℕ} {o o' : OrbitBlock} {y y' : Yaw} {k k' : ClockBlock} {d d' : BiasBlock} → m ≡ m' → o ≡ o' → y ≡ y' → k ≡ k' → d ≡ d'
    → ◌≡◌ {A = Blocks} (record { continuity = m; orbit = o; yaw = y; clock = k; bias = d }) (record { continuity = m'; orbit = o'; yaw = y'; clock = k'; bias = d' })
blocks-same p q r s t = cc

blocks-whole : (i j : ℕ) (a b : Blocks) → blocks_numbers i a ≡ blocks_numbers j b → blocks_floats a ≡ blocks_floats b → a ≡ b
unfolding blocks_numbers blocks_floats
blocks-whole i j a b e f =
    blocks-same (at e 2)
    (orbit-whole a.orbit b.orbit (at e 3) (at e 4) (corrections-same (float_at f 0) (float_at f 1) (float_at f 2)))
    (yaw-whole a.yaw b.yaw (at e 5) (float_at f 3))
    (clock-whole a.clock b.clock (at e 6) (at e 7) (float_at f 4) (at e 8))
    (bias-whole a.bias b.bias (at e 9) (biases-same (at e 10) (at e 11) (at e 12) (at e 13)))

pub satellite-whole : (i j : ℕ) (a b : Satellite) → use_numbers i a ≡ use_numbers j b → use_floats a ≡ use_floats b → (i ≡ j) × (a ≡ b)
unfolding use_numbers use_floats blocks_numbers
satellite-whole i j OutOfUse OutOfUse e f = (at e 0, refl)
satellite-whole i j OutOfUse (InUse b) e f = let z : ◌≡◌ {A = ℕ} 0 1 = at e 1 in absurd (omega arith)
satellite-whole i j (InUse a) OutOfUse e f = let z : ◌≡◌ {A = ℕ} 1 0 = at e 1 in absurd (omega arith)
satellite-whole i j (InUse a) (InUse b) e f = (at e 0, ap InUse (blocks-whole i j a b e f))
