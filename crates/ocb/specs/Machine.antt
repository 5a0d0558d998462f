-- Mirror: the machine of lib.rt. It serves proofs, and it is proved that it walks the layouts.
use Rattle.std.specs.Prelude.{◌≡◌, Bool, ℕ, zero, suc, ◌-◌, ◌/◌, ◌%◌, eqb, length}
use Rattle.std.proofs.Math.Path.{refl}
use Rattle.std.proofs.Common.{ap, sym, ◌∙◌}
use Rattle.std.proofs.Math.Bool.{true, false}
use Rattle.std.specs.Int.Count.{ones}
use Rattle.layout.specs.declared.Field.{Field}
use Rattle.layout.specs.Layout.{pick}
use Rattle.layout.specs.Parts.{up_to, free}
use Rattle.layout.specs.Walks.{Numbered, Fine, fine, Walks, goes, Leads, leads-optional, leads-times, leads-each}
use Rattle.layout.specs.Tests.{one_less}
use Rattle.fields.specs.Fields.{table, find, line_of, sf}
use Rattle.codes.specs.declared.Constellation.{Constellation}
use Rattle.codes.specs.declared.Constellation.TheVariants.{Gps, Glonass, Galileo, BeiDou, Qzss}
use Rattle.ocb.specs.declared.Head.{Head}
use Rattle.ocb.specs.declared.State.{State}
use Rattle.ocb.specs.declared.State.TheVariants.{Siou, EndOfSet, Reserved, YawPresent, Datum, Ephemeris, MaskSize, Mask, DoNotUse, Present, Continuity, Iode, Radial, Along, Cross, Yaw, IodeContinuity, ClockCorrection, RangeError, PhaseMaskSize, PhaseMask, Fix, PhaseContinuity, PhaseCorrection, CodeMaskSize, CodeMask, CodeCorrection, Done}
use Rattle.codes.specs.Tables.{mask_sf, mask_size, bias_size}
use Rattle.ocb.specs.Tables.{ephemeris_sf, iode_sf, phase_sf, code_sf}
use Rattle.codes.specs.Sizes.{fine-mask-size, fine-mask, fine-bias}
use Rattle.codes.specs.Fields.{mask_field, satellites_of}
use Rattle.ocb.specs.Ocb.{out_of_use, in_use, orbit, clock, phase_bias, bias, blocks, satellite, ocb}

-- ---- the field at hand

abbrev pub ocb_field : State → Field
ocb_field (Siou c) = sf 5
ocb_field (EndOfSet c) = sf 10
ocb_field (Reserved c) = sf 69
ocb_field (YawPresent c) = sf 8
ocb_field (Datum c yaw) = sf 9
ocb_field (Ephemeris c yaw) = sf (ephemeris_sf c)
ocb_field (MaskSize c yaw) = sf (mask_sf c)
ocb_field (Mask c yaw size) = mask_field (mask_sf c) (mask_size c size)
ocb_field (DoNotUse head) = sf 13
ocb_field (Present head) = sf 14
ocb_field (Continuity head present) = sf 15
ocb_field (Iode head present) = sf (iode_sf head.constellation)
ocb_field (Radial head present) = sf 20
ocb_field (Along head present) = sf 20
ocb_field (Cross head present) = sf 20
ocb_field (Yaw head present) = sf 21
ocb_field (IodeContinuity head present) = sf 22
ocb_field (ClockCorrection head present) = sf 20
ocb_field (RangeError head present) = sf 24
ocb_field (PhaseMaskSize head) = sf (phase_sf head.constellation)
ocb_field (PhaseMask head size) = free (phase_sf head.constellation) (bias_size head.constellation size)
ocb_field (Fix head more) = sf 23
ocb_field (PhaseContinuity head more) = sf 15
ocb_field (PhaseCorrection head more) = sf 20
ocb_field (CodeMaskSize head) = sf (code_sf head.constellation)
ocb_field (CodeMask head size) = free (code_sf head.constellation) (bias_size head.constellation size)
ocb_field (CodeCorrection head more) = sf 29
ocb_field Done = up_to 0 0 0

-- ---- the next state

-- where n satellites are still to come
abbrev pub satellites_from : Constellation → (yaw n : ℕ) → State
satellites_from c yaw zero = Done
satellites_from c yaw (suc more) = DoNotUse (record { constellation = c; yaw = yaw; more = more })

abbrev pub satellite_end : Head → State
satellite_end head = satellites_from head.constellation head.yaw head.more

abbrev pub bias_from : Head → (present : ℕ) → State
bias_from head present = pick (eqb (present % 2) 1) (PhaseMaskSize head) (satellite_end head)

abbrev pub clock_from : Head → (present : ℕ) → State
clock_from head present = pick (eqb (present / 2 % 2) 1) (IodeContinuity head present) (bias_from head present)

abbrev pub yaw_from : Head → (present : ℕ) → State
yaw_from head present = pick (eqb head.yaw 1) (Yaw head present) (clock_from head present)

abbrev pub orbit_from : Head → (present : ℕ) → State
orbit_from head present = pick (eqb (present / 4 % 2) 1) (Iode head present) (clock_from head present)

-- where n phase biases, or n code biases, are still to come
abbrev pub phases_from : Head → ℕ → State
phases_from head zero = CodeMaskSize head
phases_from head (suc more) = Fix head more

abbrev pub codes_from : Head → ℕ → State
codes_from head zero = satellite_end head
codes_from head (suc more) = CodeCorrection head more

abbrev pub ocb_step : State → ℕ → State
ocb_step (Siou c) code = EndOfSet c
ocb_step (EndOfSet c) code = Reserved c
ocb_step (Reserved c) code = YawPresent c
ocb_step (YawPresent c) code = Datum c code
ocb_step (Datum c yaw) code = Ephemeris c yaw
ocb_step (Ephemeris c yaw) code = MaskSize c yaw
ocb_step (MaskSize c yaw) code = Mask c yaw code
ocb_step (Mask c yaw size) code = satellites_from c yaw (length (satellites_of c size code))
ocb_step (DoNotUse head) code = pick (eqb code 1) (satellite_end head) (Present head)
ocb_step (Present head) code = Continuity head code
ocb_step (Continuity head present) code = orbit_from head present
ocb_step (Iode head present) code = Radial head present
ocb_step (Radial head present) code = Along head present
ocb_step (Along head present) code = Cross head present
ocb_step (Cross head present) code = yaw_from head present
ocb_step (Yaw head present) code = clock_from head present
ocb_step (IodeContinuity head present) code = ClockCorrection head present
ocb_step (ClockCorrection head present) code = RangeError head present
ocb_step (RangeError head present) code = bias_from head present
ocb_step (PhaseMaskSize head) code = PhaseMask head code
ocb_step (PhaseMask head size) code = phases_from head (ones code)
ocb_step (Fix head more) code = PhaseContinuity head more
ocb_step (PhaseContinuity head more) code = PhaseCorrection head more
ocb_step (PhaseCorrection head more) code = phases_from head more
ocb_step (CodeMaskSize head) code = CodeMask head code
ocb_step (CodeMask head size) code = codes_from head (ones code)
ocb_step (CodeCorrection head more) code = codes_from head more
ocb_step Done code = Done

-- ---- a test of the code's helpers, and what an inner call gave them

pub satellites-more : (c : Constellation) (yaw n : ℕ) → (n ≡ 0 → ⊥) → DoNotUse (record { constellation = c; yaw = yaw; more = n - 1 }) ≡ satellites_from c yaw n
satellites-more c yaw n h = one_less (satellites_from c yaw) n h

pub satellites-of : (c : Constellation) (yaw : ℕ) {n m : ℕ} {r : State} → r ≡ satellites_from c yaw n → n ≡ m → r ≡ satellites_from c yaw m
satellites-of c yaw p q = p ∙ ap (satellites_from c yaw) q

pub phases-of : (head : Head) {n m : ℕ} {r : State} → r ≡ phases_from head n → n ≡ m → r ≡ phases_from head m
phases-of head p q = p ∙ ap (phases_from head) q

pub codes-of : (head : Head) {n m : ℕ} {r : State} → r ≡ codes_from head n → n ≡ m → r ≡ codes_from head m
codes-of head p q = p ∙ ap (codes_from head) q

pub phases-none : (head : Head) (n : ℕ) → n ≡ 0 → CodeMaskSize head ≡ phases_from head n
phases-none head n e = ap (phases_from head) (sym e)

pub phases-more : (head : Head) (n : ℕ) → (n ≡ 0 → ⊥) → Fix head (n - 1) ≡ phases_from head n
phases-more head n h = one_less (phases_from head) n h

pub codes-none : (head : Head) (n : ℕ) {r : State} → n ≡ 0 → r ≡ satellite_end head → r ≡ codes_from head n
codes-none head n e h = h ∙ ap (codes_from head) (sym e)

pub codes-more : (head : Head) (n : ℕ) → (n ≡ 0 → ⊥) → CodeCorrection head (n - 1) ≡ codes_from head n
codes-more head n h = one_less (codes_from head) n h

-- ---- the machine walks the layouts

-- a field's number that goes by the constellation
pub by-constellation : (P : ℕ → Type 0) (number : Constellation → ℕ) → P (number Gps) → P (number Glonass) → P (number Galileo) → P (number BeiDou)
    → P (number Qzss) → (c : Constellation) → P (number c)
by-constellation P number gps glonass galileo bei_dou qzss Gps = gps
by-constellation P number gps glonass galileo bei_dou qzss Glonass = glonass
by-constellation P number gps glonass galileo bei_dou qzss Galileo = galileo
by-constellation P number gps glonass galileo bei_dou qzss BeiDou = bei_dou
by-constellation P number gps glonass galileo bei_dou qzss Qzss = qzss

fine-ephemeris : (c : Constellation) → Fine (sf (ephemeris_sf c))
unfolding sf line_of find table
fine-ephemeris = by-constellation (λ n. Fine (sf n)) ephemeris_sf (fine tt) (fine tt) (fine tt) (fine tt) (fine tt)

fine-iode : (c : Constellation) → Fine (sf (iode_sf c))
unfolding sf line_of find table
fine-iode = by-constellation (λ n. Fine (sf n)) iode_sf (fine tt) (fine tt) (fine tt) (fine tt) (fine tt)

fine-phase : (c : Constellation) → Fine (sf (phase_sf c))
unfolding sf line_of find table
fine-phase = by-constellation (λ n. Fine (sf n)) phase_sf (fine tt) (fine tt) (fine tt) (fine tt) (fine tt)

fine-code : (c : Constellation) → Fine (sf (code_sf c))
unfolding sf line_of find table
fine-code = by-constellation (λ n. Fine (sf n)) code_sf (fine tt) (fine tt) (fine tt) (fine tt) (fine tt)

numbered-phase : (c : Constellation) → Numbered (phase_sf c)
unfolding sf
numbered-phase c = (fine-phase c).number

numbered-code : (c : Constellation) → Numbered (code_sf c)
unfolding sf
numbered-code c = (fine-code c).number

module _ {A : Type 0} where
  leads-phase : (head : Head) (n : ℕ) → Leads {A = A} ocb_field ocb_step (phases_from head (suc n)) phase_bias (phases_from head n)
  unfolding sf line_of find table
  leads-phase head n k rest = goes refl (fine tt) (λ _ _. goes refl (fine tt) (λ _ _. goes refl (fine tt) (λ _ _. rest _)))

  leads-bias : (head : Head) → Leads {A = A} ocb_field ocb_step (PhaseMaskSize head) (bias head.constellation) (satellite_end head)
  unfolding sf line_of find table
  leads-bias head k rest =
      let c : Constellation = head.constellation in
      goes refl (fine-phase c) (λ phase_size _. goes refl (fine-bias (phase_sf c) (numbered-phase c) c _) (λ phase_mask _.
      leads-times ocb_field ocb_step (phases_from head) (leads-phase head) (ones phase_mask) _ (λ phases.
      goes refl (fine-code c) (λ code_size _. goes refl (fine-bias (code_sf c) (numbered-code c) c _) (λ code_mask _.
      leads-times ocb_field ocb_step (codes_from head) (λ n k rest. goes refl (fine tt) (λ x _. rest x)) (ones code_mask) _ (λ codes.
      rest (record {
        phase_mask = record { size = phase_size; bits = phase_mask };
        phases = phases;
        code_mask = record { size = code_size; bits = code_mask };
        codes = codes;
      })))))))

  leads-clock : (head : Head) (present : ℕ) → Leads {A = A} ocb_field ocb_step (IodeContinuity head present) clock (bias_from head present)
  unfolding sf line_of find table
  leads-clock head present k rest = goes refl (fine tt) (λ _ _. goes refl (fine tt) (λ _ _. goes refl (fine tt) (λ _ _. rest _)))

  leads-orbit : (head : Head) (present : ℕ) → Leads {A = A} ocb_field ocb_step (Iode head present) (orbit head.constellation head.yaw) (clock_from head present)
  unfolding sf line_of find table
  leads-orbit head present k rest =
      goes refl (fine-iode head.constellation) (λ iode _. goes refl (fine tt) (λ radial _. goes refl (fine tt) (λ along _. goes refl (fine tt) (λ cross _.
      leads-optional ocb_field ocb_step (eqb head.yaw 1) (λ k rest. goes refl (fine tt) (λ x _. rest x)) _ (λ yaw.
      rest (record { iode = iode; radial = radial; along = along; cross = cross; yaw = yaw }))))))

  leads-blocks : (head : Head) → Leads {A = A} ocb_field ocb_step (Present head) (blocks head.constellation head.yaw) (satellite_end head)
  unfolding sf line_of find table
  leads-blocks head k rest =
      goes refl (fine tt) (λ present _. goes refl (fine tt) (λ continuity _.
      leads-optional ocb_field ocb_step (eqb (present / 4 % 2) 1) (leads-orbit head present) _ (λ orbit.
      leads-optional ocb_field ocb_step (eqb (present / 2 % 2) 1) (leads-clock head present) _ (λ clock.
      leads-optional ocb_field ocb_step (eqb (present % 2) 1) (leads-bias head) _ (λ bias.
      rest (record { continuity = continuity; orbit = orbit; clock = clock; bias = bias }))))))

  leads-satellite : (c : Constellation) (yaw n number : ℕ)
      → Leads {A = A} ocb_field ocb_step (satellites_from c yaw (suc n)) (satellite c yaw number) (satellites_from c yaw n)
  unfolding sf line_of find table
  leads-satellite c yaw n number k rest = goes refl (fine tt) (λ do_not_use _. go (eqb do_not_use 1))
    where
      go : (b : Bool)
          → Walks ocb_field ocb_step (pick b (satellites_from c yaw n) (Present (record { constellation = c; yaw = yaw; more = n })))
          (pick b (k (record { number = number; state = out_of_use })) (blocks c yaw (λ x. k (record { number = number; state = in_use x }))))
      go true = rest (record { number = number; state = out_of_use })
      go false = leads-blocks (record { constellation = c; yaw = yaw; more = n }) _ (λ x. rest (record { number = number; state = in_use x }))

  pub leads-ocb : (c : Constellation) → Leads {A = A} ocb_field ocb_step (Siou c) (ocb c) Done
  unfolding sf line_of find table
  leads-ocb c k rest =
      goes refl (fine tt) (λ siou _. goes refl (fine tt) (λ end_of_set _. goes refl (fine tt) (λ _ _. goes refl (fine tt) (λ yaw _. goes refl (fine tt) (λ datum _.
      goes refl (fine-ephemeris c) (λ ephemeris _. goes refl (fine-mask-size c) (λ size _. goes refl (fine-mask c size) (λ mask _.
      leads-each ocb_field ocb_step (satellites_from c yaw) (leads-satellite c yaw) (satellites_of c size mask) _ (λ satellites.
      rest (record { siou = siou; end_of_set = end_of_set; datum = datum; ephemeris = ephemeris; satellites = satellites }))))))))))
