-- Mirror: the rows of row.rt, and that the machine goes along them. A row ends where a code decides.
use Rattle.std.specs.Prelude.{◌≡◌, refl, Bool, true, false, ◌&&◌, List, [], ◌∷◌, ◌++◌, ℕ, zero, suc, ◌+◌, ◌-◌, ◌*◌, ◌/◌, ◌%◌, ◌<◌, T, eqb, ltb}
use Rattle.std.proofs.Common.{ap, ap₂, sym, ◌∙◌, subst, append-nil, arith, eq-eqb, ne_eqb, ltb-true}
use Rattle.layout.specs.Layout.{pick}
use Rattle.layout.specs.Tests.{one_less}
use Rattle.fields.specs.Fields.{table, find, line_of, sf}
use Rattle.rows.specs.declared.Row.{Row}
use Rattle.rows.specs.Rows.{field_in, word_of, cells, cells_in, again, cells_of, one_row, no_row}
use Rattle.rows.specs.Cells.{cells-more}
use Rattle.rows.specs.Along.{In, is, Along, stays, decides, passes, along-either, along-optional}
use Rattle.codes.specs.declared.Constellation.{Constellation}
use Rattle.ocb.specs.Tables.{iode_sf, phase_sf, code_sf}
use Rattle.ocb.specs.declared.Head.{Head}
use Rattle.ocb.specs.declared.State.{State}
use Rattle.ocb.specs.declared.State.TheVariants as ocb
use Rattle.ocb.specs.declared.State.TheVariants.{Siou, EndOfSet, Reserved, YawPresent, Datum, Ephemeris, MaskSize, Mask, DoNotUse, Present, Continuity, Iode, Radial, Cross, Yaw, IodeContinuity, ClockCorrection, RangeError, PhaseMaskSize, PhaseMask, Fix, PhaseContinuity, PhaseCorrection, CodeMaskSize, CodeMask, CodeCorrection, Done}
use Rattle.ocb.specs.Machine.{ocb_field, ocb_step, satellites_from, satellite_end, bias_from, clock_from, by-constellation}

-- ---- how a row ends; a cell that is 0 is none

-- the next satellite's SF013
abbrev pub next_cell : ℕ → ℕ
next_cell zero = 0
next_cell (suc more) = 13

-- the size of the phase bias mask
abbrev pub bias_cell : Head → (present : ℕ) → ℕ
bias_cell head present = pick (eqb (present % 2) 1) (phase_sf head.constellation) (next_cell head.more)

-- the clock block before it
abbrev pub blocks_tail : Head → (present : ℕ) → ℕ
blocks_tail head present = pick (eqb (present / 2 % 2) 1) (word_of (22 ∷ 20 ∷ 24 ∷ bias_cell head present ∷ [])) (bias_cell head present)

-- ---- SF015, and the orbit block if there is one

abbrev pub yaw_cell : ℕ → ℕ
yaw_cell yaw = pick (eqb yaw 1) 21 0

abbrev pub orbit_group : (yaw : ℕ) → Constellation → ℕ
orbit_group yaw c = word_of (15 ∷ iode_sf c ∷ 20 ∷ 20 ∷ 20 ∷ yaw_cell yaw ∷ [])

abbrev pub blocks_group : Head → (present : ℕ) → ℕ
blocks_group head present = pick (eqb (present / 4 % 2) 1) (orbit_group head.yaw head.constellation) 15

-- ---- a test of the code's helpers, and what the inner calls gave them

pub next-none : (n : ℕ) → n ≡ 0 → 0 ≡ next_cell n
next-none n e = ap next_cell (sym e)

pub next-some : (n : ℕ) → (n ≡ 0 → ⊥) → 13 ≡ next_cell n
next-some n h = one_less next_cell n h

pub clock-word : (a b bias : ℕ) {last : ℕ} → a ≡ b → last ≡ bias
    → word_of (22 ∷ 20 ∷ 24 ∷ []) + 16777216 * last ≡ pick (eqb a b) (word_of (22 ∷ 20 ∷ 24 ∷ bias ∷ [])) bias
clock-word a b bias {last} e q =
    let made : 1578006 + 16777216 * last ≡ word_of (22 ∷ 20 ∷ 24 ∷ bias ∷ []) = omega arith in
    rw (eq-eqb a b e) made

pub orbit-word : (yaw : ℕ) (c : Constellation) {iode last : ℕ} → iode ≡ iode_sf c → last ≡ yaw_cell yaw
    → word_of (15 ∷ 0 ∷ 20 ∷ 20 ∷ 20 ∷ []) + 256 * iode + 1099511627776 * last ≡ orbit_group yaw c
orbit-word yaw c {iode} {last} p q = go iode last ∙ ap₂ (λ (i l : ℕ). word_of (15 ∷ i ∷ 20 ∷ 20 ∷ 20 ∷ l ∷ [])) p q
  where
    go : (i l : ℕ) → word_of (15 ∷ 0 ∷ 20 ∷ 20 ∷ 20 ∷ []) + 256 * i + 1099511627776 * l ≡ word_of (15 ∷ i ∷ 20 ∷ 20 ∷ 20 ∷ l ∷ [])
    go i l = omega arith

pub next-over : (c : Constellation) (yaw n code : ℕ) → n ≡ 0 → Done ≡ ocb_step (satellites_from c yaw n) code
next-over c yaw n code e = ap (λ (x : ℕ). ocb_step (satellites_from c yaw x) code) (sym e)

pub next-on : (c : Constellation) (yaw n code : ℕ) {r : State} → (n ≡ 0 → ⊥)
    → r ≡ ocb_step (DoNotUse (record { constellation = c; yaw = yaw; more = n - 1 })) code → r ≡ ocb_step (satellites_from c yaw n) code
next-on c yaw n code h e = e ∙ one_less (λ x. ocb_step (satellites_from c yaw x) code) n h

pub step_same : (a b : ℕ) (x y : State) {r : State} (c : ℕ) → a ≡ b → r ≡ ocb_step x c → r ≡ ocb_step (pick (eqb a b) x y) c
step_same a b x y c e h = rw (eq-eqb a b e) h

pub step_other : (a b : ℕ) (x y : State) {r : State} (c : ℕ) → (a ≡ b → ⊥) → r ≡ ocb_step y c → r ≡ ocb_step (pick (eqb a b) x y) c
step_other a b x y c e h = rw (ne_eqb a b e) h

-- ---- the cells of a word

abbrev are_cells : List ℕ → Bool
are_cells [] = true
are_cells (cell ∷ cs) = ltb 0 cell && (ltb cell 256 && are_cells cs)

-- what its last cell is need not be known
cells-word : (cs : List ℕ) (last : ℕ) → T (are_cells cs) → cells_in (word_of (cs ++ (last ∷ []))) ≡ cs ++ cells_in last
cells-word [] last t = let e : last + 256 * 0 ≡ last = omega arith in ap cells_in e
cells-word (cell ∷ cs) last t = go (word_of (cs ++ (last ∷ []))) (λ u. cells-word cs last u) (ltb 0 cell) (ltb cell 256) refl refl t
  where
    go : (word : ℕ) → (T (are_cells cs) → cells_in word ≡ cs ++ cells_in last) → (a b : Bool) → ltb 0 cell ≡ a → ltb cell 256 ≡ b
        → T (a && (b && are_cells cs)) → cells_in (cell + 256 * word) ≡ cell ∷ (cs ++ cells_in last)
    go word rest true true p q t =
        let some : 0 < cell = ltb-true 0 cell p in
        let small : cell < 256 = ltb-true cell 256 q in
        let first : (cell + 256 * word) % 256 ≡ cell = omega arith in
        let others : (cell + 256 * word) / 256 ≡ word = omega arith in
        cells-more (cell + 256 * word) (λ z. omega arith) ∙ ap₂ (λ (c : ℕ) (l : List ℕ). c ∷ l) first (ap cells_in others ∙ rest t)
    go word rest true false p q t = absurd t
    go word rest false b p q t = absurd t

-- a field's number that is a word of one cell
data Cell (n : ℕ) : Type 0 where
  cell : In (sf n) n → cells_in n ≡ n ∷ [] → Cell n

phase-cell : (c : Constellation) → Cell (phase_sf c)
unfolding cells cells_in field_in sf line_of find table
phase-cell = by-constellation Cell phase_sf (cell (is refl) refl) (cell (is refl) refl) (cell (is refl) refl) (cell (is refl) refl) (cell (is refl) refl)

code-cell : (c : Constellation) → Cell (code_sf c)
unfolding cells cells_in field_in sf line_of find table
code-cell = by-constellation Cell code_sf (cell (is refl) refl) (cell (is refl) refl) (cell (is refl) refl) (cell (is refl) refl) (cell (is refl) refl)

cell-decides : {n : ℕ} {s : State} → Cell n → ocb_field s ≡ sf n → Along ocb_field ocb_step s (cells_in n) (ocb_step s)
cell-decides {n} {s} (cell i e) p =
    subst (λ cs. Along ocb_field ocb_step s cs (ocb_step s)) (sym e) (decides (subst (λ f. In f n) (sym p) i) (λ _. refl))

-- ---- the machine goes along them

next-along : (c : Constellation) (yaw n : ℕ)
    → Along ocb_field ocb_step (satellites_from c yaw n) (cells_in (next_cell n)) (ocb_step (satellites_from c yaw n))
unfolding cells cells_in field_in sf line_of find table
next-along c yaw zero = stays (λ _. refl)
next-along c yaw (suc more) = decides (is refl) (λ _. refl)

bias-along : (head : Head) (present : ℕ) → Along ocb_field ocb_step (bias_from head present) (cells_in (bias_cell head present)) (ocb_step (bias_from head present))
bias-along head present =
    along-either ocb_field ocb_step (eqb (present % 2) 1) (phase_sf head.constellation) (next_cell head.more)
    (cell-decides (phase-cell head.constellation) refl) (next-along head.constellation head.yaw head.more)

blocks-along : (head : Head) (present : ℕ) → Along ocb_field ocb_step (clock_from head present) (cells_in (blocks_tail head present)) (ocb_step (bias_from head present))
unfolding field_in sf line_of find table
blocks-along head present = go (eqb (present / 2 % 2) 1)
  where
    go : (b : Bool) → Along ocb_field ocb_step (pick b (IodeContinuity head present) (bias_from head present))
        (cells_in (pick b (word_of (22 ∷ 20 ∷ 24 ∷ bias_cell head present ∷ [])) (bias_cell head present))) (ocb_step (bias_from head present))
    go true =
        subst (λ cs. Along ocb_field ocb_step (IodeContinuity head present) cs (ocb_step (bias_from head present)))
        (sym (cells-word (22 ∷ 20 ∷ 24 ∷ []) (bias_cell head present) tt))
        (passes (is refl) (λ _. passes (is refl) (λ _. passes (is refl) (λ _. bias-along head present))))
    go false = bias-along head present

iode-in : (c : Constellation) → In (sf (iode_sf c)) (iode_sf c)
unfolding field_in sf line_of find table
iode-in = by-constellation (λ n. In (sf n) n) iode_sf (is refl) (is refl) (is refl) (is refl) (is refl)

orbit-cells : (orbit yaw : Bool) (c : Constellation) → cells_in (pick orbit (word_of (15 ∷ iode_sf c ∷ 20 ∷ 20 ∷ 20 ∷ pick yaw 21 0 ∷ [])) 15)
    ≡ 15 ∷ pick orbit (iode_sf c ∷ 20 ∷ 20 ∷ 20 ∷ pick yaw (21 ∷ []) []) []
unfolding cells cells_in
orbit-cells true yaw c =
    cells-word (15 ∷ iode_sf c ∷ 20 ∷ 20 ∷ 20 ∷ []) (pick yaw 21 0) (by-constellation (λ n. T (are_cells (15 ∷ n ∷ 20 ∷ 20 ∷ 20 ∷ []))) iode_sf tt tt tt tt tt c)
    ∙ ap (λ l. 15 ∷ iode_sf c ∷ 20 ∷ 20 ∷ 20 ∷ l) (go yaw)
  where
    go : (y : Bool) → cells_in (pick y 21 0) ≡ pick y (21 ∷ []) []
    go true = refl
    go false = refl
orbit-cells false yaw c = refl

pub continuity-along : (head : Head) (present : ℕ)
    → Along ocb_field ocb_step (Continuity head present) (cells_in (blocks_group head present) ++ cells_in (blocks_tail head present)) (ocb_step (bias_from head present))
unfolding field_in sf line_of find table
continuity-along head present =
    subst (λ cs. Along ocb_field ocb_step (Continuity head present) (cs ++ cells_in (blocks_tail head present)) (ocb_step (bias_from head present)))
    (sym (orbit-cells (eqb (present / 4 % 2) 1) (eqb head.yaw 1) head.constellation))
    (passes (is refl) (λ _.
    along-optional ocb_field ocb_step (eqb (present / 4 % 2) 1)
    (iode_sf head.constellation ∷ 20 ∷ 20 ∷ 20 ∷ pick (eqb head.yaw 1) (21 ∷ []) [])
    (λ rest. passes (iode-in head.constellation) (λ _. passes (is refl) (λ _. passes (is refl) (λ _. passes (is refl) (λ _.
    along-optional ocb_field ocb_step (eqb head.yaw 1) (21 ∷ []) (λ rest. passes (is refl) (λ _. rest)) rest)))))
    (blocks-along head present)))

siou-fields : (c : Constellation) → Along ocb_field ocb_step (Siou c) (5 ∷ 10 ∷ 69 ∷ 8 ∷ []) (ocb_step (YawPresent c))
unfolding field_in sf line_of find table
siou-fields c = passes (is refl) (λ _. passes (is refl) (λ _. passes (is refl) (λ _. decides (is refl) (λ _. refl))))

pub siou-along : (c : Constellation) → Along ocb_field ocb_step (Siou c) (cells_of (one_row (word_of (5 ∷ 10 ∷ 69 ∷ 8 ∷ [])))) (ocb_step (YawPresent c))
unfolding cells cells_in
siou-along c = siou-fields c

pub use-along : (head : Head) → Along ocb_field ocb_step (DoNotUse head) (cells_of (one_row 13)) (ocb_step (DoNotUse head))
unfolding cells cells_in field_in sf line_of find table
use-along head = decides (is refl) (λ _. refl)

pub present-along : (head : Head) → Along ocb_field ocb_step (Present head) (cells_of (one_row 14)) (ocb_step (Present head))
unfolding cells cells_in field_in sf line_of find table
present-along head = decides (is refl) (λ _. refl)

phases-fields : (head : Head) (more : ℕ)
    → Along ocb_field ocb_step (Fix head more) (again (suc more) (23 ∷ 15 ∷ 20 ∷ []) (cells_in (code_sf head.constellation))) (ocb_step (CodeMaskSize head))
unfolding field_in sf line_of find table
phases-fields head zero = passes (is refl) (λ _. passes (is refl) (λ _. passes (is refl) (λ _. cell-decides (code-cell head.constellation) refl)))
phases-fields head (suc more) = passes (is refl) (λ _. passes (is refl) (λ _. passes (is refl) (λ _. phases-fields head more)))

pub phases-along : (head : Head) (more : ℕ)
    → Along ocb_field ocb_step (Fix head more) (cells_of (record { group = word_of (23 ∷ 15 ∷ 20 ∷ []); more = more; tail = code_sf head.constellation }))
    (ocb_step (CodeMaskSize head))
unfolding cells cells_in
phases-along head more = phases-fields head more

pub size-along : (head : Head) → Along ocb_field ocb_step (CodeMaskSize head) (cells_of (one_row (code_sf head.constellation))) (ocb_step (CodeMaskSize head))
unfolding cells cells_in
size-along head = subst (λ cs. Along ocb_field ocb_step (CodeMaskSize head) cs (ocb_step (CodeMaskSize head))) (sym (append-nil (cells_in (code_sf head.constellation))))
    (cell-decides (code-cell head.constellation) refl)

pub codes-along : (head : Head) (more : ℕ)
    → Along ocb_field ocb_step (CodeCorrection head more) (cells_of (record { group = 29; more = more; tail = next_cell head.more })) (ocb_step (satellite_end head))
unfolding cells cells_in field_in sf line_of find table
codes-along head zero = passes (is refl) (λ _. next-along head.constellation head.yaw head.more)
codes-along head (suc more) = passes (is refl) (λ _. codes-along head more)

-- ---- the row from a state on, the state of its last field, and that the machine goes along it; the other states go on field by field

pub data From (s : State) : Type 0 where
  row : (here : Row) (last : State) → Along ocb_field ocb_step s (cells_of here) (ocb_step last) → From s
  by_field : From s

abbrev pub from : (s : State) → From s
from (Siou c) = row (one_row (word_of (5 ∷ 10 ∷ 69 ∷ 8 ∷ []))) (YawPresent c) (siou-along c)
from (EndOfSet c) = by_field
from (Reserved c) = by_field
from (YawPresent c) = by_field
from (Datum c yaw) = by_field
from (Ephemeris c yaw) = by_field
from (MaskSize c yaw) = by_field
from (Mask c yaw size) = by_field
from (DoNotUse head) = row (one_row 13) (DoNotUse head) (use-along head)
from (Present head) = row (one_row 14) (Present head) (present-along head)
from (Continuity head present) =
    row (record { group = blocks_group head present; more = 0; tail = blocks_tail head present }) (bias_from head present) (continuity-along head present)
from (Iode head present) = by_field
from (Radial head present) = by_field
from (ocb.Along head present) = by_field
from (Cross head present) = by_field
from (Yaw head present) = by_field
from (IodeContinuity head present) = by_field
from (ClockCorrection head present) = by_field
from (RangeError head present) = by_field
from (PhaseMaskSize head) = by_field
from (PhaseMask head size) = by_field
from (Fix head more) =
    row (record { group = word_of (23 ∷ 15 ∷ 20 ∷ []); more = more; tail = code_sf head.constellation }) (CodeMaskSize head) (phases-along head more)
from (PhaseContinuity head more) = by_field
from (PhaseCorrection head more) = by_field
from (CodeMaskSize head) = row (one_row (code_sf head.constellation)) (CodeMaskSize head) (size-along head)
from (CodeMask head size) = by_field
from (CodeCorrection head more) = row (record { group = 29; more = more; tail = next_cell head.more }) (satellite_end head) (codes-along head more)
from Done = by_field

abbrev pub row_in : {s : State} → From s → Row
row_in (row here last p) = here
row_in by_field = no_row

abbrev pub last_in : {s : State} → From s → State
last_in (row here last p) = last
last_in by_field = Done

abbrev pub ocb_row : State → Row
ocb_row s = row_in (from s)

abbrev pub ocb_last : State → State
ocb_last s = last_in (from s)

-- From each state that has a row the machine goes along it, to the step from its last field.
pub rowed : (s : State) → ((ocb_row s).group ≡ 0 → ⊥) → Along ocb_field ocb_step s (cells_of (ocb_row s)) (ocb_step (ocb_last s))
rowed s h = go (from s) h
  where
    go : (f : From s) → ((row_in f).group ≡ 0 → ⊥) → Along ocb_field ocb_step s (cells_of (row_in f)) (ocb_step (last_in f))
    go (row here last p) h = p
    go by_field h = absurd (h refl)
