-- Serves proofs: what the functions of places.rt find along the message's machine, on any sheet.
use Rattle.std.specs.Prelude.{◌&&◌, List, [], ◌∷◌, ℕ, zero, suc, eqb, drop, get_or, Ok, Err, Some, None}
use Rattle.answer.specs.Place.{nowhere}
use Rattle.answer.specs.declared.Refusal.TheVariants as refusal
use Rattle.layout.specs.Layout.{pick}
use Rattle.message.specs.Results.{Start}
use Rattle.message.specs.declared.State.{State}
use Rattle.message.specs.Machine.{field_of, step_of, start_of}
use Rattle.sheet.specs.Sheet.{judged_sheet}
use Rattle.views.specs.declared.places.Place.{Place}
use Rattle.views.specs.Results.{Found}
use Rattle.views.specs.Results.{Opened}
use Rattle.views.specs.Judged.{if_taken}

abbrev pub opened_at : Start → Opened
opened_at (Some s) = Ok (record { state = s; at = 0 })
opened_at None = Err (nowhere refusal.UnknownType)

abbrev pub opened : (kind subtype : ℕ) (sheet : List ℕ) → Opened
opened kind subtype sheet = if_taken (judged_sheet kind subtype sheet) Err (opened_at (start_of kind subtype))

-- here, or after so many more
abbrev pub here_or : {C : Type 0} → ℕ → C → (ℕ → C) → C
here_or zero here on = here
here_or (suc n) here on = on n

-- along the entries from `at` on
unfoldable pub sought_in : (sf before : ℕ) (s : State) (at : ℕ) → List ℕ → Place
sought_in sf before s at [] = record { state = s; at = at }
sought_in sf before s at (c ∷ cs) =
    pick (eqb (field_of s).sf sf)
    (here_or before (record { state = s; at = at }) (λ n. sought_in sf n (step_of s c) (suc at) cs))
    (sought_in sf before (step_of s c) (suc at) cs)

abbrev pub sought : (sf before : ℕ) (sheet : List ℕ) → Place → Place
sought sf before sheet p = sought_in sf before p.state p.at (drop p.at sheet)

abbrev pub code_at : (sheet : List ℕ) → Place → (sf before : ℕ) → ℕ
code_at sheet p sf before = get_or sheet (sought sf before sheet p).at 0

unfoldable pub found_in : (sf code : ℕ) (s : State) (at : ℕ) → List ℕ → Found
found_in sf code s at [] = None
found_in sf code s at (c ∷ cs) =
    pick (eqb (field_of s).sf sf && eqb c code) (Some (record { state = s; at = at })) (found_in sf code (step_of s c) (suc at) cs)

abbrev pub found : (sf code : ℕ) (sheet : List ℕ) → Place → Found
found sf code sheet p = found_in sf code p.state p.at (drop p.at sheet)
