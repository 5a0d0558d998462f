-- Each arm is its numbers' lines of the table; every other line's codes mean nothing.
use Rattle.std.specs.Prelude.{refl, List, [], ◌∷◌, ℕ, Some}
use Rattle.std.proofs.Common.{rules}
use Rattle.fields.specs.declared.Meaning.TheVariants.{Metres, Degrees, Tecu, Coefficient, Count, ResidualMetres, ResidualTecu, Yaw}
use Rattle.fields.specs.declared.Steps.TheVariants.{OneMore, Sixfold, Spacings}
use Rattle.fields.specs.Fields.{table, find, line_of, sf}
use Rattle.fields.specs.Packed.{packed_line}
use Rattle.fields.specs.Meant.{unpacked, unpacked_about, keyed, meaningless, all_meant, meant-at, meaning-none}
use Rattle.fields.proofs.line_of.Goals as goal

-- the arms, the last one first
abbrev arms : List (List ℕ)
arms =
    (83 ∷ []) ∷ (82 ∷ []) ∷ (80 ∷ []) ∷ (78 ∷ []) ∷ (77 ∷ []) ∷ (74 ∷ []) ∷ (73 ∷ []) ∷
    (65 ∷ 67 ∷ []) ∷ (64 ∷ 66 ∷ []) ∷ (59 ∷ 62 ∷ []) ∷ (58 ∷ 61 ∷ []) ∷ (57 ∷ 60 ∷ []) ∷ (53 ∷ []) ∷ (52 ∷ []) ∷
    (47 ∷ 50 ∷ []) ∷ (46 ∷ 49 ∷ []) ∷ (43 ∷ 45 ∷ 48 ∷ []) ∷ (37 ∷ []) ∷ (36 ∷ []) ∷ (33 ∷ []) ∷ (32 ∷ []) ∷
    (35 ∷ 76 ∷ []) ∷ (30 ∷ 34 ∷ 71 ∷ 75 ∷ []) ∷ (29 ∷ []) ∷ (21 ∷ []) ∷ (20 ∷ []) ∷
    []

pub returns-in-20 : goal.returns-in-20
unfolding packed_line sf line_of find table keyed meaningless all_meant
returns-in-20 c = search (meant-at (20 ∷ []) (λ x. unpacked_about x 500 Metres) (refl, tt), rules)

pub returns-in-21 : goal.returns-in-21
unfolding packed_line sf line_of find table keyed meaningless all_meant
returns-in-21 c = search (meant-at (21 ∷ []) (λ x. unpacked x Sixfold 0 1 (Some Yaw)) (refl, tt), rules)

pub returns-in-29 : goal.returns-in-29
unfolding packed_line sf line_of find table keyed meaningless all_meant
returns-in-29 c = search (meant-at (29 ∷ []) (λ x. unpacked_about x 50 Metres) (refl, tt), rules)

pub returns-in-30 : goal.returns-in-30
unfolding packed_line sf line_of find table keyed meaningless all_meant
returns-in-30 c = search (meant-at (30 ∷ 34 ∷ 71 ∷ 75 ∷ []) (λ x. unpacked x OneMore 0 1 (Some Count)) (refl, (refl, (refl, (refl, tt)))), rules)

pub returns-in-35 : goal.returns-in-35
unfolding packed_line sf line_of find table keyed meaningless all_meant
returns-in-35 c = search (meant-at (35 ∷ 76 ∷ []) (λ x. unpacked x OneMore 0 1 (Some Count)) (refl, (refl, tt)), rules)

pub returns-in-32 : goal.returns-in-32
unfolding packed_line sf line_of find table keyed meaningless all_meant
returns-in-32 c = search (meant-at (32 ∷ []) (λ x. unpacked_about x 10 Degrees) (refl, tt), rules)

pub returns-in-33 : goal.returns-in-33
unfolding packed_line sf line_of find table keyed meaningless all_meant
returns-in-33 c = search (meant-at (33 ∷ []) (λ x. unpacked_about x 10 Degrees) (refl, tt), rules)

pub returns-in-36 : goal.returns-in-36
unfolding packed_line sf line_of find table keyed meaningless all_meant
returns-in-36 c = search (meant-at (36 ∷ []) (λ x. unpacked x OneMore 0 10 (Some Degrees)) (refl, tt), rules)

pub returns-in-37 : goal.returns-in-37
unfolding packed_line sf line_of find table keyed meaningless all_meant
returns-in-37 c = search (meant-at (37 ∷ []) (λ x. unpacked x OneMore 0 10 (Some Degrees)) (refl, tt), rules)

pub returns-in-43 : goal.returns-in-43
unfolding packed_line sf line_of find table keyed meaningless all_meant
returns-in-43 c = search (meant-at (43 ∷ 45 ∷ 48 ∷ []) (λ x. unpacked_about x 250 Metres) (refl, (refl, (refl, tt))), rules)

pub returns-in-46 : goal.returns-in-46
unfolding packed_line sf line_of find table keyed meaningless all_meant
returns-in-46 c = search (meant-at (46 ∷ 49 ∷ []) (λ x. unpacked_about x 1000 Coefficient) (refl, (refl, tt)), rules)

pub returns-in-47 : goal.returns-in-47
unfolding packed_line sf line_of find table keyed meaningless all_meant
returns-in-47 c = search (meant-at (47 ∷ 50 ∷ []) (λ x. unpacked_about x 5000 Coefficient) (refl, (refl, tt)), rules)

pub returns-in-52 : goal.returns-in-52
unfolding packed_line sf line_of find table keyed meaningless all_meant
returns-in-52 c = search (meant-at (52 ∷ []) (λ x. unpacked_about x 250 ResidualMetres) (refl, tt), rules)

pub returns-in-53 : goal.returns-in-53
unfolding packed_line sf line_of find table keyed meaningless all_meant
returns-in-53 c = search (meant-at (53 ∷ []) (λ x. unpacked_about x 250 ResidualMetres) (refl, tt), rules)

pub returns-in-57 : goal.returns-in-57
unfolding packed_line sf line_of find table keyed meaningless all_meant
returns-in-57 c = search (meant-at (57 ∷ 60 ∷ []) (λ x. unpacked_about x 25 Tecu) (refl, (refl, tt)), rules)

pub returns-in-58 : goal.returns-in-58
unfolding packed_line sf line_of find table keyed meaningless all_meant
returns-in-58 c = search (meant-at (58 ∷ 61 ∷ []) (λ x. unpacked_about x 125 Coefficient) (refl, (refl, tt)), rules)

pub returns-in-59 : goal.returns-in-59
unfolding packed_line sf line_of find table keyed meaningless all_meant
returns-in-59 c = search (meant-at (59 ∷ 62 ∷ []) (λ x. unpacked_about x 500 Coefficient) (refl, (refl, tt)), rules)

pub returns-in-64 : goal.returns-in-64
unfolding packed_line sf line_of find table keyed meaningless all_meant
returns-in-64 c = search (meant-at (64 ∷ 66 ∷ []) (λ x. unpacked_about x 25 ResidualTecu) (refl, (refl, tt)), rules)

pub returns-in-65 : goal.returns-in-65
unfolding packed_line sf line_of find table keyed meaningless all_meant
returns-in-65 c = search (meant-at (65 ∷ 67 ∷ []) (λ x. unpacked_about x 25 ResidualTecu) (refl, (refl, tt)), rules)

pub returns-in-73 : goal.returns-in-73
unfolding packed_line sf line_of find table keyed meaningless all_meant
returns-in-73 c = search (meant-at (73 ∷ []) (λ x. unpacked_about x 1 Degrees) (refl, tt), rules)

pub returns-in-74 : goal.returns-in-74
unfolding packed_line sf line_of find table keyed meaningless all_meant
returns-in-74 c = search (meant-at (74 ∷ []) (λ x. unpacked_about x 1 Degrees) (refl, tt), rules)

pub returns-in-77 : goal.returns-in-77
unfolding packed_line sf line_of find table keyed meaningless all_meant
returns-in-77 c = search (meant-at (77 ∷ []) (λ x. unpacked x Spacings 0 2 (Some Degrees)) (refl, tt), rules)

pub returns-in-78 : goal.returns-in-78
unfolding packed_line sf line_of find table keyed meaningless all_meant
returns-in-78 c = search (meant-at (78 ∷ []) (λ x. unpacked x Spacings 0 2 (Some Degrees)) (refl, tt), rules)

pub returns-in-80 : goal.returns-in-80
unfolding packed_line sf line_of find table keyed meaningless all_meant
returns-in-80 c = search (meant-at (80 ∷ []) (λ x. unpacked_about x 4 Tecu) (refl, tt), rules)

pub returns-in-82 : goal.returns-in-82
unfolding packed_line sf line_of find table keyed meaningless all_meant
returns-in-82 c = search (meant-at (82 ∷ []) (λ x. unpacked_about x 4 ResidualTecu) (refl, tt), rules)

pub returns-in-83 : goal.returns-in-83
unfolding packed_line sf line_of find table keyed meaningless all_meant
returns-in-83 c = search (meant-at (83 ∷ []) (λ x. unpacked_about x 4 ResidualTecu) (refl, tt), rules)

pub returns-in_default : goal.returns-in_default
unfolding packed_line sf line_of find table keyed meaningless all_meant
returns-in_default c = search (meaning-none arms tt, rules)
