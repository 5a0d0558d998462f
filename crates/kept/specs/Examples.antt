-- Serves readers, and is proved by computing: the empty book in both forms, and what is no book.
use Rattle.std.specs.Prelude.{◌≡◌, refl, [], ◌∷◌}
use Rattle.answer.specs.declared.Refusal.TheVariants.{Short, Form, Leftover}
use Rattle.book.specs.Book.{no_book, siou_sound, head_sound}
use Rattle.groups.specs.Groups.{groups, groups_of, groups_of_all, size, value, read_groups}
use Rattle.kept.specs.Kept.{head_in, numbers_in, kept_in, kept, not-kept, read_count, read_siou, read_aiou, read_head, read_areas, behind_head}

-- "form 2 with SIOU + 1 after AIOU + 1, 0 for unknown or no book"
pub empty-book : kept_in 2 no_book [] ≡ 2 ∷ 0 ∷ 0 ∷ 0 ∷ []
unfolding numbers_in groups groups_of groups_of_all
empty-book = refl

pub empty-read : behind_head (read_head (2 ∷ 0 ∷ 0 ∷ 0 ∷ [])) ≡ kept no_book []
unfolding read_head read_aiou read_siou read_count read_areas read_groups size value head_in head_sound siou_sound
empty-read = refl

-- "Empty book: 1, 0, 0." "Form 1 is still read"
pub empty-book-1 : kept_in 1 no_book [] ≡ 1 ∷ 0 ∷ 0 ∷ []
unfolding numbers_in groups groups_of groups_of_all
empty-book-1 = refl

pub empty-read-1 : behind_head (read_head (1 ∷ 0 ∷ 0 ∷ [])) ≡ kept no_book []
unfolding read_head read_aiou read_siou read_count read_areas read_groups size value head_in head_sound siou_sound
empty-read-1 = refl

-- no form 3, nor 0
pub form-3 : behind_head (read_head (3 ∷ 0 ∷ 0 ∷ 0 ∷ [])) ≡ not-kept Form
unfolding read_head read_aiou read_siou read_count read_areas read_groups size value head_in head_sound siou_sound
form-3 = refl

pub form-0 : behind_head (read_head (0 ∷ 0 ∷ 0 ∷ [])) ≡ not-kept Form
unfolding read_head read_aiou read_siou read_count read_areas read_groups size value head_in head_sound siou_sound
form-0 = refl

pub leftover : behind_head (read_head (2 ∷ 0 ∷ 0 ∷ 0 ∷ 0 ∷ [])) ≡ not-kept Leftover
unfolding read_head read_aiou read_siou read_count read_areas read_groups size value head_in head_sound siou_sound
leftover = refl

-- no SIOU without an AIOU, at once
pub bare-siou : behind_head (read_head (2 ∷ 0 ∷ 1 ∷ [])) ≡ not-kept Form
unfolding read_head read_aiou read_siou read_count read_areas read_groups size value head_in head_sound siou_sound
bare-siou = refl

-- SIOU + 1 is 512 at most: 513 is FORM, and after 512 the count is to come
pub siou-over : behind_head (read_head (2 ∷ 1 ∷ 129 ∷ 4 ∷ [])) ≡ not-kept Form
unfolding read_head read_aiou read_siou read_count read_areas read_groups size value head_in head_sound siou_sound
siou-over = refl

pub siou-last : behind_head (read_head (2 ∷ 1 ∷ 128 ∷ 4 ∷ [])) ≡ not-kept Short
unfolding read_head read_aiou read_siou read_count read_areas read_groups size value head_in head_sound siou_sound
siou-last = refl

-- no area without an AIOU
pub bare : behind_head (read_head (2 ∷ 0 ∷ 0 ∷ 1 ∷ [])) ≡ not-kept Form
unfolding read_head read_aiou read_siou read_count read_areas read_groups size value head_in head_sound siou_sound
bare = refl

-- a count that does not end
pub short : behind_head (read_head (2 ∷ 0 ∷ 0 ∷ 128 ∷ [])) ≡ not-kept Short
unfolding read_head read_aiou read_siou read_count read_areas read_groups size value head_in head_sound siou_sound
short = refl
