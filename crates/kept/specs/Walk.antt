-- Serves proofs, and is proved: what the functions that read answer, by places in the bytes. Assumes nothing.
use Rattle.std.proofs.Math.Path.{◌≡◌, ap, ap₂}
use Rattle.std.proofs.Common.{sym, ◌∙◌, arith, drop-drop}
use Rattle.std.specs.Prelude.{List, [], ◌∷◌, ◌++◌, ℕ, ◌+◌, ◌*◌, ◌≤◌, length, Bool, true, false, Ok, Err}
use Rattle.std.proofs.Math.ListN.{drop}
use Rattle.answer.specs.Stop.{stop}
use Rattle.answer.specs.Pairs.{ok-first, ok-second}
use Rattle.answer.specs.declared.Refusal.{Refusal}
use Rattle.answer.specs.declared.Refusal.TheVariants.{Form}
use Rattle.book.specs.Book.{bytes_of_all}
use Rattle.book.specs.declared.Book.{Book}
use Rattle.groups.specs.Groups.{groups_of_all, read_groups, next_by, next_of}
use Rattle.groups.specs.Results.{Read}
use Rattle.groups.specs.Results.{Next}
use Rattle.kept.specs.Kept.{newest_form, Said, said, refused, behind, number}
use Rattle.kept.specs.Results.{Head}
use Rattle.kept.specs.Results.{Ended}

-- what is written before the count, and before the areas
abbrev pub issue_bytes : Book → List ℕ
issue_bytes book = groups_of_all (newest_form ∷ book.aiou_plus_one ∷ book.siou_plus_one ∷ [])

abbrev pub head_bytes : Book → List ℕ
head_bytes book = groups_of_all (newest_form ∷ book.aiou_plus_one ∷ book.siou_plus_one ∷ book.count ∷ [])

-- the head was read up to a place, or refused
abbrev pub HeadIs : List ℕ → Said Book → Head → Type 0
HeadIs s o (Ok (book, at)) = (o ≡ said book (drop at s)) × (at ≤ length s)
HeadIs s o (Err r) = o ≡ refused r

-- areas were read up to a place
pub record Areas (s : List ℕ) (o : Said (List ℕ)) (end : ℕ) : Type 0 where
  pub list : List ℕ
  pub is : o ≡ said list (drop end s)
  pub there : end ≤ length s

abbrev pub EndIs : List ℕ → Said (List ℕ) → Ended → Type 0
EndIs s o (Ok end) = Areas s o end
EndIs s o (Err r) = o ≡ refused r

-- what is to lie in the bytes
abbrev pub stored_by : Said (List ℕ) → List ℕ → List ℕ
stored_by (said l rest) bytes = bytes_of_all l ++ drop (6 * length l) bytes
stored_by (refused r) bytes = bytes

abbrev pub is_said : Said (List ℕ) → Bool
is_said (said l rest) = true
is_said (refused r) = false

module _ {A : Type 0} (s : List ℕ) (at : ℕ) (v : Next) (e : v ≡ next_of s at) (k : ℕ → List ℕ → Said A) where
  pub step-on : (x end : ℕ) → v ≡ Ok (x, end) → number (drop at s) k ≡ k x (drop end s)
  unfolding next_of
  step-on x end q = go (read_groups (drop at s)) (sym e ∙ q)
    where
      go : (r : Read) → next_by r at ≡ Ok (x, end) → behind r (drop at s) k ≡ k x (drop end s)
      go (Ok (y, n)) z =
          let a : y ≡ x = ok-first z in
          let b : at + n ≡ end = ok-second z in
          ap₂ k a (drop-drop n at s ∙ ap (λ j. drop j s) b)
      go (Err r) z = let w : ◌≡◌ {A = ℕ} 0 1 = cc in absurd (omega arith)

  pub step-off : (r : Refusal) → v ≡ Err r → number (drop at s) k ≡ refused r
  unfolding next_of
  step-off r q = go (read_groups (drop at s)) (sym e ∙ q)
    where
      go : (w : Read) → next_by w at ≡ Err r → behind w (drop at s) k ≡ refused r
      go (Ok (y, n)) z = let w : ◌≡◌ {A = ℕ} 0 1 = cc in absurd (omega arith)
      go (Err t) z = let w : t ≡ r = cc in ap refused w

-- a number that is to pass a test
module _ {A : Type 0} (s : List ℕ) (at : ℕ) (v : Next) (e : v ≡ next_of s at) (test : ℕ → Bool) (k : ℕ → List ℕ → Said A) (x end : ℕ) (q : v ≡ Ok (x, end)) where
  tested : (b : Bool) → test x ≡ b → number (drop at s) (λ y t. stop (test y) (refused Form) (k y t)) ≡ stop b (refused Form) (k x (drop end s))
  tested b w = step-on s at v e (λ y t. stop (test y) (refused Form) (k y t)) x end q ∙ ap (λ b. stop b (refused Form) (k x (drop end s))) w

  pub step-form : test x ≡ true → number (drop at s) (λ y t. stop (test y) (refused Form) (k y t)) ≡ refused Form
  step-form w = tested true w

  pub step_past : test x ≡ false → number (drop at s) (λ y t. stop (test y) (refused Form) (k y t)) ≡ k x (drop end s)
  step_past w = tested false w
