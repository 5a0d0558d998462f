-- Theorems: what is heard says what was told: no two things told are heard alike, and no two rows of them, where each place told has a field's number (`Named`), as each has that a desk
-- gives (`named_by`). Proved; assumes nothing.
use Rattle.std.specs.Prelude.{◌≡◌, refl, true, ◌&&◌, List, [], ◌∷◌, ℕ, ◌-◌, ◌*◌, ◌^◌, ◌<◌, ltb, leb, get_or, Option, Some, None}
use Rattle.std.proofs.Common.{sym, ap, ap₂, ◌∙◌, arith, ltb-true}
use Rattle.sizes.specs.Sizes.{longest_payload}
use Rattle.area.specs.Laws.{both_left, both_right}
use Rattle.answer.specs.Number.{number_of}
use Rattle.answer.specs.Place.{has_place, sf_in, at_in}
use Rattle.desk.specs.Answers.{answers_at, answers}
use Rattle.answer.specs.declared.Place.{Place}
use Rattle.answer.specs.declared.Fault.{Fault}
use Rattle.answer.specs.declared.Refusal.{Refusal}
use Rattle.answer.specs.declared.Refusal.TheVariants as refusal
use Rattle.frame.specs.declared.Frame.{Frame}
use Rattle.frame.specs.Results.{Seal}
use Rattle.prepare.specs.Uncut as uncut
use Rattle.export.specs.Frames.{is_sealed, sealing_of, header_of}
use Rattle.exportprepare.specs.Driver.{heard_of, heard_all}
use Rattle.exportprepare.specs.Driving.{counts}

-- ---- a refusal by its number

abbrev refusals : List Refusal
refusals =
    refusal.Short
    ∷ refusal.Preamble
    ∷ refusal.FrameCrc
    ∷ refusal.Length
    ∷ refusal.MessageCrc
    ∷ refusal.UnknownType
    ∷ refusal.MaskEmpty
    ∷ refusal.Field
    ∷ refusal.Room
    ∷ refusal.Sealed
    ∷ refusal.Tag
    ∷ refusal.NotOurs
    ∷ refusal.AreaOff
    ∷ refusal.Conflict
    ∷ refusal.BookFull
    ∷ refusal.Leftover
    ∷ refusal.State
    ∷ refusal.Form
    ∷ []

refusal-at : (why : Refusal) → get_or refusals (number_of why - 1) refusal.Short ≡ why
refusal-at refusal.Short = refl
refusal-at refusal.Preamble = refl
refusal-at refusal.FrameCrc = refl
refusal-at refusal.Length = refl
refusal-at refusal.MessageCrc = refl
refusal-at refusal.UnknownType = refl
refusal-at refusal.MaskEmpty = refl
refusal-at refusal.Field = refl
refusal-at refusal.Room = refl
refusal-at refusal.Sealed = refl
refusal-at refusal.Tag = refl
refusal-at refusal.NotOurs = refl
refusal-at refusal.AreaOff = refl
refusal-at refusal.Conflict = refl
refusal-at refusal.BookFull = refl
refusal-at refusal.Leftover = refl
refusal-at refusal.State = refl
refusal-at refusal.Form = refl

pub number-injective : (why other : Refusal) → number_of why ≡ number_of other → why ≡ other
number-injective why other e = sym (refusal-at why) ∙ ap (λ n. get_or refusals (n - 1) refusal.Short) e ∙ refusal-at other

-- ---- a place by its two numbers, where a field's number is not 0

abbrev pub Named : (Option Place) → Type 0
Named None = Unit {0}
Named (Some p) = 0 < p.sf

-- it is not 0 in what a desk refuses (`refusals` of crate desk)
pub named_by : (why : Fault) → answers why ≡ true → Named why.place
named_by why e = go why.place e
  where
    go : (p : (Option Place)) → answers_at p why.refusal ≡ true → Named p
    go None e = tt
    go (Some p) e =
        let rest : (ltb 0 p.sf && (ltb p.sf (2 ^ 24) && leb p.at (8 * longest_payload))) ≡ true = both_right (has_place why.refusal) _ e in
        ltb-true 0 p.sf (both_left (ltb 0 p.sf) _ rest)

place-injective : (p q : (Option Place)) → Named p → Named q → sf_in p ≡ sf_in q → at_in p ≡ at_in q → p ≡ q
place-injective None None n m e f = refl
place-injective None (Some p) n m e f = absurd (omega arith)
place-injective (Some p) None n m e f = absurd (omega arith)
place-injective (Some p) (Some q) n m e f = ap₂ (λ (s a : ℕ). Some (record { sf = s; at = a })) e f

-- ---- a header by its numbers

seal-injective : (s u : Seal) → is_sealed s ≡ is_sealed u → sealing_of s ≡ sealing_of u → s ≡ u
seal-injective None None e q = refl
seal-injective None (Some sealing) e q = absurd (omega arith)
seal-injective (Some sealing) None e q = absurd (omega arith)
seal-injective (Some sealing) (Some other) e q = ap Some q

pub header-injective : (f g : Frame) → header_of f ≡ header_of g → f ≡ g
unfolding header_of
header-injective f g e =
    let at : (k : ℕ) → get_or (header_of f) k 0 ≡ get_or (header_of g) k 0 = λ k. ap (λ l. get_or l k 0) e in
    let sealing : sealing_of f.seal ≡ sealing_of g.seal
    = λ i. record { id = at 10 i; sequence = at 11 i; authentication = at 12 i; authentication_length = at 13 i } in
    λ i. record {
      length = at 0 i;
      message_type = at 1 i;
      payload_length = at 2 i;
      seal = seal-injective f.seal g.seal (at 3) sealing i;
      check_type = at 4 i;
      subtype = at 5 i;
      tag_kind = at 6 i;
      tag = at 7 i;
      solution = at 8 i;
      processor = at 9 i;
      payload_at = at 14 i;
    }

-- ---- what is told, taken with the bytes of its entries or refused with its number, which is never 0, and its place

module _ (f g : Frame) (b b' : List ℕ) where
  accepted-injective : (n n' : List ℕ) → heard_of (uncut.accepted f b n) ≡ heard_of (uncut.accepted g b' n') → uncut.accepted f b n ≡ uncut.accepted g b' n'
  accepted-injective n n' e =
      let h : header_of f ≡ header_of g = cc in
      let p : b ≡ b' = cc in
      let q : n ≡ n' = cc in
      λ i. uncut.accepted (header-injective f g h i) (p i) (q i)

  refused-injective : (why why' : Fault) → Named why.place → Named why'.place → heard_of (uncut.refused f b why) ≡ heard_of (uncut.refused g b' why')
      → uncut.refused f b why ≡ uncut.refused g b' why'
  refused-injective why why' n n' e =
      let h : header_of f ≡ header_of g = cc in
      let p : b ≡ b' = cc in
      let q : number_of why.refusal ≡ number_of why'.refusal = cc in
      let s : sf_in why.place ≡ sf_in why'.place = cc in
      let a : at_in why.place ≡ at_in why'.place = cc in
      let r = number-injective why.refusal why'.refusal q in
      let l = place-injective why.place why'.place n n' s a in
      λ i. uncut.refused (header-injective f g h i) (p i) (record { refusal = r i; place = l i })

-- what is asked of a thing told: its place has a field's number, as one that a desk gives has (`named_by`)
abbrev pub NamedTold : uncut.Told → Type 0
NamedTold (uncut.accepted f b n) = Unit {0}
NamedTold (uncut.refused f b why) = Named why.place
NamedTold (uncut.noise n) = Unit {0}

pub heard-injective : (t u : uncut.Told) → NamedTold t → NamedTold u → heard_of t ≡ heard_of u → t ≡ u
heard-injective (uncut.accepted f b n) (uncut.accepted g b' n') x y e = accepted-injective f g b b' n n' e
heard-injective (uncut.accepted f b n) (uncut.refused g b' why) x y e = let z : 0 ≡ number_of why.refusal = cc in absurd (omega (arith, counts why.refusal))
heard-injective (uncut.accepted f b n) (uncut.noise k) x y e = let z : ◌≡◌ {A = ℕ} 0 1 = cc in absurd (omega arith)
heard-injective (uncut.refused f b why) (uncut.accepted g b' n) x y e = let z : number_of why.refusal ≡ 0 = cc in absurd (omega (arith, counts why.refusal))
heard-injective (uncut.refused f b why) (uncut.refused g b' why') x y e = refused-injective f g b b' why why' x y e
heard-injective (uncut.refused f b why) (uncut.noise k) x y e = let z : ◌≡◌ {A = ℕ} 0 1 = cc in absurd (omega arith)
heard-injective (uncut.noise n) (uncut.accepted g b' n') x y e = let z : ◌≡◌ {A = ℕ} 0 1 = cc in absurd (omega arith)
heard-injective (uncut.noise n) (uncut.refused g b' why) x y e = let z : ◌≡◌ {A = ℕ} 0 1 = cc in absurd (omega arith)
heard-injective (uncut.noise n) (uncut.noise k) x y e = let z : n ≡ k = cc in ap uncut.noise z

pub data AllNamed : List uncut.Told → Type 0 where
  none : AllNamed []
  more : {t : uncut.Told} {ts : List uncut.Told} → NamedTold t → AllNamed ts → AllNamed (t ∷ ts)

pub heard-all-injective : (ts us : List uncut.Told) → AllNamed ts → AllNamed us → heard_all ts ≡ heard_all us → ts ≡ us
unfolding heard_all
heard-all-injective [] [] x y e = refl
heard-all-injective [] (u ∷ us) x y e = let z : ◌≡◌ {A = ℕ} 0 1 = cc in absurd (omega arith)
heard-all-injective (t ∷ ts) [] x y e = let z : ◌≡◌ {A = ℕ} 0 1 = cc in absurd (omega arith)
heard-all-injective (t ∷ ts) (u ∷ us) (more a xs) (more b ys) e =
    let h : heard_of t ≡ heard_of u = cc in
    let r : heard_all ts ≡ heard_all us = cc in
    ap₂ (λ t ts. t ∷ ts) (heard-injective t u a b h) (heard-all-injective ts us xs ys r)
