-- Laws: a tray and a book that are written as numbers and read again are the same. Proved; assumes nothing.
use Rattle.std.specs.Prelude.{◌≡◌, refl, Bool, true, false, cond, ◌&&◌, List, [], ◌∷◌, ℕ, ◌+◌, ◌-◌, ◌≤◌, ◌<◌, ltb, leb, eqb}
use Rattle.std.proofs.Common.{ap, sym, ◌∙◌, pos_of_ne-zero, arith, lt-ltb, eqb-true}
use Rattle.std.specs.Bool.{beq}
use Rattle.std.proofs.lemmas.Bool.{eqb-false}
use Rattle.sizes.specs.Sizes.{most_areas, most_noise}
use Rattle.book.specs.Book.{book_of as book_with, no_book, siou_sound, head_sound}
use Rattle.book.specs.Laws.{head-parts, siou-most, siou-none}
use Rattle.book.specs.declared.Book.{Book}
use Rattle.stream.specs.Kept.{Kept}
use Rattle.stream.specs.Scan.{Event, frame, noise}
use Rattle.stream.specs.Tray.{Contents}
use Rattle.stream.specs.Sound.{both}
use Rattle.stream.specs.declared.Tray.{Tray}
use Rattle.export.specs.Numbers.{laid, at_most}
use Rattle.export.specs.Books.{book_in, book_of}
use Rattle.export.specs.Streams.{tray_in, tray_of}

-- a number below the highest that counts is itself
pub most-under : (most x : ℕ) → x < most → at_most most x ≡ x
unfolding at_most
most-under most x h = let z : ltb x most ≡ true = lt-ltb _ _ h in rw z

-- ---- a tray

pub tray-back : (tray : Tray) (lent : List ℕ) → tray.noise < most_noise → tray_in (laid (tray_of tray) lent) ≡ tray
unfolding tray_in tray_of laid
tray-back tray lent h = rw (most-under most_noise tray.noise h)

-- the noise that is counted beside an event
pub event-noise : (event : Event) (c : Contents) → Kept event c → c.noise < most_noise
event-noise (frame f bytes) c g = omega (arith, g.3)
event-noise (noise n) c g = omega (arith, g.1)

-- ---- a book

-- of a sound book AIOU and count are both there, or neither is, and then no SIOU either
pub book-back : (book : Book) → head_sound book ≡ true → book_in ((book.aiou_plus_one - 1) ∷ book.siou_plus_one ∷ book.count ∷ []) ≡ book
unfolding head_sound book_in
book-back book e = go (eqb book.count 0) refl
  where
    a : ℕ
    a = book.aiou_plus_one

    s : ℕ
    s = book.siou_plus_one

    alike : beq (eqb a 0) (eqb book.count 0) ≡ true
    alike = (both (beq (eqb a 0) (eqb book.count 0)) (siou_sound a s && (leb a 16 && leb book.count most_areas)) e).0

    fits : siou_sound a s ≡ true
    fits = (head-parts book e).2

    none : (x : Bool) → eqb a 0 ≡ x → beq x true ≡ true → a ≡ 0
    none true q h = eqb-true a 0 q
    none false q h = let z : ◌≡◌ {A = ℕ} 0 1 = cc in absurd (omega arith)

    some : (x : Bool) → eqb a 0 ≡ x → beq x false ≡ true → a ≡ 0 → ⊥
    some false q h = eqb-false a 0 q
    some true q h = let z : ◌≡◌ {A = ℕ} 0 1 = cc in absurd (omega arith)

    go : (b : Bool) → eqb book.count 0 ≡ b
        → cond b no_book (book_with (at_most 16 (a - 1) + 1) (at_most 513 s) book.count) ≡ book
    go true q =
        let h : beq (eqb a 0) true ≡ true = ap (beq (eqb a 0)) (sym q) ∙ alike in
        let n : a ≡ 0 = none (eqb a 0) refl h in
        let k : s ≡ 0 = siou-none s (ap (λ (x : ℕ). siou_sound x s) (sym n) ∙ fits) in
        let m : book.count ≡ 0 = eqb-true book.count 0 q in
        sym (ap (λ (x : ℕ). book_with x s book.count) n ∙ ap (λ (x : ℕ). book_with 0 x book.count) k ∙ ap (book_with 0 0) m)
    go false q =
        let h : beq (eqb a 0) false ≡ true = ap (beq (eqb a 0)) (sym q) ∙ alike in
        let n : a ≡ 0 → ⊥ = some (eqb a 0) refl h in
        let k : a ≤ 16 = (head-parts book e).0 in
        let w : at_most 16 (a - 1) ≡ a - 1 = most-under 16 (a - 1) (omega (arith, pos_of_ne-zero n)) in
        let v : at_most 513 s ≡ s = most-under 513 s (omega (arith, siou-most a s fits)) in
        ap (λ (x : ℕ). book_with (at_most 16 (a - 1) + 1) x book.count) v
        ∙ ap (λ (x : ℕ). book_with x s book.count) (ap (λ (x : ℕ). x + 1) w ∙ omega (arith, pos_of_ne-zero n))

-- whatever lies behind its three numbers
pub book-laid : (book : Book) (lent : List ℕ) → head_sound book ≡ true → book_in (laid (book_of book) lent) ≡ book
unfolding book_in book_of laid
book-laid book lent e = book-back book e
