-- Laws: where reading a kept book stops, with SHORT at a number that does not end and with FORM at one that breaks the form; and that there is no other refusal but LEFTOVER. Proved; assumes nothing.
use Rattle.std.proofs.Math.Path.{◌≡◌, refl, ap, subst}
use Rattle.std.proofs.Common.{ap₂, sym, ◌∙◌, inl, inr, arith}
use Rattle.std.specs.Prelude.{◌⊎◌, Bool, ◌||◌, ltb, length, drop, Ok, Err}
use Rattle.std.proofs.Math.Bool.{true, false, cond, not}
use Rattle.std.proofs.lemmas.Bool.{false≢true}
use mathlib.Core.List.{List, [], ◌∷◌, ◌++◌, append_assoc, append-nil}
use Prim.Native.Nat.{ℕ, zero, suc, ◌+◌, ◌≤◌}
use Rattle.std.proofs.Math.Dec.{eqb}
use borrow.Author.Tests.{le-ltb, ltb-false, not-false}
use Rattle.answer.specs.Stop.{stop}
use Rattle.answer.specs.declared.Refusal.{Refusal}
use Rattle.answer.specs.declared.Refusal.TheVariants.{Short, Form, Leftover}
use Rattle.bits.specs.Bits.{Bytes}
use Rattle.bits.specs.Laws.{bytes_drop}
use Rattle.area.specs.Area.{sf031}
use Rattle.area.specs.Plain.{plain}
use Rattle.sizes.specs.Sizes.{most_areas}
use Rattle.book.specs.Book.{book_of, siou_sound}
use Rattle.book.specs.Laws.{head-parts, siou-unknown}
use Rattle.book.specs.declared.Book.{Book}
use Rattle.groups.specs.Groups.{groups_of, groups_of_all, size, read_groups}
use Rattle.groups.specs.Laws.{written_read, groups-all-append}
use Rattle.groups.specs.Rows.{unended-short, short-unended, read-refusals}
use Rattle.groups.specs.Results.{Read}
use Rattle.kept.specs.Kept.{is_form, has_siou, head_in, numbers_in, kept_in, Said, said, refused, behind, number, fits, with_area, read_areas, read_count, read_siou, read_aiou, read_head, Outcome, kept, not-kept, whole, behind_head}
use Rattle.kept.specs.AreaRows.{Row, row_more, row_fits, row-tail, sound-row, following, following-row, fits-parts}
use Rattle.kept.specs.RoundTrip.{Says, in-sound, in-siou, unsaid, area-past, past-form, past-aiou, past-siou, past-none, past-count, areas-were, HeadWas, head-was}
use Rattle.kept.specs.Ends.{SoundBook, numbers_of, IsBook, GoesOn, Begins, EndsEarly, CanFollow, Breaks, BreaksForm}
use Rattle.kept.specs.EndsLaws.{head_of, numbers-head, numbers_more, numbers-same, Made, sound_book, made, begins-by, can-by, can, at-form, at-aiou, at-siou, at_count, areas_of}

-- ---- where reading stops

-- at a number that is refused, or, with FORM, at one after which no sound book can follow
pub data Stopped (numbers rest : List ℕ) (r : Refusal) : Type 0 where
  ill-formed : read_groups rest ≡ Err r → Stopped numbers rest r
  no-book : r ≡ Form → (x n : ℕ) → read_groups rest ≡ Ok (x, n) → (CanFollow (numbers ++ (x ∷ [])) → ⊥) → Stopped numbers rest r

-- some bytes begin well, and then comes such a number
pub record Stops (s : List ℕ) (r : Refusal) : Type 0 where
  pub numbers : List ℕ
  pub rest : List ℕ
  pub is : s ≡ groups_of_all numbers ++ rest
  pub begins : Begins numbers
  pub stopped : Stopped numbers rest r

-- so SHORT where the numbers end early, FORM where they break the form
pub stops-early : (s : List ℕ) → Stops s Short → EndsEarly s
stops-early s w = record { numbers = w.numbers; rest = w.rest; finished = record { is = w.is; unended = go w.stopped }; begins = w.begins }
  where
    go : Stopped w.numbers w.rest Short → size w.rest ≡ 0
    go (Stopped.ill-formed z) = short-unended w.rest z
    go (Stopped.no-book e x n z never) = let q : ◌≡◌ {A = ℕ} 0 1 = cc in absurd (omega arith)

pub early-stops : (s : List ℕ) → EndsEarly s → Stops s Short
early-stops s w =
    record { numbers = w.numbers; rest = w.rest; is = w.finished.is; begins = w.begins; stopped = Stopped.ill-formed (unended-short w.rest w.finished.unended) }

pub stops-breaks : (s : List ℕ) → Stops s Form → BreaksForm s
stops-breaks s w = record { numbers = w.numbers; rest = w.rest; is = w.is; begins = w.begins; breaks = go w.stopped }
  where
    go : Stopped w.numbers w.rest Form → Breaks w.numbers w.rest
    go (Stopped.ill-formed z) = Breaks.ill-formed z
    go (Stopped.no-book e x n z never) = Breaks.no-book x n z never

pub breaks-stops : (s : List ℕ) → BreaksForm s → Stops s Form
breaks-stops s w = record { numbers = w.numbers; rest = w.rest; is = w.is; begins = w.begins; stopped = go w.breaks }
  where
    go : Breaks w.numbers w.rest → Stopped w.numbers w.rest Form
    go (Breaks.ill-formed z) = Stopped.ill-formed z
    go (Breaks.no-book x n z never) = Stopped.no-book refl x n z never

-- and there is no other refusal
abbrev pub Fault : Refusal → Type 0
Fault r = (r ≡ Short) ⊎ (r ≡ Form)

pub stops-fault : (s : List ℕ) (r : Refusal) → Stops s r → Fault r
stops-fault s r w = go w.stopped
  where
    go : Stopped w.numbers w.rest r → Fault r
    go (Stopped.ill-formed z) = read-refusals w.rest r z
    go (Stopped.no-book e x n z never) = inr e

-- ---- what can follow passes the tests

can-form : (x : ℕ) → CanFollow (x ∷ []) → is_form x ≡ true
unfolding numbers_in
can-form x c =
    let g : x ∷ c.others ≡ numbers_of c.of = c.goes_on in
    let e : x ≡ c.of.form = cc in
    ap is_form e ∙ c.of.is-form

can-aiou : (f x : ℕ) → CanFollow (f ∷ x ∷ []) → x ≤ 16
unfolding numbers_in
can-aiou f x c =
    let g : f ∷ x ∷ c.others ≡ numbers_of c.of = c.goes_on in
    let e : x ≡ c.of.book.aiou_plus_one = cc in
    omega (arith, (head-parts c.of.book (in-sound c.of.form c.of.book c.of.in-form)).0)

can-siou : (f aiou x : ℕ) → has_siou f ≡ true → CanFollow (f ∷ aiou ∷ x ∷ []) → siou_sound aiou x ≡ true
unfolding numbers_in
can-siou f aiou x z c =
    let g : f ∷ aiou ∷ x ∷ c.others ≡ numbers_of c.of = c.goes_on in
    let ef : f ≡ c.of.form = cc in
    let ea : aiou ≡ c.of.book.aiou_plus_one = cc in
    let et : x ∷ c.others ≡ cond (has_siou c.of.form) (c.of.book.siou_plus_one ∷ c.of.book.count ∷ areas_of c.of) (c.of.book.count ∷ areas_of c.of) = cc in
    let ez : has_siou c.of.form ≡ true = ap has_siou (sym ef) ∙ z in
    let eu : x ∷ c.others ≡ c.of.book.siou_plus_one ∷ c.of.book.count ∷ areas_of c.of
    = et ∙ ap (λ b. cond b (c.of.book.siou_plus_one ∷ c.of.book.count ∷ areas_of c.of) (c.of.book.count ∷ areas_of c.of)) ez in
    let es : x ≡ c.of.book.siou_plus_one = cc in
    ap₂ siou_sound ea es ∙ (head-parts c.of.book (in-sound c.of.form c.of.book c.of.in-form)).2

can-count : (f aiou siou x : ℕ) → (has_siou f || eqb siou 0) ≡ true → CanFollow (head_of f aiou siou ++ (x ∷ [])) → head_in f (book_of aiou siou x) ≡ true
can-count f aiou siou x k c =
    let g : numbers_in f (book_of aiou siou x) c.others ≡ numbers_of c.of
    = sym (numbers-head f (book_of aiou siou x) c.others) ∙ sym (append_assoc (head_of f aiou siou) (x ∷ []) c.others) ∙ c.goes_on in
    let w = numbers-same f c.of.form (book_of aiou siou x) c.of.book c.others (areas_of c.of) k (in-siou c.of.form c.of.book c.of.in-form) g in
    ap₂ head_in w.forms w.books ∙ c.of.in-form

-- an area behind others: they are a row with it
can-row : (f : ℕ) (book : Book) (before : List ℕ) (x : ℕ) → Says f book → (c : CanFollow (numbers_in f book before ++ (x ∷ []))) → Row book.count 0 (before ++ (x ∷ c.others))
can-row f book before x says c =
    let g : numbers_in f book (before ++ (x ∷ c.others)) ≡ numbers_of c.of
    = sym (numbers_more f book before (x ∷ c.others)) ∙ sym (append_assoc (numbers_in f book before) (x ∷ []) c.others) ∙ c.goes_on in
    let w = numbers-same f c.of.form book c.of.book (before ++ (x ∷ c.others)) (areas_of c.of) (in-siou f book says.in-form) (in-siou c.of.form c.of.book c.of.in-form) g in
    subst (λ l. Row book.count 0 l) (sym w.areas)
    (subst (λ (b : Book). Row b.count 0 (areas_of c.of)) (sym w.books) (sound-row c.of.book c.of.bytes c.of.is-sound))

-- ---- reading that is refused stops

inside : (a : ℕ) (o : Said (List ℕ)) (r : Refusal) → with_area a o ≡ refused r → o ≡ refused r
inside a (said l rest) r q = let w : ◌≡◌ {A = ℕ} 0 1 = cc in absurd (omega arith)
inside a (refused w) r q = q

module _ (s : List ℕ) (r : Refusal) where
  -- at a number, at its test, or behind it
  number-stops : {A : Type 0} (numbers u : List ℕ) → s ≡ groups_of_all numbers ++ u → Bytes u → Begins numbers → (test : ℕ → Bool) (k : ℕ → List ℕ → Said A)
      → ((x : ℕ) → CanFollow (numbers ++ (x ∷ [])) → test x ≡ false)
      → ((x : ℕ) (t : List ℕ) → test x ≡ false → s ≡ groups_of_all (numbers ++ (x ∷ [])) ++ t → Bytes t → k x t ≡ refused r → Stops s r)
      → number u (λ x t. stop (test x) (refused Form) (k x t)) ≡ refused r → Stops s r
  unfolding groups_of_all
  number-stops {A} numbers u is b begins test k passes on = go (read_groups u) refl
    where
      here : Stopped numbers u r → Stops s r
      here z = record { numbers = numbers; rest = u; is = is; begins = begins; stopped = z }

      more : (x : ℕ) (t : List ℕ) → u ≡ groups_of x ++ t → s ≡ groups_of_all (numbers ++ (x ∷ [])) ++ t
      more x t e =
          is ∙ ap (λ u. groups_of_all numbers ++ u) (e ∙ ap (λ g. g ++ t) (sym (append-nil (groups_of x))))
          ∙ sym (append_assoc (groups_of_all numbers) (groups_of x ++ []) t) ∙ ap (λ l. l ++ t) (sym (groups-all-append numbers (x ∷ [])))

      tested : (x n : ℕ) → read_groups u ≡ Ok (x, n) → (z : Bool) → test x ≡ z → stop z (refused Form) (k x (drop n u)) ≡ refused r → Stops s r
      tested x n p true z e =
          let er : r ≡ Form = cc in
          here (Stopped.no-book er x n p (λ c. false≢true (sym (passes x c) ∙ z)))
      tested x n p false z e = on x (drop n u) z (more x (drop n u) (written_read u x n b p)) (bytes_drop n b) e

      go : (v : Read) → read_groups u ≡ v → behind v u (λ x t. stop (test x) (refused Form) (k x t)) ≡ refused r → Stops s r
      go (Ok (x, n)) p e = tested x n p (test x) refl e
      go (Err w) p e =
          let q : w ≡ r = cc in
          here (Stopped.ill-formed (p ∙ ap Err q))

  -- the areas, behind those before them
  areas-stop : (f : ℕ) (book : Book) (says : Says f book) (n least : ℕ) (before u : List ℕ) → least + n ≤ 256 → s ≡ groups_of_all (numbers_in f book before) ++ u → Bytes u
      → ((l : List ℕ) → Row n least l → Row book.count 0 (before ++ l)) → ((l : List ℕ) → Row book.count 0 (before ++ l) → Row n least l)
      → read_areas n least u ≡ refused r → Stops s r
  unfolding read_areas following
  areas-stop f book says zero least before u h is b to from e = let w : ◌≡◌ {A = ℕ} 0 1 = cc in absurd (omega arith)
  areas-stop f book says (suc n) least before u h is b to from e =
      number-stops (numbers_in f book before) u is b
      (begins-by (numbers_in f book before) f book (before ++ following (suc n) least) says (to (following (suc n) least) (following-row (suc n) least h)) (plain least) (following n (suc least))
      (numbers_more f book before (plain least ∷ following n (suc least))))
      (λ a. not (fits n least a)) (λ a t. with_area a (read_areas n (suc (sf031 a)) t))
      (λ a c. ap not (row_fits n least a c.others (from (a ∷ c.others) (can-row f book before a says c))))
      (λ a t z is bt q. let g : fits n least a ≡ true = not-false (fits n least a) z in
      areas-stop f book says n (suc (sf031 a)) (before ++ (a ∷ [])) t (omega (arith, (fits-parts n least a g).1))
      (is ∙ ap (λ l. groups_of_all l ++ t) (numbers_more f book before (a ∷ []))) bt
      (λ l w. subst (λ l. Row book.count 0 l) (sym (append_assoc before (a ∷ []) l)) (to (a ∷ l) (row_more n least a l g w)))
      (λ l w. row-tail n least a l (from (a ∷ l) (subst (λ l. Row book.count 0 l) (append_assoc before (a ∷ []) l) w)))
      (inside a (read_areas n (suc (sf031 a)) t) r q))
      e

  -- the head
  count-stops : (f aiou siou : ℕ) (u : List ℕ) → s ≡ groups_of_all (head_of f aiou siou) ++ u → Bytes u → Begins (head_of f aiou siou) → (has_siou f || eqb siou 0) ≡ true
      → read_count f aiou siou u ≡ refused r → Stops s r
  unfolding read_count
  count-stops f aiou siou u is b begins k =
      number-stops (head_of f aiou siou) u is b begins (λ count. not (head_in f (book_of aiou siou count))) (λ count s. said (book_of aiou siou count) s)
      (λ x c. ap not (can-count f aiou siou x k c))
      (λ x t z is b q. let w : ◌≡◌ {A = ℕ} 0 1 = cc in absurd (omega arith))

  siou-stops : (f aiou : ℕ) (u : List ℕ) → s ≡ groups_of_all (f ∷ aiou ∷ []) ++ u → Bytes u → is_form f ≡ true → aiou ≤ 16 → read_siou f aiou u ≡ refused r → Stops s r
  unfolding read_siou
  siou-stops f aiou u is b i h = go (has_siou f) refl
    where
      go : (z : Bool) → has_siou f ≡ z → cond z (number u (λ siou s. stop (not (siou_sound aiou siou)) (refused Form) (read_count f aiou siou s))) (read_count f aiou 0 u) ≡ refused r → Stops s r
      go true z e =
          number-stops (f ∷ aiou ∷ []) u is b (at-siou f i aiou h) (λ siou. not (siou_sound aiou siou)) (read_count f aiou) (λ x c. ap not (can-siou f aiou x z c))
          (λ siou t e is b q. let k : (has_siou f || eqb siou 0) ≡ true = ap (λ b. b || eqb siou 0) z in
          count-stops f aiou siou t (is ∙ ap (λ b. groups_of_all (f ∷ aiou ∷ cond b (siou ∷ []) []) ++ t) (sym z)) b (at_count f i aiou h siou (not-false (siou_sound aiou siou) e) k) k q)
          e
      go false z e =
          let k : (has_siou f || eqb 0 0) ≡ true = ap (λ b. b || eqb 0 0) z in
          count-stops f aiou 0 u (is ∙ ap (λ b. groups_of_all (f ∷ aiou ∷ cond b (0 ∷ []) []) ++ u) (sym z)) b (at_count f i aiou h 0 (siou-unknown aiou) k) k e

  head-stops : Bytes s → read_head s ≡ refused r → Stops s r
  unfolding read_head read_aiou groups_of_all
  head-stops b =
      number-stops [] s refl b at-form (λ f. not (is_form f)) read_aiou (λ x c. ap not (can-form x c))
      (λ f t e is b. let i : is_form f ≡ true = not-false (is_form f) e in
      number-stops (f ∷ []) t is b (at-aiou f i) (ltb 16) (read_siou f) (λ x c. le-ltb 16 x (can-aiou f x c)) (λ aiou u e is b. siou-stops f aiou u is b i (ltb-false 16 aiou e)))

whole-refused : (book : Book) (o : Said (List ℕ)) (r : Refusal) → whole book o ≡ not-kept r → (r ≡ Leftover → ⊥) → o ≡ refused r
whole-refused book (said l []) r q n = let w : ◌≡◌ {A = ℕ} 0 1 = cc in absurd (omega arith)
whole-refused book (said l (x ∷ u)) r q n = absurd (n cc)
whole-refused book (refused v) r q n = cc

module _ (s : List ℕ) (b : Bytes s) where
  areas-behind : (book : Book) (t : List ℕ) → read_head s ≡ said book t → (r : Refusal) → read_areas book.count 0 t ≡ refused r → Stops s r
  unfolding groups_of_all
  areas-behind book t p r q =
      let h : HeadWas s book t = head-was s book t p in
      let n : book.count ≤ most_areas = (head-parts book (in-sound h.number book h.says.in-form)).1 in
      areas-stop s r h.number book h.says book.count 0 [] t (omega arith) (h.is b [] t refl) (h.bytes b) (λ l w. w) (λ l w. w) q

  pub stops-only : (r : Refusal) → behind_head (read_head s) ≡ not-kept r → (r ≡ Leftover → ⊥) → Stops s r
  stops-only r e n = go (read_head s) refl e
    where
      go : (o : Said Book) → read_head s ≡ o → behind_head o ≡ not-kept r → Stops s r
      go (refused w) p q = let z : w ≡ r = cc in head-stops s r b (p ∙ ap refused z)
      go (said book t) p q = areas-behind book t p r (whole-refused book (read_areas book.count 0 t) r q n)

-- ---- reading that stops is refused

module _ (rest : List ℕ) (r : Refusal) where
  stopped-number : {A : Type 0} (numbers : List ℕ) → Stopped numbers rest r → (test : ℕ → Bool) (k : ℕ → List ℕ → Said A) → ((x : ℕ) → test x ≡ false → CanFollow (numbers ++ (x ∷ [])))
      → number rest (λ x t. stop (test x) (refused Form) (k x t)) ≡ refused r
  stopped-number numbers (Stopped.ill-formed z) test k follows = ap (λ v. behind v rest (λ x t. stop (test x) (refused Form) (k x t))) z
  stopped-number {A} numbers (Stopped.no-book e x n z never) test k follows =
      ap (λ v. behind v rest (λ x t. stop (test x) (refused Form) (k x t))) z ∙ go (test x) refl
    where
      go : (b : Bool) → test x ≡ b → stop b (refused Form) (k x (drop n rest)) ≡ refused r
      go true q = ap refused (sym e)
      go false q = absurd (never (follows x q))

  stopped-areas : (f : ℕ) (book : Book) (says : Says f book) (n least : ℕ) (before m : List ℕ) (next : ℕ) (others : List ℕ) → Row n least (m ++ (next ∷ others))
      → ((l : List ℕ) → Row n least l → Row book.count 0 (before ++ l)) → Stopped (numbers_in f book (before ++ m)) rest r → read_areas n least (groups_of_all m ++ rest) ≡ refused r
  unfolding read_areas groups_of_all
  stopped-areas f book says zero least before [] next others w to z = let c : suc (length others) ≡ 0 = w.count in absurd (omega arith)
  stopped-areas f book says zero least before (a ∷ m) next others w to z = let c : suc (length (m ++ (next ∷ others))) ≡ 0 = w.count in absurd (omega arith)
  stopped-areas f book says (suc n) least before [] next others w to z =
      stopped-number (numbers_in f book before) (subst (λ l. Stopped (numbers_in f book l) rest r) (append-nil before) z) (λ a. not (fits n least a)) (λ a t. with_area a (read_areas n (suc (sf031 a)) t))
      (λ x q. let g : fits n least x ≡ true = not-false (fits n least x) q in
      can-by (numbers_in f book before ++ (x ∷ [])) f book (before ++ (x ∷ following n (suc (sf031 x)))) says
      (to (x ∷ following n (suc (sf031 x))) (row_more n least x (following n (suc (sf031 x))) g (following-row n (suc (sf031 x)) (omega (arith, (fits-parts n least x g).1)))))
      (following n (suc (sf031 x)))
      (append_assoc (numbers_in f book before) (x ∷ []) (following n (suc (sf031 x))) ∙ numbers_more f book before (x ∷ following n (suc (sf031 x)))))
  stopped-areas f book says (suc n) least before (a ∷ m) next others w to z =
      let g : fits n least a ≡ true = row_fits n least a (m ++ (next ∷ others)) w in
      area-past n least a m rest g
      ∙ ap (with_area a)
      (stopped-areas f book says n (suc (sf031 a)) (before ++ (a ∷ [])) m next others (row-tail n least a (m ++ (next ∷ others)) w)
      (λ l v. subst (λ l. Row book.count 0 l) (sym (append_assoc before (a ∷ []) l)) (to (a ∷ l) (row_more n least a l g v)))
      (subst (λ l. Stopped (numbers_in f book l) rest r) (sym (append_assoc before (a ∷ []) m)) z))

  module _ (f : ℕ) (book : Book) (says : Says f book) (l : List ℕ) (row : Row book.count 0 l) where
    abbrev aiou : ℕ
    aiou = book.aiou_plus_one

    abbrev siou : ℕ
    siou = book.siou_plus_one

    stopped-count : (m : List ℕ) (next : ℕ) (others : List ℕ) → m ++ (next ∷ others) ≡ book.count ∷ l → Stopped (head_of f aiou siou ++ m) rest r
        → behind_head (read_count f aiou siou (groups_of_all m ++ rest)) ≡ not-kept r
    unfolding read_count groups_of_all
    stopped-count [] next others e z =
        ap behind_head
        (stopped-number (head_of f aiou siou) (subst (λ l. Stopped l rest r) (append-nil (head_of f aiou siou)) z) (λ count. not (head_in f (book_of aiou siou count)))
        (λ count s. said (book_of aiou siou count) s) (λ x q. follows x (not-false (head_in f (book_of aiou siou x)) q)))
      where
        follows : (x : ℕ) → head_in f (book_of aiou siou x) ≡ true → CanFollow (head_of f aiou siou ++ (x ∷ []))
        follows x q =
            let h : x ≤ most_areas = (head-parts (book_of aiou siou x) (in-sound f (book_of aiou siou x) q)).1 in
            can-by (head_of f aiou siou ++ (x ∷ [])) f (book_of aiou siou x) (following x 0) (record { is-form = says.is-form; in-form = q }) (following-row x 0 (omega arith)) (following x 0)
            (append_assoc (head_of f aiou siou) (x ∷ []) (following x 0) ∙ numbers-head f (book_of aiou siou x) (following x 0))
    stopped-count (count ∷ m) next others e z =
        let ec : count ≡ book.count = cc in
        let el : m ++ (next ∷ others) ≡ l = cc in
        ap behind_head (ap (λ x. read_count f aiou siou (groups_of_all (x ∷ m) ++ rest)) ec ∙ past-count f book m rest says.in-form)
        ∙ ap (whole book)
        (stopped-areas f book says book.count 0 [] m next others (subst (λ l. Row book.count 0 l) (sym el) row) (λ l w. w)
        (subst (λ l. Stopped l rest r) (ap (λ x. head_of f aiou siou ++ (x ∷ m)) ec ∙ numbers-head f book m) z))

    stopped-siou : (m : List ℕ) (next : ℕ) (others : List ℕ) (b : Bool) → has_siou f ≡ b → m ++ (next ∷ others) ≡ cond b (siou ∷ book.count ∷ l) (book.count ∷ l) → Stopped (f ∷ aiou ∷ m) rest r
        → behind_head (read_siou f aiou (groups_of_all m ++ rest)) ≡ not-kept r
    unfolding read_siou groups_of_all
    stopped-siou m next others false b e z =
        ap behind_head (past-none f aiou (groups_of_all m ++ rest) b ∙ ap (λ siou. read_count f aiou siou (groups_of_all m ++ rest)) (sym (unsaid f siou (in-siou f book says.in-form) b)))
        ∙ stopped-count m next others e (subst (λ b. Stopped (f ∷ aiou ∷ (cond b (siou ∷ []) [] ++ m)) rest r) (sym b) z)
    stopped-siou [] next others true b e z =
        ap behind_head {x = read_siou f aiou rest} {y = refused r}
        (rw b
        (stopped-number (f ∷ aiou ∷ []) z (λ siou. not (siou_sound aiou siou)) (read_count f aiou)
        (λ x q. subst (λ b. CanFollow (f ∷ aiou ∷ cond b (x ∷ []) [])) b
        (can (head_of f aiou x)
        (at_count f says.is-form aiou (head-parts book (in-sound f book says.in-form)).0 x (not-false (siou_sound aiou x) q) (ap (λ b. b || eqb x 0) b))))))
    stopped-siou (x ∷ m) next others true b e z =
        let es : x ≡ siou = cc in
        let em : m ++ (next ∷ others) ≡ book.count ∷ l = cc in
        ap behind_head (ap (λ x. read_siou f aiou (groups_of_all (x ∷ m) ++ rest)) es ∙ past-siou f aiou siou m rest b (head-parts book (in-sound f book says.in-form)).2)
        ∙ stopped-count m next others em (subst (λ l. Stopped l rest r) (ap (λ x. f ∷ aiou ∷ x ∷ m) es ∙ ap (λ b. f ∷ aiou ∷ (cond b (siou ∷ []) [] ++ m)) (sym b)) z)

    stopped-head : (numbers : List ℕ) (next : ℕ) (others : List ℕ) → numbers ++ (next ∷ others) ≡ numbers_in f book l → Stopped numbers rest r
        → behind_head (read_head (groups_of_all numbers ++ rest)) ≡ not-kept r
    unfolding read_head read_aiou numbers_in groups_of_all
    stopped-head [] next others e z =
        ap behind_head (stopped-number [] z (λ f. not (is_form f)) read_aiou (λ x q. can (x ∷ []) (at-aiou x (not-false (is_form x) q))))
    stopped-head (x ∷ []) next others e z =
        let ef : x ≡ f = cc in
        ap behind_head
        (ap (λ x. read_head (groups_of_all (x ∷ []) ++ rest)) ef ∙ past-form f [] rest says.is-form
        ∙ stopped-number (f ∷ []) (subst (λ x. Stopped (x ∷ []) rest r) ef z) (ltb 16) (read_siou f) (λ y q. can (f ∷ y ∷ []) (at-siou f says.is-form y (ltb-false 16 y q))))
    stopped-head (x ∷ y ∷ m) next others e z =
        let ef : x ≡ f = cc in
        let ea : y ≡ aiou = cc in
        let em : m ++ (next ∷ others) ≡ cond (has_siou f) (siou ∷ book.count ∷ l) (book.count ∷ l) = cc in
        ap behind_head
        (ap₂ (λ x y. read_head (groups_of_all (x ∷ y ∷ m) ++ rest)) ef ea ∙ past-form f (aiou ∷ m) rest says.is-form
        ∙ past-aiou f aiou m rest (head-parts book (in-sound f book says.in-form)).0)
        ∙ stopped-siou m next others (has_siou f) refl em (subst (λ l. Stopped l rest r) (ap₂ (λ x y. x ∷ y ∷ m) ef ea) z)

pub stops-if : (s : List ℕ) (r : Refusal) → Stops s r → behind_head (read_head s) ≡ not-kept r
stops-if s r w =
    let b : SoundBook = w.begins.of in
    ap (λ s. behind_head (read_head s)) w.is
    ∙ stopped-head w.rest r b.form b.book (record { is-form = b.is-form; in-form = b.in-form }) (areas_of b) (sound-row b.book b.bytes b.is-sound) w.numbers w.begins.next
    w.begins.others w.begins.goes_on w.stopped

-- ---- what reading comes to, with room lent

abbrev pub Ending : List ℕ → Outcome → Type 0
Ending s (kept book l) = IsBook s
Ending s (not-kept r) = ((r ≡ Leftover) × GoesOn s) ⊎ Stops s r

module _ (s : List ℕ) (b : Bytes s) where
  over : (f : ℕ) (book : Book) (l rest : List ℕ) → Says f book → Row book.count 0 l → s ≡ kept_in f book l ++ rest → Ending s (whole book (said l rest))
  over f book l [] w r e =
      let m : Made f book l = made f book l w r in
      record { of = sound_book m; is = e ∙ append-nil (kept_in f book l) ∙ ap (kept_in f book) (sym m.holds) }
  over f book l (x ∷ rest) w r e =
      let m : Made f book l = made f book l w r in
      inl (refl, record { of = sound_book m; next = x; others = rest; is = e ∙ ap (λ l. kept_in f book l ++ (x ∷ rest)) (sym m.holds) })

  pub ending : Ending s (behind_head (read_head s))
  ending = go (read_head s) refl
    where
      areas : (book : Book) (t : List ℕ) → read_head s ≡ said book t → (o : Said (List ℕ)) → read_areas book.count 0 t ≡ o → Ending s (whole book o)
      areas book t p (refused r) q = inr (areas-behind s b book t p r q)
      areas book t p (said l rest) q =
          let h : HeadWas s book t = head-was s book t p in
          let w = areas-were book.count 0 t l rest q in
          over h.number book l rest h.says w.row (h.is b l rest (w.is (h.bytes b)))

      go : (o : Said Book) → read_head s ≡ o → Ending s (behind_head o)
      go (refused r) p = inr (head-stops s r b p)
      go (said book t) p = areas book t p (read_areas book.count 0 t) refl
