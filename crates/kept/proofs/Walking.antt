-- One lemma for each turn and each answer of the functions that read, in plain variables, premises worded as the code makes them. Assumes nothing.
use Rattle.std.specs.Prelude.{Ok, Err}
use mathlib.Core.Path.{◌≡◌, refl, ap, ap₂, sym, ◌∙◌, subst}
use mathlib.Core.Bool.{Bool, true, false, not}
use mathlib.Core.List.{List, [], ◌∷◌, ◌++◌, append_assoc, append-nil}
use Prim.Native.Nat.{ℕ, suc, ◌+◌, ◌-◌, ◌*◌, ◌≤◌, ◌<◌}
use native.Mathlib.Omega.{arith}
use lib.Dec.{leb, ltb}
use lib.ListN.{length, drop, length-append, length-drop, drop_of_length-le}
use lib.Seq.{drop-drop, drop-cons}
use borrow.Author.Tests.{lt-ltb, le-ltb, lt-leb, le-leb, not-false}
use Rattle.answer.specs.Stop.{stop}
use Rattle.answer.specs.declared.Refusal.{Refusal}
use Rattle.answer.specs.declared.Refusal.TheVariants.{Room, Form, Leftover}
use Rattle.sizes.specs.Sizes.{most_areas, book_bytes}
use Rattle.area.specs.Area.{sf031, put_at}
use Rattle.book.specs.Book.{book_of, bytes_of_all, siou_sound}
use Rattle.book.specs.Laws.{length-bytes, head-parts, siou-most}
use Rattle.book.proofs.Taking.{put-image}
use Rattle.book.specs.declared.Book.{Book}
use Rattle.groups.specs.Groups.{next_of}
use Rattle.groups.specs.Rows.{next_le}
use Rattle.groups.specs.Results.{Next}
use Rattle.kept.specs.Kept.{is_form, head_in, Said, said, refused, number, whole, not-kept, answer_of, left_by, read_kept, fits, with_area, read_areas, read_count, read_siou, read_aiou, read_head}
use Rattle.kept.specs.RoundTrip.{past-none}
use Rattle.kept.specs.ReadLaws.{head-sound}
use Rattle.kept.specs.Walk.{HeadIs, Areas, EndIs, stored_by, is_said, step-on, step-off, step-form, step_past}
use Rattle.kept.specs.Results.{Head}
use Rattle.kept.specs.Results.{Ended}
use Rattle.kept.specs.Results.{ReadKept}

-- ---- the exit of a `?`

pub head-err : (s : List ℕ) (o : Said Book) (v : Head) (y r : Refusal) → v ≡ Err y → y ≡ r → o ≡ refused r → HeadIs s o v
head-err s o v y r e q h = subst (λ v. HeadIs s o v) (sym (e ∙ ap Err q)) h

pub end-err : (s : List ℕ) (o : Said (List ℕ)) (v : Ended) (y r : Refusal) → v ≡ Err y → y ≡ r → o ≡ refused r → EndIs s o v
end-err s o v y r e q h = subst (λ v. EndIs s o v) (sym (e ∙ ap Err q)) h

-- ---- the head

module _ (s : List ℕ) (at : ℕ) (h : at ≤ length s) (v : Next) (e : v ≡ next_of s at) (f : ℕ) where
  pub count-refused : (aiou siou : ℕ) (r : Refusal) → v ≡ Err r → read_count f aiou siou (drop at s) ≡ refused r
  unfolding read_count
  count-refused aiou siou r q = step-off s at v e _ r q

  pub siou-refused : (aiou : ℕ) → 2 ≤ f → (r : Refusal) → v ≡ Err r → read_siou f aiou (drop at s) ≡ refused r
  unfolding read_siou
  siou-refused aiou k r q = let z : leb 2 f ≡ true = le-leb 2 f k in rw z (step-off s at v e _ r q)

  pub aiou-refused : (r : Refusal) → v ≡ Err r → read_aiou f (drop at s) ≡ refused r
  unfolding read_aiou
  aiou-refused r q = step-off s at v e _ r q

  module _ (x end : ℕ) (q : v ≡ Ok (x, end)) where
    module _ (aiou siou : ℕ) (book : Book) (eo : book ≡ book_of aiou siou x) (b : Bool) (eb : b ≡ head_in f book) where
      is-in : not (head_in f (book_of aiou siou x)) ≡ not b
      is-in = ap not (sym (eb ∙ ap (head_in f) eo))

      pub count-form : not b ≡ true → read_count f aiou siou (drop at s) ≡ refused Form
      unfolding read_count
      count-form k = step-form s at v e (λ count. not (head_in f (book_of aiou siou count))) (λ count s. said (book_of aiou siou count) s) x end q (is-in ∙ k)

      pub count-said : not b ≡ false → read_count f aiou siou (drop at s) ≡ said book (drop end s)
      unfolding read_count
      count-said k =
          step_past s at v e (λ count. not (head_in f (book_of aiou siou count))) (λ count s. said (book_of aiou siou count) s) x end q (is-in ∙ k)
          ∙ ap (λ z. said z (drop end s)) (sym eo)

    module _ (aiou : ℕ) (k : 2 ≤ f) (b : Bool) (eb : b ≡ siou_sound aiou x) where
      pub siou-form : not b ≡ true → read_siou f aiou (drop at s) ≡ refused Form
      unfolding read_siou
      siou-form l =
          let z : leb 2 f ≡ true = le-leb 2 f k in
          rw z (step-form s at v e (λ siou. not (siou_sound aiou siou)) (read_count f aiou) x end q (ap not (sym eb) ∙ l))

      module _ (l : not b ≡ false) where
        pub siou-small : x ≤ 512
        siou-small = siou-most aiou x (sym eb ∙ not-false b l)

        pub siou-on : (r : Head) → HeadIs s (read_count f aiou x (drop end s)) r → HeadIs s (read_siou f aiou (drop at s)) r
        unfolding read_siou
        siou-on r =
            let z : leb 2 f ≡ true = le-leb 2 f k in
            subst (λ o. HeadIs s o r) (sym (rw z (step_past s at v e (λ siou. not (siou_sound aiou siou)) (read_count f aiou) x end q (ap not (sym eb) ∙ l))))

    pub aiou-over : 16 < x → read_aiou f (drop at s) ≡ refused Form
    unfolding read_aiou
    aiou-over k = step-form s at v e (ltb 16) (read_siou f) x end q (lt-ltb 16 x k)

    pub aiou-on : x ≤ 16 → (r : Head) → HeadIs s (read_siou f x (drop end s)) r → HeadIs s (read_aiou f (drop at s)) r
    unfolding read_aiou
    aiou-on k r = subst (λ o. HeadIs s o r) (sym (step_past s at v e (ltb 16) (read_siou f) x end q (le-ltb 16 x k)))

-- a number that was read ends inside
pub end-there : (s : List ℕ) (at : ℕ) → at ≤ length s → (v : Next) → v ≡ next_of s at → (x end : ℕ) → v ≡ Ok (x, end) → end ≤ length s
end-there s at h v e x end q = next_le s at v h e x end q

-- form 1 says no SIOU: it is unknown
pub siou-unsaid : (s : List ℕ) (at f aiou : ℕ) → f < 2 → (r : Head) → HeadIs s (read_count f aiou 0 (drop at s)) r → HeadIs s (read_siou f aiou (drop at s)) r
siou-unsaid s at f aiou h r =
    let z : leb 2 f ≡ false = lt-leb 2 f h in
    subst (λ o. HeadIs s o r) (sym (past-none f aiou (drop at s) z))

module _ (s : List ℕ) (v : Next) (e : v ≡ next_of s 0) where
  pub head-refused : (r : Refusal) → v ≡ Err r → read_head s ≡ refused r
  unfolding read_head
  head-refused r q = step-off s 0 v e _ r q

  module _ (x end : ℕ) (q : v ≡ Ok (x, end)) (b : Bool) (eb : b ≡ is_form x) where
    pub head-other : not b ≡ true → read_head s ≡ refused Form
    unfolding read_head
    head-other k = step-form s 0 v e (λ f. not (is_form f)) read_aiou x end q (ap not (sym eb) ∙ k)

    pub head-on : not b ≡ false → (r : Head) → HeadIs s (read_aiou x (drop end s)) r → HeadIs s (read_head s) r
    unfolding read_head
    head-on k r = subst (λ o. HeadIs s o r) (sym (step_past s 0 v e (λ f. not (is_form f)) read_aiou x end q (ap not (sym eb) ∙ k)))

-- ---- the areas

-- areas were read, and these bytes are left
pub record IsSaid (o : Said (List ℕ)) (rest : List ℕ) : Type 0 where
  pub list : List ℕ
  pub is : o ≡ said list rest

-- what is still to be read decides what all is
pub record Walking (s : List ℕ) (n at i least end : ℕ) : Type 0 where
  pub inside : i ≤ n
  pub there : end ≤ length s
  pub small : least ≤ 256
  pub off : (r : Refusal) → read_areas (n - i) least (drop end s) ≡ refused r → read_areas n 0 (drop at s) ≡ refused r
  pub on : (l rest : List ℕ) → read_areas (n - i) least (drop end s) ≡ said l rest → IsSaid (read_areas n 0 (drop at s)) rest

pub walk_start : (s : List ℕ) (n at : ℕ) → at ≤ length s → Walking s n at 0 0 at
walk_start s n at h =
    let e : read_areas (n - 0) 0 (drop at s) ≡ read_areas n 0 (drop at s) = ap (λ k. read_areas k 0 (drop at s)) {x = n - 0} {y = n} (omega arith) in
    record { inside = omega arith; there = h; small = omega arith; off = λ r q. sym e ∙ q; on = λ l rest q. record { list = l; is = sym e ∙ q } }

pub walk_end : (s : List ℕ) (n at i least end : ℕ) → Walking s n at i least end → n ≤ i → Areas s (read_areas n 0 (drop at s)) end
unfolding read_areas
walk_end s n at i least end p h =
    let e : n - i ≡ 0 = omega arith in
    let w : IsSaid (read_areas n 0 (drop at s)) (drop end s) = p.on [] (drop end s) (ap (λ k. read_areas k least (drop end s)) e) in
    record { list = w.list; is = w.is; there = p.there }

module _ (s : List ℕ) (n at i least end : ℕ) (p : Walking s n at i least end) (h : i < n) (v : Next) (e : v ≡ next_of s end) where
  first : read_areas (n - i) least (drop end s) ≡ number (drop end s) (λ a rest. stop (not (fits (n - i - 1) least a)) (refused Form) (with_area a (read_areas (n - (i + 1)) (suc (sf031 a)) rest)))
  unfolding read_areas
  first =
      let m : n - i - 1 ≡ n - (i + 1) = omega arith in
      ap (λ k. read_areas k least (drop end s)) {x = n - i} {y = suc (n - (i + 1))} (omega arith)
      ∙ ap (λ m. number (drop end s) (λ a rest. stop (not (fits m least a)) (refused Form) (with_area a (read_areas (n - (i + 1)) (suc (sf031 a)) rest)))) (sym m)

  pub walk_refused : (r : Refusal) → v ≡ Err r → read_areas n 0 (drop at s) ≡ refused r
  walk_refused r q = p.off r (first ∙ step-off s end v e _ r q)

  module _ (x to : ℕ) (q : v ≡ Ok (x, to)) (b : Bool) (eb : b ≡ fits (n - i - 1) least x) where
    abbrev further : ℕ → List ℕ → Said (List ℕ)
    further a rest = with_area a (read_areas (n - (i + 1)) (suc (sf031 a)) rest)

    pub walk-form : not b ≡ true → read_areas n 0 (drop at s) ≡ refused Form
    walk-form k = p.off Form (first ∙ step-form s end v e (λ a. not (fits (n - i - 1) least a)) further x to q (ap not (sym eb) ∙ k))

    pub walk_turn : not b ≡ false → (d : ℕ) → d ≡ sf031 x → Walking s n at (i + 1) (d + 1) to
    walk_turn k d ed =
        let same : suc (sf031 x) ≡ d + 1 = ap suc (sym ed) ∙ omega arith in
        let all : read_areas (n - i) least (drop end s) ≡ with_area x (read_areas (n - (i + 1)) (d + 1) (drop to s))
        = first ∙ step_past s end v e (λ a. not (fits (n - i - 1) least a)) further x to q (ap not (sym eb) ∙ k)
        ∙ ap (λ j. with_area x (read_areas (n - (i + 1)) j (drop to s))) same in
        record {
          inside = omega arith;
          there = next_le s end v p.there e x to q;
          small = omega arith;
          off = λ r z. p.off r (all ∙ ap (with_area x) z);
          on = λ l rest z. p.on (x ∷ l) rest (all ∙ ap (with_area x) z);
        }

-- ---- storing

-- areas were read, and something is left
pub record SaidAll (o : Said (List ℕ)) : Type 0 where
  pub list : List ℕ
  pub rest : List ℕ
  pub is : o ≡ said list rest

said-some : (o : Said (List ℕ)) → is_said o ≡ true → SaidAll o
said-some (said l rest) e = record { list = l; rest = rest; is = refl }
said-some (refused r) e = absurd (mathlib.Core.Bool.false≢true e)

-- the areas before the i-th lie in the bytes, and those from it on are to be read
pub record Storing (s bytes₀ : List ℕ) (n at i end : ℕ) (bytes : List ℕ) : Type 0 where
  pub least : ℕ
  pub all : SaidAll (read_areas n 0 (drop at s))
  pub down : List ℕ
  pub left : List ℕ
  pub inside : i ≤ n
  pub there : end ≤ length s
  pub reads : read_areas (n - i) least (drop end s) ≡ said left all.rest
  pub whole : down ++ left ≡ all.list
  pub many : length down ≡ i
  pub stored : bytes ≡ bytes_of_all down ++ drop (6 * i) bytes₀

pub store-start : (s bytes : List ℕ) (n at : ℕ) → at ≤ length s → is_said (read_areas n 0 (drop at s)) ≡ true → Storing s bytes n at 0 at bytes
unfolding bytes_of_all
store-start s bytes n at h e =
    let w : SaidAll (read_areas n 0 (drop at s)) = said-some _ e in
    record {
      least = 0;
      all = w;
      down = [];
      left = w.list;
      inside = omega arith;
      there = h;
      reads = ap (λ k. read_areas k 0 (drop at s)) {x = n - 0} {y = n} (omega arith) ∙ w.is;
      whole = refl;
      many = refl;
      stored = refl;
    }

said-list : (l m : List ℕ) (r t : List ℕ) → ◌≡◌ {A = Said (List ℕ)} (said l r) (said m t) → l ≡ m
said-list l m r t e = cc

module _ (s bytes₀ : List ℕ) (n at i end : ℕ) (bytes : List ℕ) (fits₀ : 6 * n ≤ length bytes₀) (p : Storing s bytes₀ n at i end bytes) where
  pub store_length : length bytes ≡ length bytes₀
  store_length =
      ap length p.stored ∙ length-append (bytes_of_all p.down) (drop (6 * i) bytes₀)
      ∙ omega (arith, length-bytes p.down, p.many, p.inside, length-drop (6 * i) bytes₀)

  pub store-end : n ≤ i → bytes ≡ stored_by (read_areas n 0 (drop at s)) bytes₀
  unfolding read_areas
  store-end h =
      let e : n - i ≡ 0 = omega arith in
      let none : [] ≡ p.left = said-list [] p.left (drop end s) p.all.rest (ap (λ k. read_areas k p.least (drop end s)) (sym e) ∙ p.reads) in
      let l : p.down ≡ p.all.list = sym (append-nil p.down) ∙ ap (λ z. p.down ++ z) none ∙ p.whole in
      p.stored ∙ ap₂ (λ d k. bytes_of_all d ++ drop (6 * k) bytes₀) l (sym p.many ∙ ap length l)
      ∙ ap (λ o. stored_by o bytes₀) (sym p.all.is)

  module _ (h : i < n) (v : Next) (e : v ≡ next_of s end) where
    opened : number (drop end s) (λ a rest. stop (not (fits (n - (i + 1)) p.least a)) (refused Form) (with_area a (read_areas (n - (i + 1)) (suc (sf031 a)) rest))) ≡ said p.left p.all.rest
    unfolding read_areas
    opened = ap (λ k. read_areas k p.least (drop end s)) {x = suc (n - (i + 1))} {y = n - i} (omega arith) ∙ p.reads

    pub store-never : (r : Refusal) → v ≡ Err r → ⊥
    store-never r q = let z : refused r ≡ said p.left p.all.rest = sym (step-off s end v e _ r q) ∙ opened in let w : ◌≡◌ {A = ℕ} 0 1 = cc in omega arith

    pub store-turn : (x to : ℕ) → v ≡ Ok (x, to) → (z : List ℕ) → z ≡ put_at bytes (6 * i) x → Storing s bytes₀ n at (i + 1) to z
    store-turn x to q z ez =
        go (not (fits (n - (i + 1)) p.least x)) (read_areas (n - (i + 1)) (suc (sf031 x)) (drop to s)) refl
        (sym (step-on s end v e (λ a rest. stop (not (fits (n - (i + 1)) p.least a)) (refused Form) (with_area a (read_areas (n - (i + 1)) (suc (sf031 a)) rest))) x to q) ∙ opened)
      where
        go : (b : Bool) (o : Said (List ℕ)) → read_areas (n - (i + 1)) (suc (sf031 x)) (drop to s) ≡ o → stop b (refused Form) (with_area x o) ≡ said p.left p.all.rest → Storing s bytes₀ n at (i + 1) to z
        go true o y w = let w' : ◌≡◌ {A = ℕ} 0 1 = cc in absurd (omega arith)
        go false (refused r) y w = let w' : ◌≡◌ {A = ℕ} 0 1 = cc in absurd (omega arith)
        go false (said l rest) y w =
            let el : x ∷ l ≡ p.left = cc in
            let er : rest ≡ p.all.rest = cc in
            record {
              least = suc (sf031 x);
              all = p.all;
              down = p.down ++ (x ∷ []);
              left = l;
              inside = omega arith;
              there = next_le s end v p.there e x to q;
              reads = y ∙ ap (said l) er;
              whole = append_assoc p.down (x ∷ []) l ∙ ap (λ z. p.down ++ z) el ∙ p.whole;
              many = length-append p.down (x ∷ []) ∙ ap (λ k. k + 1) p.many;
              stored = ez ∙ put-image p.down (drop (6 * i) bytes₀) bytes i x p.stored p.many (omega (arith, length-drop (6 * i) bytes₀))
                  ∙ ap (λ t. bytes_of_all (p.down ++ (x ∷ [])) ++ t) (drop-drop 6 (6 * i) bytes₀ ∙ ap (λ k. drop k bytes₀) {x = 6 * i + 6} {y = 6 * (i + 1)} (omega arith));
            }

-- ---- the whole book

module _ (s : List ℕ) (book : Book) (at : ℕ) (v : Ended) (p : EndIs s (read_areas book.count 0 (drop at s)) v) where
  module _ (r : Refusal) (q : v ≡ Err r) where
    areas-off : whole book (read_areas book.count 0 (drop at s)) ≡ not-kept r
    areas-off = ap (whole book) (subst (λ v. EndIs s (read_areas book.count 0 (drop at s)) v) q p)

    pub areas-refused : Err r ≡ answer_of (whole book (read_areas book.count 0 (drop at s)))
    areas-refused = ap answer_of (sym areas-off)

    pub left-refused : (bytes : List ℕ) → bytes ≡ left_by (whole book (read_areas book.count 0 (drop at s))) bytes
    left-refused bytes = ap (λ o. left_by o bytes) (sym areas-off)

  module _ (end : ℕ) (q : v ≡ Ok end) where
    areas-end : Areas s (read_areas book.count 0 (drop at s)) end
    areas-end = subst (λ v. EndIs s (read_areas book.count 0 (drop at s)) v) q p

    pub areas-said : is_said (read_areas book.count 0 (drop at s)) ≡ true
    areas-said = ap is_said areas-end.is

    module _ (h : end < length s) where
      areas-over : whole book (read_areas book.count 0 (drop at s)) ≡ not-kept Leftover
      areas-over = ap (whole book) (areas-end.is ∙ ap (said areas-end.list) (drop-cons s end 0 h))

      pub areas-left : Err Leftover ≡ answer_of (whole book (read_areas book.count 0 (drop at s)))
      areas-left = ap answer_of (sym areas-over)

      pub left_over : (bytes : List ℕ) → bytes ≡ left_by (whole book (read_areas book.count 0 (drop at s))) bytes
      left_over bytes = ap (λ o. left_by o bytes) (sym areas-over)

    module _ (h : length s ≤ end) where
      areas-all : read_areas book.count 0 (drop at s) ≡ said areas-end.list []
      areas-all = areas-end.is ∙ ap (said areas-end.list) (drop_of_length-le s {i = end} h)

      pub areas-whole : Ok book ≡ answer_of (whole book (read_areas book.count 0 (drop at s)))
      areas-whole = ap (λ o. answer_of (whole book o)) (sym areas-all)

      pub left-whole : (bytes z : List ℕ) → z ≡ stored_by (read_areas book.count 0 (drop at s)) bytes
          → z ≡ left_by (whole book (read_areas book.count 0 (drop at s))) bytes
      left-whole bytes z ez = ez ∙ ap (λ o. stored_by o bytes) areas-all ∙ ap (λ o. left_by (whole book o) bytes) (sym areas-all)

module _ (s bytes : List ℕ) where
  module _ (h : length bytes < book_bytes) where
    no_room : ltb (length bytes) book_bytes ≡ true
    no_room = lt-ltb _ _ h

    pub kept-room : Err Room ≡ answer_of (read_kept s bytes)
    unfolding read_kept
    kept-room = rw no_room

    pub left-room : bytes ≡ left_by (read_kept s bytes) bytes
    unfolding read_kept
    left-room = rw no_room

  module _ (h : book_bytes ≤ length bytes) (v : Head) (p : HeadIs s (read_head s) v) where
    has_room : ltb (length bytes) book_bytes ≡ false
    has_room = le-ltb _ _ h

    module _ (r : Refusal) (q : v ≡ Err r) where
      head-off : read_head s ≡ refused r
      head-off = subst (λ v. HeadIs s (read_head s) v) q p

      pub kept-refused : Err r ≡ answer_of (read_kept s bytes)
      unfolding read_kept
      kept-refused = rw (has_room, head-off)

      pub left-head : bytes ≡ left_by (read_kept s bytes) bytes
      unfolding read_kept
      left-head = rw (has_room, head-off)

    module _ (book : Book) (at : ℕ) (q : v ≡ Ok (book, at)) where
      head-is : read_head s ≡ said book (drop at s)
      head-is = (subst (λ v. HeadIs s (read_head s) v) q p).0

      pub kept_on : (r : ReadKept) → r ≡ answer_of (whole book (read_areas book.count 0 (drop at s))) → r ≡ answer_of (read_kept s bytes)
      unfolding read_kept
      kept_on r er = rw (has_room, head-is) er

      pub left-on : (z : List ℕ) → z ≡ left_by (whole book (read_areas book.count 0 (drop at s))) bytes → z ≡ left_by (read_kept s bytes) bytes
      unfolding read_kept
      left-on z ez = rw (has_room, head-is) ez

module _ (s : List ℕ) (v : Head) (p : HeadIs s (read_head s) v) (book : Book) (at : ℕ) (q : v ≡ Ok (book, at)) where
  pub kept_at : at ≤ length s
  kept_at = (subst (λ v. HeadIs s (read_head s) v) q p).1

  pub kept-count : book.count ≤ most_areas
  kept-count = (head-parts book (head-sound s book (drop at s) (subst (λ v. HeadIs s (read_head s) v) q p).0)).1
