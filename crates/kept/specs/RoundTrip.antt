-- The two round trips of the kept book, over the form's number: what a form says of a book reads back as that book (`written-reads`), and bytes that read are what the form whose number
-- they begin with says of the book (`read-writes`). Proved; assumes nothing.
use Rattle.std.specs.Prelude.{◌≡◌, Bool, true, false, not, ◌||◌, List, [], ◌∷◌, ◌++◌, ℕ, zero, suc, ◌^◌, ◌≤◌, ◌<◌, leb, ltb, length, drop, Ok, Err}
use Rattle.std.proofs.Math.Path.{refl, ap}
use Rattle.std.proofs.Common.{ap₂, sym, ◌∙◌, subst, append_assoc, append-nil, arith, leb-true, le-ltb, lt-ltb, ltb-true, ltb-false, eqb-true}
use Rattle.std.proofs.Math.Bool.{cond}
use Rattle.std.proofs.Math.Dec.{eqb}
use Rattle.std.proofs.Math.Seq.{drop-append_seam}
use Rattle.std.proofs.lemmas.Bool.{not-false}
use Rattle.answer.specs.Stop.{stop}
use Rattle.answer.specs.declared.Refusal.TheVariants.{Room, Form}
use Rattle.bits.specs.Bits.{Bytes}
use Rattle.bits.specs.Laws.{bytes_drop}
use Rattle.area.specs.Area.{sf031}
use Rattle.area.specs.Laws.{both_left, both_right}
use Rattle.sizes.specs.Sizes.{most_areas, book_bytes}
use Rattle.book.specs.Book.{book_of, areas_in, siou_sound, head_sound, sound}
use Rattle.book.specs.Laws.{head-parts, siou-most}
use Rattle.book.specs.declared.Book.{Book}
use Rattle.groups.specs.Groups.{groups_of, groups_of_all, read_groups}
use Rattle.groups.specs.Laws.{read-written, written_read}
use Rattle.groups.specs.Rows.{all_more}
use Rattle.groups.specs.Results.{Read}
use Rattle.kept.specs.Kept.{newest_form, is_form, has_siou, head_in, numbers_in, kept_in, Said, said, refused, behind, number, fits, with_area, read_areas, read_count, read_siou, read_aiou, read_head, Outcome, kept, not-kept, whole, behind_head, read_kept}
use Rattle.kept.specs.AreaRows.{Row, fits-small, row-none, row_more, row_fits, row-tail, sound-row}

-- ---- a form that can say a book

pub record Says (f : ℕ) (book : Book) : Type 0 where
  pub is-form : is_form f ≡ true
  pub in-form : head_in f book ≡ true

pub form-most : (f : ℕ) → is_form f ≡ true → f ≤ newest_form
form-most f e = leb-true f newest_form (both_right (leb 1 f) (leb f newest_form) e)

-- the book is sound, and its SIOU is unknown where the form does not say it
module _ (f : ℕ) (book : Book) (e : head_in f book ≡ true) where
  pub in-sound : head_sound book ≡ true
  unfolding head_in
  in-sound = both_left (head_sound book) (has_siou f || eqb book.siou_plus_one 0) e

  pub in-siou : (has_siou f || eqb book.siou_plus_one 0) ≡ true
  unfolding head_in
  in-siou = both_right (head_sound book) (has_siou f || eqb book.siou_plus_one 0) e

pub unsaid : (f siou : ℕ) → (has_siou f || eqb siou 0) ≡ true → has_siou f ≡ false → siou ≡ 0
unsaid f siou e z = eqb-true siou 0 (ap (λ b. b || eqb siou 0) (sym z) ∙ e)

-- every sound book is said by the form that is written
pub form-says : (book : Book) → head_sound book ≡ true → Says newest_form book
unfolding head_in
form-says book e = record { is-form = refl; in-form = rw e }

-- ---- what a form says is read

number-said : {A : Type 0} (x : ℕ) (t : List ℕ) (k : ℕ → List ℕ → Said A) → x < 2 ^ 64 → number (groups_of x ++ t) k ≡ k x t
number-said x t k h =
    ap (λ r. behind r (groups_of x ++ t) k) (read-written t x h) ∙ ap (k x) (drop-append_seam (groups_of x) t)

-- a number that passes its test, and then what is behind it
module _ {A : Type 0} (x : ℕ) (l t : List ℕ) (test : ℕ → Bool) (k : ℕ → List ℕ → Said A) where
  number_past : x < 2 ^ 64 → test x ≡ false → number (groups_of_all (x ∷ l) ++ t) (λ y u. stop (test y) (refused Form) (k y u)) ≡ k x (groups_of_all l ++ t)
  unfolding groups_of_all
  number_past h e =
      ap (λ s. number s (λ y u. stop (test y) (refused Form) (k y u))) (append_assoc (groups_of x) (groups_of_all l) t)
      ∙ number-said x (groups_of_all l ++ t) (λ y u. stop (test y) (refused Form) (k y u)) h
      ∙ ap (λ b. stop b (refused Form) (k x (groups_of_all l ++ t))) e

-- an area that fits, and then the others
pub area-past : (n least a : ℕ) (l t : List ℕ) → fits n least a ≡ true → read_areas (suc n) least (groups_of_all (a ∷ l) ++ t) ≡ with_area a (read_areas n (suc (sf031 a)) (groups_of_all l ++ t))
unfolding read_areas
area-past n least a l t e =
    number_past a l t (λ a. not (fits n least a)) (λ a rest. with_area a (read_areas n (suc (sf031 a)) rest)) (fits-small n least a e) (ap not e)

pub areas-past : (n least : ℕ) (l t : List ℕ) → Row n least l → read_areas n least (groups_of_all l ++ t) ≡ said l t
unfolding read_areas groups_of_all
areas-past zero least [] t r = refl
areas-past (suc n) least [] t r = let c : 0 ≡ suc n = r.count in absurd (omega arith)
areas-past zero least (a ∷ l) t r = let c : suc (length l) ≡ 0 = r.count in absurd (omega arith)
areas-past (suc n) least (a ∷ l) t r =
    area-past n least a l t (row_fits n least a l r)
    ∙ ap (with_area a) (areas-past n (suc (sf031 a)) l t (row-tail n least a l r))

-- the head, number by number
pub past-form : (f : ℕ) (l t : List ℕ) → is_form f ≡ true → read_head (groups_of_all (f ∷ l) ++ t) ≡ read_aiou f (groups_of_all l ++ t)
unfolding read_head
past-form f l t e = number_past f l t (λ f. not (is_form f)) read_aiou (omega (arith, form-most f e)) (ap not e)

pub past-aiou : (f aiou : ℕ) (l t : List ℕ) → aiou ≤ 16 → read_aiou f (groups_of_all (aiou ∷ l) ++ t) ≡ read_siou f aiou (groups_of_all l ++ t)
unfolding read_aiou
past-aiou f aiou l t h = number_past aiou l t (ltb 16) (read_siou f) (omega arith) (le-ltb 16 aiou h)

pub past-siou : (f aiou siou : ℕ) (l t : List ℕ) → has_siou f ≡ true → siou_sound aiou siou ≡ true → read_siou f aiou (groups_of_all (siou ∷ l) ++ t) ≡ read_count f aiou siou (groups_of_all l ++ t)
unfolding read_siou
past-siou f aiou siou l t z e =
    rw z (number_past siou l t (λ siou. not (siou_sound aiou siou)) (read_count f aiou) (omega (arith, siou-most aiou siou e)) (ap not e))

-- a form that does not say the SIOU
pub past-none : (f aiou : ℕ) (t : List ℕ) → has_siou f ≡ false → read_siou f aiou t ≡ read_count f aiou 0 t
unfolding read_siou
past-none f aiou t z = rw z

pub past-count : (f : ℕ) (book : Book) (l t : List ℕ) → head_in f book ≡ true
    → read_count f book.aiou_plus_one book.siou_plus_one (groups_of_all (book.count ∷ l) ++ t) ≡ said book (groups_of_all l ++ t)
unfolding read_count
past-count f book l t e =
    number_past book.count l t (λ count. not (head_in f (book_of book.aiou_plus_one book.siou_plus_one count)))
    (λ count s. said (book_of book.aiou_plus_one book.siou_plus_one count) s) (omega (arith, (head-parts book (in-sound f book e)).1)) (ap not e)

-- all of it
module _ (f : ℕ) (book : Book) (w : Says f book) where
  abbrev parts : (book.aiou_plus_one ≤ 16) × (book.count ≤ most_areas) × (siou_sound book.aiou_plus_one book.siou_plus_one ≡ true)
  parts = head-parts book (in-sound f book w.in-form)

  behind-aiou : (l t : List ℕ) (b : Bool) → has_siou f ≡ b
      → read_siou f book.aiou_plus_one (groups_of_all (cond b (book.siou_plus_one ∷ book.count ∷ l) (book.count ∷ l)) ++ t) ≡ said book (groups_of_all l ++ t)
  behind-aiou l t true z = past-siou f book.aiou_plus_one book.siou_plus_one (book.count ∷ l) t z parts.2 ∙ past-count f book l t w.in-form
  behind-aiou l t false z =
      past-none f book.aiou_plus_one (groups_of_all (book.count ∷ l) ++ t) z
      ∙ ap (λ siou. read_count f book.aiou_plus_one siou (groups_of_all (book.count ∷ l) ++ t)) (sym (unsaid f book.siou_plus_one (in-siou f book w.in-form) z))
      ∙ past-count f book l t w.in-form

  pub past_head : (l t : List ℕ) → read_head (kept_in f book l ++ t) ≡ said book (groups_of_all l ++ t)
  unfolding numbers_in
  past_head l t =
      past-form f (book.aiou_plus_one ∷ cond (has_siou f) (book.siou_plus_one ∷ book.count ∷ l) (book.count ∷ l)) t w.is-form
      ∙ past-aiou f book.aiou_plus_one (cond (has_siou f) (book.siou_plus_one ∷ book.count ∷ l) (book.count ∷ l)) t parts.0
      ∙ behind-aiou l t (has_siou f) refl

  pub past-book : (l t : List ℕ) → Row book.count 0 l → behind_head (read_head (kept_in f book l ++ t)) ≡ whole book (said l t)
  past-book l t r = ap behind_head (past_head l t) ∙ ap (whole book) (areas-past book.count 0 l t r)

-- ---- without room, and with room lent, what is read

pub no_room : (s bytes : List ℕ) → length bytes < book_bytes → read_kept s bytes ≡ not-kept Room
unfolding read_kept
no_room s bytes h = let z : ltb (length bytes) book_bytes ≡ true = lt-ltb _ _ h in rw z

pub with-room : (s bytes : List ℕ) → book_bytes ≤ length bytes → read_kept s bytes ≡ behind_head (read_head s)
unfolding read_kept
with-room s bytes h = let z : ltb (length bytes) book_bytes ≡ false = le-ltb _ _ h in rw z

-- what is answered otherwise than by ROOM is what was read
pub had-room : (s bytes : List ℕ) (o : Outcome) → read_kept s bytes ≡ o → (o ≡ not-kept Room → ⊥) → (book_bytes ≤ length bytes) × (behind_head (read_head s) ≡ o)
had-room s bytes o e n = go (ltb (length bytes) book_bytes) refl
  where
    go : (z : Bool) → ltb (length bytes) book_bytes ≡ z → (book_bytes ≤ length bytes) × (behind_head (read_head s) ≡ o)
    go true p = absurd (n (sym e ∙ no_room s bytes (ltb-true _ _ p)))
    go false p = (ltb-false _ _ p, sym (with-room s bytes (ltb-false _ _ p)) ∙ e)

-- What a form says of a book reads back as that book, whatever bytes it is read into: a head that the form can say, and so many areas, ascending.
pub written-reads : (f : ℕ) (book : Book) (l bytes : List ℕ) → book_bytes ≤ length bytes → Says f book → Row book.count 0 l → read_kept (kept_in f book l) bytes ≡ kept book l
written-reads f book l bytes h w r =
    with-room (kept_in f book l) bytes h
    ∙ ap (λ s. behind_head (read_head s)) (sym (append-nil (kept_in f book l))) ∙ past-book f book w l [] r

-- so for a sound book
pub sound-reads : (f : ℕ) (book : Book) (s bytes : List ℕ) → sound book s ≡ true → Says f book → book_bytes ≤ length bytes
    → read_kept (kept_in f book (areas_in book.count s)) bytes ≡ kept book (areas_in book.count s)
sound-reads f book s bytes e w h = written-reads f book (areas_in book.count s) bytes h w (sound-row book s e)

-- ---- what was read is what a form says

passed : {A : Type 0} (b : Bool) (o : Said A) (v : A) (rest : List ℕ) → stop b (refused Form) o ≡ said v rest → (b ≡ false) × (o ≡ said v rest)
passed true o v rest e = let w : ◌≡◌ {A = ℕ} 0 1 = cc in absurd (omega arith)
passed false o v rest e = (refl, e)

-- a number was read, and passed its test: the bytes begin with it
record First {A : Type 0} (s : List ℕ) (test : ℕ → Bool) (k : ℕ → List ℕ → Said A) (v : A) (rest : List ℕ) : Type 0 where
  x : ℕ
  behind-it : List ℕ
  passes : test x ≡ false
  reads : k x behind-it ≡ said v rest
  bytes : Bytes s → Bytes behind-it
  is : Bytes s → s ≡ groups_of x ++ behind-it

first : {A : Type 0} (s : List ℕ) (test : ℕ → Bool) (k : ℕ → List ℕ → Said A) (v : A) (rest : List ℕ) → number s (λ x t. stop (test x) (refused Form) (k x t)) ≡ said v rest → First s test k v rest
first {A} s test k v rest = go (read_groups s) refl
  where
    go : (r : Read) → read_groups s ≡ r → behind r s (λ x t. stop (test x) (refused Form) (k x t)) ≡ said v rest → First s test k v rest
    go (Ok (x, n)) p e =
        let w = passed (test x) (k x (drop n s)) v rest e in
        record { x = x; behind-it = drop n s; passes = w.0; reads = w.1; bytes = λ b. bytes_drop n b; is = λ b. written_read s x n b p }
    go (Err r) p e = let w : ◌≡◌ {A = ℕ} 0 1 = cc in absurd (omega arith)

-- areas were read: they are so many, ascending, and the bytes begin with them
pub record AreasWere (n least : ℕ) (s l rest : List ℕ) : Type 0 where
  pub row : Row n least l
  pub is : Bytes s → s ≡ groups_of_all l ++ rest

pub areas-were : (n least : ℕ) (s l rest : List ℕ) → read_areas n least s ≡ said l rest → AreasWere n least s l rest
unfolding read_areas groups_of_all
areas-were zero least s l rest e =
    let x : [] ≡ l = cc in
    let y : s ≡ rest = cc in
    record { row = subst (λ l. Row 0 least l) x (row-none least); is = λ b. ap₂ (λ l r. groups_of_all l ++ r) x y }
areas-were (suc n) least s l rest e =
    let g = first s (λ a. not (fits n least a)) (λ a t. with_area a (read_areas n (suc (sf031 a)) t)) l rest e in
    go g.x g.behind-it (not-false (fits n least g.x) g.passes) g.bytes g.is (read_areas n (suc (sf031 g.x)) g.behind-it) refl g.reads
    (λ m q. areas-were n (suc (sf031 g.x)) g.behind-it m rest q)
  where
    go : (x : ℕ) (t : List ℕ) → fits n least x ≡ true → (Bytes s → Bytes t) → (Bytes s → s ≡ groups_of x ++ t)
        → (o : Said (List ℕ)) → read_areas n (suc (sf031 x)) t ≡ o → with_area x o ≡ said l rest
        → ((m : List ℕ) → read_areas n (suc (sf031 x)) t ≡ said m rest → AreasWere n (suc (sf031 x)) t m rest) → AreasWere (suc n) least s l rest
    go x t f bt is (refused r) p e ih = let w : ◌≡◌ {A = ℕ} 0 1 = cc in absurd (omega arith)
    go x t f bt is (said m u) p e ih =
        let el : x ∷ m ≡ l = cc in
        let er : u ≡ rest = cc in
        let i = ih m (p ∙ ap (said m) er) in
        record {
          row = subst (λ l. Row (suc n) least l) el (row_more n least x m f i.row);
          is = λ b. all_more s t x m rest (is b) (i.is (bt b)) ∙ ap (λ l. groups_of_all l ++ rest) el;
        }

-- what is behind the form number was read: a head that the form can say, and the bytes begin with its numbers
record Tail (f aiou : ℕ) (s : List ℕ) (book : Book) (rest : List ℕ) (numbers : List ℕ → List ℕ) : Type 0 where
  same : aiou ≡ book.aiou_plus_one
  in-form : head_in f book ≡ true
  bytes : Bytes s → Bytes rest
  is : Bytes s → (l t : List ℕ) → rest ≡ groups_of_all l ++ t → s ≡ groups_of_all (numbers l) ++ t

count-was : (f aiou siou : ℕ) (s : List ℕ) (book : Book) (rest : List ℕ) → read_count f aiou siou s ≡ said book rest
    → (siou ≡ book.siou_plus_one) × Tail f aiou s book rest (λ l. book.count ∷ l)
unfolding read_count
count-was f aiou siou s book rest e =
    let g = first s (λ count. not (head_in f (book_of aiou siou count))) (λ count s. said (book_of aiou siou count) s) book rest e in
    go g.x g.behind-it (not-false (head_in f (book_of aiou siou g.x)) g.passes) g.reads g.bytes g.is
  where
    go : (x : ℕ) (t : List ℕ) → head_in f (book_of aiou siou x) ≡ true → ◌≡◌ {A = Said Book} (said (book_of aiou siou x) t) (said book rest) → (Bytes s → Bytes t) → (Bytes s → s ≡ groups_of x ++ t)
        → (siou ≡ book.siou_plus_one) × Tail f aiou s book rest (λ l. book.count ∷ l)
    go x t h q bt is =
        let eb : ◌≡◌ {A = Book} (book_of aiou siou x) book = cc in
        let er : t ≡ rest = cc in
        let ec : x ≡ book.count = ap (λ (b : Book). b.count) eb in (
          ap (λ (b : Book). b.siou_plus_one) eb,
          record {
            same = ap (λ (b : Book). b.aiou_plus_one) eb;
            in-form = ap (head_in f) (sym eb) ∙ h;
            bytes = λ b. subst (λ t. Bytes t) er (bt b);
            is = λ b l u z. all_more s t book.count l u (is b ∙ ap (λ x. groups_of x ++ t) ec) (er ∙ z);
          },
        )

siou-was : (f aiou : ℕ) (s : List ℕ) (book : Book) (rest : List ℕ) → read_siou f aiou s ≡ said book rest
    → Tail f aiou s book rest (λ l. cond (has_siou f) (book.siou_plus_one ∷ book.count ∷ l) (book.count ∷ l))
unfolding read_siou
siou-was f aiou s book rest = go (has_siou f)
  where
    go : (b : Bool) → cond b (number s (λ siou s. stop (not (siou_sound aiou siou)) (refused Form) (read_count f aiou siou s))) (read_count f aiou 0 s) ≡ said book rest
        → Tail f aiou s book rest (λ l. cond b (book.siou_plus_one ∷ book.count ∷ l) (book.count ∷ l))
    go false e = (count-was f aiou 0 s book rest e).1
    go true e =
        let g = first s (λ siou. not (siou_sound aiou siou)) (read_count f aiou) book rest e in
        let c = count-was f aiou g.x g.behind-it book rest g.reads in
        record {
          same = c.1.same;
          in-form = c.1.in-form;
          bytes = λ b. c.1.bytes (g.bytes b);
          is = λ b l t z. all_more s g.behind-it book.siou_plus_one (book.count ∷ l) t (g.is b ∙ ap (λ x. groups_of x ++ g.behind-it) c.0) (c.1.is (g.bytes b) l t z);
        }

-- a head was read: the form whose number the bytes begin with can say it, and they begin as that form says it
pub record HeadWas (s : List ℕ) (book : Book) (rest : List ℕ) : Type 0 where
  pub number : ℕ
  pub says : Says number book
  pub bytes : Bytes s → Bytes rest
  pub is : Bytes s → (l t : List ℕ) → rest ≡ groups_of_all l ++ t → s ≡ kept_in number book l ++ t

pub head-was : (s : List ℕ) (book : Book) (rest : List ℕ) → read_head s ≡ said book rest → HeadWas s book rest
unfolding read_head read_aiou numbers_in
head-was s book rest e =
    let g = first s (λ f. not (is_form f)) read_aiou book rest e in
    let h = first g.behind-it (ltb 16) (read_siou g.x) book rest g.reads in
    let w = siou-was g.x h.x h.behind-it book rest h.reads in
    record {
      number = g.x;
      says = record { is-form = not-false (is_form g.x) g.passes; in-form = w.in-form };
      bytes = λ b. w.bytes (h.bytes (g.bytes b));
      is = λ b l t z. all_more s g.behind-it g.x (book.aiou_plus_one ∷ cond (has_siou g.x) (book.siou_plus_one ∷ book.count ∷ l) (book.count ∷ l)) t (g.is b)
          (all_more g.behind-it h.behind-it book.aiou_plus_one (cond (has_siou g.x) (book.siou_plus_one ∷ book.count ∷ l) (book.count ∷ l)) t
          (h.is (g.bytes b) ∙ ap (λ x. groups_of x ++ h.behind-it) w.same) (w.is (h.bytes (g.bytes b)) l t z));
    }

-- What reads: a form can say the book, there are so many areas, ascending, and the bytes are what that form says of them.
pub record ReadWas (s bytes : List ℕ) (book : Book) (l : List ℕ) : Type 0 where
  pub room : book_bytes ≤ length bytes
  pub number : ℕ
  pub says : Says number book
  pub row : Row book.count 0 l
  pub is : Bytes s → kept_in number book l ≡ s

pub read-writes : (s bytes : List ℕ) (book : Book) (l : List ℕ) → read_kept s bytes ≡ kept book l → ReadWas s bytes book l
read-writes s bytes book l e =
    let r = had-room s bytes (kept book l) e (λ q. let w : ◌≡◌ {A = ℕ} 0 1 = cc in absurd (omega arith)) in
    found r.0 (read_head s) refl r.1
  where
    areas : book_bytes ≤ length bytes → (bk : Book) (t : List ℕ) → HeadWas s bk t → (o : Said (List ℕ)) → read_areas bk.count 0 t ≡ o → whole bk o ≡ kept book l → ReadWas s bytes book l
    areas h bk t g (said m []) p q =
        let eb : bk ≡ book = cc in
        let el : m ≡ l = cc in
        let w = areas-were bk.count 0 t m [] p in
        subst (λ b. ReadWas s bytes b l) eb
        (subst (λ l. ReadWas s bytes bk l) el
        (record { room = h; number = g.number; says = g.says; row = w.row; is = λ b. sym (g.is b m [] (w.is (g.bytes b)) ∙ append-nil (kept_in g.number bk m)) }))
    areas h bk t g (said m (x ∷ u)) p q = let w : ◌≡◌ {A = ℕ} 0 1 = cc in absurd (omega arith)
    areas h bk t g (refused r) p q = let w : ◌≡◌ {A = ℕ} 0 1 = cc in absurd (omega arith)

    found : book_bytes ≤ length bytes → (o : Said Book) → read_head s ≡ o → behind_head o ≡ kept book l → ReadWas s bytes book l
    found h (refused r) p q = let w : ◌≡◌ {A = ℕ} 0 1 = cc in absurd (omega arith)
    found h (said bk t) p q = areas h bk t (head-was s bk t p) (read_areas bk.count 0 t) refl q
