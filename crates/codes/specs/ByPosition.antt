-- Serves readers, and is proved: a mask walked by position. The mask stands at the top of a word, and a step gives the position of its first set bit, which is how many leading zeros it has, and the
-- word without that bit. Two walks go by such steps, and these are their laws over the words: one puts each satellite's number into an array until no bit is set (`Listing`), the other passes over the
-- satellites before the one that has so many after it (`Passing`).
use Rattle.std.specs.Prelude.{◌≡◌, refl, List, [], ◌∷◌, ◌++◌, ℕ, suc, ◌+◌, ◌-◌, ◌*◌, ◌^◌, ◌≤◌, ◌<◌, length, get_or, set, replicate}
use Rattle.std.proofs.Common.{ap, ap₂, sym, ◌∙◌, append_assoc, append-nil, arith, lt-ltb, le-ltb, length-append}
use Rattle.std.specs.Int.Count.{ones, count_leading_zeros}
use Rattle.std.proofs.lemmas.List.{set_at}
use Rattle.codes.specs.declared.Constellation.{Constellation}
use Rattle.codes.specs.declared.satellites.Step.{Step}
use Rattle.codes.specs.Tables.{mask_size, first_satellite}
use Rattle.codes.specs.Fields.{numbered, satellites_of, listed, satellite_at}
use Rattle.codes.specs.Stepping.{aligned_to, without_first, counted, some-bit, Turn, turn, turn-number, none-set, top-fits, top-listed, top-counted}
use Rattle.codes.specs.Listing.{first_small, numbered-few}

-- ---- the satellites in an array: some are found, and what is left of the mask has the others

pub record Listing (first top left : ℕ) (numbers : List ℕ) (count : ℕ) : Type 0 where
  pub found : List ℕ
  pub here : count ≡ length found
  pub holds : numbers ≡ found ++ replicate (64 - count) 0
  pub others : found ++ numbered first 64 left ≡ numbered first 64 top
  pub word : left < 2 ^ 64
  pub small : first ≤ 193

module _ (c : Constellation) (size mask first top : ℕ) (f : first ≡ first_satellite c) (e : top ≡ aligned_to (mask_size c size) mask) where
  pub listing-starts : Listing first top top (replicate 64 0) 0
  listing-starts = record { found = []; here = refl; holds = refl; others = refl; word = top-fits c size mask top e; small = first_small c first f }

module _ (first top left : ℕ) (numbers : List ℕ) (count : ℕ) (p : Listing first top left numbers count) where
  module _ (some : left ≡ 0 → ⊥) (one : Step) (d : one ≡ record { position = count_leading_zeros 64 left; left = without_first left }) where
    found-one : Turn first left one
    found-one = turn first left one d (omega arith) p.word

    pub listing-number : first + one.position < 2 ^ 64
    listing-number = turn-number found-one p.small

    pub listing-room : count < 64
    listing-room =
        let all : length p.found + length (numbered first 64 left) ≡ length (numbered first 64 top) = sym (length-append p.found (numbered first 64 left)) ∙ ap length p.others in
        omega (arith, ap length found-one.list, p.here, numbered-few first 64 top)

    pub listing-bytes : count * 8 < 2 ^ 64
    listing-bytes = omega (arith, listing-room)

    pub listing-count : count + 1 < 2 ^ 64
    listing-count = omega (arith, listing-room)

    pub listing-less : one.left < left
    listing-less = found-one.fewer

    pub listing-goes : Listing first top one.left (set numbers count (first + one.position)) (count + 1)
    listing-goes =
        let f : List ℕ = p.found in
        let n : ℕ = first + one.position in
        let room : 64 - count ≡ suc (64 - (count + 1)) = omega (arith, listing-room) in
        record {
          found = f ++ (n ∷ []);
          here = omega (arith, p.here, length-append f (n ∷ []));
          holds = ap (λ l. set l count n) (p.holds ∙ ap (λ x. f ++ replicate x 0) room)
              ∙ set_at f 0 (replicate (64 - (count + 1)) 0) n count (sym p.here) ∙ sym (append_assoc f (n ∷ []) _);
          others = append_assoc f (n ∷ []) _ ∙ ap (λ l. f ++ l) (sym found-one.list) ∙ p.others;
          word = omega (arith, found-one.fewer, p.word);
          small = p.small;
        }

  pub listing-ends : (c : Constellation) (size mask : ℕ) → first ≡ first_satellite c → top ≡ aligned_to (mask_size c size) mask → left ≡ 0
      → record { count = count; numbers = numbers } ≡ listed (satellites_of c size mask)
  listing-ends c size mask f e z =
      let all : p.found ≡ satellites_of c size mask
      = sym (append-nil p.found) ∙ ap (λ l. p.found ++ l) (sym (none-set first 64) ∙ ap (numbered first 64) (sym z)) ∙ p.others
      ∙ ap (λ x. numbered x 64 top) f ∙ top-listed c size mask top e in
      ap₂ (λ (x : ℕ) (l : List ℕ). record { count = x; numbers = l }) p.here (p.holds ∙ ap (λ x. p.found ++ replicate (64 - x) 0) p.here)
      ∙ ap listed all

-- ---- the satellite that has `more` after it: so many before it are passed

pub record Passing (ms : List ℕ) (first more left before : ℕ) : Type 0 where
  pub same : satellite_at (numbered first 64 left) more ≡ satellite_at ms more
  pub bits : ones left ≡ before + suc more
  pub word : left < 2 ^ 64

module _ (c : Constellation) (size mask more left count : ℕ) (e : left ≡ aligned_to (mask_size c size) mask) (q : count ≡ ones left) where
  pub passing-none : count ≤ more → 0 ≡ satellite_at (satellites_of c size mask) more
  passing-none h = rw (le-ltb more (length (satellites_of c size mask)) (omega (arith, top-counted c size mask left e count q)))

  pub passing-starts : more < count → Passing (satellites_of c size mask) (first_satellite c) more left (count - 1 - more)
  passing-starts h =
      record {
        same = ap (λ l. satellite_at l more) (top-listed c size mask left e);
        bits = omega (arith, q);
        word = top-fits c size mask left e;
      }

past_head : (m : ℕ) (ms : List ℕ) (more : ℕ) → more < length ms → satellite_at ms more ≡ satellite_at (m ∷ ms) more
past_head m ms more h =
    rw (lt-ltb more (length ms) h, lt-ltb more (suc (length ms)) (omega arith))
    (ap (λ x. get_or (m ∷ ms) x 0) {x = suc (length ms - 1 - more)} {y = suc (length ms) - 1 - more} (omega arith))

at_head : (m : ℕ) (ms : List ℕ) (more : ℕ) → length ms ≡ more → m ≡ satellite_at (m ∷ ms) more
at_head m ms more e =
    rw (lt-ltb more (suc (length ms)) (omega arith))
    (ap (λ x. get_or (m ∷ ms) x 0) {x = 0} {y = suc (length ms) - 1 - more} (omega arith))

module _ (ms : List ℕ) (first more left before : ℕ) (p : Passing ms first more left before) where
  module _ (one : Step) (d : one ≡ record { position = count_leading_zeros 64 left; left = without_first left }) where
    passed : Turn first left one
    passed = turn first left one d (some-bit left (before + more) (p.bits ∙ omega arith)) p.word

    after : length (numbered first 64 one.left) ≡ before + more
    after = counted first 64 one.left (omega (arith, passed.fewer, p.word)) ∙ omega (arith, passed.bits, p.bits)

    pub passing-goes : 0 < before → Passing ms first more one.left (before - 1)
    passing-goes h =
        record {
          same = past_head (first + one.position) (numbered first 64 one.left) more (omega (arith, after))
              ∙ ap (λ l. satellite_at l more) (sym passed.list) ∙ p.same;
          bits = omega (arith, passed.bits, p.bits);
          word = omega (arith, passed.fewer, p.word);
        }

    module _ (c : Constellation) (n : ℕ) (e : n ≡ first_satellite c) where
      pub passing-number : n + one.position < 2 ^ 64
      passing-number = omega (arith, passed.near, first_small c n e)

      pub passing-ends : first ≡ first_satellite c → before ≤ 0 → n + one.position ≡ satellite_at ms more
      passing-ends f h =
          ap (λ x. x + one.position) (e ∙ sym f)
          ∙ at_head (first + one.position) (numbered first 64 one.left) more (omega (arith, after))
          ∙ ap (λ l. satellite_at l more) (sym passed.list) ∙ p.same
