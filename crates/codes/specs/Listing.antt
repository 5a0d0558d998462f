-- Serves proofs, and is proved: the loops over a mask that stands at the top of 64 bits, a turn from set bit to set bit.
use Rattle.std.specs.Prelude.{◌≡◌, refl, Bool, true, false, List, [], ◌∷◌, ◌++◌, ℕ, zero, suc, ◌+◌, ◌-◌, ◌*◌, ◌/◌, ◌%◌, ◌^◌, ◌≤◌, ◌<◌, eqb, length, set, replicate}
use Rattle.std.proofs.Common.{ap, ap₂, sym, ◌∙◌, append_assoc, append-nil, arith, length-append}
use Rattle.std.specs.Int.Count.{count_leading_zeros}
use Rattle.std.proofs.lemmas.List.{set_at}
use Rattle.layout.specs.Layout.{pick}
use Rattle.codes.specs.declared.Constellation.{Constellation}
use Rattle.codes.specs.declared.Constellation.TheVariants.{Gps, Glonass, Galileo, BeiDou, Qzss}
use Rattle.std.specs.Prelude.{⊤, Some}
use Rattle.std.specs.Iterator.{MakesProgress, item_count}
use Rattle.codes.specs.declared.satellites.InMask.{InMask}
use Rattle.codes.specs.declared.satellites.Step.{Step}
use Rattle.codes.specs.Tables.{mask_size, first_satellite}
use Rattle.codes.specs.Fields.{numbered, satellites_of, listed, to_come}
use Rattle.codes.specs.Stepping.{aligned_to, without_first, turn, none-set, top-listed}
use Rattle.codes.specs.Sizes.{mask_word}

-- ---- the first number and the width of a constellation

pub first_small : (c : Constellation) (first : ℕ) → first ≡ first_satellite c → first ≤ 193
first_small Gps first e = omega arith
first_small Glonass first e = omega arith
first_small Galileo first e = omega arith
first_small BeiDou first e = omega arith
first_small Qzss first e = omega arith

pub numbered-few : (first width mask : ℕ) → length (numbered first width mask) ≤ width
unfolding numbered
numbered-few first zero mask = omega arith
numbered-few first (suc width) mask = go (eqb (mask / 2 ^ width % 2) 1) (numbered-few (suc first) width mask)
  where
    go : (b : Bool) → length (numbered (suc first) width mask) ≤ width
        → length (pick b (first ∷ numbered (suc first) width mask) (numbered (suc first) width mask)) ≤ suc width
    go true h = omega arith
    go false h = omega arith

-- ---- the satellites of a mask one by one: the first of those that are still to come, and then the others

module _ (s : InMask) where
  pub none-come : s.left ≡ 0 → to_come s ≡ []
  none-come e = ap (numbered (first_satellite s.constellation) 64) e ∙ none-set (first_satellite s.constellation) 64

  module _ (first : ℕ) (one : Step) (n : s.left ≡ 0 → ⊥) (h : s.left < 2 ^ 64) (f : first ≡ first_satellite s.constellation)
      (d : one ≡ record { position = count_leading_zeros 64 s.left; left = without_first s.left }) where
    pub one-comes : to_come s ≡ (first + one.position) ∷ to_come (record { constellation = s.constellation; left = one.left })
    one-comes = (turn (first_satellite s.constellation) s.left one d (omega arith) h).list ∙ ap (λ x. (x + one.position) ∷ numbered (first_satellite s.constellation) 64 one.left) (sym f)

    pub fewer-come : MakesProgress {S = InMask} {A = ℕ} (λ _. ⊤) (item_count to_come) s (Some (first + one.position)) (record { constellation = s.constellation; left = one.left })
    fewer-come = record { on = λ e. (tt, tt, omega (arith, ap length one-comes)); keeps = tt; rests = λ e. tt }

pub all-come : (c : Constellation) (size mask top : ℕ) → top ≡ aligned_to (mask_size c size) mask → to_come (record { constellation = c; left = top }) ≡ satellites_of c size mask
all-come c size mask top e = top-listed c size mask top e

-- ---- the satellites in an array: some are found, and the others are to come

pub record Listing (ms : List ℕ) (left : InMask) (numbers : List ℕ) (count : ℕ) : Type 0 where
  pub found : List ℕ
  pub here : count ≡ length found
  pub holds : numbers ≡ found ++ replicate (64 - count) 0
  pub others : found ++ to_come left ≡ ms
  pub few : length ms ≤ 64

pub listing-starts : (c : Constellation) (size mask : ℕ) (left : InMask) → to_come left ≡ satellites_of c size mask → Listing (satellites_of c size mask) left (replicate 64 0) 0
listing-starts c size mask left e =
    record {
      found = [];
      here = refl;
      holds = refl;
      others = e;
      few = omega (arith, numbered-few (first_satellite c) (mask_size c size) mask, (mask_word c size).most);
    }

module _ (ms : List ℕ) (left : InMask) (numbers : List ℕ) (count : ℕ) (p : Listing ms left numbers count) where
  module _ (n : ℕ) (next : InMask) (e : to_come left ≡ n ∷ to_come next) where
    pub listing-room : count < 64
    listing-room = omega (arith, p.here, p.few, length-append p.found (to_come left), ap length p.others, ap length e)

    pub listing-bytes : count * 8 < 2 ^ 64
    listing-bytes = omega (arith, listing-room)

    pub listing-count : count + 1 < 2 ^ 64
    listing-count = omega (arith, listing-room)

    pub listing-goes : Listing ms next (set numbers count n) (count + 1)
    listing-goes =
        let f : List ℕ = p.found in
        let room : 64 - count ≡ suc (64 - (count + 1)) = omega (arith, listing-room) in
        record {
          found = f ++ (n ∷ []);
          here = omega (arith, p.here, length-append f (n ∷ []));
          holds = ap (λ l. set l count n) (p.holds ∙ ap (λ x. f ++ replicate x 0) room)
              ∙ set_at f 0 (replicate (64 - (count + 1)) 0) n count (sym p.here) ∙ sym (append_assoc f (n ∷ []) _);
          others = append_assoc f (n ∷ []) _ ∙ ap (λ l. f ++ l) (sym e) ∙ p.others;
          few = p.few;
        }

  pub listing-ends : to_come left ≡ [] → record { count = count; numbers = numbers } ≡ listed ms
  listing-ends e =
      let all : p.found ≡ ms = sym (append-nil p.found) ∙ ap (λ l. p.found ++ l) (sym e) ∙ p.others in
      ap₂ (λ (x : ℕ) (l : List ℕ). record { count = x; numbers = l }) p.here (p.holds ∙ ap (λ x. p.found ++ replicate (64 - x) 0) p.here)
      ∙ ap listed all
