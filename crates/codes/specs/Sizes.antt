-- Serves proofs, and is proved: every mask has 1 to 64 bits, so each mask field is fine.
use Rattle.std.specs.Prelude.{◌≡◌, refl, Bool, true, false, List, [], ◌∷◌, ℕ, zero, suc, ◌≤◌, ◌<◌, T, ltb, leb, get_or}
use Rattle.std.proofs.Common.{arith, ltb-true, leb-true, lit<, lit≤, pow_pos}
use Rattle.layout.specs.Layout.{pick}
use Rattle.layout.specs.Parts.{free}
use Rattle.layout.specs.Walks.{Numbered, Fine, fine, fine-free}
use Rattle.fields.specs.Fields.{table, find, line_of, sf}
use Rattle.codes.specs.declared.Constellation.{Constellation}
use Rattle.codes.specs.declared.Constellation.TheVariants.{Gps, Glonass, Galileo, BeiDou, Qzss}
use Rattle.codes.specs.Tables.{mask_sf, mask_sizes, mask_size, bias_mask_sizes, bias_size}
use Rattle.codes.specs.Fields.{mask_field}

-- 1 to 64
pub record Word (w : ℕ) : Type 0 where
  pub some : 0 < w
  pub most : w ≤ 64

abbrev words : List ℕ → Bool
words [] = true
words (x ∷ l) = pick (ltb 0 x) (pick (leb x 64) (words l) false) false

word_at : (l : List ℕ) (i d : ℕ) → T (words l) → Word d → Word (get_or l i d)
word_at [] i d t h = h
word_at (x ∷ l) i d t h = go (λ t i. word_at l i d t h) (ltb 0 x) (leb x 64) refl refl t i
  where
    go : (T (words l) → (i : ℕ) → Word (get_or l i d)) → (a b : Bool) → ltb 0 x ≡ a → leb x 64 ≡ b
        → T (pick a (pick b (words l) false) false) → (i : ℕ) → Word (get_or (x ∷ l) i d)
    go rest true true p q t zero = record { some = ltb-true 0 x p; most = leb-true x 64 q }
    go rest true true p q t (suc i) = rest t i
    go rest true false p q t i = absurd t
    go rest false b p q t i = absurd t

-- the size of a satellite mask has two bits
pub mask-size-width : (c : Constellation) → (sf (mask_sf c)).width ≡ 2
unfolding sf line_of find table
mask-size-width Gps = refl
mask-size-width Glonass = refl
mask-size-width Galileo = refl
mask-size-width BeiDou = refl
mask-size-width Qzss = refl

pub fine-mask-size : (c : Constellation) → Fine (sf (mask_sf c))
unfolding sf line_of find table
fine-mask-size Gps = fine tt
fine-mask-size Glonass = fine tt
fine-mask-size Galileo = fine tt
fine-mask-size BeiDou = fine tt
fine-mask-size Qzss = fine tt

pub mask_word : (c : Constellation) (size : ℕ) → Word (mask_size c size)
unfolding mask_size mask_sizes
mask_word Gps size = word_at (32 ∷ 44 ∷ 56 ∷ 64 ∷ []) size 64 tt (record { some = lit< tt; most = lit≤ tt })
mask_word Glonass size = word_at (24 ∷ 36 ∷ 48 ∷ 63 ∷ []) size 64 tt (record { some = lit< tt; most = lit≤ tt })
mask_word Galileo size = word_at (36 ∷ 45 ∷ 54 ∷ 64 ∷ []) size 64 tt (record { some = lit< tt; most = lit≤ tt })
mask_word BeiDou size = word_at (37 ∷ 46 ∷ 55 ∷ 64 ∷ []) size 64 tt (record { some = lit< tt; most = lit≤ tt })
mask_word Qzss size = word_at (10 ∷ 40 ∷ 48 ∷ 64 ∷ []) size 64 tt (record { some = lit< tt; most = lit≤ tt })

pub bias-word : (c : Constellation) (size : ℕ) → Word (bias_size c size)
unfolding bias_size bias_mask_sizes
bias-word Gps size = word_at (6 ∷ 11 ∷ []) size 15 tt (record { some = lit< tt; most = lit≤ tt })
bias-word Glonass size = word_at (5 ∷ 9 ∷ []) size 15 tt (record { some = lit< tt; most = lit≤ tt })
bias-word Galileo size = word_at (8 ∷ 15 ∷ []) size 15 tt (record { some = lit< tt; most = lit≤ tt })
bias-word BeiDou size = word_at (8 ∷ 15 ∷ []) size 15 tt (record { some = lit< tt; most = lit≤ tt })
bias-word Qzss size = word_at (6 ∷ 11 ∷ []) size 15 tt (record { some = lit< tt; most = lit≤ tt })

fine-bits : (sf w : ℕ) → Numbered sf → Word w → Fine (mask_field sf w)
fine-bits sf zero n h = absurd (omega (arith, h.some))
fine-bits sf (suc w) n h =
    record {
      some = h.some;
      word = h.most;
      most = omega (arith, pow_pos w);
      extra = omega (arith, pow_pos w);
      number = n;
      under = refl;
      over = refl;
    }

numbered-mask : (c : Constellation) → Numbered (mask_sf c)
numbered-mask Gps = record { some = lit< tt; small = lit< tt }
numbered-mask Glonass = record { some = lit< tt; small = lit< tt }
numbered-mask Galileo = record { some = lit< tt; small = lit< tt }
numbered-mask BeiDou = record { some = lit< tt; small = lit< tt }
numbered-mask Qzss = record { some = lit< tt; small = lit< tt }

pub fine-mask : (c : Constellation) (size : ℕ) → Fine (mask_field (mask_sf c) (mask_size c size))
fine-mask c size = fine-bits (mask_sf c) (mask_size c size) (numbered-mask c) (mask_word c size)

-- the bits of a bias mask whose size has this number
pub fine-bias : (sf : ℕ) → Numbered sf → (c : Constellation) (size : ℕ) → Fine (free sf (bias_size c size))
fine-bias sf n c size = fine-free sf (bias_size c size) n (bias-word c size).some (bias-word c size).most
