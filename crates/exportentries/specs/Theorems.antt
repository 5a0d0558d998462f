-- Theorems on entries of the run log as numbers and floats: a refusal writes nothing; nothing of an answer is lost, since two entries, residuals or satellites that are told alike are the
-- same; and S and the count of nodes say which residuals of satellites there are. Proved; assumes nothing.
use Rattle.std.proofs.Math.Path.{◌≡◌, refl, ap, subst}
use Rattle.std.proofs.Common.{sym, arith}
use Rattle.std.specs.Prelude.{Bool, ◌⊎◌, ℕ, ◌≤◌, ◌<◌, Ok, Err, Some, None}
use Rattle.std.proofs.Math.Bool.{true, false}
use Rattle.std.proofs.Math.Logic.{⊎_elim}
use mathlib.Core.List.{List, [], ◌∷◌}
use Rattle.std.proofs.Math.Dec.{ltb}
use Rattle.std.proofs.Math.ListN.{length}
use borrow.Author.Tests.{ltb-true, ltb-false}
use Rattle.bits.specs.Bits.{Bytes}
use Rattle.area.specs.Area.{nodes}
use Rattle.area.specs.declared.AreaId.{AreaId}
use Rattle.values.specs.declared.Residual.{Residual}
use Rattle.values.specs.declared.Residual.TheVariants as residual
use Rattle.entries.specs.Entry as entries
use Rattle.entries.specs.Accepted.{IsEntry}
use Rattle.entries.specs.Numbers.{Outcome, accepted, refused}
use Rattle.entries.specs.Read.{read_entry}
use Rattle.entries.specs.Answers.{told_of, read_answer, satellite_in, satellites_of, slant_by, slant_answer}
use Rattle.entries.specs.Theorems.{was}
use Rattle.entries.specs.Handed.{past-list, slant-handed, slant-outside}
use Rattle.entries.specs.Results.{Aiou}
use Rattle.entries.specs.Results.{Troposphere}
use Rattle.entries.specs.declared.Opened.{Opened}
use Rattle.entries.specs.declared.Placed.{Placed}
use Rattle.entries.specs.declared.LeftOut.{LeftOut}
use Rattle.entries.specs.declared.Entry.{Entry}
use Rattle.entries.specs.declared.Entry.TheVariants as entry
use Rattle.entries.specs.Results.{EntryRead}
use Rattle.entries.specs.Results.{ResidualRead}
use Rattle.entries.specs.Results.{SatelliteRead}
use Rattle.exportviews.specs.Theorems.{Quiet, QuietNumbers, at, float_at}
use Rattle.exportentries.specs.Entries.{aiou_plus_one, count_in, size_in, numbers_of_opened, numbers_of_placed, numbers_of_left_out, numbers_of_entry, told_entry, numbers_of_residual, floats_of_residual, told_residual, told_satellite}
use Rattle.exportentries.specs.Ranges.{TroposphereIn, EntryIn, AnswerIn, read-in}

-- ---- "A refusal .. alters no lent byte or entry": nothing is told beside a number other than 0, so `lent-leaves` and `refusal-leaves` of crate exportviews say it of these calls

pub entry-quiet : (a : EntryRead) → QuietNumbers (told_entry a)
unfolding told_entry
entry-quiet (Ok (told, used)) h = absurd (h refl)
entry-quiet (Err why) h = refl

pub residual-quiet : (a : ResidualRead) → Quiet (told_residual a)
unfolding told_residual
residual-quiet (Ok (code, value)) h = absurd (h refl)
residual-quiet (Err why) h = (refl, refl)

pub satellite-quiet : (a : SatelliteRead) → QuietNumbers (told_satellite a)
unfolding told_satellite
satellite-quiet (Ok (number, size)) h = absurd (h refl)
satellite-quiet (Err why) h = refl

-- ---- two entries that are told alike are the same

aiou-whole : (a b : Aiou) → aiou_plus_one a ≡ aiou_plus_one b → a ≡ b
aiou-whole None None e = refl
aiou-whole None (Some n) e = absurd (omega arith)
aiou-whole (Some m) None e = absurd (omega arith)
aiou-whole (Some m) (Some n) e = ap Some (omega arith)

-- T of 0 says that there is no size code
troposphere-whole : (a b : Troposphere) → TroposphereIn a → TroposphereIn b → count_in a ≡ count_in b → size_in a ≡ size_in b → a ≡ b
troposphere-whole None None p q e f = refl
troposphere-whole None (Some h) p q e f = absurd (omega arith)
troposphere-whole (Some g) None p q e f = absurd (omega arith)
troposphere-whole (Some g) (Some h) p q e f = λ i. Some (record { count = e i; size = f i })

opened-same : {m m' n n' : ℕ} {a a' : Aiou} → m ≡ m' → a ≡ a' → n ≡ n' → ◌≡◌ {A = Opened} (record { tag = m; aiou = a; count = n }) (record { tag = m'; aiou = a'; count = n' })
opened-same p q r = cc

id_same : {m m' : ℕ} → m ≡ m' → ◌≡◌ {A = AreaId} (record { 0 = m }) (record { 0 = m' })
id_same p = cc

placed_same : {d d' : AreaId} {m m' n n' : ℕ} {t t' : Troposphere} → d ≡ d' → m ≡ m' → t ≡ t' → n ≡ n'
    → ◌≡◌ {A = Placed} (record { id = d; bits = m; troposphere = t; satellites = n }) (record { id = d'; bits = m'; troposphere = t'; satellites = n' })
placed_same p q r s = cc

left-out-same : {d d' : AreaId} {m m' : ℕ} → d ≡ d' → m ≡ m' → ◌≡◌ {A = LeftOut} (record { id = d; reason = m }) (record { id = d'; reason = m' })
left-out-same p q = cc

pub entry_whole : (a b : Entry) (i j : ℕ) → EntryIn a → EntryIn b → numbers_of_entry a i ≡ numbers_of_entry b j → (a ≡ b) × (i ≡ j)
unfolding numbers_of_entry numbers_of_opened numbers_of_placed numbers_of_left_out
entry_whole (entry.Opened a) (entry.Opened b) i j p q e =
    (ap entry.Opened (opened-same (at e 2) (aiou-whole a.aiou b.aiou (at e 3)) (at e 4)), at e 1)
entry_whole (entry.Placed a) (entry.Placed b) i j p q e =
    (ap entry.Placed (placed_same (id_same (at e 2)) (at e 3) (troposphere-whole a.troposphere b.troposphere p q (at e 4) (at e 5)) (at e 6)), at e 1)
entry_whole (entry.LeftOut a) (entry.LeftOut b) i j p q e = (ap entry.LeftOut (left-out-same (id_same (at e 2)) (at e 3)), at e 1)
entry_whole (entry.Opened a) (entry.Placed b) i j p q e = let z : ◌≡◌ {A = ℕ} 1 2 = at e 0 in absurd (omega arith)
entry_whole (entry.Opened a) (entry.LeftOut b) i j p q e = let z : ◌≡◌ {A = ℕ} 1 3 = at e 0 in absurd (omega arith)
entry_whole (entry.Placed a) (entry.Opened b) i j p q e = let z : ◌≡◌ {A = ℕ} 2 1 = at e 0 in absurd (omega arith)
entry_whole (entry.Placed a) (entry.LeftOut b) i j p q e = let z : ◌≡◌ {A = ℕ} 2 3 = at e 0 in absurd (omega arith)
entry_whole (entry.LeftOut a) (entry.Opened b) i j p q e = let z : ◌≡◌ {A = ℕ} 3 1 = at e 0 in absurd (omega arith)
entry_whole (entry.LeftOut a) (entry.Placed b) i j p q e = let z : ◌≡◌ {A = ℕ} 3 2 = at e 0 in absurd (omega arith)

-- Bytes whose entries are told by the same numbers have the same entry in front, of as many bytes.
pub read_whole : (s t : List ℕ) (a b : Entry) (i j : ℕ) → Bytes s → Bytes t → read_answer (read_entry s) ≡ Ok (a, i) → read_answer (read_entry t) ≡ Ok (b, j)
    → numbers_of_entry a i ≡ numbers_of_entry b j → (a ≡ b) × (i ≡ j)
read_whole s t a b i j bs bt p q e = entry_whole a b i j (subst AnswerIn p (read-in s bs)) (subst AnswerIn q (read-in t bt)) e

-- ---- two residuals, with their codes, that are told alike are the same

pub residual-whole : (c d : ℕ) (a b : Residual) → numbers_of_residual c a ≡ numbers_of_residual d b → floats_of_residual a ≡ floats_of_residual b → (c ≡ d) × (a ≡ b)
unfolding numbers_of_residual floats_of_residual
residual-whole c d residual.Invalid residual.Invalid e f = (at e 1, refl)
residual-whole c d (residual.Metres x) (residual.Metres y) e f = (at e 1, ap residual.Metres (float_at f 0))
residual-whole c d (residual.Tecu x) (residual.Tecu y) e f = (at e 1, ap residual.Tecu (float_at f 0))
residual-whole c d residual.Invalid (residual.Metres y) e f = let z : ◌≡◌ {A = ℕ} 0 1 = at e 0 in absurd (omega arith)
residual-whole c d residual.Invalid (residual.Tecu y) e f = let z : ◌≡◌ {A = ℕ} 0 3 = at e 0 in absurd (omega arith)
residual-whole c d (residual.Metres x) residual.Invalid e f = let z : ◌≡◌ {A = ℕ} 1 0 = at e 0 in absurd (omega arith)
residual-whole c d (residual.Metres x) (residual.Tecu y) e f = let z : ◌≡◌ {A = ℕ} 1 3 = at e 0 in absurd (omega arith)
residual-whole c d (residual.Tecu x) residual.Invalid e f = let z : ◌≡◌ {A = ℕ} 3 0 = at e 0 in absurd (omega arith)
residual-whole c d (residual.Tecu x) (residual.Metres y) e f = let z : ◌≡◌ {A = ℕ} 3 1 = at e 0 in absurd (omega arith)

-- ---- and two satellites

pub satellite-whole : (i j m n : ℕ) → (told_satellite (Ok (i, m))).numbers ≡ (told_satellite (Ok (j, n))).numbers → (i ≡ j) × (m ≡ n)
unfolding told_satellite
satellite-whole i j m n e = (at e 0, at e 1)

-- ---- the numbers of an area placed say which residuals of satellites there are: FIELD comes exactly for a satellite not below S, or a node not below the count of nodes

module _ (used id bits t size satellites points k node : ℕ) where
  there-in : (e : entries.Entry) (n : ℕ) → IsEntry e → numbers_of_entry (told_of e) n ≡ 2 ∷ used ∷ id ∷ bits ∷ t ∷ size ∷ satellites ∷ points ∷ [] → k < satellites → node < points
      → (told_residual (slant_by (satellite_in (satellites_of e) k) node)).number ≡ 0
  unfolding numbers_of_entry numbers_of_opened numbers_of_placed numbers_of_left_out told_residual
  there-in (entries.placed i b g ss) n p q h l =
      let m : k < length ss = subst (λ x. k < x) (sym (at q 6)) h in
      ap (λ a. (told_residual a).number) (slant-handed i b g ss p k m node (subst (λ x. node < x) (sym (at q 7)) l)).is
  there-in (entries.opened tag aiou_plus_one count) n p q h l = let z : ◌≡◌ {A = ℕ} 1 2 = at q 0 in absurd (omega arith)
  there-in (entries.left_out i reason) n p q h l = let z : ◌≡◌ {A = ℕ} 3 2 = at q 0 in absurd (omega arith)

  not-there-in : (e : entries.Entry) (n : ℕ) → IsEntry e → numbers_of_entry (told_of e) n ≡ 2 ∷ used ∷ id ∷ bits ∷ t ∷ size ∷ satellites ∷ points ∷ []
      → (satellites ≤ k) ⊎ (points ≤ node) → (told_residual (slant_by (satellite_in (satellites_of e) k) node)).number ≡ 8
  unfolding numbers_of_entry numbers_of_opened numbers_of_placed numbers_of_left_out told_residual
  not-there-in (entries.placed i b g ss) n p q h = go (ltb k (length ss)) refl (at q 6) (at q 7) h
    where
      go : (x : Bool) → ltb k (length ss) ≡ x → length ss ≡ satellites → nodes b ≡ points → (satellites ≤ k) ⊎ (points ≤ node)
          → (told_residual (slant_by (satellite_in ss k) node)).number ≡ 8
      go false e es ep h = ap (λ s. (told_residual (slant_by s node)).number) (past-list ss k (ltb-false k (length ss) e))
      go true e es ep h =
          let m : k < length ss = ltb-true k (length ss) e in
          ⊎_elim
          (λ o. absurd (omega arith))
          (λ o. ap (λ a. (told_residual a).number) (slant-outside i b g ss p k m node (subst (λ x. x ≤ node) (sym ep) o)))
          h
  not-there-in (entries.opened tag aiou_plus_one count) n p q h = let z : ◌≡◌ {A = ℕ} 1 2 = at q 0 in absurd (omega arith)
  not-there-in (entries.left_out i reason) n p q h = let z : ◌≡◌ {A = ℕ} 3 2 = at q 0 in absurd (omega arith)

  module _ (s : List ℕ) (b : Bytes s) (told : (told_entry (read_answer (read_entry s))).numbers ≡ 2 ∷ used ∷ id ∷ bits ∷ t ∷ size ∷ satellites ∷ points ∷ []) where
    pub residual-there : k < satellites → node < points → (told_residual (slant_answer (read_entry s) k node)).number ≡ 0
    unfolding told_entry
    residual-there = go (read_entry s) refl told
      where
        go : (o : Outcome entries.Entry) → read_entry s ≡ o → (told_entry (read_answer o)).numbers ≡ 2 ∷ used ∷ id ∷ bits ∷ t ∷ size ∷ satellites ∷ points ∷ []
            → k < satellites → node < points → (told_residual (slant_answer o k node)).number ≡ 0
        go (accepted e n) r q h l = there-in e n (was s e n b r).is-entry q h l
        go (refused why) r q h l = let z : ◌≡◌ {A = ℕ} 0 2 = at q 0 in absurd (omega arith)

    pub residual-not-there : (satellites ≤ k) ⊎ (points ≤ node) → (told_residual (slant_answer (read_entry s) k node)).number ≡ 8
    unfolding told_entry
    residual-not-there = go (read_entry s) refl told
      where
        go : (o : Outcome entries.Entry) → read_entry s ≡ o → (told_entry (read_answer o)).numbers ≡ 2 ∷ used ∷ id ∷ bits ∷ t ∷ size ∷ satellites ∷ points ∷ []
            → (satellites ≤ k) ⊎ (points ≤ node) → (told_residual (slant_answer o k node)).number ≡ 8
        go (accepted e n) r q h = not-there-in e n (was s e n b r).is-entry q h
        go (refused why) r q h = let z : ◌≡◌ {A = ℕ} 0 2 = at q 0 in absurd (omega arith)
