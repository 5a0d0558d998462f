-- Serves proofs, and is proved: of an entry that was read, AIOU + 1 is at most 16, and T with a size code is not 0. Assumes nothing.
use Rattle.std.specs.Prelude.{◌≡◌, refl, List, ℕ, zero, suc, ◌≤◌, ◌<◌, Ok, Err, Some, None}
use Rattle.std.proofs.Common.{arith}
use Rattle.layout.specs.Parts.{Part, absent, present}
use Rattle.bits.specs.Bits.{Bytes}
use Rattle.area.specs.Area.{nodes}
use Rattle.area.specs.Laws.{nodes-some}
use Rattle.entries.specs.Entry as entries
use Rattle.entries.specs.Accepted.{most_aiou_plus_one, IsTroposphere, IsEntry}
use Rattle.entries.specs.Numbers.{Outcome, accepted, refused}
use Rattle.entries.specs.Read.{read_entry}
use Rattle.entries.specs.Theorems.{was}
use Rattle.entries.specs.Answers.{aiou_of, troposphere_of, told_of, read_answer}
use Rattle.entries.specs.Results.{Aiou}
use Rattle.entries.specs.Results.{Troposphere}
use Rattle.entries.specs.declared.Entry.{Entry}
use Rattle.entries.specs.declared.Entry.TheVariants as entry
use Rattle.entries.specs.Results.{EntryRead}

abbrev pub AiouIn : Aiou → Type 0
AiouIn None = Unit {0}
AiouIn (Some n) = n < most_aiou_plus_one

abbrev pub TroposphereIn : Troposphere → Type 0
TroposphereIn None = Unit {0}
TroposphereIn (Some p) = 1 ≤ p.count

abbrev pub EntryIn : Entry → Type 0
EntryIn (entry.Opened run) = AiouIn run.aiou
EntryIn (entry.Placed area) = TroposphereIn area.troposphere
EntryIn (entry.LeftOut area) = Unit {0}

abbrev pub AnswerIn : EntryRead → Type 0
AnswerIn (Ok (told, used)) = EntryIn told
AnswerIn (Err refusal) = Unit {0}

aiou-in : (aiou_plus_one : ℕ) → aiou_plus_one ≤ most_aiou_plus_one → AiouIn (aiou_of aiou_plus_one)
aiou-in zero h = tt
aiou-in (suc n) h = omega arith

troposphere-in : (bits : ℕ) (t : Part entries.Grid) → IsTroposphere (nodes bits) t → TroposphereIn (troposphere_of t)
troposphere-in bits absent p = tt
troposphere-in bits (present grid) p = omega (arith, nodes-some bits, p.one-a-node)

entry_in : (e : entries.Entry) → IsEntry e → EntryIn (told_of e)
entry_in (entries.opened tag aiou_plus_one count) p = aiou-in aiou_plus_one p.aiou-in
entry_in (entries.placed id bits troposphere satellites) p = troposphere-in bits troposphere p.troposphere-is
entry_in (entries.left_out id reason) p = tt

pub read-in : (s : List ℕ) → Bytes s → AnswerIn (read_answer (read_entry s))
read-in s b = go (read_entry s) refl
  where
    go : (o : Outcome entries.Entry) → read_entry s ≡ o → AnswerIn (read_answer o)
    go (accepted e used) q = entry_in e (was s e used b q).is-entry
    go (refused why) q = tt
