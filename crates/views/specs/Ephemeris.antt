-- Theorem, in the words of the contract (document 02, request 6): `satellite_at` refuses an ephemeris type without a meaning as the writer does, whatever the satellites carry. Proved.
use Rattle.std.specs.Prelude.{◌≡◌, true, List, ℕ, Err}
use Rattle.std.proofs.Common.{ap}
use Rattle.answer.specs.Place.{nowhere, fault_at}
use Rattle.answer.specs.declared.Refusal.TheVariants as refusal
use Rattle.codes.specs.declared.Constellation.{Constellation}
use Rattle.layout.specs.Parts.{present}
use Rattle.message.specs.Messages.{constellation_of}
use Rattle.ocb.specs.Tables.{ephemeris_sf}
use Rattle.sheet.specs.Ephemeris.{has_tbd_in, tbd-refused-sheet}
use Rattle.views.specs.Judged.{if_taken, for_constellation}
use Rattle.views.specs.Satellites.{nth, satellite_answer_of}

pub tbd-unseen : (subtype : ℕ) (c : Constellation) → constellation_of subtype ≡ present c → (sheet : List ℕ) → has_tbd_in c sheet ≡ true → (place : ℕ)
    → satellite_answer_of subtype sheet place ≡ Err (fault_at refusal.Field (ephemeris_sf c) 5)
unfolding satellite_answer_of
tbd-unseen subtype c known sheet e place =
    ap (λ a. if_taken a Err (
    for_constellation (constellation_of subtype) (Err (nowhere refusal.UnknownType)) (λ constellation. nth constellation sheet place)))
    (tbd-refused-sheet subtype c known sheet e)
