-- Laws: what the calls of `prepare` tell and leave, worded as the code makes it.
use Rattle.std.specs.Prelude.{Option}
use mathlib.Core.Path.{◌≡◌, sym, ap₂, ◌∙◌}
use mathlib.Core.Bool.{Bool, true, false}
use mathlib.Core.List.{List, [], ◌∷◌}
use Prim.Native.Nat.{ℕ, ◌≤◌, ◌<◌}
use lib.Dec.{ltb}
use lib.ListN.{length}
use borrow.Author.Tests.{lt-ltb, le-ltb, ltb-false}
use Rattle.stream.specs.declared.Tray.{Tray}
use Rattle.desk.specs.declared.Desk.{Desk}
use Rattle.prepare.specs.declared.Said.{Said}
use Rattle.prepare.specs.declared.Answer.{Answer}
use Rattle.prepare.specs.Prepare.{hands, results, Result, by_call, by_finish}
use Rattle.answer.specs.Place.{sf_in, at_in}
use Rattle.answer.specs.declared.Place.{Place}
use Rattle.export.specs.Numbers.{laid}
use Rattle.export.specs.Frames.{header_room}
use Rattle.export.specs.Streams.{tray_room, tray_in, tray_of}
use Rattle.exportdesk.specs.States.{desk_room, desk_in, desk_of}
use Rattle.exportprepare.specs.Prepares.{Lent, lends, told_room, lacks_room, event_of, told_said, told_answer, header_said, state_said, number_told_by, lent_by}
use Rattle.exportprepare.specs.Refusals.{neither}
use Rattle.exportprepare.specs.Puts.{Judged, StatesThere, AllThere, Puts}

-- ---- lacks_room

module _ (tray desk told header : List ℕ) where
  pub room-tray : length tray < tray_room → Judged true tray desk told header
  unfolding lacks_room
  room-tray h = record { is-judged = rw (lt-ltb (length tray) tray_room h) }

  pub room-desk : tray_room ≤ length tray → length desk < desk_room → Judged true tray desk told header
  unfolding lacks_room
  room-desk h k = record { is-judged = rw (le-ltb (length tray) tray_room h, lt-ltb (length desk) desk_room k) }

  pub room-told : tray_room ≤ length tray → desk_room ≤ length desk → length told < told_room → Judged true tray desk told header
  unfolding lacks_room
  room-told h k l = record { is-judged = rw (le-ltb (length tray) tray_room h, le-ltb (length desk) desk_room k, lt-ltb (length told) told_room l) }

  pub room-header : tray_room ≤ length tray → desk_room ≤ length desk → told_room ≤ length told → Judged (ltb (length header) header_room) tray desk told header
  unfolding lacks_room
  room-header h k l = record { is-judged = rw (le-ltb (length tray) tray_room h, le-ltb (length desk) desk_room k, le-ltb (length told) told_room l) }

-- ---- tell: what is told and left where the answer says s

pub puts : (a : Answer) (s : Said) (tray desk told header tray' desk' told' header' : List ℕ) (n : ℕ) → a.said ≡ s
    → n ≡ (told_said s a.used a.log).number → tray' ≡ laid (state_said s (tray_of a.tray)) tray → desk' ≡ laid (state_said s (desk_of a.desk)) desk
    → told' ≡ laid (told_said s a.used a.log).numbers told → header' ≡ laid (header_said s) header
    → Puts a tray desk told header n tray' desk' told' header'
unfolding told_answer
puts a s tray desk told header tray' desk' told' header' n e p t d q h =
    record { number_is = rw e p; tray-is = rw e t; desk-is = rw e d; told_is = rw e q; header_is = rw e h }

-- the seven numbers of an event, as the code makes them
pub told-made : (event used noise number log u w l s a b : ℕ) (place : (Option Place)) → u ≡ used → w ≡ number → l ≡ log → s ≡ sf_in place → a ≡ at_in place → b ≡ a
    → event ∷ u ∷ noise ∷ w ∷ l ∷ s ∷ b ∷ [] ≡ event ∷ used ∷ noise ∷ number ∷ log ∷ sf_in place ∷ at_in place ∷ []
told-made event used noise number log u w l s a b place p q r t x y = rw (p, q, r, t, y, x)

-- an event whose noise was counted, and one whose frame the desk refused with a number
pub event-as : (event used noise number log sf bit m n : ℕ) (lent now : List ℕ) → now ≡ laid (event_of event used m n log sf bit) lent → m ≡ noise → n ≡ number
    → now ≡ laid (event_of event used noise number log sf bit) lent
event-as event used noise number log sf bit m n lent now p e f = p ∙ ap₂ (λ m n. laid (event_of event used m n log sf bit) lent) e f

-- ---- call and finish: the tray and the desk are those that the numbers say

module _ (bytes live run log bytes' live' run' log' ts ds : List ℕ) (second : ℕ) (t : Tray) (d : Desk) (p : t ≡ tray_in ts) (q : d ≡ desk_in ds) (r : Answer) where
  pub called : (input : List ℕ) → results r bytes' live' run' log' ≡ by_call (hands bytes t d live run log second) input
      → results r bytes' live' run' log' ≡ by_call (hands bytes (tray_in ts) (desk_in ds) live run log second) input
  called input e = e ∙ ap₂ (λ t d. by_call (hands bytes t d live run log second) input) p q

  pub finished : results r bytes' live' run' log' ≡ by_finish (hands bytes t d live run log second)
      → results r bytes' live' run' log' ≡ by_finish (hands bytes (tray_in ts) (desk_in ds) live run log second)
  finished e = e ∙ ap₂ (λ t d. by_finish (hands bytes t d live run log second)) p q

-- ---- the calls for other languages

module _ (tray desk told header : List ℕ) (b : Bool) (e : Judged b tray desk told header) (h : b ≡ false) where
  -- what telling wants, and what the call below wants
  pub all_there : AllThere tray desk told header
  unfolding lacks_room
  all_there =
      let x = neither (ltb (length tray) tray_room) _ (sym e.is-judged ∙ h) in
      let y = neither (ltb (length desk) desk_room) _ x.1 in
      let z = neither (ltb (length told) told_room) _ y.1 in
      record {
        tray-room = ltb-false _ _ x.0;
        desk-room = ltb-false _ _ y.0;
        told-room = ltb-false _ _ z.0;
        header-room = ltb-false _ _ z.1;
      }

  pub states-there : StatesThere tray desk
  states-there = record { tray-room = all_there.tray-room; desk-room = all_there.desk-room }

-- a call or a finish: what it comes to by what the call below leaves
module _ (bytes tray desk live run log told header : List ℕ) (second : ℕ) (result : Result) (b : Bool) (e : Judged b tray desk told header) where
  abbrev lent : Lent
  lent = lends bytes tray desk live run log told header second

  pub short-number : b ≡ true → 9 ≡ number_told_by lent result
  unfolding number_told_by
  short-number h = let z : lacks_room tray desk told header ≡ true = sym e.is-judged ∙ h in rw z

  pub short-leaves : b ≡ true → lent ≡ lent_by lent result
  unfolding lent_by
  short-leaves h = let z : lacks_room tray desk told header ≡ true = sym e.is-judged ∙ h in rw z

  module _ (h : b ≡ false) (a : Answer) (bytes' tray' desk' live' run' log' told' header' : List ℕ) (n : ℕ)
      (t : Puts a tray desk told header n tray' desk' told' header') (q : results a bytes' live' run' log' ≡ result) where
    pub told-number : n ≡ number_told_by lent result
    unfolding number_told_by
    told-number = let z : lacks_room tray desk told header ≡ false = sym e.is-judged ∙ h in rw (z, ← q) t.number_is

    pub told-leaves : lends bytes' tray' desk' live' run' log' told' header' second ≡ lent_by lent result
    unfolding lent_by
    told-leaves =
        let z : lacks_room tray desk told header ≡ false = sym e.is-judged ∙ h in
        rw (z, ← q, t.tray-is, t.desk-is, t.told_is, t.header_is)
