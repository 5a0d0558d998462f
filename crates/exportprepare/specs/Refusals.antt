-- Theorems: the number of a call of `prepare` for other languages, by what is lent to it; and that a refusal changes nothing lent. Proved.
use Rattle.std.specs.Prelude.{◌≡◌, Bool, not, ◌||◌, List, ℕ, ◌≤◌, length}
use Rattle.std.proofs.Math.Path.{refl}
use Rattle.std.proofs.Math.Bool.{true, false, cond}
use Rattle.std.proofs.Common.{ltb-false}
use Rattle.area.specs.Laws.{both_right}
use Rattle.answer.specs.Stop.{stop}
use Rattle.answer.specs.declared.Refusal.TheVariants as refusal
use Rattle.sizes.specs.Sizes.{longest_frame}
use Rattle.stream.specs.Tray.{sound, Outcome, refused, told, hungry, done, called, finished}
use Rattle.stream.specs.Kept.{Good}
use Rattle.stream.specs.Steps.{call_kept, end_kept}
use Rattle.desk.specs.Desk.{desk_sound}
use Rattle.prepare.specs.Uncut as uncut
use Rattle.prepare.specs.Prepare.{is_sound, said_of, result_of, call_outcome, finish_outcome}
use Rattle.prepare.specs.Prepare as prepare
use Rattle.export.specs.Numbers.{laid}
use Rattle.export.specs.Streams.{tray_in}
use Rattle.exportdesk.specs.States.{desk_in}
use Rattle.exportprepare.specs.Prepares as prepares
use Rattle.exportprepare.specs.Prepares.{Lent, handed_in, lacks_room, call_result, finish_result, told_said, told_answer, header_said, state_said, number_told_by, lent_by, call_number, call_leaves, finish_number, finish_leaves}

-- ---- "A call that moves stream and desk together tests ROOM of every lent buffer, then STATE of tray and desk, then takes its step."

abbrev pub is_short : Lent → Bool
is_short lent = lacks_room lent.tray lent.desk lent.told lent.header || prepare.lacks_room lent.bytes lent.live lent.run lent.log

abbrev pub are_sound : Lent → Bool
are_sound lent = is_sound (handed_in lent)

abbrev pub refusal_of : Lent → ℕ
refusal_of lent = cond (is_short lent) 9 (cond (are_sound lent) 0 17)

-- ---- what a call comes to by the stream's outcome

pub neither : (a b : Bool) → (a || b) ≡ false → (a ≡ false) × (b ≡ false)
neither false b e = (refl, e)
neither true b e = (e, cc)

-- an event of the call, so its number is 0
pub told-zero : (t : uncut.Told) (used log : ℕ) → (told_said (said_of t) used log).number ≡ 0
unfolding told_said
told-zero (uncut.accepted header bytes entries) used log = refl
told-zero (uncut.refused header bytes why) used log = refl
told-zero (uncut.noise count) used log = refl

module _ (lent : Lent) where
  good-zero : (o : Outcome) → Good o → (told_answer (result_of (handed_in lent) o).answer).number ≡ 0
  unfolding told_answer told_said
  good-zero (refused why) g = absurd g
  good-zero (told event contents used) g = told-zero (uncut.told_of (handed_in lent).books lent.second event) used _
  good-zero (hungry contents used) g = refl
  good-zero (done contents) g = refl

  number_by : (o : Outcome) → (longest_frame ≤ length lent.bytes → sound lent.bytes (tray_in lent.tray) ≡ true → Good o)
      → number_told_by lent (result_of (handed_in lent) (prepare.guarded (handed_in lent) o)) ≡ refusal_of lent
  unfolding number_told_by told_answer told_said
  number_by o w = go (lacks_room lent.tray lent.desk lent.told lent.header) (prepare.lacks_room lent.bytes lent.live lent.run lent.log) (are_sound lent) refl refl refl
    where
      go : (a b s : Bool) → lacks_room lent.tray lent.desk lent.told lent.header ≡ a → prepare.lacks_room lent.bytes lent.live lent.run lent.log ≡ b → are_sound lent ≡ s
          → cond a 9 (told_answer (result_of (handed_in lent) (stop b (refused refusal.Room) (stop (not s) (refused refusal.State) o))).answer).number ≡ cond (a || b) 9 (cond s 0 17)
      go true b s p q r = refl
      go false true s p q r = refl
      go false false false p q r = refl
      go false false true p q r =
          good-zero o (w (ltb-false (length lent.bytes) longest_frame (neither _ _ q).0) (both_right (desk_sound (desk_in lent.desk) lent.live lent.run) _ r))

  kept_by : (o : Outcome) → (number_told_by lent (result_of (handed_in lent) o) ≡ 0 → ⊥) → lent_by lent (result_of (handed_in lent) o) ≡ lent
  unfolding number_told_by lent_by laid state_said header_said told_answer told_said
  kept_by o = go (lacks_room lent.tray lent.desk lent.told lent.header) o
    where
      go : (a : Bool) (o : Outcome) → (cond a 9 (told_answer (result_of (handed_in lent) o).answer).number ≡ 0 → ⊥) → cond a lent (prepares.leaves lent (result_of (handed_in lent) o)) ≡ lent
      go true o h = refl
      go false (refused why) h = refl
      go false (told event contents used) h = absurd (h (told-zero (uncut.told_of (handed_in lent).books lent.second event) used _))
      go false (hungry contents used) h = absurd (h refl)
      go false (done contents) h = absurd (h refl)

-- ---- the theorems

pub call-number : (lent : Lent) (input : List ℕ) → call_number lent input ≡ refusal_of lent
unfolding call_number call_result call_outcome
call-number lent input =
    number_by lent (called lent.bytes (tray_in lent.tray) input) (λ h s. call_kept lent.bytes (tray_in lent.tray) input (record { room = h; is-sound = s }))

pub finish-number : (lent : Lent) → finish_number lent ≡ refusal_of lent
unfolding finish_number finish_result finish_outcome
finish-number lent =
    number_by lent (finished lent.bytes (tray_in lent.tray)) (λ h s. end_kept lent.bytes (tray_in lent.tray) (record { room = h; is-sound = s }))

-- "A refusal .. alters no lent byte or entry"
pub call-refused : (lent : Lent) (input : List ℕ) → (call_number lent input ≡ 0 → ⊥) → call_leaves lent input ≡ lent
unfolding call_number call_leaves call_result
call-refused lent input h = kept_by lent (call_outcome (handed_in lent) input) h

pub finish-refused : (lent : Lent) → (finish_number lent ≡ 0 → ⊥) → finish_leaves lent ≡ lent
unfolding finish_number finish_leaves finish_result
finish-refused lent h = kept_by lent (finish_outcome (handed_in lent)) h
