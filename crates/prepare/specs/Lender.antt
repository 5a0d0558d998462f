-- Definitions to believe: the calls of Driver.antt, with the one who lends their logs and says the second: both may depend on how many calls were made, on all that was told
-- before the call, on the state, and on what the last call left of its log. So one log may be lent again and again, and any clock may give the seconds, read anew for each call.
use Rattle.std.specs.Prelude.{◌≡◌, List, [], ◌∷◌, ◌++◌, ℕ, zero, suc, ◌≤◌, length, drop}
use Rattle.stream.specs.Driver.{Caller, GoesOn}
use Rattle.sizes.specs.Sizes.{log_room}
use Rattle.desk.specs.History.{Held}
use Rattle.prepare.specs.declared.Said.TheVariants as said
use Rattle.prepare.specs.declared.Answer.{Answer}
use Rattle.prepare.specs.Uncut.{Told, accepted, refused, noise, Seconds}
use Rattle.prepare.specs.Driver.{State, Lent, call_says, call_leaves, call_logs, finish_says, finish_leaves, finish_logs, Tells, start}

-- between two calls: how many were made, all that was told so far, the state, and the log as the last call left it
pub record Point : Type 0 where
  pub calls : ℕ
  pub before : List Told
  pub state : State
  pub left : List ℕ

abbrev pub point : (calls : ℕ) → (before : List Told) → State → (left : List ℕ) → Point
point calls before state left = record { calls = calls; before = before; state = state; left = left }

-- what the next call is lent, and its second
abbrev pub Lender : Type 0
Lender = Point → Lent

-- one log, lent again and again, and a clock
abbrev pub one_log : (clock : Point → ℕ) → Lender
one_log clock x = record { log = x.left; second = clock x }

-- where the last call left room, there is room in what is lent next
abbrev pub LendsRoom : Lender → Type 0
LendsRoom lends = (x : Point) → log_room ≤ length x.left → log_room ≤ length (lends x).log

-- ---- a call and finish, lent what the lender lends

module _ (lends : Lender) (x : Point) where
  module _ (input : List ℕ) where
    abbrev pub call_answers : Answer
    call_answers = call_says x.state (lends x) input

    abbrev pub CallTells : Told → Type 0
    CallTells told = Tells call_answers.said call_answers.log (call_leaves x.state (lends x) input).bytes (call_logs x.state (lends x) input) told

    abbrev pub called : (before : List Told) → Point
    called before = point (suc x.calls) before (call_leaves x.state (lends x) input) (call_logs x.state (lends x) input)

  abbrev pub finish_answers : Answer
  finish_answers = finish_says x.state (lends x)

  abbrev pub FinishTells : Told → Type 0
  FinishTells told = Tells finish_answers.said finish_answers.log (finish_leaves x.state (lends x)).bytes (finish_logs x.state (lends x)) told

  abbrev pub finished : (before : List Told) → Point
  finished before = point (suc x.calls) before (finish_leaves x.state (lends x)) (finish_logs x.state (lends x))

-- ---- `Feeds`, `Closes` and `Whole` of Driver.antt, from point to point

pub data FeedsBy (c : Caller) (lends : Lender) : Point → List (List ℕ) → List Told → Point → Type 0 where
  no_more : {x : Point} → FeedsBy c lends x [] [] x
  an-event : {x x₁ : Point} {p : List ℕ} {ps : List (List ℕ)} {t : Told} {ts : List Told} → CallTells lends x p t
      → FeedsBy c lends (called lends x p (x.before ++ t ∷ [])) (drop (call_answers lends x p).used p ∷ ps) ts x₁
      → FeedsBy c lends x (p ∷ ps) (t ∷ ts) x₁
  all-used : {x x₁ : Point} {p : List ℕ} {ps : List (List ℕ)} {ts : List Told} → (call_answers lends x p).said ≡ said.Hungry
      → FeedsBy c lends (called lends x p x.before) ps ts x₁
      → FeedsBy c lends x (p ∷ ps) ts x₁
  passed_over : {x x₁ : Point} {ps : List (List ℕ)} {ts : List Told} → GoesOn c → FeedsBy c lends x ps ts x₁ → FeedsBy c lends x ([] ∷ ps) ts x₁

pub data ClosesBy (lends : Lender) : Point → List Told → Point → Type 0 where
  an-event : {x x₁ : Point} {t : Told} {ts : List Told} → FinishTells lends x t
      → ClosesBy lends (finished lends x (x.before ++ t ∷ [])) ts x₁
      → ClosesBy lends x (t ∷ ts) x₁
  is-done : {x : Point} → (finish_answers lends x).said ≡ said.Done → ClosesBy lends x [] (finished lends x x.before)

-- a whole stream in these portions, with the log that there is before the first call
pub record WholeBy (c : Caller) (lends : Lender) (bytes : List ℕ) (books : Held) (log : List ℕ) (portions : List (List ℕ)) : Type 0 where
  pub before : List Told
  pub between : Point
  pub feeds : FeedsBy c lends (point 0 [] (start bytes books) log) portions before between
  pub after : List Told
  pub end : Point
  pub closes : ClosesBy lends between after end

-- ---- the seconds of the frames told: each that of the call which told it

-- a second, and behind it those of the frames behind
abbrev pub second_then : (second : ℕ) → Seconds → Seconds
second_then second behind zero = second
second_then second behind (suc i) = behind i

-- for what is told with it, if that is a frame
abbrev pub told_then : Told → (second : ℕ) → Seconds → Seconds
told_then (accepted header bytes entries) second behind = second_then second behind
told_then (refused header bytes why) second behind = second_then second behind
told_then (noise count) second behind = behind

-- for all that is told with one second
unfoldable pub all_then : List Told → (second : ℕ) → (behind : Seconds) → Seconds
all_then [] second behind = behind
all_then (told ∷ rest) second behind = told_then told second (all_then rest second behind)

-- for the calls on portions, and for those of finish
unfoldable pub seconds_fed : {c : Caller} {lends : Lender} {x x₁ : Point} {ps : List (List ℕ)} {ts : List Told} → FeedsBy c lends x ps ts x₁ → (behind : Seconds) → Seconds
seconds_fed FeedsBy.no_more behind = behind
seconds_fed {lends = lends} (FeedsBy.an-event {x} {t = t} k f) behind = told_then t (lends x).second (seconds_fed f behind)
seconds_fed (FeedsBy.all-used k f) behind = seconds_fed f behind
seconds_fed (FeedsBy.passed_over g f) behind = seconds_fed f behind

unfoldable pub seconds_closed : {lends : Lender} {x x₁ : Point} {ts : List Told} → ClosesBy lends x ts x₁ → Seconds
seconds_closed {lends = lends} (ClosesBy.an-event {x} {t = t} k f) = told_then t (lends x).second (seconds_closed f)
seconds_closed {lends = lends} (ClosesBy.is-done {x} k) = λ i. (lends x).second

abbrev pub seconds_by : {c : Caller} {lends : Lender} {bytes log : List ℕ} {books : Held} {portions : List (List ℕ)} → WholeBy c lends bytes books log portions → Seconds
seconds_by w = seconds_fed w.feeds (seconds_closed w.closes)
