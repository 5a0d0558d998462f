-- Definitions to believe: the calls of Driver.antt, with the one who lends the slices where only results are put and says the second, and the one who cuts what is left of a
-- stream. What a call is lent and handed may depend on how many calls were made, on all that was heard before it, and on all that the last call left. So the same slices may be lent
-- again and again, and any clock may give the seconds, read anew for each call.
use Rattle.std.specs.Prelude.{◌≡◌, List, [], ◌∷◌, ◌++◌, ℕ, suc, ◌≤◌, length, take, drop}
use Rattle.stream.specs.Driver.{Caller, waits, hurries, GoesOn}
use Rattle.prepare.specs.Uncut.{Seconds}
use Rattle.prepare.specs.Lender.{second_then}
use Rattle.exportprepare.specs.Prepares.{Lent, call_number, call_leaves, finish_number, finish_leaves}
use Rattle.exportprepare.specs.Driver.{Heard, frame, noise, event_in, used_in, Hears, Rooms, lent_anew}

-- between two calls: how many were made, all that was heard so far, and all that the last call left; before the first, what there is to lend
pub record Point : Type 0 where
  pub calls : ℕ
  pub heard : List Heard
  pub left : Lent

abbrev pub point : (calls : ℕ) → (heard : List Heard) → (left : Lent) → Point
point calls heard left = record { calls = calls; heard = heard; left = left }

-- ---- who lends the log, the places for what is told, and those for a header, and says the second

pub record Slices : Type 0 where
  pub log : List ℕ
  pub told : List ℕ
  pub header : List ℕ
  pub second : ℕ

abbrev pub HasRoom : Slices → Type 0
HasRoom slices = Rooms slices.log slices.told slices.header

-- what the next call is lent
abbrev pub Lender : Type 0
Lender = Point → Slices

-- the same slices, lent again and again, and a clock
abbrev pub same_again : (clock : Point → ℕ) → Lender
same_again clock x = record { log = x.left.log; told = x.left.told; header = x.left.header; second = clock x }

-- where the last call left room, there is room in what is lent next
abbrev pub LendsRoom : Lender → Type 0
LendsRoom lends = (x : Point) → Rooms x.left.log x.left.told x.left.header → HasRoom (lends x)

-- ---- who cuts the stream: how many of the bytes that are left the next call is handed

abbrev pub Cutter : Type 0
Cutter = Point → (rest : List ℕ) → ℕ

-- while bytes are left, a call that said hungry is followed by one that is handed some; the call behind an event may be handed none. Before the first call the number that is
-- lent first among the told ones counts as if a call had said it.
abbrev pub GivesMore : Cutter → Type 0
GivesMore cuts = (x : Point) (rest : List ℕ) → event_in x.left ≡ 0 → 1 ≤ length rest → 1 ≤ cuts x rest

-- where no byte is left: one who waits stops when the last call has said hungry, one who hurries at once
abbrev pub MayStop : Caller → Point → Type 0
MayStop waits x = event_in x.left ≡ 0
MayStop hurries x = Unit {0}

-- the next portion
abbrev pub portion_at : Cutter → Point → (rest : List ℕ) → List ℕ
portion_at cuts x rest = take (cuts x rest) rest

-- ---- a call and finish, lent what the lender lends

module _ (lends : Lender) (x : Point) where
  abbrev pub lent_at : Lent
  lent_at = lent_anew x.left (lends x).log (lends x).told (lends x).header (lends x).second

  module _ (input : List ℕ) where
    abbrev pub call_answers : ℕ
    call_answers = call_number lent_at input

    abbrev pub called : Lent
    called = call_leaves lent_at input

  abbrev pub finish_answers : ℕ
  finish_answers = finish_number lent_at

  abbrev pub finished : Lent
  finished = finish_leaves lent_at

-- ---- `Feeds`, `FeedsStream`, `Closes` and `Whole` of Driver.antt, from point to point

pub data FeedsBy (c : Caller) (lends : Lender) : Point → List (List ℕ) → List Heard → Point → Type 0 where
  no_more : {x : Point} → FeedsBy c lends x [] [] x
  an-event : {x x₁ : Point} {p : List ℕ} {ps : List (List ℕ)} {h : Heard} {hs : List Heard} → call_answers lends x p ≡ 0
      → Hears (called lends x p) h
      → FeedsBy c lends (point (suc x.calls) (x.heard ++ h ∷ []) (called lends x p)) (drop (used_in (called lends x p)) p ∷ ps) hs x₁
      → FeedsBy c lends x (p ∷ ps) (h ∷ hs) x₁
  all-used : {x x₁ : Point} {p : List ℕ} {ps : List (List ℕ)} {hs : List Heard} → call_answers lends x p ≡ 0
      → event_in (called lends x p) ≡ 0
      → FeedsBy c lends (point (suc x.calls) x.heard (called lends x p)) ps hs x₁
      → FeedsBy c lends x (p ∷ ps) hs x₁
  passed_over : {x x₁ : Point} {ps : List (List ℕ)} {hs : List Heard} → GoesOn c → FeedsBy c lends x ps hs x₁ → FeedsBy c lends x ([] ∷ ps) hs x₁

pub data FeedsStreamBy (c : Caller) (lends : Lender) (cuts : Cutter) : Point → (rest : List ℕ) → List Heard → Point → Type 0 where
  no_more : {x : Point} → MayStop c x → FeedsStreamBy c lends cuts x [] [] x
  an-event : {x x₁ : Point} {rest : List ℕ} {h : Heard} {hs : List Heard} → call_answers lends x (portion_at cuts x rest) ≡ 0
      → Hears (called lends x (portion_at cuts x rest)) h
      → FeedsStreamBy c lends cuts (point (suc x.calls) (x.heard ++ h ∷ []) (called lends x (portion_at cuts x rest))) (drop (used_in (called lends x (portion_at cuts x rest))) rest) hs x₁
      → FeedsStreamBy c lends cuts x rest (h ∷ hs) x₁
  all-used : {x x₁ : Point} {rest : List ℕ} {hs : List Heard} → call_answers lends x (portion_at cuts x rest) ≡ 0
      → event_in (called lends x (portion_at cuts x rest)) ≡ 0
      → FeedsStreamBy c lends cuts (point (suc x.calls) x.heard (called lends x (portion_at cuts x rest))) (drop (used_in (called lends x (portion_at cuts x rest))) rest) hs x₁
      → FeedsStreamBy c lends cuts x rest hs x₁

pub data ClosesBy (lends : Lender) : Point → List Heard → Point → Type 0 where
  an-event : {x x₁ : Point} {h : Heard} {hs : List Heard} → finish_answers lends x ≡ 0
      → Hears (finished lends x) h
      → ClosesBy lends (point (suc x.calls) (x.heard ++ h ∷ []) (finished lends x)) hs x₁
      → ClosesBy lends x (h ∷ hs) x₁
  is-done : {x : Point} → finish_answers lends x ≡ 0 → event_in (finished lends x) ≡ 3 → ClosesBy lends x [] (point (suc x.calls) x.heard (finished lends x))

-- a whole stream, in these portions ..
pub record WholeBy (c : Caller) (lends : Lender) (lent : Lent) (portions : List (List ℕ)) : Type 0 where
  pub before : List Heard
  pub between : Point
  pub feeds : FeedsBy c lends (point 0 [] lent) portions before between
  pub after : List Heard
  pub end : Point
  pub closes : ClosesBy lends between after end

-- .. or cut so
pub record WholeStreamBy (c : Caller) (lends : Lender) (cuts : Cutter) (lent : Lent) (stream : List ℕ) : Type 0 where
  pub before : List Heard
  pub between : Point
  pub feeds : FeedsStreamBy c lends cuts (point 0 [] lent) stream before between
  pub after : List Heard
  pub end : Point
  pub closes : ClosesBy lends between after end

-- ---- the seconds of the frames heard: each that of the call by which it was heard (as `seconds_by` of crate prepare)

abbrev pub heard_then : Heard → (second : ℕ) → Seconds → Seconds
heard_then (frame header bytes number sf bit entries) second behind = second_then second behind
heard_then (noise count) second behind = behind

unfoldable pub seconds_fed : {c : Caller} {lends : Lender} {x x₁ : Point} {ps : List (List ℕ)} {hs : List Heard} → FeedsBy c lends x ps hs x₁ → (behind : Seconds) → Seconds
seconds_fed FeedsBy.no_more behind = behind
seconds_fed {lends = lends} (FeedsBy.an-event {x} {h = h} q k d) behind = heard_then h (lends x).second (seconds_fed d behind)
seconds_fed (FeedsBy.all-used q k d) behind = seconds_fed d behind
seconds_fed (FeedsBy.passed_over g d) behind = seconds_fed d behind

unfoldable pub seconds_streamed : {c : Caller} {lends : Lender} {cuts : Cutter} {x x₁ : Point} {rest : List ℕ} {hs : List Heard} → FeedsStreamBy c lends cuts x rest hs x₁ → (behind : Seconds)
    → Seconds
seconds_streamed (FeedsStreamBy.no_more m) behind = behind
seconds_streamed {lends = lends} (FeedsStreamBy.an-event {x} {h = h} q k d) behind = heard_then h (lends x).second (seconds_streamed d behind)
seconds_streamed (FeedsStreamBy.all-used q k d) behind = seconds_streamed d behind

unfoldable pub seconds_closed : {lends : Lender} {x x₁ : Point} {hs : List Heard} → ClosesBy lends x hs x₁ → Seconds
seconds_closed {lends = lends} (ClosesBy.an-event {x} {h = h} q k d) = heard_then h (lends x).second (seconds_closed d)
seconds_closed {lends = lends} (ClosesBy.is-done {x} q k) = λ i. (lends x).second

abbrev pub seconds_by : {c : Caller} {lends : Lender} {lent : Lent} {portions : List (List ℕ)} → WholeBy c lends lent portions → Seconds
seconds_by w = seconds_fed w.feeds (seconds_closed w.closes)

abbrev pub seconds_cut : {c : Caller} {lends : Lender} {cuts : Cutter} {lent : Lent} {stream : List ℕ} → WholeStreamBy c lends cuts lent stream → Seconds
seconds_cut w = seconds_streamed w.feeds (seconds_closed w.closes)
