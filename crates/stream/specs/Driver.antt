-- How a stream is read: each portion is handed over until the call says hungry, or until all of it is used, and then finish is called until it says done. Definitions to believe.
use Rattle.std.specs.Prelude.{◌≡◌, List, [], ◌∷◌, true, ℕ, ◌≤◌, length, take, drop}
use Rattle.sizes.specs.Sizes.{longest_frame}
use Rattle.stream.specs.declared.Tray.{Tray}
use Rattle.stream.specs.declared.Said.{Said}
use Rattle.stream.specs.Scan.{Event, frame, noise}
use Rattle.stream.specs.Tray.{zeros, sound, fresh_tray, call_answer, call_bytes, finish_answer, finish_bytes}

-- a tray that a call takes: its bytes have room, and it is sound
pub record Ready (bytes : List ℕ) (tray : Tray) : Type 0 where
  pub room : longest_frame ≤ length bytes
  pub is-sound : sound bytes tray ≡ true

-- the bytes that a fresh tray is lent: room for the longest frame, zeros so far
pub record Clear (bytes : List ℕ) : Type 0 where
  pub room : longest_frame ≤ length bytes
  pub are-zeros : zeros (take longest_frame bytes) ≡ true

-- the event that is told by what a call says, with the tray's bytes afterwards: a frame lies first among them
abbrev pub Tells : Said → List ℕ → Event → Type 0
Tells (Said.Frame f) bytes e = e ≡ frame f (take f.length bytes)
Tells (Said.Noise n) bytes e = e ≡ noise n
Tells Said.Hungry bytes e = ⊥
Tells Said.Done bytes e = ⊥
Tells (Said.Refused r) bytes e = ⊥

-- who calls: one who hands each portion over until the call says hungry, or one who may go on as soon as all of it is used
pub data Caller : Type 0 where
  waits : Caller
  hurries : Caller

abbrev pub GoesOn : Caller → Type 0
GoesOn waits = ⊥
GoesOn hurries = Unit {0}

-- `Feeds caller bytes tray portions events bytes₁ tray₁`: the calls on the portions tell these events and leave that tray
pub data Feeds (c : Caller) : List ℕ → Tray → List (List ℕ) → List Event → List ℕ → Tray → Type 0 where
  no_more : {b : List ℕ} {t : Tray} → Feeds c b t [] [] b t
  an-event : {b b₁ : List ℕ} {t t₁ : Tray} {p : List ℕ} {ps : List (List ℕ)} {e : Event} {es : List Event}
      → Tells (call_answer b t p).said (call_bytes b t p) e
      → Feeds c (call_bytes b t p) (call_answer b t p).tray (drop (call_answer b t p).used p ∷ ps) es b₁ t₁
      → Feeds c b t (p ∷ ps) (e ∷ es) b₁ t₁
  all-used : {b b₁ : List ℕ} {t t₁ : Tray} {p : List ℕ} {ps : List (List ℕ)} {es : List Event}
      → (call_answer b t p).said ≡ Said.Hungry
      → Feeds c (call_bytes b t p) (call_answer b t p).tray ps es b₁ t₁
      → Feeds c b t (p ∷ ps) es b₁ t₁
  passed_over : {b b₁ : List ℕ} {t t₁ : Tray} {ps : List (List ℕ)} {es : List Event} → GoesOn c → Feeds c b t ps es b₁ t₁ → Feeds c b t ([] ∷ ps) es b₁ t₁

-- `Closes bytes tray events bytes₁ tray₁`: finish, called until it says done, tells these events and leaves that tray
pub data Closes : List ℕ → Tray → List Event → List ℕ → Tray → Type 0 where
  an-event : {b b₁ : List ℕ} {t t₁ : Tray} {e : Event} {es : List Event}
      → Tells (finish_answer b t).said (finish_bytes b t) e
      → Closes (finish_bytes b t) (finish_answer b t).tray es b₁ t₁
      → Closes b t (e ∷ es) b₁ t₁
  is-done : {b : List ℕ} {t : Tray} → (finish_answer b t).said ≡ Said.Done → Closes b t [] (finish_bytes b t) (finish_answer b t).tray

-- a whole stream in these portions: the events told before finish and those told at finish, with the tray before finish and at the end
pub record Whole (c : Caller) (bytes : List ℕ) (portions : List (List ℕ)) : Type 0 where
  pub before : List Event
  pub bytes₁ : List ℕ
  pub tray₁ : Tray
  pub feeds : Feeds c bytes fresh_tray portions before bytes₁ tray₁
  pub after : List Event
  pub bytes₂ : List ℕ
  pub tray₂ : Tray
  pub closes : Closes bytes₁ tray₁ after bytes₂ tray₂
