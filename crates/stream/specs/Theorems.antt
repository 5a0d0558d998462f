-- The theorems of the stream, about the definitions that the contracts of `call` and `finish` cite. The proofs rest on Driving.antt and Counted.antt.
use Rattle.std.specs.Prelude.{◌≡◌, ℕ, ◌≤◌, length, replicate}
use Rattle.std.proofs.Common.{ap, sym, subst, ◌∙◌, zero-add}
use mathlib.Core.List.{List, ◌∷◌, ◌++◌, flatten}
use Rattle.sizes.specs.Sizes.{longest_frame}
use Rattle.stream.specs.declared.Tray.{Tray}
use Rattle.stream.specs.declared.Said.{Said}
use Rattle.frame.specs.declared.Frame.{Frame}
use Rattle.stream.specs.Scan.{Event, frame, noise, scan}
use Rattle.stream.specs.Account.{size_of_all, FrameAt, NoiseAt}
use Rattle.stream.specs.Tray.{fresh_tray, call_answer, call_bytes, finish_answer, finish_bytes}
use Rattle.stream.specs.Driver.{Ready, Clear, Caller, waits, Feeds, Whole}
use Rattle.stream.specs.Counted as Counted
use Rattle.stream.specs.Driving as Driving

-- However a stream is cut into portions, some of them empty: calling on each until hungry, or until it is used up, and then finishing until done tells exactly the
-- events of `scan` on the joined bytes, and leaves the fresh tray, with its bytes as they were lent.
pub stream : {c : Caller} {bytes : List ℕ} {portions : List (List ℕ)} → Clear bytes → (w : Whole c bytes portions)
    → (w.before ++ w.after ≡ scan (flatten portions)) × (w.tray₂ ≡ fresh_tray) × (w.bytes₂ ≡ bytes)
stream c w = Driving.stream c w.feeds w.closes

-- And the calls end, whatever the portions are.
pub stream-ends : {c : Caller} {bytes : List ℕ} → Clear bytes → (portions : List (List ℕ)) → Whole c bytes portions
stream-ends {bytes} c portions =
    let r = Driving.fresh-ready c in
    let f = Driving.feeds-end portions bytes fresh_tray r in
    let g = Driving.closes-end f.1 f.2 (Driving.feeds-ready f.3 r) in
    record { before = f.0; bytes₁ = f.1; tray₁ = f.2; feeds = f.3; after = g.0; bytes₂ = g.1; tray₂ = g.2; closes = g.3 }

-- Nothing is lost and nothing invented. Frames and noise add up to the bytes of the stream ..
pub adds-up : (bytes : List ℕ) → size_of_all (scan bytes) ≡ length bytes
adds-up bytes = sym (zero-add (size_of_all (scan bytes))) ∙ Counted.adds-up bytes 0 (scan bytes) (Counted.scan-lies bytes)

-- .. each frame that is told lies in the stream behind what was told before it, as long as its header says ..
pub frame-lies : (bytes : List ℕ) (before after : List Event) (header : Frame) (shown : List ℕ) → scan bytes ≡ before ++ (frame header shown ∷ after)
    → FrameAt bytes (size_of_all before) header shown
frame-lies bytes before after header shown e =
    subst (λ n. FrameAt bytes n header shown) (zero-add (size_of_all before))
    (Counted.frame_at bytes 0 before header shown after (subst (Counted.Lies bytes 0) e (Counted.scan-lies bytes)))

-- .. and at no byte that is told as noise does a frame begin.
pub noise-lies : (bytes : List ℕ) (before after : List Event) (count : ℕ) → scan bytes ≡ before ++ (noise count ∷ after) → NoiseAt bytes (size_of_all before) count
noise-lies bytes before after count e =
    subst (λ n. NoiseAt bytes n count) (zero-add (size_of_all before))
    (Counted.noise-at bytes 0 before count after (subst (Counted.Lies bytes 0) e (Counted.scan-lies bytes)))

-- So it is of what calls and finish tell, however the stream is cut.
pub calls-add-up : {c : Caller} {bytes : List ℕ} {portions : List (List ℕ)} → Clear bytes → (w : Whole c bytes portions)
    → size_of_all (w.before ++ w.after) ≡ length (flatten portions)
calls-add-up {portions = portions} c w = ap size_of_all (stream c w).0 ∙ adds-up (flatten portions)

pub calls-frame : {c : Caller} {bytes : List ℕ} {portions : List (List ℕ)} → Clear bytes → (w : Whole c bytes portions)
    → (before after : List Event) (header : Frame) (shown : List ℕ) → w.before ++ w.after ≡ before ++ (frame header shown ∷ after)
    → FrameAt (flatten portions) (size_of_all before) header shown
calls-frame {portions = portions} c w before after header shown e = frame-lies (flatten portions) before after header shown (sym (stream c w).0 ∙ e)

pub calls-noise : {c : Caller} {bytes : List ℕ} {portions : List (List ℕ)} → Clear bytes → (w : Whole c bytes portions)
    → (before after : List Event) (count : ℕ) → w.before ++ w.after ≡ before ++ (noise count ∷ after) → NoiseAt (flatten portions) (size_of_all before) count
calls-noise {portions = portions} c w before after count e = noise-lies (flatten portions) before after count (sym (stream c w).0 ∙ e)

-- Before finish, once the last call has said hungry, the events, the tray and its bytes depend on the joined bytes alone.
pub cut : {bytes b b' : List ℕ} {t t' : Tray} {portions portions' : List (List ℕ)} {es es' : List Event} → Clear bytes
    → Feeds waits bytes fresh_tray portions es b t → Feeds waits bytes fresh_tray portions' es' b' t' → flatten portions ≡ flatten portions'
    → (es ≡ es') × (t ≡ t') × (b ≡ b')
cut c f f' q = Driving.cut c f f' q

-- The events told before finish on a stream are the first ones told on any longer stream that begins with it.
pub prefix : {c : Caller} {bytes b b' : List ℕ} {t t' : Tray} {portions portions' : List (List ℕ)} {es es' : List Event} → Clear bytes
    → Feeds c bytes fresh_tray portions es b t → Feeds waits bytes fresh_tray portions' es' b' t'
    → (more : List ℕ) → flatten portions' ≡ flatten portions ++ more → (rest : List Event) × (es' ≡ es ++ rest)
prefix c f f' more q = Driving.prefix c f f' more q

-- A sound tray stays sound ..
pub call-sound : {bytes : List ℕ} {tray : Tray} → Ready bytes tray → (input : List ℕ) → Ready (call_bytes bytes tray input) (call_answer bytes tray input).tray
call-sound r input = Driving.call-ready r input

pub finish-sound : {bytes : List ℕ} {tray : Tray} → Ready bytes tray → Ready (finish_bytes bytes tray) (finish_answer bytes tray).tray
finish-sound r = Driving.finish-ready r

pub fresh-sound : {bytes : List ℕ} → Clear bytes → Ready bytes fresh_tray
fresh-sound c = Driving.fresh-ready c

pub zeros-clear : (n : ℕ) → longest_frame ≤ n → Clear (replicate n 0)
zeros-clear n h = Driving.zeros-clear n h

-- .. and never holds more than 1,103 bytes.
pub call-held : {bytes : List ℕ} {tray : Tray} → Ready bytes tray → (input : List ℕ) → (call_answer bytes tray input).tray.held ≤ longest_frame
call-held r input = Driving.held-most (Driving.call-ready r input)

pub finish-held : {bytes : List ℕ} {tray : Tray} → Ready bytes tray → (finish_answer bytes tray).tray.held ≤ longest_frame
finish-held r = Driving.held-most (Driving.finish-ready r)

-- No more input is used than there is, and a call that says hungry has used all of it.
pub call-used : (bytes : List ℕ) (tray : Tray) (input : List ℕ) → (call_answer bytes tray input).used ≤ length input
call-used bytes tray input = Driving.call-used bytes tray input

pub hungry-used : (bytes : List ℕ) (tray : Tray) (input : List ℕ) → (call_answer bytes tray input).said ≡ Said.Hungry → (call_answer bytes tray input).used ≡ length input
hungry-used bytes tray input q = Driving.hungry-used bytes tray input q
