-- Laws: a frame that is a message of the open run is one whatever the live book holds, and whenever the last frame was accepted. Proved; assumes nothing.
use Rattle.std.proofs.Math.Path.{◌≡◌, ap}
use Rattle.std.specs.Prelude.{refl, Bool, not, ◌||◌, List, ℕ, length, Ok, Err}
use Rattle.std.proofs.Common.{◌∙◌, arith}
use Rattle.std.proofs.Math.Bool.{true, false}
use Rattle.std.proofs.Math.Dec.{ltb}
use borrow.Author.Tests.{le-ltb}
use Rattle.answer.specs.Stop.{stop}
use Rattle.answer.specs.Place.{nowhere}
use Rattle.answer.specs.declared.Fault as answer
use Rattle.answer.specs.declared.Refusal.TheVariants as refusal
use Rattle.layout.specs.Layout as layout
use Rattle.hpac.specs.Hpac.{Hpac}
use Rattle.message.specs.Messages.{Message, ocb_message, hpac_message, gad_message, bpac_message}
use Rattle.sheet.specs.Sheet.{judging}
use Rattle.frame.specs.Check.{checked, payload_in}
use Rattle.frame.specs.declared.Frame.{Frame}
use Rattle.frame.specs.declared.Checked.{Checked}
use Rattle.frame.specs.declared.Checked.TheVariants as check
use Rattle.sizes.specs.Sizes.{book_bytes, log_room}
use Rattle.book.specs.Laws.{sound-room}
use Rattle.book.specs.Take.{taken_of, bytes_after}
use Rattle.book.specs.declared.Book.{Book}
use Rattle.book.specs.Results as took
use Rattle.desk.specs.Desk.{desk_with, desk_sound}
use Rattle.desk.specs.Take.{Verdict, refused, continues, by_book, by_message, by_payload, ours, is_sealed, by_header, by_frame, handling, lacks_room, hands, verdict, dated}
use Rattle.desk.specs.Fits.{sound-live}
use Rattle.desk.specs.declared.Desk.{Desk}
use Rattle.desk.specs.Results.{Last}

-- the same desk with another live book and another second
abbrev with-other : Desk → Book → Last → Desk
with-other desk book last = dated (desk_with desk book desk.run) last

module _ (run_book : Book) (message : Hpac) where
  pub past : (b : Bool) (why : answer.Fault) (rest : Verdict) → stop b (refused why) rest ≡ continues run_book message → (b ≡ false) × (rest ≡ continues run_book message)
  past true why rest e = let z : ◌≡◌ {A = ℕ} 0 1 = cc in absurd (omega arith)
  past false why rest e = (refl, e)

  module _ (desk : Desk) (live : List ℕ) (book : Book) (bytes : List ℕ) (last : Last) where
    on-message : (header : Frame) (payload : List ℕ) (m : Message) → by_message desk live header payload m ≡ continues run_book message
        → by_message (with-other desk book last) bytes header payload m ≡ continues run_book message
    on-message header payload (hpac_message constellation body) e = e
    on-message header payload (gad_message body) e = absurd (never (taken_of desk.book live payload) e)
      where
        never : (t : took.Taken) → by_book t (bytes_after desk.book live payload) ≡ continues run_book message → ⊥
        never (Ok after) e = let z : ◌≡◌ {A = ℕ} 0 1 = cc in omega arith
        never (Err why) e = let z : ◌≡◌ {A = ℕ} 0 1 = cc in omega arith
    on-message header payload (ocb_message constellation body) e = let z : ◌≡◌ {A = ℕ} 0 1 = cc in absurd (omega arith)
    on-message header payload (bpac_message body) e = let z : ◌≡◌ {A = ℕ} 0 1 = cc in absurd (omega arith)

    on-payload : (header : Frame) (payload : List ℕ) (o : layout.Outcome Message) → by_payload desk live header payload o ≡ continues run_book message
        → by_payload (with-other desk book last) bytes header payload o ≡ continues run_book message
    on-payload header payload (layout.accepted m codes used) e = on-message header payload m e
    on-payload header payload (layout.refused why) e = let z : ◌≡◌ {A = ℕ} 0 1 = cc in absurd (omega arith)

    on-header : (header : Frame) (payload : List ℕ) → by_header desk live header payload ≡ continues run_book message
        → by_header (with-other desk book last) bytes header payload ≡ continues run_book message
    unfolding by_header
    on-header header payload e =
        let o : layout.Outcome Message = judging header.message_type header.subtype payload in
        let p = past (not (ours desk header)) (nowhere refusal.NotOurs) (stop (is_sealed header.seal) (refused (nowhere refusal.Sealed)) (by_payload desk live header payload o)) e in
        let q = past (is_sealed header.seal) (nowhere refusal.Sealed) (by_payload desk live header payload o) p.1 in
        ap (λ b. stop b (refused (nowhere refusal.NotOurs)) (stop (is_sealed header.seal) (refused (nowhere refusal.Sealed)) (by_payload (with-other desk book last) bytes header payload o))) p.0
        ∙ ap (λ b. stop b (refused (nowhere refusal.Sealed)) (by_payload (with-other desk book last) bytes header payload o)) q.0
        ∙ on-payload header payload o q.1

    pub on-frame : (frame : List ℕ) (c : Checked) → by_frame desk live c frame ≡ continues run_book message → by_frame (with-other desk book last) bytes c frame ≡ continues run_book message
    on-frame frame (check.Accepted header) e = on-header header (payload_in header frame) e
    on-frame frame (check.Short wanted) e = let z : ◌≡◌ {A = ℕ} 0 1 = cc in absurd (omega arith)
    on-frame frame (check.Refused why) e = let z : ◌≡◌ {A = ℕ} 0 1 = cc in absurd (omega arith)

  module _ (desk : Desk) (live run : List ℕ) (book : Book) (bytes : List ℕ) (last : Last) (w : desk_sound (with-other desk book last) bytes run ≡ true) where
    abbrev next : Desk
    next = with-other desk book last

    room-stays : (log : List ℕ) → lacks_room live run log ≡ false → lacks_room bytes run log ≡ false
    unfolding lacks_room
    room-stays log e =
        let z : ltb (length bytes) book_bytes ≡ false = le-ltb (length bytes) book_bytes (sound-room book bytes (sound-live next bytes run w)) in
        rw z (go (ltb (length live) book_bytes) (ltb (length run) book_bytes || ltb (length log) log_room) e)
      where
        go : (a b : Bool) → (a || b) ≡ false → b ≡ false
        go false b e = e
        go true b e = let z : ◌≡◌ {A = ℕ} 0 1 = cc in absurd (omega arith)

    pub still-continues : (frame : List ℕ) (second : ℕ) (log : List ℕ) → verdict (hands desk frame second live run log) ≡ continues run_book message
        → verdict (hands next frame second bytes run log) ≡ continues run_book message
    unfolding verdict
    still-continues frame second log e =
        let rest : Verdict = by_frame (handling desk second) live (checked frame) frame in
        let p = past (lacks_room live run log) (nowhere refusal.Room) (stop (not (desk_sound desk live run)) (refused (nowhere refusal.State)) rest) e in
        let q = past (not (desk_sound desk live run)) (nowhere refusal.State) rest p.1 in
        let rest' : Verdict = by_frame (handling next second) bytes (checked frame) frame in
        ap (λ b. stop b (refused (nowhere refusal.Room)) (stop (not (desk_sound next bytes run)) (refused (nowhere refusal.State)) rest')) (room-stays log p.0)
        ∙ ap (λ b. stop (not b) (refused (nowhere refusal.State)) rest') w
        ∙ on-frame (handling desk second) live (handling next second).book bytes last frame (checked frame) q.1
