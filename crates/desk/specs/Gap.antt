-- Theorems of document 02, request 1, "Old grid after a radio gap": what a gap changes, and that without one all is as document 01 lays down. Proved; assumes nothing.
use Rattle.std.specs.Prelude.{◌≡◌, Bool, true, false, cond, not, List, [], ◌∷◌, ◌++◌, ℕ, ◌+◌, ◌-◌, ◌≤◌, leb, ltb, Ok, Err, Some, None}
use Rattle.std.proofs.Math.Path.{refl, ap, ap₂, sym}
use Rattle.std.proofs.Common.{◌∙◌, subst, arith, ltb-false, le-ltb, le-leb}
use Rattle.std.proofs.Math.ListN.{length}
use Rattle.std.proofs.lemmas.Bool.{lt-leb}
use Rattle.sizes.specs.Sizes.{book_bytes}
use Rattle.answer.specs.Stop.{stop}
use Rattle.answer.specs.Place.{nowhere}
use Rattle.answer.specs.declared.Fault as answer
use Rattle.answer.specs.declared.Refusal.TheVariants as refusal
use Rattle.layout.specs.Layout as layout
use Rattle.frame.specs.Check.{checked, payload_in}
use Rattle.frame.specs.declared.Frame.{Frame}
use Rattle.frame.specs.declared.Checked.TheVariants as check
use Rattle.hpac.specs.Hpac.{Area, Hpac}
use Rattle.gad.specs.Gad.{Gad}
use Rattle.message.specs.Messages.{Message, gad_message}
use Rattle.sheet.specs.Sheet.{judging}
use Rattle.groups.specs.Groups.{groups_of_all}
use Rattle.entrylog.specs.Log.{opened, reason_for, reason_of, log_of}
use Rattle.book.specs.Book.{no_book, areas_in}
use Rattle.book.specs.Take.{Outcome, reading, areas_of, take_all, before, outcome, answer_of, left_by}
use Rattle.book.specs.TakeLaws.{other-aiou}
use Rattle.book.specs.declared.Book.{Book}
use Rattle.desk.specs.Desk.{desk_with, desk_sound}
use Rattle.desk.specs.Take.{Handed, hands, Verdict, refused, defines, continues, opens, by_book, by_payload, ours, is_sealed, by_header, by_frame, outage, counted, is_gap, handling, lacks_room, verdict, taken_by, live_by, run_bytes_by, logged_by, log_by, said_by, desk_by, dated, accepting, leaving, leaving_by, Result, results, result_by, settled_by, frame_taken, settled_as, settled, with_second, BookHanded, book_taken}
use Rattle.desk.specs.Fits.{empty-sound, handling-sound, has_room}
use Rattle.desk.specs.Continues.{past, on-frame}
use Rattle.desk.specs.History.{Held, Given, frame_with, kept_book, verdict_on, after, Course, onward, along}
use Rattle.desk.specs.declared.Desk.{Desk}
use Rattle.desk.specs.Results.{Last}
use Rattle.desk.specs.Results.{Said}
use Rattle.desk.specs.declared.Taken.{Taken}

-- ---- what is left is what the desk that handled the frame leaves, with the second; or all as lent

module _ (desk : Desk) (second : ℕ) (live run log : List ℕ) where
  settles : (v : Verdict) → settled desk second (taken_by (handling desk second) live run v) ≡ taken_by (leaving desk second v) live run v
  unfolding logged_by
  settles (refused why) = refl
  settles (defines book bytes) = refl
  settles (continues book message) = refl
  settles (opens tag message) = refl

  same-run : (v : Verdict) → run_bytes_by (handling desk second) live run v ≡ run_bytes_by (leaving desk second v) live run v
  same-run (refused why) = refl
  same-run (defines book bytes) = refl
  same-run (continues book message) = refl
  same-run (opens tag message) = refl

  same_log : (v : Verdict) → log_by (handling desk second) live run log v ≡ log_by (leaving desk second v) live run log v
  unfolding logged_by
  same_log (refused why) = refl
  same_log (defines book bytes) = refl
  same_log (continues book message) = refl
  same_log (opens tag message) = refl

  pub settled_is : (v : Verdict) → with_second desk second (result_by (handling desk second) live run log v) ≡ settled_by desk second live run log v
  settled_is v = λ i. results (settles v i) (live_by live v) (same-run v i) (same_log v i)

-- ---- without a gap, and before the first accepted frame, all is as it was: document 01's definitions, which have no second, are the special case

unfoldable pub plain_verdict : Handed → Verdict
plain_verdict handed =
    stop (lacks_room handed.live handed.run handed.log) (refused (nowhere refusal.Room))
    (stop (not (desk_sound handed.desk handed.live handed.run)) (refused (nowhere refusal.State))
    (by_frame handed.desk handed.live (checked handed.frame) handed.frame))

unfoldable pub plain_taken : Handed → Result
plain_taken handed = result_by handed.desk handed.live handed.run handed.log (plain_verdict handed)

pub before-first : (desk : Desk) (second : ℕ) → desk.last ≡ None → is_gap desk.last second ≡ false
unfolding is_gap
before-first desk second e = ap (λ l. is_gap l second) e

handles-same : (desk : Desk) (second : ℕ) → is_gap desk.last second ≡ false → handling desk second ≡ desk
handles-same desk second e = ap (λ b. desk_with desk (cond b no_book desk.book) desk.run) e

module _ (handed : Handed) (e : is_gap handed.desk.last handed.second ≡ false) where
  pub no-gap-verdict : verdict handed ≡ plain_verdict handed
  unfolding verdict plain_verdict
  no-gap-verdict =
      ap (λ d. stop (lacks_room handed.live handed.run handed.log) (refused (nowhere refusal.Room))
      (stop (not (desk_sound handed.desk handed.live handed.run)) (refused (nowhere refusal.State))
      (by_frame d handed.live (checked handed.frame) handed.frame))) (handles-same handed.desk handed.second e)

  -- The answer, every lent byte and the desk are those of document 01; the desk keeps the second beside them if the frame is accepted.
  pub no_gap : frame_taken handed ≡ with_second handed.desk handed.second (plain_taken handed)
  unfolding frame_taken plain_taken
  no_gap =
      sym (settled_is handed.desk handed.second handed.live handed.run handed.log (verdict handed))
      ∙ ap (λ d. with_second handed.desk handed.second (result_by d handed.live handed.run handed.log (verdict handed)))
      (handles-same handed.desk handed.second e)
      ∙ ap (λ v. with_second handed.desk handed.second (result_by handed.desk handed.live handed.run handed.log v)) no-gap-verdict

  by-same : (accepting handed.desk handed.second).book ≡ handed.desk.book
  by-same = ap (λ d. d.book) (handles-same handed.desk handed.second e)

  -- What is logged, and the run that is open then, ask for no second.
  pub no-gap-logged : logged_by (leaving_by handed) handed.live handed.run (verdict handed) ≡ logged_by handed.desk handed.live handed.run (plain_verdict handed)
  unfolding logged_by
  no-gap-logged = go (verdict handed) ∙ ap (logged_by handed.desk handed.live handed.run) no-gap-verdict
    where
      go : (v : Verdict) → logged_by (leaving handed.desk handed.second v) handed.live handed.run v ≡ logged_by handed.desk handed.live handed.run v
      go (refused why) = refl
      go (defines book bytes) = refl
      go (continues book message) = refl
      go (opens tag message) = ap (λ b. logged_by (desk_with handed.desk b handed.desk.run) handed.live handed.run (opens tag message)) by-same

  pub no-gap-run : (frame_taken handed).answer.desk.run ≡ (plain_taken handed).answer.desk.run
  unfolding frame_taken plain_taken
  no-gap-run = go (verdict handed) ∙ ap (λ v. (desk_by handed.desk v).run) no-gap-verdict
    where
      go : (v : Verdict) → (desk_by (leaving handed.desk handed.second v) v).run ≡ (desk_by handed.desk v).run
      go (refused why) = refl
      go (defines book bytes) = refl
      go (continues book message) = refl
      go (opens tag message) = ap (λ (b : Book). Some (record { tag = tag; book = b })) by-same

-- ---- a refusal: "if it is refused, the old book stays", and so does all that was lent, the last second too, gap or no gap

module _ (handed : Handed) where
  not-accepted : (v : Verdict) (n : ℕ) (why : answer.Fault) → said_by v n ≡ Err why → v ≡ refused why
  not-accepted (refused r) n why e = let z : r ≡ why = cc in ap refused z
  not-accepted (defines book bytes) n why e = let z : ◌≡◌ {A = ℕ} 0 1 = cc in absurd (omega arith)
  not-accepted (continues book message) n why e = let z : ◌≡◌ {A = ℕ} 0 1 = cc in absurd (omega arith)
  not-accepted (opens tag message) n why e = let z : ◌≡◌ {A = ℕ} 0 1 = cc in absurd (omega arith)

  pub all-as-lent : (why : answer.Fault) → (frame_taken handed).answer.said ≡ Err why
      → frame_taken handed ≡ results (record { said = Err why; desk = handed.desk }) handed.live handed.run handed.log
  unfolding frame_taken logged_by groups_of_all
  all-as-lent why e =
      ap (settled_by handed.desk handed.second handed.live handed.run handed.log)
      (not-accepted (verdict handed) (length (logged_by (leaving_by handed) handed.live handed.run (verdict handed))) why e)

-- ---- after a gap, for a sound desk: "judged and handled with an empty live book"

-- A GAD over no book begins with no area: what it leaves are its own blocks' areas.
pub from-none : (live payload : List ℕ) → book_bytes ≤ length live → (message : Gad) (codes : List ℕ) (bits : ℕ)
    → judging 2 0 payload ≡ layout.accepted (gad_message message) codes bits
    → outcome no_book live payload ≡ take_all (areas_of message.blocks) []
unfolding outcome before
from-none live payload h message codes bits q =
    rw (le-ltb (length live) book_bytes h, empty-sound live h, q)
    (ap (λ b. take_all (areas_of message.blocks) (cond b (areas_in 0 live) [])) (other-aiou no_book (message.aiou + 1) (message.siou + 1) (λ z. omega arith)))

settled-said : (desk : Desk) (second : ℕ) (answer : Taken) → (settled desk second answer).said ≡ answer.said
settled-said desk second answer = go answer.said
  where
    go : (s : Said) → (settled_as desk second s answer.desk).said ≡ s
    go (Ok log) = refl
    go (Err why) = refl

-- the same desk with an empty live book
abbrev pub emptied : Handed → Desk
emptied handed = desk_with handed.desk no_book handed.desk.run

abbrev pub from_empty : Handed → Handed
from_empty handed = hands (emptied handed) handed.frame handed.second handed.live handed.run handed.log

module _ (handed : Handed) (w : desk_sound handed.desk handed.live handed.run ≡ true) (e : is_gap handed.desk.last handed.second ≡ true) where
  handles-empty : handling handed.desk handed.second ≡ emptied handed
  handles-empty = ap (λ b. desk_with handed.desk (cond b no_book handed.desk.book) handed.desk.run) e

  empty-is-sound : desk_sound (emptied handed) handed.live handed.run ≡ true
  empty-is-sound =
      subst (λ d. desk_sound d handed.live handed.run ≡ true) handles-empty (handling-sound handed.desk handed.second handed.live handed.run w)

  -- The verdict is document 01's of the same desk with an empty live book ..
  pub gap-verdict : verdict handed ≡ plain_verdict (from_empty handed)
  unfolding verdict plain_verdict
  gap-verdict =
      rw (w, empty-is-sound)
      (ap (λ d. stop (lacks_room handed.live handed.run handed.log) (refused (nowhere refusal.Room)) (by_frame d handed.live (checked handed.frame) handed.frame))
      handles-empty)

  -- .. and so is all that is answered and left, refusals included; the second is kept if the frame is accepted, and beside a refusal the desk is as lent.
  pub gap : frame_taken handed ≡ with_second handed.desk handed.second (plain_taken (from_empty handed))
  unfolding frame_taken plain_taken
  gap =
      sym (settled_is handed.desk handed.second handed.live handed.run handed.log (verdict handed))
      ∙ ap (λ d. with_second handed.desk handed.second (result_by d handed.live handed.run handed.log (verdict handed))) handles-empty
      ∙ ap (λ v. with_second handed.desk handed.second (result_by (emptied handed) handed.live handed.run handed.log v)) gap-verdict

  -- So number and log are those of that desk,
  pub gap-said : (frame_taken handed).answer.said ≡ (plain_taken (from_empty handed)).answer.said
  gap-said = ap (λ x. x.answer.said) gap ∙ settled-said handed.desk handed.second (plain_taken (from_empty handed)).answer

  pub gap-log : (frame_taken handed).log ≡ (plain_taken (from_empty handed)).log
  gap-log = ap (λ x. x.log) gap

  -- and what is left is what that desk leaves, with the second, if the frame is accepted. (If it is refused all is as lent: `all-as-lent`.)
  pub gap-accepted : (n : ℕ) → (plain_taken (from_empty handed)).answer.said ≡ Ok n
      → frame_taken handed
      ≡ results (record { said = Ok n; desk = dated (plain_taken (from_empty handed)).answer.desk (Some (counted handed.desk.last handed.second)) })
      (plain_taken (from_empty handed)).live (plain_taken (from_empty handed)).run (plain_taken (from_empty handed)).log
  gap-accepted n a =
      gap
      ∙ ap (λ s. results (settled_as handed.desk handed.second s (plain_taken (from_empty handed)).answer.desk) (plain_taken (from_empty handed)).live (plain_taken (from_empty handed)).run (plain_taken (from_empty handed)).log) a

  -- ---- what that is

  -- An HPAC message of the open run leaves no live book, and the run with its copy. No byte of a book is written.
  pub gap-continues : (book : Book) (message : Hpac) → verdict handed ≡ continues book message
      → ((frame_taken handed).answer.desk.book ≡ no_book) × ((frame_taken handed).live ≡ handed.live)
      × ((frame_taken handed).answer.desk.run ≡ handed.desk.run) × ((frame_taken handed).run ≡ handed.run)
  unfolding frame_taken
  gap-continues book message q =
      let s : frame_taken handed ≡ settled_by handed.desk handed.second handed.live handed.run handed.log (continues book message)
      = ap (settled_by handed.desk handed.second handed.live handed.run handed.log) q in
      (ap (λ x. x.answer.desk.book) s ∙ ap (λ d. d.book) handles-empty, ap (λ x. x.live) s, ap (λ x. x.answer.desk.run) s, ap (λ x. x.run) s)

  -- An HPAC message that opens a run leaves no live book, and a run on no book. No byte of a book is written.
  pub gap-opens : (tag : ℕ) (message : Hpac) → verdict handed ≡ opens tag message
      → ((frame_taken handed).answer.desk.book ≡ no_book) × ((frame_taken handed).live ≡ handed.live)
      × ((frame_taken handed).answer.desk.run ≡ Some (record { tag = tag; book = no_book })) × ((frame_taken handed).run ≡ handed.run)
  unfolding frame_taken
  gap-opens tag message q =
      let s : frame_taken handed ≡ settled_by handed.desk handed.second handed.live handed.run handed.log (opens tag message)
      = ap (settled_by handed.desk handed.second handed.live handed.run handed.log) q in
      let b : (handling handed.desk handed.second).book ≡ no_book = ap (λ d. d.book) handles-empty in (
        ap (λ x. x.answer.desk.book) s ∙ b,
        ap (λ x. x.live) s,
        ap (λ x. x.answer.desk.run) s ∙ ap (λ (k : Book). Some (record { tag = tag; book = k })) b,
        ap (λ x. x.run) s ∙ ap (λ d. run_bytes_by d handed.live handed.run (opens tag message)) handles-empty,
      )

  -- Its log begins with a run on no book, "1, tag, 0, 0"; every area of it is left out for reason 1 (`no-book-reason`).
  pub gap-opens-log : (tag : ℕ) (message : Hpac) → verdict handed ≡ opens tag message
      → logged_by (leaving_by handed) handed.live handed.run (verdict handed) ≡ groups_of_all (opened tag no_book ++ log_of no_book handed.run message)
  unfolding logged_by
  gap-opens-log tag message q =
      ap (λ v. logged_by (leaving handed.desk handed.second v) handed.live handed.run v) q
      ∙ ap (λ d. logged_by d handed.live handed.run (opens tag message)) handles-empty

  -- A GAD of ours, plain, leaves the book of its own areas, taken from no area on: no area of an old book can conflict with them, and only bytes of its areas are written.
  module _ (room : lacks_room handed.live handed.run handed.log ≡ false) (header : Frame) (c : checked handed.frame ≡ check.Accepted header)
      (o : ours handed.desk header ≡ true) (p : is_sealed header.seal ≡ false) (k : header.message_type ≡ 2) (z : header.subtype ≡ 0)
      (message : Gad) (codes : List ℕ) (bits : ℕ) (r : judging 2 0 (payload_in header handed.frame) ≡ layout.accepted (gad_message message) codes bits) where
    abbrev from_none : Outcome
    from_none = take_all (areas_of message.blocks) []

    abbrev payload : List ℕ
    payload = payload_in header handed.frame

    judged : by_frame (emptied handed) handed.live (checked handed.frame) handed.frame ≡ by_payload (emptied handed) handed.live header payload (judging 2 0 payload)
    unfolding by_header
    judged =
        let rest : layout.Outcome Message → Verdict = λ x. by_payload (emptied handed) handed.live header payload x in
        ap (λ x. by_frame (emptied handed) handed.live x handed.frame) c
        ∙ ap (λ b. stop (not b) (refused (nowhere refusal.NotOurs)) (stop (is_sealed header.seal) (refused (nowhere refusal.Sealed)) (rest (judging header.message_type header.subtype payload)))) o
        ∙ ap (λ b. stop b (refused (nowhere refusal.Sealed)) (rest (judging header.message_type header.subtype payload))) p
        ∙ ap₂ (λ x y. rest (judging x y payload)) k z

    pub gap-gad : verdict handed ≡ by_book (answer_of from_none message.aiou message.siou) (left_by from_none handed.live)
    unfolding plain_verdict
    gap-gad =
        let h : book_bytes ≤ length handed.live = (has_room handed.live handed.run handed.log room).live-room in
        let n : outcome no_book handed.live payload ≡ from_none = from-none handed.live payload h message codes bits r in
        gap-verdict
        ∙ ap₂ (λ a b. stop a (refused (nowhere refusal.Room)) (stop (not b) (refused (nowhere refusal.State)) (by_frame (emptied handed) handed.live (checked handed.frame) handed.frame))) room empty-is-sound
        ∙ judged
        ∙ ap (by_payload (emptied handed) handed.live header payload) r
        ∙ ap₂ (λ x y. by_book (answer_of x (reading y (λ m. m.aiou) (λ why. 0)) (reading y (λ m. m.siou) (λ why. 0))) (left_by x handed.live)) n r

-- A message of the open run is one after a gap as without: told by the run's copy.
pub still-the-run : (handed : Handed) (book : Book) (message : Hpac) → plain_verdict handed ≡ continues book message → verdict handed ≡ continues book message
unfolding verdict plain_verdict
still-the-run handed book message q =
    let rest : Verdict = by_frame handed.desk handed.live (checked handed.frame) handed.frame in
    let a = past book message (lacks_room handed.live handed.run handed.log) (nowhere refusal.Room) (stop (not (desk_sound handed.desk handed.live handed.run)) (refused (nowhere refusal.State)) rest) q in
    let b = past book message (not (desk_sound handed.desk handed.live handed.run)) (nowhere refusal.State) rest a.1 in
    rw (a.0, b.0)
    (on-frame book message handed.desk handed.live (handling handed.desk handed.second).book handed.live handed.desk.last handed.frame (checked handed.frame) b.1)

-- So number and log are what they are without a gap.
pub still-told : (handed : Handed) (book : Book) (message : Hpac) → plain_verdict handed ≡ continues book message
    → ((frame_taken handed).answer.said ≡ (plain_taken handed).answer.said) × ((frame_taken handed).log ≡ (plain_taken handed).log)
unfolding frame_taken plain_taken logged_by
still-told handed book message q =
    let leaves : Verdict → Result = settled_by handed.desk handed.second handed.live handed.run handed.log in
    let plain : Verdict → Result = result_by handed.desk handed.live handed.run handed.log in
    let e = still-the-run handed book message q in
    (ap (λ v. (leaves v).answer.said) e ∙ sym (ap (λ v. (plain v).answer.said) q), ap (λ v. (leaves v).log) e ∙ sym (ap (λ v. (plain v).log) q))

-- Where there is no book every area is left out for reason 1.
pub no-book-reason : (bytes : List ℕ) (aiou siou : ℕ) (area : Area) → reason_of no_book bytes aiou siou area ≡ 1
unfolding reason_for
no-book-reason bytes aiou siou area = refl

-- "449 is no gap, 450 is"
pub no-gap-449 : (second : ℕ) → is_gap (Some second) (second + 449) ≡ false
unfolding is_gap
no-gap-449 second =
    ap (λ b. leb outage (cond b second (second + 449) - second)) (le-ltb (second + 449) second (omega arith)) ∙ lt-leb outage (second + 449 - second) (omega arith)

pub gap-450 : (second : ℕ) → is_gap (Some second) (second + 450) ≡ true
unfolding is_gap
gap-450 second =
    ap (λ b. leb outage (cond b second (second + 450) - second)) (le-ltb (second + 450) second (omega arith)) ∙ le-leb outage (second + 450 - second) (omega arith)

-- ---- the kept second never falls

abbrev pub NotBefore : Last → Last → Type 0
NotBefore None then = Unit {0}
NotBefore (Some second) None = ⊥
NotBefore (Some second) (Some later) = second ≤ later

not-before : (last : Last) → NotBefore last last
not-before None = tt
not-before (Some second) = omega arith

no-earlier : (last : Last) (second : ℕ) → NotBefore last (Some (counted last second))
no-earlier None second = tt
no-earlier (Some kept) second = go (ltb second kept) refl
  where
    go : (b : Bool) → ltb second kept ≡ b → kept ≤ cond b kept second
    go true e = omega arith
    go false e = ltb-false second kept e

later-still : (a b c : Last) → NotBefore a b → NotBefore b c → NotBefore a c
later-still None b c p q = tt
later-still (Some x) None c p q = absurd p
later-still (Some x) (Some y) None p q = absurd q
later-still (Some x) (Some y) (Some z) p q = omega arith

-- An accepted frame's second is kept as it counts.
pub second-kept : (handed : Handed) (n : ℕ) → (frame_taken handed).answer.said ≡ Ok n
    → (frame_taken handed).answer.desk.last ≡ Some (counted handed.desk.last handed.second)
unfolding frame_taken
second-kept handed n a = go (verdict handed) (length (logged_by (leaving_by handed) handed.live handed.run (verdict handed))) a
  where
    go : (v : Verdict) (m : ℕ) → said_by v m ≡ Ok n → (leaving handed.desk handed.second v).last ≡ Some (counted handed.desk.last handed.second)
    go (refused why) m a = let z : ◌≡◌ {A = ℕ} 0 1 = cc in absurd (omega arith)
    go (defines book bytes) m a = refl
    go (continues book message) m a = refl
    go (opens tag message) m a = refl

leaves_later : (desk : Desk) (second : ℕ) (v : Verdict) → NotBefore desk.last (leaving desk second v).last
leaves_later desk second (refused why) = not-before desk.last
leaves_later desk second (defines book bytes) = no-earlier desk.last second
leaves_later desk second (continues book message) = no-earlier desk.last second
leaves_later desk second (opens tag message) = no-earlier desk.last second

pub never-falls : (handed : Handed) → NotBefore handed.desk.last (frame_taken handed).answer.desk.last
unfolding frame_taken
never-falls handed = leaves_later handed.desk handed.second (verdict handed)

-- Taking a kept book leaves the second alone.
pub book-leaves-second : (handed : BookHanded) → (book_taken handed).answer.desk.last ≡ handed.desk.last
unfolding book_taken
book-leaves-second handed = refl

falls-not : (held : Held) (given : Given) → NotBefore held.desk.last (after held given).desk.last
falls-not held (frame_with frame second log) = leaves_later held.desk second (verdict_on held (frame_with frame second log))
falls-not held (kept_book book bytes) = not-before held.desk.last

-- So along whatever frames and kept books a desk is given.
pub never-falls-along : (start : Course) (frames : List Given) → NotBefore start.held.desk.last (along start frames).held.desk.last
unfolding along
never-falls-along start [] = not-before start.held.desk.last
never-falls-along start (given ∷ rest) =
    later-still start.held.desk.last (onward start given).held.desk.last (along (onward start given) rest).held.desk.last (falls-not start.held given)
    (never-falls-along (onward start given) rest)
