-- What the program tells is the uncut stream: the events whose lines it says are those of the portions that it tells, joined, however they are cut (`listened`), and the bytes that
-- go out are the lines of these events and the last line, one behind the other (`lines-out`). Proved.
use Rattle.std.specs.Prelude.{◌≡◌, refl, ℕ, ◌≤◌, length}
use Rattle.std.proofs.Common.{sym, ap, ap₂, ◌∙◌, subst, arith}
use mathlib.Core.List.{List, [], ◌∷◌, ◌++◌, append_assoc, flatten}
use Rattle.text.specs.Text.{Short}
use Rattle.text.specs.Output.{whole_out, short-append, short-parts, flatten-append}
use Rattle.stream.specs.declared.Tray.{Tray}
use Rattle.stream.specs.Scan.{Event, scan}
use Rattle.stream.specs.Tray.{said_of}
use Rattle.stream.specs.Driver.{Clear, waits, Feeds}
use Rattle.stream.specs.Driving.{stream}
use Rattle.listen.specs.declared.Stop.{Stop}
use Rattle.listen.specs.Lines.{line_of, lines_of, end_line}
use Rattle.listen.specs.Listens.{Reads, Listened}
use Rattle.listen.specs.Lengths.{lines-short}
use Rattle.listen.specs.Outgoing.{out_in, out_of}

-- the events of all portions
unfoldable pub events_of : {b b₁ o o₁ : List ℕ} {t t₁ : Tray} {ps : List (List ℕ)} → Reads b t o ps b₁ t₁ o₁ → List Event
events_of Reads.no_more = []
events_of (Reads.a-portion at told rest) = told.events ++ events_of rest

nothing-then : {b b₁ b₂ : List ℕ} {t t₁ t₂ : Tray} {ps : List (List ℕ)} {es fs : List Event} → Feeds waits b t [] es b₁ t₁ → Feeds waits b₁ t₁ ps fs b₂ t₂
    → Feeds waits b t ps (es ++ fs) b₂ t₂
nothing-then Feeds.no_more g = g

portion-then : {b b₁ b₂ : List ℕ} {t t₁ t₂ : Tray} {p : List ℕ} {ps : List (List ℕ)} {es fs : List Event} → Feeds waits b t (p ∷ []) es b₁ t₁ → Feeds waits b₁ t₁ ps fs b₂ t₂
    → Feeds waits b t (p ∷ ps) (es ++ fs) b₂ t₂
portion-then (Feeds.an-event k f) g = Feeds.an-event k (portion-then f g)
portion-then (Feeds.all-used k f) g = Feeds.all-used k (nothing-then f g)
portion-then (Feeds.passed_over z f) g = absurd z

portions-feed : {b b₁ o o₁ : List ℕ} {t t₁ : Tray} {ps : List (List ℕ)} (r : Reads b t o ps b₁ t₁ o₁) → Feeds waits b t ps (events_of r) b₁ t₁
unfolding events_of
portions-feed Reads.no_more = Feeds.no_more
portions-feed (Reads.a-portion at told rest) = portion-then told.feeds (portions-feed rest)

pub listened : {bytes out bytes₂ out₂ : List ℕ} {stop : Stop} → Clear bytes → (l : Listened bytes out bytes₂ out₂ stop)
    → events_of l.reads ++ l.closes.ends.events ≡ scan (flatten l.portions)
listened c l = (stream c (portions-feed l.reads) l.closes.ends.closes).0

-- ---- the bytes that go out

lines-append : (es fs : List Event) → lines_of (es ++ fs) ≡ lines_of es ++ lines_of fs
unfolding lines_of
lines-append [] fs = refl
lines-append (e ∷ es) fs = ap (λ l. line_of (said_of e) ∷ l) (lines-append es fs)

portions-out : {b b₁ o o₁ : List ℕ} {t t₁ : Tray} {ps : List (List ℕ)} (r : Reads b t o ps b₁ t₁ o₁) → 80 ≤ length o → Short 80 (lines_of (events_of r))
    → (out_in r ≡ flatten (lines_of (events_of r))) × (length o₁ ≡ length o)
unfolding events_of out_in flatten lines_of
portions-out Reads.no_more h s = (refl, refl)
portions-out (Reads.a-portion {o = o} {o₁ = p} at told rest) h s =
    let es = told.events in
    let fs = events_of rest in
    let d = short-parts 80 (lines_of es) (lines_of fs) (subst (Short 80) (lines-append es fs) s) in
    let j = whole_out o p at 80 (lines_of es) told.says h d.0 in
    let l = j.1 in
    let r = portions-out rest (omega arith) d.1 in
    (ap₂ (λ x y. x ++ y) j.0 r.0 ∙ sym (flatten-append (lines_of es) (lines_of fs)) ∙ ap flatten (sym (lines-append es fs)), r.1 ∙ l)

-- With room for a line in the buffer none is lost: what goes out is the lines of the uncut stream, and lastly `end`.
pub lines-out : {bytes out bytes₂ out₂ : List ℕ} {stop : Stop} → Clear bytes → 80 ≤ length out → (l : Listened bytes out bytes₂ out₂ stop)
    → out_of l ≡ flatten (lines_of (scan (flatten l.portions)) ++ (end_line ∷ []))
lines-out {out₂ = out₂} c h l =
    let es = events_of l.reads in
    let fs = l.closes.ends.events in
    let e = listened c l in
    let both = subst (Short 80) (lines-append es fs) (subst (λ x. Short 80 (lines_of x)) (sym e) (lines-short (flatten l.portions) [] (scan (flatten l.portions)) refl)) in
    let d = short-parts 80 (lines_of es) (lines_of fs) both in
    let r = portions-out l.reads h d.0 in
    let k = r.1 in
    let last = short-append 80 (lines_of fs) (end_line ∷ []) d.1 (omega arith, tt) in
    let j = whole_out l.out₁ out₂ l.closes.at' 80 (lines_of fs ++ (end_line ∷ [])) l.closes.ends.says (omega arith) last in
    ap₂ (λ x y. x ++ y) r.0 j.0
    ∙ ap (λ x. flatten (lines_of es) ++ x) (flatten-append (lines_of fs) (end_line ∷ []))
    ∙ sym (append_assoc (flatten (lines_of es)) (flatten (lines_of fs)) (flatten (end_line ∷ [])))
    ∙ ap (λ x. x ++ flatten (end_line ∷ [])) (sym (flatten-append (lines_of es) (lines_of fs)) ∙ ap flatten (sym (lines-append es fs) ∙ ap lines_of e))
    ∙ sym (flatten-append (lines_of (scan (flatten l.portions))) (end_line ∷ []))
