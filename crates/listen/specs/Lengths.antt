-- Serves proofs, and is proved: a line has at most 80 bytes.
use Rattle.std.specs.Prelude.{◌≡◌, ℕ, ◌≤◌, ◌<◌, ◌^◌, length, drop}
use Rattle.std.proofs.Common.{sym, ap, ◌∙◌, arith, length-append}
use mathlib.Core.List.{List, [], ◌∷◌, ◌++◌, append_assoc, flatten}
use Rattle.bits.specs.Laws.{field_lt}
use Rattle.frame.specs.declared.Frame.{Frame}
use Rattle.frame.specs.declared.Checked.TheVariants.{Accepted}
use Rattle.frame.specs.Check.{checked, frame_of}
use Rattle.frame.specs.Laws.{accepted, accepted-length}
use Rattle.stream.specs.Scan.{Event, frame, noise, scan}
use Rattle.stream.specs.Account.{size_of_all}
use Rattle.stream.specs.Theorems.{frame-lies, noise-lies}
use Rattle.text.specs.Text.{decimal, Short}
use Rattle.text.specs.Decimal.{decimal-short}
use Rattle.listen.specs.Lines.{frame_parts, noise_parts, line_of, lines_of}

pub frame-short : (f : Frame) → length (decimal f.length) ≤ 20 → length (decimal f.message_type) ≤ 20 → length (decimal f.subtype) ≤ 20
    → length (flatten (frame_parts f)) ≤ 80
unfolding flatten
frame-short f a b c =
    rw (
      length-append (decimal f.length) (32 ∷ (decimal f.message_type ++ (32 ∷ (decimal f.subtype ++ (10 ∷ []))))),
      length-append (decimal f.message_type) (32 ∷ (decimal f.subtype ++ (10 ∷ []))),
      length-append (decimal f.subtype) (10 ∷ []),
    ) (omega arith)

pub noise-short : (count : ℕ) → length (decimal count) ≤ 20 → length (flatten (noise_parts count)) ≤ 80
unfolding flatten
noise-short count a = rw (length-append (decimal count) (10 ∷ [])) (omega arith)

-- the numbers of a frame that is accepted
header-short : (s : List ℕ) (f : Frame) → checked s ≡ Accepted f → (f.length < 2 ^ 64) × (f.message_type < 2 ^ 64) × (f.subtype < 2 ^ 64)
unfolding frame_of
header-short s f e =
    let a = (accepted s f e).is in
    let t : f.message_type < 2 ^ 7 = rw (ap (λ (x : Frame). x.message_type) a) (field_lt s 8 7) in
    let u : f.subtype < 2 ^ 4 = rw (ap (λ (x : Frame). x.subtype) a) (field_lt s 32 4) in
    (omega (arith, accepted-length s f e), omega arith, omega arith)

-- the lines of a stream's events, in the order in which they are told
pub lines-short : (stream : List ℕ) (before events : List Event) → scan stream ≡ before ++ events → Short 80 (lines_of events)
unfolding lines_of line_of
lines-short stream before [] e = tt
lines-short stream before (frame f shown ∷ rest) e =
    let n = header-short (drop (size_of_all before) stream) f (frame-lies stream before rest f shown e).begins in (
      frame-short f (decimal-short f.length n.0) (decimal-short f.message_type n.1) (decimal-short f.subtype n.2),
      lines-short stream (before ++ frame f shown ∷ []) rest (e ∙ sym (append_assoc before (frame f shown ∷ []) rest)),
    )
lines-short stream before (noise count ∷ rest) e =
    let m = (noise-lies stream before rest count e).most in (
      noise-short count (decimal-short count (omega arith)),
      lines-short stream (before ++ noise count ∷ []) rest (e ∙ sym (append_assoc before (noise count ∷ []) rest)),
    )
