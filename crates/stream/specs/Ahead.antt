-- What can be told of bytes before finish: `scan` that stops where the check is SHORT, with the bytes and the noise that are left. Serves proofs; proved.
use Rattle.std.specs.Prelude.{◌≡◌, refl, List, [], ◌∷◌, ◌++◌, ℕ, zero, suc, pred, take, drop}
use Rattle.std.proofs.Common.{ap, arith}
use Rattle.answer.specs.declared.Refusal.{Refusal}
use Rattle.frame.specs.declared.Frame.{Frame}
use Rattle.frame.specs.declared.Checked.{Checked}
use Rattle.frame.specs.declared.Checked.TheVariants.{Accepted, Short, Refused}
use Rattle.frame.specs.Check.{checked}
use Rattle.stream.specs.Scan.{Event, frame, one_more_of}
use Rattle.frame.specs.Laws.{accepted-length}
use Rattle.stream.specs.Machine.{Reading, tell_to, pass_to, tells}

abbrev pub Ahead : Type 0
Ahead = List Event × List ℕ × ℕ

abbrev pub on_ahead : Event → Ahead → Ahead
on_ahead e a = (e ∷ a.0, a.1, a.2)

abbrev pub ahead_by : Checked → List ℕ → ℕ → (ℕ → ℕ → Ahead) → Ahead
ahead_by (Accepted f) s k rest = tell_to on_ahead k (on_ahead (frame f (take f.length s)) (rest (pred f.length) 0))
ahead_by (Refused r) s k rest = pass_to on_ahead (one_more_of k) (rest 0)
ahead_by (Short n) s k rest = ([], s, k)

unfoldable pub ahead_from : List ℕ → ℕ → ℕ → Ahead
ahead_from [] m k = ([], [], k)
ahead_from (x ∷ xs) (suc m) k = ahead_from xs m k
ahead_from (x ∷ xs) zero k = ahead_by (checked (x ∷ xs)) (x ∷ xs) k (λ m j. ahead_from xs m j)

ahead-inside : (s : List ℕ) (m k : ℕ) → ahead_from s m k ≡ ahead_from (drop m s) 0 k
unfolding ahead_from
ahead-inside [] zero k = refl
ahead-inside [] (suc m) k = refl
ahead-inside (x ∷ xs) zero k = refl
ahead-inside (x ∷ xs) (suc m) k = ahead-inside xs m k

ahead-frame : (s : List ℕ) (f : Frame) (n k : ℕ) → f.length ≡ n → checked s ≡ Accepted f
    → ahead_from s 0 k ≡ tell_to on_ahead k (on_ahead (frame f (take f.length s)) (ahead_from (drop f.length s) 0 0))
unfolding ahead_from
ahead-frame [] f n k l q = absurd (omega (arith, accepted-length [] f q))
ahead-frame (x ∷ xs) f zero k l q = absurd (omega (arith, accepted-length (x ∷ xs) f q))
ahead-frame (x ∷ xs) f (suc m) k l q = rw (q, ahead_from, l, ahead-inside xs m 0)

ahead-noise : (x : ℕ) (xs : List ℕ) (k : ℕ) (r : Refusal) → checked (x ∷ xs) ≡ Refused r → ahead_from (x ∷ xs) 0 k ≡ pass_to on_ahead (one_more_of k) (λ j. ahead_from xs 0 j)
unfolding ahead_from
ahead-noise x xs k r q = rw (q, ahead_from)

pub ahead-reading : Reading on_ahead (λ k s. ahead_from s 0 k)
ahead-reading = record { on-frame = λ s f k q. ahead-frame s f f.length k refl q; on-noise = ahead-noise }

pub tells-ahead : (es : List Event) (a : Ahead) → tells on_ahead es a ≡ (es ++ a.0, a.1, a.2)
tells-ahead [] a = refl
tells-ahead (e ∷ es) a = ap (on_ahead e) (tells-ahead es a)
