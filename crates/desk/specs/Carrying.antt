-- Serves proofs, and is proved: a message read by its own layout, and the same payload read as one of the twelve messages. Assumes nothing.
use Rattle.std.specs.Prelude.{◌≡◌, refl, Bool, true, false, List, ℕ, leb, length, take, drop, Ok, Err}
use Rattle.std.proofs.Common.{ap, ◌∙◌}
use Rattle.bits.specs.Bits.{number}
use Rattle.layout.specs.Results.{Verdict}
use Rattle.layout.specs.Layout.{Layout, done, judge, Outcome, accepted, refused, enough, judged, before, read_l}
use Rattle.entrylog.specs.Alike.{Alike, ends, past}

-- ---- f of what stands at each end

abbrev pub carried : {A B : Type 0} → (A → B) → Outcome A → Outcome B
carried f (accepted v codes used) = accepted (f v) codes used
carried f (refused why) = refused why

-- reading gives f of what was read
pub carries-read : {A B : Type 0} (f : A → B) {l : Layout A} {m : Layout B} → Alike done (λ v. done (f v)) l m → (bits : List ℕ) → read_l m bits ≡ carried f (read_l l bits)
unfolding read_l
carries-read f (ends v) bits = refl
carries-read {A = A} f (past {h} {next} {next'} u p) bits =
    let c : ℕ = number (take h.width bits) in
    go (leb h.width (length bits)) (judge h c) c (carries-read f (p c) (drop h.width bits))
  where
    go : (b : Bool) (v : Verdict) (c : ℕ) → read_l (next' c) (drop h.width bits) ≡ carried f (read_l (next c) (drop h.width bits))
        → enough h.sf b (judged h.sf v (before c h.width (read_l (next' c) (drop h.width bits))))
        ≡ carried f (enough h.sf b (judged h.sf v (before c h.width (read_l (next c) (drop h.width bits)))))
    go false v c e = refl
    go true (Err why) c e = refl
    go true (Ok _) c e = ap (before c h.width) e ∙ by (read_l (next c) (drop h.width bits))
      where
        by : (o : Outcome A) → before c h.width (carried f o) ≡ carried f (before c h.width o)
        by (accepted v codes used) = refl
        by (refused why) = refl
