-- The fold runs over the bytes themselves, and comes to what `none_met` says.
use Rattle.std.proofs.Common.{rules, ◌≡◌, ◌∙◌, refl, ℕ, ◌==◌, not, Bool, true, false, List, [], ◌∷◌}
use Rattle.std.specs.Prelude.{fold, map, ◌&&◌, ◌||◌}
use Rattle.std.specs.List.{list_all}
use Rattle.std.proofs.lemmas.List.Folds.{fold-map}
use Rattle.stream.proofs.is_clear.Goals as goal

-- what is met so far and the bytes left say what all the bytes say
none_met : (met : Bool) (bytes : List ℕ) → not (fold (λ met byte. met || (byte == 0x73)) met bytes) ≡ (not met && list_all (λ byte. not (byte == 0x73)) bytes)
none_met true [] = refl
none_met false [] = refl
none_met true (x ∷ bytes) = none_met true bytes
none_met false (x ∷ bytes) = none_met (x == 0x73) bytes

pub returns : goal.returns
returns c =
    let r = c.fold.ensures.runs in
    let h : c.fold.result ≡ fold (λ met y. met || (y.now == 0x73)) false r.0.items = r.3 (λ met y. met || (y.now == 0x73)) (λ met y v g k. search rules) in
    let m : map (λ y. y.now) r.0.items ≡ c.args.bytes.now = (c.iter.ensures.runs r.0 r.0.seen).4 r.2 ∙ search rules in
    rw (h, ← fold-map (λ met byte. met || (byte == 0x73)) (λ y. y.now) false r.0.items, m) (none_met false c.args.bytes.now)
