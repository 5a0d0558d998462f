-- Each item that take_while passed on is a window that is clear.
use Rattle.std.proofs.Common.{rules, ◌≡◌, ◌∙◌, refl, ap, sym, ℕ, ◌==◌, ◌*◌, ◌<◌, not, true, take, drop, arith}
use Rattle.std.specs.Prelude.{Option, Some, None, IfSome}
use Rattle.std.specs.Option.{option_map}
use Rattle.std.specs.List.{list_all}
use Rattle.stream.proofs.clear_windows.Goals as goal

-- an item that is there
there : {A : Type 0} (o : Option A) (d : A) (P Q : A → Type 0) → option_map (λ x. x) o ≡ Some d → IfSome o P → IfSome o Q → (x : A) × P x × Q x
there None d P Q e p q = let z : ◌≡◌ {A = ℕ} 0 1 = cc in absurd (omega arith)
there (Some x) d P Q e p q = (x, p, q)

pub returns-clause-are_clear : goal.returns-clause-are_clear
returns-clause-are_clear c k l =
    let p = c.count.ensures.runs in
    let q = c.take_while.ensures.runs p.0 p.0.seen p.1 in
    let e = c.chunks_exact.ensures.runs q.0 q.0.seen (search rules) in
    let a = q.2.2 (λ x r g called. search rules) in
    let m : k < p.0.len = omega (arith, p.3) in
    let t = there (p.0.at k) _ _ _ (p.0.reads k c.args.bytes m) (a.0 k) (rw (q.2.1 k m) at (e.2 k)) in
    let n : q.0.from.size ≡ 64 = search rules in
    let xs : q.0.from.rest.now ≡ c.args.bytes.now = search rules in
    let w : t.0.now ≡ take 64 (drop (k * 64) c.args.bytes.now) = t.2.2.0 ∙ rw (n, xs) refl in
    let b : true ≡ list_all (λ byte. not (byte == 0x73)) t.0.now = search rules in
    sym (b ∙ ap (list_all (λ byte. not (byte == 0x73))) w)
