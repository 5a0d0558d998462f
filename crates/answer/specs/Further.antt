-- Serves proofs, and is proved: a fault with so many bits or entries before it.
use Rattle.std.specs.Prelude.{◌≡◌, refl, ℕ, ◌+◌, Option, Some, None}
use Rattle.std.proofs.Common.{ap, arith}
use Rattle.answer.specs.declared.Refusal.{Refusal}
use Rattle.answer.specs.declared.Place.{Place}
use Rattle.answer.specs.declared.Fault.{Fault}
use Rattle.answer.specs.Place.{fault_at, moved, further}

moved_none : (place : (Option Place)) → moved 0 place ≡ place
moved_none None = refl
moved_none (Some p) = ap (λ (x : ℕ). Some (record { sf = p.sf; at = x })) (omega arith)

moved_twice : (n m : ℕ) (place : (Option Place)) → moved (n + m) place ≡ moved n (moved m place)
moved_twice n m None = refl
moved_twice n m (Some p) = ap (λ (x : ℕ). Some (record { sf = p.sf; at = x })) (omega arith)

-- none before it: the same fault
pub further-none : (fault : Fault) → further 0 fault ≡ fault
further-none fault = ap (λ (p : (Option Place)). record { refusal = fault.refusal; place = p }) (moved_none fault.place)

-- so many, and so many before them
pub further-twice : (n m : ℕ) (fault : Fault) → further (n + m) fault ≡ further n (further m fault)
further-twice n m fault = ap (λ (p : (Option Place)). record { refusal = fault.refusal; place = p }) (moved_twice n m fault.place)

-- a fault at the first entry of what comes behind them
pub further-here : (n : ℕ) (why : Refusal) (sf : ℕ) → further n (fault_at why sf 0) ≡ fault_at why sf n
further-here n why sf = ap (fault_at why sf) (omega arith)
