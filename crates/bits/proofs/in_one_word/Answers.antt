-- Where the answer is true, the tests before it say so.
use mathlib.Core.Bool.{false≢true}
use native.Mathlib.Nat.{pos_of_ne-zero}
use native.Mathlib.Omega.{arith}
use borrow.Author.Tests.{leb-true}
use Rattle.bits.proofs.in_one_word.Goals as goal

pub returns-then-s-lt8 : goal.returns-then-s-lt8
returns-then-s-lt8 c = record { says = λ e. absurd (false≢true e) }

pub returns-then-s-pos : goal.returns-then-s-pos
returns-then-s-pos c = record { says = λ e. absurd (false≢true e) }

pub returns-then-width-eq0 : goal.returns-then-width-eq0
returns-then-width-eq0 c = record { says = λ e. absurd (false≢true e) }

pub returns-then-width-le57 : goal.returns-then-width-le57
returns-then-width-le57 c = record { says = λ e. (pos_of_ne-zero c.if-width-eq0.false, omega arith, omega arith) }

pub returns : goal.returns
returns c = record { says = λ e. (pos_of_ne-zero c.if-width-eq0.false, omega (arith, leb-true), omega arith) }
