-- `read_siou`: a form that says no SIOU goes straight to the count; else a sound SIOU, and then the count (Walking.antt).
use Rattle.std.proofs.Common.{◌≡◌, ◌≤◌, arith, Ok, Err}
use Rattle.std.proofs.lemmas.Result.{err_from_is_err_and}
use Rattle.kept.proofs.Walking.{head-err, siou-unsaid, siou-refused, siou-form, siou-small, siou-on, end-there}
use borrow.Author.Rules.{rules}
use Rattle.kept.proofs.read_siou.Goals as goal

pub returns-then-form-lt2 : goal.returns-then-form-lt2
returns-then-form-lt2 c = search (siou-unsaid, rules)

pub returns-in_err-siou : goal.returns-in_err-siou
returns-in_err-siou c =
    let p = err_from_is_err_and c.from_residual.result c.from_residual.ensures.1 in
    let w : c.get_behind.result ≡ Err c.in_err-siou.field-0.0 = c.in_err-siou.was in
    head-err _ _ _ _ _ p.1 p.2 (search (siou-refused, rules))

pub returns-then-not-siou_is_sound : goal.returns-then-not-siou_is_sound
returns-then-not-siou_is_sound c = let w : c.get_behind.result ≡ Ok (c.in_ok-siou.siou, c.in_ok-siou.end) = c.in_ok-siou.was in search (siou-form, rules)

pub overflow_cast-siou : goal.overflow_cast-siou
overflow_cast-siou c =
    let w : c.get_behind.result ≡ Ok (c.in_ok-siou.siou, c.in_ok-siou.end) = c.in_ok-siou.was in
    let k : c.in_ok-siou.siou ≤ 512 = search (siou-small, rules) in record { fits = omega arith }

pub read_count-requires-2 : goal.read_count-requires-2
read_count-requires-2 c = let w : c.get_behind.result ≡ Ok (c.in_ok-siou.siou, c.in_ok-siou.end) = c.in_ok-siou.was in search (end-there, rules)

pub returns : goal.returns
returns c = let w : c.get_behind.result ≡ Ok (c.in_ok-siou.siou, c.in_ok-siou.end) = c.in_ok-siou.was in search (siou-on, rules)
