use Rattle.std.proofs.Common.{◌≡◌, Ok, Err}
use Rattle.std.proofs.lemmas.Result.{err_from_is_err_and}
use Rattle.kept.proofs.Walking.{end-err, walk_start, walk_end, walk_refused, walk-form, walk_turn}
use borrow.Author.Rules.{rules}
use Rattle.kept.proofs.judge_areas.Goals as goal

pub loop-i-init : goal.loop-i-init
loop-i-init c = search (walk_start, rules)

pub returns-in_err-area : goal.returns-in_err-area
returns-in_err-area c =
    let p = err_from_is_err_and c.from_residual.result c.from_residual.ensures.1 in
    let w : c.get_behind.result ≡ Err c.in_err-area.field-0.0 = c.in_err-area.was in
    end-err _ _ _ _ _ p.1 p.2 (search (walk_refused, rules))

pub returns-then-not-fits : goal.returns-then-not-fits
returns-then-not-fits c = let w : c.get_behind.result ≡ Ok (c.in_ok-area.area, c.in_ok-area.next) = c.in_ok-area.was in search (walk-form, rules)

pub loop-i-preserved : goal.loop-i-preserved
loop-i-preserved c = let w : c.get_behind.result ≡ Ok (c.in_ok-area.area, c.in_ok-area.next) = c.in_ok-area.was in search (walk_turn, rules)

pub returns : goal.returns
returns c = search (walk_end, rules)
