-- `read_areas`: the areas are judged, then LEFTOVER, and only then stored (Walking.antt).
use Rattle.std.proofs.Common.{◌≡◌, Ok, Err}
use Rattle.std.proofs.lemmas.Result.{err_from_is_err_and}
use Rattle.kept.proofs.Walking.{areas-refused, left-refused, areas-said, areas-left, left_over, areas-whole, left-whole}
use borrow.Author.Rules.{rules}
use Rattle.kept.proofs.read_areas.Goals as goal

pub returns-in_err-end : goal.returns-in_err-end
returns-in_err-end c =
    let p = err_from_is_err_and c.from_residual.result c.from_residual.ensures.1 in
    let w : c.judge_areas.result ≡ Err c.in_err-end.field-0.0 = c.in_err-end.was in
    rw (p.1, p.2) (search (areas-refused, left-refused, rules))

pub returns-then-end-kept : goal.returns-then-end-kept
returns-then-end-kept c = let w : c.judge_areas.result ≡ Ok c.in_ok-end.end = c.in_ok-end.was in search (areas-left, left_over, rules)

pub store_areas-requires : goal.store_areas-requires
store_areas-requires c = let w : c.judge_areas.result ≡ Ok c.in_ok-end.end = c.in_ok-end.was in (search rules, search rules, search rules, search (areas-said, rules))

pub returns : goal.returns
returns c = let w : c.judge_areas.result ≡ Ok c.in_ok-end.end = c.in_ok-end.was in search (areas-whole, left-whole, rules)
