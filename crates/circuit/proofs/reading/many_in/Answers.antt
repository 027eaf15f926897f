use Rattle.std.proofs.Common.{◌≡◌, ◌+◌, [], ◌∷◌, ◌++◌, Ok, Err, vec_items, rules}
use Rattle.std.proofs.lemmas.Result.{err_from_is_err_and}
use Rattle.circuit.proofs.Many.{reached_more, reached_skipped, going_none, going_more, going_fault, going_all}
use Rattle.circuit.proofs.reading.many_in.Goals as goal

pub loop-i-init : goal.loop-i-init
loop-i-init g c = λ one reads. going_none one c.args.end c.args.first c.args.text.now c.new-items.result c.new-items.ensures.items

pub loop-i-preserved : goal.loop-i-preserved
loop-i-preserved g c = λ one reads.
    let pushed : vec_items c.push.new.self ≡ vec_items c.loop-i.items ++ (c.in_ok-item.item ∷ []) = search rules in
    going_more one c.args.end c.args.first c.args.text.now c.loop-i.i c.loop-i.items c.push.new.self c.loop-i.rest.now c.loop-i-test.true (c.loop-i.invariant one reads)
    (reads c.loop-i.i c.loop-i.rest (Ok (c.in_ok-item.item, c.in_ok-item.after)) c.in_ok-item.ensures) pushed

pub returns-in_err-item : goal.returns-in_err-item
returns-in_err-item g c = λ one reads.
    let p = err_from_is_err_and c.from_residual.result c.from_residual.ensures.1 in
    rw (p.1, p.2)
    (going_fault one c.args.end c.args.first c.args.text.now c.loop-i.i c.loop-i.items c.loop-i.rest.now c.loop-i-test.true (c.loop-i.invariant one reads)
    (reads c.loop-i.i c.loop-i.rest (Err c.in_err-item.field-0.0) c.in_err-item.ensures))

pub returns-in_err-skip_parts : goal.returns-in_err-skip_parts
returns-in_err-skip_parts g c = λ one reads.
    let so_far =
    reached_more one c.args.end c.args.first c.args.text.now c.loop-i.i c.loop-i.rest.now c.loop-i-test.true (c.loop-i.invariant one reads).0
    (reads c.loop-i.i c.loop-i.rest (Ok (c.in_ok-item.item, c.in_ok-item.after)) c.in_ok-item.ensures) in
    let p = err_from_is_err_and c.from_residual-in_err-skip_parts.result c.from_residual-in_err-skip_parts.ensures.1 in
    rw (p.1, p.2)
    (reached_skipped one c.args.end c.args.first c.args.text.now (c.loop-i.i + 1) c.in_ok-item.after.now (Err c.in_err-skip_parts.field-0.0) so_far
    (c.in_err-skip_parts.ensures one reads))

pub returns-then-is_err : goal.returns-then-is_err
returns-then-is_err g c = λ one reads.
    let so_far =
    reached_more one c.args.end c.args.first c.args.text.now c.loop-i.i c.loop-i.rest.now c.loop-i-test.true (c.loop-i.invariant one reads).0
    (reads c.loop-i.i c.loop-i.rest (Ok (c.in_ok-item.item, c.in_ok-item.after)) c.in_ok-item.ensures) in
    let all =
    reached_skipped one c.args.end c.args.first c.args.text.now (c.loop-i.i + 1) c.in_ok-item.after.now (Ok c.in_ok-skip_parts.field-0) so_far
    (c.in_ok-skip_parts.ensures one reads) in
    (all.0, all.1, tt)

pub returns : goal.returns
returns g c = λ one reads.
    going_all one c.args.end c.args.first c.args.text.now c.loop-i.i c.loop-i.items c.loop-i.rest.now c.loop-i-test.false (c.loop-i.invariant one reads)
