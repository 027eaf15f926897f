use Rattle.std.proofs.Common.{Ok, Err}
use Rattle.std.proofs.lemmas.Result.{err_from_is_err_and}
use Rattle.circuit.proofs.Many.{reached_none, reached_more, reached_fault, reached_all}
use Rattle.circuit.proofs.reading.skip_parts.Goals as goal

pub loop-i-init : goal.loop-i-init
loop-i-init g c = λ one reads. reached_none one c.args.end c.args.first c.args.text.now

pub loop-i-preserved : goal.loop-i-preserved
loop-i-preserved g c = λ one reads.
    reached_more one c.args.end c.args.first c.args.text.now c.loop-i.i c.loop-i.rest.now c.loop-i-test.true (c.loop-i.invariant one reads)
    (reads c.loop-i.i c.loop-i.rest (Ok (c.in_ok-after.field-0-0, c.in_ok-after.after)) c.in_ok-after.ensures)

pub returns-in_err-after : goal.returns-in_err-after
returns-in_err-after g c = λ one reads.
    let p = err_from_is_err_and c.from_residual.result c.from_residual.ensures.1 in
    rw (p.1, p.2)
    (reached_fault one c.args.end c.args.first c.args.text.now c.loop-i.i c.loop-i.rest.now c.loop-i-test.true (c.loop-i.invariant one reads)
    (reads c.loop-i.i c.loop-i.rest (Err c.in_err-after.field-0.0) c.in_err-after.ensures))

pub returns : goal.returns
returns g c = λ one reads.
    let so_far = c.loop-i.invariant one reads in
    (so_far.0, reached_all one c.args.end c.args.first c.args.text.now c.loop-i.i c.loop-i.rest.now c.loop-i-test.false so_far)
