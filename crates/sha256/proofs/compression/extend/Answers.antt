use Rattle.std.proofs.Common.{take, arith, refl, ◌∙◌}
use Rattle.std.proofs.lemmas.List.{length-set}
use Rattle.sha256.specs.Hash.{extended}
use Rattle.sha256.proofs.Rounds.{schedule_more}
use Rattle.sha256.proofs.compression.extend.Goals as goal

pub loop-t-init : goal.loop-t-init
unfolding extended
loop-t-init c = (c.told-w, refl)

pub loop-t-preserved : goal.loop-t-preserved
loop-t-preserved c = (
  length-set c.loop-t.w c.loop-t.t _ ∙ c.loop-t.invariant.0,
  schedule_more (take 16 c.args.w.now) c.loop-t.w c.loop-t.t _ (omega arith) (omega arith) c.loop-t.invariant.1 c.following.ensures,
)
