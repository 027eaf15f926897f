use Rattle.std.proofs.Common.{rules}
use Rattle.std.proofs.lemmas.Iterator.{YieldsList-from_slice, YieldsList-from_zip}
use Rattle.std.proofs.lemmas.Iterator.Consumers.{fold_from_yields_List}
use Rattle.sha256.specs.Turns.{step}
use Rattle.sha256.proofs.compression.eight_rounds.Goals as goal

pub returns : goal.returns
returns c =
    fold_from_yields_List _ step c.args.s _ c.fold.ensures.ran
    (YieldsList-from_zip (YieldsList-from_slice c.args.by.0.now cc) (YieldsList-from_slice c.args.by.1.now cc))
    (λ a x b q k. search rules)
