use Rattle.std.proofs.Common.{ap, ◌∙◌}
use Rattle.sha256.specs.Hash.{compressed}
use Rattle.sha256.proofs.texts.absorbed.Goals as goal

pub returns : goal.returns
returns c = c.compress.ensures ∙ ap (compressed c.args.state) c.words_of.ensures
