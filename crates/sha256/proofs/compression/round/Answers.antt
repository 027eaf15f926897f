use Rattle.sha256.specs.Words.{Σ₀, Σ₁}
use Rattle.sha256.proofs.compression.round.Goals as goal

pub returns : goal.returns
unfolding Σ₀ Σ₁
returns c = cc
