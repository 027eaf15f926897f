use Rattle.sha256.specs.Words.{σ₀, σ₁}
use Rattle.sha256.proofs.compression.following.Goals as goal

pub returns : goal.returns
unfolding σ₀ σ₁
returns c = cc
