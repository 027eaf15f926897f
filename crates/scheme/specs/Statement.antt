-- The statement of what can be known. Assumes nothing.
use Rattle.std.specs.Prelude.{List}
use Rattle.scheme.specs.Examples.{WorkedExamples}
use Rattle.scheme.specs.Garbling.{Key, Scheme}
use Rattle.scheme.specs.Marking.{RespectsLaws, OutOfReach, Carried, NotToldApart}
use Rattle.scheme.specs.NearMisses.{NearMisses}
use Rattle.scheme.specs.Promises.{Sound, AllLaws, Simulatable, HidesInputs, KeepsPromises}
use Rattle.scheme.specs.Terms.{block, Term, Deduction}
use Rattle.scheme.specs.Yao.{yao}

pub record Statement : Type 0 where
  -- the scheme keeps all promises
  pub promises : KeepsPromises yao
  -- and each that comes near breaks one
  pub near_misses : NearMisses
  -- whatever can be simulated hides inputs
  pub simulation_hides : (S : Scheme Key) → Simulatable S → HidesInputs S
  -- equal terms are equal bytes, with all laws of exclusive or, and derivation has its rules
  pub sound : Sound Key
  pub all_laws : AllLaws Key
  pub deduction : (have : List (Term Key block)) → Deduction have
  -- the argument: it is proved for any secrets, and stands here for keys
  pub respects_laws : RespectsLaws Key
  pub out_of_reach : OutOfReach Key
  pub carried : Carried Key
  pub not_told_apart : NotToldApart Key
  pub worked : WorkedExamples
