use Rattle.std.proofs.Common.{rules, tests, sym, ◌∙◌, is_some}
use Rattle.std.proofs.lemmas.Iterator.{YieldsList-from_slice}
use Rattle.std.proofs.lemmas.Iterator.Search.{all_from_yields_List}
use Rattle.bits.specs.Texts.{bit_of}
use Rattle.bits.proofs.BitTexts.{all_bits_is}
use Rattle.bits.proofs.Encoding.all_bits.Goals as goal

pub returns : goal.returns
returns c =
    all_from_yields_List (λ b. is_some (bit_of c.args.self.zero b)) _ _ _ c.all.ensures.ran (YieldsList-from_slice c.args.text.now cc) (λ x b q k. search (rules, tests))
    ∙ sym (all_bits_is c.args.self.zero c.args.text.now)
