use Rattle.std.proofs.Common.{rules, tests}
use Rattle.std.specs.Char.{is_ascii_digit}
use Rattle.std.proofs.lemmas.Iterator.{YieldsList-from_slice}
use Rattle.std.proofs.lemmas.Iterator.Search.{all_from_yields_List}
use Rattle.drill_text.proofs.NumberLemmas.{numeral_by_all}
use Rattle.drill_text.proofs.number.is_numeral.Goals as goal

pub returns-in_default : goal.returns-in_default
returns-in_default c =
    numeral_by_all c.args.text.now c.all.result c.in_default.len_at_least
    (all_from_yields_List is_ascii_digit _ _ _ c.all.ensures.ran
    (YieldsList-from_slice c.args.text.now cc) (λ x b q k. search (rules, tests)))
