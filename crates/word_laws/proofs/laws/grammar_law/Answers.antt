use Rattle.std.proofs.Common.{codes, refl}
use Rattle.clap.proofs.OnLiterals.{clap_on_literals}
use Rattle.command_words.specs.declared.words.Command.TheVariants.{Check, Direct}
use Rattle.command_words.specs.declared.words.PlanForm.TheVariants.{Json, Rewrites}
use Rattle.word_laws.proofs.GrammarLemmas.{alone_asks, flag_before, flag_behind, plan_alone}
use Rattle.word_laws.proofs.RunLemmas.{run_alone, run_asked}
use Rattle.word_laws.proofs.laws.grammar_law.Goals as goal

pub returns : goal.returns
unfolding clap_on_literals
returns c =
    let script = c.args.script.now in
    let is = c.requires in record {
      check = alone_asks (codes "check") script Check is (λ program. refl) refl;
      plan = plan_alone script is;
      json_before = flag_before (codes "--json") script Json is refl refl refl refl;
      json_behind = flag_behind (codes "--json") script Json is refl refl;
      rewrites_before = flag_before (codes "--rewrites") script Rewrites is refl refl refl refl;
      rewrites_behind = flag_behind (codes "--rewrites") script Rewrites is refl refl;
      direct = alone_asks (codes "direct") script Direct is (λ program. refl) refl;
      run = run_alone script is;
      options = λ parts settings from asks. run_asked script parts settings from is asks;
    }
