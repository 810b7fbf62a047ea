use Rattle.std.proofs.Common.{arith, map}
use Rattle.script_state.specs.Held.{operand_in}
use Rattle.script_rules.specs.Rules.{entered}
use Rattle.let_check.proofs.EntryLemmas.{entered-more}
use Rattle.let_check.proofs.repeats.repeated.Goals as goal

pub after_entry-requires-clause-outside : goal.after_entry-requires-clause-outside
after_entry-requires-clause-outside c =
    omega (
      arith,
      c.node_count-outside.ensures,
      entered-more c.args.names.now c.args.written.entering
          (map entered (map (operand_in c.entry_for.new.state.types) c.as_slice.result.now))
          c.args.state.now.state c.entry_for.new.state.state c.enter.new.state.state
          c.in_ok-entry.ensures.state c.in_ok-enter.ensures.state,
    )
