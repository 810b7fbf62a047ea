use Rattle.std.proofs.Common.{◌≡◌, ◌++◌, ◌+◌, ◌∙◌, ap, append-nil, arith, length, map, rules, subst, sym}
use Rattle.std.specs.List.{AllByRecursion}
use Rattle.std.specs.Vec.Iter.{into_iter_items}
use Rattle.flume_value.specs.Ranges.{IsHeld}
use Rattle.cached_course.specs.declared.missing.Missing.{Missing}
use Rattle.cached_course.specs.inner.Missing.{entry_of, kept_value}
use Rattle.cached_course.proofs.MissingLemmas.{left_each, left_map, left_none, left_one}
use Rattle.cached_course.proofs.missing.entries_of.Goals as goal

pub loop-turn-init : goal.loop-turn-init
loop-turn-init c =
    let script = c.args.program.now.script in
    let known = c.args.known.now in
    let written = c.args.written.now in
    let held = λ (it : Missing). IsHeld (kept_value script known written it) in
    let all : into_iter_items c.into_iter-left.result ≡ c.args.missing.items = search rules in
    record {
      count = omega (arith, ap length all);
      entries = ap (λ l. c.new-entries.result.items ++ map (entry_of script known written) l) all
          ∙ ap (λ l. l ++ map (entry_of script known written) c.args.missing.items)
          c.new-entries.ensures.items;
      held = λ each. subst (AllByRecursion held) all each;
    }

pub loop-turn-preserved : goal.loop-turn-preserved
loop-turn-preserved c =
    let script = c.args.program.now.script in
    let known = c.args.known.now in
    let written = c.args.written.now in
    let left = into_iter_items c.loop-turn.left in
    let after = into_iter_items c.push_entry.new.left in
    let next = c.in_ok-push_entry.ensures.left in
    let held = λ (it : Missing). IsHeld (kept_value script known written it) in record {
      count = ap (λ l. length l + (c.loop-turn._turn + 1)) next
          ∙ left_one left c.loop-turn._turn (length c.args.missing.items)
          c.loop-turn.invariant.count
          (omega arith);
      entries = ap
          (λ l. c.push_entry.new.entries.items ++ map (entry_of script known written) l) next
          ∙ left_map (entry_of script known written) left c.loop-turn.entries.items
          c.push_entry.new.entries.items (map (entry_of script known written) c.args.missing.items)
          c.in_ok-push_entry.ensures.entries c.loop-turn.invariant.entries;
      held = λ rest. c.loop-turn.invariant.held
          (left_each held left c.in_ok-push_entry.ensures.held
          (subst (AllByRecursion held) next rest));
    }

pub returns-clause-entries : goal.returns-clause-entries
returns-clause-entries c =
    let script = c.args.program.now.script in
    let known = c.args.known.now in
    let written = c.args.written.now in
    let entries = c.loop-turn.entries.items in
    let left = into_iter_items c.loop-turn.left in
    sym (append-nil entries)
    ∙ ap (λ l. entries ++ map (entry_of script known written) l)
    (sym (left_none left c.loop-turn._turn (length c.args.missing.items)
    c.loop-turn.invariant.count (omega arith)))
    ∙ c.loop-turn.invariant.entries

pub returns-clause-held : goal.returns-clause-held
returns-clause-held c =
    c.loop-turn.invariant.held
    (subst
    (AllByRecursion (λ (it : Missing). IsHeld
    (kept_value c.args.program.now.script c.args.known.now c.args.written.now it)))
    (sym (left_none (into_iter_items c.loop-turn.left) c.loop-turn._turn
    (length c.args.missing.items) c.loop-turn.invariant.count (omega arith))) tt)
