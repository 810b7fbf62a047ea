-- Later statements only add collections, so the turns of a repeat stay where they were put.
use Rattle.std.proofs.Common.{◌≡◌, ℕ, List, [], ◌∷◌, ◌++◌, length, nat_lt, Ok, refl, sym, subst}
use Rattle.std.proofs.Common.{ap, ◌∙◌, append_assoc, append-nil}
use Rattle.flume_types.specs.Columns.{columns_of, input_columns_of}
use Rattle.flume_grammar.specs.declared.tree.Form.{Form}
use Rattle.flume_grammar.specs.declared.tree.Form.TheVariants as form
use Rattle.flume_grammar.specs.declared.tree.Repeat.{Repeat as WrittenRepeat}
use Rattle.flume_grammar.specs.declared.tree.Statement.{Statement}
use Rattle.flume_grammar.specs.declared.fault.ScriptKind.TheVariants.{NoOutput, NotFlat}
use Rattle.written_types.specs.Answer.{◌>>=◌, or_fault, unless}
use Rattle.written_types.specs.Named.{Named, fresh}
use Rattle.written_types.specs.Written.{whole_type}
use Rattle.script_program.specs.Limits.{most_collections, most_files}
use Rattle.script_program.specs.Script.{Node, Script, State, empty_state, script_from}
use Rattle.script_program.specs.Script.{with_statement}
use Rattle.script_rules.specs.Operations.{operand_named}
use Rattle.script_rules.specs.Repeats.{unrolled}
use Rattle.script_rules.specs.Rules as spec
use Rattle.script_rules.proofs.CheckedLemmas.{both, ok-same}
use Rattle.script_rules.proofs.FoundLemmas.{ruled}
use Rattle.script_laws.proofs.BodyLemmas.{has-named}
use Rattle.script_laws.proofs.RepeatLemmas.{has-turns}
use Rattle.repeat_law.proofs.SoundLemmas.{is_repeat}
use Rattle.repeat_law.specs.Reading.{HasRepeat, IsUnrolled, let_repeat}

-- ---- what statements add

record Adds (s after : State) : Type 0 where
  more : Named Node
  is : s.nodes ++ more ≡ after.nodes

none : (s : State) → Adds s s
none s = record { more = []; is = append-nil s.nodes }

rule_adds : (line : ℕ) (s after : State) (form : Form) → spec.rule line form s ≡ Ok after
    → Adds s after
rule_adds line s after (form.Type name type) e =
    let new = both (fresh line name s.types) _ after e in
    let t = both (whole_type line type s.types) _ after new.then in
    subst (Adds s) (ok-same _ after t.then) (record { more = []; is = append-nil s.nodes })
rule_adds line s after (form.Input name type file) e =
    let few = both (spec.room line 1 most_collections s.nodes) _ after e in
    let new = both (fresh line name s.names) _ after few.then in
    let t = both (whole_type line type s.types) _ after new.then in
    let columns = both (or_fault line NotFlat (input_columns_of t.part)) _ after t.then in
    subst (Adds s) (ok-same _ after columns.then) (record { more = _ ∷ []; is = refl })
rule_adds line s after (form.Function function) e =
    subst (Adds s) (ruled line function s after e).is
    (record { more = []; is = append-nil s.nodes })
rule_adds line s after (form.Let names by) e =
    let few = both (spec.room line (length names) most_collections s.nodes) _ after e in
    let it = has-named line s after names by few.then in
    record { more = it.has.lets; is = sym it.has.nodes }
rule_adds line s after (form.Repeat names written) e =
    let it = both (spec.repeated line names written s) _ after e in
    let has = has-turns line names written s it.part (length s.names) it.first in
    subst (Adds s) (ok-same _ after it.then)
    (record { more = unrolled it.part.repeat; is = sym has.nodes })
rule_adds line s after (form.Output name file) e =
    let few = both (spec.room line 1 most_files s.outputs) _ after e in
    let one = both (operand_named line name s) _ after few.then in
    let columns = both (or_fault line NotFlat (columns_of one.part.type)) _ after one.then in
    let new = both (fresh line file s.outputs) _ after columns.then in
    subst (Adds s) (ok-same _ after new.then) (record { more = []; is = append-nil s.nodes })

defined_adds : (statements : List Statement) (s after : State)
    → spec.defined statements s ≡ Ok after → Adds s after
defined_adds [] s after e = subst (Adds s) (ok-same s after e) (none s)
defined_adds (statement ∷ rest) s after e =
    let next = both (spec.rule statement.line statement.form s) _ after e in
    let first = rule_adds statement.line s next.part statement.form next.first in
    let later = defined_adds rest (with_statement next.part) after next.then in
    record {
      more = first.more ++ later.more;
      is =
          sym (append_assoc s.nodes first.more later.more)
          ∙ ap (λ (l : Named Node). l ++ later.more) first.is
          ∙ later.is;
    }

-- ---- a statement among others

-- what some statements define, and what others do behind them
record Parted (first second : List Statement) (s after : State) : Type 0 where
  middle : State
  here : spec.defined first s ≡ Ok middle
  there : spec.defined second middle ≡ Ok after

parted : (first second : List Statement) (s after : State)
    → spec.defined (first ++ second) s ≡ Ok after → Parted first second s after
parted [] second s after e = record { middle = s; here = refl; there = e }
parted (statement ∷ first) second s after e =
    let next = both (spec.rule statement.line statement.form s) _ after e in
    let rest = parted first second (with_statement next.part) after next.then in
    record {
      middle = rest.middle;
      here =
          ap (λ r. r >>= λ next. spec.defined first (with_statement next)) next.first
          ∙ rest.here;
      there = rest.there;
    }

pub is_unrolled : (before after : List Statement) (line : ℕ) (names : List (List ℕ))
    (written : WrittenRepeat) (script : Script)
    → spec.script_of (before ++ let_repeat line names written ∷ after) ≡ Ok script
    → IsUnrolled before line names written script
is_unrolled before after line names written script e =
    let all = before ++ let_repeat line names written ∷ after in
    let s = both (spec.defined all empty_state) _ script e in
    let some = both (unless 0 NoOutput (nat_lt 0 (length s.part.outputs))) _ script s.then in
    let parts = parted before (let_repeat line names written ∷ after) empty_state s.part s.first in
    let front = parts.middle in
    let next = both (spec.rule_repeat line names written front) _ s.part parts.there in
    let it = both (spec.repeated line names written front) _ next.part next.first in
    let repeat = it.part.repeat in
    let has = has-turns line names written front it.part (length front.names) it.first in
    let later = defined_adds after (with_statement next.part) s.part next.then in
    let same = ap (λ (s : State). s.nodes) (ok-same _ next.part it.then) in
    let stands : HasRepeat (script_from s.part) repeat =
    record {
      before = front.nodes;
      after = later.more;
      many = has.fits.many;
      split =
          ap (λ (l : Named Node). l ++ later.more) (sym has.nodes ∙ same) ∙ later.is;
    } in
    record {
      front = front;
      defines = parts.here;
      it = it.part;
      rules = it.first;
      reads = is_repeat front.functions front.nodes repeat has.fits;
      has =
          subst (λ (script : Script). HasRepeat script repeat) (ok-same _ script some.then) stands;
    }
