-- An output names a collection that stands under that name.
use Rattle.std.proofs.Common.{◌≡◌, ℕ, List, [], ◌∷◌, ◌++◌, Option, Some, None, Ok, refl, ap, ◌∙◌, subst, ⊎_elim}
use Rattle.std.specs.List.{Contains}
use Rattle.flume_grammar.specs.declared.tree.Form.{Form}
use Rattle.flume_grammar.specs.declared.tree.Statement.{Statement}
use Rattle.written_types.specs.Named.{Named, find}
use Rattle.script_program.specs.declared.made.Output.{Output}
use Rattle.script_program.specs.declared.made.Standing.{Standing}
use Rattle.script_program.specs.Script.{State, with_statement}
use Rattle.direct_meaning.specs.of_script_rules.Rules as spec
use Rattle.direct_meaning.proofs.of_script_rules.CheckedLemmas.{both, ok-same}
use Rattle.key_meaning.proofs.Alike.{number_for, stands}
use Rattle.key_meaning.proofs.Skipping.{Adds, rule_adds}
use Rattle.key_meaning.proofs.Standing.{found_first}

abbrev pub OutputsStand : State → Type 0
OutputsStand s =
    (entry : List ℕ × Output) → Contains s.outputs entry
    → stands entry.1.name s.names ≡ Some entry.1.reads

-- what a name stands for it stands for still
stands_first : (name : List ℕ) (names more : Named Standing) (k : ℕ) → (o : Option Standing)
    → find name names ≡ o → number_for o ≡ Some k → stands name (names ++ more) ≡ Some k
stands_first name names more k None at is = cc
stands_first name names more k (Some standing) at is =
    ap number_for (found_first name names more standing at) ∙ is

still_stands : (form : Form) (s after : State) → Adds form s after → (name : List ℕ) (k : ℕ)
    → stands name s.names ≡ Some k → stands name after.names ≡ Some k
still_stands form s after adds name k is =
    ap (stands name) adds.names
    ∙ stands_first name s.names adds.rest k (find name s.names) refl is

pub all_stand : (statements : List Statement) (s after : State) → OutputsStand s
    → spec.defined statements s ≡ Ok after → OutputsStand after
all_stand [] s after stand e = subst OutputsStand (ok-same s after e) stand
all_stand (statement ∷ rest) s after stand e =
    let next = both (spec.rule statement.line statement.form s) _ after e in
    let adds = rule_adds statement.line s next.part statement.form next.first in
    all_stand rest (with_statement next.part) after
    (λ entry among.
    still_stands statement.form s next.part adds entry.1.name entry.1.reads
    (⊎_elim (λ (old : Contains s.outputs entry). stand entry old) (λ new. new)
    (adds.outputs entry among)))
    next.then
