-- Bytes are accepted as one script or refused for one reason, and not both.
use Rattle.std.proofs.Common.{◌≡◌, ◌⊎◌, ⊎_elim, ℕ, inl, inr, Ok, Err, List, refl, sym, ap, ◌∙◌}
use Rattle.flume_grammar.proofs.Answered.{one_ast, one_refusal, not_both as parse_not_both}
use Rattle.flume_grammar.proofs.Answered.{some_answer}
use Rattle.flume_grammar.specs.Answer.{Accepts, Refuses}
use Rattle.flume_grammar.specs.declared.fault.ScriptFault.TheVariants as fault
use Rattle.flume_grammar.specs.declared.fault.ScriptKind.{ScriptKind}
use Rattle.flume_grammar.specs.declared.tree.Ast.{Ast}
use Rattle.build_law.specs.of_script_rules.Rules.{script_of}
use Rattle.script_program.specs.Script.{Script}
use Rattle.written_types.specs.Answer.{Checked}
use Rattle.script_loading.specs.Accepted.{Accepted, Refused}
use Rattle.script_loading.proofs.ToldLemmas.{IsTold}
use Rattle.script_loading.proofs.ToldRules.{told-script}

-- ---- one answer of the checker

same_script : (made : Checked Script) (p q : Script) → made ≡ Ok p → made ≡ Ok q → p ≡ q
same_script made p q first second =
    let e = sym first ∙ second in
    cc

same_fault : (made : Checked Script) (n m : ℕ) (j k : ScriptKind)
    → made ≡ Err (fault.Refused n j) → made ≡ Err (fault.Refused m k) → (n ≡ m) × (j
    ≡ k)
same_fault made n m j k first second =
    let e = sym first ∙ second in
    (cc, cc)

script_or_fault : (made : Checked Script) (p : Script) (n : ℕ) (k : ScriptKind)
    → made ≡ Ok p → made ≡ Err (fault.Refused n k) → ⊥
script_or_fault made p n k first second =
    let e = sym first ∙ second in
    cc

-- ---- bytes

pub accepted_once : (bytes : List ℕ) (p q : Script) → Accepted bytes p → Accepted bytes q
    → p ≡ q
accepted_once bytes p q first second =
    let trees : first.0 ≡ second.0 = one_ast bytes first.0 second.0 first.1 second.1 in
    same_script (script_of first.0.statements) p q first.2
    (ap (λ (ast : Ast). script_of ast.statements) trees ∙ second.2)

pub not_both : (bytes : List ℕ) (script : Script) (line : ℕ) (kind : ScriptKind)
    → Accepted bytes script → Refused bytes line kind → ⊥
not_both bytes script line kind accepted (inl refuses) =
    parse_not_both bytes accepted.0 line kind accepted.1 refuses
not_both bytes script line kind accepted (inr breaks) =
    let trees : accepted.0 ≡ breaks.0 = one_ast bytes accepted.0 breaks.0 accepted.1 breaks.1 in
    script_or_fault (script_of accepted.0.statements) script line kind accepted.2
    (ap (λ (ast : Ast). script_of ast.statements) trees ∙ breaks.2)

pub one_reason : (bytes : List ℕ) (n m : ℕ) (j k : ScriptKind)
    → Refused bytes n j → Refused bytes m k → (n ≡ m) × (j ≡ k)
one_reason bytes n m j k (inl first) (inl second) = one_refusal bytes n m j k first second
one_reason bytes n m j k (inl first) (inr second) =
    absurd (parse_not_both bytes second.0 n j second.1 first)
one_reason bytes n m j k (inr first) (inl second) =
    absurd (parse_not_both bytes first.0 m k first.1 second)
one_reason bytes n m j k (inr first) (inr second) =
    let trees : first.0 ≡ second.0 = one_ast bytes first.0 second.0 first.1 second.1 in
    same_fault (script_of first.0.statements) n m j k first.2
    (ap (λ (ast : Ast). script_of ast.statements) trees ∙ second.2)

-- ---- one or the other

abbrev pub AnyAccepted : List ℕ → Type 0
AnyAccepted bytes = (script : Script) × Accepted bytes script

abbrev pub AnyRefused : List ℕ → Type 0
AnyRefused bytes = (line : ℕ) × (kind : ScriptKind) × Refused bytes line kind

-- a tree keeps the rules, or breaks one
by_rules : (bytes : List ℕ) (ast : Ast) → Accepts bytes ast → (made : Checked Script)
    → script_of ast.statements ≡ made → IsTold made → AnyAccepted bytes ⊎ AnyRefused bytes
by_rules bytes ast spells (Ok script) is told = inl (script, (ast, spells, is))
by_rules bytes ast spells (Err (fault.Refused line kind)) is told =
    inr (line, kind, inr (ast, spells, is))
by_rules bytes ast spells (Err fault.Memory) is told = absurd told

pub accepted_or_refused : (bytes : List ℕ) → AnyAccepted bytes ⊎ AnyRefused bytes
accepted_or_refused bytes =
    ⊎_elim
    (λ (parsed : (ast : Ast) × Accepts bytes ast).
    by_rules bytes parsed.0 parsed.1 (script_of parsed.0.statements) refl
    (told-script parsed.0.statements))
    (λ (broken : (line : ℕ) × (kind : ScriptKind) × Refuses bytes line kind).
    inr (broken.0, broken.1, inl broken.2))
    (some_answer bytes)
