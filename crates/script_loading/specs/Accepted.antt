-- Which bytes are a script, and which are refused.
use Rattle.std.specs.Prelude.{◌≡◌, ◌⊎◌, ℕ, List, Ok, Err}
use Rattle.flume_grammar.specs.Answer.{Accepts, Refuses}
use Rattle.flume_grammar.specs.declared.fault.ScriptFault.TheVariants as fault
use Rattle.flume_grammar.specs.declared.fault.ScriptKind.{ScriptKind}
use Rattle.flume_grammar.specs.declared.tree.Ast.{Ast}
use Rattle.build_law.specs.of_script_rules.Rules.{script_of}
use Rattle.script_program.specs.Script.{Script}

-- the bytes are accepted as this script: their tokens spell a tree, which keeps all rules
abbrev pub Accepted : List ℕ → Script → Type 0
Accepted bytes script = (ast : Ast) × Accepts bytes ast × (script_of ast.statements ≡ Ok script)

-- the bytes spell a tree that breaks a rule: this is its first fault
abbrev pub BreaksRule : List ℕ → ℕ → ScriptKind → Type 0
BreaksRule bytes line kind =
    (ast : Ast) × Accepts bytes ast × (script_of ast.statements ≡ Err (fault.Refused line kind))

-- the bytes are refused: they spell no tree, or one that breaks a rule
abbrev pub Refused : List ℕ → ℕ → ScriptKind → Type 0
Refused bytes line kind = Refuses bytes line kind ⊎ BreaksRule bytes line kind
