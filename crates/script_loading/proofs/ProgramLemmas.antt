-- The program of the bytes of a script.
use Rattle.std.proofs.Common.{ℕ, inl, List, Result, Ok, Err}
use Rattle.std.specs.Prelude.{IfOk}
use Rattle.build_law.proofs.Accepting.{accepted_kept}
use Rattle.build_law.proofs.Short.{accepted_short}
use Rattle.flume_grammar.proofs.FileNames.{files}
use Rattle.flume_grammar.specs.Answer.{Accepts, IsRefusalOf}
use Rattle.flume_grammar.specs.declared.fault.ScriptFault.{ScriptFault}
use Rattle.flume_grammar.specs.declared.fault.ScriptFault.TheVariants as script_fault
use Rattle.flume_grammar.specs.declared.tree.Ast.{Ast}
use Rattle.build_law.specs.of_script_rules.Rules.{script_of}
use Rattle.script_program.specs.Saved.{HasNoSaved}
use Rattle.script_program.specs.Script.{Script}
use Rattle.build_law.proofs.of_script_laws.RuleLemmas.{unsaved, well-formed}
use Rattle.build_law.specs.of_script_laws.WellFormed.{IsWellFormed}
use Rattle.written_types.specs.Answer.{Gives as Checks}
use Rattle.script_loading.specs.Ready.{IsReady}
use Rattle.script_loading.specs.inner.Reading.{IsScriptFault}
use Rattle.script_loading.proofs.NameLemmas.{script_named}

-- an accepted script is well formed
pub checked_well : {X : Type 0} (view : X → Script) (ast : Ast) (r : Result X ScriptFault)
    → Checks view r (script_of ast.statements) → IfOk r (λ x. IsWellFormed (view x))
checked_well view ast (Ok x) is = well-formed ast.statements (view x) is
checked_well view ast (Err e) is = tt

-- and as it is written: none of its collections is kept
pub checked_written : {X : Type 0} (view : X → Script) (ast : Ast) (r : Result X ScriptFault)
    → Checks view r (script_of ast.statements) → IfOk r (λ x. HasNoSaved (view x))
checked_written view ast (Ok x) is = unsaved ast.statements (view x) is
checked_written view ast (Err e) is = tt

-- and ready for what is done with it
pub checked_ready : {X : Type 0} (view : X → Script) (bytes : List ℕ) (ast : Ast)
    (r : Result X ScriptFault) → Accepts bytes ast → Checks view r (script_of ast.statements)
    → IfOk r (λ x. IsReady (view x))
checked_ready view bytes ast (Ok x) spells is =
    let named = script_named ast.statements (view x) (files bytes ast spells) is in
    let kept = accepted_kept ast.statements (view x) (accepted_short bytes ast spells) is in
    record {
      reads = named.reads;
      writes = named.writes;
      short = kept.short;
    }
checked_ready view bytes ast (Err e) spells is = tt
