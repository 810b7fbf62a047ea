-- Bytes are accepted with one tree, or refused with one fault.
use Rattle.std.proofs.Common.{◌≡◌, ℕ, List, Result, Ok, Err, refl, sym, ap, ◌∙◌, subst, ◌⊎◌, inl, inr}
use Rattle.flume_tokens.specs.declared.fault.TokenFault.{TokenFault}
use Rattle.flume_tokens.specs.declared.fault.TokenFault.TheVariants as tokens
use Rattle.flume_tokens.specs.declared.token.TokenList.{TokenList}
use Rattle.flume_tokens.specs.Tokens.{tokens_of}
use Rattle.flume_tokens.proofs.NoMemory.{never_memory}
use Rattle.flume_grammar.specs.declared.fault.ScriptKind.{ScriptKind}
use Rattle.flume_grammar.specs.declared.fault.ScriptFault.{ScriptFault}
use Rattle.flume_grammar.specs.declared.fault.ScriptFault.TheVariants.{Refused}
use Rattle.flume_grammar.specs.declared.tree.Ast.{Ast}
use Rattle.flume_grammar.specs.declared.tree.Statement.{Statement}
use Rattle.flume_grammar.specs.Answer.{Accepts, Refuses, IsFaultOf, kind_of}
use Rattle.flume_grammar.specs.Fault.{IsWholeScript, IsFault}
use Rattle.flume_grammar.specs.Grammar.{IsScript}
use Rattle.flume_grammar.specs.Limits.{the_limits}
use Rattle.flume_grammar.proofs.Fair.{fair}
use Rattle.flume_grammar.proofs.FirstFault.{one_fault, no_fault, either_}
use Rattle.flume_grammar.proofs.Parsed.{one_tree}

abbrev Cut : Type 0
Cut = Result TokenList TokenFault

abbrev list_is : TokenList → Cut
list_is list = Ok list

same_list : (a b : TokenList) → list_is a ≡ list_is b → a ≡ b
same_list a b e = cc

abbrev ast : List Statement → Ast
ast ss = record { statements = ss }

pub one_ast : (bytes : List ℕ) (a b : Ast) → Accepts bytes a → Accepts bytes b → a ≡ b
one_ast bytes a b (list, e, h) (other, f, g) =
    let same = same_list other list (sym f ∙ e) in
    let k = subst (λ (l : TokenList). IsScript the_limits l.items b.statements) same g in
    ap ast (one_tree list.items a.statements b.statements h k)

abbrev Answer : List ℕ → Type 0
Answer bytes =
    ((ast : Ast) × Accepts bytes ast)
    ⊎ ((line : ℕ) × (kind : ScriptKind) × Refuses bytes line kind)

abbrev refused : ℕ → ScriptKind → ScriptFault
refused n k = Refused n k

told : (bytes : List ℕ) (list : TokenList) → tokens_of bytes ≡ Ok list
    → IsWholeScript the_limits list.items
    ⊎ ((line : ℕ) × (kind : ScriptKind) × IsFault the_limits list line kind)
    → Answer bytes
told bytes list e (inl (ss, h)) = inl (ast ss, (list, e, h))
told bytes list e (inr (line, kind, f)) =
    inr (line, kind, subst (λ (r : Cut). IsFaultOf r line kind) (sym e) f)

pub some_answer : (bytes : List ℕ) → Answer bytes
some_answer bytes = by (tokens_of bytes) refl
  where
    by : (r : Cut) → tokens_of bytes ≡ r → Answer bytes
    by (Err tokens.Memory) e = absurd (never_memory bytes e)
    by (Err (tokens.Refused line kind)) e =
        inr (line, kind_of kind, subst (λ (r : Cut). IsFaultOf r line (kind_of kind)) (sym e) refl)
    by (Ok list) e = told bytes list e (either_ the_limits fair list)

pub not_both : (bytes : List ℕ) (ast : Ast) (line : ℕ) (kind : ScriptKind)
    → Accepts bytes ast → Refuses bytes line kind → ⊥
not_both bytes ast line kind (list, e, h) r =
    no_fault the_limits fair list line kind (ast.statements, h)
    (subst (λ (c : Cut). IsFaultOf c line kind) e r)

pub one_refusal : (bytes : List ℕ) (n m : ℕ) (j k : ScriptKind)
    → Refuses bytes n j → Refuses bytes m k → (n ≡ m) × (j ≡ k)
one_refusal bytes n m j k = by (tokens_of bytes)
  where
    by : (r : Cut) → IsFaultOf r n j → IsFaultOf r m k → (n ≡ m) × (j ≡ k)
    by (Ok list) f g = one_fault the_limits fair list n m j k f g
    by (Err fault) f g =
        let q : refused n j ≡ refused m k = sym f ∙ g in
        (let a : n ≡ m = cc in a, let b : j ≡ k = cc in b)
