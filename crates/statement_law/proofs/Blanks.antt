-- The lines of a statement have no part in its outline.
use Rattle.std.proofs.Common.{◌≡◌, ℕ, List, [], ◌∷◌, ◌++◌, map, refl, sym, ap, ◌∙◌}
use Rattle.std.specs.List.{flat_map}
use Rattle.flume_grammar.specs.declared.tree.Form.{Form}
use Rattle.flume_grammar.specs.declared.tree.Form.TheVariants as form
use Rattle.flume_grammar.specs.declared.tree.Operation.{Operation}
use Rattle.flume_grammar.specs.declared.tree.Repeat.{Repeat}
use Rattle.flume_grammar.specs.declared.tree.Statement.{Statement}
use Rattle.flume_grammar.specs.declared.tree.TurnLet.{TurnLet}
use Rattle.script_keys.specs.Outlines.{called_in, callees, operand_names, outline_of, read_in}
use Rattle.script_keys.specs.declared.outline.Outline.TheVariants as outline
use Rattle.statement_law.specs.Outlined.{outlines_of}
use Rattle.statement_law.specs.Lineless.{form_lineless, let_lineless, repeat_lineless, statement_lineless}

of_lets : (f : Operation → List (List ℕ)) (lets : List TurnLet)
    → flat_map (λ own. f own.by) (map let_lineless lets) ≡ flat_map (λ own. f own.by) lets
of_lets f [] = refl
of_lets f (own ∷ lets) = ap (λ names. f own.by ++ names) (of_lets f lets)

read_alike : (r : Repeat) → read_in (repeat_lineless r) ≡ read_in r
read_alike r = ap (λ names. (r.from ++ names) ++ r.gives) (of_lets operand_names r.lets)

called_alike : (r : Repeat) → called_in (repeat_lineless r) ≡ called_in r
called_alike r = of_lets callees r.lets

form_alike : (f : Form) → outline_of (form_lineless f) ≡ outline_of f
form_alike (form.Type name type) = refl
form_alike (form.Input name type file) = refl
form_alike (form.Function function) = refl
form_alike (form.Let names by) = refl
form_alike (form.Repeat names repeat) =
    λ i. outline.Let names (read_alike repeat i) (called_alike repeat i)
form_alike (form.Output name file) = refl

lines_apart : (ss : List Statement) → outlines_of (map statement_lineless ss) ≡ outlines_of ss
lines_apart [] = refl
lines_apart (s ∷ ss) = λ i. form_alike s.form i ∷ lines_apart ss i

pub outlines_alike : (ss rs : List Statement)
    → map statement_lineless ss ≡ map statement_lineless rs → outlines_of ss ≡ outlines_of rs
outlines_alike ss rs e = sym (lines_apart ss) ∙ ap outlines_of e ∙ lines_apart rs
