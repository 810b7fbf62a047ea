-- Names that stay in sight behind newer ones, a block's next statement, and a `case`'s sides.
use Rattle.std.proofs.Common.{◌≡◌, ℕ, ◌+◌, ◌-◌, ◌<◌, ◌≤◌, List, [], ◌∷◌, ◌++◌, length, drop, get_or}
use Rattle.std.proofs.Common.{Ok, sym, ap, ◌∙◌, arith}
use Rattle.std.proofs.lemmas.List.{drop_more, drop-drop, length-drop}
use Rattle.flume_types.specs.declared.types.Ty.{Ty}
use Rattle.flume_grammar.specs.declared.fault.ScriptKind.TheVariants.{Mistyped}
use Rattle.flume_grammar.specs.declared.tree.Expr.{Expr}
use Rattle.flume_grammar.specs.declared.tree.Body.{Body}
use Rattle.dofn_eval.specs.declared.stmt.Stmt.{Stmt}
use Rattle.dofn_eval.specs.declared.stmt.Stmt.TheVariants as stmt
use Rattle.expression_check.specs.of_written_types.Answer.{◌>>=◌, or_fault}
use Rattle.expression_check.specs.of_expression_types.Sight.{Newest, Sight}
use Rattle.expression_check.specs.of_expression_types.Fields.{side_types}
use Rattle.expression_check.specs.Slots.{SlotsAndType, slots_of}
use Rattle.body_check.specs.inner.Frames.{IsBehind}
use Rattle.body_check.specs.inner.Slots.{Placed, InBlock, block_slots, both_slots, case_slots}
use Rattle.body_check.specs.inner.Slots.{placed_of}

longer : (before names : Newest Ty) → IsBehind before names → length before ≤ length names
longer before names kept =
    omega (arith, length-drop (length names - length before) names, ap length kept)

-- what was in sight before is, once it is behind what is behind the names
pub behind-twice : (a b c : Newest Ty) → IsBehind a b → IsBehind b c → IsBehind a c
behind-twice a b c first second =
    let far : length c - length a ≡ (length c - length b) + (length b - length a) =
    omega (arith, longer a b first, longer b c second) in
    ap (λ n. drop n c) far
    ∙ sym (drop-drop (length b - length a) (length c - length b) c)
    ∙ ap (drop (length b - length a)) second ∙ first

pub next-placed : (gives : List Ty) (statements : List Body) (i : ℕ) (statement : Body) (s : Sight)
    (slots : List Stmt) (x : Placed) → i < length statements
    → statement ≡ get_or statements i statement → placed_of gives statement s ≡ Ok x
    → block_slots (placed_of gives) (drop (i + 1) statements) x.1 (slots ++ x.0 ∷ [])
    ≡ block_slots (placed_of gives) (drop i statements) s slots
next-placed gives statements i statement s slots x in_ is one =
    sym (ap (λ rest. block_slots (placed_of gives) rest s slots)
    (drop_more statements i statement in_ ∙ ap (λ y. y ∷ drop (i + 1) statements) (sym is))
    ∙ ap (λ r. r >>= λ x. block_slots (placed_of gives) (drop (i + 1) statements) x.1
    (slots ++ x.0 ∷ [])) one)

-- ---- a `case` whose sides have types

pub case-goes-on : (line : ℕ) (e : Expr) (left right_ : List ℕ) (a b : InBlock) (s : Sight)
    (x : SlotsAndType) (sides : Ty × Ty) → slots_of line e s ≡ Ok x
    → or_fault line Mistyped (side_types x.1) ≡ Ok sides
    → case_slots line e left a right_ b s
    ≡ (both_slots line sides left a right_ b s >>= λ both. Ok (stmt.Case x.0 both.0 both.1, s))
case-goes-on line e left right_ a b s x sides is has =
    ap (λ r. r >>= λ x. or_fault line Mistyped (side_types x.1) >>= λ sides.
    both_slots line sides left a right_ b s >>= λ both. Ok (stmt.Case x.0 both.0 both.1, s)) is
    ∙ ap (λ r. r >>= λ sides. both_slots line sides left a right_ b s >>= λ both.
    Ok (stmt.Case x.0 both.0 both.1, s)) has
