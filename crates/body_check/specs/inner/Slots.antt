-- The slots of statements, and what is in sight after them; or the first fault.
use Rattle.std.specs.Prelude.{ℕ, Bool, Option, List, [], ◌∷◌, ◌++◌, Ok, length, slice_get}
use Rattle.flume_types.specs.declared.types.Ty.{Ty, out-Ty}
use Rattle.flume_grammar.specs.declared.tree.Expr.{Expr}
use Rattle.flume_grammar.specs.declared.tree.Body.{Body, Body-F, fold-Body}
use Rattle.flume_grammar.specs.declared.fault.ScriptKind.TheVariants.{BadNumber, Mistyped}
use Rattle.dofn_eval.specs.declared.expr.Expr.{Expr as Slots}
use Rattle.dofn_eval.specs.declared.stmt.Stmt.{Stmt}
use Rattle.dofn_eval.specs.declared.stmt.Stmt.TheVariants as stmt
use Rattle.expression_check.specs.of_written_types.Answer.{Checked, ◌>>=◌, unless, or_fault}
use Rattle.expression_check.specs.of_written_types.Named.{fresh}
use Rattle.expression_check.specs.of_expression_types.Sight.{Sight, with_name}
use Rattle.expression_check.specs.of_expression_types.Fields.{member_type, side_types}
use Rattle.expression_check.specs.of_expression_types.Types.{is_same, is_bool}
use Rattle.expression_check.specs.Slots.{SlotsAndType, slots_of}
use Rattle.body_check.specs.Outputs.{output_written}

-- a statement, and what is in sight behind it
abbrev pub Placed : Type 0
Placed = Stmt × Sight

-- those of a block, behind those so far
abbrev pub block_slots : {X : Type 0} → (X → Sight → Checked Placed) → List X → Sight →
    List Stmt → Checked (List Stmt × Sight)
block_slots f [] s slots = Ok (slots, s)
block_slots f (statement ∷ rest) s slots = do
  x ← f statement s
  block_slots f rest x.1 (slots ++ x.0 ∷ [])

-- those of a block by itself, where this is in sight
abbrev pub InBlock : Type 0
InBlock = Sight → Checked (List Stmt)

abbrev pub slots_in : {X : Type 0} → (X → Sight → Checked Placed) → List X → InBlock
slots_in f statements s = do
  all ← block_slots f statements s []
  Ok (all.0)

-- each fault is told on this line
module _ (line : ℕ) where
  -- the slots of an expression whose type passes
  abbrev pub slots_as : (Ty → Bool) → Expr → Sight → Checked Slots
  slots_as test e s = do
    x ← slots_of line e s
    passes ← unless line Mistyped (test x.1)
    Ok (x.0)

  -- what a name that is not in sight yet is to stand for
  abbrev pub new_value : List ℕ → Expr → Sight → Checked SlotsAndType
  new_value name e s = do
    new ← fresh line name s.names
    slots_of line e s

  abbrev pub let_slots : List ℕ → Expr → Sight → Checked Placed
  let_slots name e s = do
    x ← new_value name e s
    Ok (stmt.Let x.0, with_name name x.1 s)

  abbrev pub emit_slots : List Ty → Option (List ℕ) → Expr → Sight → Checked Placed
  emit_slots gives to e s = do
    output ← or_fault line BadNumber (output_written (length gives) to)
    wanted ← or_fault line BadNumber (slice_get gives output)
    slots ← slots_as (λ t. is_same t wanted) e s
    Ok (stmt.Emit output slots, s)

  abbrev pub if_slots : Expr → InBlock → InBlock → Sight → Checked Placed
  if_slots e a b s = do
    test ← slots_as (λ t. is_bool (out-Ty t)) e s
    on_true ← a s
    on_false ← b s
    Ok (stmt.If test on_true on_false, s)

  abbrev pub for_slots : List ℕ → Expr → InBlock → Sight → Checked Placed
  for_slots name e body s = do
    x ← new_value name e s
    member ← or_fault line Mistyped (member_type x.1)
    turn ← body (with_name name member s)
    Ok (stmt.For x.0 turn, s)

  -- the block of a side, whose content a name that is not in sight yet stands for
  abbrev pub side_slots : List ℕ → Ty → InBlock → InBlock
  side_slots name type body s = do
    new ← fresh line name s.names
    body (with_name name type s)

  -- the blocks of both sides
  abbrev pub both_slots : Ty × Ty → List ℕ → InBlock → List ℕ → InBlock → Sight →
      Checked (List Stmt × List Stmt)
  both_slots sides left a right b s = do
    on_left ← side_slots left sides.0 a s
    on_right ← side_slots right sides.1 b s
    Ok (on_left, on_right)

  abbrev pub case_slots : Expr → List ℕ → InBlock → List ℕ → InBlock → Sight → Checked Placed
  case_slots e left a right b s = do
    x ← slots_of line e s
    sides ← or_fault line Mistyped (side_types x.1)
    both ← both_slots sides left a right b s
    Ok (stmt.Case x.0 both.0 both.1, s)

-- what the function emits to each output has its type, of these
module _ (gives : List Ty) where
  abbrev pub layer_placed : {X : Type 0} → (X → Sight → Checked Placed) →
      Body-F X → Sight → Checked Placed
  layer_placed f (Body-F.Let line name e) s = let_slots line name e s
  layer_placed f (Body-F.Emit line to e) s = emit_slots line gives to e s
  layer_placed f (Body-F.If line e a b) s = if_slots line e (slots_in f a) (slots_in f b) s
  layer_placed f (Body-F.For line name e body) s = for_slots line name e (slots_in f body) s
  layer_placed f (Body-F.Case line e left a right b) s =
      case_slots line e left (slots_in f a) right (slots_in f b) s

  abbrev pub placed_of : Body → Sight → Checked Placed
  placed_of = fold-Body (Sight → Checked Placed) (layer_placed (λ m. m))
