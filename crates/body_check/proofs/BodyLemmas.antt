-- The slots of a body are well typed, and emit what it emits.
use Rattle.std.proofs.Common.{◌≡◌, ℕ, true, Option, Some, None, Ok, List, [], ◌∷◌, map, slice_get}
use Rattle.std.proofs.Common.{length, refl, sym, ◌∙◌, subst, append-nil}
use Rattle.flume_types.specs.declared.types.Ty.{Ty, out-Ty}
use Rattle.flume_types.specs.declared.types.Ty.TheVariants as ty
use Rattle.flume_types.proofs.SameLemmas.{tells_apart}
use Rattle.flume_grammar.specs.declared.fault.ScriptKind.TheVariants.{BadNumber, Mistyped}
use Rattle.flume_grammar.specs.declared.tree.Expr.{Expr}
use Rattle.flume_grammar.specs.declared.tree.Body.{Body, Body-F, out-Body, roll-Body, out-roll-Body}
use Rattle.flume_grammar.specs.declared.tree.Body.{map-Body, ind-Body}
use Rattle.dofn_eval.specs.declared.stmt.Stmt.{Stmt}
use Rattle.dofn_eval.specs.declared.stmt.Stmt.TheVariants as stmt
use Rattle.dofn_eval.specs.Outcome.{Gives, then}
use Rattle.dofn_eval.specs.Typed as typing
use Rattle.dofn_eval.specs.Typed.{BlockTyped}
use Rattle.expression_check.specs.of_written_types.Answer.{Checked, ◌>>=◌, unless, or_fault}
use Rattle.expression_check.specs.of_written_types.Named.{Named, fresh}
use Rattle.expression_check.specs.of_expression_types.Sight.{Sight}
use Rattle.expression_check.specs.of_expression_types.Types.{is_same, is_bool}
use Rattle.expression_check.specs.Types.{type_of}
use Rattle.expression_check.specs.Given.{given_in}
use Rattle.expression_check.specs.Slots.{slots_of}
use Rattle.expression_check.specs.Right.{IsRight}
use Rattle.expression_check.proofs.of_expression_types.TypeLemmas.{bool_is}
use Rattle.expression_check.proofs.RightLemmas.{right}
use Rattle.body_check.specs.Bodies.{after_all, layer_after, sight_after}
use Rattle.body_check.specs.Outputs.{output_written}
use Rattle.body_check.specs.Call.{run_all, block, emitted_behind, after, layer_emitted, emitted_in}
use Rattle.body_check.specs.inner.Slots.{Placed, slots_as, block_slots, slots_in as block_of}
use Rattle.body_check.specs.inner.Slots.{layer_placed, placed_of}
use Rattle.body_check.proofs.FormLemmas.{emitted_in-step, after-step}
use Rattle.body_check.proofs.PlacedLemmas.{placed_at}
use Rattle.body_check.proofs.BlockLemmas.{Doing, IsPlaced, ArePlaced, IsBlock, next_of, as_block}
use Rattle.body_check.proofs.StatementLemmas.{assoc, renamed, as_right, let_by, emit_by, if_by}
use Rattle.body_check.proofs.StatementLemmas.{for_by, case_by}

-- ---- every body

module _ (known : Named Ty) (gives : List Ty) where
  right_in : (line : ℕ) (e : Expr) (s : Sight) → s.known ≡ known
      → IsRight s.names (slots_of line e s) (type_of line e s) (given_in line known e)
  right_in line e s is =
      subst (λ k. IsRight s.names (slots_of line e s) (type_of line e s) (given_in line k e)) is
      (right line e s)

  abbrev RightBody : Body → Type 0
  RightBody b =
      (s : Sight) → s.known ≡ known
      → IsPlaced gives s (placed_of gives b s) (sight_after gives b s) (emitted_in known b)

  abbrev plain : (b : Body) × RightBody b → Body
  plain p = p.0

  nothing : (s : Sight) (ks : List Stmt) → ArePlaced gives s ks (Ok (ks, s)) (Ok s) (λ st. Gives st)
  nothing s ks = ([], sym (append-nil ks), refl, typing.done, λ vs out. refl)

  statements : (bs : List ((b : Body) × RightBody b)) (s : Sight) (ks : List Stmt)
      → s.known ≡ known
      → ArePlaced gives s ks (block_slots (placed_of gives) (map plain bs) s ks)
      (after_all (sight_after gives) (map plain bs) s) (run_all (emitted_in known) (map plain bs))
  statements [] s ks is = nothing s ks
  statements (p ∷ bs) s ks is =
      next_of gives s ks (placed_of gives p.0 s) (sight_after gives p.0 s) (emitted_in known p.0)
      (λ t made. block_slots (placed_of gives) (map plain bs) t made)
      (λ t. after_all (sight_after gives) (map plain bs) t)
      (run_all (emitted_in known) (map plain bs)) (p.1 s is)
      (λ t made same. statements bs t made (same ∙ is))

  in_block : (bs : List ((b : Body) × RightBody b)) (s : Sight) → s.known ≡ known
      → IsBlock gives s (block_of (placed_of gives) (map plain bs) s)
      (after_all (sight_after gives) (map plain bs) s) (block (emitted_in known) (map plain bs))
  in_block bs s is =
      as_block gives s _ _ (run_all (emitted_in known) (map plain bs)) (statements bs s [] is)

  same_of : (t u : Ty) → is_same t u ≡ true → t ≡ u
  same_of t u e = tells_apart t u e

  emit_at : (line : ℕ) (to : Option (List ℕ)) (e : Expr) (s : Sight) → s.known ≡ known
      → (n : ℕ) → output_written (length gives) to ≡ Some n → (o : Option Ty)
      → slice_get gives n ≡ o
      → IsPlaced gives s
      (or_fault line BadNumber o >>= λ wanted. slots_as line (λ t. is_same t wanted) e s
      >>= λ slots. Ok (stmt.Emit n slots, s))
      (or_fault line BadNumber o >>= λ wanted. type_of line e s
      >>= λ t. unless line Mistyped (is_same t wanted) >>= λ same. Ok s)
      (λ st. after st.env (then (given_in line known e st.env) (λ x. emitted_behind to x.1 st.out)))
  emit_at line to e s is n number None at = refl
  emit_at line to e s is n number (Some wanted) at =
      renamed gives s _ _ _ _
      (assoc (type_of line e s) (λ t. unless line Mistyped (is_same t wanted)) (λ same. Ok s))
      (emit_by line gives s to n number wanted at (λ t. is_same t wanted)
      (λ t. same_of t wanted) _ _
      (given_in line known e)
      (as_right line (λ t. is_same t wanted) wanted (λ t. same_of t wanted) s.names _ _
      (given_in line known e) (right_in line e s is)))

  emit_form : (line : ℕ) (to : Option (List ℕ)) (e : Expr) (s : Sight) → s.known ≡ known
      → (p : Option ℕ) → output_written (length gives) to ≡ p
      → IsPlaced gives s
      (or_fault line BadNumber p >>= λ n. or_fault line BadNumber (slice_get gives n)
      >>= λ wanted. slots_as line (λ t. is_same t wanted) e s
      >>= λ slots. Ok (stmt.Emit n slots, s))
      (or_fault line BadNumber p >>= λ n. or_fault line BadNumber (slice_get gives n)
      >>= λ wanted. type_of line e s
      >>= λ t. unless line Mistyped (is_same t wanted) >>= λ same. Ok s)
      (λ st. after st.env (then (given_in line known e st.env) (λ x. emitted_behind to x.1 st.out)))
  emit_form line to e s is None number = refl
  emit_form line to e s is (Some n) number =
      emit_at line to e s is n number (slice_get gives n) refl

  by_form : (y : Body-F ((b : Body) × RightBody b)) (s : Sight) → s.known ≡ known
      → IsPlaced gives s
      (layer_placed gives (placed_of gives) (map-Body ((b : Body) × RightBody b) Body plain y) s)
      (layer_after gives (sight_after gives) (map-Body ((b : Body) × RightBody b) Body plain y) s)
      (layer_emitted known (emitted_in known) (map-Body ((b : Body) × RightBody b) Body plain y))
  by_form (Body-F.Let line name e) s is =
      let_by line gives s name (fresh line name s.names) _ _ (given_in line known e)
      (right_in line e s is)
  by_form (Body-F.Emit line to e) s is =
      emit_form line to e s is (output_written (length gives) to) refl
  by_form (Body-F.If line e a b) s is =
      renamed gives s _ _ _ _
      (assoc (type_of line e s) (λ t. unless line Mistyped (is_bool (out-Ty t)))
      (λ test. after_all (sight_after gives) (map plain a) s >>= λ x.
      after_all (sight_after gives) (map plain b) s >>= λ y. Ok s))
      (if_by line gives s (λ t. is_bool (out-Ty t)) bool_is _ _ (given_in line known e) _ _ _ _
      (block (emitted_in known) (map plain a)) (block (emitted_in known) (map plain b))
      (as_right line (λ t. is_bool (out-Ty t)) ty.Bool bool_is s.names _ _ (given_in line known e)
      (right_in line e s is)) (in_block a s is) (in_block b s is))
  by_form (Body-F.For line name e inner) s is =
      for_by line gives s name (fresh line name s.names) _ _ (given_in line known e)
      (block (emitted_in known) (map plain inner)) (block_of (placed_of gives) (map plain inner))
      (after_all (sight_after gives) (map plain inner)) (right_in line e s is)
      (λ t same. in_block inner t (same ∙ is))
  by_form (Body-F.Case line e left a right_ b) s is =
      case_by line gives s left right_ (block (emitted_in known) (map plain a))
      (block (emitted_in known) (map plain b)) (fresh line left s.names)
      (fresh line right_ s.names) (block_of (placed_of gives) (map plain a))
      (block_of (placed_of gives) (map plain b)) (after_all (sight_after gives) (map plain a))
      (after_all (sight_after gives) (map plain b)) _ _ (given_in line known e)
      (λ t same. in_block a t (same ∙ is)) (λ t same. in_block b t (same ∙ is))
      (right_in line e s is)

  abbrev AtForm : Sight → Body-F Body → Type 0
  AtForm s z =
      IsPlaced gives s (layer_placed gives (placed_of gives) z s)
      (layer_after gives (sight_after gives) z s) (layer_emitted known (emitted_in known) z)

  abbrev AsFound : Sight → Checked Placed × Checked Sight × Doing → Type 0
  AsFound s q = IsPlaced gives s q.0 q.1 q.2

  from_form : (b : Body) (s : Sight) → AtForm s (out-Body b)
      → IsPlaced gives s (placed_of gives b s) (sight_after gives b s) (emitted_in known b)
  from_form b s h =
      subst (AsFound s)
      (λ i. (
        sym (placed_at gives b (out-Body b) s refl) i,
        sym (after-step gives b s) i,
        λ st. sym (emitted_in-step known b st) i,
      )) h

  right_body : (b : Body) → RightBody b
  right_body =
      ind-Body RightBody
      (λ x y same s is. from_form (roll-Body x) s
      (subst (AtForm s) (same ∙ sym (out-roll-Body x)) (by_form y s is)))

  in_order : (bs : List Body) (s : Sight) (ks : List Stmt) → s.known ≡ known
      → ArePlaced gives s ks (block_slots (placed_of gives) bs s ks)
      (after_all (sight_after gives) bs s) (run_all (emitted_in known) bs)
  in_order [] s ks is = nothing s ks
  in_order (b ∷ bs) s ks is =
      next_of gives s ks (placed_of gives b s) (sight_after gives b s) (emitted_in known b)
      (λ t made. block_slots (placed_of gives) bs t made) (λ t. after_all (sight_after gives) bs t)
      (run_all (emitted_in known) bs) (right_body b s is)
      (λ t made same. in_order bs t made (same ∙ is))

  pub right_block : (bs : List Body) (s : Sight) → s.known ≡ known
      → IsBlock gives s (block_of (placed_of gives) bs s) (after_all (sight_after gives) bs s)
      (block (emitted_in known) bs)
  right_block bs s is = as_block gives s _ _ (run_all (emitted_in known) bs) (in_order bs s [] is)
