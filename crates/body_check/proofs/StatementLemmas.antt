-- The slots of each form of statement are right where those of its parts are.
use Rattle.std.proofs.Common.{◌≡◌, ℕ, Bool, true, false, Option, Some, None, Ok, Err, List, ◌∷◌}
use Rattle.std.proofs.Common.{refl, sym, ap, ◌∙◌, subst, length, slice_get}
use Rattle.flume_value.specs.declared.value.Value.{Value}
use Rattle.flume_types.specs.declared.types.Ty.{Ty}
use Rattle.flume_types.specs.declared.types.Ty.TheVariants as ty
use Rattle.flume_grammar.specs.declared.fault.ScriptKind.TheVariants.{Mistyped}
use Rattle.flume_grammar.specs.declared.fault.ScriptFault.{ScriptFault}
use Rattle.dofn_eval.specs.declared.expr.Expr.{Expr as Slots}
use Rattle.dofn_eval.specs.declared.stmt.Stmt.{Stmt}
use Rattle.dofn_eval.specs.declared.stmt.Stmt.TheVariants as stmt
use Rattle.dofn_eval.specs.Outcome.{Gives, then}
use Rattle.dofn_eval.specs.Operations.{chosen}
use Rattle.dofn_eval.specs.Meaning.{expression_value}
use Rattle.dofn_eval.specs.Run as slots
use Rattle.dofn_eval.specs.Typed as typing
use Rattle.dofn_eval.specs.Typed.{BlockTyped}
use Rattle.dofn_eval.proofs.MeaningLemmas.{run_one-Let, run_one-Emit, run_one-If, run_one-For}
use Rattle.dofn_eval.proofs.MeaningLemmas.{run_one-Case, then_same}
use Rattle.expression_check.specs.of_written_types.Answer.{Checked, ◌>>=◌, unless, or_fault}
use Rattle.expression_check.specs.of_expression_types.Sight.{Newest, Sight, with_name}
use Rattle.expression_check.specs.of_expression_types.Fields.{member_type, side_types}
use Rattle.expression_check.specs.Given.{tagged, valued}
use Rattle.expression_check.specs.Slots.{SlotsAndType}
use Rattle.expression_check.specs.Right.{types, bound, IsRight}
use Rattle.expression_check.proofs.of_expression_types.TypeLemmas.{list_type_is, either_type_is}
use Rattle.body_check.specs.Outputs.{output_written}
use Rattle.body_check.specs.Call.{state, Emits, for_each, by_side, emitted_behind, after}
use Rattle.body_check.specs.inner.Slots.{Placed, InBlock}
use Rattle.body_check.proofs.GoesLemmas.{named, after_named, let_goes, emit_goes, valued_tagged}
use Rattle.body_check.proofs.GoesLemmas.{for_goes, case_goes}
use Rattle.body_check.proofs.OutputLemmas.{emitted_as}
use Rattle.body_check.proofs.BlockLemmas.{Giving, Doing, IsPlaced, IsBlock, IsInside}

-- ---- each form of statement

pub assoc : {A B C : Type 0} (o : Checked A) (f : A → Checked B) (g : B → Checked C)
    → (o >>= λ a. f a >>= λ b. g b) ≡ ((o >>= λ a. f a) >>= λ b. g b)
assoc (Err e) f g = refl
assoc (Ok a) f g = refl

pub renamed : (gives : List Ty) (s : Sight) (o : Checked Placed) (next other : Checked Sight)
    (does : Doing)
    → next ≡ other → IsPlaced gives s o other does → IsPlaced gives s o next does
renamed gives s (Err f) next other does e h = e ∙ h
renamed gives s (Ok x) next other does e h = (e ∙ h.0, h.1, h.2, h.3)

abbrev paired : Checked (List Stmt) → Checked (List Stmt) → Checked (List Stmt × List Stmt)
paired o p = o >>= λ y. p >>= λ z. Ok (y, z)

-- slots of an expression whose type passes
module _ (line : ℕ) (test : Ty → Bool) (wanted : Ty) (is : (t : Ty) → test t ≡ true → t
    ≡ wanted) (names : Newest Ty) where
  abbrev pub tested : Checked Ty → Checked (Unit {0})
  tested type = type >>= λ t. unless line Mistyped (test t)

  abbrev pub IsAs : Checked Slots → Checked Ty → Giving → Type 0
  IsAs (Err f) type given = tested type ≡ Err f
  IsAs (Ok k) type given =
      (tested type ≡ Ok tt) × typing.Typed (types names) k wanted
      × ((vs : List Value) → given (bound names vs) ≡ tagged wanted (expression_value k vs))

  as_test : (b : Bool) (x : SlotsAndType) (type : Checked Ty) (given : Giving) → test x.1 ≡ b
      → IsRight names (Ok x) type given
      → IsAs (unless line Mistyped b >>= λ passes. Ok x.0) type given
  as_test true x type given e h =
      let same = is x.1 e in (
        ap tested h.0 ∙ ap (unless line Mistyped) e,
        subst (typing.Typed (types names) x.0) same h.1,
        λ vs. h.2 vs ∙ ap (λ t. tagged t (expression_value x.0 vs)) same,
      )
  as_test false x type given e h = ap tested h.0 ∙ ap (unless line Mistyped) e

  pub as_right : (o : Checked SlotsAndType) (type : Checked Ty) (given : Giving)
      → IsRight names o type given
      → IsAs (o >>= λ x. unless line Mistyped (test x.1) >>= λ passes. Ok x.0) type given
  as_right (Err f) type given h = ap tested h
  as_right (Ok x) type given h = as_test (test x.1) x type given refl h

module _ (line : ℕ) (gives : List Ty) (s : Sight) where
  pub let_by : (name : List ℕ) (u : Checked (Unit {0})) (o : Checked SlotsAndType)
      (type : Checked Ty)
      (given : Giving) → IsRight s.names o type given
      → IsPlaced gives s ((u >>= λ new. o) >>= λ x. Ok (stmt.Let x.0, with_name name x.1 s))
      (u >>= λ new. type >>= λ t. Ok (with_name name t s))
      (λ st. then (given st.env) (λ x. Gives (state ((name, x) ∷ st.env) st.out)))
  let_by name (Err f) o type given h = refl
  let_by name (Ok n) (Err f) type given h = ap (λ o. o >>= λ t. Ok (with_name name t s)) h
  let_by name (Ok n) (Ok x) type given h = (
    ap (λ o. o >>= λ t. Ok (with_name name t s)) h.0,
    refl,
    λ rest td. typing.lets h.1 td,
    λ vs out. ap (λ o. then o (λ y. Gives (state ((name, y) ∷ bound s.names vs) out))) (h.2 vs)
        ∙ let_goes name s.names x.1 vs out (expression_value x.0 vs)
        ∙ ap (named ((name, x.1) ∷ s.names)) (sym (run_one-Let x.0 (slots.state vs out))),
  )

  pub emit_by : (to : Option (List ℕ)) (n : ℕ) → output_written (length gives) to ≡ Some n
      → (wanted : Ty) → slice_get gives n ≡ Some wanted → (test : Ty → Bool)
      (is : (t : Ty) → test t ≡ true → t ≡ wanted) (o : Checked Slots) (type : Checked Ty)
      (given : Giving) → IsAs line test wanted is s.names o type given
      → IsPlaced gives s (o >>= λ k. Ok (stmt.Emit n k, s))
      (tested line test wanted is s.names type >>= λ same. Ok s)
      (λ st. after st.env (then (given st.env) (λ x. emitted_behind to x.1 st.out)))
  emit_by to n number wanted at test is (Err f) type given h = ap (λ o. o >>= λ same. Ok s) h
  emit_by to n number wanted at test is (Ok k) type given h = (
    ap (λ o. o >>= λ same. Ok s) h.0,
    refl,
    λ rest td. typing.emits n at h.1 td,
    λ vs out. ap (λ o. after (bound s.names vs) (then o (λ x. emitted_behind to x.1 out))) (h.2 vs)
        ∙ ap (after (bound s.names vs)) (then_same (tagged wanted (expression_value k vs)) _ _
        (λ x. emitted_as x.1 out (length gives) to n number))
        ∙ emit_goes s.names wanted vs out n (expression_value k vs)
        ∙ ap (named s.names) (sym (run_one-Emit n k (slots.state vs out))),
  )

  pub if_by : (test : Ty → Bool) (is : (t : Ty) → test t ≡ true → t ≡ ty.Bool) (o : Checked Slots)
      (type : Checked Ty) (given : Giving) (a b : Checked (List Stmt)) (m n : Checked Sight)
      (f g : Emits) → IsAs line test ty.Bool is s.names o type given → IsBlock gives s a m f
      → IsBlock gives s b n g
      → IsPlaced gives s (o >>= λ c. a >>= λ x. b >>= λ y. Ok (stmt.If c x y, s))
      (tested line test ty.Bool is s.names type >>= λ c. m >>= λ x. n >>= λ y. Ok s)
      (λ st. after st.env (chosen (valued (given st.env)) (f st.env st.out) (g st.env st.out)))
  if_by test is (Err e) type given a b m n f g h p q = ap
      (λ o. o >>= λ c. m >>= λ x. n >>= λ y. Ok s) h
  if_by test is (Ok k) type given (Err e) b m n f g h p q =
      λ i. h.0 i >>= λ c. p i >>= λ x. n >>= λ y. Ok s
  if_by test is (Ok k) type given (Ok x) (Err e) m n f g h p q =
      λ i. h.0 i >>= λ c. p.0.1 i >>= λ x. q i >>= λ y. Ok s
  if_by test is (Ok k) type given (Ok x) (Ok y) m n f g h p q = (
    (λ i. h.0 i >>= λ c. p.0.1 i >>= λ x. q.0.1 i >>= λ y. Ok s),
    refl,
    λ rest td. typing.chooses h.1 p.1 q.1 td,
    λ vs out.
        (λ i. after (bound s.names vs) (chosen (valued (h.2 vs i)) (p.2 vs out i) (q.2 vs out i)))
        ∙ ap (λ o. after (bound s.names vs) (chosen o (slots.run_statements x vs out)
        (slots.run_statements y vs out)))
        (valued_tagged ty.Bool (expression_value k vs))
        ∙ after_named s.names vs (chosen (expression_value k vs) (slots.run_statements x vs out)
        (slots.run_statements y vs out))
        ∙ ap (named s.names) (sym (run_one-If k x y (slots.state vs out))),
  )

  -- ---- a statement whose expression has slots

  module _ (x : SlotsAndType) (type : Checked Ty) (given : Giving) (h : IsRight s.names
      (Ok x) type given) where
    for_block : (name : List ℕ) (m : Ty) (f : Emits) (found : Checked (List Stmt))
        (next : Checked Sight) → member_type x.1 ≡ Some m
        → IsBlock gives (with_name name m s) found next f
        → IsPlaced gives s (found >>= λ turn. Ok (stmt.For x.0 turn, s)) (next >>= λ inner. Ok s)
        (λ st. after st.env (then (given st.env) (λ y. for_each f name y st.env st.out)))
    for_block name m f (Err e) next is b = ap (λ o. o >>= λ inner. Ok s) b
    for_block name m f (Ok ks) next is b = (
      ap (λ o. o >>= λ inner. Ok s) b.0.1,
      refl,
      λ rest td. typing.loops (subst (typing.Typed (types s.names) x.0)
          (list_type_is x.1 m is) h.1) b.1 td,
      λ vs out.
          ap (λ o. after (bound s.names vs) (then o (λ y. for_each f name y
          (bound s.names vs) out))) (h.2 vs)
          ∙ ap (after (bound s.names vs))
          (for_goes f (slots.run_statements ks) name m s.names vs (λ v more. b.2 (v ∷ vs) more) x.1
          out is
          (expression_value x.0 vs))
          ∙ after_named s.names vs (slots.for_each (slots.run_statements ks)
          (expression_value x.0 vs) vs out)
          ∙ ap (named s.names) (sym (run_one-For x.0 ks (slots.state vs out))),
    )

    for_member : (name : List ℕ) (f : Emits) (found : InBlock) (next : Sight → Checked Sight)
        → IsInside gives s found next f → (o : Option Ty) → member_type x.1 ≡ o
        → IsPlaced gives s
        (or_fault line Mistyped o >>= λ m. found (with_name name m s) >>= λ turn. Ok
        (stmt.For x.0 turn, s))
        (or_fault line Mistyped o >>= λ m. next (with_name name m s) >>= λ inner. Ok s)
        (λ st. after st.env (then (given st.env) (λ y. for_each f name y st.env st.out)))
    for_member name f found next b None is = refl
    for_member name f found next b (Some m) is =
        for_block name m f (found (with_name name m s)) (next (with_name name m s)) is
        (b (with_name name m s) refl)

    case_blocks : (left right_ : List ℕ) (sides : Ty × Ty) (f g : Emits) (u w : Checked (Unit {0}))
        (a b : Checked (List Stmt)) (m n : Checked Sight) → side_types x.1 ≡ Some sides
        → IsBlock gives (with_name left sides.0 s) a m f
        → IsBlock gives (with_name right_ sides.1 s) b n g
        → IsPlaced gives s
        (paired (u >>= λ new. a) (w >>= λ also. b) >>= λ both. Ok (stmt.Case x.0 both.0 both.1, s))
        (u >>= λ new. m >>= λ y. w >>= λ also. n >>= λ z. Ok s)
        (λ st. after st.env (then (given st.env) (λ y. by_side f left g right_ y st.env st.out)))
    case_blocks left right_ sides f g (Err e) w a b m n is p q = refl
    case_blocks left right_ sides f g (Ok t) w (Err e) b m n is p q =
        ap (λ o. o >>= λ y. w >>= λ also. n >>= λ z. Ok s) p
    case_blocks left right_ sides f g (Ok t) (Err e) (Ok y) b m n is p q =
        ap (λ (o : Checked Sight). o >>= λ y. refused e >>= λ also. n >>= λ z. Ok s) p.0.1
      where
        refused : ScriptFault → Checked (Unit {0})
        refused e = Err e
    case_blocks left right_ sides f g (Ok t) (Ok t') (Ok y) (Err e) m n is p q =
        λ i. p.0.1 i >>= λ y. q i >>= λ z. Ok s
    case_blocks left right_ sides f g (Ok t) (Ok t') (Ok y) (Ok z) m n is p q = (
      (λ i. p.0.1 i >>= λ y. q.0.1 i >>= λ z. Ok s),
      refl,
      λ rest td. typing.divides
          (subst (typing.Typed (types s.names) x.0) (either_type_is x.1 sides is) h.1) p.1 q.1 td,
      λ vs out.
          ap (λ o. after (bound s.names vs) (then o (λ y. by_side f left g right_ y
          (bound s.names vs) out)))
          (h.2 vs)
          ∙ ap (after (bound s.names vs))
          (case_goes f g (slots.run_statements y) (slots.run_statements z) left right_ sides s.names
          vs out
          (λ v. p.2 (v ∷ vs) out) (λ v. q.2 (v ∷ vs) out) x.1 is (expression_value x.0 vs))
          ∙ after_named s.names vs (slots.by_side (slots.run_statements y) (slots.run_statements z)
          (expression_value x.0 vs) vs out)
          ∙ ap (named s.names) (sym (run_one-Case x.0 y z (slots.state vs out))),
    )

    case_sides : (left right_ : List ℕ) (f g : Emits) (u w : Checked (Unit {0})) (a b : InBlock)
        (m n : Sight → Checked Sight) → IsInside gives s a m f → IsInside gives s b n g
        → (o : Option (Ty × Ty)) → side_types x.1 ≡ o
        → IsPlaced gives s
        (or_fault line Mistyped o >>= λ sides. paired (u >>= λ new. a (with_name left sides.0 s))
        (w >>= λ also. b (with_name right_ sides.1 s)) >>= λ both.
        Ok (stmt.Case x.0 both.0 both.1, s))
        (or_fault line Mistyped o >>= λ sides. u >>= λ new. m (with_name left sides.0 s) >>= λ y.
        w >>= λ also. n (with_name right_ sides.1 s) >>= λ z. Ok s)
        (λ st. after st.env (then (given st.env) (λ y. by_side f left g right_ y st.env st.out)))
    case_sides left right_ f g u w a b m n p q None is = refl
    case_sides left right_ f g u w a b m n p q (Some sides) is =
        case_blocks left right_ sides f g u w (a (with_name left sides.0 s))
        (b (with_name right_ sides.1 s)) (m (with_name left sides.0 s))
        (n (with_name right_ sides.1 s)) is (p (with_name left sides.0 s) refl)
        (q (with_name right_ sides.1 s) refl)

  pub for_by : (name : List ℕ) (u : Checked (Unit {0})) (o : Checked SlotsAndType)
      (type : Checked Ty)
      (given : Giving) (f : Emits) (found : InBlock) (next : Sight → Checked Sight)
      → IsRight s.names o type given → IsInside gives s found next f
      → IsPlaced gives s
      ((u >>= λ new. o) >>= λ x. or_fault line Mistyped (member_type x.1) >>= λ m.
      found (with_name name m s) >>= λ turn. Ok (stmt.For x.0 turn, s))
      (u >>= λ new. type >>= λ t. or_fault line Mistyped (member_type t) >>= λ m.
      next (with_name name m s) >>= λ inner. Ok s)
      (λ st. after st.env (then (given st.env) (λ y. for_each f name y st.env st.out)))
  for_by name (Err e) o type given f found next h b = refl
  for_by name (Ok n) (Err e) type given f found next h b =
      ap (λ o. o >>= λ t. or_fault line Mistyped (member_type t) >>= λ m.
      next (with_name name m s) >>= λ inner. Ok s) h
  for_by name (Ok n) (Ok x) type given f found next h b =
      renamed gives s _ _ _ _
      (ap (λ o. o >>= λ t. or_fault line Mistyped (member_type t) >>= λ m.
      next (with_name name m s) >>= λ inner. Ok s) h.0)
      (for_member x type given h name f found next b (member_type x.1) refl)

  pub case_by : (left right_ : List ℕ) (f g : Emits) (u w : Checked (Unit {0})) (a b : InBlock)
      (m n : Sight → Checked Sight) (o : Checked SlotsAndType) (type : Checked Ty) (given : Giving)
      → IsInside gives s a m f → IsInside gives s b n g → IsRight s.names o type given
      → IsPlaced gives s
      (o >>= λ x. or_fault line Mistyped (side_types x.1) >>= λ sides.
      paired (u >>= λ new. a (with_name left sides.0 s))
      (w >>= λ also. b (with_name right_ sides.1 s)) >>= λ both.
      Ok (stmt.Case x.0 both.0 both.1, s))
      (type >>= λ t. or_fault line Mistyped (side_types t) >>= λ sides. u >>= λ new.
      m (with_name left sides.0 s) >>= λ y. w >>= λ also.
      n (with_name right_ sides.1 s) >>= λ z. Ok s)
      (λ st. after st.env (then (given st.env) (λ y. by_side f left g right_ y st.env st.out)))
  case_by left right_ f g u w a b m n (Err e) type given p q h =
      ap (λ o. o >>= λ t. or_fault line Mistyped (side_types t) >>= λ sides. u >>= λ new.
      m (with_name left sides.0 s) >>= λ y. w >>= λ also.
      n (with_name right_ sides.1 s) >>= λ z. Ok s) h
  case_by left right_ f g u w a b m n (Ok x) type given p q h =
      renamed gives s _ _ _ _
      (ap (λ o. o >>= λ t. or_fault line Mistyped (side_types t) >>= λ sides. u >>= λ new.
      m (with_name left sides.0 s) >>= λ y. w >>= λ also.
      n (with_name right_ sides.1 s) >>= λ z. Ok s) h.0)
      (case_sides x type given h left right_ f g u w a b m n p q (side_types x.1) refl)
