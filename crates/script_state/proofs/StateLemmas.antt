-- What is in memory, as contracts see it: look-ups, one more, and what stays as types are added.
use Rattle.std.proofs.Common.{◌≡◌, ℕ, ◌≤◌, false, List, ◌∷◌, [], ◌++◌, length, map, take, drop}
use Rattle.std.proofs.Common.{get_or}
use Rattle.std.proofs.Common.{Option, Some, None, is_some, refl, sym, ap, ◌∙◌, subst, arith}
use Rattle.std.specs.List.{All, position, position_or_len}
use Rattle.std.specs.Option.{option_map}
use Rattle.std.specs.Str.{bytes_eq}
use Rattle.std.specs.Map.{keys_of}
use Rattle.std.proofs.lemmas.List.{length_push, take-append-le, map_push, drop-map, take-map}
use Rattle.std.proofs.lemmas.List.Elements.{All-push, All-same, All-nil, All-take, All-drop}
use Rattle.std.proofs.lemmas.Option.{cond_some}
use Rattle.flume_types.specs.declared.types.Ty.{Ty}
use Rattle.type_table.specs.Table.{type_at, Extends}
use Rattle.body_check.specs.of_written_types.Named.{Named, find}
use Rattle.body_check.specs.of_written_types.Known.{Known}
use Rattle.body_check.proofs.of_written_types.NamedLemmas.{mapped, find-mapped, keys-mapped, same-map}
use Rattle.script_program.specs.declared.made.Function.{Function as HeldFunction}
use Rattle.script_program.specs.declared.made.Signature.{Signature as HeldSignature}
use Rattle.script_program.specs.declared.made.Node.{Node as HeldNode}
use Rattle.script_program.specs.Script.{State, name_place}
use Rattle.script_program.specs.inner.Tables.{function_of, node_of, FunctionIn, NodeIn, AreHeld}
use Rattle.script_state.specs.Held.{Checking}
use Rattle.script_state.specs.declared.state.State.TheInside.{Inside}
use Rattle.script_state.specs.inner.States.{checking_of}
use Rattle.script_program.specs.Program.{signature_in, HasTypes, function_in, DoesAsWritten}
use Rattle.body_check.proofs.of_expression_check.KeptLemmas.{types-kept}
use Rattle.body_check.proofs.FrameLemmas.{more-types}

-- ---- look-ups

some-mapped : {A B : Type 0} (f : A → B) (o : Option A) → is_some (option_map f o) ≡ is_some o
some-mapped f None = refl
some-mapped f (Some x) = refl

pub none-is : {A : Type 0} (o : Option A) → is_some o ≡ false → o ≡ None
none-is None e = refl
none-is (Some x) e = cc

-- a name stands for what it stands for in memory
pub has-mapped : {A B : Type 0} (f : A → B) (name : List ℕ) (names : Named A)
    → is_some (find name (map (mapped f) names)) ≡ is_some (find name names)
has-mapped f name names =
    ap is_some (find-mapped f name names) ∙ some-mapped f (find name names)

module _ {A B C : Type 0} (f : A → B) (g : ℕ → B → C) (name : List ℕ) (names : Named A) where
  placed-mapped :
      option_map (g (name_place name (map (mapped f) names))) (find name (map (mapped f) names))
      ≡ option_map (λ x. g (name_place name names) (f x)) (find name names)
  placed-mapped =
      ap (option_map (g (name_place name (map (mapped f) names)))) (find-mapped f name names)
      ∙ ap
      (λ keys. option_map (g (position_or_len (bytes_eq name) keys))
      (option_map f (find name names)))
      (keys-mapped f names)
      ∙ twice (find name names)
    where
      twice : (o : Option A)
          → option_map (g (name_place name names)) (option_map f o)
          ≡ option_map (λ x. g (name_place name names) (f x)) o
      twice None = refl
      twice (Some x) = refl

  pub placed-found : (number : ℕ) (x : A) → Some number ≡ position (bytes_eq name) (keys_of names)
      → Some x ≡ find name names
      → Some (g number (f x))
      ≡ option_map (g (name_place name (map (mapped f) names))) (find name (map (mapped f) names))
  placed-found number x at is =
      let here : name_place name names ≡ number = (cond_some _ _ _ (sym at)).1 in
      sym
      (placed-mapped
      ∙ ap (option_map (λ x. g (name_place name names) (f x))) (sym is)
      ∙ ap (λ n. Some (g n (f x))) here)

  pub placed-none : None ≡ find name names
      → None
      ≡ option_map (g (name_place name (map (mapped f) names))) (find name (map (mapped f) names))
  placed-none is =
      sym (placed-mapped ∙ ap (option_map (λ x. g (name_place name names) (f x))) (sym is))

-- ---- more types, and more names for types

-- each number keeps its type, and the first names stand for what they stood for
pub record Grows (old new : Known) : Type 0 where
  pub types : Extends old.types new.types
  pub longer : length old.names ≤ length new.names
  pub names : (n : ℕ) → n ≤ length old.names → take n new.names ≡ take n old.names

grows-types : (old new : Known) → Extends old.types new.types → new.names ≡ old.names
    → Grows old new
grows-types old new more names = record {
  types = more;
  longer = omega (arith, ap length names);
  names = λ n le. ap (take n) names;
}

pub grows-name : (old new : Known) (entry : List ℕ × Ty) → new.types ≡ old.types
    → new.names ≡ old.names ++ entry ∷ [] → Grows old new
grows-name old new entry types names = record {
  types = record {
    longer = omega (arith, ap length types);
    same = λ id in_. ap (λ types. type_at types id) types;
  };
  longer = omega (arith, ap length names, length_push old.names entry);
  names = λ n le. ap (take n) names ∙ take-append-le n old.names (entry ∷ []) le;
}

pub signature-kept : (old new : List Ty) → Extends old new → (signature : HeldSignature)
    → HasTypes old signature → signature_in new signature ≡ signature_in old signature
signature-kept old new more signature within = λ i. record {
  takes = more.same signature.takes within.0 i;
  gives = types-kept old new more signature.gives within.1 i;
  scale = signature.scale;
}

signature-more : (old new : List Ty) → Extends old new → (signature : HeldSignature)
    → HasTypes old signature → HasTypes new signature
signature-more old new more signature within = (
  omega (arith, within.0, more.longer),
  more-types old new more signature.gives within.1,
)

module _ (old new : Known) (more : Grows old new) (functions : Named HeldFunction)
    (nodes : Named HeldNode) (held : AreHeld old functions nodes) where
  function-kept : (function : HeldFunction) → FunctionIn old function
      → function_in new function ≡ function_in old function
  function-kept function in_ = λ i. record {
    types = more.names function.type_names in_.named i;
    argument = function.argument;
    signature = signature-kept old.types new.types more.types function.signature in_.within i;
    body = function.body;
  }

  pub functions-kept : map (function_of new) functions ≡ map (function_of old) functions
  functions-kept =
      same-map (function_of new) (function_of old)
      (λ (entry : List ℕ × HeldFunction). FunctionIn old entry.1)
      (λ entry in_ i. (entry.0, function-kept entry.1 in_ i)) functions held.0

  pub nodes-kept : map (node_of new.types) nodes ≡ map (node_of old.types) nodes
  nodes-kept =
      same-map (node_of new.types) (node_of old.types)
      (λ (entry : List ℕ × HeldNode). NodeIn old entry.1)
      (λ e in_ i. (
        e.0,
        record {
          made = e.1.made;
          type = more.types.same e.1.ty in_ i;
          statement = e.1.statement;
        },
      )) nodes held.1

  function-more : (function : HeldFunction) → FunctionIn old function → FunctionIn new function
  function-more function in_ = record {
    within = signature-more old.types new.types more.types function.signature in_.within;
    named = omega (arith, in_.named, more.longer);
    does = subst (DoesAsWritten function.fun) (sym (function-kept function in_)) in_.does;
  }

  held-more : AreHeld new functions nodes
  held-more = (
    λ k entry in_. function-more (get_or functions k entry).1 (held.0 k entry in_),
    λ k entry in_. omega (arith, held.1 k entry in_, more.types.longer),
  )

-- ---- the state of what is in memory

abbrev pub told : Inside → Checking
told own =
    checking_of own.known own.functions.entries own.nodes own.names.entries own.outputs.entries
    own.statements

abbrev pub state_in : Inside → State
state_in own = (told own).state

-- what is told of the state in memory is told of the state as contracts see it
pub as-seen : {own seen : Checking} {after : State} (step : Checking → State) → own ≡ seen
    → after ≡ step own → after ≡ step seen
as-seen step is here = here ∙ ap step is

module _ (own : Inside) (new : Known) (more : Extends own.known.types new.types)
    (names : new.names ≡ own.known.names)
    (held : AreHeld own.known own.functions.entries own.nodes) where
  pub held-grown : AreHeld new own.functions.entries own.nodes
  held-grown =
      held-more own.known new (grows-types own.known new more names) own.functions.entries
      own.nodes held

  pub state-grown : {seen : Checking} → told own ≡ seen
      → state_in (record own { known = new }) ≡ seen.state
  state-grown is =
      let grows = grows-types own.known new more names in
      let functions = functions-kept own.known new grows own.functions.entries own.nodes held in
      let nodes = nodes-kept own.known new grows own.functions.entries own.nodes held in
      as-seen (λ checking. checking.state) is
      (λ i. record (state_in own) { types = names i; functions = functions i; nodes = nodes i })

-- types more change nothing that is told
pub ruleset grown = (held-grown, state-grown)

-- ---- one collection more

module _ (nodes after : Named HeldNode) (entry : List ℕ × HeldNode)
    (put : after ≡ nodes ++ entry ∷ []) where
  pub held-push : (known : Known) (functions : Named HeldFunction) → AreHeld known functions nodes
      → NodeIn known entry.1 → AreHeld known functions after
  held-push known functions held here = (
    held.0,
    All-same (λ (e : List ℕ × HeldNode). NodeIn known e.1) after (nodes ++ entry ∷ []) put
        (All-push (λ (e : List ℕ × HeldNode). NodeIn known e.1) nodes entry held.1 here),
  )

  pub nodes-push : (types : List Ty)
      → map (node_of types) after ≡ map (node_of types) nodes ++ node_of types entry ∷ []
  nodes-push types = ap (map (node_of types)) put ∙ map_push (node_of types) nodes entry

-- ---- the collections in front of a place, and those behind one

module _ (known : Known) (functions : Named HeldFunction) (nodes : Named HeldNode)
    (held : AreHeld known functions nodes) where
  abbrev IsHeld : List ℕ × HeldNode → Type 0
  IsHeld entry = NodeIn known entry.1

  pub held-front : (front : ℕ) (after : Named HeldNode) → after ≡ take front nodes
      → AreHeld known functions after
  held-front front after left = (
    held.0,
    All-same IsHeld after (take front nodes) left (All-take IsHeld front nodes held.1),
  )

  pub held-none : (after : Named HeldNode) → after ≡ [] → AreHeld known functions after
  held-none after none = (held.0, All-same IsHeld after [] none (All-nil IsHeld))

  pub held-behind : (body : ℕ) (rest : Named HeldNode) → rest ≡ drop body nodes
      → All IsHeld rest
  held-behind body rest is =
      All-same IsHeld rest (drop body nodes) is (All-drop IsHeld body nodes held.1)

  pub nodes-front : (types : List Ty) (front : ℕ) (after : Named HeldNode)
      → after ≡ take front nodes
      → map (node_of types) after ≡ take front (map (node_of types) nodes)
  nodes-front types front after left =
      ap (map (node_of types)) left ∙ sym (take-map (node_of types) front nodes)

  pub nodes-behind : (types : List Ty) (body : ℕ) (rest : Named HeldNode)
      → rest ≡ drop body nodes → map (node_of types) rest ≡ drop body (map (node_of types) nodes)
  nodes-behind types body rest is =
      ap (map (node_of types)) is ∙ sym (drop-map (node_of types) body nodes)
