-- What a let with repeat adds: the turns of a repeat that fits.
use Rattle.std.proofs.Common.{◌≡◌, ℕ, zero, suc, ◌+◌, ◌*◌, ◌≤◌, eqb, ◌&&◌, List, [], ◌∷◌}
use Rattle.std.proofs.Common.{◌++◌, length, map, take, drop, Bool, true, false, Ok, Some, refl, sym}
use Rattle.std.proofs.Common.{ap, ◌∙◌, subst, arith, append_assoc, length-append, suc-mul}
use Rattle.std.specs.List.{All, AllByRecursion as Each, AllZip}
use Rattle.std.specs.Map.{keys_of}
use Rattle.std.proofs.lemmas.Bool.{eqb-true, leb-true}
use Rattle.std.proofs.lemmas.List.{drop_at, length-map, take_at}
use Rattle.std.proofs.lemmas.List.Elements.{All-nil, recursion_from_All}
use Rattle.flume_value.proofs.BoolLemmas.{both_true}
use Rattle.flume_types.specs.Equality.{type_eq}
use Rattle.flume_grammar.specs.declared.tree.Repeat.{Repeat as WrittenRepeat}
use Rattle.flume_grammar.specs.declared.tree.TurnLet.{TurnLet}
use Rattle.flume_grammar.specs.declared.fault.ScriptKind.TheVariants.{BadNumber, Mistyped, TooMany}
use Rattle.script_rules.specs.of_written_types.Answer.{or_fault, unless}
use Rattle.script_rules.specs.of_written_types.Named.{Named}
use Rattle.script_rules.specs.of_expression_check.Numbers.{number_within}
use Rattle.script_rules.specs.of_script_program.Kinds.{gives_object}
use Rattle.script_rules.specs.of_script_program.Limits.{most_collections}
use Rattle.script_rules.specs.of_script_program.declared.made.Standing.TheVariants.{Hidden}
use Rattle.script_rules.specs.of_script_program.Script.{Node, Operand, State, with_front, with_hidden, with_standing}
use Rattle.script_rules.specs.Operations.{operand_named, collections_behind, operand_numbers}
use Rattle.script_rules.specs.Repeats.{Repeat, copied_let, nodes_left, turn_gives, turn_nodes, turn_to}
use Rattle.script_rules.specs.Repeats.{unrolled}
use Rattle.script_rules.specs.Rules as spec
use Rattle.script_rules.proofs.CheckedLemmas.{both, holds, ok-same, there}
use Rattle.script_rules.proofs.StateLemmas.{nodes-hidden}
use Rattle.script_rules.proofs.FoundLemmas.{before, found, own}
use Rattle.script_laws.specs.Fitting.{AreInPlace, IsOfType, RepeatFits, lets_of}
use Rattle.script_laws.specs.WellFormed.{AllFit, AllReadKinds}
use Rattle.script_laws.proofs.BodyLemmas.{HasLets, has-all-named}
use Rattle.script_laws.proofs.CallLemmas.{CallsStand}
use Rattle.script_laws.proofs.NewLemmas.{functions-are, how_made, named, nodes-are, outputs-are}
use Rattle.script_laws.proofs.OperandLemmas.{IsRead}
use Rattle.script_laws.proofs.OperationLemmas.{all-read}
use Rattle.script_laws.proofs.TypeLemmas.{same-types}

-- ---- names that are taken

pub functions-hidden : (names : List (List ℕ)) (s : State)
    → (with_hidden names s).functions ≡ s.functions
functions-hidden [] s = refl
functions-hidden (name ∷ names) s = functions-hidden names (with_standing name Hidden s)

outputs-hidden : (names : List (List ℕ)) (s : State) → (with_hidden names s).outputs ≡ s.outputs
outputs-hidden [] s = refl
outputs-hidden (name ∷ names) s = outputs-hidden names (with_standing name Hidden s)

-- ---- what enters, and what is given

kind-again : (is_object : Bool) (number : ℕ)
    → gives_object (spec.again is_object number) ≡ is_object
kind-again true number = refl
kind-again false number = refl

kind-entered : (one : Operand) → gives_object (spec.entered one).made ≡ one.is_object
kind-entered one = kind-again one.is_object one.number

kinds-same : (one other : Bool) → spec.same_kind one other ≡ true → one ≡ other
kinds-same true true e = refl
kinds-same true false e = cc
kinds-same false true e = cc
kinds-same false false e = refl

module _ (nodes : Named Node) (statement : ℕ) where
  abbrev entries : List (List ℕ) → List Operand → Named Node
  entries names from = named statement names (map spec.entered from)

  enter-of : (names : List (List ℕ)) (from : List Operand) → length names ≡ length from
      → Each (IsRead nodes) from
      → AllZip (IsOfType nodes) (operand_numbers from) (entries names from)
  enter-of [] [] same read = tt
  enter-of [] (one ∷ from) same read = absurd (omega arith)
  enter-of (name ∷ names) [] same read = absurd (omega arith)
  enter-of (name ∷ names) (one ∷ from) same read = (
    record {
      members = read.0.members;
      kind = read.0.kind ∙ ap Some (sym (kind-entered one));
    },
    enter-of names from (omega arith) read.1,
  )

  given-of : (names : List (List ℕ)) (from given : List Operand) → length names ≡ length from
      → spec.alike from given ≡ true → Each (IsRead nodes) given
      → AllZip (IsOfType nodes) (operand_numbers given) (entries names from)
  given-of [] [] [] same is read = tt
  given-of [] [] (other ∷ given) same is read = cc
  given-of [] (one ∷ from) given same is read = absurd (omega arith)
  given-of (name ∷ names) [] given same is read = absurd (omega arith)
  given-of (name ∷ names) (one ∷ from) [] same is read = cc
  given-of (name ∷ names) (one ∷ from) (other ∷ given) same is read =
      let parts = both_true (spec.is_like one other) (spec.alike from given) is in
      let own =
      both_true (type_eq one.type other.type) (spec.same_kind one.is_object other.is_object)
      parts.0 in
      let types = same-types one.type other.type own.0 in
      let kinds = kinds-same one.is_object other.is_object own.1 in (
        record {
          members = read.0.members ∙ ap (λ t. Some t) (sym types);
          kind = read.0.kind ∙ ap Some (sym kinds ∙ sym (kind-entered one));
        },
        given-of names from given (omega arith) parts.1 read.1,
      )

-- as many collections are found as names are asked for
pub found-many : (line : ℕ) (s : State) (found : List Operand) (names : List (List ℕ))
    (all : List Operand) → collections_behind line found names s ≡ Ok all
    → length all ≡ length found + length names
found-many line s found [] all e =
    let same = ap length (ok-same found all e) in
    omega (arith, same)
found-many line s found (name ∷ names) all e =
    let one = both (operand_named line name s) _ all e in
    let rest = found-many line s (found ++ one.part ∷ []) names all one.then in
    omega (arith, rest, length-append found (one.part ∷ []))

are-read : (line : ℕ) (s : State) (names : List (List ℕ)) (all : List Operand)
    → collections_behind line [] names s ≡ Ok all → Each (IsRead s.nodes) all
are-read line s names all e =
    recursion_from_All (IsRead s.nodes) all
    (all-read line s [] names all (All-nil (IsRead s.nodes)) e)

-- ---- how many collections the turns are

pub turns-long : (repeat : Repeat) (left turn : ℕ) (entering : List ℕ) (start : ℕ)
    → length (nodes_left repeat left turn entering start) ≡ left * length repeat.body
turns-long repeat zero turn entering start = none (length repeat.body)
  where
    none : (n : ℕ) → 0 ≡ 0 * n
    none n = omega arith
turns-long repeat (suc left) turn entering start =
    let nodes = turn_nodes repeat entering start turn in
    let given = turn_gives repeat entering start in
    let next = start + length repeat.body in
    let later = nodes_left repeat left (suc turn) given next in
    omega (
      arith,
      turns-long repeat left (suc turn) given next,
      length-map repeat.body (copied_let turn (turn_to repeat entering start)),
      length-append nodes later,
      suc-mul left (length repeat.body),
    )

-- ---- the whole

-- what enters a repeat: as many collections as it has names, which were free
pub record HasEntry (line : ℕ) (names : List (List ℕ)) (written : WrittenRepeat) (s : State)
    (entry : spec.Entry) : Type 0 where
  pub outer : Unit {0}
  pub outer_fresh : spec.all_fresh line (keys_of s.names) names ≡ Ok outer
  pub inner : Unit {0}
  pub inner_fresh : spec.all_fresh line (keys_of (with_hidden names s).names) written.entering
      ≡ Ok inner
  pub from : collections_behind line [] written.from (with_hidden names s) ≡ Ok entry.from
  pub turns : number_within 1 256 written.turns ≡ Some entry.turns
  pub many : length entry.from ≡ length names
  pub entering : length written.entering ≡ length names
  pub gives : length written.gives ≡ length names

pub has-entry : (line : ℕ) (names : List (List ℕ)) (written : WrittenRepeat) (s : State)
    (entry : spec.Entry) → spec.repeat_entry line names written s ≡ Ok entry
    → HasEntry line names written s entry
has-entry line names written s entry e =
    let hidden = with_hidden names s in
    let new = both (spec.all_fresh line (keys_of s.names) names) _ entry e in
    let free = both (spec.all_fresh line (keys_of hidden.names) written.entering) _ entry
    new.then in
    let from = both (collections_behind line [] written.from hidden) _ entry free.then in
    let turns = both (or_fault line BadNumber (number_within 1 256 written.turns)) _ entry
    from.then in
    let many = both (unless line Mistyped (spec.as_many (length names) written)) _ entry
    turns.then in
    let counts =
    both_true (eqb (length written.from) (length names)) _
    (holds line Mistyped _ many.part many.first) in
    let others = both_true (eqb (length written.entering) (length names)) _ counts.1 in
    subst (HasEntry line names written s) (ok-same _ entry many.then) (record {
      outer = new.part;
      outer_fresh = new.first;
      inner = free.part;
      inner_fresh = free.first;
      from = from.first;
      turns = there line BadNumber _ turns.part turns.first;
      many =
          omega (
            arith,
            found-many line hidden [] written.from from.part from.first,
            eqb-true (length written.from) (length names) counts.0,
          );
      entering = eqb-true (length written.entering) (length names) others.0;
      gives = eqb-true (length written.gives) (length names) others.1;
    })

-- what enters a repeat are collections outside, as many as names in the body
record IsEntry (nodes : Named Node) (written : WrittenRepeat) (entry : spec.Entry) : Type 0 where
  pub read : Each (IsRead nodes) entry.from
  pub many : length written.entering ≡ length entry.from

is-entry : (line : ℕ) (names : List (List ℕ)) (written : WrittenRepeat) (s : State)
    (entry : spec.Entry) → spec.repeat_entry line names written s ≡ Ok entry
    → IsEntry s.nodes written entry
is-entry line names written s entry e =
    let it = has-entry line names written s entry e in
    record {
      read =
          subst (λ nodes. Each (IsRead nodes) entry.from) (nodes-hidden names s)
          (are-read line (with_hidden names s) written.from entry.from it.from);
      many = it.entering ∙ sym it.many;
    }

-- the turns of a repeat that fits stand behind the collections there are
pub record HasTurns (s after : State) (repeat : Repeat) : Type 0 where
  pub fits : RepeatFits s.functions s.nodes repeat
  pub calls : CallsStand s.functions (lets_of repeat)
  pub nodes : after.nodes ≡ s.nodes ++ unrolled repeat
  pub functions : after.functions ≡ s.functions
  pub outputs : after.outputs ≡ s.outputs
  pub few : length s.nodes + repeat.turns * length repeat.body ≤ most_collections

module _ (names : List (List ℕ)) (written : WrittenRepeat) (s : State)
    (entry : spec.Entry) (is : IsEntry s.nodes written entry) where
  abbrev hidden : State
  hidden = with_hidden names s

  abbrev front : State
  front = spec.entering_state names written.entering entry.from s

  abbrev entering : Named Node
  entering = entries s.nodes hidden.statements written.entering entry.from

  entering-are : front.nodes ≡ s.nodes ++ entering
  entering-are =
      nodes-are written.entering (map spec.entered entry.from) hidden
      ∙ ap (λ nodes. nodes ++ entering) (nodes-hidden names s)

  functions-front : front.functions ≡ s.functions
  functions-front =
      functions-are written.entering (map spec.entered entry.from) hidden
      ∙ functions-hidden names s

  outputs-front : front.outputs ≡ s.outputs
  outputs-front =
      outputs-are written.entering (map spec.entered entry.from) hidden ∙ outputs-hidden names s

  module _ (body : State) (has : HasLets front body) where
    body-are : body.nodes ≡ s.nodes ++ entering ++ has.lets
    body-are = has.nodes ∙ ap (λ nodes. nodes ++ has.lets) entering-are

    lets-are : drop (length front.nodes) body.nodes ≡ has.lets
    lets-are =
        ap (drop (length front.nodes)) has.nodes
        ∙ drop_at front.nodes has.lets (length front.nodes) refl

    outside-are : take (length s.nodes) body.nodes ≡ s.nodes
    outside-are =
        ap (take (length s.nodes)) (body-are ∙ append_assoc s.nodes entering has.lets)
        ∙ take_at s.nodes (entering ++ has.lets) (length s.nodes) refl

    -- the repeat of what is given
    module _ (given : List Operand) (read : Each (IsRead body.nodes) given)
        (alike : spec.alike entry.from given ≡ true)
        (few : length s.nodes + entry.turns * length (drop (length front.nodes) body.nodes)
        ≤ most_collections) where
      abbrev repeat : Repeat
      repeat =
          spec.repeat_from entry (operand_numbers given) (length s.nodes) (length front.nodes) body

      repeat-fits : RepeatFits s.functions s.nodes repeat
      repeat-fits = record {
        entering = entering;
        many = refl;
        enter = enter-of s.nodes hidden.statements written.entering entry.from is.many is.read;
        in_place =
            subst (λ (l : Named Node). AreInPlace 0 (map how_made l)) (sym lets-are)
            (has.in_place 0);
        lets =
            subst (AllFit s.functions (s.nodes ++ entering)) (sym lets-are)
            (subst (λ fs. AllFit fs (s.nodes ++ entering) has.lets) functions-front
            (subst (λ nodes. AllFit front.functions nodes has.lets) entering-are has.fit));
        kinds =
            subst (AllReadKinds (s.nodes ++ entering)) (sym lets-are)
            (subst (λ nodes. AllReadKinds nodes has.lets) entering-are has.kinds);
        given =
            subst
            (λ (l : Named Node). AllZip (IsOfType (s.nodes ++ entering ++ l))
            (operand_numbers given)
            entering)
            (sym lets-are)
            (subst (λ (l : Named Node). AllZip (IsOfType l) (operand_numbers given) entering)
            body-are
            (given-of body.nodes hidden.statements written.entering entry.from given is.many alike
            read));
      }

      repeat-stands : CallsStand s.functions (lets_of repeat)
      repeat-stands =
          subst (λ (l : Named Node). CallsStand s.functions (map how_made l)) (sym lets-are)
          (subst (λ fs. CallsStand fs (map how_made has.lets)) functions-front
          (has.calls [] (λ number source called output is. cc)))

      turns-added : (first : ℕ)
          → HasTurns s (spec.with_repeat repeat first (with_front (length s.nodes) body)) repeat
      turns-added first = record {
        fits = repeat-fits;
        calls = repeat-stands;
        nodes = ap (λ nodes. nodes ++ unrolled repeat) outside-are;
        functions = has.functions ∙ functions-front;
        outputs = has.outputs ∙ outputs-front;
        few = few;
      }

pub has-turns : (line : ℕ) (names : List (List ℕ)) (written : WrittenRepeat) (s : State)
    (it : spec.Repeated) (first : ℕ) → spec.repeated line names written s ≡ Ok it
    → HasTurns s (spec.with_repeat it.repeat first it.behind) it.repeat
has-turns line names written s it first e =
    let has = found line names written s it e in
    let front = before line names written s has.entry in
    let from = has.entry.from in
    let many =
    length s.nodes + has.entry.turns * length (drop (length front.nodes) has.body.nodes) in
    let given =
    both (collections_behind line [] written.gives has.body) _ has.gives has.given in
    let same = both (unless line Mistyped (spec.alike from given.part)) _ has.gives given.then in
    let turns =
    turns-added names written s has.entry
    (is-entry line names written s has.entry has.enters) has.body
    (has-all-named written.lets front has.body has.lets) given.part
    (are-read line has.body written.gives given.part given.first)
    (holds line Mistyped _ same.part same.first)
    (leb-true many most_collections (holds line TooMany _ has.few has.room)) first in
    let whole :
    own line names written s has.entry has.body (operand_numbers given.part) ≡ it.repeat =
    ap (own line names written s has.entry has.body)
    (ok-same (operand_numbers given.part) has.gives same.then)
    ∙ has.repeat in
    subst (λ (behind : State). HasTurns s (spec.with_repeat it.repeat first behind) it.repeat)
    has.behind
    (subst
    (λ (r : Repeat).
    HasTurns s (spec.with_repeat r first (with_front (length s.nodes) has.body)) r)
    whole turns)
