-- What the rules of a let with repeat have found, and the names behind it.
use Rattle.std.proofs.Common.{◌≡◌, ℕ, zero, suc, ◌+◌, true, List, [], ◌∷◌, ◌++◌, length, map, take, drop, None, Ok, refl, sym, ap, ◌∙◌, subst, arith, append_assoc}
use Rattle.std.specs.List.{list_any}
use Rattle.std.specs.Map.{keys_of}
use Rattle.std.specs.Str.{bytes_eq}
use Rattle.std.proofs.lemmas.List.{append-nil, drop_at, length-map, take_at}
use Rattle.flume_grammar.specs.declared.tree.Operation.{Operation}
use Rattle.flume_grammar.specs.declared.tree.Repeat.{Repeat as WrittenRepeat}
use Rattle.flume_grammar.specs.declared.tree.TurnLet.{TurnLet}
use Rattle.flume_grammar.specs.declared.fault.ScriptKind.TheVariants.{Mistyped}
use Rattle.written_types.specs.Answer.{unless}
use Rattle.written_types.specs.Named.{Named, find}
use Rattle.script_program.specs.declared.made.Standing.{Standing}
use Rattle.script_program.specs.declared.made.Standing.TheVariants.{Hidden}
use Rattle.script_program.specs.Script.{Operand, State, given, with_hidden, with_standing}
use Rattle.direct_meaning.specs.of_script_rules.Operations.{collections_behind, made_by, operand_numbers}
use Rattle.direct_meaning.specs.of_script_rules.Repeats.{Repeat, gives_left, last_gives, turn_gives, turn_to}
use Rattle.direct_meaning.specs.of_script_rules.Rules as spec
use Rattle.direct_meaning.proofs.of_script_rules.CheckedLemmas.{both, ok-same}
use Rattle.direct_meaning.proofs.of_script_rules.FoundLemmas.{before, found, own}
use Rattle.direct_meaning.proofs.of_script_laws.RepeatLemmas.{HasEntry, found-many, has-entry}
use Rattle.key_meaning.proofs.Standing.{hidden, names_are, new_found, standing, types_are}

-- ---- states in front of and behind a body

pub names_hidden : (names : List (List ℕ)) (s : State)
    → (with_hidden names s).names ≡ s.names ++ hidden names
names_hidden [] s = sym (append-nil s.names)
names_hidden (name ∷ names) s =
    names_hidden names (with_standing name Hidden s)
    ∙ append_assoc s.names ((name, Hidden) ∷ []) (hidden names)

types_hidden : (names : List (List ℕ)) (s : State) → (with_hidden names s).types ≡ s.types
types_hidden [] s = refl
types_hidden (name ∷ names) s = types_hidden names (with_standing name Hidden s)

-- names more, and the same types
pub record More (s after : State) : Type 0 where
  pub rest : Named Standing
  pub names : after.names ≡ s.names ++ rest
  pub types : after.types ≡ s.types

pub named_more : (line : ℕ) (names : List (List ℕ)) (by : Operation) (s after : State)
    → spec.let_rule line names by s ≡ Ok after → More s after
named_more line names by s after e =
    let new = both (spec.all_fresh line (keys_of s.names) names) _ after e in
    let makings = both (made_by line by s) _ after new.then in
    let fit = both (spec.all_fit line (length names) makings.part) _ after makings.then in
    subst (More s) (ok-same _ after fit.then) (record {
      rest = standing names makings.part (length s.nodes);
      names = names_are names makings.part s;
      types = types_are names makings.part s;
    })

then_more : (s middle after : State) → More s middle → More middle after → More s after
then_more s middle after first second = record {
  rest = first.rest ++ second.rest;
  names =
      second.names ∙ ap (λ ns. ns ++ second.rest) first.names
      ∙ append_assoc s.names first.rest second.rest;
  types = second.types ∙ first.types;
}

pub all_more : (lets : List TurnLet) (s after : State) → spec.all_named lets s ≡ Ok after
    → More s after
all_more [] s after e =
    subst (More s) (ok-same s after e)
    (record { rest = []; names = sym (append-nil s.names); types = refl })
all_more (it ∷ lets) s after e =
    let next = both (spec.let_rule it.line it.names it.by s) _ after e in
    then_more s next.part after (named_more it.line it.names it.by s next.part next.first)
    (all_more lets next.part after next.then)

-- ---- what is found

module _ (line : ℕ) (names : List (List ℕ)) (written : WrittenRepeat) (s : State) where
  -- what enters a repeat, under names that stood for nothing
  pub record Enters (entry : spec.Entry) : Type 0 where
    pub has : HasEntry line names written s entry
    pub open has use *
    pub new : (name : List ℕ) → list_any (bytes_eq name) names ≡ true → find name s.names ≡ None
    pub free : (name : List ℕ) → list_any (bytes_eq name) written.entering ≡ true
        → find name (with_hidden names s).names ≡ None

  pub enters : (entry : spec.Entry) → spec.repeat_entry line names written s ≡ Ok entry
      → Enters entry
  enters entry e =
      let it = has-entry line names written s entry e in
      record {
        has = it;
        new = new_found line s.names names it.outer it.outer_fresh;
        free = new_found line (with_hidden names s).names written.entering it.inner it.inner_fresh;
      }

  -- what its body gives
  pub record Gives (from : List Operand) (body : State) (gives : List ℕ) : Type 0 where
    pub given : List Operand
    pub found : collections_behind line [] written.gives body ≡ Ok given
    pub are : operand_numbers given ≡ gives
    pub many : length gives ≡ length written.gives

  pub gives_found : (from : List Operand) (body : State) (gives : List ℕ)
      → spec.repeat_gives line written.gives from body ≡ Ok gives → Gives from body gives
  gives_found from body gives e =
      let given = both (collections_behind line [] written.gives body) _ gives e in
      let same = both (unless line Mistyped (spec.alike from given.part)) _ gives given.then in
      let are = ok-same (operand_numbers given.part) gives same.then in
      record {
        given = given.part;
        found = given.first;
        are = are;
        many =
            omega (
              arith,
              ap length (sym are),
              length-map given.part (λ (one : Operand). one.number),
              found-many line body [] written.gives given.part given.first,
            );
      }

-- ---- names behind it

-- the last turn gives as many as enter the first, where a turn does
pub gives_long : (repeat : Repeat) (many left : ℕ) (entering : List ℕ) (start : ℕ)
    → length entering ≡ many → length repeat.gives ≡ many
    → length (gives_left repeat left entering start) ≡ many
gives_long repeat many zero entering start here gives = here
gives_long repeat many (suc left) entering start here gives =
    gives_long repeat many left (turn_gives repeat entering start) (start + length repeat.body)
    (length-map repeat.gives (turn_to repeat entering start) ∙ gives) gives

module _ (line : ℕ) (names : List (List ℕ)) (written : WrittenRepeat) (s : State)
    (it : spec.Repeated) (e : spec.repeated line names written s ≡ Ok it) where
  abbrev pub after_repeat : State
  after_repeat = spec.with_repeat it.repeat (length s.names) it.behind

  -- the let's names stand for what is given, and all others behind them for none
  pub record NamesBehind : Type 0 where
    pub rest : Named Standing
    pub naming : after_repeat.names
        ≡ s.names ++ given (last_gives it.repeat) (hidden names ++ rest)
    pub typing : after_repeat.types ≡ s.types
    pub many : length (last_gives it.repeat) ≡ length names

  pub names_behind : NamesBehind
  names_behind =
      let has = found line names written s it e in
      let entry = has.entry in
      let front = before line names written s entry in
      let taken = with_hidden names s in
      let enter = enters line names written s entry has.enters in
      let body = all_more written.lets front has.body has.lets in
      let entered = names_are written.entering (map spec.entered entry.from) taken in
      let more = standing written.entering (map spec.entered entry.from) (length taken.nodes) in
      let rest = more ++ body.rest in
      let gives = gives_found line names written s entry.from has.body has.gives has.given in
      let whole : has.body.names ≡ s.names ++ (hidden names ++ rest) =
      body.names
      ∙ ap (λ ns. ns ++ body.rest) (entered ∙ ap (λ ns. ns ++ more) (names_hidden names s))
      ∙ ap (λ ns. ns ++ body.rest) (append_assoc s.names (hidden names) more)
      ∙ append_assoc s.names (hidden names ++ more) body.rest
      ∙ ap (λ ns. s.names ++ ns) (append_assoc (hidden names) more body.rest) in
      let behind : it.behind.names ≡ s.names ++ (hidden names ++ rest) =
      ap (λ (t : State). t.names) (sym has.behind) ∙ whole in
      let first = length s.names in
      record {
        rest = rest;
        naming =
            ap (λ ns. take first ns ++ given (last_gives it.repeat) (drop first ns)) behind
            ∙ (λ i. take_at s.names (hidden names ++ rest) first refl i
            ++ given (last_gives it.repeat) (drop_at s.names (hidden names ++ rest) first refl i));
        typing =
            ap (λ (t : State). t.types) (sym has.behind)
            ∙ body.types
            ∙ types_are written.entering (map spec.entered entry.from) taken
            ∙ types_hidden names s;
        many =
            ap (λ (r : Repeat). length (last_gives r)) (sym has.repeat)
            ∙ gives_long (own line names written s entry has.body has.gives) (length names)
            entry.turns (operand_numbers entry.from) (length s.nodes)
            (length-map entry.from (λ (one : Operand). one.number) ∙ enter.many)
            (gives.many ∙ enter.gives);
      }
