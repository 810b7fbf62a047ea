-- A let with repeat that both scripts have, but for lines, adds what is alike to states that are.
use Rattle.std.proofs.Common.{◌≡◌, ℕ, ◌+◌, ◌*◌, ◌<◌, ◌≤◌, Bool, true, false, List, [], ◌++◌, length, map, Some, Ok, slice_get, refl, sym, ap, ◌∙◌, subst, arith, ⊎_elim, ◌⊎◌, inl, inr, length-append, length-drop}
use Rattle.std.specs.List.{AllByRecursion as Each, AllZip, list_any}
use Rattle.std.specs.Str.{bytes_eq}
use Rattle.std.proofs.lemmas.List.{length-map}
use Rattle.std.proofs.lemmas.List.Elements.{Contains-append_cases, Contains-append_left, Contains-append_right}
use Rattle.flume_grammar.specs.declared.tree.Repeat.{Repeat as WrittenRepeat}
use Rattle.flume_grammar.specs.declared.tree.TurnLet.{TurnLet}
use Rattle.expression_check.specs.Numbers.{number_within}
use Rattle.written_types.specs.Named.{find}
use Rattle.script_keys.specs.Rests.{holds_name}
use Rattle.script_keys.specs.declared.rests.Names.{Names}
use Rattle.script_program.specs.Script.{Node, Operand, State, given, with_hidden}
use Rattle.direct_meaning.specs.of_script_rules.Operations.{operand_numbers}
use Rattle.direct_meaning.specs.of_script_rules.Repeats.{Repeat, last_gives, unrolled}
use Rattle.direct_meaning.specs.of_script_rules.Rules as spec
use Rattle.direct_meaning.proofs.of_script_rules.CheckedLemmas.{both, ok-same}
use Rattle.direct_meaning.proofs.of_script_rules.StateLemmas.{nodes-hidden}
use Rattle.direct_meaning.proofs.of_script_rules.FoundLemmas.{HasFound, before, found, own}
use Rattle.direct_meaning.proofs.of_script_laws.MemberLemmas.{within}
use Rattle.direct_meaning.proofs.of_script_laws.RepeatLemmas.{functions-hidden, has-turns, turns-long}
use Rattle.key_meaning.proofs.Adding.{Added, Asked, SameLet, all_added, nodes_added, with_nodes_long}
use Rattle.key_meaning.proofs.Entries.{entries_long, with_entries}
use Rattle.key_meaning.proofs.Alike.{FunctionsMeet, IsAlike, MadeAlike, Meet, NodeAlike, Paired, Pairs, meet_more, node_more, place_of, stands}
use Rattle.key_meaning.proofs.Finding.{OperandAlike, all_alike, numbers_alike, some_same}
use Rattle.key_meaning.proofs.Keeping.{Grown, grown_at}
use Rattle.key_meaning.proofs.Lists.{Behind, along, along_at, along_from}
use Rattle.key_meaning.proofs.Repeating.{Enters, Gives, NamesBehind, after_repeat, enters, gives_found, names_behind}
use Rattle.key_meaning.proofs.Standing.{hidden, none_given, stands_later, stands_more}
use Rattle.key_meaning.proofs.Turns.{LetAlike, Matches, last_alike, unrolled_alike}
use Rattle.key_meaning.proofs.Entering.{drop_get, entered_alike, entered_placed, given_meet, hidden_alike, in_place_at, mapped_at}

-- ---- the whole

-- the repeat with other lets
abbrev pub with_lets : WrittenRepeat → List TurnLet → WrittenRepeat
with_lets w lets = record {
  turns = w.turns;
  from = w.from;
  entering = w.entering;
  lets = lets;
  gives = w.gives;
}

module _ (SameFile : List ℕ → Type 0) (names : Names) (pairs : Pairs) (s r : State)
    (alike : IsAlike SameFile names pairs s r) (types : s.types ≡ r.types) (line other : ℕ)
    (own_ : List (List ℕ)) (w : WrittenRepeat) (lets_there : List TurnLet)
    (same : AllZip SameLet w.lets lets_there)
    (asked_from : Each (λ name. holds_name names.collections name ≡ true) w.from)
    (asked_lets : Each (λ (it : TurnLet). Asked SameFile names it.by) w.lets)
    (asked_gives : Each (λ name. holds_name names.collections name ≡ true) w.gives) where
  abbrev w_ : WrittenRepeat
  w_ = with_lets w lets_there

  abbrev k : ℕ
  k = length s.nodes

  abbrev l : ℕ
  l = length r.nodes

  abbrev taken : State
  taken = with_hidden own_ s

  abbrev taken_ : State
  taken_ = with_hidden own_ r

  taken_long : length taken.nodes ≡ k
  taken_long = ap length (nodes-hidden own_ s)

  taken_long_ : length taken_.nodes ≡ l
  taken_long_ = ap length (nodes-hidden own_ r)

  taken_alike : IsAlike SameFile names pairs taken taken_
  taken_alike = hidden_alike SameFile names pairs s r alike own_

  module _ (it it_ : spec.Repeated) (e : spec.repeated line own_ w s ≡ Ok it)
      (f : spec.repeated other own_ w_ r ≡ Ok it_)
      (here : HasFound line own_ w s it) (there : HasFound other own_ w_ r it_) where
    abbrev from : List Operand
    from = here.entry.from

    abbrev from_ : List Operand
    from_ = there.entry.from

    enter : Enters line own_ w s here.entry
    enter = enters line own_ w s here.entry here.enters

    enter_ : Enters other own_ w_ r there.entry
    enter_ = enters other own_ w_ r there.entry there.enters

    from_alike : AllZip (OperandAlike pairs) from from_
    from_alike =
        all_alike SameFile names pairs taken taken_ taken_alike line other w.from asked_from [] []
        tt from from_ enter.from enter_.from

    abbrev front : State
    front = before line own_ w s here.entry

    abbrev front_ : State
    front_ = before other own_ w_ r there.entry

    counted : length (map spec.entered from) ≡ length w.entering
    counted = length-map from spec.entered ∙ enter.many ∙ sym enter.entering

    entered : Added SameFile names pairs taken taken_ front front_
    entered =
        nodes_added SameFile names pairs taken taken_ taken_alike w.entering
        (map spec.entered from) (map spec.entered from_) counted
        (entered_alike SameFile pairs taken.functions taken_.functions from from_ from_alike)
        (entered_placed 0 from) enter.free enter_.free

    abbrev m : ℕ
    m = entered.many

    -- as many enter
    entered_many : length from ≡ m
    entered_many =
        let long = with_nodes_long w.entering (map spec.entered from) taken counted in
        omega (arith, long, entered.here, length-map from spec.entered)

    abbrev pairs_in : Pairs
    pairs_in = pairs ++ along (length taken.nodes) (length taken_.nodes) m

    body : Added SameFile names pairs_in front front_ here.body there.body
    body =
        all_added SameFile names w.lets lets_there same asked_lets pairs_in front front_
        entered.alike here.body there.body here.lets there.lets

    abbrev n : ℕ
    n = body.many

    abbrev inner : Pairs
    inner = pairs_in ++ along (length front.nodes) (length front_.nodes) n

    gives : Gives line own_ w s from here.body here.gives
    gives = gives_found line own_ w s from here.body here.gives here.given

    gives_ : Gives other own_ w_ r from_ there.body there.gives
    gives_ = gives_found other own_ w_ r from_ there.body there.gives there.given

    given_alike : AllZip (Paired inner) here.gives there.gives
    given_alike =
        subst (AllZip (Paired inner) here.gives) gives_.are
        (subst (λ ns. AllZip (Paired inner) ns (operand_numbers gives_.given)) gives.are
        (numbers_alike inner gives.given gives_.given
        (all_alike SameFile names inner here.body there.body body.alike line other w.gives
        asked_gives [] [] tt gives.given gives_.given gives.found gives_.found)))

    abbrev repeat : Repeat
    repeat = own line own_ w s here.entry here.body here.gives

    abbrev repeat_ : Repeat
    repeat_ = own other own_ w_ r there.entry there.body there.gives

    body_long : length repeat.body ≡ n
    body_long =
        let long = length-drop (length front.nodes) here.body.nodes in
        omega (arith, long, body.here)

    body_long_ : length repeat_.body ≡ n
    body_long_ =
        let long = length-drop (length front_.nodes) there.body.nodes in
        omega (arith, long, body.there)

    functions_here : here.body.functions ≡ s.functions
    functions_here = body.functions ∙ entered.functions ∙ functions-hidden own_ s

    functions_there : there.body.functions ≡ r.functions
    functions_there = body.functions_there ∙ entered.functions_there ∙ functions-hidden own_ r

    let_alike : (j : ℕ) (entry more : List ℕ × Node) → slice_get repeat.body j ≡ Some entry
        → slice_get repeat_.body j ≡ Some more
        → LetAlike SameFile s.functions r.functions pairs inner k l m n entry more
    let_alike j entry more at at_ =
        let below = within repeat.body j entry at in
        let a = length front.nodes + j in
        let b = length front_.nodes + j in
        let pair =
        Contains-append_right pairs_in (along (length front.nodes) (length front_.nodes) n) (a, b)
        (along_at (length front.nodes) (length front_.nodes) n j (omega (arith, below, body_long)))
        in
        let node = body.alike.paired a b pair in
        let first = some_same (slice_get here.body.nodes a) node.entry entry node.here
        (sym (drop_get (length front.nodes) here.body.nodes j) ∙ at) in
        let second = some_same (slice_get there.body.nodes b) node.other more node.there
        (sym (drop_get (length front_.nodes) there.body.nodes j) ∙ at_) in
        record {
          name =
              sym (ap (λ (x : List ℕ × Node). x.0) first) ∙ node.alike.name
              ∙ ap (λ (x : List ℕ × Node). x.0) second;
          type =
              sym (ap (λ (x : List ℕ × Node). x.1.type) first) ∙ node.alike.type
              ∙ ap (λ (x : List ℕ × Node). x.1.type) second;
          how =
              subst (λ fs. MadeAlike SameFile inner fs r.functions entry.1.made more.1.made)
              functions_here
              (subst
              (λ fs. MadeAlike SameFile inner here.body.functions fs entry.1.made more.1.made)
              functions_there
              (subst (λ (x : List ℕ × Node). MadeAlike SameFile inner here.body.functions
              there.body.functions x.1.made more.1.made) first
              (subst (λ (x : List ℕ × Node). MadeAlike SameFile inner here.body.functions
              there.body.functions node.entry.1.made x.1.made) second node.alike.how)));
        }

    let_placed : (j : ℕ) (entry : List ℕ × Node) → slice_get repeat.body j ≡ Some entry
        → place_of entry.1.made ≤ j
    let_placed j entry at =
        let turns = has-turns line own_ w s it (length s.names) e in
        let at_it = ap (λ (q : Repeat). slice_get q.body j) (sym here.repeat) ∙ at in
        let most =
        in_place_at 0 (map (λ (x : List ℕ × Node). x.1.made) it.repeat.body) turns.fits.in_place j
        entry.1.made (mapped_at it.repeat.body j entry at_it) in
        omega (arith, most)

    within_either : (a b : ℕ) → Paired inner a b
        → (Paired pairs a b × (a < k × b < l)) ⊎ Behind k l (m + n) a b
    within_either a b among =
        ⊎_elim
        (λ (first : Paired pairs_in a b).
        ⊎_elim
        (λ (old : Paired pairs a b).
        let node = alike.paired a b old in
        inl (
          old,
          (
            within s.nodes a node.entry node.here,
            within r.nodes b node.other node.there,
          ),
        ))
        (λ (new : Paired (along (length taken.nodes) (length taken_.nodes) m) a b).
        let at = along_from (length taken.nodes) (length taken_.nodes) m a b new in
        inr (record {
          place = at.place;
          below = omega (arith, at.below);
          here = omega (arith, at.here, taken_long);
          there = omega (arith, at.there, taken_long_);
        }))
        (Contains-append_cases pairs (along (length taken.nodes) (length taken_.nodes) m) (a, b)
        first))
        (λ (new : Paired (along (length front.nodes) (length front_.nodes) n) a b).
        let at = along_from (length front.nodes) (length front_.nodes) n a b new in
        inr (record {
          place = m + at.place;
          below = omega (arith, at.below);
          here = omega (arith, at.here, entered.here, taken_long);
          there = omega (arith, at.there, entered.there, taken_long_);
        }))
        (Contains-append_cases pairs_in (along (length front.nodes) (length front_.nodes) n) (a, b)
        among)

    abbrev IsMatch : Repeat → Repeat → Type 0
    IsMatch = Matches SameFile s.functions r.functions pairs inner k l m n

    own_match : IsMatch repeat repeat_
    own_match = record {
      outside = refl;
      outside_there = refl;
      turns =
          some_same (number_within 1 256 w.turns) here.entry.turns there.entry.turns enter.turns
          enter_.turns;
      from = numbers_alike pairs from from_ from_alike;
      entering = length-map from (λ (one : Operand). one.number) ∙ entered_many;
      body = body_long;
      body_there = body_long_;
      gives = given_alike;
      gives_long = gives.many ∙ enter.gives ∙ sym enter.many ∙ entered_many;
      lets = let_alike;
      in_place = let_placed;
      either = within_either;
    }

    match : IsMatch it.repeat it_.repeat
    match =
        subst (λ q. IsMatch q it_.repeat) here.repeat
        (subst (IsMatch repeat) there.repeat own_match)

    abbrev total : ℕ
    total = length (unrolled it.repeat)

    abbrev all : Pairs
    all = pairs ++ along k l total

    among_old : (a b : ℕ) → Paired pairs a b → Paired all a b
    among_old a b is = Contains-append_left pairs (along k l total) (a, b) is

    among_new : (j : ℕ) → j < it.repeat.turns * n → Paired all (k + j) (l + j)
    among_new j below =
        let long = turns-long it.repeat it.repeat.turns 1 it.repeat.from it.repeat.outside in
        let product = ap (λ x. it.repeat.turns * x) match.body in
        Contains-append_right pairs (along k l total) (k + j, l + j)
        (along_at k l total j (omega (arith, below, long, product)))

    abbrev after : State
    after = after_repeat line own_ w s it e

    abbrev after_ : State
    after_ = after_repeat other own_ w_ r it_ f

    names_here : NamesBehind line own_ w s it e
    names_here = names_behind line own_ w s it e

    names_there : NamesBehind other own_ w_ r it_ f
    names_there = names_behind other own_ w_ r it_ f

    met : (name : List ℕ) → holds_name names.collections name ≡ true → (b : Bool)
        → list_any (bytes_eq name) own_ ≡ b
        → Meet all
        (stands name (s.names ++ given (last_gives it.repeat) (hidden own_ ++ names_here.rest)))
        (stands name (r.names ++ given (last_gives it_.repeat) (hidden own_ ++ names_there.rest)))
    met name is true among =
        let more = given (last_gives it.repeat) (hidden own_ ++ names_here.rest) in
        let more_ = given (last_gives it_.repeat) (hidden own_ ++ names_there.rest) in
        subst (Meet all (stands name (s.names ++ more)))
        (sym (stands_later name r.names more_ (enter_.new name among)))
        (subst (λ o. Meet all o (stands name more_))
        (sym (stands_later name s.names more (enter.new name among)))
        (given_meet all name own_ (last_gives it.repeat) (last_gives it_.repeat) names_here.rest
        names_there.rest
        (last_alike SameFile s.functions r.functions pairs inner k l m n it.repeat it_.repeat
        match all among_old among_new)
        names_here.many))
    met name is false away =
        let more = given (last_gives it.repeat) (hidden own_ ++ names_here.rest) in
        let more_ = given (last_gives it_.repeat) (hidden own_ ++ names_there.rest) in
        subst (Meet all (stands name (s.names ++ more)))
        (sym (stands_more name r.names more_
        (none_given name own_ (last_gives it_.repeat) names_there.rest names_there.many away)))
        (subst (λ o. Meet all o (stands name r.names))
        (sym (stands_more name s.names more
        (none_given name own_ (last_gives it.repeat) names_here.rest names_here.many away)))
        (meet_more pairs all among_old (stands name s.names) (stands name r.names)
        (alike.collections name is)))

    node_at : (a b : ℕ) → Paired all a b
        → NodeAlike SameFile all s.functions r.functions (s.nodes ++ unrolled it.repeat)
        (r.nodes ++ unrolled it_.repeat) a b
    node_at a b among =
        with_entries SameFile all s.functions r.functions pairs s.nodes r.nodes
        (unrolled it.repeat) (unrolled it_.repeat)
        (λ c d is. node_more SameFile pairs all s.functions r.functions s.functions
        r.functions among_old (λ x y same_. same_) s.nodes s.nodes r.nodes r.nodes
        (λ x entry at. at) (λ x entry at. at) c d (alike.paired c d is))
        (unrolled_alike SameFile s.functions r.functions pairs inner k l m n it.repeat it_.repeat
        match all among_old among_new) a b among

    repeat_grown : Grown SameFile names pairs s r after after_
    repeat_grown =
        let turns = has-turns line own_ w s it (length s.names) e in
        let turns_ = has-turns other own_ w_ r it_ (length r.names) f in
        record {
          many = total;
          here = ap length turns.nodes ∙ length-append s.nodes (unrolled it.repeat);
          there =
              ap length turns_.nodes ∙ length-append r.nodes (unrolled it_.repeat)
              ∙ ap (λ x. l + x)
              (sym (entries_long SameFile all s.functions r.functions k l (unrolled it.repeat)
              (unrolled it_.repeat)
              (unrolled_alike SameFile s.functions r.functions pairs inner k l m n it.repeat
              it_.repeat match all among_old among_new)));
          alike = record {
            collections = λ name is.
                subst (λ ns. Meet all (stands name after.names) (stands name ns))
                (sym names_there.naming)
                (subst (λ ns. Meet all (stands name ns)
                (stands name (r.names ++ given (last_gives it_.repeat)
                (hidden own_ ++ names_there.rest))))
                (sym names_here.naming)
                (met name is (list_any (bytes_eq name) own_) refl));
            functions = λ name is.
                subst (λ fs. FunctionsMeet (find name after.functions) (find name fs))
                (sym turns_.functions)
                (subst (λ fs. FunctionsMeet (find name fs) (find name r.functions))
                (sym turns.functions) (alike.functions name is));
            paired = λ a b among.
                subst (λ ns. NodeAlike SameFile all after.functions after_.functions after.nodes ns
                a b) (sym turns_.nodes)
                (subst (λ ns. NodeAlike SameFile all after.functions after_.functions ns
                (r.nodes ++ unrolled it_.repeat) a b) (sym turns.nodes)
                (subst (λ fs. NodeAlike SameFile all after.functions fs
                (s.nodes ++ unrolled it.repeat) (r.nodes ++ unrolled it_.repeat) a b)
                (sym turns_.functions)
                (subst (λ fs. NodeAlike SameFile all fs r.functions
                (s.nodes ++ unrolled it.repeat) (r.nodes ++ unrolled it_.repeat) a b)
                (sym turns.functions) (node_at a b among))));
          };
          types = names_here.typing ∙ types ∙ sym names_there.typing;
        }

  pub turning_grown : (after behind : State) → spec.rule_repeat line own_ w s ≡ Ok after
      → spec.rule_repeat other own_ w_ r ≡ Ok behind → Grown SameFile names pairs s r after behind
  turning_grown after behind e f =
      let it = both (spec.repeated line own_ w s) _ after e in
      let it_ = both (spec.repeated other own_ w_ r) _ behind f in
      grown_at SameFile names pairs s r _ after _ behind (ok-same _ after it.then)
      (ok-same _ behind it_.then)
      (repeat_grown it.part it_.part it.first it_.first
      (found line own_ w s it.part it.first) (found other own_ w_ r it_.part it_.first))
