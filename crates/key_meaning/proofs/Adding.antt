-- Lets add collections that are alike to states that are.
use Rattle.std.proofs.Common.{◌≡◌, ℕ, suc, ◌+◌, ◌-◌, ◌<◌, ◌≤◌, eqb, Bool, true, false, List, [], ◌∷◌, ◌++◌, length, None, Ok, refl, sym, ap, ◌∙◌, subst, arith, append_assoc, append-nil, ⊎_elim, length-append}
use Rattle.std.specs.Prelude.{⊤}
use Rattle.std.specs.List.{AllByRecursion as Each, AllZip, list_any}
use Rattle.std.specs.Map.{keys_of}
use Rattle.std.specs.Str.{bytes_eq}
use Rattle.std.proofs.lemmas.Bool.{eqb-true}
use Rattle.std.proofs.lemmas.List.Elements.{Contains-append_left, Contains-append_right}
use Rattle.flume_grammar.specs.declared.tree.Operation.{Operation}
use Rattle.flume_grammar.specs.declared.tree.TurnLet.{TurnLet}
use Rattle.flume_grammar.specs.declared.fault.ScriptKind.TheVariants.{Mistyped}
use Rattle.flume_types.specs.declared.types.Ty.{Ty}
use Rattle.written_types.specs.Answer.{unless}
use Rattle.written_types.specs.Named.{Named, find}
use Rattle.script_keys.specs.Outlines.{callees, operand_names}
use Rattle.script_keys.specs.Rests.{holds_name}
use Rattle.script_keys.specs.declared.rests.Names.{Names}
use Rattle.script_program.specs.declared.made.Made.{Made}
use Rattle.script_program.specs.declared.made.Made.TheVariants as made
use Rattle.script_program.specs.Script.{Function, Making, Node, State, with_nodes}
use Rattle.direct_meaning.specs.of_script_rules.Operations.{made_by, outputs_from}
use Rattle.direct_meaning.specs.of_script_rules.Rules as spec
use Rattle.direct_meaning.proofs.of_script_rules.CheckedLemmas.{both, holds, ok-same}
use Rattle.direct_meaning.proofs.of_script_laws.MakingLemmas.{AreOutputs, IsAlone, IsOther}
use Rattle.direct_meaning.proofs.of_script_laws.NewLemmas.{functions-are, named, nodes-are}
use Rattle.direct_meaning.proofs.of_script_laws.OperationLemmas.{made-is}
use Rattle.key_meaning.proofs.Alike.{FunctionsMeet, IsAlike, MakingAlike, Meet, NodeAlike, Paired, Pairs, making_more, meet_more, node_more, place_of, same_place, stands, zip_more}
use Rattle.direct_meaning.proofs.of_script_laws.MemberLemmas.{zip_length}
use Rattle.key_meaning.proofs.Lists.{along, along_at, along_more}
use Rattle.key_meaning.proofs.Making.{makes_alike}
use Rattle.key_meaning.proofs.Standing.{names_are, new_found, none_standing, standing, standing_meet, stands_later, stands_more}
use Rattle.key_meaning.proofs.Entries.{EntriesAlike, with_entries}

-- ---- what a let makes

-- each stands behind the earlier outputs of its call
abbrev pub Placed : ℕ → List Making → Type 0
Placed k [] = ⊤
Placed k (making ∷ makings) = place_of making.made ≤ k × Placed (suc k) makings

other_place : (how : Made) → IsOther how → place_of how ≤ 0
other_place (made.Do source called output) other = absurd other
other_place _ other = omega arith

outputs_placed : (source called k : ℕ) (types : List Ty)
    → Placed k (outputs_from source called k types)
outputs_placed source called k [] = tt
outputs_placed source called k (t ∷ types) =
    (omega arith, outputs_placed source called (suc k) types)

makes_placed : (line : ℕ) (s : State) (by : Operation) (makings : List Making)
    → made_by line by s ≡ Ok makings → Placed 0 makings
makes_placed line s by makings e =
    ⊎_elim
    (λ (alone : IsAlone s.functions s.nodes makings).
    subst (Placed 0) (sym alone.are) (other_place alone.making.made alone.other, tt))
    (λ (all : AreOutputs s.functions s.nodes makings).
    subst (Placed 0) (sym all.are)
    (outputs_placed all.source all.called 0 all.function.signature.gives))
    (made-is line s by makings e)

module _ (SameFile : List ℕ → Type 0) (pairs : Pairs) (functions others : Named Function)
    (k l many statement again : ℕ)
    (all : (j : ℕ) → j < many → Paired pairs (k + j) (l + j)) where
  entries_made : (names : List (List ℕ)) (makings more : List Making) (p a b : ℕ) → a ≡ k + p
      → b ≡ l + p → p + length makings ≤ many
      → AllZip (MakingAlike SameFile pairs functions others) makings more → Placed p makings
      → EntriesAlike SameFile pairs functions others a b (named statement names makings)
      (named again names more)
  entries_made [] makings more p a b here there within zipped placed = tt
  entries_made (name ∷ names) [] [] p a b here there within zipped placed = tt
  entries_made (name ∷ names) [] (other ∷ more) p a b here there within zipped placed =
      absurd zipped
  entries_made (name ∷ names) (making ∷ makings) [] p a b here there within zipped placed =
      absurd zipped
  entries_made (name ∷ names) (making ∷ makings) (other ∷ more) p a b here there within zipped
      placed =
      let output = place_of making.made in
      let output_ = place_of other.made in
      let same : output ≡ output_ =
      same_place SameFile pairs functions others zipped.0.how in
      let back = placed.0 in
      let first : k + (p - output) ≡ a - output = omega (arith, back, here) in
      let second : l + (p - output) ≡ b - output_ = omega (arith, back, there, same) in (
        record {
          name = refl;
          type = zipped.0.type;
          how = zipped.0.how;
          first =
              subst (λ n. Paired pairs n (b - output_)) first
              (subst (λ n. Paired pairs (k + (p - output)) n) second
              (all (p - output) (omega (arith, within))));
        },
        entries_made names makings more (suc p) (suc a) (suc b) (omega (arith, here))
            (omega (arith, there)) (omega (arith, within)) zipped.1 placed.1,
      )

named_long : (statement : ℕ) (names : List (List ℕ)) (makings : List Making)
    → length makings ≡ length names → length (named statement names makings) ≡ length makings
named_long statement [] [] same = refl
named_long statement [] (making ∷ makings) same = absurd (omega (arith, same))
named_long statement (name ∷ names) [] same = refl
named_long statement (name ∷ names) (making ∷ makings) same =
    ap suc (named_long statement names makings (omega (arith, same)))

pub with_nodes_long : (own : List (List ℕ)) (makings : List Making) (s : State)
    → length makings ≡ length own
    → length (with_nodes own makings s).nodes ≡ length s.nodes + length makings
with_nodes_long own makings s same =
    ap length (nodes-are own makings s)
    ∙ length-append s.nodes (named s.statements own makings)
    ∙ ap (λ n. length s.nodes + n) (named_long s.statements own makings same)

-- lets that differ in their lines alone
pub record SameLet (it other : TurnLet) : Type 0 where
  pub names : it.names ≡ other.names
  pub by : it.by ≡ other.by

-- two states behind two others: so many collections more on both sides, which are alike
pub record Added (SameFile : List ℕ → Type 0) (names : Names) (pairs : Pairs)
    (s r after behind : State) : Type 0 where
  pub many : ℕ
  pub here : length after.nodes ≡ length s.nodes + many
  pub there : length behind.nodes ≡ length r.nodes + many
  pub functions : after.functions ≡ s.functions
  pub functions_there : behind.functions ≡ r.functions
  pub alike : IsAlike SameFile names
      (pairs ++ along (length s.nodes) (length r.nodes) many) after behind

module _ (SameFile : List ℕ → Type 0) (names : Names) (pairs : Pairs) (s r : State)
    (alike : IsAlike SameFile names pairs s r) (own : List (List ℕ)) (makings more : List Making)
    (count : length makings ≡ length own)
    (zipped : AllZip (MakingAlike SameFile pairs s.functions r.functions) makings more)
    (placed : Placed 0 makings)
    (new : (name : List ℕ) → list_any (bytes_eq name) own ≡ true → find name s.names ≡ None)
    (new_there : (name : List ℕ) → list_any (bytes_eq name) own ≡ true
    → find name r.names ≡ None) where
  abbrev after : State
  after = with_nodes own makings s

  abbrev behind_ : State
  behind_ = with_nodes own more r

  abbrev lets : Named Node
  lets = named s.statements own makings

  abbrev lets_there : Named Node
  lets_there = named r.statements own more

  abbrev many : ℕ
  many = length makings

  abbrev all_pairs : Pairs
  all_pairs = pairs ++ along (length s.nodes) (length r.nodes) many

  as_many : many ≡ length more
  as_many = zip_length (MakingAlike SameFile pairs s.functions r.functions) makings more zipped

  among_old : (a b : ℕ) → Paired pairs a b → Paired all_pairs a b
  among_old a b is =
      Contains-append_left pairs (along (length s.nodes) (length r.nodes) many) (a, b) is

  among_new : (j : ℕ) → j < many → Paired all_pairs (length s.nodes + j) (length r.nodes + j)
  among_new j below =
      Contains-append_right pairs (along (length s.nodes) (length r.nodes) many)
      (length s.nodes + j, length r.nodes + j)
      (along_at (length s.nodes) (length r.nodes) many j below)

  met : (name : List ℕ) → holds_name names.collections name ≡ true → (b : Bool)
      → list_any (bytes_eq name) own ≡ b
      → Meet all_pairs
      (stands name (s.names ++ standing own makings (length s.nodes)))
      (stands name (r.names ++ standing own more (length r.nodes)))
  met name is true among =
      let first = stands_later name s.names (standing own makings (length s.nodes))
      (new name among) in
      let second = stands_later name r.names (standing own more (length r.nodes))
      (new_there name among) in
      subst (Meet all_pairs (stands name (s.names ++ standing own makings (length s.nodes))))
      (sym second)
      (subst (λ o. Meet all_pairs o (stands name (standing own more (length r.nodes))))
      (sym first)
      (standing_meet all_pairs name own makings more (length s.nodes) (length r.nodes) as_many
      among_new))
  met name is false away =
      let first = stands_more name s.names (standing own makings (length s.nodes))
      (none_standing name own makings (length s.nodes) away) in
      let second = stands_more name r.names (standing own more (length r.nodes))
      (none_standing name own more (length r.nodes) away) in
      subst (Meet all_pairs (stands name (s.names ++ standing own makings (length s.nodes))))
      (sym second)
      (subst (λ o. Meet all_pairs o (stands name r.names)) (sym first)
      (meet_more pairs all_pairs among_old (stands name s.names) (stands name r.names)
      (alike.collections name is)))

  zipped_more : AllZip (MakingAlike SameFile all_pairs s.functions r.functions) makings more
  zipped_more =
      zip_more (MakingAlike SameFile pairs s.functions r.functions)
      (MakingAlike SameFile all_pairs s.functions r.functions)
      (making_more SameFile pairs all_pairs s.functions r.functions s.functions r.functions
      among_old (λ f g same. same))
      makings more zipped

  lets_alike : EntriesAlike SameFile all_pairs s.functions r.functions (length s.nodes)
      (length r.nodes) lets lets_there
  lets_alike =
      entries_made SameFile all_pairs s.functions r.functions (length s.nodes) (length r.nodes)
      many s.statements r.statements among_new own makings more 0 (length s.nodes)
      (length r.nodes) (omega arith) (omega arith) (omega arith) zipped_more placed

  long : length lets ≡ many
  long = named_long s.statements own makings count

  node_at : (a b : ℕ) → Paired all_pairs a b
      → NodeAlike SameFile all_pairs s.functions r.functions (s.nodes ++ lets)
      (r.nodes ++ lets_there) a b
  node_at a b among =
      with_entries SameFile all_pairs s.functions r.functions pairs s.nodes r.nodes lets
      lets_there
      (λ c d is. node_more SameFile pairs all_pairs s.functions r.functions s.functions
      r.functions among_old (λ f g same. same) s.nodes s.nodes r.nodes r.nodes
      (λ k entry at. at) (λ k entry at. at) c d (alike.paired c d is))
      lets_alike a b
      (subst (λ n. Paired (pairs ++ along (length s.nodes) (length r.nodes) n) a b) (sym long)
      among)

  pub nodes_added : Added SameFile names pairs s r after behind_
  nodes_added = record {
    many = many;
    here =
        ap length (nodes-are own makings s) ∙ length-append s.nodes lets
        ∙ ap (λ n. length s.nodes + n) long;
    there =
        ap length (nodes-are own more r) ∙ length-append r.nodes lets_there
        ∙ ap (λ n. length r.nodes + n)
        (named_long r.statements own more (sym as_many ∙ count) ∙ sym as_many);
    functions = functions-are own makings s;
    functions_there = functions-are own more r;
    alike = record {
      collections = λ name is.
          subst (λ ns. Meet all_pairs (stands name after.names) (stands name ns))
          (sym (names_are own more r))
          (subst (λ ns. Meet all_pairs (stands name ns)
          (stands name (r.names ++ standing own more (length r.nodes))))
          (sym (names_are own makings s))
          (met name is (list_any (bytes_eq name) own) refl));
      functions = λ name is.
          subst (λ fs. FunctionsMeet (find name after.functions) (find name fs))
          (sym (functions-are own more r))
          (subst (λ fs. FunctionsMeet (find name fs) (find name r.functions))
          (sym (functions-are own makings s)) (alike.functions name is));
      paired = λ a b among.
          subst (λ ns. NodeAlike SameFile all_pairs after.functions behind_.functions after.nodes
          ns a b) (sym (nodes-are own more r))
          (subst (λ ns. NodeAlike SameFile all_pairs after.functions behind_.functions ns
          (r.nodes ++ lets_there) a b) (sym (nodes-are own makings s))
          (subst (λ fs. NodeAlike SameFile all_pairs after.functions fs (s.nodes ++ lets)
          (r.nodes ++ lets_there) a b) (sym (functions-are own more r))
          (subst (λ fs. NodeAlike SameFile all_pairs fs r.functions (s.nodes ++ lets)
          (r.nodes ++ lets_there) a b) (sym (functions-are own makings s))
          (node_at a b among))));
    };
  }

-- ---- lets as they are written

module _ (SameFile : List ℕ → Type 0) (names : Names) where
  abbrev pub Asked : Operation → Type 0
  Asked by =
      Each (λ name. holds_name names.collections name ≡ true) (operand_names by)
      × Each (λ name. holds_name names.functions name ≡ true) (callees by)

  pub named_added : (pairs : Pairs) (s r : State) → IsAlike SameFile names pairs s r
      → (line other : ℕ) (own : List (List ℕ)) (by : Operation) → Asked by
      → (after behind_ : State) → spec.let_rule line own by s ≡ Ok after
      → spec.let_rule other own by r ≡ Ok behind_ → Added SameFile names pairs s r after behind_
  named_added pairs s r alike line other own by asked after behind_ e f =
      let new = both (spec.all_fresh line (keys_of s.names) own) _ after e in
      let new_ = both (spec.all_fresh other (keys_of r.names) own) _ behind_ f in
      let makings = both (made_by line by s) _ after new.then in
      let makings_ = both (made_by other by r) _ behind_ new_.then in
      let fit = both (spec.all_fit line (length own) makings.part) _ after makings.then in
      let fit_ = both (spec.all_fit other (length own) makings_.part) _ behind_ makings_.then in
      let same =
      both (unless line Mistyped (eqb (length makings.part) (length own))) _ fit.part
      fit.first in
      let many =
      eqb-true (length makings.part) (length own) (holds line Mistyped _ same.part same.first) in
      subst (λ t. Added SameFile names pairs s r after t) (ok-same _ behind_ fit_.then)
      (subst (λ t. Added SameFile names pairs s r t (with_nodes own makings_.part r))
      (ok-same _ after fit.then)
      (nodes_added SameFile names pairs s r alike own makings.part makings_.part many
      (makes_alike SameFile names pairs s r alike line other by asked.0 asked.1 makings.part
      makings_.part makings.first makings_.first)
      (makes_placed line s by makings.part makings.first)
      (new_found line s.names own new.part new.first)
      (new_found other r.names own new_.part new_.first)))

  -- none
  none_added : (pairs : Pairs) (s r : State) → IsAlike SameFile names pairs s r
      → Added SameFile names pairs s r s r
  none_added pairs s r alike = record {
    many = 0;
    here = omega arith;
    there = omega arith;
    functions = refl;
    functions_there = refl;
    alike = subst (λ p. IsAlike SameFile names p s r) (sym (append-nil pairs)) alike;
  }

  -- some, and then more
  then_added : (pairs : Pairs) (s r middle between after behind_ : State)
      → (first : Added SameFile names pairs s r middle between)
      → Added SameFile names
      (pairs ++ along (length s.nodes) (length r.nodes) first.many) middle between after behind_
      → Added SameFile names pairs s r after behind_
  then_added pairs s r middle between after behind_ first second =
      let k = length s.nodes in
      let l = length r.nodes in
      let seam : along (length middle.nodes) (length between.nodes) second.many
      ≡ along (k + first.many) (l + first.many) second.many =
      λ i. along (first.here i) (first.there i) second.many in
      let all =
      append_assoc pairs (along k l first.many)
      (along (length middle.nodes) (length between.nodes) second.many)
      ∙ ap (λ p. pairs ++ (along k l first.many ++ p)) seam
      ∙ ap (λ p. pairs ++ p) (along_more k l first.many second.many) in
      record {
        many = first.many + second.many;
        here = omega (arith, first.here, second.here);
        there = omega (arith, first.there, second.there);
        functions = second.functions ∙ first.functions;
        functions_there = second.functions_there ∙ first.functions_there;
        alike = subst (λ p. IsAlike SameFile names p after behind_) all second.alike;
      }

  -- the lets of a body, which differ in lines alone
  pub all_added : (lets others : List TurnLet) → AllZip SameLet lets others
      → Each (λ it. Asked it.by) lets → (pairs : Pairs) (s r : State)
      → IsAlike SameFile names pairs s r → (after behind_ : State)
      → spec.all_named lets s ≡ Ok after → spec.all_named others r ≡ Ok behind_
      → Added SameFile names pairs s r after behind_
  all_added [] [] same asked pairs s r alike after behind_ e f =
      subst (λ t. Added SameFile names pairs s r after t) (ok-same r behind_ f)
      (subst (λ t. Added SameFile names pairs s r t r) (ok-same s after e)
      (none_added pairs s r alike))
  all_added [] (other ∷ others) same asked pairs s r alike after behind_ e f = absurd same
  all_added (it ∷ lets) [] same asked pairs s r alike after behind_ e f = absurd same
  all_added (it ∷ lets) (other ∷ others) same asked pairs s r alike after behind_ e f =
      let next = both (spec.let_rule it.line it.names it.by s) _ after e in
      let next_ = both (spec.let_rule other.line other.names other.by r) _ behind_ f in
      let first =
      named_added pairs s r alike it.line other.line it.names it.by asked.0 next.part next_.part
      next.first
      (subst (λ ns. spec.let_rule other.line ns it.by r ≡ Ok next_.part) (sym same.0.names)
      (subst (λ b. spec.let_rule other.line other.names b r ≡ Ok next_.part) (sym same.0.by)
      next_.first)) in
      then_added pairs s r next.part next_.part after behind_ first
      (all_added lets others same.1 asked.1
      (pairs ++ along (length s.nodes) (length r.nodes) first.many) next.part next_.part
      first.alike after behind_ next.then next_.then)
