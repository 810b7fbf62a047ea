-- Collections with one key are the same.
use Rattle.std.proofs.Common.{◌≡◌, ℕ, nat_lt, true, false, ◌||◌, List, [], ◌∷◌, ◌++◌, length, Option, Some, Ok, refl, sym, ap, ◌∙◌, subst}
use Rattle.std.specs.List.{Contains}
use Rattle.std.specs.Option.{option_map}
use Rattle.flume_collection.proofs.Members.{at_head, not_in_none}
use Rattle.flume_collection.specs.Collection.{Collection}
use Rattle.flume_collection.specs.declared.trap.Trap.{Trap}
use Rattle.flume_grammar.specs.declared.tree.Statement.{Statement}
use Rattle.flume_grammar.specs.declared.fault.ScriptKind.TheVariants.{NoOutput}
use Rattle.written_types.specs.Answer.{unless}
use Rattle.written_types.specs.Named.{Named}
use Rattle.script_keys.specs.Rests.{holds_name, name_alone}
use Rattle.script_keys.specs.declared.rests.Names.{Names}
use Rattle.script_program.specs.Kinds.{gives_object}
use Rattle.script_program.specs.Needed.{is_needed, outputs_read}
use Rattle.script_program.specs.declared.made.Output.{Output}
use Rattle.script_program.specs.Script.{Node, Script, State, empty_state, script_from}
use Rattle.direct_meaning.specs.of_script_rules.Rules as spec
use Rattle.direct_meaning.proofs.of_script_rules.CheckedLemmas.{both, ok-same}
use Rattle.direct_meaning.proofs.of_script_laws.NeededLemmas.{needed_law}
use Rattle.direct_meaning.proofs.of_script_laws.RuleLemmas.{well-formed}
use Rattle.direct_meaning.specs.of_script_laws.WellFormed.{IsWellFormed, members_at, object_at}
use Rattle.statement_law.specs.Outlined.{outlines_of}
use Rattle.statement_texts.specs.Texts.{texts_of}
use Rattle.direct_meaning.specs.Direct.{collections, made_at}
use Rattle.key_meaning.proofs.Aligning.{Aligned}
use Rattle.key_meaning.proofs.Alike.{IsAlike, NodeAlike, Paired, Pairs, same_kind, stands}
use Rattle.key_meaning.proofs.Courses.{Rises, go_on, none}
use Rattle.direct_meaning.proofs.PlaceLemmas.{mapped_has}
use Rattle.key_meaning.proofs.Equations.{Stood, stood}
use Rattle.key_meaning.proofs.Finding.{meet_some}
use Rattle.key_meaning.proofs.Keeping.{bytes_itself}
use Rattle.key_meaning.proofs.Keys.{SameBytes, align, contents, same_keys}
use Rattle.key_meaning.proofs.Ways.{CollectionAlike, OptionAlike}
use Rattle.key_meaning.proofs.Meaning.{all_alike}
use Rattle.key_meaning.proofs.Outputs.{OutputsStand, all_stand}
use Rattle.key_meaning.proofs.Pieces.{same_last}
use Rattle.key_meaning.proofs.Resting.{sizes_same}
use Rattle.key_meaning.proofs.Sources.{ArePlain, plain_meaning, written_plain}
use Rattle.key_meaning.proofs.Traps.{TrapAlike}
use Rattle.key_meaning.specs.Keyed.{IsSameFor, Keyed, key}
use Rattle.key_meaning.specs.Told.{AboutTexts}
use Rattle.key_meaning.specs.Same.{AreAmong, IsSameCollection, IsSameTrap}

-- ---- what statements define

record Defines (statements : List Statement) (script : Script) : Type 0 where
  pub state : State
  pub defines : spec.defined statements empty_state ≡ Ok state
  pub script_is : script_from state ≡ script

defines_of : (statements : List Statement) (script : Script)
    → spec.script_of statements ≡ Ok script → Defines statements script
defines_of statements script e =
    let s = both (spec.defined statements empty_state) _ script e in
    let some = both (unless 0 NoOutput (nat_lt 0 (length s.part.outputs))) _ script s.then in
    record {
      state = s.part;
      defines = s.first;
      script_is = ok-same (script_from s.part) script some.then;
    }

nothing_stands : OutputsStand empty_state
nothing_stands entry among = absurd (not_in_none entry among)

-- nothing is alike
nothing_alike : (SameFile : List ℕ → Type 0) (names : Names)
    → IsAlike SameFile names [] empty_state empty_state
nothing_alike SameFile names = record {
  collections = λ name is. tt;
  functions = λ name is. tt;
  paired = λ a b among. absurd (not_in_none (a, b) among);
}

-- ---- in the words of the law

module _ (SameFile : List ℕ → Type 0) (pairs : Pairs) (one other : Script)
    (paired : (a b : ℕ) → Paired pairs a b
    → NodeAlike SameFile pairs one.functions other.functions one.nodes other.nodes a b) where
  trap_same : (t u : Trap) → TrapAlike pairs t u → IsSameTrap one.nodes other.nodes t u
  trap_same t u alike =
      let node = paired t.origin u.origin alike.origin in
      record {
        name =
            ap (option_map (λ (e : List ℕ × Node). e.0)) node.here ∙ ap Some node.alike.name
            ∙ sym (ap (option_map (λ (e : List ℕ × Node). e.0)) node.there);
        element = alike.element;
        kind = alike.kind;
      }

  collection_same : (c d : Collection) → CollectionAlike pairs c d
      → IsSameCollection one.nodes other.nodes c d
  collection_same c d alike = record {
    bag = alike.bag;
    forth = λ t among.
        let it = alike.traps.forth t among in
        (it.0, it.1, trap_same t it.0 it.2);
    back = λ u among.
        let it = alike.traps.back u among in
        (it.0, it.1, trap_same it.0 u it.2);
  }

  type_same : (a b : ℕ) → Paired pairs a b
      → members_at one.nodes a ≡ members_at other.nodes b
  type_same a b is =
      let node = paired a b is in
      ap (option_map (λ (e : List ℕ × Node). e.1.type)) node.here ∙ ap Some node.alike.type
      ∙ sym (ap (option_map (λ (e : List ℕ × Node). e.1.type)) node.there)

  pub kind_same : (a b : ℕ) → Paired pairs a b
      → object_at one.nodes a ≡ object_at other.nodes b
  kind_same a b is =
      let node = paired a b is in
      ap (option_map (λ (e : List ℕ × Node). gives_object e.1.made)) node.here
      ∙ ap Some (same_kind SameFile pairs one.functions other.functions node.alike.how)
      ∙ sym (ap (option_map (λ (e : List ℕ × Node). gives_object e.1.made)) node.there)

both_some : (pairs : Pairs) (o p : Option Collection) (c d : Collection) → o ≡ Some c
    → p ≡ Some d → OptionAlike pairs o p → CollectionAlike pairs c d
both_some pairs o p c d here there alike =
    subst (OptionAlike pairs (Some c)) there (subst (λ x. OptionAlike pairs x p) here alike)

-- ---- two that meet

module _ (one other : Keyed) (names : one.output.name ≡ other.output.name) where
  abbrev ss : List Statement
  ss = one.work.statements

  abbrev rs : List Statement
  rs = other.work.statements

  abbrev Same : List ℕ → Type 0
  Same = SameBytes one.work.files other.work.files

  well : IsWellFormed one.work.script
  well = well-formed ss one.work.script one.work.checked

  well_ : IsWellFormed other.work.script
  well_ = well-formed rs other.work.script other.work.checked

  plain : ArePlain one.work.script.nodes
  plain = written_plain ss one.work.script one.work.checked

  plain_ : ArePlain other.work.script.nodes
  plain_ = written_plain rs other.work.script other.work.checked

  means : collections one.work.script one.work.script.nodes one.work.rows [] ≡ Some one.work.made
  means = plain_meaning one.work.script plain one.work.rows one.work.made one.work.means

  means_ : collections other.work.script other.work.script.nodes other.work.rows []
      ≡ Some other.work.made
  means_ = plain_meaning other.work.script plain_ other.work.rows other.work.made other.work.means

  module _ (pairs : Pairs)
      (rises : Rises pairs (length one.work.script.nodes) (length other.work.script.nodes))
      (paired : (a b : ℕ) → Paired pairs a b
      → NodeAlike Same pairs one.work.script.functions other.work.script.functions
      one.work.script.nodes other.work.script.nodes a b)
      (own : Paired pairs one.output.reads other.output.reads) where
    abbrev a : ℕ
    a = one.output.reads

    abbrev b : ℕ
    b = other.output.reads

    read_here : Contains (outputs_read one.work.script) a
    read_here =
        mapped_has (λ (e : List ℕ × Output). e.1.reads) one.work.script.outputs
        (one.file, one.output) one.asked

    read_there : Contains (outputs_read other.work.script) b
    read_there =
        mapped_has (λ (e : List ℕ × Output). e.1.reads) other.work.script.outputs
        (other.file, other.output) other.asked

    needed_here : is_needed one.work.script a ≡ true
    needed_here = (needed_law one.work.script well a).1 ([], read_here)

    needed_there : is_needed other.work.script b ≡ true
    needed_there = (needed_law other.work.script well_ b).1 ([], read_there)

    alike : (x y : ℕ) → Paired pairs x y → is_needed one.work.script x ≡ true
        → is_needed other.work.script y ≡ true
        → OptionAlike pairs (made_at one.work.made x) (made_at other.work.made y)
    alike =
        all_alike one.work.files other.work.files one.work.script other.work.script well well_ plain
        plain_ one.work.rows other.work.rows one.work.made other.work.made means means_
        one.work.read other.work.read pairs paired

    node : NodeAlike Same pairs one.work.script.functions other.work.script.functions
        one.work.script.nodes other.work.script.nodes a b
    node = paired a b own

    stood_here : Stood one.work.script one.work.files one.work.made a node.entry.1.made
        node.entry.1.type
    stood_here =
        stood one.work.script one.work.files plain one.work.rows one.work.made means
        one.work.read a node.entry node.here needed_here

    stood_there : Stood other.work.script other.work.files other.work.made b node.other.1.made
        node.other.1.type
    stood_there =
        stood other.work.script other.work.files plain_ other.work.rows other.work.made means_
        other.work.read b node.other node.there needed_there

    pub is_same : IsSameFor one other
    is_same = record {
      name = names;
      type = type_same Same pairs one.work.script other.work.script paired a b own;
      kind = kind_same Same pairs one.work.script other.work.script paired a b own;
      here = stood_here.collection;
      there = stood_there.collection;
      made_here = stood_here.is;
      made_there = stood_there.is;
      same =
          collection_same Same pairs one.work.script other.work.script paired
          stood_here.collection stood_there.collection
          (both_some pairs (made_at one.work.made a) (made_at other.work.made b)
          stood_here.collection stood_there.collection stood_here.is stood_there.is
          (alike a b own needed_here needed_there));
      sizes =
          sizes_same Same one.work.script other.work.script well well_ pairs rises paired
          (one.file, one.output) (other.file, other.output) one.asked other.asked own
          one.work.made other.work.made alike read_here read_there;
    }

  -- the scripts as what their statements define
  from_aligned : Aligned Same one.output.name ss rs → IsSameFor one other
  from_aligned aligned =
      let s = defines_of ss one.work.script one.work.checked in
      let r = defines_of rs other.work.script other.work.checked in
      let meets =
      go_on Same one.output.name aligned [] empty_state empty_state (nothing_alike Same _) none
      (λ is. refl)
      s.state r.state s.defines r.defines in
      let stand = all_stand ss empty_state s.state nothing_stands s.defines in
      let stand_ = all_stand rs empty_state r.state nothing_stands r.defines in
      let name = one.output.name in
      let itself : holds_name (name_alone name).collections name ≡ true =
      λ i. bytes_itself name i || false in
      let asked =
      subst (λ (script : Script). Contains script.outputs (one.file, one.output)) (sym s.script_is)
      one.asked in
      let asked_ =
      subst (λ (script : Script). Contains script.outputs (other.file, other.output))
      (sym r.script_is) other.asked in
      let own =
      meet_some meets.pairs (stands name s.state.names) (stands name r.state.names)
      one.output.reads other.output.reads (stand (one.file, one.output) asked)
      (ap (λ n. stands n r.state.names) names ∙ stand_ (other.file, other.output) asked_)
      (meets.alike.collections name itself) in
      is_same meets.pairs
      (subst (λ (q : Script). Rises meets.pairs (length one.work.script.nodes) (length q.nodes))
      r.script_is
      (subst (λ (q : Script). Rises meets.pairs (length q.nodes) (length r.state.nodes))
      s.script_is meets.rises))
      (λ x y is.
      subst
      (λ (q : Script). NodeAlike Same meets.pairs one.work.script.functions q.functions
      one.work.script.nodes q.nodes x y) r.script_is
      (subst
      (λ (q : Script). NodeAlike Same meets.pairs q.functions r.state.functions q.nodes
      r.state.nodes x y) s.script_is (meets.alike.paired x y is)))
      own

-- ---- the law

none_among : (nodes others : Named Node) (ts us : List Trap) → ts ≡ []
    → AreAmong (λ trap other. IsSameTrap nodes others other trap) us ts → us ≡ []
none_among nodes others ts [] none_ among = refl
none_among nodes others ts (u ∷ us) none_ among =
    let it = among u (at_head u us) in
    absurd (not_in_none it.0 (subst (λ l. Contains l it.0) none_ it.1))

-- there are no traps in the other where there are none in the one
pub none_there : (one other : Keyed) (it : IsSameFor one other) → it.here.traps ≡ []
    → it.there.traps ≡ []
none_there one other it clean =
    none_among one.work.script.nodes other.work.script.nodes it.here.traps it.there.traps clean
    it.same.back

pub whole_law : AboutTexts → (one other : Keyed) → key one ≡ key other → IsSameFor one other
whole_law law one other e =
    let w = one.work in
    let v = other.work in
    let ts = texts_of w.tokens.items in
    let us = texts_of v.tokens.items in
    let n = one.output.name in
    let m = other.output.name in
    let all =
    same_keys w.files v.files w.files_short v.files_short n m one.short other.short
    (outlines_of w.statements) (outlines_of v.statements) ts us w.texts_short v.texts_short e in
    let names =
    same_last (contents w.files n (outlines_of w.statements) ts)
    (contents v.files m (outlines_of v.statements) us) n m all in
    let under_one =
    subst
    (λ x. contents w.files n (outlines_of w.statements) ts ++ n ∷ []
    ≡ contents v.files x (outlines_of v.statements) us ++ x ∷ [])
    (sym names) all in
    from_aligned one other names
    (align w.files v.files n w.statements ts
    (law.texts w.bytes w.tokens w.statements w.cut w.spelled)
    v.statements us (law.texts v.bytes v.tokens v.statements v.cut v.spelled)
    (λ j k s r text here at there at_.
    law.same w.bytes v.bytes w.tokens v.tokens w.statements v.statements j k s r text w.cut
    w.spelled v.cut v.spelled here at there at_)
    under_one)
