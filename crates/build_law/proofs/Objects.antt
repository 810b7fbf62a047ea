-- In the graph of a script objects are read where they are to be read.
use Rattle.std.proofs.Common.{◌≡◌, ℕ, zero, suc, ◌<◌, Bool, true, not, List, [], ◌∷◌, ◌++◌, map, length, get_or, Option, Some, None, refl, sym, ap, ◌∙◌, subst, arith, add-zero}
use Rattle.std.specs.Prelude.{slice_get}
use Rattle.std.specs.List.{AllByRecursion as Each, AllZip, Contains, list_all}
use Rattle.std.proofs.lemmas.Bool.{false≢true}
use Rattle.flume_collection.proofs.Members.{at_head, at_tail}
use Rattle.flume_value.proofs.BoolLemmas.{and_both}
use Rattle.flume_types.specs.declared.types.Ty.{Ty}
use Rattle.exec_graph.specs.Meaning.{node_at}
use Rattle.exec_graph.specs.Wellformed.{HaveObjects, has_objects, is_object, is_object_at}
use Rattle.exec_graph.specs.declared.graph.Entry.{Entry}
use Rattle.exec_graph.specs.declared.graph.Place.{Place}
use Rattle.graph_build.specs.Built.{built}
use Rattle.graph_build.specs.Graphs.{graph_of, nodes_of}
use Rattle.graph_build.specs.Nodes.{made_nodes}
use Rattle.graph_build.specs.Wanted.{wanted}
use Rattle.direct_meaning.specs.of_script_laws.WellFormed.{AllReadKinds, IsArgument, IsWellFormed, ReadsKinds, members_at, object_at}
use Rattle.graph_build.specs.of_script_program.Kinds.{gives_object}
use Rattle.graph_build.specs.of_script_program.Needed.{operands}
use Rattle.graph_build.specs.of_script_program.declared.made.Emitted.{Emitted}
use Rattle.graph_build.specs.of_script_program.declared.made.Made.{Made}
use Rattle.graph_build.specs.of_script_program.declared.made.Made.TheVariants as made
use Rattle.graph_build.specs.of_script_program.Script.{Node, Script}
use Rattle.written_types.specs.Named.{Named}
use Rattle.build_law.proofs.Blocks.{block_each, each_block}
use Rattle.build_law.proofs.Calling.{alone_built, built_wanted, needed_as}
use Rattle.build_law.proofs.Founded.{counts}
use Rattle.build_law.proofs.MadeKinds.{built_of}
use Rattle.build_law.proofs.Naming.{fits_at, operand_wanted}
use Rattle.build_law.proofs.Numbered.{at_counts}
use Rattle.build_law.proofs.Placing.{gives, has_kept, kept_place, other_place, source, start}
use Rattle.build_law.proofs.Slots.{kept_slot}
use Rattle.build_law.proofs.Values.{regrouped}

-- ---- objects of the script

object_more : (xs ys : Named Node) (j : ℕ) → object_at xs j ≡ Some true
    → object_at (xs ++ ys) j ≡ Some true
object_more [] ys j h = cc
object_more (x ∷ xs) ys zero h = h
object_more (x ∷ xs) ys (suc j) h = object_more xs ys j h

object_how : (nodes : Named Node) (j : ℕ) (how : Made) → object_at nodes j ≡ Some true
    → slice_get (map (λ entry. entry.1.made) nodes) j ≡ Some how → gives_object how ≡ true
object_how [] j how h is = cc
object_how (entry ∷ nodes) zero how h is =
    let same : entry.1.made ≡ how = cc in
    let own : gives_object entry.1.made ≡ true = cc in
    subst (λ (m : Made). gives_object m ≡ true) same own
object_how (entry ∷ nodes) (suc j) how h is = object_how nodes j how h is

-- a function of objects has one at least
some_objects : (before : Named Node) (objects : List ℕ) (types : List Ty) (takes : Ty)
    → AllZip (λ j t. members_at before j ≡ Some t) objects types → IsArgument types takes
    → 0 < length objects
some_objects before [] [] takes read h = absurd h
some_objects before [] (t ∷ types) takes read h = absurd read
some_objects before (j ∷ js) types takes read h = omega arith

-- ---- one collection's nodes

all_true : {A : Type 0} (p : A → Bool) (gives : ℕ → A) (js : List ℕ)
    → Each (λ j. p (gives j) ≡ true) js → list_all (λ b. b) (map p (map gives js)) ≡ true
all_true p gives [] h = refl
all_true p gives (j ∷ js) h =
    and_both (p (gives j)) (list_all (λ b. b) (map p (map gives js))) h.0
    (all_true p gives js h.1)

module _ (es : List Entry) (script : Script) (gives : ℕ → Place) (origin source n : ℕ) where
  -- each node is at its number
  abbrev pub AreAt : List Entry → Type 0
  AreAt ds = Each (λ e. node_at es e.number ≡ Some e.node) ds

  -- where the collection reads objects, what gives them are objects
  abbrev pub ReadsObjects : Made → Type 0
  ReadsObjects (made.Operate objects f) =
      (0 < length objects) × Each (λ j. is_object_at es (gives j) ≡ true) objects
  ReadsObjects (made.DoWith input f object) = is_object_at es (gives object) ≡ true
  ReadsObjects _ = Unit {0}

  operate_objects : (f : ℕ) (objects : List ℕ) → 0 < length objects
      → Each (λ j. is_object_at es (gives j) ≡ true) objects
      → Each (λ e. has_objects es e.node ≡ true)
      (made_nodes script gives origin source n (made.Operate objects f))
  operate_objects f [] some h = absurd (omega arith)
  operate_objects f (j ∷ js) some h = (all_true (is_object_at es) gives (j ∷ js) h, tt)

  block_objects : (mk : Made) → AreAt (made_nodes script gives origin source n mk)
      → ReadsObjects mk
      → Each (λ e. has_objects es e.node ≡ true) (made_nodes script gives origin source n mk)
  block_objects (made.Count input) at h = (refl, (refl, (refl, tt)))
  block_objects (made.Join left right) at h = (refl, (refl, (refl, (refl, (refl, tt)))))
  block_objects (made.Top many input) at h = (refl, (refl, (refl, (refl, tt))))
  block_objects (made.CombineAll input k) at h =
      (refl, (refl, (refl, (ap (λ o. not (is_object o)) at.1.1.0, tt))))
  block_objects (made.Operate objects f) at h = operate_objects f objects h.0 h.1
  block_objects (made.DoWith input f object) at h = (h, tt)
  block_objects _ at h = (refl, tt)

-- ---- all nodes

module _ (script : Script) (well : IsWellFormed script) where
  block_at : (t number : ℕ) (mk : Made)
      → get_or (built script) t None ≡ Some (built_of number mk)
      → AreAt (nodes_of script) script (gives script) number (source script t) (start script t)
      (made_nodes script (gives script) number (source script t) (start script t) mk)
  block_at t number mk found =
      block_each script (gives script)
      (λ (e : Entry). node_at (nodes_of script) e.number ≡ Some e.node) 0 0 (built script) t
      (built_of number mk) found (at_counts 0 (nodes_of script) (counts script well))

  -- an object of the script is one of the graph
  kept_there : (j : ℕ) (call : Option Emitted)
      → get_or (wanted script) j None ≡ Some (made.Saved true call)
      → is_object_at (nodes_of script) (gives script j) ≡ true
  kept_there j None found =
      let how : Made = made.Saved true None in
      ap (is_object_at (nodes_of script)) (other_place script j how refl found)
      ∙ ap (λ k. is_object (node_at (nodes_of script) k)) (add-zero (start script j))
      ∙ ap is_object (block_at j j how (alone_built script j how refl found)).0
  kept_there j (Some it) found =
      let how : Made = made.Saved true (Some it) in
      let n = has_kept script well j true it found in
      ap (is_object_at (nodes_of script))
      (kept_place script j true it n.name.first found n.name.place n.built_)
      ∙ ap (λ k. is_object (node_at (nodes_of script) k))
      (add-zero (start script (kept_slot script n.name.first it.output)))
      ∙ ap is_object (block_at (kept_slot script n.name.first it.output) j how n.built_).0

  object_there : (j : ℕ) (how : Made) → gives_object how ≡ true
      → get_or (wanted script) j None ≡ Some how
      → is_object_at (nodes_of script) (gives script j) ≡ true
  object_there j (made.CombineAll input k) is found =
      let how = made.CombineAll input k in
      ap (is_object_at (nodes_of script)) (other_place script j how refl found)
      ∙ ap is_object (block_at j j how (alone_built script j how refl found)).1.1.1.0
  object_there j (made.Operate objects f) is found =
      let how = made.Operate objects f in
      ap (is_object_at (nodes_of script)) (other_place script j how refl found)
      ∙ ap (λ k. is_object (node_at (nodes_of script) k)) (add-zero (start script j))
      ∙ ap is_object (block_at j j how (alone_built script j how refl found)).0
  object_there j (made.Saved is_object call) is found =
      kept_there j call
      (subst (λ b. get_or (wanted script) j None ≡ Some (made.Saved b call)) is found)
  object_there j _ is found = absurd (false≢true is)

  -- what a collection reads where it stands
  record KindsAt (how : Made) : Type 0 where
    pub before : Named Node
    pub rest : Named Node
    pub is : script.nodes ≡ before ++ rest
    pub kinds : ReadsKinds before how

  kinds_from : (before nodes : Named Node) (t : ℕ) (how : Made) → script.nodes ≡ before ++ nodes
      → AllReadKinds before nodes → slice_get (map (λ entry. entry.1.made) nodes) t ≡ Some how
      → KindsAt how
  kinds_from before [] t how is kinds found = cc
  kinds_from before (entry ∷ nodes) zero how is kinds found =
      let same : entry.1.made ≡ how = cc in
      record {
        before = before;
        rest = entry ∷ nodes;
        is = is;
        kinds = subst (λ (m : Made). ReadsKinds before m) same kinds.0;
      }
  kinds_from before (entry ∷ nodes) (suc t) how is kinds found =
      kinds_from (before ++ entry ∷ []) nodes t how
      (regrouped script.nodes before (entry ∷ []) nodes is) kinds.1 found

  kinds_at : (j : ℕ) (how : Made) → get_or (wanted script) j None ≡ Some how → KindsAt how
  kinds_at j how found =
      kinds_from [] script.nodes j how refl well.kinds (needed_as script j how found).made

  -- what a needed collection reads as an object
  read_object : (number : ℕ) (mk : Made) → get_or (wanted script) number None ≡ Some mk
      → (before rest : Named Node) → script.nodes ≡ before ++ rest → (j : ℕ)
      → Contains (operands mk) j → object_at before j ≡ Some true
      → is_object_at (nodes_of script) (gives script j) ≡ true
  read_object number mk found before rest is j reads_ object =
      let it = operand_wanted script well number j mk found reads_ in
      object_there j it.0
      (object_how script.nodes j it.0
      (subst (λ nodes. object_at nodes j ≡ Some true) (sym is)
      (object_more before rest j object))
      (needed_as script j it.0 it.1).made)
      it.1

  read_objects : (number : ℕ) (mk : Made) → get_or (wanted script) number None ≡ Some mk
      → (before rest : Named Node) → script.nodes ≡ before ++ rest → (js : List ℕ)
      → ((j : ℕ) → Contains js j → Contains (operands mk) j)
      → Each (λ j. object_at before j ≡ Some true) js
      → Each (λ j. is_object_at (nodes_of script) (gives script j) ≡ true) js
  read_objects number mk found before rest is [] among h = tt
  read_objects number mk found before rest is (j ∷ js) among h = (
    read_object number mk found before rest is j (among j (at_head j js)) h.0,
    read_objects number mk found before rest is js (λ i there. among i (at_tail j js i there))
        h.1,
  )

  objects_read : (number s n : ℕ) (mk : Made) → get_or (wanted script) number None ≡ Some mk
      → ReadsObjects (nodes_of script) script (gives script) number s n mk
  objects_read number s n (made.Operate objects f) found =
      let how = made.Operate objects f in
      let fit = fits_at script well number how (needed_as script number how found).made in
      let it = kinds_at number how found in (
        some_objects fit.before objects fit.fit.types fit.fit.function.signature.takes
            fit.fit.reads fit.fit.takes,
        read_objects number how found it.before it.rest it.is objects (λ j reads_. reads_)
            it.kinds.values,
      )
  objects_read number s n (made.DoWith input f object) found =
      let how = made.DoWith input f object in
      let it = kinds_at number how found in
      read_object number how found it.before it.rest it.is object
      (at_tail input (object ∷ []) object (at_head object [])) it.kinds.values.0
  objects_read number s n _ found = tt

  pub have_objects : HaveObjects (graph_of script).nodes
  have_objects =
      each_block script (gives script)
      (λ (e : Entry). has_objects (nodes_of script) e.node ≡ true) 0 0 (built script)
      (λ t b found.
      block_objects (nodes_of script) script (gives script) b.number (source script t)
      (start script t) b.made (block_at t b.number b.made found)
      (objects_read b.number (source script t) (start script t) b.made
      (built_wanted script t b.number b.made found)))
