-- The nodes of objects, and of what is made beside one, have types that fit.
use Rattle.std.proofs.Common.{◌≡◌, ℕ, ◌+◌, List, [], ◌∷◌, map, Some, refl, sym, ap, ◌∙◌, subst}
use Rattle.std.specs.List.{AllByRecursion as Each, AllZip}
use Rattle.combine_table.specs.declared.comb.Comb.{Comb}
use Rattle.flume_types.specs.declared.types.Ty.{Ty}
use Rattle.flume_types.specs.declared.types.Ty.TheVariants as type
use Rattle.flume_types.specs.Tables.{table_of}
use Rattle.exec_graph.specs.Typing.{IsArgument, IsRecord, NodeTyped, Signatures}
use Rattle.exec_graph.specs.declared.graph.Place.{Place}
use Rattle.graph_build.specs.Nodes.{first_of, made_nodes}
use Rattle.direct_meaning.proofs.TypeLemmas.{taken}
use Rattle.direct_meaning.specs.of_script_rules.Operations.{combined_type}
use Rattle.graph_build.specs.of_script_program.declared.made.Made.{Made}
use Rattle.graph_build.specs.of_script_program.declared.made.Made.TheVariants as made
use Rattle.graph_build.specs.of_script_program.Script.{Function, Script}
use Rattle.direct_meaning.specs.of_script_laws.WellFormed as script_

-- ---- what functions of objects take

as_record : (ts : List Ty) (t : Ty) → script_.IsRecord ts t → IsRecord ts t
as_record ts t h = record {
  fields = h.fields;
  record_of = h.record_of;
  in_order = h.in_order;
}

argument_of : (ts : List Ty) (t : Ty) → script_.IsArgument ts t → IsArgument ts t
argument_of [] t h = absurd h
argument_of (u ∷ []) t h = h
argument_of (u ∷ (v ∷ us)) t h = as_record (u ∷ (v ∷ us)) t h

-- where what is read has its types, they are those of the places
pub types_read : (τ : Place → Ty) (gives : ℕ → Place) (at : ℕ → Ty → Type 0) (js : List ℕ)
    (ts : List Ty) → Each (λ j. (u : Ty) → at j u → τ (gives j) ≡ u) js → AllZip at js ts
    → map τ (map gives js) ≡ ts
types_read τ gives at [] [] known read = refl
types_read τ gives at [] (t ∷ ts) known read = absurd read
types_read τ gives at (j ∷ js) [] known read = absurd read
types_read τ gives at (j ∷ js) (t ∷ ts) known read =
    λ i. known.0 t read.0 i ∷ types_read τ gives at js ts known.1 read.1 i

-- ---- nodes

module _ (s : Signatures) (τ : Place → Ty) (script : Script) (gives : ℕ → Place)
    (origin source n : ℕ) where
  abbrev Typed : Made → Type 0
  Typed made =
      Each (λ e. NodeTyped s τ e.number e.node) (made_nodes script gives origin source n made)

  pub whole_typed : (input : ℕ) (k : Comb) (member t : Ty) → combined_type k member ≡ Some t
      → τ (gives input) ≡ member → τ (first_of n) ≡ table_of type.Int member
      → τ (first_of (n + 1)) ≡ table_of type.Int (type.List member)
      → τ (first_of (n + 2)) ≡ table_of type.Int t → τ (first_of (n + 3)) ≡ t
      → Typed (made.CombineAll input k)
  whole_typed input k member t is read first second third fourth =
      let suits = taken k member t is in (
        ((table_of type.Int member, (refl, ap (table_of type.Int) (sym read)), first, tt), tt),
        (
          record { key = type.Int; value = member; takes = first; gives = second },
          (
            (
              (
                table_of type.Int t,
                (
                  refl,
                  record {
                    key = type.Int;
                    value = member;
                    takes = second;
                    suits = suits.0;
                    gives = ap (table_of type.Int) suits.1;
                  },
                ),
                third,
                tt,
              ),
              tt,
            ),
            (
              record {
                key = type.Int;
                value = member;
                takes = third ∙ ap (table_of type.Int) suits.1;
                suits = suits.0;
                gives = fourth ∙ suits.1;
              },
              tt,
            ),
          ),
        ),
      )

  -- a function of a script, by its number
  module _ (f : ℕ) (function : Function) (takes : s.takes f ≡ function.signature.takes)
      (gives_ : s.gives f ≡ function.signature.gives) where
    gives_one : (t : Ty) → function.signature.gives ≡ t ∷ [] → τ (first_of n) ≡ t
        → s.gives f ≡ τ (first_of n) ∷ []
    gives_one t one here = gives_ ∙ one ∙ ap (λ u. u ∷ []) (sym here)

    pub operate_typed : (objects : List ℕ) (ts : List Ty) (t : Ty)
        → script_.IsArgument ts function.signature.takes → function.signature.gives ≡ t ∷ []
        → map τ (map gives objects) ≡ ts → τ (first_of n) ≡ t → Typed (made.Operate objects f)
    operate_typed objects ts t fits one read here = (
      (
        subst (λ us. IsArgument us (s.takes f)) (sym read)
            (subst (IsArgument ts) (sym takes)
            (argument_of ts function.signature.takes fits)),
        gives_one t one here,
      ),
      tt,
    )

    pub beside_typed : (input object : ℕ) (member value t : Ty)
        → script_.IsRecord (member ∷ value ∷ []) function.signature.takes
        → function.signature.gives ≡ t ∷ [] → τ (gives input) ≡ member
        → τ (gives object) ≡ value → τ (first_of n) ≡ t → Typed (made.DoWith input f object)
    beside_typed input object member value t fits one read other here = (
      (
        subst (IsRecord (τ (gives input) ∷ τ (gives object) ∷ [])) (sym takes)
            (subst (λ ts. IsRecord ts function.signature.takes)
            (λ i. sym read i ∷ sym other i ∷ [])
            (as_record (member ∷ value ∷ []) function.signature.takes fits)),
        gives_one t one here,
      ),
      tt,
    )
