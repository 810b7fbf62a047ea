-- The type of a source, and whether it is an object, stand at its number.
use Rattle.std.proofs.Common.{◌≡◌, ℕ, zero, suc, Bool, true, false, cond, List, [], ◌∷◌, ◌++◌, length, get_or, Some, None, refl, sym, ap, ◌∙◌, arith, length-append}
use Rattle.std.specs.Prelude.{if◌then◌else◌, slice_get}
use Rattle.std.specs.List.{filter, flat_map}
use Rattle.flume_types.specs.declared.types.Ty.{Ty}
use Rattle.written_types.specs.Named.{Named}
use Rattle.graph_build.specs.of_script_program.Needed.{is_needed, collections_numbered}
use Rattle.graph_build.specs.of_script_program.declared.made.Made.{Made}
use Rattle.graph_build.specs.of_script_program.declared.made.Made.TheVariants as made
use Rattle.graph_build.specs.of_script_program.Script.{Node, Script}
use Rattle.direct_meaning.specs.of_script_laws.WellFormed.{IsWellFormed, members_at}
use Rattle.direct_meaning.specs.Inputs.{Sourced, sourced, sourced_by}
use Rattle.graph_build.specs.Built.{built}
use Rattle.graph_build.specs.Nodes.{sources_made, source_number}
use Rattle.graph_build.specs.Wanted.{wanted, wanted_from}
use Rattle.build_law.specs.Signatures.{sources_of}
use Rattle.build_law.proofs.Blocks.{source_at}
use Rattle.build_law.proofs.Calling.{built_made, built_wanted, if_some, slice_seam}
use Rattle.build_law.proofs.EachNode.{IsSource}
use Rattle.build_law.proofs.MadeKinds.{IsOther, built_of}
use Rattle.build_law.proofs.Naming.{fits_at}
use Rattle.build_law.proofs.SourceLists.{source_stands}
use Rattle.build_law.proofs.Sourcing.{next_wanted, same_sources, wanted_source}
use Rattle.build_law.proofs.Values.{regrouped}

-- as many sources as nodes read
as_many_sources : (how : Made) (t : Ty) → length (sourced_by how t) ≡ sources_made how
as_many_sources (made.Input file columns) t = refl
as_many_sources _ t = refl

module _ (script : Script) where
  abbrev sources_from : ℕ → Named Node → List Sourced
  sources_from origin nodes =
      flat_map (λ it. sourced_by it.1.1.made it.1.1.type)
      (filter (λ it. is_needed script it.0) (collections_numbered origin nodes))

  abbrev sources_if : Bool → Made → Ty → List Sourced
  sources_if true how t = sourced_by how t
  sources_if false how t = []

  picked : (b : Bool) (origin : ℕ) (entry : List ℕ × Node)
      (others : List (ℕ × (List ℕ × Node)))
      → flat_map (λ it. sourced_by it.1.1.made it.1.1.type)
      (cond b ((origin, entry) ∷ others) others)
      ≡ sources_if b entry.1.made entry.1.type
      ++ flat_map (λ it. sourced_by it.1.1.made it.1.1.type) others
  picked true origin entry others = refl
  picked false origin entry others = refl

  next_sources : (b : Bool) (how : Made) (t : Ty) (pre : List Sourced) (k : ℕ) → length pre ≡ k
      → length (pre ++ sources_if b how t) ≡ next_wanted k (if b then Some how else None)
  next_sources true how t pre k h =
      let one = length-append pre (sourced_by how t) in
      let two = as_many_sources how t in omega arith
  next_sources false how t pre k h = let one = length-append pre [] in omega arith

  -- a source that is needed is the next one
  source_here : (whole pre : List Sourced) (nodes : Named Node) (origin k t : ℕ) (how : Made)
      (u : Ty) (x : Sourced) → whole ≡ pre ++ sources_from origin nodes → length pre ≡ k
      → get_or (wanted_from script origin nodes) t None ≡ Some how
      → members_at nodes t ≡ Some u → sourced_by how u ≡ x ∷ []
      → slice_get whole (wanted_source k (wanted_from script origin nodes) t) ≡ Some x
  source_here whole pre [] origin k t how u x is size found has one = cc
  source_here whole pre (entry ∷ nodes) origin k zero how u x is size found has one =
      let own = if_some (is_needed script origin) entry.1.made how found in
      let same : entry.1.type ≡ u = cc in
      let others = filter (λ it. is_needed script it.0) (collections_numbered (suc origin) nodes) in
      let rest : List Sourced = flat_map (λ it. sourced_by it.1.1.made it.1.1.type) others in
      slice_seam whole pre rest x k
      (is ∙ ap (λ ws. pre ++ ws)
      (picked (is_needed script origin) origin entry others
      ∙ (λ i. sources_if (own.0 i) (own.1 i) (same i) ++ rest)
      ∙ ap (λ l. l ++ rest) one))
      size
  source_here whole pre (entry ∷ nodes) origin k (suc t) how u x is size found has one =
      let b = is_needed script origin in
      let others = filter (λ it. is_needed script it.0) (collections_numbered (suc origin) nodes) in
      source_here whole (pre ++ sources_if b entry.1.made entry.1.type) nodes (suc origin)
      (next_wanted k (if b then Some entry.1.made else None)) t how u x
      (regrouped whole pre (sources_if b entry.1.made entry.1.type)
      (flat_map (λ it. sourced_by it.1.1.made it.1.1.type) others)
      (is ∙ ap (λ ws. pre ++ ws) (picked b origin entry others)))
      (next_sources b entry.1.made entry.1.type pre k size) found has one

module _ (script : Script) (well : IsWellFormed script) where
  -- what is built as a source stands at its number
  pub source_is : (t number : ℕ) (mk : Made) (u : Ty) (x : Sourced) → IsOther mk
      → get_or (built script) t None ≡ Some (built_of number mk)
      → members_at script.nodes number ≡ Some u → sourced_by mk u ≡ x ∷ []
      → slice_get (sources_of script) (source_number script (source_at 0 (built script) t))
      ≡ Some x
  source_is t number mk u x apart found has one =
      ap (λ s. slice_get (sources_of script) (source_number script s))
      (same_sources script well t number mk apart found)
      ∙ source_stands script (wanted_source 0 (wanted script) number) x
      (source_here script (sourced script) [] script.nodes 0 0 number mk u x refl refl
      (built_wanted script t number mk found) has one)

  -- a source is there, an object where it is one
  pub record HasSource (t : ℕ) (is_object : Bool) : Type 0 where
    pub it : Sourced
    pub at : slice_get (sources_of script) (source_number script (source_at 0 (built script) t))
        ≡ Some it
    pub kind : it.is_object ≡ is_object

  pub has_source : (t number : ℕ) (mk : Made) (is_object : Bool)
      → get_or (built script) t None ≡ Some (built_of number mk) → IsSource mk is_object
      → HasSource t is_object
  has_source t number mk is_object found is =
      let fit = fits_at script well number mk (built_made script t number mk found) in
      by mk found is fit.type fit.has
    where
      source_of : (how : Made) (x : Sourced) → IsOther how
          → get_or (built script) t None ≡ Some (built_of number how)
          → members_at script.nodes number ≡ Some x.type → sourced_by how x.type ≡ x ∷ []
          → is_object ≡ x.is_object → HasSource t is_object
      source_of how x apart at has one is = record {
        it = x;
        at = source_is t number how x.type x apart at has one;
        kind = sym is;
      }

      by : (how : Made) → get_or (built script) t None ≡ Some (built_of number how)
          → IsSource how is_object → (u : Ty) → members_at script.nodes number ≡ Some u
          → HasSource t is_object
      by (made.Input file columns) at is u has =
          source_of (made.Input file columns) (record { type = u; is_object = false }) tt at has
          refl is
      by (made.Saved own call) at is u has =
          source_of (made.Saved own call) (record { type = u; is_object = own }) tt at has refl is
      by _ at is u has = absurd is
