-- Of all nodes of a script's graph those of one place alone give what a collection has.
use Rattle.std.proofs.Common.{inl, inr, ◌≡◌, ℕ, suc, ◌+◌, ◌<◌, List, get_or, Some, None, sym, ap, ◌∙◌, subst, arith}
use Rattle.std.specs.Prelude.{slice_get}
use Rattle.std.specs.List.{flat_map}
use Rattle.flume_value.specs.declared.value.Value.{Value}
use Rattle.flume_collection.specs.Collection.{Collection}
use Rattle.exec_graph.specs.Meaning.{own}
use Rattle.exec_graph.specs.World.{World}
use Rattle.exec_graph.specs.declared.graph.Entry.{Entry}
use Rattle.exec_graph.specs.declared.graph.Place.{Place}
use Rattle.graph_build.specs.of_script_program.Needed.{made_of}
use Rattle.graph_build.specs.of_script_program.declared.made.Made.{Made}
use Rattle.graph_build.specs.of_script_program.declared.made.Made.TheVariants as made
use Rattle.graph_build.specs.of_script_program.Script.{Script}
use Rattle.direct_meaning.specs.of_script_laws.WellFormed.{IsWellFormed}
use Rattle.graph_build.specs.Built.{built}
use Rattle.graph_build.specs.Calls.{emitted_as, other_names}
use Rattle.graph_build.specs.Graphs.{nodes_of}
use Rattle.graph_build.specs.Nodes.{made_nodes}
use Rattle.build_law.proofs.Blocks.{one_block}
use Rattle.build_law.proofs.Calling.{built_made}
use Rattle.build_law.proofs.MadeKinds.{IsOther, Kind, built_of, called, other}
use Rattle.build_law.proofs.Naming.{IsCall}
use Rattle.build_law.proofs.Owning.{Apart, block_other, by_other}
use Rattle.build_law.proofs.Placing.{gives, source, start}
use Rattle.build_law.proofs.Slots.{IsSlot, call_slot, not_named, of_call, same_place, slot_of}

module _ (script : Script) (well : IsWellFormed script) (w : World) (m : Place → Collection) where
  same_made : (i : ℕ) (a b : Made) → slice_get (made_of script) i ≡ Some a
      → slice_get (made_of script) i ≡ Some b → a ≡ b
  same_made i a b h k = cc

  not_called : (input f o : ℕ) (how : Made) → IsOther how → made.Do input f o ≡ how → ⊥
  not_called input f o how apart same = subst IsOther (sym same) apart

  abbrev pub owned_of : ℕ → List Entry → List Value
  owned_of i es = flat_map (λ e. own w m i e.node) es

  -- what has no name of a call is built at itself alone
  alone_at : (s number : ℕ) (mk : Made) → emitted_as mk ≡ None
      → get_or (built script) s None ≡ Some (built_of number mk) → s ≡ number
  alone_at s number mk none found = by (slot_of script well s number mk found)
    where
      by : IsSlot script well s number mk → s ≡ number
      by (inl a) = sym a.place
      by (inr (inl a)) = (let e = sym none ∙ ap emitted_as a.made in cc)
      by (inr (inr a)) = (let e = sym none ∙ ap emitted_as a.made in cc)

  -- nodes of others give none of a collection that has no name of a call
  pub apart_alone : (j : ℕ) (how : Made) → emitted_as how ≡ None
      → slice_get (made_of script) j ≡ Some how → (s number : ℕ) {mk : Made} → Kind mk
      → get_or (built script) s None ≡ Some (built_of number mk) → (s ≡ j → ⊥)
      → Apart script w m (gives script) number (source script s) (start script s) j mk
  apart_alone j how none is s number (called input f o) found differ =
      let it = of_call script well s number input f o found in
      λ k below same.
      not_named script well it.first input f k it.call below how
      (ap (slice_get (made_of script)) (ap (λ n. n + k) (sym it.from) ∙ same) ∙ is) none
  apart_alone j how none is s number (other mk other_) found differ =
      by_other script w m (gives script) number (source script s) (start script s) j mk other_
      (λ same.
      let e : how ≡ mk =
      same_made j how mk is
      (ap (slice_get (made_of script)) (sym same) ∙ built_made script s number mk found) in
      differ (alone_at s number mk (ap emitted_as (sym e) ∙ none) found ∙ same))

  pub apart_called : (j input f o first : ℕ) → IsCall script first input f
      → o < suc (other_names script f) → first + o ≡ j
      → slice_get (made_of script) j ≡ Some (made.Do input f o)
      → (s number : ℕ) {mk : Made} → Kind mk
      → get_or (built script) s None ≡ Some (built_of number mk)
      → (s ≡ call_slot script first f → ⊥)
      → Apart script w m (gives script) number (source script s) (start script s) j mk
  apart_called j input f o first call low place is s number (called input_ f_ o_) found differ =
      let it = of_call script well s number input_ f_ o_ found in
      λ k below same.
      let e : it.first + k ≡ first + o = ap (λ n. n + k) (sym it.from) ∙ same ∙ sym place in
      let alike = same_place script well it.first first input_ input f_ f k o it.call call below
      low e in
      let here = alike.1 in
      let start_ : it.first ≡ first = omega arith in
      differ (sym it.slot ∙ (λ i. call_slot script (start_ i) (alike.0 i)))
  apart_called j input f o first call low place is s number (other mk other_) found differ =
      by_other script w m (gives script) number (source script s) (start script s) j mk other_
      (λ same.
      not_called input f o mk other_
      (same_made j (made.Do input f o) mk is
      (ap (slice_get (made_of script)) (sym same) ∙ built_made script s number mk found)))

  pub others_add : (j t number : ℕ) (mk : Made)
      → get_or (built script) t None ≡ Some (built_of number mk)
      → ((s n : ℕ) (how : Made) → get_or (built script) s None ≡ Some (built_of n how)
      → (s ≡ t → ⊥)
      → Apart script w m (gives script) n (source script s) (start script s) j how)
      → owned_of j (nodes_of script)
      ≡ owned_of j
      (made_nodes script (gives script) number (source script t) (start script t) mk)
  others_add j t number mk found apart =
      one_block script (gives script) (λ e. own w m j e.node) 0 0 (built script) t
      (built_of number mk) found
      (λ s b at differ.
      block_other script w m (gives script) b.number (source script s) (start script s) j b.made
      (apart s b.number b.made at differ))
