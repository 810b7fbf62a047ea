-- What the nodes of a place read is built at an earlier one.
use Rattle.std.proofs.Common.{inl, inr, ◌≡◌, ◌⊎◌, ℕ, zero, suc, ◌+◌, ◌-◌, ◌<◌, ◌≤◌, Bool, true, false}
use Rattle.std.proofs.Common.{get_or, Some, None, sym, ap, ◌∙◌, subst, arith}
use Rattle.std.specs.Prelude.{slice_get}
use Rattle.std.specs.List.{Contains}
use Rattle.flume_collection.proofs.Members.{not_in_none}
use Rattle.graph_build.specs.of_script_program.Needed.{made_of, operands}
use Rattle.graph_build.specs.of_script_program.declared.made.Emitted.{Emitted}
use Rattle.graph_build.specs.of_script_program.declared.made.Made.{Made}
use Rattle.graph_build.specs.of_script_program.declared.made.Made.TheVariants as made
use Rattle.graph_build.specs.of_script_program.Script.{Script}
use Rattle.direct_meaning.specs.of_script_laws.WellFormed.{IsWellFormed}
use Rattle.graph_build.specs.Built.{built}
use Rattle.graph_build.specs.Calls.{emitted_as, emitted_at, is_kept_at, other_names}
use Rattle.graph_build.specs.Wanted.{wanted}
use Rattle.build_law.proofs.Calling.{built_made, how_emitted, how_kept, needed_as}
use Rattle.build_law.proofs.MadeKinds.{built_of}
use Rattle.build_law.proofs.Names.{few_kept, kept_before}
use Rattle.build_law.proofs.Naming.{operand_early}
use Rattle.build_law.proofs.Placing.{HasCall, HasKept}
use Rattle.build_law.proofs.Slots.{IsAlone, IsCallNode, IsKeptName, IsSlot, call_slot, kept_slot, not_named, same_place, slot_of}

either : (a b : ℕ) → (a < b) ⊎ (b ≤ a)
either a zero = inr (omega arith)
either zero (suc b) = inl (omega arith)
either (suc a) (suc b) = more (either a b)
  where
    more : (a < b) ⊎ (b ≤ a) → (suc a < suc b) ⊎ (suc b ≤ suc a)
    more (inl low) = inl (omega arith)
    more (inr up) = inr (omega arith)

module _ (script : Script) (well : IsWellFormed script) where
  module _ (t number : ℕ) (mk : Made)
      (found : get_or (built script) t None ≡ Some (built_of number mk)) (j : ℕ)
      (reads : Contains (operands mk) j) where
    early : j < number
    early = operand_early script well number j mk (built_made script t number mk found) reads

    no_reads : IsKeptName script well t number mk → ⊥
    no_reads a = not_in_none j (subst (λ l. Contains l j) (ap operands a.made) reads)

    -- ---- behind one that has no name of a call

    call_at_alone : (input f o : ℕ) → IsAlone script well t number mk
        → (n : HasCall script well j input f o)
        → (t < n.first + suc (other_names script f)) ⊎ (n.first + suc (other_names script f) ≤ t)
        → call_slot script n.first f < t
    call_at_alone input f o a n (inl inside) =
        let low = early in
        let place = n.place in
        let same = a.place in
        let e : n.first + (t - n.first) ≡ t = omega arith in
        absurd
        (not_named script well n.first input f (t - n.first) n.call (omega arith) mk
        (ap (slice_get (made_of script)) (e ∙ sym same) ∙ built_made script t number mk found)
        a.none)
    call_at_alone input f o a n (inr behind) = let few = n.name.low in omega arith

    -- ---- behind a call

    module _ (a : IsCallNode script well t number mk) where
      alone_at_call : (how : Made) → emitted_as how ≡ None
          → get_or (wanted script) j None ≡ Some how → (j < a.first) ⊎ (a.first ≤ j) → j < t
      alone_at_call how none at (inl before) = let slot = a.slot in omega arith
      alone_at_call how none at (inr inside) =
          let low = early in
          let is = a.is in
          let below = a.below in
          let e : a.first + (j - a.first) ≡ j = omega arith in
          absurd
          (not_named script well a.first a.source a.f (j - a.first) a.call (omega arith) how
          (ap (slice_get (made_of script)) e ∙ (needed_as script j how at).made) none)

      kept_at_call : (is_object : Bool) (it : Emitted)
          → get_or (wanted script) j None ≡ Some (made.Saved is_object (Some it))
          → (n : HasKept script well j is_object it) → (j < a.first) ⊎ (a.first ≤ j)
          → kept_slot script n.name.first it.output < t
      kept_at_call is_object it at n (inl before) =
          let few = few_kept script n.name.first it.output in
          let place = n.name.place in
          let slot = a.slot in
          omega arith
      kept_at_call is_object it at n (inr inside) =
          let low = early in
          let is = a.is in
          let below = a.below in
          let slot = a.slot in
          let place = n.name.place in
          let e : a.first + (j - a.first) ≡ j = omega arith in
          let same =
          same_place script well a.first n.name.first a.source n.name.source a.f it.function
          (j - a.first) it.output a.call n.name.call (omega arith) n.name.below
          (e ∙ sym n.name.place) in
          let here = same.1 in
          let first : n.name.first ≡ a.first = omega arith in
          let fewer = kept_before script a.first (suc (other_names script a.f)) (j - a.first)
          (omega arith)
          (ap (is_kept_at script) e ∙ how_kept script j is_object (Some it) at) in
          let size : kept_slot script n.name.first it.output
          ≡ kept_slot script a.first (j - a.first) =
          (λ i. kept_slot script (first i) (sym here i)) in
          omega arith

      same_call : (input f o : ℕ) → get_or (wanted script) j None ≡ Some (made.Do input f o)
          → (n : HasCall script well j input f o) → a.first ≤ j → ⊥
      same_call input f o at n inside =
          let low = early in
          let is = a.is in
          let below = a.below in
          let e : a.first + (j - a.first) ≡ j = omega arith in
          let none = a.earlier (j - a.first) (omega arith) in
          let some = ap (emitted_at script) e ∙ how_emitted script j input f o at in
          (let h : false ≡ true = sym none ∙ some in cc)

      overlap : (input f o : ℕ) → (n : HasCall script well j input f o) → j < a.first
          → a.first < n.first + suc (other_names script f) → ⊥
      overlap input f o n before inside =
          let place = n.place in
          let e : a.first + 0 ≡ n.first + (a.first - n.first) = omega arith in
          let same = same_place script well a.first n.first a.source input a.f f 0
          (a.first - n.first) a.call n.call (omega arith) (omega arith) e in
          let here = same.1 in
          omega arith

      call_at_call : (input f o : ℕ) → get_or (wanted script) j None ≡ Some (made.Do input f o)
          → (n : HasCall script well j input f o)
          → (a.first < n.first + suc (other_names script f))
          ⊎ (n.first + suc (other_names script f) ≤ a.first)
          → (j < a.first) ⊎ (a.first ≤ j) → call_slot script n.first f < t
      call_at_call input f o at n (inr behind) where_ =
          let few = n.name.low in let slot = a.slot in omega arith
      call_at_call input f o at n (inl inside) (inl before) =
          absurd (overlap input f o n before inside)
      call_at_call input f o at n (inl inside) (inr behind) =
          absurd (same_call input f o at n behind)

    -- ---- behind any

    pub alone_early : (how : Made) → emitted_as how ≡ None
        → get_or (wanted script) j None ≡ Some how → j < t
    alone_early how none at = by (slot_of script well t number mk found)
      where
        by : IsSlot script well t number mk → j < t
        by (inl a) = let low = early in let same = a.place in omega arith
        by (inr (inl a)) = absurd (no_reads a)
        by (inr (inr a)) = alone_at_call a how none at (either j a.first)

    pub kept_early : (is_object : Bool) (it : Emitted)
        → get_or (wanted script) j None ≡ Some (made.Saved is_object (Some it))
        → (n : HasKept script well j is_object it) → kept_slot script n.name.first it.output < t
    kept_early is_object it at n = by (slot_of script well t number mk found)
      where
        by : IsSlot script well t number mk → kept_slot script n.name.first it.output < t
        by (inl a) =
            let low = early in
            let same = a.place in
            let few = few_kept script n.name.first it.output in
            let place = n.name.place in
            omega arith
        by (inr (inl a)) = absurd (no_reads a)
        by (inr (inr a)) = kept_at_call a is_object it at n (either j a.first)

    pub call_early : (input f o : ℕ) → get_or (wanted script) j None ≡ Some (made.Do input f o)
        → (n : HasCall script well j input f o) → call_slot script n.first f < t
    call_early input f o at n = by (slot_of script well t number mk found)
      where
        by : IsSlot script well t number mk → call_slot script n.first f < t
        by (inl a) =
            call_at_alone input f o a n (either t (n.first + suc (other_names script f)))
        by (inr (inl a)) = absurd (no_reads a)
        by (inr (inr a)) =
            call_at_call a input f o at n
            (either a.first (n.first + suc (other_names script f))) (either j a.first)
