use Rattle.std.proofs.Common.{◌≡◌, ◌∙◌, ◌+◌, ◌<◌, ◌≤◌, ◌++◌, ◌∷◌, [], ℕ, List, Option, length, slice_get, ap, arith, drop, subst, sym}
use Rattle.std.proofs.Common.{length-append}
use Rattle.script_program.specs.Script.{Node}
use Rattle.written_types.specs.Named.{Named}
use Rattle.run_sizes.specs.inner.Along.{sized_as, sizes_along}
use Rattle.run_sizes.proofs.Stepping.{few_behind, made_there, none_left, on_passed, on_taken}
use Rattle.run_sizes.proofs.sizes.sizes_by_number.Goals as goal
use Rattle.run_sizes.proofs.sizes.sizes_by_number.Goals.{then-is_needed, else-is_needed}

one_longer : (sizes more : List (Option ℕ)) (size : Option ℕ) (n : ℕ) → length sizes ≡ n
    → more ≡ sizes ++ size ∷ [] → length more ≡ n + 1
one_longer sizes more size n count is =
    ap length is ∙ omega (arith, count, length-append sizes (size ∷ []))

pub loop-number-preserved : goal.loop-number-preserved
loop-number-preserved c =
    let script = c.args.program.now.script in
    let members = c.args.members.now in
    let numbers = c.args.numbers.now in
    let counts = c.args.counts.now in
    let sized = sized_as members numbers counts in
    let along = sizes_along script members numbers counts in
    let n = c.loop-number.number in
    let sizes = c.loop-number.sizes.items in
    let here = c.loop-number.invariant in
    let count = one_longer sizes c.push.new.self.items c.if-is_needed.size n here.count
    c.in_ok-push.ensures.items in
    elim c.if-is_needed.branch [
      | then-is_needed w ↦
          let mk = w.node.result.now.made in
          let size = w.size_of-size.result in
          let is : size ≡ sized n mk c.loop-number.source sizes
          = w.size_of-size.ensures
          ∙ ap (sized n mk c.loop-number.source)
          w.as_slice.ensures.value in
          record {
            count = count;
            sources = subst (λ k. k ≤ n + 1) (sym (w.source-is ∙ w.behind-source.ensures))
                (few_behind mk c.loop-number.source n here.sources);
            ahead =
                (λ i. along (drop (n + 1) script.nodes)
                ((w.source-is ∙ w.behind-source.ensures) i)
                ((c.in_ok-push.ensures.items ∙ (λ j. sizes ++ w.size-is j ∷ [])) i))
                ∙ on_taken script members numbers counts script.nodes n c.loop-number.source sizes
                mk size _
                (made_there (slice_get script.nodes n) _ w.node.ensures.is) here.count
                (sym c.is_needed.ensures ∙ w.if-is_needed.true) is here.ahead;
          }
      | else-is_needed w ↦
          let below : n < length script.nodes = omega arith in
          record {
            count = count;
            sources = subst (λ k. k ≤ n + 1) (sym w.source-is) (omega (arith, here.sources));
            ahead =
                (λ i. along (drop (n + 1) script.nodes)
                (w.source-is i)
                ((c.in_ok-push.ensures.items ∙ (λ j. sizes ++ w.size-is j ∷ [])) i))
                ∙ on_passed script members numbers counts script.nodes n c.loop-number.source sizes
                _ below here.count (sym c.is_needed.ensures ∙ w.if-is_needed.false) here.ahead;
          }
    ]

pub returns-clause-along : goal.returns-clause-along
returns-clause-along c =
    let script = c.args.program.now.script in
    let nodes = script.nodes in
    let sizes = c.loop-number.sizes.items in
    let end : c.loop-number.number ≡ length nodes = omega arith in
    sym (ap (λ (l : Named Node). sizes_along script c.args.members.now c.args.numbers.now
    c.args.counts.now l c.loop-number.source sizes) (none_left nodes c.loop-number.number end))
    ∙ c.loop-number.invariant.ahead
