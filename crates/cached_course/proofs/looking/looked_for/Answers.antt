use Rattle.std.proofs.Common.{◌≡◌, ◌<◌, ◌∙◌, ℕ, List, length, subst, sym}
use Rattle.std.specs.Prelude.{All}
use Rattle.std.proofs.lemmas.Result.{IfOk-weaker}
use Rattle.run_course.proofs.RunLemmas.{as_many}
use Rattle.kept_results.specs.Keyed.{keyed_nodes}
use Rattle.cached_course.specs.inner.Course.{WasLookedUp}
use Rattle.cached_course.proofs.AskedLemmas.{keyed_below}
use Rattle.cached_course.proofs.looking.looked_for.Goals as goal

pub find_each-requires : goal.find_each-requires
find_each-requires g c =
    let script = c.args.program.now.script in
    subst
    (λ (l : List (ℕ × List ℕ)). All (λ (it : ℕ × List ℕ). it.0 < length script.nodes) l)
    (sym (c.as_slice-asked.ensures.value ∙ c.in_ok-keyed.ensures))
    (keyed_below script c.args.outlines.now c.args.texts.now c.args.files.now)

pub gone_on-it-requires : goal.gone_on-it-requires
gone_on-it-requires g c = as_many _ _ _ c.in_ok-looked.ensures.kept

pub returns-clause-seen : goal.returns-clause-seen
returns-clause-seen g c =
    let were : c.as_slice-asked.result.now ≡ keyed_nodes c.args.outlines.now c.args.texts.now
    c.args.files.now c.args.program.now.script
    = c.as_slice-asked.ensures.value ∙ c.in_ok-keyed.ensures in
    IfOk-weaker c.gone_on-it.result _ _
    (λ it goes.
    subst
    (λ (l : List (ℕ × List ℕ)). WasLookedUp c.args.program.now.script l
    (g.C.Cache.seen c.args.cache.now) (g.C.Cache.seen c.find_each.new.cache) it)
    were
    (record {
      looked = c.in_ok-looked.looked.items;
      was = record {
        kept = c.in_ok-looked.ensures.kept;
        found = c.in_ok-looked.ensures.found;
        finds = c.in_ok-looked.ensures.finds;
        failed = c.in_ok-looked.ensures.failed;
      };
      goes = goes;
    }))
    c.gone_on-it.ensures
