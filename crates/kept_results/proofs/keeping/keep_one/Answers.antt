use Rattle.std.proofs.Common.{List, if◌then◌else◌, ◌∙◌}
use Rattle.std.specs.Option.{option_map}
use Rattle.std.specs.Prelude.{is_ok}
use Rattle.cache_store.specs.Entries.{with_cache_entry}
use Rattle.cache_store.specs.declared.entry.CacheEntry.{CacheEntry}
use Rattle.kept_results.proofs.keeping.keep_one.Goals as goal

pub returns-clause-entries : goal.returns-clause-entries
returns-clause-entries g c =
    let before = (g.C.Cache.seen c.args.cache.now).entries in
    c.keep.ensures.entries
    ∙ (λ i. if is_ok c.keep.result
    then option_map (λ (entries : List CacheEntry).
    with_cache_entry entries (c.as_bytes.ensures i) (c.as_bytes-2.ensures i)) before
    else before)
