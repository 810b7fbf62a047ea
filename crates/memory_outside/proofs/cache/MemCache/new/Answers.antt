use Rattle.std.proofs.Common.{◌≡◌, ◌+◌, ◌≤◌, ◌∙◌, ap, arith, length, map, vec_len}
use Rattle.memory_outside.specs.inner.Entries.{as_entry, entries_of}
use Rattle.memory_outside.proofs.SlotEntries.{made_count, made_entries}
use Rattle.memory_outside.proofs.cache.MemCache.new.Goals as goal

pub returns : goal.returns
returns c =
    let slots = c.in_ok-slots.slots in
    let spare = c.in_ok-spare.spare in
    let files = c.in_ok-files.files.items in
    let are : map as_entry files ≡ c.args.entries = c.in_ok-files.ensures ∙ c.into_vec.ensures in
    let is : entries_of slots.items ≡ c.args.entries =
    made_entries slots.items files c.args.entries are
    (c.in_ok-slots.ensures.files ∙ c.deref.ensures.value) in
    let same = ap length c.deref.ensures.value in
    let few : length files ≤ c.args.max_entries =
    omega (arith, made_count slots.items files c.args.entries are, c.requires.few) in
    let many : vec_len slots + vec_len spare ≡ c.args.max_entries =
    omega (arith, same, few, c.len.ensures, c.in_ok-slots.ensures.len, c.in_ok-spare.ensures.len) in
    λ i. record {
      entries = is i;
      max_entries = many i;
      max_bytes = c.args.max_bytes;
      fails = c.args.fails;
      calls = 0;
      faults = 0;
    }
