use Rattle.std.proofs.Common.{◌≡◌, ◌-◌, ◌<◌, ◌∙◌, length, arith}
use Rattle.graph_build.specs.Calls.{first_emitted, numbers_kept_from}
use Rattle.graph_build.proofs.BuiltLemmas.{at_first, at_neither, at_second}
use Rattle.graph_build.proofs.built.named.Goals as goal

pub returns-then-place-count : goal.returns-then-place-count
returns-then-place-count c =
    let script = c.args.program.now.script in
    let more = c.args.end - c.args.first in
    let names = numbers_kept_from script c.args.first more in
    let below : c.args.place < length names = omega (arith, c.requires) in
    c.nth_kept.ensures
    ∙ at_first names (first_emitted script c.args.first more) c.args.place below

pub returns-then-place-count-2 : goal.returns-then-place-count-2
returns-then-place-count-2 c =
    let script = c.args.program.now.script in
    let more = c.args.end - c.args.first in
    let names = numbers_kept_from script c.args.first more in
    let same : c.args.place ≡ length names = omega (arith, c.requires) in
    c.first_called.ensures
    ∙ at_second names (first_emitted script c.args.first more) c.args.place same

pub returns-else-place-count-2 : goal.returns-else-place-count-2
returns-else-place-count-2 c =
    let script = c.args.program.now.script in
    let more = c.args.end - c.args.first in
    let names = numbers_kept_from script c.args.first more in
    let past : length names < c.args.place = omega (arith, c.requires) in
    at_neither script c.args.first more names c.args.place past
