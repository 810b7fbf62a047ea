use Rattle.std.proofs.Common.{◌≡◌, ◌++◌, List, [], append-nil, ap, sym, ◌∙◌}
use Rattle.std.specs.Option.{option_copied}
use Rattle.flume_value.specs.declared.value.Value.{Value}
use Rattle.direct_meaning.specs.inner.Kept.{kept_in, members_of}
use Rattle.direct_meaning.proofs.flatten.append_members.Goals as goal

nothing_more : (xs ys : List Value) → ys ≡ [] → xs ≡ xs ++ ys
nothing_more xs ys none = sym (ap (λ l. xs ++ l) none ∙ append-nil xs)

pub returns-in-None : goal.returns-in-None
returns-in-None c =
    nothing_more c.args.all.now.items (members_of (kept_in c.args.table.now c.args.source))
    (ap members_of (sym c.find.ensures ∙ ap option_copied c.in-None.is))
