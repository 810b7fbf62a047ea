-- A pair of a Flatten behind that of another is not the lesser of the two.
use Rattle.std.proofs.Common.{◌≡◌, ℕ, ◌<◌, true, false, Option, Some, None, refl, arith}
use Rattle.std.proofs.lemmas.Bool.{false≢true, le-ltb, ltb-true}
use Rattle.exec_graph.specs.declared.graph.Node.{Node}
use Rattle.exec_graph.specs.declared.graph.Node.TheVariants.{Flatten}
use Rattle.sink_laws.specs.Chain.{call_of, is_before, lesser_pair}
use Rattle.sink_laws.specs.declared.pair.Pair.{Pair}
use Rattle.sink_laws.proofs.Rerouting.{unlike}
use Rattle.flatten_sink.specs.inner.Turns.{is_behind}

not_before : (a : Pair) (n p : ℕ) → a.flatten < n
    → is_before (record { flatten = n; other = p }) a ≡ false
not_before a n p h =
    let later = le-ltb n a.flatten (omega arith) in
    let other = unlike n a.flatten (λ e. omega arith) in rw (later, other) refl

pub stays : (o : Option Pair) (n p : ℕ) (x : Option Node) → is_behind n o ≡ true
    → lesser_pair o (call_of n p x) ≡ o
stays None n p x h = absurd (false≢true h)
stays (Some a) n p (Some (Flatten ins)) h = rw (not_before a n p (ltb-true a.flatten n h)) refl
stays (Some a) n p _ h = refl
