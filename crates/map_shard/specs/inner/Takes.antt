-- What channels take of input channel m, and where each of its lists is taken last.
use Rattle.std.specs.Prelude.{◌≡◌, ℕ, ◌==◌, ◌+◌, ◌&&◌, Bool, false, List, Some, drop, slice_get}
use Rattle.std.specs.List.{flat_map, list_any}
use Rattle.exec_plan.specs.declared.plan.Take.{Take}
use Rattle.exec_plan.specs.declared.plan.OutChannel.{OutChannel}
use Rattle.map_shard.specs.declared.takes.Takes.{Takes}
use Rattle.map_shard.specs.inner.Sending.{takes_of}

-- whether a take is of that list of input channel m
abbrev pub is_of : ℕ → ℕ → Take → Bool
is_of m number k = (k.channel == m) && (k.out == number)

-- behind the place at the number of a list the list is not taken
abbrev pub AreLast : ℕ → List Take → List ℕ → Type 0
AreLast m takes last = (number k : ℕ) → slice_get last number ≡ Some k
    → list_any (is_of m number) (drop (k + 1) takes) ≡ false

pub record AreTakes (m : ℕ) (channels : List OutChannel) (takes : Takes) : Type 0 where
  pub all : takes.all.items ≡ flat_map takes_of channels
  pub last : AreLast m takes.all.items takes.last.items
