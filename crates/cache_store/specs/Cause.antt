-- Why a look for an entry was refused.
use Rattle.std.specs.Prelude.{ℕ, ◌≤◌, Result, IsErrOf}
use Rattle.outside.specs.Cause.{Rose}
use Rattle.cache_store.specs.declared.cache.FindFault.{FindFault}
use Rattle.cache_store.specs.declared.cache.FindFault.TheVariants.{Failed}

-- a look for an entry: the count doesn't fall, and Failed was counted; want of memory is no failure
-- of the cache
pub record HasFindCause {T : Type 0} (before now : ℕ) (result : Result T FindFault) : Type 0 where
  pub later : before ≤ now
  pub failed : IsErrOf result Failed → Rose before now
