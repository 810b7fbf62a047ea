-- What a host tells and counts, and what it has gained since.
use Rattle.std.specs.Prelude.{◌≡◌, ℕ, ◌≤◌, Bool, true, false, List, [], ◌++◌}
use Rattle.outside.specs.declared.host.At.{At}

-- How often a host was down, whether it tells more, and what it has let through and what it has
-- refused, each in the order of the calls. The count of losses never falls.
pub record Account : Type 0 where
  pub losses : ℕ
  pub tells : Bool
  pub passed : List At
  pub downs : List At

-- a host that is never down, and tells nothing
abbrev pub calm : Account
calm = record { losses = 0; tells = false; passed = []; downs = [] }

-- The host's losses did not fall. Where it tells it told before, and has let just these through
-- since, and refused just those, in order.
pub record Gains (a b : Account) (passed downs : List At) : Type 0 where
  pub later : a.losses ≤ b.losses
  pub told : b.tells ≡ true →
      (a.tells ≡ true) × (b.passed ≡ a.passed ++ passed) × (b.downs ≡ a.downs ++ downs)
