-- A host in memory, and what it notes of the places that it is asked for.
use Rattle.std.specs.Prelude.{ℕ, ◌+◌, ltb, List, ◌∷◌, ◌++◌, [], length, Bool, true, ◌&&◌, if◌then◌else◌}
use Rattle.outside.specs.Accounts.{Account}
use Rattle.outside.specs.Cause.{raised}
use Rattle.outside.specs.Notes.{Notes, no_notes}
use Rattle.outside.specs.declared.host.At.{At}

-- one place more, let through or not
abbrev pub noted : Notes → At → Bool → Notes
noted notes at through =
    if through then record { passed = notes.passed ++ at ∷ []; downs = notes.downs }
    else record { passed = notes.passed; downs = notes.downs ++ at ∷ [] }

-- a host in memory: where it is down, what it has noted, for how many notes it was made, whether it
-- still tells, and how often it was down
pub record HostInMemory : Type 0 where
  pub down_at : List At
  pub notes : Notes
  pub room : ℕ
  pub tells : Bool
  pub losses : ℕ

-- a host that was asked for nothing yet
abbrev pub new_host : List At → ℕ → HostInMemory
new_host down_at room =
    record { down_at = down_at; notes = no_notes; room = room; tells = true; losses = 0 }

-- its account: what it has noted, while it tells
abbrev pub account_of : HostInMemory → Account
account_of host = record {
  losses = host.losses;
  tells = host.tells;
  passed = host.notes.passed;
  downs = host.notes.downs;
}

-- one note more fits
abbrev pub has_note_room : HostInMemory → Bool
has_note_room host = ltb (length host.notes.passed + length host.notes.downs) host.room

-- the host once it was asked for a place, and let it through or was down: a loss is counted, and
-- the place is noted where it tells and a note fits; else it tells no more
abbrev pub asked : HostInMemory → At → Bool → HostInMemory
asked host at through = record {
  down_at = host.down_at;
  notes = if host.tells && has_note_room host then noted host.notes at through else host.notes;
  room = host.room;
  tells = host.tells && has_note_room host;
  losses = if through then host.losses else raised host.losses;
}
