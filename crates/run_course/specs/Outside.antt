-- The outside of a call, at one moment.
use Rattle.std.specs.Prelude.{◌≡◌, ◌≤◌, List}
use Rattle.std.specs.List.{AllZip}
use Rattle.outside.specs.Accounts.{Account}
use Rattle.crew.specs.Hosts.{Grew}
use Rattle.outside.specs.Seen.{SeenScreen, SeenShelf, SeenSource}

-- how its four parts stand
pub record Outside : Type 0 where
  pub source : SeenSource
  pub shelf : SeenShelf
  pub screen : SeenScreen
  pub hosts : List Account

abbrev pub world : SeenSource → SeenShelf → SeenScreen → List Account → Outside
world source shelf screen hosts =
    record { source = source; shelf = shelf; screen = screen; hosts = hosts }

-- What is so after every call: the source tells the files that it told, no count of failures fell,
-- and what hosts tell only grew.
pub record Keeps (before after : Outside) : Type 0 where
  pub told : after.source.files ≡ before.source.files
  pub source : before.source.faults ≤ after.source.faults
  pub shelf : before.shelf.faults ≤ after.shelf.faults
  pub screen : before.screen.faults ≤ after.screen.faults
  pub hosts : AllZip Grew before.hosts after.hosts
