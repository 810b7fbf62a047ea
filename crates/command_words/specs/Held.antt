-- What words ask for, as it is borrowed.
use Rattle.command_words.specs.Cached.{CachedRun}
use Rattle.command_words.specs.Words.{Asked}
use Rattle.command_words.specs.declared.cached.CachedRun.{CachedRun as HeldRun}
use Rattle.command_words.specs.declared.words.Asked.{Asked as HeldAsked}

abbrev pub asked_in : HeldAsked → Asked
asked_in held = record { command = held.command; script = held.script.now }

abbrev pub cached_in : HeldRun → CachedRun
cached_in held = record { settings = held.settings; script = held.script.now }
